use Prim.Native.Nat.{◌+◌, ℕ}
use mathlib.Core.Path.{◌≡◌, refl, ap, sym}
use mathlib.Core.List.{List}
use native.Mathlib.Omega.{arith}
use borrow.Author.Rules.{rules}
use Rattle.words.specs.Paper.{refused}
use Rattle.words.specs.declared.Refusal.{Refusal}
use Rattle.words.proofs.Papers.{handed_on}
use Rattle.sub_key_list.specs.Lists.{list_paper}
use Rattle.sub_key_list.specs.declared.SubKeyList.{SubKeyList}
use Rattle.sub_key_list.proofs.Papers.{read_as}
use Rattle.sub_key_walk.specs.Walk.{reading_by, Bounded}
use Rattle.sub_key_walk.specs.declared.Counts.{Counts}
use Rattle.sub_key_walk.specs.declared.Profile.{Profile}
use Rattle.sub_key_walk.proofs.Profiles.{reading_read}
use Rattle.sub_key_walk.proofs.Traces.{entry_of_index}
use Rattle.sub_key_walk.proofs.Walks.{indexing_start, indexing_step, walk_deep, walk_spent, Reached, walk_bad, reached_small, walk_leaf, index_bounded, walk_index, walk_index_refused}
use Rattle.sub_key_walk.proofs.+measure.Goals as goal
use Rattle.std.specs.Prelude.{Ok}
use Rattle.std.specs.declared.result.Result.{Result}

-- what is known once the list is read, at what the code then finds there
reached : (profile : Profile) (s : List ℕ) (base offset : ℕ) {levels budget : ℕ} {st : Counts} {g : (Result SubKeyList Refusal)} → (levels ≡ 0 → ⊥) → (st.lists ≡ budget → ⊥)
    → Bounded budget st → list_paper g ≡ reading_by profile s levels (offset + base) → Reached (reading_by profile s) budget st levels s base offset g
reached profile s base offset a b c d = record { deeper = a; unspent = b; few = c; is = sym d }

pub returns-then-levels-eq0 : goal.returns-then-levels-eq0
returns-then-levels-eq0 t c =
    let a = c.args in
    walk_deep (reading_by a.profile a.image.now) a.budget a.so_far a.levels a.image.now a.base a.offset (cc) c.if-levels-eq0.true

pub returns-then-so_far-budget : goal.returns-then-so_far-budget
returns-then-so_far-budget t c =
    let a = c.args in
    walk_spent (reading_by a.profile a.image.now) a.budget a.so_far a.levels a.image.now a.base a.offset (cc) (search rules) c.if-so_far-budget.true

pub read_leaf-requires : goal.read_leaf-requires
read_leaf-requires t c =
    let a = c.args in
    reading_read a.profile a.image.now a.levels _ (sym (read_as c.in-Ok-Leaf.field-0-is c.in-Ok-Leaf.ensures))

pub with_leaf-requires : goal.with_leaf-requires
with_leaf-requires t c =
    (reached_small c.if-so_far-budget.false c.requires.1 c.requires.0, c.read_leaf.ensures.few)

pub returns-in-Err : goal.returns-in-Err
returns-in-Err t c =
    let a = c.args in
    walk_bad (reached a.profile a.image.now a.base a.offset c.if-levels-eq0.false c.if-so_far-budget.false c.requires.1 c.in-Err.ensures) (ap refused c.refusal-in-Err.ensures)

pub returns-in-Ok-Leaf : goal.returns-in-Ok-Leaf
returns-in-Ok-Leaf t c =
    let a = c.args in
    let x = reached a.profile a.image.now a.base a.offset c.if-levels-eq0.false c.if-so_far-budget.false c.requires.1 (read_as c.in-Ok-Leaf.field-0-is c.in-Ok-Leaf.ensures) in
    walk_leaf x c.read_leaf.ensures.few c.read_leaf.ensures.counted (ap Ok c.with_leaf.ensures)

pub loop-i-init : goal.loop-i-init
loop-i-init t c =
    let a = c.args in
    let x = reached a.profile a.image.now a.base a.offset c.if-levels-eq0.false c.if-so_far-budget.false c.requires.1 (read_as c.in-Ok-Index.field-0-is c.in-Ok-Index.ensures) in
    indexing_start _ _ _ _ _ _ (index_bounded x c.with_index-sum.ensures) _ (omega arith)

pub word-next-requires : goal.word-next-requires
word-next-requires t c =
    let a = c.args in
    entry_of_index a.image.now _ _ _ _ (reading_read a.profile a.image.now a.levels _ (sym (read_as c.in-Ok-Index.field-0-is c.in-Ok-Index.ensures))) c.loop-i-test.true c.loop-i.invariant.near

pub measure-requires : goal.measure-requires
measure-requires t c = (omega (arith, c.if-levels-eq0.false), (c.requires.0, c.loop-i.invariant.few))

pub returns-in_err-sum-in-Ok-Index : goal.returns-in_err-sum-in-Ok-Index
returns-in_err-sum-in-Ok-Index t c =
    let a = c.args in
    let x = reached a.profile a.image.now a.base a.offset c.if-levels-eq0.false c.if-so_far-budget.false c.requires.1 (read_as c.in-Ok-Index.field-0-is c.in-Ok-Index.ensures) in
    walk_index_refused x c.with_index-sum.ensures c.loop-i.invariant c.loop-i-test.true c.word-next.ensures c.in_err-sum-in-Ok-Index.ensures (handed_on _ c.from_residual.ensures)

pub loop-i-preserved : goal.loop-i-preserved
loop-i-preserved t c =
    indexing_step _ _ _ _ _ _ _ _ _ c.loop-i.invariant c.loop-i-test.true _ c.word-next.ensures _ c.in_ok-sum-in-Ok-Index.ensures _ (omega arith)

pub returns-after-loop-i : goal.returns-after-loop-i
returns-after-loop-i t c =
    let a = c.args in
    let x = reached a.profile a.image.now a.base a.offset c.if-levels-eq0.false c.if-so_far-budget.false c.requires.1 (read_as c.in-Ok-Index.field-0-is c.in-Ok-Index.ensures) in
    walk_index x c.with_index-sum.ensures c.loop-i.invariant c.loop-i-test.false refl
