-- The code's names for the kinds of list. Assumes nothing.
use mathlib.Core.Path.{◌≡◌, refl, ap, sym, ◌∙◌}
use mathlib.Core.Bool.{Bool, true, false, cond}
use mathlib.Core.List.{List}
use Prim.Native.Nat.{ℕ, ◌-◌, ◌*◌, ◌≤◌, ◌<◌}
use native.Mathlib.Decide.{ℕ_discrete}
use native.Mathlib.Omega.{arith}
use lib.Dec.{eqb, ltb}
use lib.ListN.{length}
use borrow.Author.Tests.{eq-eqb, ne_eqb}
use Rattle.std.proofs.lemmas.Bool.{le-leb, lt-leb}
use Rattle.words.specs.Paper.{Told, Paper, success, refused}
use Rattle.words.proofs.Papers.{refused-success, same-success}
use Rattle.sub_key_list.specs.Lists.{LF, LH, LI, RI, Listed, leaf, index, word_of, entry_size, kind_of, listed_of, of_kind, kind_at, count_at, list_at}
use Rattle.sub_key_list.specs.Strict.{least_minor, permitted, ri_under_ri, barred}
use Rattle.sub_key_list.specs.declared.Kind.{Kind}
use Rattle.sub_key_list.specs.declared.Kind.TheVariants.{Lf, Lh, Li, Ri}
use Rattle.sub_key_list.specs.declared.SubKeyList.{SubKeyList}
use Rattle.sub_key_list.specs.declared.SubKeyList.TheVariants.{Leaf, Index}

-- a word has one name
abbrev named : ℕ → Kind
named w = cond (eqb w LF) Lf (cond (eqb w LH) Lh (cond (eqb w LI) Li Ri))

named_word : (k : Kind) → named (word_of k) ≡ k
named_word Lf = refl
named_word Lh = refl
named_word Li = refl
named_word Ri = refl

pub same_kind : (j k : Kind) → word_of j ≡ word_of k → j ≡ k
same_kind j k e = sym (named_word j) ∙ ap named e ∙ named_word k

-- and an entry of a kind that has one takes bytes
pub entries_take : (k : Kind) → entry_size (word_of k) ≡ 0 → ⊥
unfolding entry_size
entries_take Lf e = absurd (omega (arith, e))
entries_take Lh e = absurd (omega (arith, e))
entries_take Li e = absurd (omega (arith, e))
entries_take Ri e = absurd (omega (arith, e))

-- ---- what is read of a list tells its kind

pub leaf-index : {k z n m : ℕ} → leaf k z n ≡ index m → ⊥
leaf-index e = let z : ◌≡◌ {A = ℕ} 0 1 = cc in absurd (omega arith)

pub same-leaf : {k z n k' z' n' : ℕ} → leaf k z n ≡ leaf k' z' n' → (k ≡ k') × (z ≡ z') × (n ≡ n')
same-leaf e = ((cc), (cc), (cc))

-- ---- whether a list is barred

named_only : (b : Bool) → cond b true false ≡ b
named_only true = refl
named_only false = refl

never : (b : Bool) → cond b false false ≡ false
never true = refl
never false = refl

module _ (minor : ℕ) (named : Bool) (kind : Kind) {least : ℕ} (e : least ≡ least_minor (word_of kind)) where
  pub bars_early : minor < least → true ≡ barred minor named (word_of kind)
  unfolding barred permitted
  bars_early h = rw (← e, lt-leb _ _ h)

  module _ (h : least ≤ minor) where
    pub bars_ri : kind ≡ Ri → named ≡ barred minor named (word_of kind)
    unfolding barred permitted ri_under_ri
    bars_ri r = rw (← e, le-leb _ _ h, ap word_of r) (sym (named_only named))

    pub bars_leaf : (kind ≡ Ri → ⊥) → false ≡ barred minor named (word_of kind)
    unfolding barred permitted ri_under_ri
    bars_leaf n = simp (← e, le-leb _ _ h, ne_eqb _ _ (λ q. n (same_kind kind Ri q))) (sym (never named))

-- ---- the kind of a list that is read is the one that stands there

of_kind_told : (kind count : ℕ) (l : SubKeyList) → of_kind kind count ≡ listed_of l → word_of (kind_of l) ≡ kind
unfolding of_kind
of_kind_told kind count l e = go (ℕ_discrete kind RI) l e
  where
    go : Dec (kind ≡ RI) → (l : SubKeyList) → cond (eqb kind RI) (index count) (leaf kind (entry_size kind) count) ≡ listed_of l → word_of (kind_of l) ≡ kind
    go (yes r) (Index i) e = sym r
    go (yes r) (Leaf b) e = absurd (leaf-index {m = count} (sym e ∙ simp (eq-eqb _ _ r)))
    go (no n) (Index i) e = absurd (leaf-index {k = kind} {z = entry_size kind} {n = count} (sym (simp (ne_eqb _ _ n)) ∙ e))
    go (no n) (Leaf b) e = sym (same-leaf {k = kind} {z = entry_size kind} {n = count} (sym (simp (ne_eqb _ _ n)) ∙ e)).0

-- what a row of conditions ends with, where it is a success
past : (b : Bool) (t : Told) {a : Paper Listed} {l : Listed} → cond b (refused t) a ≡ success l → a ≡ success l
past true t e = absurd (refused-success e)
past false t e = e

pub kind_told : (s : List ℕ) (p : ℕ) (l : SubKeyList) → list_at s p ≡ success (listed_of l) → word_of (kind_of l) ≡ kind_at s p
unfolding list_at
kind_told s p l e =
    of_kind_told (kind_at s p) (count_at s p) l
    (same-success (past (ltb (length s - p - 8) (entry_size (kind_at s p) * count_at s p)) _
    (past (eqb (entry_size (kind_at s p)) 0) _ (past (ltb (length s - p) 8) _ (past (ltb (length s) p) _ e)))))
