use mathlib.Core.Path.{◌≡◌, ◌∙◌}
use Rattle.sub_key_list.specs.Leaves.{leaf_of}
use Rattle.sub_key_walk.specs.Leaf.{read_of}
use Rattle.sub_key_walk.specs.declared.LeafRead.{LeafRead}
use Rattle.sub_key_walk.proofs.Walks.{leaf_small}
use Rattle.sub_key_walk.proofs.read_leaf.Goals.{then-n-le-FEW, else-n-le-FEW}
use Prim.Native.Nat.{◌+◌, ◌-◌}
use native.Mathlib.Omega.{arith}
use lib.ListN.{length}
use Rattle.sub_key_list.specs.Leaves.{leaf_kept, leaf_dropped}
use Rattle.sub_key_list.proofs.Leaves.{leaf_all}
use Rattle.sub_key_walk.proofs.Traces.{leaf_stands}
use Rattle.sub_key_walk.proofs.Entries.{standing_entries}
use borrow.Author.Rules.{rules}
use Rattle.sub_key_walk.proofs.read_leaf.Goals as goal

pub overflow_add-position : goal.overflow_add-position
overflow_add-position c =
    let a = c.args in
    let h = (leaf_stands a.image.now a.position _ _ _ c.requires).header in
    search rules

pub dropped_wide-dropped-requires : goal.dropped_wide-dropped-requires
dropped_wide-dropped-requires c =
    let a = c.args in
    let x = leaf_stands a.image.now a.position _ _ _ c.requires in
    record { there = standing_entries x; sized = x.other_size; few = omega arith }

pub overflow_sub-result : goal.overflow_sub-result
overflow_sub-result c =
    let a = c.args in
    let d = c.if-n-le-FEW in
    let e : d.dropped ≡ leaf_dropped a.image.now a.base a.leaf.entry_size a.leaf.count (a.position + 8) =
    elim d.branch [ then-n-le-FEW w ↦ w.dropped-is ∙ w.dropped_few-dropped.ensures | else-n-le-FEW w ↦ w.dropped-is ∙ w.dropped_wide-dropped.ensures ] in
    let w = leaf_all a.image.now a.base a.leaf.entry_size a.leaf.count (a.position + 8) in
    search rules

pub returns : goal.returns
returns c =
    let a = c.args in
    let d = c.if-n-le-FEW in
    let e : d.dropped ≡ leaf_dropped a.image.now a.base a.leaf.entry_size a.leaf.count (a.position + 8) =
    elim d.branch [ then-n-le-FEW w ↦ w.dropped-is ∙ w.dropped_few-dropped.ensures | else-n-le-FEW w ↦ w.dropped-is ∙ w.dropped_wide-dropped.ensures ] in
    let w = leaf_all a.image.now a.base a.leaf.entry_size a.leaf.count (a.position + 8) in
    let k : a.leaf.count - d.dropped ≡ length (leaf_kept a.image.now a.base a.leaf.entry_size a.leaf.count (a.position + 8)) = omega arith in
    let r : ◌≡◌ {A = LeafRead} (record { kept = a.leaf.count - d.dropped; entries = a.leaf.count; dropped = d.dropped }) (read_of (leaf_of a.image.now a.base a.position a.leaf.entry_size a.leaf.count)) = λ i. record { kept = k i; entries = a.leaf.count; dropped = e i } in
    record { counted = r; few = leaf_small a.image.now a.base _ _ _ (omega arith) r }
