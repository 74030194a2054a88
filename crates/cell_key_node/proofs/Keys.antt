-- Laws of a key record that was read: it has the position and the base with which it was read, and whether it reads does not depend on the
-- base. Assumes nothing.
use mathlib.Core.Path.{◌≡◌, ap, sym, ◌∙◌}
use mathlib.Core.List.{List}
use Prim.Native.Nat.{ℕ}
use native.Mathlib.Decide.{ℕ_discrete}
use lib.ListN.{drop}
use Rattle.words.specs.Paper.{success}
use Rattle.words.proofs.Papers.{success-refused, same-success, checked_good, checked-bad}
use Rattle.cell_key_node.specs.Key.{key_fault, key_of, key_at}
use Rattle.cell_key_node.specs.declared.KeyNode.{KeyNode}

module _ (image : List ℕ) (p base : ℕ) where
  -- a record that reads fails no check, and it is the one of the cell
  pub key_read : {k : KeyNode} → key_at image p base ≡ success k → (key_fault image p ≡ 0) × (k ≡ key_of p base (drop p image))
  unfolding key_at
  key_read {k} e = go (ℕ_discrete (key_fault image p) 0)
    where
      go : Dec (key_fault image p ≡ 0) → (key_fault image p ≡ 0) × (k ≡ key_of p base (drop p image))
      go (yes z) = (z, same-success (sym e ∙ checked_good (key_fault image p) p (key_of p base (drop p image)) z))
      go (no z) = absurd (success-refused (sym e ∙ checked-bad (key_fault image p) p (key_of p base (drop p image)) z))

  pub key_stands : {k : KeyNode} → key_at image p base ≡ success k → (k.position ≡ p) × (k.base ≡ base)
  unfolding key_of
  key_stands e =
      let q = (key_read e).1 in
      (ap (λ (x : KeyNode). x.position) q, ap (λ (x : KeyNode). x.base) q)

  pub any_base : {k : KeyNode} → key_at image p base ≡ success k → (other : ℕ) → key_at image p other ≡ success (key_of p other (drop p image))
  unfolding key_at
  any_base e other = checked_good (key_fault image p) p (key_of p other (drop p image)) (key_read e).0
