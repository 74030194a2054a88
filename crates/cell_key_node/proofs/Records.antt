-- What a record's answer tells its readers: of a whole record every check has passed, and a refusal is the one of every reading of
-- the record. Assumes nothing.
use mathlib.Core.Path.{◌≡◌, sym, ap, ◌∙◌}
use mathlib.Core.List.{List}
use Prim.{tt}
use Prim.Native.Nat.{ℕ}
use native.Mathlib.Decide.{ℕ_discrete}
use Rattle.words.specs.Paper.{Told, success, refused, checked}
use Rattle.words.proofs.Papers.{success-refused, refused-success, same-told, checked_good, checked-bad}
use Rattle.cell_key_node.specs.Records.{fault_at, record_at}

module _ (image : List ℕ) (position fixed sign name_at : ℕ) where
  abbrev fault : ℕ
  fault = fault_at image position fixed sign name_at

  pub passed : {u : Unit {0}} → success u ≡ record_at image position fixed sign name_at → fault ≡ 0
  unfolding record_at
  passed e = go (ℕ_discrete fault 0)
    where
      go : Dec (fault ≡ 0) → fault ≡ 0
      go (yes z) = z
      go (no z) = absurd (success-refused (e ∙ checked-bad fault position tt z))

  pub failed : {t : Told} → refused t ≡ record_at image position fixed sign name_at → fault ≡ 0 → ⊥
  unfolding record_at
  failed e z = refused-success (e ∙ checked_good fault position tt z)

  -- the refusal is that of any values which the checks stand before
  pub refused_alike : {A : Type 0} (v : A) {t : Told} → refused t ≡ record_at image position fixed sign name_at → refused t ≡ checked fault position v
  unfolding record_at
  refused_alike v e =
      let x = failed e in
      ap refused (same-told (e ∙ checked-bad fault position tt x)) ∙ sym (checked-bad fault position v x)
