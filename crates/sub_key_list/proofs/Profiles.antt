-- The two ways to read one list, side by side; last of the answers themselves (`one_list`). Assumes nothing.
use Prim.{Unit, tt}
use mathlib.Core.Path.{◌≡◌, refl, ap, sym, subst, ◌∙◌}
use mathlib.Core.Logic.{◌⊎◌, inl, inr}
use mathlib.Core.List.{List}
use mathlib.Core.Bool.{Bool, true, false}
use Prim.Native.Nat.{ℕ, ◌+◌, ◌≤◌}
use native.Mathlib.Omega.{arith}
use lib.Dec.{ltb}
use lib.ListN.{length}
use borrow.Author.Tests.{ltb-false, le-ltb, leb-true, le-leb, eqb-true, eq-eqb}
use Rattle.words.specs.Paper.{Told, Paper, success, refused, told, and_then}
use Rattle.words.specs.declared.Refusal.{Refusal}
use Rattle.words.proofs.Papers.{refused-success, same-told}
use Rattle.cell.specs.Cells.{magnitude_at, allocated_at, bytes_left}
use Rattle.sub_key_list.specs.Lists.{LF, LH, LI, RI, Listed, kind_at, list_at, list_paper}
use Rattle.sub_key_list.specs.Strict.{least_minor, permitted, ri_under_ri, barred, own_cell, list_bytes, strict_checks, strict_at}
use Rattle.sub_key_list.specs.Profiles.{Rule, Met, Added, OneList}
use Rattle.sub_key_list.specs.declared.SubKeyList.{SubKeyList}
use Rattle.sub_key_list.proofs.Papers.{paper_injective}
use Rattle.sub_key_list.proofs.Strict.{strict-refused, strict_read}
use Rattle.std.specs.Prelude.{Err}
use Rattle.std.specs.declared.result.Result.{Result}

pub false_true : false ≡ true → ⊥
false_true e = let z : ◌≡◌ {A = ℕ} 0 1 = cc in absurd (omega arith)

-- ---- the permitted kinds

module _ (kind minor : ℕ) where
  permitted_from : permitted kind minor ≡ true → least_minor kind ≤ minor
  unfolding permitted
  permitted_from e = leb-true _ _ e

  from_permitted : least_minor kind ≤ minor → permitted kind minor ≡ true
  unfolding permitted
  from_permitted h = le-leb _ _ h

pub rule : (minor : ℕ) → Rule minor
unfolding least_minor
rule minor = record {
  every = λ kind. (permitted_from kind minor, from_permitted kind minor);
  later = λ kind next h e. from_permitted kind next (let l = permitted_from kind minor e in omega arith);
  lf = (λ e. let l : 3 ≤ minor = permitted_from LF minor e in omega arith, λ h. from_permitted LF minor (omega arith));
  lh = (λ e. let l : 5 ≤ minor = permitted_from LH minor e in omega arith, λ h. from_permitted LH minor (omega arith));
  li = from_permitted LI minor (omega arith);
  ri = from_permitted RI minor (omega arith);
}

-- ---- an `ri` list under an `ri` list, and a cell of its own

under_both : (named : Bool) (kind : ℕ) → ri_under_ri named kind ≡ true → (named ≡ true) × (kind ≡ RI)
unfolding ri_under_ri
under_both true kind e = (refl, eqb-true _ _ e)
under_both false kind e = absurd (false_true e)

both_under : (named : Bool) (kind : ℕ) → named ≡ true → kind ≡ RI → ri_under_ri named kind ≡ true
unfolding ri_under_ri
both_under named kind e k = rw (e, eq-eqb _ _ k)

module _ (s : List ℕ) (p needed : ℕ) where
  -- it is allocated, large enough, and in the image
  record Own : Type 0 where
    allocated : allocated_at s p ≡ true
    large : needed ≤ magnitude_at s p
    left : magnitude_at s p ≤ bytes_left s p

  own_true : own_cell s p needed ≡ true → Own
  unfolding own_cell
  own_true e = go (allocated_at s p) (ltb (magnitude_at s p) needed) (ltb (bytes_left s p) (magnitude_at s p)) refl refl refl
    where
      go : (a b c : Bool) → allocated_at s p ≡ a → ltb (magnitude_at s p) needed ≡ b → ltb (bytes_left s p) (magnitude_at s p) ≡ c → Own
      go false b c x y z = absurd (false_true (rw x at e))
      go true true c x y z = absurd (false_true (rw (x, y) at e))
      go true false true x y z = absurd (false_true (rw (x, y, z) at e))
      go true false false x y z = record { allocated = x; large = ltb-false _ _ y; left = ltb-false _ _ z }

  true_own : allocated_at s p ≡ true → needed ≤ magnitude_at s p → p + magnitude_at s p ≤ length s → own_cell s p needed ≡ true
  unfolding own_cell
  true_own x y z = rw (x, le-ltb (magnitude_at s p) needed y, le-ltb (bytes_left s p) (magnitude_at s p) (omega arith))

-- ---- what the strict profile asks

module _ (s : List ℕ) (minor : ℕ) (named : Bool) (p : ℕ) where
  -- all of it is met, or one of its refusals is given
  pub data Asked : Type 0 where
    all_met : Met s minor named p → strict_checks s minor named p ≡ success tt → Asked
    is_added : {t : Told} → Added p t → strict_checks s minor named p ≡ refused t → (Met s minor named p → ⊥) → Asked

  asked : Asked
  unfolding strict_checks barred
  asked = go (permitted (kind_at s p) minor) (ri_under_ri named (kind_at s p)) (own_cell s p (list_bytes s p)) refl refl refl
    where
      go : (a b c : Bool) → permitted (kind_at s p) minor ≡ a → ri_under_ri named (kind_at s p) ≡ b → own_cell s p (list_bytes s p) ≡ c → Asked
      go false b c x y z = is_added (inl refl) (rw x) (λ m. false_true (sym x ∙ from_permitted (kind_at s p) minor m.permitted))
      go true true c x y z = is_added (inl refl) (rw (x, y)) (λ m. let u = under_both named (kind_at s p) y in m.top u.0 u.1)
      go true false false x y z = is_added (inr refl) (rw (x, y, z)) (λ m. false_true (sym z ∙ true_own s p (list_bytes s p) m.allocated m.large m.inside))
      go true false true x y z =
          let o = own_true s p (list_bytes s p) z in
          let l = o.large in
          let f = o.left in
          all_met
          (record {
            permitted = permitted_from (kind_at s p) minor x;
            top = λ n k. false_true (sym y ∙ both_under named (kind_at s p) n k);
            allocated = o.allocated;
            large = l;
            inside = omega arith;
          })
          (rw (x, y, z))

  -- ---- the two readings

  -- strict reads as the ordinary reading does, or adds a refusal of a list that can be read
  pub data Either : Type 0 where
    alike : strict_at s minor named p ≡ list_at s p → Either
    added : {t : Told} → Added p t → strict_at s minor named p ≡ refused t → Either

  pub either : Either
  unfolding and_then
  either = go (list_at s p) refl asked
    where
      go : (a : Paper Listed) → list_at s p ≡ a → Asked → Either
      go (refused t) e k = alike (strict-refused s minor named p e ∙ sym e)
      go (success l) e (all_met m q) = alike (strict_read s minor named p e ∙ ap (λ (v : Paper (Unit {0})). and_then v (success l)) q ∙ sym e)
      go (success l) e (is_added d q n) = added d (strict_read s minor named p e ∙ ap (λ (v : Paper (Unit {0})). and_then v (success l)) q)

  -- what strict accepts, the ordinary reading gives, and all is met; and the other way round
  pub accepted : (l : Listed) → strict_at s minor named p ≡ success l → (list_at s p ≡ success l) × Met s minor named p
  unfolding and_then
  accepted l e = go (list_at s p) refl asked
    where
      go : (a : Paper Listed) → list_at s p ≡ a → Asked → (list_at s p ≡ success l) × Met s minor named p
      go (refused t) q k = absurd (refused-success (sym (strict-refused s minor named p q) ∙ e))
      go (success m) q (all_met w c) = (q ∙ sym (strict_read s minor named p q ∙ ap (λ (v : Paper (Unit {0})). and_then v (success m)) c) ∙ e, w)
      go (success m) q (is_added d c n) =
          absurd (refused-success (sym (strict_read s minor named p q ∙ ap (λ (v : Paper (Unit {0})). and_then v (success m)) c) ∙ e))

  pub accept : (l : Listed) → list_at s p ≡ success l → Met s minor named p → strict_at s minor named p ≡ success l
  unfolding and_then
  accept l e m = go asked
    where
      go : Asked → strict_at s minor named p ≡ success l
      go (all_met w c) = strict_read s minor named p e ∙ ap (λ (v : Paper (Unit {0})). and_then v (success l)) c
      go (is_added d c n) = absurd (n m)

-- ---- of the answers themselves

pub one_list : (s : List ℕ) (minor : ℕ) (named : Bool) (p : ℕ) (a o : (Result SubKeyList Refusal)) → list_paper a ≡ strict_at s minor named p → list_paper o ≡ list_at s p
    → OneList s minor named p a o
one_list s minor named p a o x y = record {
  accepts = λ l. (λ e. let w = accepted s minor named p l (sym x ∙ e) in (y ∙ w.0, w.1), λ w. x ∙ accept s minor named p l (sym y ∙ w.0) w.1);
  refuses = λ f e. go f e (either s minor named p);
  keeps = λ f e. paper_injective a o (x ∙ strict-refused s minor named p (sym y ∙ ap list_paper e) ∙ ap list_paper (sym e));
}
  where
    go : (f : Refusal) → a ≡ Err f → Either s minor named p → (o ≡ a) ⊎ Added p (told f)
    go f e (alike q) = inl (paper_injective o a (y ∙ sym q ∙ sym x))
    go f e (added {t} d q) = inr (subst (Added p) (same-told (sym q ∙ sym x ∙ ap list_paper e)) d)
