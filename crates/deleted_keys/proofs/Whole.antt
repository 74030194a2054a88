-- What holds of every answer that the promise of `deleted_keys` allows. Assumes nothing.
use Prim.Native.Nat.{ℕ, suc, ◌+◌, ◌<◌}
use mathlib.Core.Path.{◌≡◌, refl, sym, ap, subst, ◌∙◌}
use mathlib.Core.Logic.{◌↔◌, inl, inr}
use mathlib.Core.List.{List, [], ◌∷◌, map}
use mathlib.Core.Bool.{Bool, true, false, cond, not, ◌&&◌, false≢true}
use native.Mathlib.Nat.{add-zero}
use native.Mathlib.Omega.{arith}
use lib.ListN.{length, take, drop}
use lib.Dec.{ltb}
use Rattle.words.specs.Refusals.{NO_ROOM, CUT_SHORT}
use Rattle.words.specs.Paper.{Told, Paper, success, refused, tell, by, told_of_room, on_success}
use Rattle.words.specs.Buffers.{needing}
use Rattle.words.specs.declared.RoomRefusal.{RoomRefusal}
use Rattle.words.proofs.Papers.{success-refused, refused-success, same-success, same-told, on_success_of, on_refused_of}
use Rattle.words.proofs.Plain.{Plainly, plainly_success, plainly_by, plainly_on}
use Rattle.words.proofs.Buffers.{room_success, full_of_lem, other_of, untouched, filled}
use Rattle.hive_bin.specs.Walk.{Found, Walk, found, fault, moved, shift, bins_in, bins_at}
use Rattle.hive_bin.specs.Totals.{negative, answer_of, bins_of}
use Rattle.hive_bin.specs.Steps.{cells_of, places, Rising}
use Rattle.hive_bin.proofs.Stepping.{rising_later, rising}
use Rattle.hive_bin.proofs.Totals.{OfBins, given}
use Rattle.cell_key_node.specs.Key.{key_at}
use Rattle.cell_key_node.proofs.Keys.{any_base}
use Rattle.cell_key_node.specs.declared.KeyNode.{KeyNode}
use Rattle.deleted_keys.specs.Deleted.{succeeds, is_deleted, positions_of, deleted_of, listed_of, row_of, DeletedAnswered}
use Rattle.deleted_keys.specs.Whole.{Among, Deleted, WasListed, WasRefused}
use Rattle.std.specs.Prelude.{Ok, Err}
use Rattle.words.specs.Paper.{number_of}

-- ---- rising numbers

-- none of them stands twice
pub rising_once : (at p : ℕ) (ps : List ℕ) → Rising at (p ∷ ps) → Among p ps → ⊥
rising_once at p ps h k = go (suc p) ps h.1 k (omega arith)
  where
    go : (from : ℕ) (qs : List ℕ) → Rising from qs → Among p qs → p < from → ⊥
    go from [] l k m = elim k [ ]
    go from (q ∷ qs) l (inl e) m = omega (arith, l.0)
    go from (q ∷ qs) l (inr n) m = go (suc q) qs l.1 n (omega (arith, l.0))

moved_rise : (base at : ℕ) (cs : List Found) → Rising at (places cs) → Rising (base + at) (places (map (moved base) cs))
moved_rise base at [] h = tt
moved_rise base at (c ∷ cs) h =
    (omega (arith, h.0), rising_later _ _ (places (map (moved base) cs)) (omega arith) (moved_rise base (suc c.place) cs h.1))

module _ (image : List ℕ) where
  listed_rise : (at : ℕ) (cs : List Found) → Rising at (places cs) → Rising at (positions_of image cs)
  unfolding positions_of
  listed_rise at [] h = tt
  listed_rise at (c ∷ cs) h = go (is_deleted image c) (listed_rise (suc c.place) cs h.1)
    where
      go : (t : Bool) → Rising (suc c.place) (positions_of image cs) → Rising at (cond t (c.place ∷ positions_of image cs) (positions_of image cs))
      go true k = (h.0, k)
      go false k = rising_later at (suc c.place) (positions_of image cs) (omega (arith, h.0)) k

  -- ---- all of them, and no other

  -- what the two tests of a cell say
  free-key : (s d : Bool) → not s && d ≡ true → (s ≡ false) × (d ≡ true)
  free-key true d e = absurd (false≢true e)
  free-key false d e = (refl, e)

  key_of : (a : Paper KeyNode) → succeeds a ≡ true → (k : KeyNode) × (a ≡ success k)
  key_of (success k) e = (k, refl)
  key_of (refused t) e = absurd (false≢true e)

  deleted_of_lem : (c : Found) (cs : List Found) → Among c cs → is_deleted image c ≡ true → Deleted image cs c.place
  unfolding is_deleted
  deleted_of_lem c cs h e =
      let t = free-key (negative c.size) (succeeds (key_at image c.place 0)) e in
      let k = key_of (key_at image c.place 0) t.1 in
      record { cell = c; among = h; place = refl; free = t.0; reads = λ base. (_, any_base image c.place 0 k.1 base) }

  further : (c : Found) (cs : List Found) (p : ℕ) → Deleted image cs p → Deleted image (c ∷ cs) p
  further c cs p d = record { cell = d.cell; among = inr d.among; place = d.place; free = d.free; reads = d.reads }

  is_deleted_lem : (c : Found) (p : ℕ) → c.place ≡ p → negative c.size ≡ false → {k : KeyNode} → key_at image p 0 ≡ success k → is_deleted image c ≡ true
  unfolding is_deleted
  is_deleted_lem c p e f g = simp (f, ap (λ (q : ℕ). key_at image q 0) e ∙ g)

  listed_only : (cs : List Found) (p : ℕ) → Among p (positions_of image cs) → Deleted image cs p
  unfolding positions_of
  listed_only [] p h = elim h [ ]
  listed_only (c ∷ cs) p h = go (is_deleted image c) refl h (listed_only cs p)
    where
      go : (t : Bool) → is_deleted image c ≡ t → Among p (cond t (c.place ∷ positions_of image cs) (positions_of image cs))
          → (Among p (positions_of image cs) → Deleted image cs p) → Deleted image (c ∷ cs) p
      go true e (inl f) on = subst (Deleted image (c ∷ cs)) (sym f) (deleted_of_lem c (c ∷ cs) (inl refl) e)
      go true e (inr k) on = further c cs p (on k)
      go false e k on = further c cs p (on k)

  listed_all : (cs : List Found) (c : Found) (p : ℕ) → Among c cs → c.place ≡ p → is_deleted image c ≡ true → Among p (positions_of image cs)
  unfolding positions_of
  listed_all [] c p h e g = elim h [ ]
  listed_all (d ∷ cs) c p (inl f) e g = simp (ap (is_deleted image) (sym f) ∙ g) (inl (sym e ∙ ap (λ (x : Found). x.place) f))
  listed_all (d ∷ cs) c p (inr k) e g = go (is_deleted image d) (listed_all cs c p k e g)
    where
      go : (t : Bool) → Among p (positions_of image cs) → Among p (cond t (d.place ∷ positions_of image cs) (positions_of image cs))
      go true h = inr h
      go false h = h

  pub listed_each : (cs : List Found) (p : ℕ) → Among p (positions_of image cs) ↔ Deleted image cs p
  listed_each cs p = (listed_only cs p, λ d. listed_all cs d.cell p d.among d.place (is_deleted_lem d.cell p d.place d.free (d.reads 0).1))

-- ---- an answer

found_of : (w : Walk) (cs : List Found) → cells_of w ≡ success cs → (n : ℕ) × (w ≡ found n cs)
unfolding cells_of
found_of (found n ds) cs e = (n, ap (found n) (same-success e))
found_of (fault n p) cs e = absurd (refused-success e)

-- the fault that the reader meets is the check's
fault_of : (w : Walk) (t : Told) → cells_of w ≡ refused t → answer_of w ≡ refused t
unfolding cells_of answer_of
fault_of (found n cs) t e = absurd (success-refused e)
fault_of (fault n p) t e = ap refused (same-told e)

fault-found : {n p k : ℕ} {cs : List Found} → fault n p ≡ found k cs → ⊥
fault-found e = let z : ◌≡◌ {A = ℕ} 0 1 = cc in omega arith

found-found : {n k : ℕ} {cs ds : List Found} → found n ds ≡ found k cs → ds ≡ cs
found-found e = cc

shifted_rise : (base : ℕ) (w : Walk) (k : ℕ) (cs : List Found) → ((ds : List Found) → cells_of w ≡ success ds → Rising 0 (places ds))
    → shift base w ≡ found k cs → Rising base (places cs)
unfolding shift cells_of
shifted_rise base (found n ds) k cs rise e =
    subst (λ (xs : List Found). Rising base (places xs)) (found-found e)
    (subst (λ (m : ℕ). Rising m (places (map (moved base) ds))) (add-zero base) (moved_rise base 0 ds (rise ds refl)))
shifted_rise base (fault n p) k cs rise e = absurd (fault-found e)

module _ (image : List ℕ) (base size : ℕ) where
  bins_fault : (t : Told) → cells_of (bins_at image base size) ≡ refused t → bins_of image base size ≡ refused t
  unfolding bins_of
  bins_fault t e = fault_of (bins_at image base size) t e

  -- none of the bins' refusals is 9
  other_number : (t : Told) → bins_of image base size ≡ refused t → t.number ≡ NO_ROOM → ⊥
  other_number t e h = go (given image base size t e)
    where
      go : OfBins t.number → ⊥
      go (inl k) = omega arith
      go (inr k) = omega arith

  plainly : Plainly (cells_of (bins_at image base size))
  unfolding cells_of
  plainly = go (bins_at image base size) (λ t e. other_number t (bins_fault t e))
    where
      go : (w : Walk) → ((t : Told) → cells_of w ≡ refused t → t.number ≡ NO_ROOM → ⊥) → Plainly (cells_of w)
      go (found n cs) h = plainly_success cs
      go (fault n p) h = plainly_by n p (h (by n p) refl)

  -- the cells' places rise, from the base on
  cells_rise : (k : ℕ) (cs : List Found) → bins_at image base size ≡ found k cs → Rising base (places cs)
  unfolding bins_at
  cells_rise k cs e = go (ltb (length image) (base + size)) e
    where
      b : List ℕ
      b = take size (drop base image)

      in_image : (w : Walk) → ((ds : List Found) → cells_of w ≡ success ds → Rising 0 (places ds)) → shift base w ≡ found k cs → Rising base (places cs)
      in_image w rise f = shifted_rise base w k cs rise f

      go : (t : Bool) → cond t (fault CUT_SHORT base) (shift base (bins_in b)) ≡ found k cs → Rising base (places cs)
      go true f = absurd (fault-found f)
      go false f = in_image (bins_in b) (rising b) f

module _ (image : List ℕ) (base size : ℕ) (old new : List ℕ) where
  pub was_listed : (n : ℕ) → DeletedAnswered image base size old (Ok n) new → WasListed image base size old new n
  unfolding listed_of deleted_of
  was_listed n x =
      let fits = room_success needing (length old) (on_success length (deleted_of image base size)) n (sym x.answer) in
      let count = on_success_of length (deleted_of image base size) fits.0 in
      let found = on_success_of (positions_of image) (cells_of (bins_at image base size)) count.1 in
      let walk = found_of (bins_at image base size) found.0 found.1 in
      let row : row_of (deleted_of image base size) ≡ positions_of image found.0 = ap row_of (count.1 ∙ ap success (sym found.2)) in
      let long : length (positions_of image found.0) ≡ n = ap length found.2 ∙ count.2 in
      record {
        bins = walk.0;
        cells = found.0;
        checked = walk.1;
        positions = positions_of image found.0;
        number = long;
        room = fits.1;
        written = filled x refl ∙ rw (row, long);
        rising = listed_rise image base found.0 (cells_rise image base size walk.0 found.0 walk.1);
        each = listed_each image found.0;
      }

  pub was_refused : (f : RoomRefusal) → DeletedAnswered image base size old (Err f) new → WasRefused image base size old new f
  unfolding listed_of deleted_of
  was_refused f x =
      let plain = plainly_on length (deleted_of image base size) (plainly_on (positions_of image) (cells_of (bins_at image base size)) (plainly image base size)) in
      record {
        untouched = untouched x refl;
        no_room = λ e.
            let full = full_of_lem needing (length old) (on_success length (deleted_of image base size)) plain (sym x.answer) e in
            let count = on_success_of length (deleted_of image base size) full.1 in
            let place : 0 ≡ f.position = ap (λ (t : Told). t.position) full.2 in
            let places : full.0 ≡ f.places = ap (λ (t : Told). t.places) full.2 in
            (sym place, omega (arith, full.3), (count.0, count.1, count.2 ∙ places));
        bins = λ e.
            let told = other_of needing (length old) (on_success length (deleted_of image base size)) (λ v. refl) (sym x.answer) e in
            let fault = on_refused_of (positions_of image) (cells_of (bins_at image base size)) (on_refused_of length (deleted_of image base size) told) in
            let none : f.places ≡ 0 = (plain (told_of_room f) told).places in
            (bins_fault image base size (told_of_room f) fault ∙ ap (λ (n : ℕ). refused (tell (number_of f.reason) f.position 0 n 0 0)) none, none);
      }
