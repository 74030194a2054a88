-- The sentences of specs/Whole.antt, of the answers. Assumes nothing.
use Prim.{Unit, tt}
use mathlib.Core.Path.{◌≡◌, refl, sym, ap, ◌∙◌}
use mathlib.Core.List.{List, [], ◌∷◌}
use mathlib.Core.Bool.{Bool, true, false, cond}
use Prim.Native.Nat.{ℕ, zero, suc, ◌+◌, ◌-◌, ◌*◌, ◌≤◌, ◌<◌}
use native.Mathlib.Decide.{dec_le}
use native.Mathlib.Omega.{arith}
use lib.Dec.{ltb, eqb}
use borrow.Author.Tests.{eqb-true}
use lib.ListN.{length, drop, length-append, length-take, length-drop}
use Rattle.words.specs.Paper.{Paper, success, refused, by, and_then}
use Rattle.words.specs.Refusals.{BAD_DATA}
use Rattle.words.proofs.Papers.{success-refused, same-success, then_next, on_success_of}
use Rattle.writing.proofs.Writing.{bytes_length}
use Rattle.cell.specs.Cells.{Cell, held, too_small, magnitude_at, cell_at}
use Rattle.cell.specs.Exactly.{Reads}
use Rattle.cell.specs.declared.CellSize.{CellSize}
use Rattle.cell.specs.declared.Fit.TheVariants.{Held}
use Rattle.cell.proofs.Cells.{cell-held}
use Rattle.cell.proofs.Exactly.{held_reads}
use Rattle.cell_key_node.specs.ValueList.{up_to, entry_of}
use Rattle.cell_key_node.proofs.Fill.{up_length}
use Rattle.value_data.specs.Pieces.{Piece, piece, bytes_in, joined, sized, holds, judged, SEGMENT, segments}
use Rattle.value_data.specs.Data.{Source, field, pieces, whole, segments_needed, big_at, list_of, list_piece, segments_at, from_list, in_segments, is_big, source_of}
use Rattle.value_data.specs.Answers.{bytes_from}
use Rattle.value_data.specs.Whole.{total, at, FullButLast, Lies, MadeOf, Passes, FirstFault}
use Rattle.value_data.proofs.Sizes.{needed_enough, needed-least}
use Rattle.std.specs.Prelude.{Ok}

-- ---- one cell

pub holds_lies : (image : List ℕ) (q : Piece) → holds image q ≡ success tt → Lies image q
unfolding holds
holds_lies image q e = go (cell_at image q.cell (4 + q.long)) refl e
  where
    go : (a : Paper Cell) → cell_at image q.cell (4 + q.long) ≡ a → sized a ≡ success tt → Lies image q
    go (success (held z)) x y =
        let r : Reads image q.cell (4 + q.long) z = held_reads image q.cell (4 + q.long) (Ok (Held z)) (sym x) refl in
        let m : z.magnitude ≡ magnitude_at image q.cell = ap (λ (w : CellSize). w.magnitude) r.size in
        let n = r.enough in
        let i = r.inside in
        record { own = omega arith; inside = omega arith }
    go (success (too_small z)) x y = absurd (success-refused (sym y))
    go (refused t) x y = absurd (success-refused (sym y))

-- so its bytes are all there
pub lies_length : (image : List ℕ) (q : Piece) → Lies image q → length (bytes_in image q) ≡ q.long
lies_length image q l =
    let o = l.own in
    let i = l.inside in
    omega (arith, length-take q.long (drop 4 (drop q.cell image)), length-drop 4 (drop q.cell image), length-drop q.cell image)

-- ---- a row of them

pub both : {A : Type 0} (a : Paper (Unit {0})) (b : Paper A) {v : A} → and_then a b ≡ success v → (a ≡ success tt) × (b ≡ success v)
unfolding and_then
both (success u) b e = (refl, e)
both (refused t) b e = absurd (success-refused (sym e))

pub judged_lies : (image : List ℕ) (qs : List Piece) → judged image qs ≡ success tt → (i : ℕ) → i < length qs → Lies image (at qs i)
unfolding judged
judged_lies image [] e i h = absurd (omega arith)
judged_lies image (q ∷ qs) e zero h = holds_lies image q (both (holds image q) (judged image qs) e).0
judged_lies image (q ∷ qs) e (suc i) h = judged_lies image qs (both (holds image q) (judged image qs) e).1 i (omega arith)

-- and back: such a cell passes, and so does a row of them
lies_holds : (image : List ℕ) (q : Piece) → Lies image q → holds image q ≡ success tt
unfolding holds
lies_holds image q l =
    let o = l.own in
    let i = l.inside in
    ap sized (sym (cell-held image q.cell (4 + q.long) (omega arith) (omega arith) refl (omega arith) o))

lies_judged : (image : List ℕ) (qs : List Piece) → ((i : ℕ) → i < length qs → Lies image (at qs i)) → judged image qs ≡ success tt
unfolding judged
lies_judged image [] l = refl
lies_judged image (q ∷ qs) l =
    then_next (judged image qs) (lies_holds image q (l zero (omega arith))) ∙ lies_judged image qs (λ i h. l (suc i) (omega arith))

pub passes : Passes
passes image qs = (judged_lies image qs, lies_judged image qs)

pub joined_length : (image : List ℕ) (qs : List Piece) → ((i : ℕ) → i < length qs → Lies image (at qs i)) → length (joined image qs) ≡ total qs
unfolding joined total
joined_length image [] l = refl
joined_length image (q ∷ qs) l =
    length-append (bytes_in image q) (joined image qs)
    ∙ (λ k. lies_length image q (l zero (omega arith)) k + joined_length image qs (λ i h. l (suc i) (omega arith)) k)

pub first_fault : FirstFault
unfolding judged and_then
first_fault image [] q after t e f = rw f
first_fault image (p ∷ before) q after t e f =
    let two = both (holds image p) (judged image before) e in
    rw two.0 (first_fault image before q after t two.1 f)

-- ---- segments: their lengths sum to the size, and every one but the last is full

pub segments-total : (base : ℕ) (es : List ℕ) (left : ℕ) → left ≤ length es * SEGMENT → total (segments base es left) ≡ left
unfolding segments total
segments-total base [] left h = omega arith
segments-total base (e ∷ es) left h = omega (arith, segments-total base es (left - SEGMENT) (omega arith))

pub segments-length : (base : ℕ) (es : List ℕ) (left : ℕ) → length (segments base es left) ≡ length es
unfolding segments
segments-length base [] left = refl
segments-length base (e ∷ es) left = ap suc (segments-length base es (left - SEGMENT))

pub segments-full : (base : ℕ) (es : List ℕ) (left i : ℕ) → (i + 1) * SEGMENT ≤ left → i < length es → (at (segments base es left) i).long ≡ SEGMENT
unfolding segments
segments-full base [] left i h k = absurd (omega arith)
segments-full base (e ∷ es) left zero h k = omega arith
segments-full base (e ∷ es) left (suc i) h k = segments-full base es (left - SEGMENT) i (omega arith) (omega arith)

-- ---- the pieces that a value's data is made of

-- what is found is a row of such pieces
abbrev pub Row : List ℕ → ℕ → Source → Type 0
Row image size s = (qs : List Piece) × (s ≡ pieces qs) × MadeOf image size qs

module _ (image : List ℕ) (base minor size offset : ℕ) where
  -- a row that was judged
  whole_made : (ps : List Piece) {s : Source} → whole image ps ≡ success s → total ps ≡ size → FullButLast ps → Row image size s
  whole_made ps e sum full =
      let w = on_success_of (λ u. pieces ps) (judged image ps) e in
      (ps, sym w.2, record { sum = sum; full = full; lies = judged_lies image ps w.1 })

  one_made : (p : ℕ) {s : Source} → whole image (piece p size ∷ []) ≡ success s → Row image size s
  unfolding total
  one_made p e = whole_made (piece p size ∷ []) e (omega arith) (λ i h. absurd (omega arith))

  segments_made : (l : ℕ) {s : Source} → whole image (segments_at image base l size) ≡ success s → Row image size s
  unfolding segments_at
  segments_made l e =
      let es : List ℕ = up_to (entry_of (drop l image)) (segments_needed size) in
      let n : length es ≡ segments_needed size = up_length (entry_of (drop l image)) (segments_needed size) in
      let long = segments-length base es size in
      let enough = needed_enough size in
      whole_made (segments base es size) e (segments-total base es size (rw n enough))
      (λ i h. segments-full base es size i (not_last i (omega arith)) (omega arith))
    where
      not_last : (i : ℕ) → i + 1 < segments_needed size → (i + 1) * SEGMENT ≤ size
      not_last i h = go (dec_le ((i + 1) * SEGMENT) size)
        where
          go : Dec ((i + 1) * SEGMENT ≤ size) → (i + 1) * SEGMENT ≤ size
          go (yes k) = k
          go (no k) = let least = needed-least size (i + 1) (omega arith) in absurd (omega arith)

  -- where the top bit is not set
  pub made : {s : Source} → source_of image base minor false size offset ≡ success s → Row image size s
  unfolding source_of in_segments from_list total
  made {s} e = go (eqb size 0) (is_big minor size) refl e
    where
      go : (z b : Bool) → eqb size 0 ≡ z
          → cond z (success (pieces [])) (cond b (in_segments image base (offset + base) size) (whole image (piece (offset + base) size ∷ [])))
          ≡ success s
          → Row image size s
      go true b n x = (
        [],
        sym (same-success x),
        record { sum = sym (eqb-true _ _ n); full = λ i h. absurd (omega arith); lies = λ i h. absurd (omega arith) },
      )
      go false true n x =
          segments_made (list_of image base (offset + base))
          (both (holds image (list_piece (list_of image base (offset + base)) size)) _ (both (big_at image (offset + base) (segments_needed size)) _ x).1).1
      go false false n x = one_made (offset + base) x

  -- its bytes are as many as its size says
  pub row-length : (resident : Bool) (s : Source) → source_of image base minor resident size offset ≡ success s → length (bytes_from image size offset s) ≡ size
  unfolding source_of
  row-length true s e = go (ltb 4 size) e
    where
      go : (l : Bool) → cond l (refused (by BAD_DATA 0)) (success field) ≡ success s → length (bytes_from image size offset s) ≡ size
      go true x = absurd (success-refused (sym x))
      go false x = ap (λ (t : Source). length (bytes_from image size offset t)) (sym (same-success x)) ∙ bytes_length size offset
  row-length false s e =
      let m = made e in
      ap (λ (t : Source). length (bytes_from image size offset t)) m.1 ∙ joined_length image m.0 m.2.lies ∙ m.2.sum
