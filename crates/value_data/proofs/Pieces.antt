-- Pieces and the cells that hold them: a cell by its answer, and the segments of a list from any entry on. Assumes nothing.
use mathlib.Core.Path.{◌≡◌, sym, ap, ◌∙◌}
use mathlib.Core.List.{List, [], ◌∷◌, ◌++◌}
use Prim.{tt}
use Prim.Native.Nat.{ℕ, ◌+◌, ◌-◌, ◌≤◌, ◌<◌, min}
use native.Mathlib.Numerals.{add-one}
use native.Mathlib.Omega.{arith}
use lib.ListN.{length, drop, drop_of_length-le}
use lib.Seq.{drop-cons}
use Rattle.words.specs.Paper.{Told, success, refused}
use Rattle.words.proofs.Papers.{then_next, then_refused}
use Rattle.cell.specs.Cells.{cell_at, fit_of}
use Rattle.cell_key_node.specs.ValueList.{up_to}
use Rattle.cell_key_node.proofs.Fill.{up_length, up_at}
use Rattle.value_data.specs.Pieces.{Piece, piece, bytes_in, joined, sized, holds, judged, SEGMENT, segments}
use Rattle.cell.specs.declared.Fit.{Fit}

-- a cell, by what its answer is
module _ (image : List ℕ) (p n : ℕ) where
  pub cell_verdict : {a b : Fit} → success (fit_of a) ≡ cell_at image p (4 + n) → a ≡ b → sized (success (fit_of b)) ≡ holds image (piece p n)
  unfolding holds
  cell_verdict q e = ap (λ (x : Fit). sized (success (fit_of x))) (sym e) ∙ ap sized q

  pub cell_refused : {t : Told} → refused t ≡ cell_at image p (4 + n) → refused t ≡ holds image (piece p n)
  unfolding holds
  cell_refused q = ap sized q

-- the segments of a list whose entries are f 0, f 1, .. before f n, from entry i on, where so many bytes are left
module _ (base : ℕ) (f : ℕ → ℕ) (n : ℕ) where
  abbrev pub rest : ℕ → ℕ → List Piece
  rest i left = segments base (drop i (up_to f n)) left

  pub rest_here : (i left : ℕ) → i < n → rest i left ≡ piece (f i + base) (min left SEGMENT) ∷ rest (i + 1) (left - SEGMENT)
  unfolding segments
  rest_here i left h =
      let k : i < length (up_to f n) = rw (up_length f n) h in
      rw (drop-cons (up_to f n) i 0 k, up_at f n i h, add-one)

  pub rest_none : (i left : ℕ) → n ≤ i → rest i left ≡ []
  unfolding segments
  rest_none i left h =
      let k : length (up_to f n) ≤ i = rw (up_length f n) h in
      rw (drop_of_length-le (up_to f n) k)

  -- what is left behind a segment's bytes is what is left behind a whole segment
  pub left_behind : (left b : ℕ) → b ≡ min left SEGMENT → left - SEGMENT ≡ left - b
  left_behind left b e = omega arith

  -- ---- judged
  module _ (image : List ℕ) where
    pub judged-end : (i left : ℕ) → n ≤ i → judged image (rest i left) ≡ success tt
    unfolding judged
    judged-end i left h = rw (rest_none i left h)

    -- entry i, whose segment is in the cell at p and has b bytes
    module _ (i left : ℕ) (h : i < n) (p : ℕ) (e : p ≡ f i + base) (b : ℕ) (m : b ≡ min left SEGMENT) where
      here : rest i left ≡ piece p b ∷ rest (i + 1) (left - b)
      here = rest_here i left h ∙ (λ k. piece (sym e k) (sym m k) ∷ rest (i + 1) (left_behind left b m k))

      pub judged-on : holds image (piece p b) ≡ success tt → judged image (rest i left) ≡ judged image (rest (i + 1) (left - b))
      unfolding judged
      judged-on q = ap (judged image) here ∙ then_next (judged image (rest (i + 1) (left - b))) q

      pub judged-refused : {t : Told} → holds image (piece p b) ≡ refused t → judged image (rest i left) ≡ refused t
      unfolding judged
      judged-refused q = ap (judged image) here ∙ then_refused (judged image (rest (i + 1) (left - b))) q

      pub joined-on : joined image (rest i left) ≡ bytes_in image (piece p b) ++ joined image (rest (i + 1) (left - b))
      unfolding joined
      joined-on = ap (joined image) here

    pub joined_end : (i left : ℕ) → n ≤ i → joined image (rest i left) ≡ []
    unfolding joined
    joined_end i left h = ap (joined image) (rest_none i left h)
