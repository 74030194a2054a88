-- Where a value's data is: one law for each way in which it is found or refused. Assumes nothing.
use mathlib.Core.Path.{◌≡◌, sym, ap, ◌∙◌}
use mathlib.Core.List.{List, [], ◌∷◌}
use mathlib.Core.Bool.{Bool, true, false}
use Prim.{tt}
use Prim.Native.Nat.{ℕ, ◌+◌, ◌*◌, ◌≤◌, ◌<◌}
use lib.ListN.{drop}
use borrow.Author.Tests.{lt-ltb, le-ltb, eq-eqb, ne_eqb}
use Rattle.words.specs.Words.{word32}
use Rattle.words.specs.Paper.{Told, success, refused, by, on_success, and_then}
use Rattle.words.specs.Refusals.{BAD_DATA}
use Rattle.cell_key_node.specs.ValueList.{up_to, entry_of}
use Rattle.value_data.specs.Pieces.{Piece, piece, holds, judged, segments}
use Rattle.value_data.specs.Data.{field, pieces, whole, segments_needed, big_at, list_piece, segments_at, from_list, in_segments, is_big, source_of}

-- ---- in one cell

module _ (image : List ℕ) (q : Piece) where
  pub one-whole : holds image q ≡ success tt → success (pieces (q ∷ [])) ≡ whole image (q ∷ [])
  unfolding judged on_success and_then
  one-whole e = rw e

  pub one-refused : {t : Told} → holds image q ≡ refused t → refused t ≡ whole image (q ∷ [])
  unfolding judged on_success and_then
  one-refused e = rw e

-- ---- in segments

-- by the cell of their list, at l, and theirs: a reader knows how many they are, and has the list
module _ (image : List ℕ) (base l size : ℕ) {count : ℕ} (n : count ≡ segments_needed size) where
  same_cell : holds image (list_piece l size) ≡ holds image (piece l (4 * count))
  same_cell = ap (λ (m : ℕ). holds image (piece l (4 * m))) (sym n)

  pub list-refused : {t : Told} → holds image (piece l (4 * count)) ≡ refused t → refused t ≡ from_list image base l size
  unfolding from_list and_then
  list-refused e = rw (same_cell ∙ e)

  module _ {list : List ℕ} (d : list ≡ drop l image) where
    pub these_segments : segments_at image base l size ≡ segments base (up_to (entry_of list) count) size
    unfolding segments_at
    these_segments = λ i. segments base (up_to (entry_of (sym d i)) (sym n i)) size

    module _ (e : holds image (piece l (4 * count)) ≡ success tt) where
      pub segments-refused : {t : Told} → judged image (segments base (up_to (entry_of list) count) size) ≡ refused t → refused t ≡ from_list image base l size
      unfolding from_list and_then on_success
      segments-refused j = rw (same_cell ∙ e, ap (judged image) these_segments ∙ j)

      pub segments-whole : judged image (segments base (up_to (entry_of list) count) size) ≡ success tt → success (pieces (segments_at image base l size)) ≡ from_list image base l size
      unfolding from_list and_then on_success
      segments-whole j = rw (same_cell ∙ e, ap (judged image) these_segments ∙ j)

-- by the `db` cell at p, whose list's offset is w
module _ (image : List ℕ) (base p size : ℕ) {count : ℕ} (n : count ≡ segments_needed size) where
  same_head : big_at image p (segments_needed size) ≡ big_at image p count
  same_head = ap (big_at image p) (sym n)

  pub big_refused : {t : Told} → big_at image p count ≡ refused t → refused t ≡ in_segments image base p size
  unfolding in_segments and_then
  big_refused e = rw (same_head ∙ e)

  pub big_whole : {w : ℕ} → w ≡ word32 (drop p image) 8 → big_at image p count ≡ success tt → from_list image base (w + base) size ≡ in_segments image base p size
  unfolding in_segments and_then
  big_whole o e = rw (same_head ∙ e) (ap (λ (w : ℕ). from_list image base (w + base) size) o)

-- ---- all of it

module _ (image : List ℕ) (base minor : ℕ) (resident : Bool) (size offset : ℕ) where
  module _ (r : resident ≡ true) where
    pub field_large : 4 < size → refused (by BAD_DATA 0) ≡ source_of image base minor resident size offset
    unfolding source_of
    field_large h = simp (r, lt-ltb _ _ h)

    pub in_field : size ≤ 4 → success field ≡ source_of image base minor resident size offset
    unfolding source_of
    in_field h = simp (r, le-ltb _ _ h)

  module _ (r : resident ≡ false) where
    pub no_bytes : size ≡ 0 → success (pieces []) ≡ source_of image base minor resident size offset
    unfolding source_of
    no_bytes z = simp (r, eq-eqb _ _ z)

    module _ (z : size ≡ 0 → ⊥) where
      pub in_big : is_big minor size ≡ true → in_segments image base (offset + base) size ≡ source_of image base minor resident size offset
      unfolding source_of
      in_big b = simp (r, ne_eqb _ _ z, b)

      pub in_cell : is_big minor size ≡ false → whole image (piece (offset + base) size ∷ []) ≡ source_of image base minor resident size offset
      unfolding source_of
      in_cell b = simp (r, ne_eqb _ _ z, b)
