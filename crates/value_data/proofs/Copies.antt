-- The bytes of a slice and those of segments, copied into a buffer. Assumes nothing.
use mathlib.Core.Path.{◌≡◌, refl, sym, ap, ◌∙◌}
use mathlib.Core.List.{List, [], ◌∷◌, ◌++◌, append-nil}
use Prim.Native.Nat.{ℕ, ◌+◌, ◌-◌, ◌≤◌, ◌<◌, min}
use native.Mathlib.Omega.{arith}
use lib.ListN.{length, drop, length-append, length-take}
use borrow.Rule.Slice.PartMut.{put_mid}
use Rattle.std.proofs.lemmas.Slice.{put_mid-paste}
use Rattle.writing.specs.Writing.{with_bytes}
use Rattle.writing.proofs.Writing.{with_length, with_paste, with_more, with_none}
use Rattle.value_data.specs.Pieces.{Piece, piece, bytes_in, joined, SEGMENT, segments}
use Rattle.value_data.proofs.Pieces.{rest, joined-on, joined_end}

-- ---- the bytes of a slice, from a place of a buffer on: a part of it is written over, which has k places and then holds ys

pub part_written : (old : List ℕ) (at k : ℕ) (bytes ys : List ℕ) → k ≡ length bytes → ys ≡ bytes → put_mid at k old ys ≡ with_bytes old at bytes
part_written old at k bytes ys e f = put_mid-paste at k old ys bytes (length bytes) f (sym e) refl ∙ with_paste old at bytes

-- ---- the bytes of segments: what is left to copy makes of the buffer what was to be made of it at the start

pub piece-short : (image : List ℕ) (q : Piece) → length (bytes_in image q) ≤ q.long
piece-short image q = omega (arith, length-take q.long (drop 4 (drop q.cell image)))

-- so a piece's bytes fit where its length does, from the first place on
pub cell_fits : (image : List ℕ) (p n : ℕ) (old bs : List ℕ) → bs ≡ bytes_in image (piece p n) → n ≤ length old → 0 + length bs ≤ length old
cell_fits image p n old bs e h = omega (arith, ap length e, piece-short image (piece p n))

-- and a row of one piece has its bytes
pub one-joined : (image : List ℕ) (q : Piece) → joined image (q ∷ []) ≡ bytes_in image q
unfolding joined
one-joined image q = append-nil (bytes_in image q)

pub joined-short : (image : List ℕ) (base : ℕ) (es : List ℕ) (left : ℕ) → length (joined image (segments base es left)) ≤ left
unfolding segments joined
joined-short image base [] left = omega arith
joined-short image base (e ∷ es) left =
    let q : Piece = piece (e + base) (min left SEGMENT) in
    omega (
      arith,
      length-append (bytes_in image q) (joined image (segments base es (left - SEGMENT))),
      piece-short image q,
      joined-short image base es (left - SEGMENT),
    )

pub record Filling (image : List ℕ) (base : ℕ) (f : ℕ → ℕ) (n size : ℕ) (old out : List ℕ) (at left i : ℕ) : Type 0 where
  pub room : at + left ≤ length old
  pub long : length out ≡ length old
  pub writes : with_bytes out at (joined image (rest base f n i left)) ≡ with_bytes old 0 (joined image (rest base f n 0 size))

module _ (image : List ℕ) (base : ℕ) (f : ℕ → ℕ) (n size : ℕ) (old : List ℕ) where
  pub filling_start : size ≤ length old → Filling image base f n size old old 0 size 0
  filling_start h = record { room = omega arith; long = refl; writes = refl }

  module _ (out : List ℕ) (at left i : ℕ) (x : Filling image base f n size old out at left i) where
    -- entry i, whose segment is in the cell at p and has b bytes, and bs are the bytes of it
    module _ (h : i < n) (p : ℕ) (e : p ≡ f i + base) (b : ℕ) (m : b ≡ min left SEGMENT) (bs : List ℕ) (y : bs ≡ bytes_in image (piece p b)) where
      short : length bs ≤ b
      short = omega (arith, ap length y, piece-short image (piece p b))

      pub filling_fits : at + length bs ≤ length out
      filling_fits =
          let r = x.room in
          let l = x.long in
          let s = short in
          omega arith

      pub filling_step : Filling image base f n size old (with_bytes out at bs) (at + length bs) (left - b) (i + 1)
      filling_step =
          let r = x.room in
          let l = x.long in
          let s = short in
          let js : List ℕ = joined image (rest base f n (i + 1) (left - b)) in
          let k : length js ≤ left - b = joined-short image base _ (left - b) in
          record {
            room = omega arith;
            long = with_length out at bs filling_fits ∙ l;
            writes =
                with_more out at bs js (omega arith)
                ∙ ap (λ (z : List ℕ). with_bytes out at (z ++ js)) y
                ∙ ap (with_bytes out at) (sym (joined-on base f n image i left h p e b m)) ∙ x.writes;
          }

    pub filling_done : n ≤ i → out ≡ with_bytes old 0 (joined image (rest base f n 0 size))
    filling_done h = sym (with_none out at) ∙ ap (with_bytes out at) (sym (joined_end base f n image i left h)) ∙ x.writes
