-- Where the limits of a value's data lie, and resident data as bytes of the image. Assumes nothing.
use mathlib.Core.Path.{◌≡◌, refl, sym, ap, ◌∙◌}
use mathlib.Core.List.{List}
use mathlib.Core.Bool.{Bool, true, false, cond, not}
use Prim.{tt}
use Prim.Native.Nat.{ℕ, ◌+◌, ◌-◌, ◌≤◌}
use native.Mathlib.Nat.{mod-eq_of_lt}
use native.Mathlib.Decide.{ℕ_discrete, dec_le}
use native.Mathlib.Omega.{arith}
use lib.Dec.{ltb, eqb}
use lib.ListN.{length, take, drop}
use lib.Seq.{drop-drop, get_or-drop, take-take}
use borrow.Author.Tests.{lt-ltb, le-leb, lt-leb, eqb-true}
use Rattle.words.specs.Words.{word16, word32}
use Rattle.writing.specs.Writing.{bytes_of}
use Rattle.words.specs.Paper.{Paper, success, refused, by}
use Rattle.words.specs.Refusals.{BAD_SIGN, CUT_SHORT, BAD_DATA}
use Rattle.cell.specs.Cells.{Cell, held, too_small, cell_at}
use Rattle.cell_big_data.specs.Big.{is_big_data_block}
use Rattle.words.proofs.Little.{Bytes, little_lt}
use Rattle.words.proofs.Papers.{success-refused, same-success, checked_good, checked-bad}
use Rattle.writing.proofs.Writing.{bytes_first, bytes_there}
use Rattle.cell_key_node.proofs.Checks.{exactly}
use Rattle.cell_key_value.specs.Value.{value_fault, value_of, value_at}
use Rattle.cell_key_value.specs.declared.KeyValue.{KeyValue}
use Rattle.value_data.specs.Pieces.{SEGMENT}
use Rattle.value_data.specs.Data.{TOP_BIT, is_resident, size_of, Source, segments_needed, big_head, big_in, big_at, in_segments, is_big, source_of}
use Rattle.value_data.specs.Answers.{data_of, data_bytes}
use Rattle.value_data.specs.Whole.{Resident, TooLarge, Limits}
use Rattle.value_data.proofs.Sizes.{needed_enough}
use Rattle.value_data.proofs.Places.{field_large, in_field, in_big}
use Rattle.value_data.proofs.Whole.{both}
use Rattle.value_data.proofs.Answered.{found, copied}

pub limits : Limits
unfolding source_of is_big segments_needed
limits =
    record {
      no_bytes = λ image base minor offset. refl;
      field_full = λ image base minor offset. refl;
      field_over = λ image base minor offset. refl;
      one_cell = λ image base offset. refl;
      old_one_cell = λ image base offset. refl;
      two_segments = λ image base offset. refl;
      needed = (refl, refl, refl, refl);
    }

-- ---- resident data

-- a word that stands behind the first 12 bytes, in its bytes
field_bytes : (s : List ℕ) → Bytes s → 16 ≤ length s → (n : ℕ) → n ≤ 4 → bytes_of n (word32 s 12) ≡ take n (drop 12 s)
field_bytes s b l n h =
    let e : n + (4 - n) ≡ 4 = omega arith in
    bytes_first n (4 - n) (word32 s 12) ∙ ap (λ (k : ℕ). take n (bytes_of k (word32 s 12))) e
    ∙ ap (take n) (bytes_there 4 s b 12 l) ∙ take-take n 4 (drop 12 s) h

-- of a record that was read its numbers stand in the image, and so do its first 24 bytes
was_read : (image : List ℕ) (position : ℕ) (v : KeyValue) → value_at image position ≡ success v → (value_of (drop position image) ≡ v) × (24 ≤ length (drop position image))
unfolding value_at value_fault
was_read image position v e = go (ℕ_discrete (value_fault image position) 0)
  where
    go : Dec (value_fault image position ≡ 0) → (value_of (drop position image) ≡ v) × (24 ≤ length (drop position image))
    go (yes z) =
        (same-success (sym (checked_good _ position (value_of (drop position image)) z) ∙ e), ((exactly image position 24 0x6B76 6).none.0 z).1.0)
    go (no z) = absurd (success-refused (sym e ∙ checked-bad _ position (value_of (drop position image)) z))

-- what is found with the top bit set is the offset field, and it has at most 4 bytes
in_field_found :
    (image : List ℕ) (base minor raw offset : ℕ) → TOP_BIT ≤ raw → (s : Source) → data_of image base minor raw offset ≡ success s
    → (size_of raw ≤ 4) × (data_bytes image base minor raw offset ≡ bytes_of (size_of raw) offset)
unfolding data_of data_bytes
in_field_found image base minor raw offset t s e = go (dec_le (size_of raw) 4)
  where
    r : is_resident raw ≡ true
    r = le-leb TOP_BIT raw t

    go : Dec (size_of raw ≤ 4) → (size_of raw ≤ 4) × (data_bytes image base minor raw offset ≡ bytes_of (size_of raw) offset)
    go (yes h) = (h, rw (← in_field image base minor (is_resident raw) (size_of raw) offset r h))
    go (no h) = absurd (success-refused (sym e ∙ sym (field_large image base minor (is_resident raw) (size_of raw) offset r (omega arith))))

pub resident : Resident
unfolding value_of
resident image b position v e t base minor old new n x =
    let c = copied image base minor v.data_size_raw v.data_offset_relative old new n x in
    let y = found image base minor v.data_size_raw v.data_offset_relative old new x in
    let f = in_field_found image base minor v.data_size_raw v.data_offset_relative t y.1.0 y.1.1 in
    let w = was_read image position v e in
    let l = w.1 in
    let z : size_of v.data_size_raw ≡ n = y.1.2 in
    let h : n ≤ 4 = rw (← z) f.0 in
    let o : v.data_offset_relative ≡ word32 (drop position image) 12 = sym (ap (λ (u : KeyValue). u.data_offset_relative) w.0) in
    let bs : Bytes (drop position image) = λ i. rw (get_or-drop position image i 0) (b (position + i)) in
    c.row ∙ f.1 ∙ (λ i. bytes_of (z i) (o i)) ∙ field_bytes (drop position image) bs (omega arith) n h ∙ ap (take n) (drop-drop 12 position image)

-- ---- a `db` cell's number of segments

head_number_right : (image : List ℕ) (p n : ℕ) (large : Bool) → big_head image p n large ≡ success tt → word16 (drop p image) 6 ≡ n
unfolding big_head
head_number_right image p n large e =
    go (ltb (length (drop p image)) 12) (is_big_data_block (drop p image)) large (eqb (word16 (drop p image) 6) n) refl e
  where
    go : (c d l q : Bool) → eqb (word16 (drop p image) 6) n ≡ q
        → cond c (refused (by CUT_SHORT p)) (cond (not d) (refused (by BAD_SIGN p)) (cond (not l) (refused (by BAD_DATA 0)) (cond (not q) (refused (by BAD_DATA 0)) (success (tt {0})))))
        ≡ success (tt {0})
        → word16 (drop p image) 6 ≡ n
    go true d l q x y = absurd (success-refused (sym y))
    go false false l q x y = absurd (success-refused (sym y))
    go false true false q x y = absurd (success-refused (sym y))
    go false true true false x y = absurd (success-refused (sym y))
    go false true true true x y = eqb-true _ _ x

pub big_number_right : (image : List ℕ) (p n : ℕ) → big_at image p n ≡ success tt → word16 (drop p image) 6 ≡ n
unfolding big_at
big_number_right image p n e = go (cell_at image p 12) e
  where
    go : (a : Paper Cell) → big_in image p n a ≡ success tt → word16 (drop p image) 6 ≡ n
    go (success (held z)) x = head_number_right image p n true x
    go (success (too_small z)) x = head_number_right image p n false x
    go (refused t) x = absurd (success-refused (sym x))

pub too_large : TooLarge
unfolding data_of in_segments is_big
too_large image b base minor raw offset old new n m t l x =
    let y = found image base minor raw offset old new x in
    let s : size_of raw ≡ raw = mod-eq_of_lt t in
    let r : is_resident raw ≡ false = lt-leb TOP_BIT raw t in
    let g : is_big minor (size_of raw) ≡ true = simp (lt-ltb 3 minor m, s, lt-ltb SEGMENT raw (omega arith)) in
    let z : size_of raw ≡ 0 → ⊥ = λ w. omega arith in
    let p : ℕ = offset + base in
    let q = both (big_at image p (segments_needed (size_of raw))) _ (in_big image base minor (is_resident raw) (size_of raw) offset r z g ∙ y.1.1) in
    let k : word16 (drop p image) 6 ≡ segments_needed (size_of raw) = big_number_right image p (segments_needed (size_of raw)) q.0 in
    let bs : Bytes (drop p image) = λ i. rw (get_or-drop p image i 0) (b (p + i)) in
    omega (arith, little_lt 2 (drop p image) bs 6, needed_enough (size_of raw))
