-- A key record reads the same where the 80 bytes of its fixed part are the same and its cell lies in the image. Assumes nothing.
use mathlib.Core.Path.{◌≡◌, ap, sym, ◌∙◌}
use mathlib.Core.List.{List}
use Prim.Native.Nat.{ℕ, ◌+◌, ◌≤◌, ◌<◌}
use native.Mathlib.Omega.{arith}
use lib.IntN.{nat_abs, pos}
use lib.Signed.{lt_z}
use lib.ListN.{length, take, drop, length-drop}
use lib.Seq.{get_or-take}
use Rattle.words.specs.Words.{byte_at, little, word16, signed}
use Rattle.words.specs.Paper.{success}
use Rattle.words.proofs.Little.{little-same}
use Rattle.words.proofs.Papers.{checked_good}
use Rattle.cell_key_node.specs.Records.{size_of}
use Rattle.cell_key_node.specs.Key.{key_fault, key_of, key_at}
use Rattle.cell_key_node.specs.declared.KeyNode.{KeyNode}
use Rattle.cell_key_node.proofs.Checks.{exactly}
use Rattle.cell_key_node.proofs.Keys.{key_read}

module _ (x y : List ℕ) (e : take 80 x ≡ take 80 y) where
  -- a byte of the fixed part, and a word that lies in it
  byte_same : (i : ℕ) → i < 80 → byte_at x i ≡ byte_at y i
  byte_same i h = sym (get_or-take 80 x i 0 h) ∙ ap (λ (l : List ℕ). byte_at l i) e ∙ get_or-take 80 y i 0 h

  word_same : (n at : ℕ) → at + n ≤ 80 → little n x at ≡ little n y at
  word_same n at h = little-same n x y at at (λ i l. byte_same (at + i) (omega arith))

  -- its numbers
  key-same : (p base : ℕ) → key_of p base x ≡ key_of p base y
  unfolding key_of
  key-same p base = λ i. record {
    position = p;
    base = base;
    size = signed (word_same 4 0 (omega arith) i);
    allocated = lt_z (signed (word_same 4 0 (omega arith) i)) (pos 0);
    key_node_flag_bits = word_same 2 6 (omega arith) i;
    last_key_written_time = word_same 8 8 (omega arith) i;
    access_flag_bits = word_same 4 16 (omega arith) i;
    parent_key_offset_relative = signed (word_same 4 20 (omega arith) i);
    number_of_sub_keys = word_same 4 24 (omega arith) i;
    number_of_volatile_sub_keys = word_same 4 28 (omega arith) i;
    sub_keys_list_offset_relative = word_same 4 32 (omega arith) i;
    volatile_sub_keys_list_offset_relative = signed (word_same 4 36 (omega arith) i);
    number_of_key_values = word_same 4 40 (omega arith) i;
    key_values_list_offset_relative = signed (word_same 4 44 (omega arith) i);
    security_key_offset_relative = word_same 4 48 (omega arith) i;
    class_name_offset_relative = signed (word_same 4 52 (omega arith) i);
    largest_sub_key_name_size = word_same 4 56 (omega arith) i;
    largest_sub_key_class_name_size = word_same 4 60 (omega arith) i;
    largest_value_name_size = word_same 4 64 (omega arith) i;
    largest_value_data_size = word_same 4 68 (omega arith) i;
    work_var = word_same 4 72 (omega arith) i;
    key_name_size = word_same 2 76 (omega arith) i;
    class_name_size = word_same 2 78 (omega arith) i;
  }

  size_same : size_of x ≡ size_of y
  unfolding size_of
  size_same = ap (λ (w : ℕ). nat_abs (signed w)) (word_same 4 0 (omega arith))

module _ (s t : List ℕ) (p base : ℕ) (key : KeyNode) (r : key_at s p base ≡ success key) (e : take 80 (drop p t) ≡ take 80 (drop p s)) (h : p + nat_abs key.size ≤ length t) where
  size_is : nat_abs key.size ≡ size_of (drop p s)
  unfolding size_of key_of
  size_is = ap (λ (k : KeyNode). nat_abs k.size) (key_read s p base r).1

  none_fails : key_fault t p ≡ 0
  unfolding key_fault
  none_fails =
      let w = (exactly s p 80 0x6B6E 76).none.0 (key_read s p base r).0 in
      let z = size_same (drop p t) (drop p s) e in
      let n = size_is in
      let l = length-drop p t in
      let a : 80 ≤ size_of (drop p s) = w.1.1.0 in
      let b : 80 + word16 (drop p s) 76 ≤ size_of (drop p s) = w.1.3 in
      let c : word16 (drop p t) 76 ≡ word16 (drop p s) 76 = word_same (drop p t) (drop p s) e 2 76 (omega arith) in
      (exactly t p 80 0x6B6E 76).none.1
      (omega arith, (omega arith, (omega arith, omega arith), word_same (drop p t) (drop p s) e 2 4 (omega arith) ∙ w.1.2, omega arith))

  pub reads_same : key_at t p base ≡ success key
  unfolding key_at
  reads_same =
      checked_good (key_fault t p) p (key_of p base (drop p t)) none_fails
      ∙ ap success (key-same (drop p t) (drop p s) e p base ∙ sym (key_read s p base r).1)
