-- Laws of a record that reads as itself: the test is true exactly then. Assumes nothing.
use mathlib.Core.Path.{◌≡◌, refl, sym, ap, subst, ◌∙◌}
use mathlib.Core.Logic.{◌↔◌}
use mathlib.Core.List.{List}
use mathlib.Core.Bool.{Bool, true, false, ◌&&◌, beq, false≢true}
use Prim.Native.Nat.{ℕ}
use lib.Dec.{eqb}
use lib.IntN.{ℤ, pos, negsuc}
use borrow.Author.Tests.{eqb-true, eq-eqb}
use Rattle.std.specs.Ordering.{int_eq}
use Rattle.std.specs.Cmp.{signed_Decides}
use Rattle.words.specs.Paper.{Paper, success, refused}
use Rattle.words.proofs.Tests.{both, both_are, test_same}
use Rattle.cell_key_node.specs.Key.{key_at}
use Rattle.cell_key_node.specs.declared.KeyNode.{KeyNode}
use Rattle.key_in_place.specs.Place.{ReadsAs, same_int, same_flag, same_key, is_this, is_in_place}

-- ---- numbers that are the same

int_true : (z y : ℤ) → same_int z y ≡ true → z ≡ y
unfolding same_int
int_true (pos m) (pos n) e = ap pos (eqb-true m n e)
int_true (pos m) (negsuc n) e = absurd (false≢true e)
int_true (negsuc m) (pos n) e = absurd (false≢true e)
int_true (negsuc m) (negsuc n) e = ap negsuc (eqb-true m n e)

int_self : (z : ℤ) → same_int z z ≡ true
unfolding same_int
int_self (pos m) = eq-eqb m m refl
int_self (negsuc m) = eq-eqb m m refl

flag_true : (a b : Bool) → same_flag a b ≡ true → a ≡ b
flag_true true b e = sym e
flag_true false true e = absurd (false≢true e)
flag_true false false e = refl

flag_self : (a : Bool) → same_flag a a ≡ true
flag_self true = refl
flag_self false = refl

-- ---- records that are the same

pub key_true : (a b : KeyNode) → same_key a b ≡ true → a ≡ b
unfolding same_key
key_true a b e =
    let f1 = both _ _ e in
    let f2 = both _ _ f1.0 in
    let s1 = both _ _ f2.1 in
    let s2 = both _ _ s1.0 in
    let s3 = both _ _ s2.0 in
    let s4 = both _ _ s3.0 in
    let p1 = both _ _ f2.0 in
    let p2 = both _ _ p1.0 in
    let p3 = both _ _ p2.0 in
    let p4 = both _ _ p3.0 in
    let p5 = both _ _ p4.0 in
    let p6 = both _ _ p5.0 in
    let p7 = both _ _ p6.0 in
    let p8 = both _ _ p7.0 in
    let p9 = both _ _ p8.0 in
    let p10 = both _ _ p9.0 in
    let p11 = both _ _ p10.0 in
    let p12 = both _ _ p11.0 in
    let p13 = both _ _ p12.0 in
    let p14 = both _ _ p13.0 in
    let p15 = both _ _ p14.0 in
    let p16 = both _ _ p15.0 in
    λ i. record {
      position = eqb-true a.position b.position p16.0 i;
      base = eqb-true a.base b.base p16.1 i;
      size = int_true a.size b.size s4.0 i;
      allocated = flag_true a.allocated b.allocated f1.1 i;
      key_node_flag_bits = eqb-true a.key_node_flag_bits b.key_node_flag_bits p15.1 i;
      last_key_written_time = eqb-true a.last_key_written_time b.last_key_written_time p14.1 i;
      access_flag_bits = eqb-true a.access_flag_bits b.access_flag_bits p13.1 i;
      parent_key_offset_relative = int_true a.parent_key_offset_relative b.parent_key_offset_relative s4.1 i;
      number_of_sub_keys = eqb-true a.number_of_sub_keys b.number_of_sub_keys p12.1 i;
      number_of_volatile_sub_keys = eqb-true a.number_of_volatile_sub_keys b.number_of_volatile_sub_keys p11.1 i;
      sub_keys_list_offset_relative = eqb-true a.sub_keys_list_offset_relative b.sub_keys_list_offset_relative p10.1 i;
      volatile_sub_keys_list_offset_relative = int_true a.volatile_sub_keys_list_offset_relative b.volatile_sub_keys_list_offset_relative s3.1 i;
      number_of_key_values = eqb-true a.number_of_key_values b.number_of_key_values p9.1 i;
      key_values_list_offset_relative = int_true a.key_values_list_offset_relative b.key_values_list_offset_relative s2.1 i;
      security_key_offset_relative = eqb-true a.security_key_offset_relative b.security_key_offset_relative p8.1 i;
      class_name_offset_relative = int_true a.class_name_offset_relative b.class_name_offset_relative s1.1 i;
      largest_sub_key_name_size = eqb-true a.largest_sub_key_name_size b.largest_sub_key_name_size p7.1 i;
      largest_sub_key_class_name_size = eqb-true a.largest_sub_key_class_name_size b.largest_sub_key_class_name_size p6.1 i;
      largest_value_name_size = eqb-true a.largest_value_name_size b.largest_value_name_size p5.1 i;
      largest_value_data_size = eqb-true a.largest_value_data_size b.largest_value_data_size p4.1 i;
      work_var = eqb-true a.work_var b.work_var p3.1 i;
      key_name_size = eqb-true a.key_name_size b.key_name_size p2.1 i;
      class_name_size = eqb-true a.class_name_size b.class_name_size p1.1 i;
    }

pub key_self : (k : KeyNode) → same_key k k ≡ true
unfolding same_key
key_self k =
    let eq : (n : ℕ) → eqb n n ≡ true = λ n. eq-eqb n n refl in
    simp (eq, int_self, flag_self)

-- ---- a record in an image

-- the test is true exactly where the bytes at the record's position read, with its base, as this same record
pub in_place : (image : List ℕ) (key : KeyNode) → (is_in_place image key ≡ true) ↔ ReadsAs image key
unfolding is_in_place is_this
in_place image key = (only (key_at image key.position key.base), λ e. ap (is_this key) e ∙ key_self key)
  where
    only : (a : Paper KeyNode) → is_this key a ≡ true → a ≡ success key
    only (success k) e = ap success (key_true k key e)
    only (refused t) e = absurd (false≢true e)

-- ---- the comparison that KeyNode derives: field after field

unfoldable pub derived : KeyNode → KeyNode → Bool
derived a b =
    eqb a.position b.position && (
    eqb a.base b.base && (
    int_eq a.size b.size && (
    beq a.allocated b.allocated && (
    eqb a.key_node_flag_bits b.key_node_flag_bits && (
    eqb a.last_key_written_time b.last_key_written_time && (
    eqb a.access_flag_bits b.access_flag_bits && (
    int_eq a.parent_key_offset_relative b.parent_key_offset_relative && (
    eqb a.number_of_sub_keys b.number_of_sub_keys && (
    eqb a.number_of_volatile_sub_keys b.number_of_volatile_sub_keys && (
    eqb a.sub_keys_list_offset_relative b.sub_keys_list_offset_relative && (
    int_eq a.volatile_sub_keys_list_offset_relative b.volatile_sub_keys_list_offset_relative && (
    eqb a.number_of_key_values b.number_of_key_values && (
    int_eq a.key_values_list_offset_relative b.key_values_list_offset_relative && (
    eqb a.security_key_offset_relative b.security_key_offset_relative && (
    int_eq a.class_name_offset_relative b.class_name_offset_relative && (
    eqb a.largest_sub_key_name_size b.largest_sub_key_name_size && (
    eqb a.largest_sub_key_class_name_size b.largest_sub_key_class_name_size && (
    eqb a.largest_value_name_size b.largest_value_name_size && (
    eqb a.largest_value_data_size b.largest_value_data_size && (
    eqb a.work_var b.work_var && (
    eqb a.key_name_size b.key_name_size && (
    eqb a.class_name_size b.class_name_size))))))))))))))))))))))

int_same : (z y : ℤ) → int_eq z y ≡ same_int z y
int_same z y =
    test_same (int_eq z y) (same_int z y) (λ e. subst (λ (x : ℤ). same_int z x ≡ true) ((signed_Decides z y).0 e) (int_self z)) (λ e. (signed_Decides z y).1 (int_true z y e))

flag_same : (a b : Bool) → beq a b ≡ same_flag a b
flag_same true true = refl
flag_same true false = refl
flag_same false true = refl
flag_same false false = refl

derived_self : (k : KeyNode) → derived k k ≡ true
unfolding derived
derived_self k =
    let eq : (n : ℕ) → eqb n n ≡ true = λ n. eq-eqb n n refl in
    simp (int_same, flag_same, eq, int_self, flag_self)

derived_true : (a b : KeyNode) → derived a b ≡ true → same_key a b ≡ true
unfolding same_key derived
derived_true a b e =
    let e1 = both (eqb a.position b.position) _ e in
    let e2 = both (eqb a.base b.base) _ e1.1 in
    let e3 = both (int_eq a.size b.size) _ e2.1 in
    let e4 = both (beq a.allocated b.allocated) _ e3.1 in
    let e5 = both (eqb a.key_node_flag_bits b.key_node_flag_bits) _ e4.1 in
    let e6 = both (eqb a.last_key_written_time b.last_key_written_time) _ e5.1 in
    let e7 = both (eqb a.access_flag_bits b.access_flag_bits) _ e6.1 in
    let e8 = both (int_eq a.parent_key_offset_relative b.parent_key_offset_relative) _ e7.1 in
    let e9 = both (eqb a.number_of_sub_keys b.number_of_sub_keys) _ e8.1 in
    let e10 = both (eqb a.number_of_volatile_sub_keys b.number_of_volatile_sub_keys) _ e9.1 in
    let e11 = both (eqb a.sub_keys_list_offset_relative b.sub_keys_list_offset_relative) _ e10.1 in
    let e12 = both (int_eq a.volatile_sub_keys_list_offset_relative b.volatile_sub_keys_list_offset_relative) _ e11.1 in
    let e13 = both (eqb a.number_of_key_values b.number_of_key_values) _ e12.1 in
    let e14 = both (int_eq a.key_values_list_offset_relative b.key_values_list_offset_relative) _ e13.1 in
    let e15 = both (eqb a.security_key_offset_relative b.security_key_offset_relative) _ e14.1 in
    let e16 = both (int_eq a.class_name_offset_relative b.class_name_offset_relative) _ e15.1 in
    let e17 = both (eqb a.largest_sub_key_name_size b.largest_sub_key_name_size) _ e16.1 in
    let e18 = both (eqb a.largest_sub_key_class_name_size b.largest_sub_key_class_name_size) _ e17.1 in
    let e19 = both (eqb a.largest_value_name_size b.largest_value_name_size) _ e18.1 in
    let e20 = both (eqb a.largest_value_data_size b.largest_value_data_size) _ e19.1 in
    let e21 = both (eqb a.work_var b.work_var) _ e20.1 in
    let e22 = both (eqb a.key_name_size b.key_name_size) (eqb a.class_name_size b.class_name_size) e21.1 in
    let p1 = both_are e1.0 e2.0 in
    let p2 = both_are p1 e5.0 in
    let p3 = both_are p2 e6.0 in
    let p4 = both_are p3 e7.0 in
    let p5 = both_are p4 e9.0 in
    let p6 = both_are p5 e10.0 in
    let p7 = both_are p6 e11.0 in
    let p8 = both_are p7 e13.0 in
    let p9 = both_are p8 e15.0 in
    let p10 = both_are p9 e17.0 in
    let p11 = both_are p10 e18.0 in
    let p12 = both_are p11 e19.0 in
    let p13 = both_are p12 e20.0 in
    let p14 = both_are p13 e21.0 in
    let p15 = both_are p14 e22.0 in
    let p16 = both_are p15 e22.1 in
    let s1 = both_are (sym (int_same a.size b.size) ∙ e3.0) (sym (int_same a.parent_key_offset_relative b.parent_key_offset_relative) ∙ e8.0) in
    let s2 = both_are s1 (sym (int_same a.volatile_sub_keys_list_offset_relative b.volatile_sub_keys_list_offset_relative) ∙ e12.0) in
    let s3 = both_are s2 (sym (int_same a.key_values_list_offset_relative b.key_values_list_offset_relative) ∙ e14.0) in
    let s4 = both_are s3 (sym (int_same a.class_name_offset_relative b.class_name_offset_relative) ∙ e16.0) in
    both_are (both_are p16 s4) (sym (flag_same a.allocated b.allocated) ∙ e4.0)

-- it is true of the same records
pub derived_same : (a b : KeyNode) → derived a b ≡ same_key a b
derived_same a b = test_same (derived a b) (same_key a b) (derived_true a b) (λ e. subst (λ (k : KeyNode). derived a k ≡ true) (key_true a b e) (derived_self a))
