-- Document 02, order 11: "Refusals: new, 21 OTHER PLACE, before all others, where the bytes at that position do not read as this same
-- record."
use Rattle.std.specs.Prelude.{ℕ, ◌≡◌, List, Bool, false, cond, not, ◌&&◌, eqb, ℤ, pos, negsuc}
use Rattle.words.specs.Refusals.{OTHER_PLACE}
use Rattle.words.specs.Paper.{Paper, success, refused, by}
use Rattle.cell_key_node.specs.Key.{key_at}
use Rattle.cell_key_node.specs.declared.KeyNode.{KeyNode}

-- "read as this same record": what reads at the record's position, with its base, is the record
abbrev pub ReadsAs : List ℕ → KeyNode → Type 0
ReadsAs image key = key_at image key.position key.base ≡ success key

-- ---- the same as a test, which is true exactly then (`in_place`, proofs/Place.antt)

-- two signed numbers are one, and two signs
unfoldable pub same_int : ℤ → ℤ → Bool
same_int (pos m) (pos n) = eqb m n
same_int (pos m) (negsuc n) = false
same_int (negsuc m) (pos n) = false
same_int (negsuc m) (negsuc n) = eqb m n

abbrev pub same_flag : Bool → Bool → Bool
same_flag a b = cond a b (not b)

-- two records are one, number by number: those without a sign, from the position and the base on
abbrev pub same_plain : KeyNode → KeyNode → Bool
same_plain a b =
    eqb a.position b.position
    && eqb a.base b.base
    && eqb a.key_node_flag_bits b.key_node_flag_bits
    && eqb a.last_key_written_time b.last_key_written_time
    && eqb a.access_flag_bits b.access_flag_bits
    && eqb a.number_of_sub_keys b.number_of_sub_keys
    && eqb a.number_of_volatile_sub_keys b.number_of_volatile_sub_keys
    && eqb a.sub_keys_list_offset_relative b.sub_keys_list_offset_relative
    && eqb a.number_of_key_values b.number_of_key_values
    && eqb a.security_key_offset_relative b.security_key_offset_relative
    && eqb a.largest_sub_key_name_size b.largest_sub_key_name_size
    && eqb a.largest_sub_key_class_name_size b.largest_sub_key_class_name_size
    && eqb a.largest_value_name_size b.largest_value_name_size
    && eqb a.largest_value_data_size b.largest_value_data_size
    && eqb a.work_var b.work_var
    && eqb a.key_name_size b.key_name_size
    && eqb a.class_name_size b.class_name_size

-- those with a sign
abbrev pub same_signed : KeyNode → KeyNode → Bool
same_signed a b =
    same_int a.size b.size
    && same_int a.parent_key_offset_relative b.parent_key_offset_relative
    && same_int a.volatile_sub_keys_list_offset_relative b.volatile_sub_keys_list_offset_relative
    && same_int a.key_values_list_offset_relative b.key_values_list_offset_relative
    && same_int a.class_name_offset_relative b.class_name_offset_relative

unfoldable pub same_key : KeyNode → KeyNode → Bool
same_key a b = same_plain a b && same_signed a b && same_flag a.allocated b.allocated

-- what reads somewhere is this record
unfoldable pub is_this : KeyNode → Paper KeyNode → Bool
is_this key (success k) = same_key k key
is_this key (refused t) = false

unfoldable pub is_in_place : List ℕ → KeyNode → Bool
is_in_place image key = is_this key (key_at image key.position key.base)

-- ---- "before all others": an answer behind the check. "01: 0 for 9, 16 and every number above 16": its position is 0

unfoldable pub behind : {A : Type 0} → List ℕ → KeyNode → Paper A → Paper A
behind image key a = cond (is_in_place image key) a (refused (by OTHER_PLACE 0))
