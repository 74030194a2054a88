-- Document 01, "Key and value records": the key record.
use Rattle.std.specs.Prelude.{ℕ, ◌+◌, List, take, drop, pos}
use Rattle.std.specs.Int.Signed.{lt_z}
use Rattle.words.specs.Words.{word16, word32, word64, signed}
use Rattle.words.specs.Paper.{Paper, told, paper_of, checked, handed, handed_at}
use Rattle.cell_key_node.specs.Records.{size_of, fault_at}
use Rattle.cell_key_node.specs.declared.KeyNode.{KeyNode}
use Rattle.std.specs.declared.result.Result.{Result}
use Rattle.words.specs.declared.Refusal.{Refusal}

-- the fixed part is 80 bytes, "nk" stands at 4, the name's length at 76
unfoldable pub key_fault : List ℕ → ℕ → ℕ
key_fault image position = fault_at image position 80 0x6B6E 76

-- "Key record, from its size word: size 0 (signed), "nk" 4, flags 6, time 8 (8 bytes), access 16, parent 20 (signed), subkeys 24,
-- volatile subkeys 28, subkey list 32, volatile list 36 (signed), values 40, value list 44 (signed), security 48, class 52
-- (signed), four largest sizes 56 to 68, work 72, name length 76 and class length 78 (16 bits each)"
-- "A negative size means allocated, a positive one free"
-- Before them, "The key record is to carry its position and base" (document 02, order 11).
unfoldable pub key_of : ℕ → ℕ → List ℕ → KeyNode
key_of p base cell =
    record {
      position = p;
      base = base;
      size = signed (word32 cell 0);
      allocated = lt_z (signed (word32 cell 0)) (pos 0);
      key_node_flag_bits = word16 cell 6;
      last_key_written_time = word64 cell 8;
      access_flag_bits = word32 cell 16;
      parent_key_offset_relative = signed (word32 cell 20);
      number_of_sub_keys = word32 cell 24;
      number_of_volatile_sub_keys = word32 cell 28;
      sub_keys_list_offset_relative = word32 cell 32;
      volatile_sub_keys_list_offset_relative = signed (word32 cell 36);
      number_of_key_values = word32 cell 40;
      key_values_list_offset_relative = signed (word32 cell 44);
      security_key_offset_relative = word32 cell 48;
      class_name_offset_relative = signed (word32 cell 52);
      largest_sub_key_name_size = word32 cell 56;
      largest_sub_key_class_name_size = word32 cell 60;
      largest_value_name_size = word32 cell 64;
      largest_value_data_size = word32 cell 68;
      work_var = word32 cell 72;
      key_name_size = word16 cell 76;
      class_name_size = word16 cell 78;
    }

-- the record at a position, with a base; a refusal's position is the record's
unfoldable pub key_at : List ℕ → ℕ → ℕ → Paper KeyNode
key_at image position base = checked (key_fault image position) position (key_of position base (drop position image))

-- "The name and the slack (from the name's end to the cell's end) are handed back as parts of the caller's image; for a refused
-- record each is the empty part." "name 80"
abbrev pub name_in : List ℕ → List ℕ
name_in cell = take (word16 cell 76) (drop 80 cell)

abbrev pub slack_in : List ℕ → List ℕ
slack_in cell = drop (80 + word16 cell 76) (take (size_of cell) cell)

unfoldable pub key_name : List ℕ → ℕ → List ℕ
key_name image position = handed (key_fault image position) (name_in (drop position image))

unfoldable pub key_slack : List ℕ → ℕ → List ℕ
key_slack image position = handed (key_fault image position) (slack_in (drop position image))

-- where they start, counted from the image's start: the name after the fixed part, the slack after the name
unfoldable pub key_name_at : List ℕ → ℕ → ℕ
key_name_at image position = handed_at (key_fault image position) (position + 80)

unfoldable pub key_slack_at : List ℕ → ℕ → ℕ
key_slack_at image position = handed_at (key_fault image position) (position + (80 + word16 (drop position image) 76))

-- what the code's answer says
abbrev pub key_paper : Result KeyNode Refusal → Paper KeyNode
key_paper = paper_of (λ k. k) told
