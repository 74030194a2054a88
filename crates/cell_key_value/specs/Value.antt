-- Document 01, "Key and value records": the value record.
use Rattle.std.specs.Prelude.{ℕ, ◌+◌, List, take, drop, pos}
use Rattle.std.specs.Int.Signed.{lt_z}
use Rattle.words.specs.Words.{word16, word32, signed}
use Rattle.words.specs.Paper.{Paper, told, paper_of, checked, handed, handed_at}
use Rattle.cell_key_node.specs.Records.{fault_at}
use Rattle.cell_key_value.specs.declared.KeyValue.{KeyValue}
use Rattle.std.specs.declared.result.Result.{Result}
use Rattle.words.specs.declared.Refusal.{Refusal}

-- the fixed part is 24 bytes, "vk" stands at 4, the name's length at 6. "Same order of checks."
unfoldable pub value_fault : List ℕ → ℕ → ℕ
value_fault image position = fault_at image position 24 0x6B76 6

-- "Value record: size 0, "vk" 4, name length 6, data size 8, data offset 12, type 16, flags 20"
-- "A negative size means allocated, a positive one free"
unfoldable pub value_of : List ℕ → KeyValue
value_of cell =
    record {
      size = signed (word32 cell 0);
      allocated = lt_z (signed (word32 cell 0)) (pos 0);
      value_name_size = word16 cell 6;
      data_size_raw = word32 cell 8;
      data_offset_relative = word32 cell 12;
      data_type_raw = word32 cell 16;
      flags_raw = word16 cell 20;
    }

-- the record at a position; a refusal's position is the record's
unfoldable pub value_at : List ℕ → ℕ → Paper KeyValue
value_at image position = checked (value_fault image position) position (value_of (drop position image))

-- "name 24", as a part of the image, and the empty part of a refused record
unfoldable pub value_name : List ℕ → ℕ → List ℕ
value_name image position = handed (value_fault image position) (take (word16 (drop position image) 6) (drop 24 (drop position image)))

-- where it starts, counted from the image's start
unfoldable pub value_name_at : List ℕ → ℕ → ℕ
value_name_at image position = handed_at (value_fault image position) (position + 24)

-- what the code's answer says
abbrev pub value_paper : Result KeyValue Refusal → Paper KeyValue
value_paper = paper_of (λ v. v) told
