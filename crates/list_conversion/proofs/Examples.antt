-- The worked examples, computed from the definitions. Assumes nothing.
use mathlib.Core.Path.{refl}
use Rattle.words.specs.Words.{little, signed}
use Rattle.words.specs.Paper.{on_success, then_by, checked, handed}
use Rattle.words.specs.Buffers.{in_room, buffer_after}
use Rattle.writing.specs.Writing.{bytes_of}
use Rattle.sub_key_list.specs.Lists.{entry_size, of_kind, list_at}
use Rattle.cell_key_node.specs.Records.{size_of as recordSize, cell_fault, fault_at}
use Rattle.cell_key_node.specs.Key.{key_fault, key_of, key_at, key_name}
use Rattle.cell_key_node.specs.ValueList.{up_to}
use Rattle.name_hash.specs.Characters.{between, upper_of}
use Rattle.name_hash.specs.Hash.{hash_of, name_hash_of}
use Rattle.list_conversion.specs.Cells.{cell_size, row_bytes, cell_of}
use Rattle.list_conversion.specs.Entries.{only_kind, count_of, key_hash, hashed, lh_entries, li_entries}
use Rattle.list_conversion.specs.Answers.{size_of}
use Rattle.list_conversion.specs.Examples.{Examples}

pub examples : Examples
unfolding little signed on_success checked handed in_room buffer_after bytes_of entry_size of_kind list_at recordSize cell_fault fault_at key_fault key_of key_at key_name up_to between upper_of hash_of name_hash_of cell_size row_bytes cell_of then_by only_kind count_of key_hash hashed lh_entries li_entries size_of
examples = record {
  hashes = refl;
  none = refl;
  back = refl;
  there = refl;
  lh_none = refl;
  lh_one = refl;
  li_none = refl;
  li_one = refl;
  li_two = refl;
  lf_to_li = refl;
  li_to_li = refl;
  ri_to_li = refl;
  lh_to_lh = refl;
  ri_to_lh = refl;
  cut = refl;
  past = refl;
  sum = refl;
  record_sum = refl;
  key_refused = refl;
  hash_refused = refl;
  first = refl;
  second = refl;
  room = refl;
  fits = refl;
  kept = refl;
}
