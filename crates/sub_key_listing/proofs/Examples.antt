-- The examples of specs/Examples.antt, proved of the definitions by computing them. Assumes nothing.
use mathlib.Core.Path.{refl}
use Rattle.words.specs.Words.{little, signed}
use Rattle.words.specs.Paper.{on_success, then_by, checked}
use Rattle.words.specs.Buffers.{in_room, buffer_after}
use Rattle.writing.specs.Writing.{bytes_of}
use Rattle.sub_key_list.specs.Lists.{entry_size, of_kind, list_at}
use Rattle.sub_key_list.specs.Leaves.{keep, leaf_kept, drop_one, leaf_dropped}
use Rattle.sub_key_walk.specs.Trace.{each, below, trace, kept_in, kept_of, lists_in, entries_in, dropped_in}
use Rattle.sub_key_walk.specs.Judge.{counted, in_budget, one, after, judge}
use Rattle.sub_key_walk.specs.Answers.{from_record, reached_for}
use Rattle.cell_key_node.specs.Records.{size_of, cell_fault, fault_at}
use Rattle.cell_key_node.specs.Key.{key_fault, key_of, key_at}
use Rattle.key_in_place.specs.Place.{same_int, same_key, is_this, is_in_place, behind}
use Rattle.sub_key_listing.specs.Listing.{named, listing_of, same, offsets_in, wellformed}
use Rattle.sub_key_listing.specs.Answers.{compared, checked_of}
use Rattle.sub_key_listing.specs.Examples.{Examples}

pub examples : Examples
unfolding little signed checked on_success then_by in_room buffer_after bytes_of entry_size of_kind list_at keep leaf_kept drop_one leaf_dropped each below trace kept_in kept_of lists_in entries_in dropped_in counted in_budget one after judge from_record reached_for size_of cell_fault fault_at key_fault key_of key_at same_int same_key is_this is_in_place behind named listing_of same offsets_in wellformed compared checked_of
examples = record {
  none = refl;
  some = refl;
  formed = refl;
  cut = refl;
  other_length = refl;
  other_kind = refl;
  order = refl;
  number = refl;
  accepted = refl;
  other_opening = refl;
  other_offsets = refl;
  first = refl;
  second = refl;
  steps = refl;
  elsewhere = (refl, refl);
  written = refl;
  long = refl;
  full = refl;
  refused_first = refl;
  buffer = refl;
}
