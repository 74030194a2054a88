-- The examples of specs/Examples.antt, proved of the definitions by computing them. Assumes nothing.
use mathlib.Core.Path.{refl}
use Rattle.words.specs.Words.{little, signed}
use Rattle.words.specs.Paper.{on_success, checked, and_then}
use Rattle.sub_key_list.specs.Lists.{entry_size, of_kind, list_at}
use Rattle.sub_key_list.specs.Leaves.{keep, leaf_kept, drop_one, leaf_dropped}
use Rattle.sub_key_walk.specs.Trace.{each, below, trace, kept_in, kept_of, lists_in, entries_in, dropped_in}
use Rattle.sub_key_walk.specs.Judge.{counted, in_budget, one, after, judge}
use Rattle.sub_key_walk.specs.Answers.{from_record}
use Rattle.cell_key_node.specs.Records.{size_of, cell_fault, fault_at}
use Rattle.cell_key_node.specs.Key.{key_fault, key_of, key_at}
use Rattle.cell_key_node.specs.ValueList.{place_of, entries_of}
use Rattle.cell_key_value.specs.Lookup.{look_through, lookup_of}
use Rattle.key_in_place.specs.Place.{same_int, same_key, is_this, is_in_place, behind}
use Rattle.key_in_place.specs.Examples.{Examples}

pub examples : Examples
unfolding little signed checked and_then entry_size of_kind list_at keep leaf_kept drop_one leaf_dropped each below trace kept_in kept_of lists_in entries_in dropped_in counted in_budget one after judge on_success from_record size_of cell_fault fault_at key_fault key_of key_at place_of entries_of look_through lookup_of same_int same_key is_this is_in_place behind
examples = record {
  itself = (refl, refl);
  other_name = (refl, refl);
  other_bytes = refl;
  other_place = refl;
  other_base = (refl, refl);
  first = (refl, refl);
  no_values = (refl, refl);
}
