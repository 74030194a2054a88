-- The examples of specs/Examples.antt, proved of the definitions by computing them. Assumes nothing.
use Rattle.std.proofs.Common.{refl}
use Rattle.words.specs.Words.{little, signed}
use Rattle.words.specs.Paper.{on_success, checked}
use Rattle.sub_key_list.specs.Lists.{entry_size, of_kind, list_at}
use Rattle.sub_key_list.specs.Leaves.{keep, leaf_kept, drop_one, leaf_dropped}
use Rattle.sub_key_walk.specs.Trace.{each, below, trace, kept_in, kept_of, lists_in, entries_in, dropped_in}
use Rattle.sub_key_walk.specs.Judge.{counted, in_budget, one, after, judge}
use Rattle.sub_key_walk.specs.Answers.{from_record}
use Rattle.cell_key_node.specs.Records.{size_of, cell_fault, fault_at}
use Rattle.cell_key_node.specs.Key.{key_fault, key_of, key_at}
use Rattle.key_in_place.specs.Place.{same_int, same_key, is_this, is_in_place}
use Rattle.key_totals.specs.Table.{suits, first_of, laid, add_here, add_of, replace_here, replace_of, remove_of, number_of}
use Rattle.key_totals.specs.Examples.{Examples}

pub examples : Examples
unfolding little signed checked entry_size of_kind list_at keep leaf_kept drop_one leaf_dropped each below trace kept_in kept_of lists_in entries_in dropped_in counted in_budget one after judge on_success from_record size_of cell_fault fault_at key_fault key_of key_at same_int same_key is_this is_in_place suits first_of laid add_here add_of replace_here replace_of remove_of number_of
examples = record {
  adding = refl;
  added = refl;
  replacing = refl;
  smaller = refl;
  larger = refl;
  removing = refl;
  used_again = refl;
  full = refl;
  full_total = refl;
  made_up_full = refl;
  made_up_after = refl;
  made_up_below = refl;
  read_alike = refl;
  elsewhere = refl;
  elsewhere_full = refl;
  reading = (refl, refl);
}
