-- Document 01's starred examples of lists and of the walk, and those of the strict profile, proved of the definitions by computing
-- them. Assumes nothing.
use mathlib.Core.Path.{refl}
use Rattle.words.specs.Words.{little, signed}
use Rattle.words.specs.Paper.{on_success, and_then}
use Rattle.words.specs.Buffers.{in_room, buffer_after}
use Rattle.sub_key_list.specs.Lists.{entry_size, of_kind, list_at}
use Rattle.sub_key_list.specs.Leaves.{keep, leaf_kept, drop_one, leaf_dropped, only_leaf}
use Rattle.sub_key_list.specs.Strict.{least_minor, permitted, ri_under_ri, barred, own_cell, strict_checks, strict_at}
use Rattle.cell.specs.Cells.{magnitude_at, allocated_at}
use Rattle.sub_key_walk.specs.Trace.{each, below, trace, kept_in, kept_of, lists_in, entries_in, dropped_in}
use Rattle.sub_key_walk.specs.Judge.{counted, in_budget, one, after, judge}
use Rattle.sub_key_walk.specs.Answers.{from_record, reached_for}
use Rattle.sub_key_walk.specs.Examples.{Examples}
use Rattle.sub_key_walk.specs.StrictExamples.{StrictExamples}

pub examples : Examples
unfolding little entry_size of_kind list_at keep leaf_kept drop_one leaf_dropped only_leaf each below trace kept_in kept_of lists_in entries_in dropped_in counted in_budget one after judge on_success in_room from_record reached_for buffer_after
examples = record {
  li_list = refl;
  empty_list = refl;
  cut_list = refl;
  unknown_list = refl;
  lh_list = refl;
  ri_list = refl;
  li_answer = refl;
  li_kept = refl;
  li_buffer = refl;
  empty_answer = refl;
  empty_kept = refl;
  cut_answer = refl;
  unknown_answer = refl;
  lh_answer = refl;
  lh_kept = refl;
  deep_answer = refl;
  spent_answer = refl;
  full_answer = refl;
  leaf_answer = refl;
  leaf_full = refl;
}

pub strict_examples : StrictExamples
unfolding little signed entry_size of_kind list_at keep leaf_kept drop_one leaf_dropped only_leaf each below trace kept_in kept_of lists_in entries_in dropped_in counted in_budget one after judge on_success and_then in_room from_record reached_for buffer_after least_minor permitted ri_under_ri barred own_cell strict_checks strict_at magnitude_at allocated_at
strict_examples = record {
  lf_2 = refl;
  lf_3 = refl;
  lh_4 = refl;
  lh_5 = refl;
  li_0 = refl;
  ri_0 = refl;
  ri_named = refl;
  li_named = refl;
  empty_8 = refl;
  empty_7 = refl;
  one_short = refl;
  past_image = refl;
  one_more = refl;
  size_0 = refl;
  is_free = refl;
  size_least = refl;
  list_first = refl;
  kind_second = refl;
  size_last = refl;
  at_list = refl;
  walk = refl;
  walk_kept = refl;
  walk_buffer = refl;
  walk_no_room = refl;
  walk_kind = refl;
  walk_size = refl;
  walk_top_size = refl;
  itself = refl;
  itself_ordinary = refl;
  itself_spent = refl;
  free_ordinary = refl;
  leaf_3 = refl;
  leaf_2 = refl;
  leaf_full = refl;
  leaf_ri = refl;
}
