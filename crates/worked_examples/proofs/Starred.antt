-- Document 01's starred sentences, each from the examples of its crate. Assumes nothing.
use Rattle.base_block.proofs.Examples as checksum
use Rattle.sub_key_walk.proofs.Examples as walk
use Rattle.name_hash.proofs.Examples as hash
use Rattle.cell_key_node.proofs.Examples as values
use Rattle.worked_examples.specs.Starred.{Starred}

pub starred : Starred
starred =
    record {
      checksum_of_zeros = (checksum.examples).zeros;
      checksum_of_ones = (checksum.examples).ones;
      checksum_short = (checksum.examples).short;
      li_answer = (walk.examples).li_answer;
      li_kept = (walk.examples).li_kept;
      empty_answer = (walk.examples).empty_answer;
      empty_kept = (walk.examples).empty_kept;
      cut_to_7 = (walk.examples).cut_answer;
      unknown_kind = (walk.examples).unknown_answer;
      lh_answer = (walk.examples).lh_answer;
      lh_kept = (walk.examples).lh_kept;
      budget_8 = (walk.examples).deep_answer;
      budget_7 = (walk.examples).spent_answer;
      hash_of_A = (hash.examples).one;
      hash_of_ab = (hash.examples).two;
      no_values = (values.examples).none;
      no_list = (values.examples).no_offset;
      offset_8 = (values.examples).at-end;
      offset_7 = (values.examples).past_end;
    }
