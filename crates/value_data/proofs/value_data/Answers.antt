use Rattle.value_data.specs.Answers.{data_of}
use Rattle.value_data.proofs.Answers.{data_copied}
use Rattle.value_data.proofs.value_data.Goals as goal

pub returns : goal.returns
unfolding data_of
returns c =
    data_copied _ _ _ _ _ _ _ c.in_ok-place.ensures c.if-out-places.false c.copy_data.ensures
