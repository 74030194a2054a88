use mathlib.Core.Path.{◌∙◌}
use Rattle.deleted_keys.proofs.Keys.{allocated, a_free_one}
use Rattle.deleted_keys.proofs.is_deleted.Goals as goal

pub returns-then-size-ge0 : goal.returns-then-size-ge0
returns-then-size-ge0 c =
    c.is_ok.ensures.value ∙ a_free_one _ _ _ c.ranges.size c.if-size-ge0.true _ c.read_key_node.ensures

pub returns-else-size-ge0 : goal.returns-else-size-ge0
returns-else-size-ge0 c =
    allocated _ _ _ c.ranges.size c.if-size-ge0.false
