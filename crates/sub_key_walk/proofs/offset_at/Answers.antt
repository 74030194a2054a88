use Rattle.sub_key_walk.proofs.offset_at.Goals as goal

pub returns-then-size-eq8 : goal.returns-then-size-eq8
returns-then-size-eq8 c =
    c.pair.ensures
