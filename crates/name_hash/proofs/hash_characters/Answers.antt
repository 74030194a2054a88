use Rattle.std.proofs.Common.{rules}
use Rattle.name_hash.specs.Characters.{upper_of, character_of}
use Rattle.name_hash.specs.Hash.{hash_of}
use Rattle.name_hash.proofs.Laws.{hash_more}
use Rattle.name_hash.proofs.hash_characters.Goals as goal

pub loop-i-init : goal.loop-i-init
unfolding hash_of
loop-i-init c =
    search rules

pub loop-i-preserved : goal.loop-i-preserved
loop-i-preserved c =
    let a = c.args in cc (hash_more upper_of (character_of a.units a.name.now) c.loop-i.i)
