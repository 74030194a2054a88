use Rattle.std.proofs.Common.{◌≡◌}
use Rattle.name_hash.specs.Characters.{upper_of, character_of}
use Rattle.name_hash.specs.Hash.{hash_of}
use Rattle.name_hash.proofs.hash_characters.Given as goal

abbrev pub invariant-loop-i : goal.invariant-loop-i
invariant-loop-i l =
    l.hash ≡ hash_of upper_of (character_of l.units l.name) l.i
