use Rattle.std.proofs.Common.{ap, eq-eqb, ne_eqb}
use Rattle.name_hash.specs.Hash.{name_hash_of}
use Rattle.words.specs.Paper.{success}
use Rattle.name_hash.proofs.name_hash.Goals as goal

pub returns-then-flags-eq1 : goal.returns-then-flags-eq1
unfolding name_hash_of
returns-then-flags-eq1 c =
    simp (eq-eqb _ _ c.if-flags-eq1.true) (ap success c.hash_characters.ensures)

pub returns-then-name-eq1 : goal.returns-then-name-eq1
unfolding name_hash_of
returns-then-name-eq1 c =
    simp (ne_eqb _ _ c.if-flags-eq1.false, eq-eqb _ _ c.if-name-eq1.true)

pub returns : goal.returns
unfolding name_hash_of
returns c =
    simp (ne_eqb _ _ c.if-flags-eq1.false, ne_eqb _ _ c.if-name-eq1.false) (ap success c.hash_characters-2.ensures)
