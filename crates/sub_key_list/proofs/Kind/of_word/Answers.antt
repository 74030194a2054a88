use native.Mathlib.Omega.{arith}
use Rattle.std.proofs.lemmas.Bool.Decides.{nat_tests}
use Rattle.sub_key_list.specs.Lists.{entry_size}
use Rattle.sub_key_list.proofs.Kind.of_word.Goals as goal

pub returns-in_default : goal.returns-in_default
unfolding entry_size
returns-in_default c = grind (arith, nat_tests)
