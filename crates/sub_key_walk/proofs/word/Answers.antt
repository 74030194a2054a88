use native.Mathlib.Omega.{arith}
use Rattle.words.proofs.Little.{little_4}
use Rattle.sub_key_walk.proofs.word.Goals as goal

pub returns : goal.returns
returns c =
    let a = c.args in omega (arith, c.from_le_bytes.ensures, little_4 a.image.now a.at)
