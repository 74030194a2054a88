use native.Mathlib.Omega.{arith}
use Rattle.words.proofs.Little.{little_4, little_far_4, little_lt}
use Rattle.sub_key_walk.proofs.pair.Goals as goal

pub returns : goal.returns
returns c =
    let a = c.args in
    omega (arith, c.from_le_bytes.ensures, little_4 a.image.now a.at, little_far_4 a.image.now a.at, little_lt 4 a.image.now (λ i. (c.type_inv.image i).fits) a.at)
