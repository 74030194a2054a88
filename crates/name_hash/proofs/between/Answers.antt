use Rattle.std.proofs.Common.{◌≡◌, ℕ, Bool, true, false, cond, refl, arith}
use Rattle.std.specs.Prelude.{nat_le, ◌&&◌}
use Rattle.std.specs.Ordering.{is_le, nat_cmp}
use Rattle.std.proofs.lemmas.Bool.Decides.{nat_tests}
use Rattle.name_hash.specs.Characters.{between}
use Rattle.name_hash.proofs.between.Goals as goal

-- the library's tests in the definition's words
tested : (x y : ℕ) → is_le (nat_cmp x y) ≡ nat_le x y
tested x y = grind (arith, nat_tests)

both : (p q : Bool) → (p && q) ≡ cond p q false
both true q = refl
both false q = refl

pub returns : goal.returns
unfolding between
returns c =
    let r = c.new.ensures in
    simp (c.contains.ensures.value, r.start, r.end, r.exhausted, tested, both)
