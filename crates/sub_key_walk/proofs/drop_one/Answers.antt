use mathlib.Core.Path.{◌≡◌, sym}
use mathlib.Core.Bool.{true, false}
use Prim.Native.Nat.{ℕ, ◌+◌, ◌≤◌, ◌<◌}
use native.Mathlib.Omega.{arith}
use Rattle.sub_key_list.proofs.Leaves.{drop_kept, drop_dropped}
use Rattle.std.specs.Option.{SomeIff, is_some}
use Rattle.std.specs.Prelude.{Some, None}
use Rattle.std.specs.declared.option.Option.{Option}
use Rattle.sub_key_walk.proofs.drop_one.Goals as goal

-- what an addition that is checked says of its sum
sum_fits : (r : Option ℕ) (n : ℕ) → SomeIff r (n < 4294967296) n → is_some r ≡ true → n < 4294967296
sum_fits (Some x) n s e = s.0
sum_fits None n s e = absurd (let z : ⊥ = cc in z)

sum_passes : (r : Option ℕ) (n : ℕ) → SomeIff r (n < 4294967296) n → is_some r ≡ false → 4294967296 ≤ n
sum_passes (Some x) n s e = absurd (let z : ⊥ = cc in z)
sum_passes None n s e = omega (arith, s)

pub returns-then-is_none : goal.returns-then-is_none
returns-then-is_none c =
    let a = c.args in sym (drop_dropped (a.v + a.base) (sum_passes _ _ c.checked_add.ensures c.if-is_none.ensures))

pub returns-else-is_none : goal.returns-else-is_none
returns-else-is_none c =
    let a = c.args in sym (drop_kept (a.v + a.base) (sum_fits _ _ c.checked_add.ensures c.if-is_none.ensures))
