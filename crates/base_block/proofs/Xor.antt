-- XOR of three numbers and of four, in any order. Assumes nothing.
use mathlib.Core.Path.{◌≡◌, refl, sym, ap, ap₂, ◌∙◌}
use Prim.Native.Nat.{ℕ, zero, suc, ◌+◌, ◌*◌, ◌/◌, ◌%◌, ◌<◌}
use native.Mathlib.Nat.{mod-lt}
use native.Mathlib.Omega.{arith}
use lib.Arith.{bin_ind}
use lib.Bits.{bit_xor, differ, xor_step, xor_comm, xor_shr, xor_mod}

-- of three last digits
digits_three : (p q r : ℕ) → p < 2 → q < 2 → r < 2 → differ (bit_xor p q) r ≡ differ p (bit_xor q r)
digits_three zero zero r hp hq hr = refl
digits_three zero (suc zero) zero hp hq hr = refl
digits_three zero (suc zero) (suc zero) hp hq hr = refl
digits_three (suc zero) zero r hp hq hr = refl
digits_three (suc zero) (suc zero) zero hp hq hr = refl
digits_three (suc zero) (suc zero) (suc zero) hp hq hr = refl
digits_three zero (suc zero) (suc (suc r)) hp hq hr = absurd (omega arith)
digits_three (suc zero) (suc zero) (suc (suc r)) hp hq hr = absurd (omega arith)
digits_three zero (suc (suc q)) r hp hq hr = absurd (omega arith)
digits_three (suc zero) (suc (suc q)) r hp hq hr = absurd (omega arith)
digits_three (suc (suc p)) q r hp hq hr = absurd (omega arith)

-- of three numbers, by their last digits and the others
pub xor_assoc : (a b c : ℕ) → bit_xor (bit_xor a b) c ≡ bit_xor a (bit_xor b c)
xor_assoc a =
    bin_ind (λ (n : ℕ). (b c : ℕ) → bit_xor (bit_xor n b) c ≡ bit_xor n (bit_xor b c)) (λ b c. refl)
    (λ n ih b c.
    let last : (x : ℕ) → x % 2 < 2 = λ x. mod-lt x (omega arith) in
    xor_step (bit_xor n b) c
    ∙ ap₂ (λ (x y : ℕ). bit_xor x (c / 2) * 2 + differ y (c % 2)) (xor_shr n b 1) (xor_mod n b 1)
    ∙ ap₂ (λ (x y : ℕ). x * 2 + y) (ih (b / 2) (c / 2)) (digits_three (n % 2) (b % 2) (c % 2) (last n) (last b) (last c))
    ∙ sym (ap₂ (λ (x y : ℕ). bit_xor (n / 2) x * 2 + differ (n % 2) y) (xor_shr b c 1) (xor_mod b c 1))
    ∙ sym (xor_step n (bit_xor b c))) a

-- four numbers, the inner two in the other order
pub xor_four : (a b c d : ℕ) → bit_xor (bit_xor a b) (bit_xor c d) ≡ bit_xor (bit_xor a c) (bit_xor b d)
xor_four a b c d =
    xor_assoc a b (bit_xor c d)
    ∙ ap (bit_xor a) (sym (xor_assoc b c d) ∙ ap (λ (x : ℕ). bit_xor x d) (xor_comm b c) ∙ xor_assoc c b d)
    ∙ sym (xor_assoc a c (bit_xor b d))
