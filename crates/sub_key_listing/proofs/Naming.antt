-- The loop over the records of a listing: whether all that are left are records of one offset. Assumes nothing.
use mathlib.Core.Path.{◌≡◌, sym, ap, ◌∙◌}
use mathlib.Core.List.{List}
use mathlib.Core.Bool.{Bool, true, false, ◌&&◌}
use Prim.Native.Nat.{ℕ, suc, ◌+◌, ◌-◌, ◌*◌, ◌≤◌, ◌<◌}
use native.Mathlib.Omega.{arith}
use Rattle.sub_key_listing.specs.Listing.{NAMES}
use Rattle.sub_key_listing.specs.Steps.{begins, all_named}

-- what is left behind i records is all of it
abbrev pub Naming : List ℕ → ℕ → ℕ → Type 0
Naming b n i = all_named b (n - i) (18 + 10 * i) ≡ all_named b n 18

module _ (b : List ℕ) (n i : ℕ) (v : Naming b n i) where
  module _ (h : i < n) {t : Bool} (e : t ≡ begins b (18 + 10 * i) 6 NAMES) where
    next : t && all_named b (n - (i + 1)) (18 + 10 * (i + 1)) ≡ all_named b n 18
    unfolding all_named
    next =
        let k : suc (n - (i + 1)) ≡ n - i = omega arith in
        let m : 18 + 10 * (i + 1) ≡ 18 + 10 * i + 10 = omega arith in
        (λ j. e j && all_named b (n - (i + 1)) (m j)) ∙ ap (λ (j : ℕ). all_named b j (18 + 10 * i)) k ∙ v

    pub naming_fails : t ≡ false → false ≡ all_named b n 18
    naming_fails f = ap (λ (q : Bool). q && all_named b (n - (i + 1)) (18 + 10 * (i + 1))) (sym f) ∙ next

    pub naming_step : t ≡ true → Naming b n (i + 1)
    naming_step f = ap (λ (q : Bool). q && all_named b (n - (i + 1)) (18 + 10 * (i + 1))) (sym f) ∙ next

  pub naming_end : n ≤ i → true ≡ all_named b n 18
  unfolding all_named
  naming_end h = let k : 0 ≡ n - i = omega arith in ap (λ (j : ℕ). all_named b j (18 + 10 * i)) k ∙ v
