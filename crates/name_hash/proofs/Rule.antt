-- The rule of upper case above 255, and what holds of it everywhere. Assumes nothing.
use Rattle.std.proofs.Common.{◌≡◌, ℕ, zero, suc, ◌+◌, ◌-◌, ◌^◌, ◌<◌, ◌≤◌, Bool, true, false, cond, eqb, ltb, leb, sym, refl, ap, ◌∙◌, subst, inl, inr, true≢false, le_of_suc-le-suc, not-suc-le-zero, add-zero, add-suc, suc-add, zero-add, arith, ltb-false, ltb-true, ne_eqb, eqb-true, le-leb, leb-false, leb-true}
use borrow.Author.Tests.{lt-leb}
use Rattle.name_hash.specs.Characters.{between, upper_of}
use Rattle.name_hash.specs.Case.{Unnamed, Rule}

-- ---- two tests, both passed

here : (b rest : Bool) → cond b rest false ≡ true → b ≡ true
here true rest e = refl
here false rest e = e

there : (b rest : Bool) → cond b rest false ≡ true → rest ≡ true
there true rest e = e
there false rest e = absurd (true≢false (sym e))

-- ---- a range

inside : (a e x : ℕ) → a ≤ x → x ≤ e → between a e x ≡ true
unfolding between
inside a e x l h = simp (le-leb _ _ l, le-leb _ _ h)

before : (a e x : ℕ) → x < a → between a e x ≡ false
unfolding between
before a e x l = simp (lt-leb _ _ l)

behind : (a e x : ℕ) → a ≤ e → e < x → between a e x ≡ false
unfolding between
behind a e x l h = let k : a ≤ x = omega arith in simp (le-leb _ _ k, lt-leb _ _ h)

-- what a test of it tells
pub in_range : {a e x : ℕ} {r : Bool} → r ≡ between a e x → r ≡ true → (a ≤ x) × (x ≤ e)
unfolding between
in_range {a} {e} {x} t h = (leb-true _ _ (here (leb a x) _ (sym t ∙ h)), leb-true _ _ (there (leb a x) _ (sym t ∙ h)))

pub out_of_range : {a e x : ℕ} {r : Bool} → r ≡ between a e x → r ≡ false → a ≤ x → e < x
unfolding between
out_of_range {a} {e} {x} t h l = leb-false _ _ (subst (λ (b : Bool). cond b (leb x e) false ≡ false) (le-leb a x l) (sym t ∙ h))

-- ---- above 255 the two ranges alone decide

above : (x : ℕ) → 256 ≤ x → upper_of x ≡ cond (between 1072 1103 x) (x - 32) (cond (between 1104 1119 x) (x - 80) x)
unfolding upper_of
above x h =
    let d : x ≡ 247 → ⊥ = λ e. omega arith in
    let f : x ≡ 255 → ⊥ = λ e. omega arith in
    simp (behind 97 122 x (omega arith) (omega arith), behind 224 254 x (omega arith) (omega arith), ne_eqb _ _ d, ne_eqb _ _ f)

others : (x : ℕ) → 256 ≤ x → Unnamed x → upper_of x ≡ x
others x l (inl h) = simp (above x l, before 1072 1103 x h, before 1104 1119 x (omega arith))
others x l (inr h) = simp (above x l, behind 1072 1103 x (omega arith) (omega arith), behind 1104 1119 x (omega arith) h)

pub unnamed : (x : ℕ) → (1072 ≤ x → 1119 < x) → Unnamed x
unnamed x f = go (leb 1072 x) refl
  where
    go : (b : Bool) → leb 1072 x ≡ b → Unnamed x
    go true l = inr (f (leb-true _ _ l))
    go false l = inl (leb-false _ _ l)

-- ---- what holds everywhere: below 1120 antt computes it, number after number, and from there on nothing changes

-- a test passes at the n numbers from i on
unfoldable passes : (ℕ → Bool) → ℕ → ℕ → Bool
passes p zero i = true
passes p (suc n) i = cond (p i) (passes p n (suc i)) false

passed : (p : ℕ → Bool) (n i k : ℕ) → passes p n i ≡ true → k < n → p (i + k) ≡ true
unfolding passes
passed p zero i k e h = absurd (not-suc-le-zero h)
passed p (suc n) i zero e h = ap p (add-zero i) ∙ here (p i) _ e
passed p (suc n) i (suc k) e h = ap p (add-suc i k ∙ sym (suc-add i k)) ∙ passed p n (suc i) k (there (p i) _ e) (le_of_suc-le-suc h)

everywhere : (P : ℕ → Type 0) (p : ℕ → Bool) → passes p 1120 0 ≡ true → ((x : ℕ) → p x ≡ true → P x) → ((x : ℕ) → upper_of x ≡ x → P x) → (x : ℕ) → P x
everywhere P p e low high x = go (ltb x 1120) refl
  where
    go : (b : Bool) → ltb x 1120 ≡ b → P x
    go true t = low x (ap p (sym (zero-add x)) ∙ passed p 1120 0 x e (ltb-true _ _ t))
    go false t = let h : 1120 ≤ x = ltb-false _ _ t in high x (others x (omega arith) (inr h))

unit : (x : ℕ) → x < 2 ^ 16 → upper_of x < 2 ^ 16
unfolding passes upper_of between
unit =
    everywhere
    (λ x. x < 2 ^ 16 → upper_of x < 2 ^ 16)
    (λ x. ltb (upper_of x) (2 ^ 16))
    refl
    (λ x t h. ltb-true _ _ t)
    (λ x e h. subst (λ (y : ℕ). y < 2 ^ 16) (sym e) h)

stays : (x : ℕ) → upper_of (upper_of x) ≡ upper_of x
unfolding passes upper_of between
stays =
    everywhere
    (λ x. upper_of (upper_of x) ≡ upper_of x)
    (λ x. eqb (upper_of (upper_of x)) (upper_of x))
    refl
    (λ x t. eqb-true _ _ t)
    (λ x e. ap upper_of e)

pub rule : Rule
rule =
    record {
      first = λ x l h. simp (above x (omega arith), inside 1072 1103 x l h);
      second = λ x l h. simp (above x (omega arith), behind 1072 1103 x (omega arith) (omega arith), inside 1104 1119 x l h);
      others = others;
      unit = unit;
      stays = stays;
    }
