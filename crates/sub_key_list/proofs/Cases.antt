-- The list at a position, case by case, each from the facts that a reader tests. Assumes nothing.
use mathlib.Core.Path.{◌≡◌, refl, subst}
use mathlib.Core.Bool.{Bool, true, false, cond}
use mathlib.Core.List.{List}
use Prim.Native.Nat.{ℕ, ◌*◌, ◌-◌, ◌≤◌, ◌<◌}
use native.Mathlib.Nat.{mul-le-mul}
use native.Mathlib.Omega.{arith}
use lib.Dec.{ltb, eqb}
use lib.ListN.{length}
use borrow.Author.Tests.{eq-eqb, ne_eqb, lt-ltb, le-ltb}
use Rattle.words.specs.Refusals.{OUTSIDE, BAD_SIGN, CUT_SHORT, NO_ROOM}
use Rattle.words.specs.Paper.{Told, Paper, success, refused, by}
use Rattle.words.proofs.Papers.{success-refused, same-told}
use Rattle.words.proofs.Plain.{Plain, Plainly}
use Rattle.sub_key_list.specs.Lists.{RI, entry_size, Listed, leaf, index, of_kind, kind_at, count_at, list_at}

-- the bytes of all entries are few
pub entries_fit : (size count : ℕ) → size < 256 → count < 65536 → size * count ≤ 16711425
entries_fit size count h k = mul-le-mul {n₁ = size} {m₁ = count} {n₂ = 255} {m₂ = 65535} (omega arith) (omega arith)

module _ (s : List ℕ) (p : ℕ) where
  pub list_outside : length s < p → refused (by OUTSIDE p) ≡ list_at s p
  unfolding list_at
  list_outside h = simp (lt-ltb _ _ h)

  -- the position is in the image, and so many bytes stand from it on
  module _ (h : p ≤ length s) {left : ℕ} (q : left ≡ length s - p) where
    pub list_cut : left < 8 → refused (by CUT_SHORT p) ≡ list_at s p
    unfolding list_at
    list_cut k = simp (le-ltb _ _ h, ← q, lt-ltb _ _ k)

    -- the header is there: its kind, the bytes an entry, and its count
    module _ (k : 8 ≤ left) {kind count size : ℕ} (e : kind ≡ kind_at s p) (f : count ≡ count_at s p) (g : size ≡ entry_size kind) where
      pub list_unknown : size ≡ 0 → refused (by BAD_SIGN p) ≡ list_at s p
      unfolding list_at
      list_unknown z = simp (le-ltb _ _ h, ← q, le-ltb _ _ k, ← e, ← g, eq-eqb _ _ z)

      module _ (z : size ≡ 0 → ⊥) where
        pub list_passes : left - 8 < size * count → refused (by CUT_SHORT p) ≡ list_at s p
        unfolding list_at
        list_passes l = simp (le-ltb _ _ h, ← q, le-ltb _ _ k, ← e, ← f, ← g, ne_eqb _ _ z, lt-ltb _ _ l)

        module _ (l : size * count ≤ left - 8) where
          pub list-index : kind ≡ RI → success (index count) ≡ list_at s p
          unfolding list_at of_kind
          list-index i = simp (le-ltb _ _ h, ← q, le-ltb _ _ k, ← e, ← f, ← g, ne_eqb _ _ z, le-ltb _ _ l, eq-eqb _ _ i)

          pub list-leaf : (kind ≡ RI → ⊥) → success (leaf kind size count) ≡ list_at s p
          unfolding list_at of_kind
          list-leaf i = simp (le-ltb _ _ h, ← q, le-ltb _ _ k, ← e, ← f, ← g, ne_eqb _ _ z, le-ltb _ _ l, ne_eqb _ _ i)

-- what holds of each of its refusals holds of whatever a list is refused by
cond-refused : (P : Told → Type 0) (b : Bool) {u t : Told} {a : Paper Listed} → P u → (a ≡ refused t → P t) → cond b (refused u) a ≡ refused t → P t
cond-refused P true h g e = subst P (same-told e) h
cond-refused P false h g e = g e

pub list_every : (P : Told → Type 0) (s : List ℕ) (p : ℕ) → P (by OUTSIDE p) → P (by CUT_SHORT p) → P (by BAD_SIGN p) → (t : Told) → list_at s p ≡ refused t → P t
unfolding list_at
list_every P s p o c b t =
    cond-refused P (ltb (length s) p) o
    (cond-refused P (ltb (length s - p) 8) c
    (cond-refused P (eqb (entry_size (kind_at s p)) 0) b
    (cond-refused P (ltb (length s - p - 8) (entry_size (kind_at s p) * count_at s p)) c
    (λ e. absurd (success-refused e)))))

-- so each tells the list's position
pub list_position : (s : List ℕ) (p : ℕ) (t : Told) → list_at s p ≡ refused t → t.position ≡ p
list_position s p = list_every (λ t. t.position ≡ p) s p refl refl refl

-- and none is NO ROOM
pub list-plain : (s : List ℕ) (p : ℕ) → Plainly (list_at s p)
list-plain s p = list_every Plain s p (plain OUTSIDE (omega arith)) (plain CUT_SHORT (omega arith)) (plain BAD_SIGN (omega arith))
  where
    plain : (n : ℕ) → (n ≡ NO_ROOM → ⊥) → Plain (by n p)
    plain n h = record { other = h; places = refl; entries = refl; dropped = refl }
