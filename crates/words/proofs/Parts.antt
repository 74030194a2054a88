-- Laws of the parts of a row, and of a lent slice. Assumes nothing.
use mathlib.Core.Path.{◌≡◌, sym, ap, ◌∙◌}
use mathlib.Core.List.{List, []}
use Prim.Native.Nat.{ℕ, ◌+◌, ◌≤◌}
use native.Mathlib.Decide.{ℕ_discrete}
use native.Mathlib.Omega.{arith}
use lib.ListN.{length, take, drop, length-drop, length-take}
use lib.Seq.{get_or-take, get_or-drop}
use denote.Ref.{Bor}
use denote.Slice.{slice_val}
use borrow.Author.Tests.{eq-eqb, ne_eqb}
use Rattle.words.specs.Parts.{Part, Lies}
use Rattle.words.specs.Words.{byte_at}
use Rattle.words.specs.Paper.{handed, handed_at}

-- one place, told by two equal distances
pub moved : (p : ℕ × ℕ) {a b : ℕ} → a ≡ b → ◌≡◌ {A = ℕ × ℕ} (p.0, a + p.1) (p.0, b + p.1)
moved p e = ap (λ (k : ℕ). (p.0, k + p.1)) e

module _ {s r : Bor (List ℕ)} {at : ℕ} {has : List ℕ} where
  -- a part told by other words for its place and its bytes
  pub retold : {to : ℕ} {other : List ℕ} → at ≡ to → has ≡ other → Part s r at has → Part s r to other
  retold e f p = record { bytes = p.bytes ∙ f; place = p.place ∙ moved s.ref_ptr e }

  -- a part of a part lies as far behind the start as the two distances are together
  pub within : {t : Bor (List ℕ)} {more : ℕ} {less : List ℕ} → Part s r at has → Part r t more less → Part s t (at + more) less
  within {more = more} p q =
      record {
        bytes = q.bytes;
        place = q.place ∙ ap (λ (x : ℕ × ℕ). (x.0, more + x.1)) p.place ∙ ap (λ (k : ℕ). (s.ref_ptr.0, k)) (omega arith);
      }

  -- two parts of which the same is told are one slice: the same pointer and the same count, so the same machine value, and the same bytes
  pub part_determined : {t : Bor (List ℕ)} → Part s r at has → Part s t at has → (slice_val r.ref_ptr (length r.now) ≡ slice_val t.ref_ptr (length t.now)) × (r.now ≡ t.now)
  part_determined p q =
      let b = p.bytes ∙ sym q.bytes in
      let e = p.place ∙ sym q.place in
      (λ i. slice_val (e i) (length (b i)), b)

  -- what is handed back where a row of checks gives 0, and where it gives another number
  pub handed_part : {n : ℕ} → n ≡ 0 → Part s r at has → Part s r (handed_at n at) (handed n has)
  unfolding handed handed_at
  handed_part e p = simp (eq-eqb _ _ e) p

pub handed-none : {s r : Bor (List ℕ)} (n at : ℕ) (has : List ℕ) → (n ≡ 0 → ⊥) → Part s r 0 [] → Part s r (handed_at n at) (handed n has)
unfolding handed handed_at
handed-none n at has e p = simp (ne_eqb _ _ e) p

-- ---- the bytes that are said of a part are those that stand at its place

pub lies_from : (s : List ℕ) (at : ℕ) → at ≤ length s → Lies s at (drop at s)
lies_from s at h = record { inside = simp length-drop (omega arith); same = λ i l. get_or-drop at s i 0 }

pub lies_part : (s : List ℕ) (at n : ℕ) → at ≤ length s → Lies s at (take n (drop at s))
lies_part s at n h =
    let e = length-take n (drop at s) in
    let d = length-drop at s in
    record { inside = omega arith; same = λ i l. get_or-take n (drop at s) i 0 (omega arith) ∙ get_or-drop at s i 0 }

pub lies_cut : (s : List ℕ) (at n : ℕ) → at ≤ n → n ≤ length s → Lies s at (drop at (take n s))
lies_cut s at n h k =
    let e = length-take n s in
    let d = length-drop at (take n s) in
    record { inside = omega arith; same = λ i l. get_or-drop at (take n s) i 0 ∙ get_or-take n s (at + i) 0 (omega arith) }

pub lies_within : {s t u : List ℕ} {a b : ℕ} → Lies s a t → Lies t b u → Lies s (a + b) u
lies_within {s = s} {a = a} {b = b} p q =
    let h = p.inside in
    let k = q.inside in
    record {
      inside = omega arith;
      same = λ i l. q.same i l ∙ p.same (b + i) (omega arith) ∙ ap (byte_at s) (omega arith);
    }

pub lies_handed : (s : List ℕ) (n at : ℕ) (has : List ℕ) → (n ≡ 0 → Lies s at has) → Lies s (handed_at n at) (handed n has)
unfolding handed handed_at
lies_handed s n at has p = go (ℕ_discrete n 0)
  where
    go : Dec (n ≡ 0) → Lies s (handed_at n at) (handed n has)
    go (yes e) = simp (eq-eqb _ _ e) (p e)
    go (no e) = simp (ne_eqb _ _ e) (record { inside = omega arith; same = λ i l. absurd (omega arith) })
