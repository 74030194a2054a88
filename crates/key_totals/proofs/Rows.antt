-- Rows of calls that start with an empty table, and all that holds of an image (specs/Rows.antt). Assumes nothing.
use Rattle.std.proofs.Common.{◌≡◌, ℕ, zero, suc, ◌^◌, ◌<◌, Bool, true, false, cond, eqb, ◌⊎◌, List, [], ◌∷◌, get_or, replicate, sym, refl, ap, ◌∙◌, subst, inl, inr, arith, eqb-true}
use borrow.Author.Tests.{eqb-false}
use Rattle.words.specs.Refusals.{NOT_FOUND}
use Rattle.words.specs.Paper.{refused, by}
use native.Mathlib.Omega.{by_contra}
use lib.ListN.{length-replicate}
use Rattle.words.proofs.Little.{Bytes}
use Rattle.key_totals.specs.declared.Place.{Place}
use Rattle.key_totals.specs.declared.Totals.{Totals}
use Rattle.key_totals.specs.declared.Changed.{Changed}
use Rattle.key_totals.specs.Table.{PLACES, free, entry, none, counted_in, laid, Outcome, place_of, number_in, number_of, kept_paper}
use Rattle.key_totals.specs.Rows.{total, Entry, Once, Long, Summed, Call, add, replace, remove, named, called, Answers, After, Began, In, place_for, content_of, read_after, held_by, held_after, Own, Row, Holds}
use Rattle.key_totals.proofs.Places.{same_or_not}
use Rattle.key_totals.proofs.Sums.{summed_fits}
use Rattle.key_totals.proofs.Entries.{place_entry, free-entry, same_position, same_number, finds}
use Rattle.key_totals.proofs.Calls.{number_nowhere}
use Rattle.key_totals.proofs.Changes.{Change, Changing, either, laid_there, stood, gives_at, calls}
use Rattle.std.specs.Prelude.{Ok, Err}
use Rattle.std.specs.declared.result.Result.{Result}
use Rattle.sub_key_walk.specs.declared.WalkRefusal.{WalkRefusal}

-- ---- the empty table

free-row : (n i : ℕ) → get_or (replicate n free) i free ≡ free
free-row zero i = refl
free-row (suc n) zero = refl
free-row (suc n) (suc i) = free-row n i

free-sum : (n : ℕ) → total counted_in (replicate n free) ≡ 0
unfolding total
free-sum zero = refl
free-sum (suc n) = omega (arith, free-sum n)

none_summed : Summed none
none_summed =
    record {
      long = length-replicate PLACES free;
      small = λ i. subst (λ (e : Place). e.kept < 2 ^ 32) (sym (free-row PLACES i)) (omega arith);
      sum = sym (free-sum PLACES);
    }

none_empty : (i p n : ℕ) → Entry none i p n → ⊥
none_empty i p n e = free-entry free p n refl (sym (free-row PLACES i) ∙ e)

-- ---- a row of calls

-- each entry's number is the walk's own, by a call of which Q holds
abbrev Owned : List ℕ → (Call → Type 0) → Totals → Type 0
Owned s Q t = (i p n : ℕ) → Entry t i p n → (c : Call) × Q c × (named c ≡ p) × Own s c n

module _ (s : List ℕ) (b : Bytes s) (Q : Call → Type 0) where
  -- what a call laid is its own
  own_laid : (t : Totals) (c : Call) (n : ℕ) → Change s t c n → Q c → (p m : ℕ) → content_of c n ≡ entry p m → (d : Call) × Q d × (named d ≡ p) × Own s d m
  own_laid t (add key budget) n h w p m e =
      (add key budget, w, same_position e, subst (λ (k : ℕ). Own s (add key budget) k) (same_number e) (gives_at s t (add key budget) n h))
  own_laid t (replace key budget) n h w p m e =
      (replace key budget, w, same_position e, subst (λ (k : ℕ). Own s (replace key budget) k) (same_number e) (gives_at s t (replace key budget) n h))
  own_laid t (remove q) n h w p m e = absurd (free-entry free p m refl e)

  own_next : (t : Totals) (m : Summed t) (c : Call) (n : ℕ) → Change s t c n → Q c → Owned s Q t → Owned s Q (laid t (place_for t c) (content_of c n))
  own_next t m c n h w o i p k e = go (same_or_not i (place_for t c))
    where
      go : (i ≡ place_for t c) ⊎ (i ≡ place_for t c → ⊥) → (d : Call) × Q d × (named d ≡ p) × Own s d k
      go (inl q) = own_laid t c n h w p k (laid_there s t m.long c n h i p k q e)
      go (inr q) = o i p k (stood s t m.long c n h i p k q e)

  row_on : (cs : List Call) (t u : Totals) → ((c : Call) → In c cs → Q c) → Summed t → Once t → Owned s Q t → After s t cs u
      → Summed u × Once u × Owned s Q u
  row_on [] t u q m o w a = (subst Summed (sym a) m, subst Once (sym a) o, subst (Owned s Q) (sym a) w)
  row_on (c ∷ cs) t u q m o w a =
      let r = a.0 in
      let k = calls s b t c r m.long a.1 in
      row_on cs r.table u (λ d x. q d (inr x)) (k.keeps m) (k.once o) (owned r (either s t c r a.1)) a.2
    where
      owned : (r : Changed) → (r.table ≡ t) ⊎ ((n : ℕ) × Changing s t c r n) → Owned s Q r.table
      owned r (inl e) = subst (Owned s Q) (sym e) w
      owned r (inr x) = subst (Owned s Q) (sym x.1.0) (own_next t m c x.0 x.1.1 (q c (inl refl)) w)

-- ---- reading a key

-- behind one call
held_one : (s : List ℕ) → Bytes s → (t : Totals) (c : Call) (r : Changed) → Long t → Once t → Answers s t c r → (p : ℕ)
    → number_of r.table p ≡ held_by c p (number_of t p) (kept_paper r.answer)
held_one s b t c r l o a p = by_answer r.answer refl
  where
    by_key : (n : ℕ) → r.answer ≡ Ok n → (x : Bool) → eqb p (named c) ≡ x → number_of r.table p ≡ cond x (read_after c n) (number_of t p)
    by_key n e true q = ap (number_of r.table) (eqb-true p (named c) q) ∙ (calls s b t c r l a).reads o n e
    by_key n e false q = (calls s b t c r l a).others p (eqb-false p (named c) q)

    by_answer : (w : Result ℕ WalkRefusal) → r.answer ≡ w → number_of r.table p ≡ held_by c p (number_of t p) (kept_paper w)
    by_answer (Ok n) e = by_key n e (eqb p (named c)) refl
    by_answer (Err f) e = ap (λ (u : Totals). number_of u p) ((calls s b t c r l a).refused f e)

-- and behind a row
held-row : (s : List ℕ) → Bytes s → (cs : List Call) (t u : Totals) → Summed t → Once t → After s t cs u → (p : ℕ)
    → number_of u p ≡ held_after s t cs p (number_of t p)
held-row s b [] t u m o a p = ap (λ (x : Totals). number_of x p) a
held-row s b (c ∷ cs) t u m o a p =
    let r = a.0 in
    let k = calls s b t c r m.long a.1 in
    let h : number_of r.table p ≡ held_by c p (number_of t p) (called s t c).answer =
    held_one s b t c r m.long o a.1 p ∙ ap (λ (x : Outcome). held_by c p (number_of t p) x.answer) a.1 in
    held-row s b cs r.table u (k.keeps m) (k.once o) a.2 p
    ∙ ap (held_after s r.table cs p) h
    ∙ ap (λ (x : Outcome). held_after s x.table cs p (held_by c p (number_of t p) (called s t c).answer)) a.1

none_reads : (p : ℕ) → number_of none p ≡ refused (by NOT_FOUND 0)
none_reads p = sym (number_nowhere none p refl (by_contra _ _ (λ h. none_empty (place_of none p) p (number_in none p) (place_entry none none_summed.long p h))))

row-holds : (s : List ℕ) → Bytes s → (cs : List Call) (t : Totals) → Began s cs t → Row s cs t
row-holds s b cs t a =
    let z : Summed a.0 = subst Summed (sym a.1) none_summed in
    let o : Once a.0 = subst Once (sym a.1) (λ i j p m n e f. absurd (none_empty i p m e)) in
    let w : Owned s (λ c. In c cs) a.0 = subst (Owned s (λ c. In c cs)) (sym a.1) (λ i p n e. absurd (none_empty i p n e)) in
    let r = row_on s b (λ c. In c cs) cs a.0 t (λ c x. x) z o w a.2 in
    let read : (p : ℕ) → number_of t p ≡ held_after s none cs p (refused (by NOT_FOUND 0)) = λ p.
    held-row s b cs a.0 t z o a.2 p
    ∙ ap (λ (x : Totals). held_after s x cs p (number_of x p)) a.1
    ∙ ap (held_after s none cs p) (none_reads p) in
    record { summed = r.0; once = r.1; fits = summed_fits t r.0; last = read; own = r.2 }

-- ---- all of it, of any image of bytes

pub rows : (s : List ℕ) → Bytes s → Holds s
rows s b = record { finds = finds; each = λ t c r l a. calls s b t c r l a; row = row-holds s b }
