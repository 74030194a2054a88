-- What holds of any row of parts. Assumes nothing.
use Rattle.bins_arriving.specs.Arriving.{numbered, arriving_paper}
use Prim.Native.Nat.{ℕ, ◌+◌, ◌-◌, ◌^◌, ◌≤◌, ◌<◌}
use mathlib.Core.Path.{◌≡◌, refl, sym, ap, subst, ◌∙◌}
use mathlib.Core.Logic.{◌⊎◌, inl, inr}
use mathlib.Core.List.{List, [], ◌∷◌, ◌++◌, append_assoc, append-nil}
use mathlib.Core.Bool.{Bool, true, false, cond}
use native.Mathlib.Omega.{arith}
use lib.ListN.{length, take, drop, replicate, length-append, take-append-drop, length-take, length-drop, length-replicate}
use lib.Seq.{take-append_seam, take_all, take-take}
use lib.Dec.{ltb, leb, eqb}
use borrow.Author.Tests.{ltb-true, ltb-false, leb-true, leb-false, eqb-true, eqb-false}
use Rattle.words.specs.Refusals.{CUT_SHORT, PAST_END, BAD_BIN}
use Rattle.words.specs.Paper.{Told, Paper, success, refused, by}
use Rattle.bins_arriving.specs.declared.Numbered.{Numbered}
use Rattle.words.proofs.Papers.{success-refused, refused-success, same-told, paper_injective}
use Rattle.hive_bin.specs.declared.BinTotals.{BinTotals}
use Rattle.hive_bin.specs.Walk.{row_go, row, bins_in}
use Rattle.hive_bin.specs.Totals.{sum_over, answer_of, bins_of, no_totals}
use Rattle.hive_bin.proofs.Sums.{plus, plus_none, later, Fault, Fills}
use Rattle.hive_bin.proofs.Pieces.{bins_fill}
use Rattle.hive_bin.proofs.Image.{inside}
use Rattle.bins_arriving.specs.declared.BinsSoFar.{BinsSoFar}
use Rattle.bins_arriving.specs.Arriving.{begun, refuse, too_short, settle, eaten, eat, feed, part_taken, ended}
use Rattle.bins_arriving.specs.Arrival.{joined, After, Arrived, Ends, Complete, Has, due_at, refusal, Holds}
use Rattle.bins_arriving.proofs.Bytes.{is_short, is_open, eat_kept, part_kept, part_past, part_fed, end_kept, end_early, end-full}
use Rattle.bins_arriving.proofs.Feeding.{eat-counts, feed-append, feed_kept}
use Rattle.bins_arriving.proofs.Left.{left, left_nothing}
use Rattle.bins_arriving.proofs.Reached.{Closed, Settled, Reached, reaches}
use Rattle.std.specs.Prelude.{Ok, Err}
use Rattle.std.specs.declared.result.Result.{Result}

-- ---- settling twice is settling once, so that no byte leaves a rest too short for a header unjudged

settle-settle : (s : BinsSoFar) → settle (settle s) ≡ settle s
unfolding settle too_short
settle-settle s = go (too_short s) refl
  where
    go : (b : Bool) → too_short s ≡ b → settle (cond b (refuse s BAD_BIN (s.base + s.place)) s) ≡ cond b (refuse s BAD_BIN (s.base + s.place)) s
    go true e = sym (is_short (refuse s BAD_BIN (s.base + s.place)) e)
    go false e = sym (is_open s e)

eat_settled : (s : BinsSoFar) (x : ℕ) → settle s ≡ s → settle (eat s x) ≡ eat s x
unfolding eat
eat_settled s x h = go s.answer
  where
    go : (a : Result BinTotals Numbered) → settle (eaten a s x) ≡ eaten a s x
    go (Ok t) = settle-settle _
    go (Err f) = h

feed_settled : (xs : List ℕ) (s : BinsSoFar) → settle s ≡ s → settle (feed s xs) ≡ feed s xs
unfolding feed
feed_settled [] s h = h
feed_settled (x ∷ xs) s h = feed_settled xs (eat s x) (eat_settled s x h)

-- ---- bytes never become fewer

eat_grows : (s : BinsSoFar) (x : ℕ) → s.taken ≤ (eat s x).taken
eat_grows s x = go s.answer refl
  where
    go : (a : Result BinTotals Numbered) → s.answer ≡ a → s.taken ≤ (eat s x).taken
    go (Ok t) e = omega (arith, (eat-counts s x e).taken)
    go (Err f) e = subst (λ (v : BinsSoFar). s.taken ≤ v.taken) (eat_kept s e x) (omega arith)

feed_grows : (xs : List ℕ) (s : BinsSoFar) → s.taken ≤ (feed s xs).taken
unfolding feed
feed_grows [] s = omega arith
feed_grows (x ∷ xs) s = omega (arith, eat_grows s x, feed_grows xs (eat s x))

-- what an answer says tells the answers apart
same_numbered : (f g : Numbered) → numbered f ≡ numbered g → f ≡ g
same_numbered f g e = λ i. record { number = (e i).number; position = (e i).position }

pub arriving_injective : (a b : Result BinTotals Numbered) → arriving_paper a ≡ arriving_paper b → a ≡ b
arriving_injective = paper_injective (λ t u e. e) same_numbered

totals-refused : {t : BinTotals} {f : Numbered} → ◌≡◌ {A = Result BinTotals Numbered} (Ok t) (Err f) → ⊥
totals-refused e = cc

same-fault : {f g : Numbered} → ◌≡◌ {A = Result BinTotals Numbered} (Err f) (Err g) → f ≡ g
same-fault e = cc

-- ---- the record after some bytes, of bins of a size

module _ (base size : ℕ) (small : size < 2 ^ 32) where
  abbrev start : BinsSoFar
  start = settle (begun base size)

  abbrev fed : List ℕ → BinsSoFar
  fed xs = feed start xs

  -- as bytes of any bins of that size that begin with them
  fed_reached : (c xs : List ℕ) → length c ≡ size → take (length xs) c ≡ xs → length xs ≤ size → Reached base c (length xs) (fed xs) (fed xs).answer
  fed_reached c xs e h l =
      let r = reaches base c (omega arith) (length xs) (omega arith) in
      subst (λ (n : ℕ). Reached base c (length xs) (feed (settle (begun base n)) xs) (feed (settle (begun base n)) xs).answer) e
      (subst (λ (ys : List ℕ). Reached base c (length xs) (feed (settle (begun base (length c))) ys) (feed (settle (begun base (length c))) ys).answer) h r)

  -- some such bins
  abbrev filled : List ℕ → List ℕ
  filled xs = xs ++ replicate (size - length xs) 0

  filled_long : (xs : List ℕ) → length xs ≤ size → length (filled xs) ≡ size
  filled_long xs l = omega (arith, length-append xs (replicate (size - length xs) 0), length-replicate {A = ℕ} (size - length xs) 0)

  filled_reached : (xs : List ℕ) → length xs ≤ size → Reached base (filled xs) (length xs) (fed xs) (fed xs).answer
  filled_reached xs l =
      fed_reached (filled xs) xs (filled_long xs l) (take-append_seam xs (replicate (size - length xs) 0)) l

  fed_taken : (xs : List ℕ) → length xs ≤ size → (t : BinTotals) → (fed xs).answer ≡ Ok t → (fed xs).taken ≡ length xs
  fed_taken xs l t e = let r = subst (Reached base (filled xs) (length xs) (fed xs)) e (filled_reached xs l) in r.known.taken

  fed_size : (xs : List ℕ) → length xs ≤ size → (t : BinTotals) → (fed xs).answer ≡ Ok t → (fed xs).size ≡ size
  fed_size xs l t e =
      let r = subst (Reached base (filled xs) (length xs) (fed xs)) e (filled_reached xs l) in
      omega (arith, r.known.size, filled_long xs l)

  fed_base : (xs : List ℕ) → length xs ≤ size → (t : BinTotals) → (fed xs).answer ≡ Ok t → (fed xs).base ≡ base
  fed_base xs l t e = let r = subst (Reached base (filled xs) (length xs) (fed xs)) e (filled_reached xs l) in r.known.base

  -- a refusal then is one of a bin or a cell
  fault_of : (c : List ℕ) (u : Told) → answer_of (bins_in c) ≡ refused u → Fault u.number
  unfolding bins_in
  fault_of c u e = (subst (Fills 0 (length c)) e (bins_fill c 0 (length c))).2

  fed_fault : (xs : List ℕ) → length xs ≤ size → (f : Numbered) → (fed xs).answer ≡ Err f → Fault f.number
  fed_fault xs l f e =
      let r = subst (Reached base (filled xs) (length xs) (fed xs)) e (filled_reached xs l) in
      fault_of (filled xs) (by f.number r.place) r.whole

  -- ---- parts

  -- a part that does not exceed what remains
  part_feeds : (xs p : List ℕ) → length xs + length p ≤ size → part_taken (fed xs) p ≡ fed (xs ++ p)
  part_feeds xs p l = go (fed xs).answer refl ∙ sym (feed-append start xs p)
    where
      go : (a : Result BinTotals Numbered) → (fed xs).answer ≡ a → part_taken (fed xs) p ≡ feed (fed xs) p
      go (Ok t) e =
          sym (part_fed (fed xs) e p (omega (arith, fed_taken xs (omega arith) t e, fed_size xs (omega arith) t e)))
          ∙ ap (λ (v : BinsSoFar). feed v p) (feed_settled xs start (settle-settle (begun base size)))
      go (Err f) e = sym (part_kept (fed xs) e p) ∙ sym (feed_kept (fed xs) e p)

  first_feeds : (p : List ℕ) → length p ≤ size → part_taken (begun base size) p ≡ fed p
  first_feeds p l = sym (part_fed (begun base size) refl p (omega arith))

  -- one that does
  abbrev past_end : Numbered
  past_end = refusal PAST_END 0

  part_over : (s : BinsSoFar) (t : BinTotals) → s.answer ≡ Ok t → (p : List ℕ) → s.size - s.taken < length p → (part_taken s p).answer ≡ Err past_end
  part_over s t e p l = ap (λ (v : BinsSoFar). v.answer) (sym (part_past s e p l))

  pub after_kept : (ps : List (List ℕ)) (s r : BinsSoFar) (f : Numbered) → s.answer ≡ Err f → After s ps r → r ≡ s
  after_kept [] s r f e h = h
  after_kept (p ∷ ps) s r f e (q, i, h) =
      let k = i ∙ sym (part_kept s e p) in
      after_kept ps q r f (ap (λ (v : BinsSoFar). v.answer) k ∙ e) h ∙ k

  -- what a row of parts comes to, behind bytes that have come: all bytes are fed, or a part exceeds what remains and the record is refused
  data Came (xs : List ℕ) (ps : List (List ℕ)) (r : BinsSoFar) : Type 0 where
    all : length (xs ++ joined ps) ≤ size → r ≡ fed (xs ++ joined ps) → Came xs ps r
    too_much : size < length (xs ++ joined ps) → (f : Numbered) → r.answer ≡ Err f → (f ≡ past_end) ⊎ Fault f.number → Came xs ps r

  came : (ps : List (List ℕ)) (xs : List ℕ) (s r : BinsSoFar) → length xs ≤ size → s ≡ fed xs → After s ps r → Came xs ps r
  came [] xs s r l e h =
      all (omega (arith, ap (λ (ys : List ℕ). length ys) (append-nil xs))) (h ∙ e ∙ ap fed (sym (append-nil xs)))
  came (p ∷ ps) xs s r l e (q, i, h) = go (leb (length xs + length p) size) refl (came ps (xs ++ p) q r)
    where
      sum : length (xs ++ (p ++ joined ps)) ≡ length xs + length p + length (joined ps)
      sum = length-append xs (p ++ joined ps) ∙ omega (arith, length-append p (joined ps))

      more : Came (xs ++ p) ps r → Came xs (p ∷ ps) r
      more (all m k) =
          all (subst (λ (ys : List ℕ). length ys ≤ size) (append_assoc xs p (joined ps)) m) (k ∙ ap fed (append_assoc xs p (joined ps)))
      more (too_much m f k d) = too_much (subst (λ (ys : List ℕ). size < length ys) (append_assoc xs p (joined ps)) m) f k d

      over : size < length xs + length p → (a : Result BinTotals Numbered) → (fed xs).answer ≡ a → Came xs (p ∷ ps) r
      over m (Ok t) k =
          let n : (part_taken s p).answer ≡ Err past_end =
          ap (λ (v : BinsSoFar). (part_taken v p).answer) e
          ∙ part_over (fed xs) t k p (omega (arith, fed_taken xs l t k, fed_size xs l t k)) in
          let b : q.answer ≡ Err past_end = ap (λ (v : BinsSoFar). v.answer) i ∙ n in
          too_much (omega (arith, sum)) past_end (ap (λ (v : BinsSoFar). v.answer) (after_kept ps q r past_end b h) ∙ b) (inl refl)
      over m (Err f) k =
          let b : s.answer ≡ Err f = ap (λ (v : BinsSoFar). v.answer) e ∙ k in
          let d : q.answer ≡ Err f = ap (λ (v : BinsSoFar). v.answer) (i ∙ sym (part_kept s b p)) ∙ b in
          too_much (omega (arith, sum)) f (ap (λ (v : BinsSoFar). v.answer) (after_kept ps q r f d h) ∙ d) (inr (fed_fault xs l f k))

      go : (b : Bool) → leb (length xs + length p) size ≡ b → (length (xs ++ p) ≤ size → q ≡ fed (xs ++ p) → After q ps r → Came (xs ++ p) ps r) → Came xs (p ∷ ps) r
      go true m next =
          let n = leb-true (length xs + length p) size m in
          more (next (omega (arith, length-append xs p)) (i ∙ ap (λ (v : BinsSoFar). part_taken v p) e ∙ part_feeds xs p n) h)
      go false m next = over (leb-false (length xs + length p) size m) _ refl

  -- from `begin` on
  came_first : (p : List ℕ) (ps : List (List ℕ)) (s : BinsSoFar) → Arrived base size (p ∷ ps) s → Came [] (p ∷ ps) s
  came_first p ps s (b, e, (q, i, h)) = go (leb (length p) size) refl
    where
      more : Came p ps s → Came [] (p ∷ ps) s
      more (all m k) = all m k
      more (too_much m f k d) = too_much m f k d

      go : (t : Bool) → leb (length p) size ≡ t → Came [] (p ∷ ps) s
      go true m =
          let n = leb-true (length p) size m in
          more (came ps p q s n (i ∙ ap (λ (v : BinsSoFar). part_taken v p) e ∙ first_feeds p n) h)
      go false m =
          let n = leb-false (length p) size m in
          let k : q.answer ≡ Err past_end =
          ap (λ (v : BinsSoFar). v.answer) (i ∙ ap (λ (v : BinsSoFar). part_taken v p) e)
          ∙ part_over (begun base size) no_totals refl p (omega arith) in
          too_much (omega (arith, length-append p (joined ps))) past_end
          (ap (λ (v : BinsSoFar). v.answer) (after_kept ps q s past_end k h) ∙ k) (inl refl)

  arrived_fed : (p : List ℕ) (ps : List (List ℕ)) (s : BinsSoFar) → Arrived base size (p ∷ ps) s → length (joined (p ∷ ps)) ≤ size → s ≡ fed (joined (p ∷ ps))
  arrived_fed p ps s h l = go (came_first p ps s h)
    where
      go : Came [] (p ∷ ps) s → s ≡ fed (joined (p ∷ ps))
      go (all m k) = k
      go (too_much m f k d) = absurd (omega arith)

  -- what is known where nothing is refused
  record Plain (n : ℕ) (s : BinsSoFar) : Type 0 where
    pub at_base : s.base ≡ base
    pub in_size : s.size ≡ size
    pub all_taken : s.taken ≡ n
    pub within : n ≤ size

  plain_of : (ps : List (List ℕ)) (s : BinsSoFar) (t : BinTotals) → Arrived base size ps s → s.answer ≡ Ok t → Plain (length (joined ps)) s
  plain_of [] s t (b, e, h) a =
      rw (h ∙ e) (record { at_base = refl; in_size = refl; all_taken = refl; within = omega arith })
  plain_of (p ∷ ps) s t h a = go (came_first p ps s h)
    where
      go : Came [] (p ∷ ps) s → Plain (length (joined (p ∷ ps))) s
      go (all m k) =
          let d : (fed (joined (p ∷ ps))).answer ≡ Ok t = ap (λ (v : BinsSoFar). v.answer) (sym k) ∙ a in
          subst (Plain (length (joined (p ∷ ps)))) (sym k)
          (record { at_base = fed_base _ m t d; in_size = fed_size _ m t d; all_taken = fed_taken _ m t d; within = m })
      go (too_much m f k d) = absurd (totals-refused (sym a ∙ k))

  -- and a refusal's number
  refused_of : (ps : List (List ℕ)) (s : BinsSoFar) (f : Numbered) → Arrived base size ps s → s.answer ≡ Err f → (f ≡ past_end) ⊎ Fault f.number
  refused_of [] s f (b, e, h) a = absurd (totals-refused (ap (λ (v : BinsSoFar). v.answer) (sym (h ∙ e)) ∙ a))
  refused_of (p ∷ ps) s f h a = go (came_first p ps s h)
    where
      go : Came [] (p ∷ ps) s → (f ≡ past_end) ⊎ Fault f.number
      go (all m k) = inr (fed_fault _ m f (ap (λ (v : BinsSoFar). v.answer) (sym k) ∙ a))
      go (too_much m g k d) = subst (λ (v : Numbered). (v ≡ past_end) ⊎ Fault v.number) (same-fault (sym k ∙ a)) d

  -- ---- bins that have come whole

  place_end : (c : List ℕ) (s : BinsSoFar) (t : BinTotals) → Settled base c (length c) s t → (s.place ≡ length c) × (s.over ≡ length c)
  place_end c s t r = go (eqb s.place s.over) (ltb s.place (length c)) refl refl
    where
      go : (b d : Bool) → eqb s.place s.over ≡ b → ltb s.place (length c) ≡ d → (s.place ≡ length c) × (s.over ≡ length c)
      go true true e h =
          let p = eqb-true s.place s.over e in
          let l = ltb-true s.place (length c) h in
          absurd (omega (arith, r.known.enough p l, r.known.bin_waits p))
      go true false e h =
          let p = eqb-true s.place s.over e in
          let l = ltb-false s.place (length c) h in
          let i = r.known.in_bins in
          (omega arith, omega arith)
      go false d e h =
          let p = eqb-false s.place s.over e in
          absurd (omega (arith, r.known.cell_waits p, r.known.in_bin, r.known.in_bins, r.known.aligned))

  fed_whole : (c : List ℕ) → length c ≡ size → ended (fed c) ≡ later base (answer_of (bins_in c))
  unfolding later
  fed_whole c e = go (fed c).answer refl (fed_reached c c e (take_all (length c) c (omega arith)) (omega arith))
    where
      go : (a : Result BinTotals Numbered) → (fed c).answer ≡ a → Reached base c (length c) (fed c) (fed c).answer → ended (fed c) ≡ later base (answer_of (bins_in c))
      go (Ok t) k r =
          let q : Settled base c (length c) (fed c) t = subst (Reached base c (length c) (fed c)) k r in
          let z = place_end c (fed c) t q in
          sym (end-full (fed c) k (omega (arith, q.known.size, q.known.taken)))
          ∙ ap (later base)
          (sym
          (q.known.whole
          ∙ ap (plus (success t)) (ap (λ (n : ℕ). left c n (fed c).over) z.0 ∙ ap (left c (length c)) z.1 ∙ left_nothing c (length c) (omega arith))
          ∙ plus_none (success t)))
      go (Err f) k r =
          let q : Closed base c (length c) (fed c) f = subst (Reached base c (length c) (fed c)) k r in
          sym (end_kept (fed c) k)
          ∙ ap (λ (n : ℕ). refused (by f.number n)) q.position
          ∙ sym (ap (later base) q.whole)

  -- ---- a complete hive with these bytes

  module _ (image : List ℕ) (complete : Complete image base size) where
    abbrev bins : List ℕ
    bins = take size (drop base image)

    bins_long : length bins ≡ size
    bins_long = omega (arith, length-take size (drop base image), length-drop base image)

    bins_begin : (xs : List ℕ) → length xs ≤ size → Has image base xs → take (length xs) bins ≡ xs
    bins_begin xs l h = take-take (length xs) size (drop base image) l ∙ h

    bins_are : bins_of image base size ≡ later base (answer_of (bins_in bins))
    bins_are = inside image base size complete

    fed_early : (xs : List ℕ) (f : Numbered) → length xs ≤ size → Has image base xs → (fed xs).answer ≡ Err f → bins_of image base size ≡ refused (numbered f)
    unfolding later
    fed_early xs f l h e =
        let q : Closed base bins (length xs) (fed xs) f = subst (Reached base bins (length xs) (fed xs)) e (fed_reached bins xs bins_long (bins_begin xs l h) l) in
        bins_are ∙ ap (later base) q.whole ∙ ap (λ (n : ℕ). refused (by f.number n)) (sym q.position)

    -- the byte that makes a refusal due
    module _ (xs : List ℕ) (l : length xs ≤ size) (h : Has image base xs) (v : Told) (e : answer_of (bins_in bins) ≡ refused v) where
      -- all bytes of the bins: those that have come, and the others
      bins_split : fed bins ≡ feed (fed xs) (drop (length xs) bins)
      bins_split =
          ap fed (sym (take-append-drop (length xs) bins) ∙ ap (λ (ys : List ℕ). ys ++ drop (length xs) bins) (bins_begin xs l h))
          ∙ feed-append start xs (drop (length xs) bins)

      closed_is : (k : ℕ) (s : BinsSoFar) (f : Numbered) → Closed base bins k s f → (numbered f ≡ by v.number (base + v.position)) × (s.taken ≡ due_at size v.number v.position)
      closed_is k s f q =
          let u : v ≡ by f.number q.place = same-told (sym e ∙ q.whole) in
          let n : f.number ≡ v.number = sym (ap (λ (w : Told). w.number) u) in
          let m : q.place ≡ v.position = sym (ap (λ (w : Told). w.position) u) in (
            ap (λ (i : ℕ). by f.number i) (q.position ∙ ap (λ (i : ℕ). base + i) m) ∙ ap (λ (i : ℕ). by i (base + v.position)) n,
            q.due ∙ ap (λ (i : ℕ). due_at i f.number q.place) bins_long ∙ ap (λ (i : ℕ). due_at size i q.place) n ∙ ap (due_at size v.number) m,
          )

      whole_closed : (fed bins).taken ≡ due_at size v.number v.position
      unfolding later
      whole_closed = go (fed bins).answer refl
        where
          go : (a : Result BinTotals Numbered) → (fed bins).answer ≡ a → (fed bins).taken ≡ due_at size v.number v.position
          go (Ok t) k =
              absurd
              (success-refused
              (end-full (fed bins) k (omega (arith, bins_long, fed_taken bins (omega (arith, bins_long)) t k, fed_size bins (omega (arith, bins_long)) t k))
              ∙ fed_whole bins bins_long ∙ ap (later base) e))
          go (Err f) k =
              (closed_is (length bins) (fed bins) f
              (subst (Reached base bins (length bins) (fed bins)) k (fed_reached bins bins bins_long (take_all (length bins) bins (omega arith)) (omega (arith, bins_long))))).1

      is_closed : (f : Numbered) → (fed xs).answer ≡ Err f → Closed base bins (length xs) (fed xs) f
      is_closed f k = subst (Reached base bins (length xs) (fed xs)) k (fed_reached bins xs bins_long (bins_begin xs l h) l)

      came_due : due_at size v.number v.position ≤ length xs → arriving_paper (fed xs).answer ≡ refused (by v.number (base + v.position))
      unfolding feed later
      came_due d = go (fed xs).answer refl
        where
          rest : (ys : List ℕ) → drop (length xs) bins ≡ ys → (t : BinTotals) → (fed xs).answer ≡ Ok t → ⊥
          rest [] q t k =
              let b : fed bins ≡ fed xs = bins_split ∙ ap (feed (fed xs)) q in
              success-refused
              (end-full (fed xs) k (omega (arith, fed_taken xs l t k, fed_size xs l t k, length-drop (length xs) bins, ap (λ (zs : List ℕ). length zs) q, bins_long))
              ∙ ap ended (sym b) ∙ fed_whole bins bins_long ∙ ap (later base) e)
          rest (y ∷ ys) q t k =
              let b : fed bins ≡ feed (eat (fed xs) y) ys = bins_split ∙ ap (feed (fed xs)) q in
              let m : (fed bins).taken ≡ (feed (eat (fed xs) y) ys).taken = ap (λ (s : BinsSoFar). s.taken) b in
              omega (arith, m, whole_closed, feed_grows ys (eat (fed xs) y), (eat-counts (fed xs) y k).taken, fed_taken xs l t k)

          go : (a : Result BinTotals Numbered) → (fed xs).answer ≡ a → arriving_paper (fed xs).answer ≡ refused (by v.number (base + v.position))
          go (Ok t) k = absurd (rest (drop (length xs) bins) refl t k)
          go (Err f) k = ap arriving_paper k ∙ ap refused (closed_is (length xs) (fed xs) f (is_closed f k)).0

      not_due : length xs < due_at size v.number v.position → (t : BinTotals) × ((fed xs).answer ≡ Ok t)
      not_due d = go (fed xs).answer refl
        where
          go : (a : Result BinTotals Numbered) → (fed xs).answer ≡ a → (t : BinTotals) × ((fed xs).answer ≡ Ok t)
          go (Ok t) k = (t, k)
          go (Err f) k = absurd (omega (arith, (is_closed f k).taken, (closed_is (length xs) (fed xs) f (is_closed f k)).1))

    fed_timely : (xs : List ℕ) → length xs ≤ size → Has image base xs → (u : Told) → bins_of image base size ≡ refused u
        → (due_at size u.number (u.position - base) ≤ length xs → arriving_paper (fed xs).answer ≡ refused u)
        × (length xs < due_at size u.number (u.position - base) → (t : BinTotals) × ((fed xs).answer ≡ Ok t))
    unfolding later
    fed_timely xs l h u e = go (answer_of (bins_in bins)) refl
      where
        go : (a : Paper BinTotals) → answer_of (bins_in bins) ≡ a
            → (due_at size u.number (u.position - base) ≤ length xs → arriving_paper (fed xs).answer ≡ refused u)
            × (length xs < due_at size u.number (u.position - base) → (t : BinTotals) × ((fed xs).answer ≡ Ok t))
        go (success t) k = absurd (success-refused (ap (later base) (sym k) ∙ sym bins_are ∙ e))
        go (refused v) k =
            let w : by v.number (base + v.position) ≡ u = same-told (ap (later base) (sym k) ∙ sym bins_are ∙ e) in
            let n : v.number ≡ u.number = ap (λ (x : Told). x.number) w in
            let m : base + v.position ≡ u.position = ap (λ (x : Told). x.position) w in
            let p : v.position ≡ u.position - base = omega arith in
            let d : due_at size v.number v.position ≡ due_at size u.number (u.position - base) =
            ap (λ (i : ℕ). due_at size i v.position) n ∙ ap (due_at size u.number) p in (
              λ q. came_due xs l h v k (subst (λ (i : ℕ). i ≤ length xs) (sym d) q) ∙ ap refused w,
              λ q. not_due xs l h v k (subst (λ (i : ℕ). length xs < i) (sym d) q),
            )

  -- ---- the sentences of the request

  whole : (ps : List (List ℕ)) (s : BinsSoFar) → Arrived base size ps s → length (joined ps) ≡ size
      → (image : List ℕ) → Complete image base size → Has image base (joined ps) → ended s ≡ bins_of image base size
  unfolding bins_in row row_go answer_of sum_over later
  whole [] s (b, e, h) n image c i =
      ap ended (h ∙ e)
      ∙ sym (end-full (begun base size) refl (omega arith))
      ∙ sym (bins_are image c ∙ ap (λ (m : ℕ). later base (answer_of (bins_in (take m (drop base image))))) (sym n))
  whole (p ∷ ps) s h n image c i =
      let xs = joined (p ∷ ps) in
      ap ended (arrived_fed p ps s h (omega arith))
      ∙ fed_whole xs n
      ∙ ap (λ (ys : List ℕ). later base (answer_of (bins_in ys))) (sym i ∙ ap (λ (m : ℕ). take m (drop base image)) n)
      ∙ sym (bins_are image c)

  early : (ps : List (List ℕ)) (s : BinsSoFar) (f : Numbered) → Arrived base size ps s → s.answer ≡ Err f → length (joined ps) ≤ size
      → (image : List ℕ) → Complete image base size → Has image base (joined ps) → bins_of image base size ≡ refused (numbered f)
  early [] s f (b, e, h) a l image c i = absurd (totals-refused (ap (λ (v : BinsSoFar). v.answer) (sym (h ∙ e)) ∙ a))
  early (p ∷ ps) s f h a l image c i =
      fed_early image c (joined (p ∷ ps)) f l i (ap (λ (v : BinsSoFar). v.answer) (sym (arrived_fed p ps s h l)) ∙ a)

  no_past : (ps : List (List ℕ)) (s : BinsSoFar) → Arrived base size ps s → (p : List ℕ) → length (joined ps) + length p ≤ size
      → (f : Numbered) → (part_taken s p).answer ≡ Err f → Fault f.number
  no_past [] s (b, e, h) p l f a =
      fed_fault p (omega arith) f (ap (λ (v : BinsSoFar). v.answer) (sym (ap (λ (v : BinsSoFar). part_taken v p) (h ∙ e) ∙ first_feeds p (omega arith))) ∙ a)
  no_past (q ∷ ps) s h p l f a =
      let xs = joined (q ∷ ps) in
      fed_fault (xs ++ p) (omega (arith, length-append xs p)) f
      (ap (λ (v : BinsSoFar). v.answer) (sym (ap (λ (v : BinsSoFar). part_taken v p) (arrived_fed q ps s h (omega arith)) ∙ part_feeds xs p l)) ∙ a)

  past_only : (ps : List (List ℕ)) (s : BinsSoFar) → Arrived base size ps s → (p : List ℕ)
      → (f : Numbered) → (part_taken s p).answer ≡ Err f → f.number ≡ PAST_END → size < length (joined ps) + length p
  past_only ps s h p f a n = go (leb (length (joined ps) + length p) size) refl
    where
      go : (b : Bool) → leb (length (joined ps) + length p) size ≡ b → size < length (joined ps) + length p
      go true e = absurd (omega (arith, no_past ps s h p (leb-true _ _ e) f a))
      go false e = leb-false _ _ e

  -- how the end is declared, by the answer so far
  end_of : (ps : List (List ℕ)) (s : BinsSoFar) (a : Result BinTotals Numbered) → Arrived base size ps s → Ends s a → (f : Numbered) → a ≡ Err f → f.number ≡ CUT_SHORT
      → (t : BinTotals) × (s.answer ≡ Ok t) × (length (joined ps) < size)
  end_of ps s a h i f e n = go s.answer refl
    where
      is : refused (numbered f) ≡ ended s
      is = ap arriving_paper (sym e) ∙ i

      not : (g : Numbered) → f ≡ g → (g ≡ past_end) ⊎ Fault g.number → ⊥
      not g k (inl d) = let m : f.number ≡ PAST_END = ap (λ (r : Numbered). r.number) (k ∙ d) in omega arith
      not g k (inr d) = let m : f.number ≡ g.number = ap (λ (r : Numbered). r.number) k in omega arith

      early_or_full : (t : BinTotals) → s.answer ≡ Ok t → (b : Bool) → ltb s.taken s.size ≡ b → (u : BinTotals) × (s.answer ≡ Ok u) × (length (joined ps) < size)
      early_or_full t k true d =
          let q = plain_of ps s t h k in
          let m = ltb-true s.taken s.size d in
          (t, k, omega (arith, q.all_taken, q.in_size))
      early_or_full t k false d = absurd (refused-success (is ∙ sym (end-full s k (ltb-false _ _ d))))

      go : (b : Result BinTotals Numbered) → s.answer ≡ b → (t : BinTotals) × (s.answer ≡ Ok t) × (length (joined ps) < size)
      go (Ok t) k = early_or_full t k _ refl
      go (Err g) k = absurd (not g (same_numbered f g (same-told (is ∙ sym (end_kept s k)))) (refused_of ps s g h k))

  full : (ps : List (List ℕ)) (s : BinsSoFar) (t : BinTotals) → Arrived base size ps s → Ends s (Ok t) → length (joined ps) ≡ size
  full ps s t h i = go s.answer refl
    where
      by_count : (u : BinTotals) → s.answer ≡ Ok u → (b : Bool) → ltb s.taken s.size ≡ b → length (joined ps) ≡ size
      by_count u k true d = absurd (success-refused (i ∙ sym (end_early s k (ltb-true _ _ d))))
      by_count u k false d = let q = plain_of ps s u h k in let m = ltb-false s.taken s.size d in omega (arith, q.all_taken, q.in_size, q.within)

      go : (b : Result BinTotals Numbered) → s.answer ≡ b → length (joined ps) ≡ size
      go (Ok u) k = by_count u k _ refl
      go (Err g) k = absurd (success-refused (i ∙ sym (end_kept s k)))

  pub arrival : Holds base size
  arrival =
      record {
        joins = λ p q ps qs r s h i e l. arrived_fed p ps r h l ∙ ap fed e ∙ sym (arrived_fed q qs s i (subst (λ (xs : List ℕ). length xs ≤ size) e l));
        whole = λ ps s a h i n image c k. i ∙ whole ps s h n image c k;
        early = early;
        timely = λ p ps s h l image c k u e.
            subst (λ (v : BinsSoFar).
            (due_at size u.number (u.position - base) ≤ length (joined (p ∷ ps)) → arriving_paper v.answer ≡ refused u)
            × (length (joined (p ∷ ps)) < due_at size u.number (u.position - base) → (t : BinTotals) × (v.answer ≡ Ok t)))
            (sym (arrived_fed p ps s h l)) (fed_timely image c (joined (p ∷ ps)) l k u e);
        kept = λ s r f ps e h. (
          after_kept ps s r f e h,
          λ a i. arriving_injective a (Err f) (i ∙ ap ended (after_kept ps s r f e h) ∙ sym (end_kept s e)),
        );
        counted = λ ps s t h e. let q = plain_of ps s t h e in (q.all_taken, q.within);
        past = λ ps s r t h e p i. (
          λ l. let q = plain_of ps s t h e in
              ap (λ (v : BinsSoFar). v.answer) i ∙ part_over s t e p (omega (arith, q.all_taken, q.in_size)),
          λ f k n. past_only ps s h p f (ap (λ (v : BinsSoFar). v.answer) (sym i) ∙ k) n,
        );
        cut_short = λ ps s a h i. (
          λ t e l. let q = plain_of ps s t h e in
              arriving_injective a (Err (refusal CUT_SHORT base))
              (i ∙ sym (end_early s e (omega (arith, q.all_taken, q.in_size))) ∙ ap (λ (n : ℕ). refused (by CUT_SHORT n)) q.at_base),
          end_of ps s a h i,
        );
        full = full;
      }
