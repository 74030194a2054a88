-- What one call does to a table, and what it leaves. Assumes nothing.
use Rattle.std.proofs.Common.{◌≡◌, ℕ, ◌+◌, ◌^◌, ◌<◌, ◌≤◌, Bool, true, false, cond, ltb, leb, ◌⊎◌, ◌↔◌, List, length, get_or, sym, refl, ap, ◌∙◌, subst, inl, inr, arith, ltb-false, leb-false, leb-true}
use Rattle.words.specs.Refusals.{NOT_FOUND, ALREADY_IN, OTHER_PLACE}
use Rattle.words.specs.Paper.{Told, Paper, success, refused, by}
use Rattle.words.specs.Buffers.{in_room}
use Rattle.words.proofs.Little.{Bytes}
use Rattle.words.proofs.Papers.{success-refused, refused-success, same-success}
use Rattle.words.proofs.Buffers.{room_full, room_fits}
use Rattle.sub_key_walk.specs.declared.Counts.{Counts}
use Rattle.sub_key_walk.specs.declared.WalkRefusal.{WalkRefusal}
use Rattle.sub_key_walk.specs.Answers.{full_of}
use Rattle.sub_key_walk.proofs.Papers.{paper_read}
use Rattle.sub_key_walk.proofs.Most.{kept_most}
use Rattle.cell_key_node.specs.declared.KeyNode.{KeyNode}
use Rattle.key_in_place.specs.Place.{is_in_place}
use Rattle.key_in_place.proofs.Place.{in_place}
use Rattle.key_in_place.proofs.Behind.{here}
use Rattle.key_totals.specs.declared.Place.{Place}
use Rattle.key_totals.specs.declared.Totals.{Totals}
use Rattle.key_totals.specs.declared.Changed.{Changed}
use Rattle.key_totals.specs.declared.Wanted.TheVariants.{Key}
use Rattle.key_totals.specs.Table.{PLACES, free, entry, counted_in, suits, laid, Outcome, outcome, refusing, keeping, full, place_of, free_of, number_in, walked, add_walked, add_here, add_of, replace_walked, replace_here, replace_of, remove_of, number_of, kept_paper}
use Rattle.key_totals.specs.Rows.{one, entries_in, Entry, Once, Long, Summed, Call, add, replace, remove, named, called, Answers, place_for, content_of, lost, won, more, fewer, read_after, Walked, Gives, Called}
use Rattle.key_totals.proofs.Places.{same_or_not, first_before, first_is, first_none, first_same}
use Rattle.key_totals.proofs.Sums.{laid_long, laid_same, laid_other, laid-total, laid_exact, laid_summed}
use Rattle.key_totals.proofs.Calls.{number_nowhere, number_there}
use Rattle.key_totals.proofs.OtherPlace.{other_place}
use Rattle.key_totals.proofs.Entries.{suits-entry, entry-suits, free-entry, same_position, place_entry, free_taken, nowhere}
use Rattle.std.specs.Prelude.{Ok, Err}

-- ---- a call is refused, or it changes one place

-- a call's key record stands in the image, and the walk from it keeps n
abbrev Counted : List ℕ → KeyNode → ℕ → ℕ → Type 0
Counted s key budget n = (st : Counts) × (walked s key budget ≡ success st) × (st.kept ≡ n) × (is_in_place s key ≡ true)

-- where its number comes from, and that a key that is added was not in the table
abbrev Source : List ℕ → Totals → Call → ℕ → Type 0
Source s t (add key budget) n = (PLACES ≤ place_of t key.position) × Counted s key budget n
Source s t (replace key budget) n = Counted s key budget n
Source s t (remove p) n = number_in t p ≡ n

pub record Change (s : List ℕ) (t : Totals) (c : Call) (n : ℕ) : Type 0 where
  pub inside : place_for t c < PLACES
  pub source : Source s t c n

data Came (s : List ℕ) (t : Totals) (c : Call) (o : Outcome) : Type 0 where
  refusal : (u : Told) → o ≡ refusing t u → Came s t c o
  change : (n : ℕ) → o ≡ outcome (laid t (place_for t c) (content_of c n)) (success n) → Change s t c n → Came s t c o

module _ (s : List ℕ) (t : Totals) where
  add_room : (key : KeyNode) (budget : ℕ) (st : Counts) → PLACES ≤ place_of t key.position → walked s key budget ≡ success st → is_in_place s key ≡ true
      → Came s t (add key budget) (cond (leb PLACES (free_of t)) (refusing t full) (keeping t (free_of t) key.position st.kept))
  add_room key budget st h m x = go (leb PLACES (free_of t)) refl
    where
      go : (b : Bool) → leb PLACES (free_of t) ≡ b
          → Came s t (add key budget) (cond b (refusing t full) (keeping t (free_of t) key.position st.kept))
      go true q = refusal full refl
      go false q = change st.kept refl (record { inside = leb-false _ _ q; source = (h, (st, m, refl, x)) })

  came_add : (key : KeyNode) (budget : ℕ) → Came s t (add key budget) (add_of t s key budget)
  unfolding add_of add_here
  came_add key budget = go (is_in_place s key) refl (ltb (place_of t key.position) PLACES) refl (walked s key budget) refl
    where
      go : (a : Bool) → is_in_place s key ≡ a → (b : Bool) → ltb (place_of t key.position) PLACES ≡ b → (w : Paper Counts) → walked s key budget ≡ w
          → Came s t (add key budget) (cond a (cond b (refusing t (by ALREADY_IN 0)) (add_walked t key.position w)) (refusing t (by OTHER_PLACE 0)))
      go false x b q w m = refusal (by OTHER_PLACE 0) refl
      go true x true q w m = refusal (by ALREADY_IN 0) refl
      go true x false q (refused u) m = refusal u refl
      go true x false q (success st) m = add_room key budget st (ltb-false _ _ q) m x

  came_replace : (key : KeyNode) (budget : ℕ) → Came s t (replace key budget) (replace_of t s key budget)
  unfolding replace_of replace_here
  came_replace key budget = go (is_in_place s key) refl (leb PLACES (place_of t key.position)) refl (walked s key budget) refl
    where
      go : (a : Bool) → is_in_place s key ≡ a → (b : Bool) → leb PLACES (place_of t key.position) ≡ b → (w : Paper Counts) → walked s key budget ≡ w
          → Came s t (replace key budget) (cond a (cond b (refusing t (by NOT_FOUND 0)) (replace_walked t key.position w)) (refusing t (by OTHER_PLACE 0)))
      go false x b q w m = refusal (by OTHER_PLACE 0) refl
      go true x true q w m = refusal (by NOT_FOUND 0) refl
      go true x false q (refused u) m = refusal u refl
      go true x false q (success st) m = change st.kept refl (record { inside = leb-false _ _ q; source = (st, m, refl, x) })

  came_remove : (p : ℕ) → Came s t (remove p) (remove_of t p)
  unfolding remove_of
  came_remove p = go (leb PLACES (place_of t p)) refl
    where
      go : (b : Bool) → leb PLACES (place_of t p) ≡ b
          → Came s t (remove p) (cond b (refusing t (by NOT_FOUND 0)) (outcome (laid t (place_of t p) free) (success (number_in t p))))
      go true q = refusal (by NOT_FOUND 0) refl
      go false q = change (number_in t p) refl (record { inside = leb-false _ _ q; source = refl })

  came : (c : Call) → Came s t c (called s t c)
  came (add key budget) = came_add key budget
  came (replace key budget) = came_replace key budget
  came (remove p) = came_remove p

  -- of an answer: it was refused and the table is as it was, or it gave a number and changed one place
  abbrev pub Changing : Call → Changed → ℕ → Type 0
  Changing c r n = (r.table ≡ laid t (place_for t c) (content_of c n)) × Change s t c n

  module _ (c : Call) (r : Changed) (a : Answers s t c r) where
    table_of : r.table ≡ (called s t c).table
    table_of = ap (λ (o : Outcome). o.table) a

    answer_of : kept_paper r.answer ≡ (called s t c).answer
    answer_of = ap (λ (o : Outcome). o.answer) a

    pub either : (r.table ≡ t) ⊎ ((n : ℕ) × Changing c r n)
    either = go (came c)
      where
        go : Came s t c (called s t c) → (r.table ≡ t) ⊎ ((n : ℕ) × Changing c r n)
        go (refusal u e) = inl (table_of ∙ ap (λ (o : Outcome). o.table) e)
        go (change n e h) = inr (n, (table_of ∙ ap (λ (o : Outcome). o.table) e, h))

    pub unchanged : (f : WalkRefusal) → r.answer ≡ Err f → r.table ≡ t
    unchanged f q = go (came c)
      where
        go : Came s t c (called s t c) → r.table ≡ t
        go (refusal u e) = table_of ∙ ap (λ (o : Outcome). o.table) e
        go (change n e h) = absurd (refused-success (sym (ap kept_paper q) ∙ answer_of ∙ ap (λ (o : Outcome). o.answer) e))

    pub changing : (n : ℕ) → r.answer ≡ Ok n → Changing c r n
    changing n q = go (came c)
      where
        go : Came s t c (called s t c) → Changing c r n
        go (refusal u e) = absurd (success-refused (sym (ap kept_paper q) ∙ answer_of ∙ ap (λ (o : Outcome). o.answer) e))
        go (change m e h) =
            let k : n ≡ m = same-success (sym (ap kept_paper q) ∙ answer_of ∙ ap (λ (o : Outcome). o.answer) e) in
            subst (λ (x : ℕ). Changing c r x) (sym k) (table_of ∙ ap (λ (o : Outcome). o.table) e, h)

-- ---- what stood in the place that is changed, and what stands there then

module _ (s : List ℕ) (t : Totals) (l : Long t) where
  -- what the place has in the total, and in the number of entries
  was_counted : (c : Call) (n : ℕ) → Change s t c n → counted_in (get_or t.places (place_for t c) free) ≡ lost t c
  was_counted (add key budget) n h = ap (λ (b : Bool). cond b (get_or t.places (free_of t) free).kept 0) (free_taken t l h.inside)
  was_counted (replace key budget) n h = ap counted_in (place_entry t l key.position h.inside)
  was_counted (remove p) n h = ap counted_in (place_entry t l p h.inside)

  was_one : (c : Call) (n : ℕ) → Change s t c n → one (get_or t.places (place_for t c) free) + more c ≡ one (content_of c n) + fewer c
  was_one (add key budget) n h = ap (λ (b : Bool). cond b 1 0 + 1) (free_taken t l h.inside)
  was_one (replace key budget) n h = ap (λ (e : Place). one e + 0) (place_entry t l key.position h.inside)
  was_one (remove p) n h = ap (λ (e : Place). one e + 0) (place_entry t l p h.inside)

  is_counted : (c : Call) (n : ℕ) → counted_in (content_of c n) ≡ won c n
  is_counted (add key budget) n = refl
  is_counted (replace key budget) n = refl
  is_counted (remove p) n = refl

  -- no other key stood there, and no other stands there then
  was_no_other : (c : Call) (n : ℕ) → Change s t c n → (p m : ℕ) → (p ≡ named c → ⊥) → Entry t (place_for t c) p m → ⊥
  was_no_other (add key budget) n h p m d e = free-entry (get_or t.places (free_of t) free) p m (free_taken t l h.inside) e
  was_no_other (replace key budget) n h p m d e = d (same_position (sym e ∙ place_entry t l key.position h.inside))
  was_no_other (remove q) n h p m d e = d (same_position (sym e ∙ place_entry t l q h.inside))

  is_no_other : (c : Call) (n p m : ℕ) → (p ≡ named c → ⊥) → content_of c n ≡ entry p m → ⊥
  is_no_other (add key budget) n p m d e = d (sym (same_position e))
  is_no_other (replace key budget) n p m d e = d (sym (same_position e))
  is_no_other (remove q) n p m d e = free-entry free p m refl e

  -- its number has 32 bits
  counted_small : Bytes s → (key : KeyNode) (budget n : ℕ) → Counted s key budget n → n < 2 ^ 32
  counted_small b key budget n w =
      let k = kept_most s b key.base key.number_of_sub_keys key.sub_keys_list_offset_relative budget w.0 w.1 in
      let e : w.0.kept ≡ n = w.2 in
      omega arith

  is_small : Bytes s → (c : Call) (n : ℕ) → Change s t c n → (content_of c n).kept < 2 ^ 32
  is_small b (add key budget) n h = counted_small b key budget n h.source.1
  is_small b (replace key budget) n h = counted_small b key budget n h.source
  is_small b (remove p) n h = omega arith

  -- a key that is added stood nowhere, and one that is replaced in no other place
  alone_at : (c : Call) (n : ℕ) → Change s t c n → Once t → (i p m k : ℕ) → (i ≡ place_for t c → ⊥) → content_of c n ≡ entry p k → Entry t i p m → ⊥
  alone_at (add key budget) n h o i p m k d e f =
      nowhere t l key.position h.source.0 i m (subst (λ (x : ℕ). Entry t i x m) (sym (same_position e)) f)
  alone_at (replace key budget) n h o i p m k d e f =
      d (o i (place_of t key.position) key.position m (number_in t key.position) (subst (λ (x : ℕ). Entry t i x m) (sym (same_position e)) f)
      (place_entry t l key.position h.inside))
  alone_at (remove q) n h o i p m k d e f = free-entry free p k refl e

  -- the place of a key that is laid there, where it stood in none before it
  laid_place : (p n i : ℕ) → i < PLACES → i ≤ place_of t p → place_of (laid t i (entry p n)) p ≡ i
  laid_place p n i h k =
      first_is (suits (Key p)) (laid t i (entry p n)).places i (rw (laid_long t i (entry p n) l) h)
      (entry-suits p n (get_or (laid t i (entry p n)).places i free) (laid_same t i (entry p n) (rw l h)))
      (λ j g.
      let d : j ≡ i → ⊥ = λ q. absurd (let z : ⊥ = omega arith in z) in
      ap (suits (Key p)) (laid_other t i (entry p n) j d) ∙ first_before (suits (Key p)) t.places j (omega arith))

  laid_reads : (p n i : ℕ) → i < PLACES → i ≤ place_of t p → number_of (laid t i (entry p n)) p ≡ success n
  laid_reads p n i h k =
      sym (number_there (laid t i (entry p n)) p (sym (laid_place p n i h k)) h)
      ∙ ap (λ (e : Place). success e.kept) (laid_same t i (entry p n) (rw l h))

  -- a key that is removed stands nowhere then
  gone : (p i : ℕ) → i < PLACES → Once t → Entry t i p (get_or t.places i free).kept → number_of (laid t i free) p ≡ refused (by NOT_FOUND 0)
  gone p i h o e =
      sym (number_nowhere (laid t i free) p refl (rw (laid_long t i free l) at (first_none (suits (Key p)) (laid t i free).places none_there)))
    where
      here_or_there : (k : ℕ) → (k ≡ i) ⊎ (k ≡ i → ⊥) → suits (Key p) (get_or (laid t i free).places k free) ≡ true → ⊥
      here_or_there k (inl q) x =
          free-entry free p _ refl
          (sym (laid_same t i free (rw l h)) ∙ ap (λ (j : ℕ). get_or (laid t i free).places j free) (sym q) ∙ suits-entry p (get_or (laid t i free).places k free) x)
      here_or_there k (inr q) x =
          q (o k i p _ _ (sym (laid_other t i free k q) ∙ suits-entry p (get_or (laid t i free).places k free) x) e)

      none_there : (k : ℕ) → k < length (laid t i free).places → suits (Key p) (get_or (laid t i free).places k free) ≡ true → ⊥
      none_there k g x = here_or_there k (same_or_not k i) x

  reads_at : (c : Call) (n : ℕ) → Change s t c n → Once t → number_of (laid t (place_for t c) (content_of c n)) (named c) ≡ read_after c n
  reads_at (add key budget) n h o =
      let k : free_of t < PLACES = h.inside in
      let m : PLACES ≤ place_of t key.position = h.source.0 in
      laid_reads key.position n (free_of t) k (omega arith)
  reads_at (replace key budget) n h o = laid_reads key.position n (place_of t key.position) h.inside (omega arith)
  reads_at (remove p) n h o = gone p (place_of t p) h.inside o (place_entry t l p h.inside)

  -- ---- the table then

  module _ (c : Call) (n : ℕ) (h : Change s t c n) where
    abbrev then : Totals
    then = laid t (place_for t c) (content_of c n)

    in_row : place_for t c < length t.places
    in_row = rw l h.inside

    then_moves : entries_in then + fewer c ≡ entries_in t + more c
    then_moves = let a = laid-total t (place_for t c) (content_of c n) l h.inside one in let b = was_one c n h in omega arith

    then_keeps : Bytes s → Summed t → Summed then
    then_keeps b m = laid_summed t (place_for t c) (content_of c n) m h.inside (is_small b c n h)

    then_exact : Bytes s → Summed t → then.total + lost t c ≡ t.total + won c n
    then_exact b m =
        let a = laid_exact t (place_for t c) (content_of c n) m h.inside (is_small b c n h) in
        let p = was_counted c n h in
        let q = is_counted c n in
        omega arith

    -- an entry in the changed place is what the call laid there; any other was there before
    pub laid_there : (i p m : ℕ) → i ≡ place_for t c → Entry then i p m → content_of c n ≡ entry p m
    laid_there i p m q e = sym (laid_same t (place_for t c) (content_of c n) in_row) ∙ subst (λ (k : ℕ). Entry then k p m) q e

    pub stood : (i p m : ℕ) → (i ≡ place_for t c → ⊥) → Entry then i p m → Entry t i p m
    stood i p m d e = sym (laid_other t (place_for t c) (content_of c n) i d) ∙ e

    pub stands_still : (i p m : ℕ) → (i ≡ place_for t c → ⊥) → Entry t i p m → Entry then i p m
    stands_still i p m d e = laid_other t (place_for t c) (content_of c n) i d ∙ e

    then_stays : (i p m : ℕ) → (p ≡ named c → ⊥) → Entry t i p m ↔ Entry then i p m
    then_stays i p m d = go (same_or_not i (place_for t c))
      where
        go : (i ≡ place_for t c) ⊎ (i ≡ place_for t c → ⊥) → Entry t i p m ↔ Entry then i p m
        go (inl q) = (
          (λ e. absurd (was_no_other c n h p m d (subst (λ (k : ℕ). Entry t k p m) q e))),
          (λ e. absurd (is_no_other c n p m d (laid_there i p m q e))),
        )
        go (inr q) = (stands_still i p m q, stood i p m q)

    -- reading another key
    no_suit : (p : ℕ) (e : Place) → ((m : ℕ) → e ≡ entry p m → ⊥) → suits (Key p) e ≡ false
    no_suit p e d = go (suits (Key p) e) refl
      where
        go : (b : Bool) → suits (Key p) e ≡ b → suits (Key p) e ≡ false
        go true q = absurd (d e.kept (suits-entry p e q))
        go false q = q

    suits-same : (p : ℕ) → (p ≡ named c → ⊥) → (i : ℕ) → suits (Key p) (get_or then.places i free) ≡ suits (Key p) (get_or t.places i free)
    suits-same p d i = go (same_or_not i (place_for t c))
      where
        go : (i ≡ place_for t c) ⊎ (i ≡ place_for t c → ⊥) → suits (Key p) (get_or then.places i free) ≡ suits (Key p) (get_or t.places i free)
        go (inl q) =
            no_suit p (get_or then.places i free) (λ m e. is_no_other c n p m d (laid_there i p m q e))
            ∙ sym (no_suit p (get_or t.places i free) (λ m e. was_no_other c n h p m d (subst (λ (k : ℕ). Entry t k p m) q e)))
        go (inr q) = ap (suits (Key p)) (laid_other t (place_for t c) (content_of c n) i q)

    place_same : (p : ℕ) → (p ≡ named c → ⊥) → place_of then p ≡ place_of t p
    place_same p d =
        first_same (suits (Key p)) then.places t.places (laid_long t (place_for t c) (content_of c n) l ∙ sym l) (suits-same p d)

    then_others : (p : ℕ) → (p ≡ named c → ⊥) → number_of then p ≡ number_of t p
    then_others p d = go (leb PLACES (place_of t p)) refl
      where
        go : (b : Bool) → leb PLACES (place_of t p) ≡ b → number_of then p ≡ number_of t p
        go true q = sym (number_nowhere then p (sym (place_same p d)) (leb-true _ _ q)) ∙ number_nowhere t p refl (leb-true _ _ q)
        go false q =
            let k : place_of t p < PLACES = leb-false _ _ q in
            let o : place_of t p ≡ place_for t c → ⊥ = λ x. was_no_other c n h p (number_in t p) d (subst (λ (i : ℕ). Entry t i p (number_in t p)) x (place_entry t l p k)) in
            sym (number_there then p (sym (place_same p d)) k)
            ∙ ap (λ (e : Place). success e.kept) (laid_other t (place_for t c) (content_of c n) (place_of t p) o)
            ∙ number_there t p refl k

    -- no position comes to stand twice
    then_once : Once t → Once then
    then_once o i j p m k e f = go (same_or_not i (place_for t c)) (same_or_not j (place_for t c))
      where
        go : (i ≡ place_for t c) ⊎ (i ≡ place_for t c → ⊥) → (j ≡ place_for t c) ⊎ (j ≡ place_for t c → ⊥) → i ≡ j
        go (inl a) (inl b) = a ∙ sym b
        go (inl a) (inr b) = absurd (alone_at c n h o j p k m b (laid_there i p m a e) (stood j p k b f))
        go (inr a) (inl b) = absurd (alone_at c n h o i p m k a (laid_there j p k b f) (stood i p m a e))
        go (inr a) (inr b) = o i j p m k (stood i p m a e) (stood j p k b f)

    -- reading the key that was named
    then_reads : Once t → number_of then (named c) ≡ read_after c n
    then_reads o = reads_at c n h o

-- ---- where a number comes from

walked_own : (s : List ℕ) (key : KeyNode) (budget n : ℕ) → Counted s key budget n → Walked s key budget n
walked_own s key budget n w =
    record {
      stands = (in_place s key).0 w.3;
      counts = w.0;
      kept = w.2;
      roomy = λ room h. ap (in_room full_of room) w.1 ∙ room_fits full_of room w.0 (rw w.2 h);
      tight = λ room h. ap (in_room full_of room) w.1 ∙ room_full full_of room w.0 (rw w.2 h);
      same = λ old new x y h.
          paper_read x w.0
          (y.answer ∙ here s key _ w.3 ∙ ap (in_room full_of (length old)) w.1 ∙ room_fits full_of (length old) w.0 (rw w.2 h));
    }

number_in_lem : (s : List ℕ) (t : Totals) (p n : ℕ) → Change s t (remove p) n → number_of t p ≡ success n
number_in_lem s t p n h = sym (number_there t p refl h.inside) ∙ ap success h.source

pub gives_at : (s : List ℕ) (t : Totals) (c : Call) (n : ℕ) → Change s t c n → Gives s t c n
gives_at s t (add key budget) n h = walked_own s key budget n h.source.1
gives_at s t (replace key budget) n h = walked_own s key budget n h.source
gives_at s t (remove p) n h = number_in_lem s t p n h

-- ---- one call, of any answer

pub calls : (s : List ℕ) → Bytes s → (t : Totals) (c : Call) (r : Changed) → Long t → Answers s t c r → Called s t c r
calls s b t c r l a =
    record {
      other_place = other_place s t c r a;
      refused = unchanged s t c r a;
      changes = λ n q. ((changing s t c r a n q).1.inside, (changing s t c r a n q).0);
      gives = λ n q. gives_at s t c n (changing s t c r a n q).1;
      moves = λ n q. moved n (changing s t c r a n q);
      stays = λ i p n d. stay i p n d (either s t c r a);
      others = λ p d. other p d (either s t c r a);
      keeps = λ m. keep m (either s t c r a);
      exact = λ m n q. exactly m n (changing s t c r a n q);
      once = λ o. alone o (either s t c r a);
      reads = λ o n q. read o n (changing s t c r a n q);
    }
  where
    moved : (n : ℕ) → Changing s t c r n → entries_in r.table + fewer c ≡ entries_in t + more c
    moved n x = rw x.0 (then_moves s t l c n x.1)

    exactly : Summed t → (n : ℕ) → Changing s t c r n → r.table.total + lost t c ≡ t.total + won c n
    exactly m n x = subst (λ (u : Totals). u.total + lost t c ≡ t.total + won c n) (sym x.0) (then_exact s t l c n x.1 b m)

    read : Once t → (n : ℕ) → Changing s t c r n → number_of r.table (named c) ≡ read_after c n
    read o n x = ap (λ (u : Totals). number_of u (named c)) x.0 ∙ then_reads s t l c n x.1 o

    stay : (i p n : ℕ) → (p ≡ named c → ⊥) → (r.table ≡ t) ⊎ ((m : ℕ) × Changing s t c r m) → Entry t i p n ↔ Entry r.table i p n
    stay i p n d (inl q) = subst (λ (u : Totals). Entry t i p n ↔ Entry u i p n) (sym q) ((λ e. e), (λ e. e))
    stay i p n d (inr x) = subst (λ (u : Totals). Entry t i p n ↔ Entry u i p n) (sym x.1.0) (then_stays s t l c x.0 x.1.1 i p n d)

    other : (p : ℕ) → (p ≡ named c → ⊥) → (r.table ≡ t) ⊎ ((m : ℕ) × Changing s t c r m) → number_of r.table p ≡ number_of t p
    other p d (inl q) = ap (λ (u : Totals). number_of u p) q
    other p d (inr x) = ap (λ (u : Totals). number_of u p) x.1.0 ∙ then_others s t l c x.0 x.1.1 p d

    keep : Summed t → (r.table ≡ t) ⊎ ((m : ℕ) × Changing s t c r m) → Summed r.table
    keep m (inl q) = subst Summed (sym q) m
    keep m (inr x) = subst Summed (sym x.1.0) (then_keeps s t l c x.0 x.1.1 b m)

    alone : Once t → (r.table ≡ t) ⊎ ((m : ℕ) × Changing s t c r m) → Once r.table
    alone o (inl q) = subst Once (sym q) o
    alone o (inr x) = subst Once (sym x.1.0) (then_once s t l c x.0 x.1.1 o)
