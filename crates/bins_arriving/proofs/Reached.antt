-- What holds after each byte of some bins: what has been judged is the whole check's, what is left of its answer is what is awaited, and a
-- refusal is its own, given with the byte that makes it due. Assumes nothing.
use Prim.Native.Nat.{ℕ, zero, suc, ◌+◌, ◌-◌, ◌*◌, ◌%◌, ◌^◌, ◌≤◌, ◌<◌}
use mathlib.Core.Path.{◌≡◌, refl, sym, ap, subst, ◌∙◌}
use mathlib.Core.List.{List, [], ◌∷◌}
use mathlib.Core.Bool.{Bool, true, false, cond, ◌&&◌}
use native.Mathlib.Numerals.{add-one}
use native.Mathlib.Omega.{arith}
use lib.ListN.{length, get_or, set, take, length-set}
use lib.Seq.{take-suc, get_or-set_same, get_or-set_other}
use lib.Dec.{ltb, leb, eqb}
use lib.IntN.{ℤ, nat_abs}
use borrow.Author.Tests.{ltb-true, ltb-false, leb-true, leb-false, eqb-true, eqb-false, lt-ltb, le-ltb, eq-eqb}
use Rattle.words.specs.Refusals.{BAD_BIN, BAD_CELL}
use Rattle.words.specs.Words.{little, word32, signed}
use Rattle.words.specs.Paper.{success, refused, by}
use Rattle.bins_arriving.specs.declared.Numbered.{Numbered}
use Rattle.hive_bin.specs.declared.BinTotals.{BinTotals}
use Rattle.hive_bin.specs.Walk.{size_word, good_cell, good_header, good_bin, bins_in}
use Rattle.hive_bin.specs.Totals.{answer_of, one_bin, cell_totals, together}
use Rattle.hive_bin.proofs.Sums.{plus, plus_plus, none_plus, totals_eq}
use Rattle.hive_bin.proofs.Pieces.{cell_facts, bin_facts, cell_fills}
use Rattle.bins_arriving.specs.declared.BinsSoFar.{BinsSoFar}
use Rattle.bins_arriving.specs.Arriving.{added, begun, on, await, refuse, too_short, settle, put, judge_bin, judge_cell, header, eaten, eat, feed}
use Rattle.bins_arriving.specs.Arrival.{due_at}
use Rattle.bins_arriving.proofs.Bytes.{sum_fits, on_the_way, is_open, eat_kept}
use Rattle.bins_arriving.proofs.Feeding.{feed-append}
use Rattle.bins_arriving.proofs.Left.{left, left_cell, left_no_cell, left_bin, left_no_bin, left_all}
use Rattle.std.specs.Prelude.{Ok, Err}
use Rattle.std.specs.declared.result.Result.{Result}

-- words of equal bytes
little_is : (n : ℕ) (a b : List ℕ) (i k : ℕ) → ((j : ℕ) → j < n → get_or a (i + j) 0 ≡ get_or b (k + j) 0) → little n a i ≡ little n b k
unfolding little
little_is zero a b i k f = refl
little_is (suc n) a b i k f = rw (little_is n a b i k (λ j h. f j (omega arith)), f n (omega arith)) refl

module _ (from : ℕ) (c : List ℕ) where
  -- ---- after k bytes of the bins c

  -- nothing is refused: a header is awaited, all that was judged is in the totals, and what is left of the answer is from that header on
  pub record Open (k : ℕ) (s : BinsSoFar) (t : BinTotals) : Type 0 where
    pub base : s.base ≡ from
    pub size : s.size ≡ length c
    pub taken : s.taken ≡ k
    pub in_bin : s.place ≤ s.over
    pub in_bins : s.over ≤ length c
    pub aligned : (s.over - s.place) % 8 ≡ 0
    pub bin_waits : s.place ≡ s.over → k < s.place + 32
    pub cell_waits : (s.place ≡ s.over → ⊥) → k < s.place + 4
    pub enough : s.place ≡ s.over → s.place < k → 32 ≤ length c - s.place
    pub long : length s.head ≡ 12
    pub kept : (i : ℕ) → i < 12 → s.place + i < k → get_or s.head i 0 ≡ get_or c (s.place + i) 0
    pub bytes : t.allocated_bytes + t.free_bytes + 32 * t.bins ≡ s.place
    pub pieces : t.bins + t.allocated_cells + t.free_cells ≤ s.place
    pub whole : answer_of (bins_in c) ≡ plus (success t) (left c s.place s.over)

  -- it is refused: as the whole check refuses, with the byte that makes the refusal due
  pub record Closed (k : ℕ) (s : BinsSoFar) (f : Numbered) : Type 0 where
    pub taken : s.taken ≤ k
    pub place : ℕ
    pub position : f.position ≡ from + place
    pub due : s.taken ≡ due_at (length c) f.number place
    pub whole : answer_of (bins_in c) ≡ refused (by f.number place)

  pub record Settled (k : ℕ) (s : BinsSoFar) (t : BinTotals) : Type 0 where
    pub known : Open k s t
    pub rest : s.place ≡ s.over → s.place ≡ k → s.place < length c → 32 ≤ length c - s.place

  abbrev pub Reached : ℕ → BinsSoFar → Result BinTotals Numbered → Type 0
  Reached k s (Ok t) = Settled k s t
  Reached k s (Err f) = Closed k s f

  -- the same before a rest too short for a header is judged
  abbrev Judged : ℕ → BinsSoFar → Result BinTotals Numbered → Type 0
  Judged k s (Ok t) = Open k s t
  Judged k s (Err f) = Closed k s f × (s.taken ≡ s.place → ⊥)

  -- ---- a fault that is met

  met : {k : ℕ} {s : BinsSoFar} {t : BinTotals} (n : ℕ) → Open k s t → left c s.place s.over ≡ refused (by n s.place)
      → answer_of (bins_in c) ≡ refused (by n s.place)
  unfolding plus
  met {t = t} n o e = o.whole ∙ ap (plus (success t)) e

  -- ---- settling

  short_facts : (s : BinsSoFar) → too_short s ≡ true → (s.taken ≡ s.place) × (s.place ≡ s.over) × (0 < s.size - s.place) × (s.size - s.place < 32)
  unfolding too_short
  short_facts s h = go (eqb s.taken s.place) (eqb s.place s.over) (ltb 0 (s.size - s.place)) (ltb (s.size - s.place) 32) refl refl refl refl h
    where
      go : (p q u v : Bool) → eqb s.taken s.place ≡ p → eqb s.place s.over ≡ q → ltb 0 (s.size - s.place) ≡ u → ltb (s.size - s.place) 32 ≡ v
          → p && q && u && v ≡ true → (s.taken ≡ s.place) × (s.place ≡ s.over) × (0 < s.size - s.place) × (s.size - s.place < 32)
      go true true true true a b d e i = (eqb-true _ _ a, eqb-true _ _ b, ltb-true _ _ d, ltb-true _ _ e)
      go true true true false a b d e i = absurd (let z : ◌≡◌ {A = ℕ} 0 1 = cc in omega arith)
      go true true false v a b d e i = absurd (let z : ◌≡◌ {A = ℕ} 0 1 = cc in omega arith)
      go true false u v a b d e i = absurd (let z : ◌≡◌ {A = ℕ} 0 1 = cc in omega arith)
      go false q u v a b d e i = absurd (let z : ◌≡◌ {A = ℕ} 0 1 = cc in omega arith)

  short_of : (s : BinsSoFar) → s.taken ≡ s.place → s.place ≡ s.over → 0 < s.size - s.place → s.size - s.place < 32 → too_short s ≡ true
  unfolding too_short
  short_of s a b d e =
      simp (eq-eqb s.taken s.place a, eq-eqb s.place s.over b, lt-ltb 0 (s.size - s.place) d, lt-ltb (s.size - s.place) 32 e)

  no_bin_in : (at : ℕ) → length c - at < 32 → good_bin c at (length c - at) ≡ false
  no_bin_in at h = go (good_bin c at (length c - at)) refl
    where
      go : (b : Bool) → good_bin c at (length c - at) ≡ b → good_bin c at (length c - at) ≡ false
      go true e = absurd (let f = bin_facts c at (length c - at) e in omega arith)
      go false e = e

  settles : {k : ℕ} {s : BinsSoFar} {t : BinTotals} → s.answer ≡ Ok t → Open k s t → Reached k (settle s) (settle s).answer
  unfolding settle
  settles {k} {s} {t} a o = go (too_short s) refl
    where
      go : (b : Bool) → too_short s ≡ b
          → Reached k (cond b (refuse s BAD_BIN (s.base + s.place)) s) (cond b (refuse s BAD_BIN (s.base + s.place)) s).answer
      go true e =
          let f = short_facts s e in
          let l : left c s.place s.over ≡ refused (by BAD_BIN s.place) =
          ap (left c s.place) (sym f.1)
          ∙ left_no_bin c s.place (omega (arith, o.size)) (no_bin_in s.place (omega (arith, o.size))) in
          record {
            taken = omega (arith, o.taken);
            place = s.place;
            position = ap (λ (n : ℕ). n + s.place) o.base;
            due = f.0 ∙ sym (simp (lt-ltb (length c - s.place) 32 (omega (arith, o.size))));
            whole = met BAD_BIN o l;
          }
      go false e =
          subst (Reached k s) (sym a)
          (record {
            known = o;
            rest = λ p q l. go_rest p q l (ltb (length c - s.place) 32) refl;
          })
        where
          go_rest : s.place ≡ s.over → s.place ≡ k → s.place < length c → (b : Bool) → ltb (length c - s.place) 32 ≡ b → 32 ≤ length c - s.place
          go_rest p q l true h =
              absurd
              (let i = ltb-true (length c - s.place) 32 h in
              let y = short_of s (omega (arith, o.taken)) p (omega (arith, o.size)) (omega (arith, o.size)) in
              let z : ◌≡◌ {A = ℕ} 0 1 = cc in
              omega arith)
          go_rest p q l false h = ltb-false _ _ h

  settles_judged : (k : ℕ) (r : BinsSoFar) (a : Result BinTotals Numbered) → r.answer ≡ a → Judged k r a → Reached k (settle r) (settle r).answer
  settles_judged k r (Ok t) e o = settles e o
  settles_judged k r (Err f) e j =
      subst (λ (v : BinsSoFar). Reached k v v.answer) (is_open r (on_the_way r j.1)) (subst (Reached k r) (sym e) j.0)

  -- ---- a byte

  module _ (small : length c < 2 ^ 64) {k : ℕ} {s : BinsSoFar} {t : BinTotals} (so : Settled k s t) (more : k < length c) where
    abbrev o : Open k s t
    o = so.known

    -- inside a cell
    inside : k < s.place → Open (k + 1) (on s 1) t
    inside h =
        record {
          base = o.base;
          size = o.size;
          taken = ap (λ (n : ℕ). n + 1) o.taken;
          in_bin = o.in_bin;
          in_bins = o.in_bins;
          aligned = o.aligned;
          bin_waits = λ e. omega arith;
          cell_waits = λ e. omega arith;
          enough = λ e l. absurd (omega arith);
          long = o.long;
          kept = λ i l m. absurd (omega arith);
          bytes = o.bytes;
          pieces = o.pieces;
          whole = o.whole;
        }

    -- of a header: it is kept
    module _ (at : s.place ≤ k) {x : ℕ} (is : x ≡ get_or c k 0) where
      abbrev p : BinsSoFar
      p = put s x

      put_long : length p.head ≡ 12
      unfolding put
      put_long = go (ltb (s.taken - s.place) 12)
        where
          go : (b : Bool) → length (cond b (set s.head (s.taken - s.place) x) s.head) ≡ 12
          go true = length-set s.head (s.taken - s.place) x ∙ o.long
          go false = o.long

      put_kept : (i : ℕ) → i < 12 → s.place + i < k + 1 → get_or p.head i 0 ≡ get_or c (s.place + i) 0
      unfolding put
      put_kept i l m = go (ltb (s.taken - s.place) 12) (eqb i (s.taken - s.place)) refl refl
        where
          go : (b d : Bool) → ltb (s.taken - s.place) 12 ≡ b → eqb i (s.taken - s.place) ≡ d
              → get_or (cond b (set s.head (s.taken - s.place) x) s.head) i 0 ≡ get_or c (s.place + i) 0
          go true true e f =
              let q = eqb-true i (s.taken - s.place) f in
              ap (λ (n : ℕ). get_or (set s.head (s.taken - s.place) x) n 0) q
              ∙ get_or-set_same s.head (s.taken - s.place) x 0 (omega (arith, o.long, ltb-true (s.taken - s.place) 12 e))
              ∙ is ∙ ap (λ (n : ℕ). get_or c n 0) (omega (arith, o.taken))
          go true false e f =
              let q = eqb-false i (s.taken - s.place) f in
              get_or-set_other s.head (s.taken - s.place) i x 0 q ∙ o.kept i l (omega (arith, o.taken))
          go false true e f =
              absurd (let q = eqb-true i (s.taken - s.place) f in let r = ltb-false (s.taken - s.place) 12 e in omega arith)
          go false false e f =
              let q = eqb-false i (s.taken - s.place) f in
              o.kept i l (omega (arith, o.taken))

      put_enough : s.place ≡ s.over → 32 ≤ length c - s.place
      put_enough e = go (eqb s.place k) refl
        where
          go : (b : Bool) → eqb s.place k ≡ b → 32 ≤ length c - s.place
          go true f = so.rest e (eqb-true s.place k f) (omega arith)
          go false f = let q = eqb-false s.place k f in o.enough e (omega arith)

      -- it is not whole yet
      put_open : (s.place ≡ s.over → k + 1 < s.place + 32) → ((s.place ≡ s.over → ⊥) → k + 1 < s.place + 4) → Open (k + 1) p t
      unfolding put
      put_open b d =
          record {
            base = o.base;
            size = o.size;
            taken = ap (λ (n : ℕ). n + 1) o.taken;
            in_bin = o.in_bin;
            in_bins = o.in_bins;
            aligned = o.aligned;
            bin_waits = b;
            cell_waits = d;
            enough = λ e l. put_enough e;
            long = put_long;
            kept = put_kept;
            bytes = o.bytes;
            pieces = o.pieces;
            whole = o.whole;
          }

      -- a word of it is a word of the bins
      word_kept : (i : ℕ) → i + 3 < 12 → s.place + i + 3 < k + 1 → word32 p.head i ≡ word32 c (s.place + i)
      word_kept i l m =
          little_is 4 p.head c i (s.place + i)
          (λ j h. put_kept (i + j) (omega arith) (omega arith) ∙ ap (λ (n : ℕ). get_or c n 0) (omega arith))

      fits : (u : BinTotals) → t.bins + t.allocated_cells + t.free_cells + u.bins + u.allocated_cells + u.free_cells < 2 ^ 64
          → t.allocated_bytes + t.free_bytes + u.allocated_bytes + u.free_bytes < 2 ^ 64 → added t u ≡ together t u
      fits u a b =
          totals_eq (sym (sum_fits (omega arith))) (sym (sum_fits (omega arith))) (sym (sum_fits (omega arith))) (sym (sum_fits (omega arith))) (sym (sum_fits (omega arith)))

      -- a bin's is whole
      module _ (e : s.place ≡ s.over) (whole : k + 1 ≡ s.place + 32) where
        abbrev n : ℕ
        n = word32 c (s.place + 8)

        size_is : word32 p.head 8 ≡ n
        size_is = word_kept 8 (omega arith) (omega arith)

        head_is : good_header (word32 p.head 0) (word32 p.head 4) (word32 p.head 8) p.place (p.size - p.place)
            ≡ good_bin c s.place (length c - s.place)
        unfolding good_bin put
        head_is =
            let a : word32 p.head 0 ≡ word32 c s.place = word_kept 0 (omega arith) (omega arith) ∙ ap (word32 c) (omega arith) in
            rw (a, word_kept 4 (omega arith) (omega arith), size_is, o.size) refl

        bin_good : good_bin c s.place (length c - s.place) ≡ true
            → Open (k + 1) (await p (p.place + 32) (p.place + word32 p.head 8) (added t one_bin)) (added t one_bin)
        unfolding put
        bin_good g =
            let f = bin_facts c s.place (length c - s.place) g in
            let q = o.bytes in
            let r = o.pieces in
            let i = size_is in
            subst (λ (u : BinTotals). Open (k + 1) (await p (p.place + 32) (p.place + word32 p.head 8) u) u)
            (sym (fits one_bin (omega arith) (omega arith)))
            (record {
              base = o.base;
              size = o.size;
              taken = ap (λ (m : ℕ). m + 1) o.taken;
              in_bin = omega arith;
              in_bins = omega arith;
              aligned = omega arith;
              bin_waits = λ h. omega arith;
              cell_waits = λ h. omega arith;
              enough = λ h l. absurd (omega arith);
              long = put_long;
              kept = λ j l m. absurd (omega arith);
              bytes = omega arith;
              pieces = omega arith;
              whole =
                  o.whole
                  ∙ ap (λ (m : ℕ). plus (success t) (left c s.place m)) (sym e)
                  ∙ ap (plus (success t)) (left_bin c s.place g)
                  ∙ plus_plus t one_bin _
                  ∙ ap (λ (m : ℕ). plus (success (together t one_bin)) (left c (s.place + 32) (s.place + m))) (sym i);
            })

        bin_bad : good_bin c s.place (length c - s.place) ≡ false → Closed (k + 1) (refuse p BAD_BIN (p.base + p.place)) (record { number = BAD_BIN; position = p.base + p.place })
        unfolding put
        bin_bad g =
            record {
              taken = omega (arith, o.taken);
              place = s.place;
              position = ap (λ (m : ℕ). m + s.place) o.base;
              due = ap (λ (m : ℕ). m + 1) o.taken ∙ whole ∙ sym (simp (le-ltb (length c - s.place) 32 (omega arith)));
              whole = met BAD_BIN o (ap (left c s.place) (sym e) ∙ left_no_bin c s.place (omega arith) g);
            }

        put-behind : p.taken ≡ p.place → ⊥
        unfolding put
        put-behind h = omega (arith, o.taken)

        bin_comes : Judged (k + 1) (judge_bin p t) (judge_bin p t).answer
        unfolding judge_bin
        bin_comes = rw head_is (go (good_bin c s.place (length c - s.place)) refl)
          where
            good : BinsSoFar
            good = await p (p.place + 32) (p.place + word32 p.head 8) (added t one_bin)

            bad : BinsSoFar
            bad = refuse p BAD_BIN (p.base + p.place)

            go : (b : Bool) → good_bin c s.place (length c - s.place) ≡ b → Judged (k + 1) (cond b good bad) (cond b good bad).answer
            go true g = bin_good g
            go false g = (bin_bad g, put-behind)

      -- a cell's is whole
      module _ (e : s.place ≡ s.over → ⊥) (whole : k + 1 ≡ s.place + 4) where
        abbrev z : ℤ
        z = size_word c s.place

        word_is : size_word p.head 0 ≡ z
        word_is = ap signed (word_kept 0 (omega arith) (omega arith) ∙ ap (word32 c) (omega arith))

        cell_good : good_cell z (s.over - s.place) ≡ true
            → Open (k + 1) (await p (p.place + nat_abs z) p.over (added t (cell_totals z))) (added t (cell_totals z))
        unfolding put
        cell_good g =
            let f = cell_facts z (s.over - s.place) g in
            let w = cell_fills z s.place f.0 in
            let q = o.bytes in
            let r = o.pieces in
            let a = o.aligned in
            let i = o.in_bins in
            subst (λ (u : BinTotals). Open (k + 1) (await p (p.place + nat_abs z) p.over u) u)
            (sym (fits (cell_totals z) (omega arith) (omega arith)))
            (record {
              base = o.base;
              size = o.size;
              taken = ap (λ (m : ℕ). m + 1) o.taken;
              in_bin = omega arith;
              in_bins = i;
              aligned = omega arith;
              bin_waits = λ h. omega arith;
              cell_waits = λ h. omega arith;
              enough = λ h l. absurd (omega arith);
              long = put_long;
              kept = λ j l m. absurd (omega arith);
              bytes = omega arith;
              pieces = omega arith;
              whole = o.whole ∙ ap (plus (success t)) (left_cell c s.place s.over g) ∙ plus_plus t (cell_totals z) _;
            })

        cell-bad : good_cell z (s.over - s.place) ≡ false → Closed (k + 1) (refuse p BAD_CELL (p.base + p.place)) (record { number = BAD_CELL; position = p.base + p.place })
        unfolding put
        cell-bad g =
            record {
              taken = omega (arith, o.taken);
              place = s.place;
              position = ap (λ (m : ℕ). m + s.place) o.base;
              due = ap (λ (m : ℕ). m + 1) o.taken ∙ whole;
              whole = met BAD_CELL o (left_no_cell c s.place s.over (omega (arith, o.in_bin)) g);
            }

        cell-behind : p.taken ≡ p.place → ⊥
        unfolding put
        cell-behind h = omega (arith, o.taken)

        over_kept : p.over - p.place ≡ s.over - s.place
        unfolding put
        over_kept = refl

        cell_comes : Judged (k + 1) (judge_cell p t) (judge_cell p t).answer
        unfolding judge_cell
        cell_comes = rw (word_is, over_kept) (go (good_cell z (s.over - s.place)) refl)
          where
            good : BinsSoFar
            good = await p (p.place + nat_abs z) p.over (added t (cell_totals z))

            bad : BinsSoFar
            bad = refuse p BAD_CELL (p.base + p.place)

            go : (b : Bool) → good_cell z (s.over - s.place) ≡ b → Judged (k + 1) (cond b good bad) (cond b good bad).answer
            go true g = cell_good g
            go false g = (cell-bad g, cell-behind)

      -- a byte of a header, whole or not
      header_comes : s.answer ≡ Ok t → Judged (k + 1) (header p t) (header p t).answer
      unfolding header put
      header_comes a = go (eqb s.place s.over) refl
        where
          bin : s.place ≡ s.over → (m : Bool) → leb 32 (s.taken + 1 - s.place) ≡ m
              → Judged (k + 1) (cond m (judge_bin p t) p) (cond m (judge_bin p t) p).answer
          bin e true f = let l = leb-true 32 (s.taken + 1 - s.place) f in bin_comes e (omega (arith, o.taken, o.bin_waits e))
          bin e false f =
              let l = leb-false 32 (s.taken + 1 - s.place) f in
              subst (Judged (k + 1) p) (sym a) (put_open (λ h. omega (arith, o.taken)) (λ h. absurd (h e)))

          cell : (s.place ≡ s.over → ⊥) → (m : Bool) → leb 4 (s.taken + 1 - s.place) ≡ m
              → Judged (k + 1) (cond m (judge_cell p t) p) (cond m (judge_cell p t) p).answer
          cell e true f = let l = leb-true 4 (s.taken + 1 - s.place) f in cell_comes e (omega (arith, o.taken, o.cell_waits e))
          cell e false f =
              let l = leb-false 4 (s.taken + 1 - s.place) f in
              subst (Judged (k + 1) p) (sym a) (put_open (λ h. absurd (e h)) (λ h. omega (arith, o.taken)))

          go : (b : Bool) → eqb s.place s.over ≡ b
              → Judged (k + 1) (cond (leb (cond b 32 4) (s.taken + 1 - s.place)) (cond b (judge_bin p t) (judge_cell p t)) p)
              (cond (leb (cond b 32 4) (s.taken + 1 - s.place)) (cond b (judge_bin p t) (judge_cell p t)) p).answer
          go true e = bin (eqb-true s.place s.over e) _ refl
          go false e = cell (eqb-false s.place s.over e) _ refl

    byte_comes : s.answer ≡ Ok t → Reached (k + 1) (eat s (get_or c k 0)) (eat s (get_or c k 0)).answer
    unfolding eat
    byte_comes a =
        subst (λ (b : Result BinTotals Numbered). Reached (k + 1) (eaten b s (get_or c k 0)) (eaten b s (get_or c k 0)).answer) (sym a)
        (settles_judged (k + 1) next _ refl (go (ltb s.taken s.place) refl))
      where
        next : BinsSoFar
        next = cond (ltb s.taken s.place) (on s 1) (header (put s (get_or c k 0)) t)

        go : (b : Bool) → ltb s.taken s.place ≡ b
            → Judged (k + 1) (cond b (on s 1) (header (put s (get_or c k 0)) t)) (cond b (on s 1) (header (put s (get_or c k 0)) t)).answer
        go true e = subst (Judged (k + 1) (on s 1)) (sym a) (inside (let l = ltb-true s.taken s.place e in omega (arith, o.taken)))
        go false e = header_comes (let l = ltb-false s.taken s.place e in omega (arith, o.taken)) refl a

  -- ---- from the start on

  begins : Reached 0 (settle (begun from (length c))) (settle (begun from (length c))).answer
  begins =
      settles refl
      (record {
        base = refl;
        size = refl;
        taken = refl;
        in_bin = omega arith;
        in_bins = omega arith;
        aligned = refl;
        bin_waits = λ e. omega arith;
        cell_waits = λ e. omega arith;
        enough = λ e l. absurd (omega arith);
        long = refl;
        kept = λ i l m. absurd (omega arith);
        bytes = refl;
        pieces = omega arith;
        whole = sym (left_all c) ∙ sym (none_plus _);
      })

  byte_on : length c < 2 ^ 64 → (k : ℕ) (s : BinsSoFar) → k < length c → (a : Result BinTotals Numbered) → s.answer ≡ a → Reached k s a
      → Reached (k + 1) (eat s (get_or c k 0)) (eat s (get_or c k 0)).answer
  byte_on small k s l (Ok t) e r = byte_comes small r l e
  byte_on small k s l (Err f) e r =
      subst (λ (v : BinsSoFar). Reached (k + 1) v v.answer) (eat_kept s e (get_or c k 0))
      (subst (Reached (k + 1) s) (sym e)
      (record { taken = omega (arith, r.taken); place = r.place; position = r.position; due = r.due; whole = r.whole }))

  pub reaches : length c < 2 ^ 64 → (k : ℕ) → k ≤ length c
      → Reached k (feed (settle (begun from (length c))) (take k c)) (feed (settle (begun from (length c))) (take k c)).answer
  unfolding feed
  reaches small zero l = begins
  reaches small (suc k) l =
      subst (λ (v : BinsSoFar). Reached (suc k) v v.answer)
      (sym (feed-append (settle (begun from (length c))) (take k c) (get_or c k 0 ∷ []))
      ∙ ap (feed (settle (begun from (length c)))) (sym (take-suc c k 0 (omega arith))))
      (subst (λ (n : ℕ). Reached n (eat (feed (settle (begun from (length c))) (take k c)) (get_or c k 0)) (eat (feed (settle (begun from (length c))) (take k c)) (get_or c k 0)).answer)
      (add-one k)
      (byte_on small k (feed (settle (begun from (length c))) (take k c)) (omega arith) _ refl (reaches small k (omega arith))))
