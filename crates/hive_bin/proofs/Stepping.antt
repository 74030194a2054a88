-- From the start to the end a reader's steps tell the cells of the definition: what one step says of what is left. Assumes nothing.
use Prim.Native.Nat.{ℕ, zero, suc, ◌+◌, ◌-◌, ◌≤◌, ◌<◌}
use mathlib.Core.Path.{◌≡◌, refl, sym, ap, subst, ◌∙◌}
use mathlib.Core.List.{List, [], ◌∷◌, append_assoc}
use mathlib.Core.Bool.{Bool, true, false, cond}
use native.Mathlib.Nat.{add_assoc}
use native.Mathlib.Omega.{arith}
use lib.ListN.{length}
use lib.Dec.{eqb}
use lib.IntN.{nat_abs}
use borrow.Author.Tests.{eqb-true, eqb-false, eq-eqb, ne_eqb}
use Rattle.words.specs.Refusals.{BAD_BIN, BAD_CELL}
use Rattle.words.specs.Words.{word32}
use Rattle.words.specs.Paper.{Paper, success, refused, by, on_success}
use Rattle.words.proofs.Papers.{refused-success, same-success, on_success_of}
use Rattle.hive_bin.specs.declared.Spot.{Spot}
use Rattle.hive_bin.specs.Walk.{Found, Walk, found, fault, join, row, size_word, good_cell, cell_row, good_bin, bin_row, bins_in}
use Rattle.hive_bin.specs.Steps.{start, Stepped, cell, end, next_of, cell_in, place_of, step_at, found_in, step_paper, cells_of, and_on, cells_by, Keeps, TellsAll, places, Rising}
use Rattle.hive_bin.proofs.Rows.{row-end, row-bad, row_more}
use Rattle.hive_bin.proofs.Pieces.{cell_facts, cells_sound, bin_facts, bins_sound}
use Rattle.hive_bin.proofs.Steps.{behind-header, next_bin, next_cell, at-start, not_at_start}
use Rattle.std.specs.Prelude.{Ok, Err}
use Rattle.std.specs.declared.result.Result.{Result}
use Rattle.std.specs.declared.option.Option.{Option}
use Rattle.hive_bin.specs.declared.CellStep.{CellStep}
use Rattle.words.specs.declared.Refusal.{Refusal}
use Rattle.std.specs.declared.option.Option.TheVariants.{Some, None}

-- ---- the cells of one stretch after another

join-join : (u v w : Walk) → join (join u v) w ≡ join u (join v w)
unfolding join
join-join (fault n p) v w = refl
join-join (found b cs) (fault n p) w = refl
join-join (found b cs) (found c ds) (fault n p) = refl
join-join (found b cs) (found c ds) (found d es) = simp (add_assoc, append_assoc)

cells_none : (n : ℕ) (w : Walk) → cells_of (join (found n []) w) ≡ cells_of w
unfolding cells_of join
cells_none n (found m cs) = refl
cells_none n (fault m p) = refl

cells_one : (n : ℕ) (c : Found) (w : Walk) → cells_of (join (found n (c ∷ [])) w) ≡ on_success (λ (cs : List Found). c ∷ cs) (cells_of w)
unfolding cells_of join on_success
cells_one n c (found m cs) = refl
cells_one n c (fault m p) = refl

cells_fault : (n p : ℕ) (w : Walk) → cells_of (join (fault n p) w) ≡ refused (by n p)
unfolding cells_of join
cells_fault n p w = refl

-- ---- what is left

-- from a place of a bin that ends at `over` on: its further cells, and the bins behind it
in_bin : List ℕ → ℕ → ℕ → Walk
in_bin b over place = join (row (cell_row b) place (over - place)) (row (bin_row b) over (length b - over))

-- the cells from a spot on, or the first fault
unfoldable pub rest : List ℕ → Spot → Paper (List Found)
unfolding in_bin
rest b s = cells_of (cond (eqb s.place s.bin) (row (bin_row b) s.bin (length b - s.bin)) (in_bin b (s.bin + word32 b (s.bin + 8)) s.place))

-- a spot that is led to: the start of a bin or the end of them all, or a place within a bin, behind its header
pub data Stands (b : List ℕ) (s : Spot) : Type 0 where
  outside : s.place ≡ s.bin → s.bin ≤ length b → Stands b s
  inside : good_bin b s.bin (length b - s.bin) ≡ true → s.bin + 32 ≤ s.place → s.place < s.bin + word32 b (s.bin + 8) → Stands b s

pub stands_in : {b : List ℕ} {s : Spot} → Stands b s → (s.bin ≤ s.place) × (s.place ≤ length b)
stands_in (outside e l) = (omega arith, omega arith)
stands_in {b} {s} (inside g h l) = let k = bin_facts b s.bin (length b - s.bin) g in (omega arith, omega arith)

pub stands_start : (b : List ℕ) → Stands b start
stands_start b = outside refl (omega arith)

-- a cell was told from the place `at`, where `left` is left
pub record Tells (b : List ℕ) (left : Paper (List Found)) (at : ℕ) (c : Found) (t : Spot) : Type 0 where
  pub from : at ≤ c.place
  pub on : c.place < t.place
  pub stands : Stands b t
  pub whole : left ≡ on_success (λ (cs : List Found). c ∷ cs) (rest b t)

-- what a step says of what is left
abbrev pub Says : List ℕ → Paper (List Found) → ℕ → Paper Stepped → Type 0
Says b left at (success (cell c t)) = Tells b left at c t
Says b left at (success end) = left ≡ success []
Says b left at (refused f) = (left ≡ refused f) × (f.position ≤ length b)

earlier : (b : List ℕ) (left : Paper (List Found)) (at from : ℕ) → at ≤ from → (a : Paper Stepped) → Says b left from a → Says b left at a
earlier b left at from h (success (cell c t)) k = record { from = omega (arith, k.from); on = k.on; stands = k.stands; whole = k.whole }
earlier b left at from h (success end) k = k
earlier b left at from h (refused f) k = k

module _ (b : List ℕ) (bin over : ℕ) (good : good_bin b bin (length b - bin) ≡ true) (is : over ≡ bin + word32 b (bin + 8)) where
  over_in : (bin + 32 < over) × (over ≤ length b)
  over_in = let k = bin_facts b bin (length b - bin) good in (omega arith, omega arith)

  -- behind a cell that ends at a place: where the reader stands next, and what is left from there
  stands_next : (place : ℕ) → bin + 32 ≤ place → place ≤ over → Stands b (next_of bin over place)
  stands_next place h l = go (eqb place over) refl
    where
      go : (t : Bool) → eqb place over ≡ t → Stands b (next_of bin over place)
      go true e = subst (Stands b) (next_bin bin over place (eqb-true place over e)) (outside refl over_in.1)
      go false e = let k = eqb-false place over e in subst (Stands b) (next_cell bin over place k) (inside good h (omega arith))

  next_place : (place : ℕ) → (next_of bin over place).place ≡ place
  next_place place = go (eqb place over) refl
    where
      go : (t : Bool) → eqb place over ≡ t → (next_of bin over place).place ≡ place
      go true e = ap (λ (s : Spot). s.place) (sym (next_bin bin over place (eqb-true place over e))) ∙ sym (eqb-true place over e)
      go false e = ap (λ (s : Spot). s.place) (sym (next_cell bin over place (eqb-false place over e)))

  next_rest : (place : ℕ) → bin + 32 ≤ place → cells_of (in_bin b over place) ≡ rest b (next_of bin over place)
  unfolding in_bin rest
  next_rest place h = go (eqb place over) refl
    where
      go : (t : Bool) → eqb place over ≡ t → cells_of (in_bin b over place) ≡ rest b (next_of bin over place)
      go true e =
          let f = eqb-true place over e in
          ap (λ (w : Walk). cells_of (join w (row (bin_row b) over (length b - over)))) (row-end (cell_row b) (cells_sound b) place (over - place) (omega arith))
          ∙ cells_none 0 _
          ∙ sym (ap (λ (t : Bool). cells_of (cond t (row (bin_row b) over (length b - over)) (in_bin b (over + word32 b (over + 8)) over))) (eq-eqb over over refl))
          ∙ ap (rest b) (next_bin bin over place f)
      go false e =
          let f = eqb-false place over e in
          ap (λ (n : ℕ). cells_of (in_bin b n place)) is
          ∙ sym (ap (λ (t : Bool). cells_of (cond t (row (bin_row b) bin (length b - bin)) (in_bin b (bin + word32 b (bin + 8)) place))) (ne_eqb place bin (omega arith)))
          ∙ ap (rest b) (next_cell bin over place f)

  -- the cell at a place behind the header
  cell_says : (place : ℕ) → bin + 32 ≤ place → place < over → Says b (cells_of (in_bin b over place)) place (cell_in b bin over place)
  unfolding cell_in cell_row in_bin
  cell_says place h l = rw (sym (behind-header bin over place h refl)) (go (good_cell (size_word b place) (over - place)) refl)
    where
      c : Found
      c = record { place = place; size = size_word b place }

      n : ℕ
      n = nat_abs (size_word b place)

      go : (t : Bool) → good_cell (size_word b place) (over - place) ≡ t
          → Says b (cells_of (in_bin b over place)) place (cond t (success (cell c (next_of bin over (place + n)))) (refused (by BAD_CELL place)))
      go true e =
          let k = cell_facts (size_word b place) (over - place) e in
          let z : over - place - n ≡ over - (place + n) = omega arith in
          record {
            from = omega arith;
            on = omega (arith, next_place (place + n));
            stands = stands_next (place + n) (omega arith) (omega arith);
            whole =
                ap (λ (w : Walk). cells_of (join w (row (bin_row b) over (length b - over)))) (row_more (cell_row b) (cells_sound b) place (over - place) e)
                ∙ ap cells_of (join-join _ _ _)
                ∙ cells_one 0 c _
                ∙ ap (λ (m : ℕ). on_success (λ (cs : List Found). c ∷ cs) (cells_of (join (row (cell_row b) (place + n) m) (row (bin_row b) over (length b - over))))) z
                ∙ ap (on_success (λ (cs : List Found). c ∷ cs)) (next_rest (place + n) (omega arith));
          }
      go false e =
          let k = over_in in (
            ap (λ (w : Walk). cells_of (join w (row (bin_row b) over (length b - over)))) (row-bad (cell_row b) (cells_sound b) place (over - place) (omega arith) e)
                ∙ cells_fault BAD_CELL place _,
            omega arith,
          )

  -- at the bin's start its first cell is left, and what follows it
  bin_rest : cells_of (row (bin_row b) bin (length b - bin)) ≡ cells_of (in_bin b over (bin + 32))
  unfolding in_bin bin_row
  bin_rest =
      let n = word32 b (bin + 8) in
      let k = bin_facts b bin (length b - bin) good in
      let z : n - 32 ≡ over - (bin + 32) = omega arith in
      let y : length b - bin - n ≡ length b - over = omega arith in
      ap cells_of (row_more (bin_row b) (bins_sound b) bin (length b - bin) good ∙ join-join _ _ _)
      ∙ cells_none 1 _
      ∙ simp (z, y, sym is)

-- ---- a step from a spot that is led to

module _ (b : List ℕ) (s : Spot) where
  rest_start : s.place ≡ s.bin → rest b s ≡ cells_of (row (bin_row b) s.bin (length b - s.bin))
  unfolding rest in_bin
  rest_start e = simp (eq-eqb s.place s.bin e)

  rest_inside : (s.place ≡ s.bin → ⊥) → rest b s ≡ cells_of (in_bin b (s.bin + word32 b (s.bin + 8)) s.place)
  unfolding rest in_bin
  rest_inside e = simp (ne_eqb s.place s.bin e)

  start_says : s.place ≡ s.bin → s.bin ≤ length b → Says b (rest b s) s.place (step_at b s)
  unfolding step_at bin_row cells_of
  start_says e l =
      rw (rest_start e, sym (at-start b s e))
      (go (eqb s.bin (length b)) (good_bin b s.bin (length b - s.bin)) refl refl)
    where
      left : Paper (List Found)
      left = cells_of (row (bin_row b) s.bin (length b - s.bin))

      over : ℕ
      over = s.bin + word32 b (s.bin + 8)

      go : (z g : Bool) → eqb s.bin (length b) ≡ z → good_bin b s.bin (length b - s.bin) ≡ g
          → Says b left s.place (cond z (success end) (cond g (cell_in b s.bin over (place_of s)) (refused (by BAD_BIN s.bin))))
      go true g hz hg = let f = eqb-true s.bin (length b) hz in ap cells_of (row-end (bin_row b) (bins_sound b) s.bin (length b - s.bin) (omega arith))
      go false true hz hg =
          let k = over_in b s.bin over hg refl in
          let p : s.bin + 32 ≡ place_of s = sym (simp (eq-eqb s.place s.bin e)) in
          subst (λ (w : Paper (List Found)). Says b w s.place (cell_in b s.bin over (place_of s))) (sym (bin_rest b s.bin over hg refl))
          (subst (λ (m : ℕ). Says b (cells_of (in_bin b over (s.bin + 32))) s.place (cell_in b s.bin over m)) p
          (earlier b _ s.place (s.bin + 32) (omega arith) (cell_in b s.bin over (s.bin + 32)) (cell_says b s.bin over hg refl (s.bin + 32) (omega arith) k.0)))
      go false false hz hg =
          let f = eqb-false s.bin (length b) hz in
          (ap cells_of (row-bad (bin_row b) (bins_sound b) s.bin (length b - s.bin) (omega arith) hg), l)

  inside_says : good_bin b s.bin (length b - s.bin) ≡ true → s.bin + 32 ≤ s.place → s.place < s.bin + word32 b (s.bin + 8)
      → Says b (rest b s) s.place (step_at b s)
  unfolding step_at
  inside_says g h l =
      let f : s.place ≡ s.bin → ⊥ = λ e. omega arith in
      rw (rest_inside f, sym (not_at_start b s f), g, ne_eqb s.place s.bin f)
      (cell_says b s.bin (s.bin + word32 b (s.bin + 8)) g refl s.place h l)

  pub step_says : Stands b s → Says b (rest b s) s.place (step_at b s)
  step_says (outside e l) = start_says e l
  step_says (inside g h l) = inside_says g h l

pub rest_all : (b : List ℕ) → rest b start ≡ cells_of (bins_in b)
unfolding bins_in
rest_all b = rest_start b start refl ∙ ap (λ (n : ℕ). cells_of (row (bin_row b) 0 n)) (omega arith)

-- ---- the cells' places rise

head_is : {A : Type 0} {x y : A} {xs ys : List A} → x ∷ xs ≡ y ∷ ys → (x ≡ y) × (xs ≡ ys)
head_is e = (cc, cc)

pub rising_later : (at from : ℕ) (ps : List ℕ) → at ≤ from → Rising from ps → Rising at ps
rising_later at from [] h k = tt
rising_later at from (p ∷ ps) h k = (omega arith, k.1)

module _ (b : List ℕ) where
  cells_rise : (cs : List Found) (s : Spot) → Stands b s → rest b s ≡ success cs → Rising s.place (places cs)
  cells_rise [] s h e = tt
  cells_rise (c ∷ cs) s h e = go (step_at b s) (step_says b s h) (λ t k f. cells_rise cs t k f)
    where
      go : (a : Paper Stepped) → Says b (rest b s) s.place a → ((t : Spot) → Stands b t → rest b t ≡ success cs → Rising t.place (places cs))
          → (s.place ≤ c.place) × Rising (suc c.place) (places cs)
      go (success (cell d t)) k on =
          let x = on_success_of _ (rest b t) (sym k.whole ∙ e) in
          let y = head_is x.2 in
          let z : d.place ≡ c.place = ap (λ (f : Found). f.place) y.0 in
          (omega (arith, k.from), rising_later (suc c.place) t.place (places cs) (omega (arith, k.on)) (on t k.stands (x.1 ∙ ap success y.1)))
      go (success end) k on = absurd (let y = same-success (sym k ∙ e) in let z : ◌≡◌ {A = ℕ} 0 1 = cc in omega arith)
      go (refused f) k on = absurd (refused-success (sym k.0 ∙ e))

  -- those of the bins, from the start on
  pub rising : (cs : List Found) → cells_of (bins_in b) ≡ success cs → Rising 0 (places cs)
  rising cs e = cells_rise cs start (stands_start b) (rest_all b ∙ e)

-- ---- from a spot to the end

module _ (b : List ℕ) (step : Spot → Result (Option CellStep) Refusal) (keeps : Keeps b step) where
  -- one answer, and those from the next place on
  on_from : (s : Spot) (on : Spot → Paper (List Found)) (r : Result (Option CellStep) Refusal) → Says b (rest b s) s.place (step_paper r)
      → ((t : Spot) → Stands b t → s.place < t.place → on t ≡ rest b t) → and_on r on ≡ rest b s
  on_from s on (Ok (Some c)) k go =
      let l : s.place < c.next.place = omega (arith, k.from, k.on) in
      ap (on_success (λ (cs : List Found). found_in c ∷ cs)) (go c.next k.stands l) ∙ sym k.whole
  on_from s on (Ok None) k go = sym k
  on_from s on (Err f) k go = sym k.0

  says_answer : (s : Spot) → Stands b s → Says b (rest b s) s.place (step_paper (step s))
  says_answer s h =
      let k = stands_in h in
      subst (Says b (rest b s) s.place) (sym (keeps s (omega arith) (omega arith))) (step_says b s h)

  pub cells_from : (n : ℕ) (s : Spot) → Stands b s → length b ≤ s.place + n → cells_by step n s ≡ rest b s
  unfolding cells_by
  cells_from zero s h l =
      on_from s (λ t. success []) (step s) (says_answer s h)
      (λ t k m. absurd (omega (arith, stands_in k)))
  cells_from (suc n) s h l =
      on_from s (cells_by step n) (step s) (says_answer s h)
      (λ t k m. cells_from n t k (omega arith))

  -- "tells the cell and the next place": from the start on, all of them
  pub tells_all : TellsAll b step
  tells_all = cells_from (length b) start (stands_start b) (omega arith) ∙ rest_all b
