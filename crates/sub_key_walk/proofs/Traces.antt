-- What the lists of a trace are. Assumes nothing.
use mathlib.Core.Path.{◌≡◌, refl, ap, sym, subst, ◌∙◌}
use mathlib.Core.List.{List, [], ◌∷◌, ◌++◌}
use mathlib.Core.Bool.{Bool, true, false}
use Prim.Native.Nat.{ℕ, zero, suc, ◌+◌, ◌-◌, ◌*◌, ◌≤◌, ◌<◌}
use native.Mathlib.Nat.{suc-mul, mul-add}
use native.Mathlib.Omega.{arith}
use borrow.Author.Tests.{eq-eqb, ne_eqb, le-ltb, eqb-true, eqb-false, ltb-false}
use lib.Dec.{eqb, ltb}
use lib.ListN.{length, length-append}
use Rattle.words.specs.Words.{word32}
use Rattle.words.specs.Paper.{Told, Paper, success, refused}
use Rattle.words.proofs.Papers.{success-refused, same-success}
use Rattle.sub_key_list.specs.Lists.{LF, LH, LI, RI, entry_size, Listed, of_kind, kind_at, count_at, list_at}
use Rattle.sub_key_list.specs.Lists as lists
use Rattle.sub_key_list.specs.Leaves.{Leaf, leaf_of}
use Rattle.sub_key_walk.specs.Trace.{Event, deep, bad, index, leaf, each, below, trace, ordinary, entries_in, entries_of, total}
use Rattle.sub_key_walk.specs.Free.{All, Known, is_lf, is_lh, is_li, is_ri, Readable, Fine, Full}
use Rattle.sub_key_walk.proofs.Walks.{total-append}
use Rattle.sub_key_walk.proofs.Judged.{Good}

-- ---- the kinds with a size are the known ones

known_sized : (kind : ℕ) → Known kind → entry_size kind ≡ 0 → ⊥
unfolding entry_size
known_sized kind (is_lf e) z = let x : entry_size LF ≡ 0 = ap entry_size (sym e) ∙ z in omega arith
known_sized kind (is_lh e) z = let x : entry_size LH ≡ 0 = ap entry_size (sym e) ∙ z in omega arith
known_sized kind (is_li e) z = let x : entry_size LI ≡ 0 = ap entry_size (sym e) ∙ z in omega arith
known_sized kind (is_ri e) z = let x : entry_size RI ≡ 0 = ap entry_size (sym e) ∙ z in omega arith

sized_known : (kind : ℕ) → (entry_size kind ≡ 0 → ⊥) → Known kind
unfolding entry_size
sized_known kind h = go (eqb kind LF) (eqb kind LH) (eqb kind LI) (eqb kind RI) refl refl refl refl
  where
    go : (a b c d : Bool) → eqb kind LF ≡ a → eqb kind LH ≡ b → eqb kind LI ≡ c → eqb kind RI ≡ d → Known kind
    go true b c d p q r s = is_lf (eqb-true _ _ p)
    go false true c d p q r s = is_lh (eqb-true _ _ q)
    go false false true d p q r s = is_li (eqb-true _ _ r)
    go false false false true p q r s = is_ri (eqb-true _ _ s)
    go false false false false p q r s = absurd (h (rw (p, q, r, s)))

-- ---- a list can be read exactly when it is no refusal

module _ (s : List ℕ) (p : ℕ) where
  readable_list : Readable s p → list_at s p ≡ success (of_kind (kind_at s p) (count_at s p))
  unfolding list_at
  readable_list r =
      let h = r.header in
      let e = r.entries in
      rw (
        le-ltb (length s) p (omega arith),
        le-ltb (length s - p) 8 (omega arith),
        ne_eqb _ _ (known_sized (kind_at s p) r.known),
        le-ltb (length s - p - 8) (entry_size (kind_at s p) * count_at s p) (omega arith),
      )

  refused_unread : (t : Told) → list_at s p ≡ refused t → Readable s p → ⊥
  refused_unread t e d = success-refused (sym (readable_list d) ∙ e)

  abbrev NotRefused : Paper Listed → Type 0
  NotRefused (success l) = Unit {0}
  NotRefused (refused t) = ⊥

  read_readable : NotRefused (list_at s p) → Readable s p
  unfolding list_at
  read_readable n = go _ _ _ _ refl refl refl refl n
    where
      go : (a b c d : Bool) → ltb (length s) p ≡ a → ltb (length s - p) 8 ≡ b → eqb (entry_size (kind_at s p)) 0 ≡ c
          → ltb (length s - p - 8) (entry_size (kind_at s p) * count_at s p) ≡ d → NotRefused (list_at s p) → Readable s p
      go true b c d e f g k n = absurd (rw e at n)
      go false true c d e f g k n = absurd (rw (e, f) at n)
      go false false true d e f g k n = absurd (rw (e, f, g) at n)
      go false false false true e f g k n = absurd (rw (e, f, g, k) at n)
      go false false false false e f g k n =
          let x : p ≤ length s = ltb-false _ _ e in
          let y : 8 ≤ length s - p = ltb-false _ _ f in
          let z : entry_size (kind_at s p) * count_at s p ≤ length s - p - 8 = ltb-false _ _ k in
          record { header = omega arith; known = sized_known (kind_at s p) (eqb-false _ _ g); entries = omega arith }

-- ---- a leaf list that was read: its header and its entries are there, of 4 bytes each or of 8

pub record Standing (s : List ℕ) (p size n : ℕ) : Type 0 where
  pub header : p + 8 ≤ length s
  pub word : 4 ≤ size
  pub other_size : (size ≡ 4 → ⊥) → size ≡ 8
  pub entries : p + 8 + size * n ≤ length s

known_word : (kind : ℕ) → Known kind → 4 ≤ entry_size kind
unfolding entry_size
known_word kind (is_lf e) = rw e (omega arith)
known_word kind (is_lh e) = rw e (omega arith)
known_word kind (is_li e) = rw e (omega arith)
known_word kind (is_ri e) = rw e (omega arith)

known_other : (kind : ℕ) → Known kind → (entry_size kind ≡ 4 → ⊥) → entry_size kind ≡ 8
unfolding entry_size
known_other kind (is_lf e) h = rw e
known_other kind (is_lh e) h = rw e
known_other kind (is_li e) h = absurd (h (rw e))
known_other kind (is_ri e) h = absurd (h (rw e))

leaf_of_kind : (kind count k z n : ℕ) → of_kind kind count ≡ lists.leaf k z n → (entry_size kind ≡ z) × (count ≡ n)
unfolding of_kind
leaf_of_kind kind count k z n e = go (eqb kind RI) refl
  where
    go : (b : Bool) → eqb kind RI ≡ b → (entry_size kind ≡ z) × (count ≡ n)
    go true q = let x : lists.index count ≡ lists.leaf k z n = rw q at e in absurd (let y : ◌≡◌ {A = ℕ} 0 1 = cc in omega arith)
    go false q = let x : lists.leaf kind (entry_size kind) count ≡ lists.leaf k z n = rw q at e in ((cc), (cc))

pub leaf_stands : (s : List ℕ) (p k z n : ℕ) → list_at s p ≡ success (lists.leaf k z n) → Standing s p z n
leaf_stands s p k z n e =
    let r = read_readable s p (rw e tt) in
    let f = leaf_of_kind (kind_at s p) (count_at s p) k z n (same-success (sym (readable_list s p r) ∙ e)) in
    record {
      header = r.header;
      word = rw f.0 at (known_word (kind_at s p) r.known);
      other_size = rw f.0 at (known_other (kind_at s p) r.known);
      entries = rw (f.0, f.1) at r.entries;
    }

-- and it has as many entries as its header says
pub leaf-count : (s : List ℕ) (p k z n : ℕ) → list_at s p ≡ success (lists.leaf k z n) → count_at s p ≡ n
leaf-count s p k z n e =
    let r = read_readable s p (rw e tt) in
    (leaf_of_kind (kind_at s p) (count_at s p) k z n (same-success (sym (readable_list s p r) ∙ e))).1

-- ---- an `ri` list that was read: each of its entries is there

index_of_kind : (kind count n : ℕ) → of_kind kind count ≡ lists.index n → (kind ≡ RI) × (count ≡ n)
unfolding of_kind
index_of_kind kind count n e = go (eqb kind RI) refl
  where
    go : (b : Bool) → eqb kind RI ≡ b → (kind ≡ RI) × (count ≡ n)
    go true q = let x : lists.index count ≡ lists.index n = rw q at e in (eqb-true _ _ q, (cc))
    go false q = let x : lists.leaf kind (entry_size kind) count ≡ lists.index n = rw q at e in absurd (let y : ◌≡◌ {A = ℕ} 0 1 = cc in omega arith)

pub leaf_is_not_ri : (s : List ℕ) (p k z n : ℕ) → list_at s p ≡ success (lists.leaf k z n) → kind_at s p ≡ RI → ⊥
unfolding of_kind
leaf_is_not_ri s p k z n e q =
    let w : of_kind (kind_at s p) (count_at s p) ≡ lists.leaf k z n = same-success (sym (readable_list s p (read_readable s p (rw e tt))) ∙ e) in
    let x : lists.index (count_at s p) ≡ lists.leaf k z n = rw (eq-eqb _ _ q) at w in
    absurd (let y : ◌≡◌ {A = ℕ} 0 1 = cc in omega arith)

pub index_is_ri : (s : List ℕ) (p n : ℕ) → list_at s p ≡ success (lists.index n) → kind_at s p ≡ RI
index_is_ri s p n e = (index_of_kind (kind_at s p) (count_at s p) n (same-success (sym (readable_list s p (read_readable s p (rw e tt))) ∙ e))).0

pub entry_of_index : (s : List ℕ) (p n pos i : ℕ) → list_at s p ≡ success (lists.index n) → i < n → pos ≡ p + 8 + 4 * i → pos + 4 ≤ length s
unfolding entry_size
entry_of_index s p n pos i e h q =
    let r = read_readable s p (rw e tt) in
    let f = index_of_kind (kind_at s p) (count_at s p) n (same-success (sym (readable_list s p r) ∙ e)) in
    let k : p + 8 + 4 * n ≤ length s = rw (f.0, f.1) at r.entries in
    omega arith

-- ---- all lists of a trace

module _ (P : Event → Type 0) where
  pub all_append : (xs ys : List Event) → All P (xs ++ ys) → All P xs × All P ys
  unfolding All
  all_append [] ys a = (tt, a)
  all_append (x ∷ xs) ys a = let r = all_append xs ys a.1 in ((a.0, r.0), r.1)

  pub append_all : (xs ys : List Event) → All P xs → All P ys → All P (xs ++ ys)
  unfolding All
  append_all [] ys a b = b
  append_all (x ∷ xs) ys a b = (a.0, append_all xs ys a.1 b)

-- the event of a list, by what stands there
abbrev pub event_of : List ℕ → ℕ → ℕ → Paper Listed → Event
event_of s base p (success (lists.leaf k z n)) = leaf p (leaf_of s base p z n)
event_of s base p (success (lists.index n)) = index p n
event_of s base p (refused t) = bad t p

-- what goes over from P to Q at each list goes over for a whole trace
module _ (P Q : Event → Type 0) (s : List ℕ) (base : ℕ) (d : (p : ℕ) → P (deep p) → Q (deep p))
    (v : (p : ℕ) (h : Paper Listed) → list_at s p ≡ h → P (event_of s base p h) → Q (event_of s base p h)) where
  each_imp : (f : ℕ → List Event) → ((o : ℕ) → All P (f o) → All Q (f o)) → (k pos : ℕ) → All P (each f s k pos) → All Q (each f s k pos)
  unfolding each All
  each_imp f g zero pos a = tt
  each_imp f g (suc k) pos a =
      let b = all_append P (f _) (each f s k (pos + 4)) a in
      append_all Q (f _) (each f s k (pos + 4)) (g _ b.0) (each_imp f g k (pos + 4) b.1)

  below_imp : (f : ℕ → List Event) → ((o : ℕ) → All P (f o) → All Q (f o)) → (p : ℕ) (h : Paper Listed) → list_at s p ≡ h
      → All P (below f s base p h) → All Q (below f s base p h)
  unfolding below All
  below_imp f g p (success (lists.leaf k z n)) e a = (v p (success (lists.leaf k z n)) e a.0, tt)
  below_imp f g p (success (lists.index n)) e a = (v p (success (lists.index n)) e a.0, each_imp f g n (p + 8) a.1)
  below_imp f g p (refused t) e a = (v p (refused t) e a.0, tt)

  pub trace_imp : (levels o : ℕ) → All P (trace (ordinary s) levels s base o) → All Q (trace (ordinary s) levels s base o)
  unfolding trace All
  trace_imp zero o a = (d (o + base) a.0, tt)
  trace_imp (suc l) o a = below_imp (trace (ordinary s) l s base) (λ x. trace_imp l x) (o + base) (list_at s (o + base)) refl a

-- and what holds of each list by itself holds of a whole trace
any_all : (es : List Event) → All (λ e. Unit {0}) es
unfolding All
any_all [] = tt
any_all (e ∷ es) = (tt, any_all es)

pub trace_all : (Q : Event → Type 0) (s : List ℕ) (base : ℕ) → ((p : ℕ) → Q (deep p)) → ((p : ℕ) (h : Paper Listed) → list_at s p ≡ h → Q (event_of s base p h))
    → (levels o : ℕ) → All Q (trace (ordinary s) levels s base o)
trace_all Q s base d v levels o = trace_imp (λ e. Unit {0}) Q s base (λ p u. d p) (λ p h e u. v p h e) levels o (any_all _)

module _ (s : List ℕ) (base : ℕ) where
  good_fine_at : (p : ℕ) (h : Paper Listed) → list_at s p ≡ h → Good (event_of s base p h) → Fine s (event_of s base p h)
  unfolding Fine
  good_fine_at p (success (lists.leaf k z n)) e g = read_readable s p (rw e tt)
  good_fine_at p (success (lists.index n)) e g = read_readable s p (rw e tt)
  good_fine_at p (refused t) e g = absurd g

  fine_good_at : (p : ℕ) (h : Paper Listed) → list_at s p ≡ h → Fine s (event_of s base p h) → Good (event_of s base p h)
  unfolding Fine
  fine_good_at p (success (lists.leaf k z n)) e g = tt
  fine_good_at p (success (lists.index n)) e g = tt
  fine_good_at p (refused t) e g = refused_unread s p t e g

  fine_deep : (p : ℕ) → Fine s (deep p) → Good (deep p)
  unfolding Fine
  fine_deep p g = g

  pub good_fine : (levels o : ℕ) → All Good (trace (ordinary s) levels s base o) → All (Fine s) (trace (ordinary s) levels s base o)
  good_fine = trace_imp Good (Fine s) s base (λ p g. absurd g) good_fine_at

  pub fine_good : (levels o : ℕ) → All (Fine s) (trace (ordinary s) levels s base o) → All Good (trace (ordinary s) levels s base o)
  fine_good = trace_imp (Fine s) Good s base fine_deep fine_good_at

-- ---- at most as many lists to a leaf entry as there are levels

-- a row of lists has so many entries, and at most l lists for each
pub record Dense (l least : ℕ) (es : List Event) : Type 0 where
  pub some : least ≤ entries_of es
  pub many : length es ≤ l * entries_of es

leaf_dense : (l p : ℕ) (x : Leaf) → 0 < x.entries → Dense (suc l) 1 (leaf p x ∷ [])
unfolding total entries_in
leaf_dense l p x h = record { some = omega arith; many = omega (arith, suc-mul l (x.entries + 0)) }

index_dense : (l p n : ℕ) (es : List Event) → 0 < n → Dense l n es → Dense (suc l) 1 (index p n ∷ es)
unfolding total entries_in
index_dense l p n es h d = record { some = omega arith; many = omega (arith, suc-mul l (0 + entries_of es), mul-add l 0 (entries_of es)) }

append_dense : (l a b : ℕ) (xs ys : List Event) → Dense l a xs → Dense l b ys → Dense l (a + b) (xs ++ ys)
append_dense l a b xs ys d e =
    let n = total-append entries_in xs ys in
    record { some = omega arith; many = rw n (omega (arith, length-append xs ys, mul-add l (entries_of xs) (entries_of ys))) }

module _ (l : ℕ) (f : ℕ → List Event) (s : List ℕ) (g : (o : ℕ) → All Good (f o) → All Full (f o) → Dense l 1 (f o)) where
  each_dense : (k pos : ℕ) → All Good (each f s k pos) → All Full (each f s k pos) → Dense l k (each f s k pos)
  unfolding each total
  each_dense zero pos a b = record { some = omega arith; many = omega arith }
  each_dense (suc k) pos a b =
      let x = all_append Good (f _) (each f s k (pos + 4)) a in
      let y = all_append Full (f _) (each f s k (pos + 4)) b in
      subst (λ (n : ℕ). Dense l n (f (word32 s pos) ++ each f s k (pos + 4))) (omega arith)
      (append_dense l 1 k (f _) (each f s k (pos + 4)) (g _ x.0 y.0) (each_dense k (pos + 4) x.1 y.1))

  below_dense : (base p : ℕ) (h : Paper Listed) → All Good (below f s base p h) → All Full (below f s base p h) → Dense (suc l) 1 (below f s base p h)
  unfolding below All Full
  below_dense base p (success (lists.leaf k z n)) a b = leaf_dense l p _ b.0
  below_dense base p (success (lists.index n)) a b = index_dense l p n _ b.0 (each_dense n (p + 8) a.1 b.1)
  below_dense base p (refused t) a b = absurd a.0

pub trace_dense : (hd : ℕ → ℕ → Paper Listed) (levels : ℕ) (s : List ℕ) (base o : ℕ) → All Good (trace hd levels s base o) → All Full (trace hd levels s base o)
    → Dense levels 1 (trace hd levels s base o)
unfolding trace All
trace_dense hd zero s base o a b = absurd a.0
trace_dense hd (suc l) s base o a b = below_dense l (trace hd l s base) s (λ x. trace_dense hd l s base x) base (o + base) (hd (suc l) (o + base)) a b
