-- Laws of bytes that are taken one after another: what stays, what is passed over at once, and a loop over a part. Assumes nothing.
use Prim.Native.Nat.{ℕ, zero, suc, ◌+◌, ◌-◌, ◌≤◌, ◌<◌}
use mathlib.Core.Path.{◌≡◌, refl, sym, ap, subst, ◌∙◌}
use mathlib.Core.List.{List, [], ◌∷◌, ◌++◌}
use mathlib.Core.Bool.{Bool, true, false, cond}
use native.Mathlib.Omega.{arith}
use lib.ListN.{length, get_or, take, drop, length-drop, drop_of_length-le}
use lib.Seq.{take_all, drop-cons}
use lib.Dec.{ltb, leb, eqb}
use borrow.Author.Tests.{ltb-true, ltb-false}
use Rattle.words.specs.Words.{word32}
use Rattle.bins_arriving.specs.declared.Numbered.{Numbered}
use Rattle.hive_bin.specs.declared.BinTotals.{BinTotals}
use Rattle.hive_bin.specs.Walk.{size_word, good_cell, good_header}
use Rattle.bins_arriving.specs.declared.BinsSoFar.{BinsSoFar}
use Rattle.bins_arriving.specs.Arriving.{on, too_short, settle, needed, put, judge_bin, judge_cell, header, eaten, eat, feed, passable_on, passable, pass_on, pass}
use Rattle.bins_arriving.proofs.Bytes.{on_the_way, is_open, eat_kept, pass_kept, eat_inside}
use Rattle.std.specs.Prelude.{Ok, Err, Some, None, slice_get}
use Rattle.std.specs.declared.result.Result.{Result}

-- ---- a judgement changes neither where the bins are nor how much of them has come

pub record Same (a b : BinsSoFar) : Type 0 where
  pub base : b.base ≡ a.base
  pub size : b.size ≡ a.size
  pub taken : b.taken ≡ a.taken

same : (s : BinsSoFar) → Same s s
same s = record { base = refl; size = refl; taken = refl }

same_then : {a b c : BinsSoFar} → Same a b → Same b c → Same a c
same_then f g = record { base = g.base ∙ f.base; size = g.size ∙ f.size; taken = g.taken ∙ f.taken }

same_cond : {s a b : BinsSoFar} (t : Bool) → Same s a → Same s b → Same s (cond t a b)
same_cond true f g = f
same_cond false f g = g

plain : {a b : BinsSoFar} → b.base ≡ a.base → b.size ≡ a.size → b.taken ≡ a.taken → Same a b
plain p q r = record { base = p; size = q; taken = r }

pub settle-same : (s : BinsSoFar) → Same s (settle s)
unfolding settle
settle-same s = same_cond (too_short s) (plain refl refl refl) (same s)

-- so what remains stays too
pub remains : (s : BinsSoFar) {r : BinsSoFar} → r ≡ settle s → {rest n : ℕ} → rest ≡ s.size - s.taken → n ≤ rest → n ≤ r.size - r.taken
remains s e {n = n} i h = subst (λ (v : BinsSoFar). n ≤ v.size - v.taken) (sym e) (let f = settle-same s in omega (arith, f.size, f.taken))

bin_same : (s : BinsSoFar) (t : BinTotals) → Same s (judge_bin s t)
unfolding judge_bin
bin_same s t =
    same_cond (good_header (word32 s.head 0) (word32 s.head 4) (word32 s.head 8) s.place (s.size - s.place))
    (plain refl refl refl) (plain refl refl refl)

cell_same : (s : BinsSoFar) (t : BinTotals) → Same s (judge_cell s t)
unfolding judge_cell
cell_same s t = same_cond (good_cell (size_word s.head 0) (s.over - s.place)) (plain refl refl refl) (plain refl refl refl)

header-same : (s : BinsSoFar) (t : BinTotals) → Same s (header s t)
unfolding header
header-same s t =
    same_cond (leb (needed s) (s.taken - s.place)) (same_cond (eqb s.place s.over) (bin_same s t) (cell_same s t)) (same s)

-- a byte adds one to what has come, and after a refusal nothing
pub eat-counts : (s : BinsSoFar) (x : ℕ) {t : BinTotals} → s.answer ≡ Ok t → Same (on s 1) (eat s x)
unfolding eat put
eat-counts s x {t} e =
    subst (λ (a : Result BinTotals Numbered). Same (on s 1) (eaten a s x)) (sym e)
    (same_then
    (same_cond (ltb s.taken s.place) (same (on s 1)) (same_then (plain refl refl refl) (header-same (put s x) t)))
    (settle-same _))

pub pass-counts : (s : BinsSoFar) (n : ℕ) {t : BinTotals} → s.answer ≡ Ok t → Same (on s n) (pass s n)
unfolding pass
pass-counts s n e = subst (λ (a : Result BinTotals Numbered). Same (on s n) (pass_on a s n)) (sym e) (settle-same (on s n))

-- ---- bytes after bytes, and after a refusal

pub feed-append : (s : BinsSoFar) (xs ys : List ℕ) → feed s (xs ++ ys) ≡ feed (feed s xs) ys
unfolding feed
feed-append s [] ys = refl
feed-append s (x ∷ xs) ys = feed-append (eat s x) xs ys

pub feed_kept : (s : BinsSoFar) {f : Numbered} → s.answer ≡ Err f → (xs : List ℕ) → feed s xs ≡ s
unfolding feed
feed_kept s e [] = refl
feed_kept s e (x ∷ xs) = ap (λ (r : BinsSoFar). feed r xs) (sym (eat_kept s e x)) ∙ feed_kept s e xs

-- ---- bytes that are passed over at once

on-on : (s : BinsSoFar) (m n : ℕ) {p : ℕ} → m + n ≡ p → on (on s m) n ≡ on s p
on-on s m n e =
    ap (λ (k : ℕ). record { base = s.base; size = s.size; taken = k; place = s.place; over = s.over; head = s.head; answer = s.answer }) (omega arith)

pub skip : (k : ℕ) (s : BinsSoFar) {t : BinTotals} → s.answer ≡ Ok t → (xs : List ℕ) → s.taken + suc k ≤ s.place → suc k ≤ length xs
    → feed s xs ≡ feed (settle (on s (suc k))) (drop (suc k) xs)
unfolding feed
skip k s e [] h l = absurd (omega arith)
skip zero s e (x ∷ xs) h l = ap (λ (r : BinsSoFar). feed r xs) (sym (eat_inside s e x (omega arith)))
skip (suc k) s e (x ∷ xs) h l =
    ap (λ (r : BinsSoFar). feed r xs) (sym (eat_inside s e x (omega arith)) ∙ sym (is_open (on s 1) (on_the_way (on s 1) (λ q. omega arith))))
    ∙ skip k (on s 1) e xs (omega arith) (omega arith)
    ∙ ap (λ (r : BinsSoFar). feed (settle r) (drop (suc k) xs)) (on-on s 1 (suc k) (omega arith))

module _ (s : BinsSoFar) (room : ℕ) {n : ℕ} (e : n ≡ passable s room) where
  pub in_room : n ≤ room
  unfolding passable
  in_room = go s.answer e
    where
      short : (t : Bool) (m : ℕ) → ltb m room ≡ t → n ≡ cond t m room → n ≤ room
      short true m h k = let l = ltb-true m room h in omega arith
      short false m h k = omega arith

      go : (a : Result BinTotals Numbered) → n ≡ passable_on a s room → n ≤ room
      go (Ok t) k = short (ltb (s.place - s.taken) room) _ refl k
      go (Err f) k = omega arith

  pub header_next : 0 < room → n ≡ 0 → s.place ≤ s.taken
  unfolding passable
  header_next h z = go s.answer e
    where
      short : (t : Bool) (m : ℕ) → n ≡ cond t m room → m ≡ 0
      short true m k = omega arith
      short false m k = absurd (omega arith)

      go : (a : Result BinTotals Numbered) → n ≡ passable_on a s room → s.place ≤ s.taken
      go (Ok t) k = let m = short (ltb (s.place - s.taken) room) (s.place - s.taken) k in omega arith
      go (Err f) k = absurd (omega arith)

  inside : {t : BinTotals} → s.answer ≡ Ok t → n ≤ s.place - s.taken
  unfolding passable
  inside q = short (ltb (s.place - s.taken) room) _ refl (e ∙ ap (λ (a : Result BinTotals Numbered). passable_on a s room) q)
    where
      short : (t : Bool) (m : ℕ) → ltb m room ≡ t → n ≡ cond t m room → n ≤ m
      short true m h k = omega arith
      short false m h k = let l = ltb-false m room h in omega arith

  pub pass_feeds : (n ≡ 0 → ⊥) → (xs : List ℕ) → length xs ≡ room → feed s xs ≡ feed (pass s n) (drop n xs)
  unfolding pass
  pass_feeds z xs l = go s.answer refl n refl
    where
      go : (a : Result BinTotals Numbered) → s.answer ≡ a → (m : ℕ) → n ≡ m → feed s xs ≡ feed (pass_on a s m) (drop m xs)
      go a q zero k = absurd (z k)
      go (Ok t) q (suc m) k = let i = inside q in let r = in_room in skip m s q xs (omega arith) (omega arith)
      go (Err f) q (suc m) k = feed_kept s q xs ∙ sym (feed_kept s q (drop (suc m) xs))

-- ---- a slice's first byte, and what a range from a place on is
pub first_byte : (xs : List ℕ) {x : ℕ} → Some x ≡ slice_get xs 0 → (0 < length xs) × (x ≡ get_or xs 0 0)
first_byte [] e = cc
first_byte (y ∷ ys) e = (omega arith, cc)

pub no_byte : (xs : List ℕ) → None ≡ slice_get xs 0 → length xs ≤ 0
no_byte [] e = omega arith
no_byte (y ∷ ys) e = cc

pub all_from : (n : ℕ) (xs : List ℕ) → take (length xs - n) (drop n xs) ≡ drop n xs
all_from n xs = take_all _ (drop n xs) (omega (arith, length-drop n xs))

-- ---- a loop over a part: what is known where `rest` is left of it

pub record Known (s₀ : BinsSoFar) (part : List ℕ) (s : BinsSoFar) (rest : List ℕ) : Type 0 where
  pub fits : length rest ≤ s.size - s.taken
  pub whole : feed s₀ part ≡ feed s rest

pub starts : (s : BinsSoFar) (part : List ℕ) → length part ≤ s.size - s.taken → Known s part s part
starts s part h = record { fits = h; whole = refl }

module _ {s₀ : BinsSoFar} {part : List ℕ} {s : BinsSoFar} {rest : List ℕ} (so : Known s₀ part s rest) where
  -- what remains, after n bytes that were taken or, after a refusal, not
  room_left : (r : BinsSoFar) (n : ℕ) → n ≤ length rest → Same (on s n) r → length (drop n rest) ≤ r.size - r.taken
  room_left r n h f = omega (arith, length-drop n rest, so.fits, f.size, f.taken)

  room_kept : (n : ℕ) → length (drop n rest) ≤ s.size - s.taken
  room_kept n = omega (arith, length-drop n rest, so.fits)

  pub ends : length rest ≤ 0 → s ≡ feed s₀ part
  unfolding feed
  ends h = sym (so.whole ∙ ap (feed s) (drop_of_length-le rest {i = 0} h))

  pub goes_byte : 0 < length rest → {x : ℕ} → x ≡ get_or rest 0 0 → {r : BinsSoFar} → r ≡ eat s x → Known s₀ part r (drop 1 rest)
  unfolding feed
  goes_byte h {x} q {r} k =
      record {
        fits = subst (λ (v : BinsSoFar). length (drop 1 rest) ≤ v.size - v.taken) (sym k) (go s.answer refl);
        whole =
            so.whole
            ∙ ap (feed s) (drop-cons rest 0 0 h)
            ∙ ap (λ (y : ℕ). feed (eat s y) (drop 1 rest)) (sym q)
            ∙ ap (λ (v : BinsSoFar). feed v (drop 1 rest)) (sym k);
      }
    where
      go : (a : Result BinTotals Numbered) → s.answer ≡ a → length (drop 1 rest) ≤ (eat s x).size - (eat s x).taken
      go (Ok t) e = room_left (eat s x) 1 (omega arith) (eat-counts s x e)
      go (Err f) e = subst (λ (v : BinsSoFar). length (drop 1 rest) ≤ v.size - v.taken) (eat_kept s e x) (room_kept 1)

  module _ {n : ℕ} (p : n ≡ passable s (length rest)) where
    pub pass_within : n ≤ length rest
    pass_within = in_room s (length rest) p

    pub pass_fits : 0 < n → s.taken + n ≤ s.size
    pass_fits z = let l = pass_within in omega (arith, so.fits)

    pub goes_pass : 0 < n → {r : BinsSoFar} → r ≡ pass s n → Known s₀ part r (drop n rest)
    goes_pass z {r} k =
        record {
          fits = subst (λ (v : BinsSoFar). length (drop n rest) ≤ v.size - v.taken) (sym k) (go s.answer refl);
          whole =
              so.whole
              ∙ pass_feeds s (length rest) p (λ e. omega arith) rest refl
              ∙ ap (λ (v : BinsSoFar). feed v (drop n rest)) (sym k);
        }
      where
        go : (a : Result BinTotals Numbered) → s.answer ≡ a → length (drop n rest) ≤ (pass s n).size - (pass s n).taken
        go (Ok t) e = room_left (pass s n) n pass_within (pass-counts s n e)
        go (Err f) e = subst (λ (v : BinsSoFar). length (drop n rest) ≤ v.size - v.taken) (pass_kept s e n) (room_kept n)
