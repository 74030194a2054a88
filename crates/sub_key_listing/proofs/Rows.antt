-- Laws of house records in a row of bytes: what stands in front of the rest, and what is read of it. Assumes nothing.
use mathlib.Core.Path.{◌≡◌, refl, sym, ap, ◌∙◌}
use mathlib.Core.List.{List, [], ◌∷◌, ◌++◌, append_assoc}
use mathlib.Core.Bool.{true, false≢true}
use Prim.Native.Nat.{ℕ, zero, suc, ◌+◌, ◌*◌, ◌%◌, ◌^◌, ◌≤◌, ◌<◌}
use native.Mathlib.Nat.{mod-eq_of_lt, add-zero, add_assoc}
use native.Mathlib.Omega.{arith}
use borrow.Author.Tests.{eqb-true, eq-eqb}
use lib.Dec.{eqb}
use lib.ListN.{length, get_or, drop, length-append, take-append-drop}
use lib.Seq.{drop-drop, drop_at}
use Rattle.words.specs.Words.{little, word16, word32}
use Rattle.words.proofs.Little.{Bytes, little-drop}
use Rattle.words.proofs.Tests.{both, both_are}
use Rattle.writing.specs.Writing.{bytes_of}
use Rattle.writing.proofs.Writing.{bytes_length, bytes_there, row_read}
use Rattle.sub_key_listing.specs.Listing.{NAMES, house, plain, named, same, offsets_in}
use Rattle.sub_key_listing.specs.Steps.{begins, all_named}

-- ---- two rows that are one

pub same_true : (xs ys : List ℕ) → same xs ys ≡ true → xs ≡ ys
unfolding same
same_true [] [] e = refl
same_true [] (y ∷ ys) e = absurd (false≢true e)
same_true (x ∷ xs) [] e = absurd (false≢true e)
same_true (x ∷ xs) (y ∷ ys) e = let p = both (eqb x y) (same xs ys) e in λ i. eqb-true x y p.0 i ∷ same_true xs ys p.1 i

pub same_self : (xs : List ℕ) → same xs xs ≡ true
unfolding same
same_self [] = refl
same_self (x ∷ xs) = both_are (eq-eqb x x refl) (same_self xs)

pub same_is : {xs ys : List ℕ} → xs ≡ ys → same xs ys ≡ true
same_is {xs} e = ap (same xs) (sym e) ∙ same_self xs

-- ---- every number of two rows is below a bound, and so is every one of both

pub below-append : (m : ℕ) (xs ys : List ℕ) → ((i : ℕ) → get_or xs i 0 < m) → ((i : ℕ) → get_or ys i 0 < m) → (i : ℕ) → get_or (xs ++ ys) i 0 < m
below-append m [] ys f g i = g i
below-append m (x ∷ xs) ys f g zero = f 0
below-append m (x ∷ xs) ys f g (suc i) = below-append m xs ys (λ j. f (suc j)) g i

-- ---- lengths

pub house-length : (kind : ℕ) (content : List ℕ) → length (house kind content) ≡ 6 + length content
house-length kind content =
    omega (
      arith,
      length-append (bytes_of 4 (2 + length content)) (bytes_of 2 kind ++ content),
      length-append (bytes_of 2 kind) content,
      bytes_length 4 (2 + length content),
      bytes_length 2 kind,
    )

pub plain-length : (kind x : ℕ) → length (plain kind x) ≡ 10
plain-length kind x = omega (arith, house-length kind (bytes_of 4 x), bytes_length 4 x)

pub named-length : (os : List ℕ) → length (named os) ≡ 10 * length os
unfolding named
named-length [] = refl
named-length (o ∷ os) = omega (arith, length-append (plain NAMES o) (named os), plain-length NAMES o, named-length os)

pub offsets_length : (b : List ℕ) (n at : ℕ) → length (offsets_in b n at) ≡ n
unfolding offsets_in
offsets_length b zero at = refl
offsets_length b (suc n) at = ap suc (offsets_length b n (at + 10))

-- the place behind one record and `n` more
behind_next : (at n : ℕ) → at + 10 + 10 * n ≡ at + 10 * suc n
behind_next at n = omega arith

-- a record in front of the rest
pub house-front : (kind : ℕ) (content rest : List ℕ) → house kind content ++ rest ≡ bytes_of 4 (2 + length content) ++ (bytes_of 2 kind ++ (content ++ rest))
house-front kind content rest =
    append_assoc (bytes_of 4 (2 + length content)) (bytes_of 2 kind ++ content) rest
    ∙ ap (λ (r : List ℕ). bytes_of 4 (2 + length content) ++ r) (append_assoc (bytes_of 2 kind) content rest)

-- ---- from the bytes to what they are

module _ (b : List ℕ) (w : Bytes b) where
  -- the bytes from a place on are those of the word there, and the rest
  pub peel : (n at : ℕ) → at + n ≤ length b → drop at b ≡ bytes_of n (little n b at) ++ drop (at + n) b
  peel n at h = sym (take-append-drop n (drop at b)) ∙ (λ i. sym (bytes_there n b w at h) i ++ drop-drop n at b i)

  -- a record begins here: its length, its kind, and what is behind them
  pub begun : (at size kind : ℕ) → begins b at size kind ≡ true → at + 6 ≤ length b → drop at b ≡ bytes_of 4 size ++ (bytes_of 2 kind ++ drop (at + 6) b)
  begun at size kind t h =
      let p = both (eqb (word32 b at) size) (eqb (word16 b (at + 4)) kind) t in
      peel 4 at (omega arith)
      ∙ (λ i. bytes_of 4 (eqb-true (word32 b at) size p.0 i) ++ peel 2 (at + 4) (omega arith) i)
      ∙ (λ i. bytes_of 4 size ++ (bytes_of 2 (eqb-true (word16 b (at + 4)) kind p.1 i) ++ drop (add_assoc at 4 2 i) b))

  -- one with a number of four bytes
  pub plain-begun : (at kind : ℕ) → begins b at 6 kind ≡ true → at + 10 ≤ length b → drop at b ≡ plain kind (word32 b (at + 6)) ++ drop (at + 10) b
  plain-begun at kind t h =
      begun at 6 kind t (omega arith)
      ∙ (λ i. bytes_of 4 (2 + sym (bytes_length 4 (word32 b (at + 6))) i) ++ (bytes_of 2 kind ++ peel 4 (at + 6) (omega arith) i))
      ∙ (λ i. bytes_of 4 (2 + length (bytes_of 4 (word32 b (at + 6)))) ++ (bytes_of 2 kind ++ (bytes_of 4 (word32 b (at + 6)) ++ drop (add_assoc at 6 4 i) b)))
      ∙ sym (house-front kind (bytes_of 4 (word32 b (at + 6))) (drop (at + 10) b))

  -- and `n` of them, one behind another
  pub all_begun : (n at : ℕ) → all_named b n at ≡ true → at + 10 * n ≤ length b → drop at b ≡ named (offsets_in b n at) ++ drop (at + 10 * n) b
  unfolding all_named offsets_in named
  all_begun zero at t h = ap (λ (k : ℕ). drop k b) (sym (add-zero at))
  all_begun (suc n) at t h =
      let p = both (begins b at 6 NAMES) (all_named b n (at + 10)) t in
      plain-begun at NAMES p.0 (omega arith)
      ∙ ap (λ (r : List ℕ). plain NAMES (word32 b (at + 6)) ++ r) (all_begun n (at + 10) p.1 (omega arith))
      ∙ sym (append_assoc (plain NAMES (word32 b (at + 6))) (named (offsets_in b n (at + 10))) (drop (at + 10 + 10 * n) b))
      ∙ ap (λ (k : ℕ). (plain NAMES (word32 b (at + 6)) ++ named (offsets_in b n (at + 10))) ++ drop k b) (behind_next at n)

-- ---- and back: a row that begins with the bytes of a number

module _ (b : List ℕ) (n at x : ℕ) (rest : List ℕ) (e : drop at b ≡ bytes_of n x ++ rest) where
  pub front-word : little n b at ≡ x % 256 ^ n
  front-word = ap (little n b) (sym (add-zero at)) ∙ sym (little-drop n at b 0) ∙ ap (λ (r : List ℕ). little n r 0) e ∙ row_read [] rest n x

  pub front_rest : drop (at + n) b ≡ rest
  front_rest = sym (drop-drop n at b) ∙ ap (drop n) e ∙ drop_at (bytes_of n x) rest n (bytes_length n x)

-- with a record: its length and its kind are read, and its content is behind them
module _ (b : List ℕ) (at kind : ℕ) (content : List ℕ) (rest : List ℕ) (e : drop at b ≡ house kind content ++ rest) where
  parts : drop at b ≡ bytes_of 4 (2 + length content) ++ (bytes_of 2 kind ++ (content ++ rest))
  parts = e ∙ house-front kind content rest

  behind-length : drop (at + 4) b ≡ bytes_of 2 kind ++ (content ++ rest)
  behind-length = front_rest b 4 at (2 + length content) (bytes_of 2 kind ++ (content ++ rest)) parts

  pub house-begins : (size : ℕ) → 2 + length content ≡ size → size < 65536 → kind < 65536 → begins b at size kind ≡ true
  house-begins size l h k =
      both_are
      (eq-eqb (word32 b at) size (front-word b 4 at (2 + length content) (bytes_of 2 kind ++ (content ++ rest)) parts ∙ mod-eq_of_lt (omega arith) ∙ l))
      (eq-eqb (word16 b (at + 4)) kind (front-word b 2 (at + 4) kind (content ++ rest) behind-length ∙ mod-eq_of_lt (omega arith)))

  pub house_content : drop (at + 6) b ≡ content ++ rest
  house_content = ap (λ (j : ℕ). drop j b) (sym (add_assoc at 4 2)) ∙ front_rest b 2 (at + 4) kind (content ++ rest) behind-length

module _ (b : List ℕ) (at kind x : ℕ) (rest : List ℕ) (e : drop at b ≡ plain kind x ++ rest) where
  pub plain-begins : kind < 65536 → begins b at 6 kind ≡ true
  plain-begins k = house-begins b at kind (bytes_of 4 x) rest e 6 (ap (λ (n : ℕ). 2 + n) (bytes_length 4 x)) (omega arith) k

  pub plain_word : word32 b (at + 6) ≡ x % 4294967296
  plain_word = front-word b 4 (at + 6) x rest (house_content b at kind (bytes_of 4 x) rest e)

  pub plain_rest : drop (at + 10) b ≡ rest
  plain_rest = ap (λ (j : ℕ). drop j b) (sym (add_assoc at 6 4)) ∙ front_rest b 4 (at + 6) x rest (house_content b at kind (bytes_of 4 x) rest e)

-- with records of offsets
module _ (b : List ℕ) (rest : List ℕ) where
  pub named_begin : (os : List ℕ) (at : ℕ) → drop at b ≡ named os ++ rest → (all_named b (length os) at ≡ true) × (drop (at + 10 * length os) b ≡ rest)
  unfolding named all_named
  named_begin [] at e = (refl, ap (λ (j : ℕ). drop j b) (add-zero at) ∙ e)
  named_begin (o ∷ os) at e =
      let p : drop at b ≡ plain NAMES o ++ (named os ++ rest) = e ∙ append_assoc (plain NAMES o) (named os) rest in
      let q = named_begin os (at + 10) (plain_rest b at NAMES o (named os ++ rest) p) in
      (both_are (plain-begins b at NAMES o (named os ++ rest) p (omega arith)) q.0, ap (λ (j : ℕ). drop j b) (sym (behind_next at (length os))) ∙ q.1)

  -- whose numbers are the offsets, where each fits four bytes
  pub named_offsets : (os : List ℕ) (at : ℕ) → ((i : ℕ) → get_or os i 0 < 4294967296) → drop at b ≡ named os ++ rest → offsets_in b (length os) at ≡ os
  unfolding named offsets_in
  named_offsets [] at f e = refl
  named_offsets (o ∷ os) at f e =
      let p : drop at b ≡ plain NAMES o ++ (named os ++ rest) = e ∙ append_assoc (plain NAMES o) (named os) rest in
      let h : o < 4294967296 = f 0 in
      let v : word32 b (at + 6) ≡ o = plain_word b at NAMES o (named os ++ rest) p ∙ mod-eq_of_lt h in
      let r = named_offsets os (at + 10) (λ j. f (suc j)) (plain_rest b at NAMES o (named os ++ rest) p) in
      λ i. v i ∷ r i
