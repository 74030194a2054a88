-- Laws of numbers written into a row of bytes, each over the width. Assumes nothing.
use mathlib.Core.Path.{◌≡◌, refl, sym, ap, ◌∙◌}
use mathlib.Core.Logic.{◌⊎◌, inl, inr}
use mathlib.Core.Bool.{Bool, true, false}
use mathlib.Core.List.{List, [], ◌∷◌, ◌++◌, append_assoc}
use Prim.Native.Nat.{ℕ, zero, suc, ◌+◌, ◌-◌, ◌*◌, ◌/◌, ◌%◌, ◌^◌, ◌≤◌, ◌<◌}
use native.Mathlib.Nat.{one-le-pow, add-zero, zero-add, suc-add, pow-suc, mod-lt, mod-eq_of_lt, sub-zero}
use native.Mathlib.Decide.{dec_le}
use native.Mathlib.Numerals.{add-one, one-add}
use native.Mathlib.Omega.{arith}
use lib.Arith.{digits_div, digits_mod, mod-mul}
use lib.Dec.{leb}
use lib.ListN.{length, take, drop, set, length-append, length-take, length-set, take-append-drop, get_or-append}
use lib.Seq.{take-length, paste, sets, sets-eq, length-sets, drop-cons, take_at, drop_at, take-append_seam, drop-append-add, get_or-append-add, get_or-take, get_or-drop}
use borrow.Author.Tests.{le-leb, lt-leb, leb-true, leb-false}
use Rattle.words.specs.Words.{byte_at, little}
use Rattle.writing.specs.Writing.{bytes_of, with_bytes, PutAt}
use Rattle.words.proofs.Little.{Bytes, little_split, little-drop, little-same}

-- ---- the bytes of a number

pub bytes_length : (n x : ℕ) → length (bytes_of n x) ≡ n
unfolding bytes_of
bytes_length zero x = refl
bytes_length (suc n) x = ap suc (bytes_length n (x / 256))

-- fewer of them are the first of more
pub bytes_first : (n m x : ℕ) → bytes_of n x ≡ take n (bytes_of (n + m) x)
unfolding bytes_of
bytes_first zero m x = refl
bytes_first (suc n) m x = ap (λ (r : List ℕ). x % 256 ∷ r) (bytes_first n m (x / 256)) ∙ ap (λ (k : ℕ). take (suc n) (bytes_of k x)) (sym (suc-add n m))

-- every one is a byte
pub bytes_lt : (n x : ℕ) → Bytes (bytes_of n x)
unfolding bytes_of
bytes_lt zero x i = omega arith
bytes_lt (suc n) x zero = mod-lt x (omega arith)
bytes_lt (suc n) x (suc i) = bytes_lt n (x / 256) i

-- a word whose lowest byte stands before a row
little_first : (n : ℕ) (s : List ℕ) (at : ℕ) → little (suc n) s at ≡ little n s (at + 1) * 256 + byte_at s at
unfolding little
little_first n s at = ap (λ (k : ℕ). little k s at) (sym (one-add n)) ∙ little_split 1 n s at ∙ omega (arith, ap (byte_at s) (add-zero at))

little-cons : (n b : ℕ) (s : List ℕ) → little (suc n) (b ∷ s) 0 ≡ little n s 0 * 256 + b
little-cons n b s = little_first n (b ∷ s) 0 ∙ ap (λ (k : ℕ). k * 256 + b) (sym (little-drop n 1 (b ∷ s) 0))

-- read again they give the number, or what of it so many bytes hold
pub bytes_read : (n x : ℕ) → little n (bytes_of n x) 0 ≡ x % 256 ^ n
unfolding bytes_of little
bytes_read zero x = omega arith
bytes_read (suc n) x =
    little-cons n (x % 256) (bytes_of n (x / 256)) ∙ ap (λ (k : ℕ). k * 256 + x % 256) (bytes_read n (x / 256))
    ∙ sym (mod-mul x (one-le-pow n 256 (omega arith)) (omega arith)) ∙ ap (λ (k : ℕ). x % k) (sym (pow-suc 256 n))

pub bytes_back : (n x : ℕ) → x < 256 ^ n → little n (bytes_of n x) 0 ≡ x
bytes_back n x h = bytes_read n x ∙ mod-eq_of_lt h

-- so numbers that fit are told apart by their bytes
pub bytes_injective : (n x y : ℕ) → x < 256 ^ n → y < 256 ^ n → bytes_of n x ≡ bytes_of n y → x ≡ y
bytes_injective n x y h k e = sym (bytes_back n x h) ∙ ap (λ (s : List ℕ). little n s 0) e ∙ bytes_back n y k

-- the bytes of a word that is read are those that stand there: one by one, and in a row
word_bytes : (n : ℕ) (s : List ℕ) → Bytes s → (at : ℕ) → bytes_of (suc n) (little (suc n) s at) ≡ byte_at s at ∷ bytes_of n (little n s (at + 1))
unfolding bytes_of
word_bytes n s b at =
    rw (little_first n s at, digits_mod (little n s (at + 1)) (b at), digits_div (little n s (at + 1)) (b at))

pub bytes_each : (n : ℕ) (s : List ℕ) → Bytes s → (at i : ℕ) → i < n → byte_at (bytes_of n (little n s at)) i ≡ byte_at s (at + i)
bytes_each zero s b at i h = absurd (omega arith)
bytes_each (suc n) s b at zero h = rw (word_bytes n s b at, add-zero)
bytes_each (suc n) s b at (suc i) h =
    rw (word_bytes n s b at) (bytes_each n s b (at + 1) i (omega arith) ∙ ap (byte_at s) (omega arith))

pub bytes_there : (n : ℕ) (s : List ℕ) → Bytes s → (at : ℕ) → at + n ≤ length s → bytes_of n (little n s at) ≡ take n (drop at s)
unfolding bytes_of
bytes_there zero s b at h = refl
bytes_there (suc n) s b at h =
    word_bytes n s b at ∙ ap (λ (r : List ℕ). byte_at s at ∷ r) (bytes_there n s b (at + 1) (omega arith) ∙ rw add-one)
    ∙ sym (ap (take (suc n)) (drop-cons s at 0 (omega arith)))

-- read again where they stand in a row
pub row_read : (xs ys : List ℕ) (n x : ℕ) → little n (xs ++ (bytes_of n x ++ ys)) (length xs) ≡ x % 256 ^ n
row_read xs ys n x =
    little-same n (xs ++ (bytes_of n x ++ ys)) (bytes_of n x) (length xs) 0
    (λ i k. get_or-append-add xs (bytes_of n x ++ ys) i 0 ∙ get_or-append (bytes_of n x) ys 0 i (omega (arith, bytes_length n x))
    ∙ ap (byte_at (bytes_of n x)) (sym (zero-add i)))
    ∙ bytes_read n x

pub row_back : (xs ys : List ℕ) (n x : ℕ) → x < 256 ^ n → little n (xs ++ (bytes_of n x ++ ys)) (length xs) ≡ x
row_back xs ys n x h = row_read xs ys n x ∙ mod-eq_of_lt h

-- ---- a row with other bytes from a place on

-- behind a row that is written already: it grows by the bytes
pub with_next : (xs rest bytes : List ℕ) → with_bytes (xs ++ rest) (length xs) bytes ≡ xs ++ (bytes ++ drop (length bytes) rest)
with_next xs rest bytes = rw (take-append_seam, drop-append-add)

module _ (old : List ℕ) (at : ℕ) (bytes : List ℕ) (h : at + length bytes ≤ length old) where
  head_length : length (take at old) ≡ at
  head_length = length-take at old ∙ omega arith

  -- as stores one after another
  pub with_sets : with_bytes old at bytes ≡ sets old at bytes
  with_sets = sym (append_assoc (take at old) bytes (drop (at + length bytes) old)) ∙ sym (sets-eq bytes old at h)

  pub with_length : length (with_bytes old at bytes) ≡ length old
  with_length = ap length with_sets ∙ length-sets old at bytes

  -- the bytes are what stands there
  pub with_part : take (length bytes) (drop at (with_bytes old at bytes)) ≡ bytes
  with_part =
      ap (take (length bytes)) (drop_at (take at old) (bytes ++ drop (at + length bytes) old) at head_length)
      ∙ take_at bytes (drop (at + length bytes) old) (length bytes) refl

  -- before them, among them, and behind them
  pub with_before : (i : ℕ) → i < at → byte_at (with_bytes old at bytes) i ≡ byte_at old i
  with_before i k =
      let e = head_length in
      get_or-append (take at old) (bytes ++ drop (at + length bytes) old) 0 i (omega arith) ∙ get_or-take at old i 0 k

  from_there : (i : ℕ) → byte_at (with_bytes old at bytes) (at + i) ≡ byte_at (bytes ++ drop (at + length bytes) old) i
  from_there i =
      ap (λ (k : ℕ). byte_at (with_bytes old at bytes) (k + i)) (sym head_length)
      ∙ get_or-append-add (take at old) (bytes ++ drop (at + length bytes) old) i 0

  pub with_among : (i : ℕ) → i < length bytes → byte_at (with_bytes old at bytes) (at + i) ≡ byte_at bytes i
  with_among i k = from_there i ∙ get_or-append bytes (drop (at + length bytes) old) 0 i k

  pub with_behind : (i : ℕ) → at + length bytes ≤ i → byte_at (with_bytes old at bytes) i ≡ byte_at old i
  with_behind i k =
      let j : ℕ = i - (at + length bytes) in
      ap (byte_at (with_bytes old at bytes)) (omega arith) ∙ from_there (length bytes + j)
      ∙ get_or-append-add bytes (drop (at + length bytes) old) j 0 ∙ get_or-drop (at + length bytes) old j 0 ∙ ap (byte_at old) (omega arith)

-- as a copy, byte by byte
pub with_paste : (old : List ℕ) (at : ℕ) (bytes : List ℕ) → paste old at bytes (length bytes) ≡ with_bytes old at bytes
with_paste old at bytes = rw take-length (append_assoc (take at old) bytes (drop (at + length bytes) old))

-- other bytes, and behind them further ones
sets_more : (xs ys old : List ℕ) (at : ℕ) → sets old at (xs ++ ys) ≡ sets (sets old at xs) (at + length xs) ys
sets_more [] ys old at = rw add-zero
sets_more (x ∷ xs) ys old at = sets_more xs ys (set old at x) (suc at) ∙ ap (λ (k : ℕ). sets (sets (set old at x) (suc at) xs) k ys) (omega arith)

pub with_more :
    (old : List ℕ) (at : ℕ) (xs ys : List ℕ) → at + length xs + length ys ≤ length old
    → with_bytes (with_bytes old at xs) (at + length xs) ys ≡ with_bytes old at (xs ++ ys)
with_more old at xs ys h =
    let k : at + length xs ≤ length old = omega arith in
    let l : length (with_bytes old at xs) ≡ length old = with_length old at xs k in
    let e : length (xs ++ ys) ≡ length xs + length ys = length-append xs ys in
    with_sets (with_bytes old at xs) (at + length xs) ys (omega arith)
    ∙ ap (λ (s : List ℕ). sets s (at + length xs) ys) (with_sets old at xs k) ∙ sym (sets_more xs ys old at)
    ∙ sym (with_sets old at (xs ++ ys) (omega arith))

-- from the first place on
pub with_front : (old bytes : List ℕ) → with_bytes old 0 bytes ≡ bytes ++ drop (length bytes) old
with_front old bytes = rw zero-add

pub with_none : (old : List ℕ) (at : ℕ) → with_bytes old at [] ≡ old
with_none old at = rw add-zero (take-append-drop at old)

-- ---- what is promised of a number that is written

module _ {n x at : ℕ} {old : List ℕ} {r : Bool} {new : List ℕ} (p : PutAt n x at old r new) where
  -- it is told exactly where all fits
  pub put_true : at + n ≤ length old → r ≡ true
  put_true h = p.fits ∙ le-leb (at + n) (length old) h

  pub put_room : r ≡ true → at + n ≤ length old
  put_room e = leb-true (at + n) (length old) (sym p.fits ∙ e)

  pub put-none : r ≡ false → length old < at + n
  put-none e = leb-false (at + n) (length old) (sym p.fits ∙ e)

  -- and where it is not told, nothing has changed
  pub put_refused : r ≡ false → new ≡ old
  put_refused e = p.buffer ∙ simp (sym p.fits ∙ e)

  pub put_written : r ≡ true → new ≡ with_bytes old at (bytes_of n x)
  put_written e = p.buffer ∙ simp (sym p.fits ∙ e)

  fit : r ≡ true → at + length (bytes_of n x) ≤ length old
  fit e = omega (arith, put_room e, bytes_length n x)

  -- behind a row that is written already: it grows by the number's bytes
  pub put_next : (xs rest : List ℕ) → old ≡ xs ++ rest → at ≡ length xs → r ≡ true → new ≡ xs ++ (bytes_of n x ++ drop n rest)
  put_next xs rest o a e =
      put_written e ∙ (λ i. with_bytes (o i) (a i) (bytes_of n x)) ∙ with_next xs rest (bytes_of n x)
      ∙ ap (λ (k : ℕ). xs ++ (bytes_of n x ++ drop k rest)) (bytes_length n x)

  -- as stores one after another
  pub put_sets : r ≡ true → new ≡ sets old at (bytes_of n x)
  put_sets e = put_written e ∙ with_sets old at (bytes_of n x) (fit e)

  -- the length is kept
  pub put-length : length new ≡ length old
  put-length = go r refl
    where
      go : (b : Bool) → r ≡ b → length new ≡ length old
      go true e = ap length (put_written e) ∙ with_length old at (bytes_of n x) (fit e)
      go false e = ap length (put_refused e)

  -- the bytes that are not written are as they were, and so is each word of such bytes
  pub put_elsewhere : (i : ℕ) → (i < at) ⊎ (at + n ≤ i) → byte_at new i ≡ byte_at old i
  put_elsewhere i h = go r refl h
    where
      go : (b : Bool) → r ≡ b → (i < at) ⊎ (at + n ≤ i) → byte_at new i ≡ byte_at old i
      go true e (inl k) = ap (λ (s : List ℕ). byte_at s i) (put_written e) ∙ with_before old at (bytes_of n x) (fit e) i k
      go true e (inr k) =
          ap (λ (s : List ℕ). byte_at s i) (put_written e) ∙ with_behind old at (bytes_of n x) (fit e) i (omega (arith, bytes_length n x))
      go false e k = ap (λ (s : List ℕ). byte_at s i) (put_refused e)

  pub put_other_word : (m to : ℕ) → (to + m ≤ at) ⊎ (at + n ≤ to) → little m new to ≡ little m old to
  put_other_word m to h = little-same m new old to to (λ i k. put_elsewhere (to + i) (apart i k h))
    where
      apart : (i : ℕ) → i < m → (to + m ≤ at) ⊎ (at + n ≤ to) → (to + i < at) ⊎ (at + n ≤ to + i)
      apart i k (inl g) = inl (omega arith)
      apart i k (inr g) = inr (omega arith)

  -- those that are written are the number's, and read again they give it
  pub put_bytes : r ≡ true → take n (drop at new) ≡ bytes_of n x
  put_bytes e =
      let l : length (bytes_of n x) ≡ n = bytes_length n x in
      ap (λ (s : List ℕ). take n (drop at s)) (put_written e)
      ∙ ap (λ (k : ℕ). take k (drop at (with_bytes old at (bytes_of n x)))) (sym l) ∙ with_part old at (bytes_of n x) (fit e)

  pub put_read : r ≡ true → little n new at ≡ x % 256 ^ n
  put_read e =
      little-same n new (bytes_of n x) at 0
      (λ i k. ap (λ (s : List ℕ). byte_at s (at + i)) (put_written e)
      ∙ with_among old at (bytes_of n x) (fit e) i (omega (arith, bytes_length n x)) ∙ ap (byte_at (bytes_of n x)) (sym (zero-add i)))
      ∙ bytes_read n x

  pub put_back : r ≡ true → x < 256 ^ n → little n new at ≡ x
  put_back e h = put_read e ∙ mod-eq_of_lt h

-- behind bytes that are written already: they grow by a number's
pub put-after :
    (old : List ℕ) (from : ℕ) (xs : List ℕ) {n x at : ℕ} {out : List ℕ} {r : Bool} {new : List ℕ}
    → PutAt n x at out r new → out ≡ with_bytes old from xs → at ≡ from + length xs → from + length xs + n ≤ length old
    → new ≡ with_bytes old from (xs ++ bytes_of n x)
put-after old from xs {n} {x} {at} {out} p e a h =
    let b : length (bytes_of n x) ≡ n = bytes_length n x in
    let l : length out ≡ length old = ap length e ∙ with_length old from xs (omega arith) in
    let fit : at + n ≤ length out = omega arith in
    put_written p (put_true p fit) ∙ (λ i. with_bytes (e i) (a i) (bytes_of n x)) ∙ with_more old from xs (bytes_of n x) (omega arith)

-- two answers that are promised for one input are the same, and leave the same buffer
pub put_determined : {n x at : ℕ} {old : List ℕ} {r r' : Bool} {new new' : List ℕ}
    → PutAt n x at old r new → PutAt n x at old r' new' → (r ≡ r') × (new ≡ new')
put_determined p q = (p.fits ∙ sym q.fits, p.buffer ∙ sym q.buffer)

-- ---- whether all fits, tested with no sum that could be too large

pub room_test : (at n room : ℕ) → at ≤ room → leb n (room - at) ≡ leb (at + n) room
room_test at n room h = go (dec_le (at + n) room)
  where
    go : Dec (at + n ≤ room) → leb n (room - at) ≡ leb (at + n) room
    go (yes k) = le-leb n (room - at) (omega arith) ∙ sym (le-leb (at + n) room k)
    go (no k) = lt-leb n (room - at) (omega arith) ∙ sym (lt-leb (at + n) room (omega arith))

-- ---- the loop over the bytes: what is left to store makes of the row what was to be made of it at the start

pub record Putting (old : List ℕ) (at n x : ℕ) (out : List ℕ) (rest i : ℕ) : Type 0 where
  pub within : i ≤ n
  pub room : at + n ≤ length old
  pub long : length out ≡ length old
  pub writes : sets out (at + i) (bytes_of (n - i) rest) ≡ sets old at (bytes_of n x)

module _ (old : List ℕ) (at n x : ℕ) where
  pub putting_start : leb (at + n) (length old) ≡ true → Putting old at n x old x 0
  putting_start e = record { within = omega arith; room = leb-true (at + n) (length old) e; long = refl; writes = rw (sub-zero, add-zero) }

  pub putting_step : (out : List ℕ) (rest i : ℕ) → i < n → Putting old at n x out rest i → Putting old at n x (set out (at + i) (rest % 256)) (rest / 256) (i + 1)
  unfolding bytes_of
  putting_step out rest i h p =
      let e : n - i ≡ suc (n - (i + 1)) = omega arith in
      record {
        within = omega arith;
        room = p.room;
        long = length-set out (at + i) (rest % 256) ∙ p.long;
        writes =
            ap (λ (k : ℕ). sets (set out (at + i) (rest % 256)) k (bytes_of (n - (i + 1)) (rest / 256))) (omega arith)
            ∙ sym (ap (λ (k : ℕ). sets out (at + i) (bytes_of k rest)) e) ∙ p.writes;
      }

  pub putting_done : (out : List ℕ) (rest i : ℕ) → n ≤ i → Putting old at n x out rest i → PutAt n x at old true out
  unfolding bytes_of
  putting_done out rest i k p =
      let h = p.room in
      let e : n - i ≡ 0 = omega arith in
      record {
        fits = sym (le-leb (at + n) (length old) h);
        buffer =
            ap (λ (j : ℕ). sets out (at + i) (bytes_of j rest)) (sym e) ∙ p.writes
            ∙ sym (with_sets old at (bytes_of n x) (omega (arith, bytes_length n x))) ∙ simp (le-leb (at + n) (length old) h);
      }

  pub put-nothing : leb (at + n) (length old) ≡ false → PutAt n x at old false old
  put-nothing e = record { fits = sym e; buffer = simp e }
