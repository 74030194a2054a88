-- A cell that was written, read again: every number of it, over the bytes of an entry. Assumes nothing.
use mathlib.Core.Path.{◌≡◌, refl, sym, ap, ◌∙◌}
use mathlib.Core.List.{List, [], ◌∷◌, ◌++◌, append_assoc}
use Prim.Native.Nat.{ℕ, zero, suc, ◌+◌, ◌-◌, ◌*◌, ◌≤◌, ◌<◌}
use native.Mathlib.Nat.{mul-zero, mul-suc, not-suc-le-zero}
use native.Mathlib.Omega.{arith}
use lib.ListN.{length, get_or, drop, length-append, get_or-append}
use lib.Seq.{drop_at, drop-append-add, drop-drop, get_or-append-add}
use Rattle.words.specs.Words.{byte_at, little}
use Rattle.words.proofs.Little.{little-same, little-drop, little_split, little_lt}
use Rattle.writing.specs.Writing.{bytes_of}
use Rattle.writing.proofs.Writing.{bytes_length, bytes_lt, bytes_back, row_back}
use Rattle.list_conversion.specs.Cells.{list_size, cell_size, header, row_bytes, zeros, cell_with}
use Rattle.list_conversion.specs.Entries.{entry}
use Rattle.list_conversion.proofs.Sizes.{size_holds}
use Rattle.list_conversion.proofs.Rows.{row-length}
use Rattle.list_conversion.proofs.Answers.{header-length}

-- an entry of 8 bytes: its offset, and the hash behind it
pub entry_words : (o h : ℕ) → o < 4294967296 → h < 4294967296 → (little 4 (bytes_of 8 (entry o h)) 0 ≡ o) × (little 4 (bytes_of 8 (entry o h)) 4 ≡ h)
entry_words o h a b =
    let s : List ℕ = bytes_of 8 (entry o h) in
    let whole : little 8 s 0 ≡ entry o h = bytes_back 8 (entry o h) (omega arith) in
    let split : little 8 s 0 ≡ little 4 s 0 + 4294967296 * little 4 s 4 = little_split 4 4 s 0 in
    let l : little 4 s 0 < 4294967296 = little_lt 4 s (bytes_lt 8 (entry o h)) 0 in
    let u : little 4 s 4 < 4294967296 = little_lt 4 s (bytes_lt 8 (entry o h)) 4 in
    (omega arith, omega arith)

-- a word that lies in a first part is that part's
pub word_first : (m : ℕ) (xs ys : List ℕ) (j : ℕ) → j + m ≤ length xs → little m (xs ++ ys) j ≡ little m xs j
word_first m xs ys j h = little-same m (xs ++ ys) xs j j (λ i k. get_or-append xs ys 0 (j + i) (omega arith))

-- every byte of the rest of a cell
pub zero_byte : (n i : ℕ) → byte_at (zeros n) i ≡ 0
unfolding bytes_of
zero_byte zero i = refl
zero_byte (suc n) zero = refl
zero_byte (suc n) (suc i) = zero_byte n i

-- entry i of a row, and what stands behind it
pub row_from :
    (size : ℕ) (es ys : List ℕ) (i : ℕ) → i < length es
    → drop (size * i) (row_bytes size es ++ ys) ≡ bytes_of size (get_or es i 0) ++ (row_bytes size (drop (suc i) es) ++ ys)
unfolding row_bytes
row_from size [] ys i h = absurd (not-suc-le-zero h)
row_from size (e ∷ es) ys zero h = rw mul-zero (append_assoc (bytes_of size e) (row_bytes size es) ys)
row_from size (e ∷ es) ys (suc i) h =
    ap (drop (size * suc i)) (append_assoc (bytes_of size e) (row_bytes size es) ys)
    ∙ ap (λ (k : ℕ). drop k (bytes_of size e ++ (row_bytes size es ++ ys))) (let b = bytes_length size e in let m = mul-suc size i in let g : size * suc i ≡ length (bytes_of size e) + size * i = omega arith in g)
    ∙ drop-append-add (bytes_of size e) (row_bytes size es ++ ys) (size * i)
    ∙ row_from size es ys i (omega arith)

-- ---- the buffer that a cell was written into: header, entries, zeros, and what was there behind the cell

module _ (size kind : ℕ) (es tail : List ℕ) where
  abbrev n : ℕ
  n = length es

  abbrev cell : ℕ
  cell = cell_size size n

  abbrev word : ℕ
  word = 4294967296 - cell

  abbrev row : List ℕ
  row = row_bytes size es

  abbrev rest : List ℕ
  rest = zeros (cell - list_size size n)

  abbrev pub buffer : List ℕ
  buffer = cell_with size kind es ++ tail

  behind-header : buffer ≡ header cell kind n ++ (row ++ (rest ++ tail))
  behind-header = append_assoc (header cell kind n) (row ++ rest) tail ∙ ap (λ (l : List ℕ). header cell kind n ++ l) (append_assoc row rest tail)

  nested : buffer ≡ bytes_of 4 word ++ (bytes_of 2 kind ++ (bytes_of 2 n ++ (row ++ (rest ++ tail))))
  nested =
      behind-header ∙ append_assoc (bytes_of 4 word) (bytes_of 2 kind ++ bytes_of 2 n) (row ++ (rest ++ tail))
      ∙ ap (λ (l : List ℕ). bytes_of 4 word ++ l) (append_assoc (bytes_of 2 kind) (bytes_of 2 n) (row ++ (rest ++ tail)))

  -- the header's numbers
  pub word_there : 1 ≤ cell → little 4 buffer 0 ≡ 4294967296 - cell
  word_there h =
      ap (λ (l : List ℕ). little 4 l 0) nested ∙ row_back [] (bytes_of 2 kind ++ (bytes_of 2 n ++ (row ++ (rest ++ tail)))) 4 word (omega arith)

  pub kind_there : kind < 65536 → little 2 buffer 4 ≡ kind
  kind_there h =
      (λ i. little 2 (nested i) (sym (bytes_length 4 word) i)) ∙ row_back (bytes_of 4 word) (bytes_of 2 n ++ (row ++ (rest ++ tail))) 2 kind h

  pub count_there : n < 65536 → little 2 buffer 6 ≡ n
  count_there h =
      let a : List ℕ = bytes_of 4 word ++ bytes_of 2 kind in
      let l : 6 ≡ length a = omega (arith, length-append (bytes_of 4 word) (bytes_of 2 kind), bytes_length 4 word, bytes_length 2 kind) in
      let e : buffer ≡ a ++ (bytes_of 2 n ++ (row ++ (rest ++ tail))) = nested ∙ sym (append_assoc (bytes_of 4 word) (bytes_of 2 kind) (bytes_of 2 n ++ (row ++ (rest ++ tail)))) in
      (λ i. little 2 (e i) (l i)) ∙ row_back a (row ++ (rest ++ tail)) 2 n h

  -- a word of entry i
  pub entry_there : (m i j : ℕ) → i < n → j + m ≤ size → little m buffer (8 + size * i + j) ≡ little m (bytes_of size (get_or es i 0)) j
  entry_there m i j h k =
      let e : drop (8 + size * i) buffer ≡ bytes_of size (get_or es i 0) ++ (row_bytes size (drop (suc i) es) ++ (rest ++ tail)) =
      ap (drop (8 + size * i)) behind-header
      ∙ sym (drop-drop (size * i) 8 (header cell kind n ++ (row ++ (rest ++ tail))))
      ∙ ap (drop (size * i)) (drop_at (header cell kind n) (row ++ (rest ++ tail)) 8 (header-length cell kind n))
      ∙ row_from size es (rest ++ tail) i h in
      sym (little-drop m (8 + size * i) buffer j) ∙ ap (λ (l : List ℕ). little m l j) e
      ∙ word_first m (bytes_of size (get_or es i 0)) (row_bytes size (drop (suc i) es) ++ (rest ++ tail)) j (omega (arith, bytes_length size (get_or es i 0)))

  -- the rest of the cell
  pub zero_there : (i : ℕ) → list_size size n ≤ i → i < cell → byte_at buffer i ≡ 0
  zero_there i h k =
      let j : ℕ = i - list_size size n in
      let a : List ℕ = header cell kind n ++ row in
      let l : length a ≡ list_size size n = length-append (header cell kind n) row ∙ omega (arith, header-length cell kind n, row-length size es) in
      let e : buffer ≡ a ++ (rest ++ tail) = behind-header ∙ sym (append_assoc (header cell kind n) row (rest ++ tail)) in
      let at : i ≡ length a + j = omega arith in
      (λ u. byte_at (e u) (at u)) ∙ get_or-append-add a (rest ++ tail) j 0
      ∙ get_or-append rest tail 0 j (omega (arith, bytes_length (cell - list_size size n) 0)) ∙ zero_byte (cell - list_size size n) j

  pub buffer_length : length buffer ≡ cell + length tail
  buffer_length =
      ap length behind-header
      ∙ omega (arith, length-append (header cell kind n) (row ++ (rest ++ tail)), length-append row (rest ++ tail), length-append rest tail, header-length cell kind n, row-length size es, bytes_length (cell - list_size size n) 0, size_holds size n)
