-- A conversion's answer: one law for each way in which it is answered. Assumes nothing.
use mathlib.Core.Path.{◌≡◌, refl, sym, ap, subst, ◌∙◌}
use mathlib.Core.List.{List, ◌++◌, append_assoc}
use Prim.Native.Nat.{ℕ, ◌+◌, ◌-◌, ◌*◌, ◌≤◌, ◌<◌}
use native.Mathlib.Omega.{arith}
use lib.ListN.{length, drop, length-append}
use Rattle.words.specs.Paper.{Told, Paper, success, refused, on_success}
use Rattle.words.specs.declared.Refusal.{Refusal}
use Rattle.words.specs.Buffers.{needing, in_room}
use Rattle.words.proofs.Papers.{on-success, on-refused}
use Rattle.words.proofs.Buffers.{room_full, room_fits, room_refused, answered_refused, answered_success}
use Rattle.writing.specs.Writing.{bytes_of, with_bytes}
use Rattle.writing.proofs.Writing.{bytes_length, with_length, with_front, with_more}
use Rattle.cell_key_node.specs.ValueList.{up_to}
use Rattle.cell_key_node.proofs.Fill.{up_length}
use Rattle.sub_key_list.specs.Lists.{LH, LI, entry_size}
use Rattle.list_conversion.specs.Cells.{list_size, cell_size, header, row_bytes, zeros, cell_with, cell_of}
use Rattle.list_conversion.specs.Entries.{offset_in, count_of, count_paper, li_entries, lh_count, lh_entry}
use Rattle.list_conversion.proofs.Entries.{lh_laid}
use Rattle.list_conversion.specs.Answers.{conversion_paper, size_of, Converted, LhAnswered, LiAnswered}
use Rattle.list_conversion.proofs.Rows.{row-length}
use Rattle.list_conversion.proofs.Sizes.{size_holds}
use Rattle.std.specs.Prelude.{Ok}
use Rattle.std.specs.declared.result.Result.{Result}
use Rattle.words.specs.declared.RoomRefusal.{RoomRefusal}

pub header-length : (cell kind n : ℕ) → length (header cell kind n) ≡ 8
header-length cell kind n =
    length-append (bytes_of 4 (4294967296 - cell)) (bytes_of 2 kind ++ bytes_of 2 n)
    ∙ omega (arith, length-append (bytes_of 2 kind) (bytes_of 2 n), bytes_length 4 (4294967296 - cell), bytes_length 2 kind, bytes_length 2 n)

-- header, entries and zeros, one behind another, are the cell
pub cell-put :
    (size kind : ℕ) (es old : List ℕ) → cell_size size (length es) ≤ length old → {one two new : List ℕ}
    → one ≡ with_bytes old 0 (header (cell_size size (length es)) kind (length es))
    → two ≡ with_bytes one 8 (row_bytes size es)
    → new ≡ with_bytes two (list_size size (length es)) (zeros (cell_size size (length es) - list_size size (length es)))
    → new ≡ with_bytes old 0 (cell_with size kind es)
cell-put size kind es old h {one} {two} x y z =
    let n : ℕ = length es in
    let cell : ℕ = cell_size size n in
    let head : List ℕ = header cell kind n in
    let row : List ℕ = row_bytes size es in
    let rest : List ℕ = zeros (cell - list_size size n) in
    let a : length head ≡ 8 = header-length cell kind n in
    let b : length row ≡ size * n = row-length size es in
    let c : length rest ≡ cell - list_size size n = bytes_length (cell - list_size size n) 0 in
    let l : list_size size n ≤ cell = size_holds size n in
    let ab : length (head ++ row) ≡ list_size size n = length-append head row ∙ omega arith in
    let here : 8 ≡ 0 + length head = omega arith in
    let there : list_size size n ≡ 0 + length (head ++ row) = omega arith in
    let second : two ≡ with_bytes old 0 (head ++ row) =
    y ∙ (λ i. with_bytes (x i) (here i) row) ∙ with_more old 0 head row (omega arith) in
    z ∙ (λ i. with_bytes (second i) (there i) rest) ∙ with_more old 0 (head ++ row) rest (omega arith)
    ∙ ap (with_bytes old 0) (append_assoc head row rest)

-- ---- the answers

module _ (kind : ℕ) (a : Paper (List ℕ)) (old : List ℕ) where
  pub conversion_refused : {t : Told} → a ≡ refused t → (r : (Result ℕ RoomRefusal)) → conversion_paper r ≡ refused t → Converted kind a old r old
  unfolding size_of
  conversion_refused {t} e r q = answered_refused q (ap (in_room needing (length old)) (on-refused _ e) ∙ room_refused needing (length old) t)

  module _ {es : List ℕ} (e : a ≡ success es) {cell : ℕ} (k : cell ≡ cell_size (entry_size kind) (length es)) where
    sized : size_of kind a ≡ success cell
    unfolding size_of
    sized = on-success _ e ∙ ap success (sym k)

    pub conversion_full : length old < cell → (r : (Result ℕ RoomRefusal)) → conversion_paper r ≡ refused (needing cell) → Converted kind a old r old
    conversion_full h r q = answered_refused q (ap (in_room needing (length old)) sized ∙ room_full needing (length old) cell h)

    pub conversion_written : cell ≤ length old → {new : List ℕ} → new ≡ with_bytes old 0 (cell_with (entry_size kind) kind es) → Converted kind a old (Ok cell) new
    unfolding cell_of
    conversion_written h w =
        answered_success refl (ap (in_room needing (length old)) sized ∙ room_fits needing (length old) cell h)
        (w ∙ with_front old (cell_with (entry_size kind) kind es) ∙ rw e)

-- ---- the same, where the entries are f 0, f 1, .. before f n

module _ (kind size : ℕ) (z : size ≡ entry_size kind) (n : ℕ) {cell : ℕ} (k : cell ≡ cell_size size n) (old : List ℕ) where
  -- what the calls that write ask for
  holds : list_size size n ≤ cell
  holds = omega (arith, size_holds size n)

  pub asks_header : cell ≤ length old → (1 ≤ cell) × (8 ≤ length old)
  asks_header h = let l = holds in (omega arith, omega arith)

  module _ (h : cell ≤ length old) (head : ℕ) {one : List ℕ} (x : one ≡ with_bytes old 0 (header cell head n)) where
    long_one : length one ≡ length old
    long_one = let l = holds in ap length x ∙ with_length old 0 (header cell head n) (omega (arith, header-length cell head n))

    pub asks_entries : {wide : ℕ} → size ≡ wide → list_size wide n ≤ length one
    asks_entries w = let l = holds in rw (← w) (omega (arith, long_one))

  module _ (f : ℕ → ℕ) (r : Result ℕ Refusal) (e : count_paper r ≡ success n) where
    entries : on_success (up_to f) (count_paper r) ≡ success (up_to f n)
    entries = on-success (up_to f) e

    cell_is : cell ≡ cell_size (entry_size kind) (length (up_to f n))
    cell_is = k ∙ (λ i. cell_size (z i) (sym (up_length f n) i))

    pub row-full : length old < cell → (q : Result ℕ RoomRefusal) → conversion_paper q ≡ refused (needing cell)
        → Converted kind (on_success (up_to f) (count_paper r)) old q old
    row-full h q = conversion_full kind _ old entries cell_is h q

    pub row_written :
        cell ≤ length old → {head wide : ℕ} → head ≡ kind → size ≡ wide → {one two new : List ℕ} → one ≡ with_bytes old 0 (header cell head n)
        → two ≡ with_bytes one 8 (row_bytes wide (up_to f n)) → new ≡ with_bytes two (list_size size n) (zeros (cell - list_size size n))
        → Converted kind (on_success (up_to f) (count_paper r)) old (Ok cell) new
    row_written h p q {one} {two} {new} x y w =
        let es : List ℕ = up_to f n in
        let u : n ≡ length es = sym (up_length f n) in
        let c : cell ≡ cell_size (entry_size kind) (length es) = cell_is in
        conversion_written kind _ old entries c h
        (cell-put (entry_size kind) kind es old (rw (← c) h)
        (x ∙ (λ i. with_bytes old 0 (header (c i) (p i) (u i))))
        (y ∙ ap (λ (v : ℕ). with_bytes one 8 (row_bytes v es)) (sym q ∙ z))
        (w ∙ (λ i. with_bytes two (list_size (z i) (u i)) (zeros (c i - list_size (z i) (u i))))))

-- ---- the two functions, whose entries are known from their number

module _ (s : List ℕ) (p : ℕ) (old : List ℕ) (q : Result ℕ RoomRefusal) (new : List ℕ) {l : List ℕ} (b : l ≡ drop p s) (r : Result ℕ Refusal) where
  pub lh_answered : (image : List ℕ) (base : ℕ) → count_paper r ≡ lh_count s p image base
      → Converted LH (on_success (up_to (lh_entry image base l)) (count_paper r)) old q new → LhAnswered s p image base old q new
  lh_answered image base c x =
      subst (λ (a : Paper (List ℕ)). Converted LH a old q new) ((λ i. on_success (up_to (lh_entry image base (b i))) (c i)) ∙ lh_laid s p image base) x

  pub li_answered : count_paper r ≡ count_of LH s p → Converted LI (on_success (up_to (offset_in l 8)) (count_paper r)) old q new → LiAnswered s p old q new
  unfolding li_entries
  li_answered c x = subst (λ (a : Paper (List ℕ)). Converted LI a old q new) (λ i. on_success (up_to (offset_in (b i) 8)) (c i)) x
