-- Entries in a row, over the bytes of an entry, and the loop that writes them. Assumes nothing.
use mathlib.Core.Path.{◌≡◌, refl, sym, ap, subst, ◌∙◌}
use mathlib.Core.Bool.{Bool}
use mathlib.Core.List.{List, [], ◌∷◌, ◌++◌, append_assoc, append-nil}
use Prim.Native.Nat.{ℕ, suc, ◌+◌, ◌-◌, ◌*◌, ◌≤◌, ◌<◌}
use native.Mathlib.Nat.{mul-zero, mul-suc, mul-le-mul}
use native.Mathlib.Numerals.{add-one}
use native.Mathlib.Omega.{arith}
use lib.ListN.{length, length-append}
use Rattle.writing.specs.Writing.{bytes_of, with_bytes, PutAt}
use Rattle.writing.proofs.Writing.{bytes_length, with_length, with_none, put-after}
use Rattle.cell_key_node.specs.ValueList.{up_to}
use Rattle.cell_key_node.proofs.Fill.{up_length}
use Rattle.list_conversion.specs.Cells.{list_size, header, row_bytes}

-- a header
pub header-put :
    (old : List ℕ) (cell kind n : ℕ) → 8 ≤ length old → {word : ℕ} → word ≡ 4294967296 - cell
    → {q r s : Bool} {one two new : List ℕ} → PutAt 4 word 0 old q one → PutAt 2 kind 4 one r two → PutAt 2 n 6 two s new
    → new ≡ with_bytes old 0 (header cell kind n)
header-put old cell kind n h w {q = q} {one = one} put y z =
    let x : PutAt 4 (4294967296 - cell) 0 old q one = subst (λ (k : ℕ). PutAt 4 k 0 old q one) w put in
    let a : List ℕ = bytes_of 4 (4294967296 - cell) in
    let b : List ℕ = bytes_of 2 kind in
    let k : length a ≡ 4 = bytes_length 4 (4294967296 - cell) in
    let l : length b ≡ 2 = bytes_length 2 kind in
    let m : length (a ++ b) ≡ 6 = length-append a b ∙ omega arith in
    let u = put-after old 0 [] x (sym (with_none old 0)) refl (omega arith) in
    let v = put-after old 0 a y u (omega arith) (omega arith) in
    put-after old 0 (a ++ b) z v (omega arith) (omega arith) ∙ ap (with_bytes old 0) (append_assoc a b (bytes_of 2 n))

module _ (size : ℕ) where
  pub row-length : (es : List ℕ) → length (row_bytes size es) ≡ size * length es
  unfolding row_bytes
  row-length [] = sym (mul-zero size)
  row-length (e ∷ es) =
      length-append (bytes_of size e) (row_bytes size es)
      ∙ omega (arith, bytes_length size e, row-length es, mul-suc size (length es))

  -- one entry more
  pub row_more : (es : List ℕ) (e : ℕ) → row_bytes size (es ++ (e ∷ [])) ≡ row_bytes size es ++ bytes_of size e
  unfolding row_bytes
  row_more [] e = append-nil (bytes_of size e)
  row_more (d ∷ es) e = ap (λ (r : List ℕ). bytes_of size d ++ r) (row_more es e) ∙ sym (append_assoc (bytes_of size d) (row_bytes size es) (bytes_of size e))

  -- ---- the loop: i of the entries f 0, f 1, .. before f n stand behind the header

  pub record Filling (f : ℕ → ℕ) (n : ℕ) (old out : List ℕ) (i : ℕ) : Type 0 where
    pub within : i ≤ n
    pub room : list_size size n ≤ length old
    pub long : length out ≡ length old
    pub so : out ≡ with_bytes old 8 (row_bytes size (up_to f i))

  module _ (f : ℕ → ℕ) (n : ℕ) (old : List ℕ) where
    pub filling_start : list_size size n ≤ length old → Filling f n old old 0
    unfolding up_to row_bytes
    filling_start h = record { within = omega arith; room = h; long = refl; so = sym (with_none old 8) }

    module _ (out : List ℕ) (i : ℕ) (x : Filling f n old out i) where
      wide : length (row_bytes size (up_to f i)) ≡ size * i
      wide = row-length (up_to f i) ∙ ap (λ (k : ℕ). size * k) (up_length f i)

      pub filling_step : i < n → {z e : ℕ} → z ≡ size → e ≡ f i → {r : Bool} {new : List ℕ} → PutAt z e (8 + z * i) out r new → Filling f n old new (i + 1)
      unfolding up_to
      filling_step k {z} {e} w q {r} {new} put =
          let p : PutAt size e (8 + size * i) out r new = subst (λ (u : ℕ). PutAt u e (8 + u * i) out r new) w put in
          let row : List ℕ = row_bytes size (up_to f i) in
          let next : size * suc i ≤ size * n = mul-le-mul {n₁ = size} {m₁ = suc i} {n₂ = size} {m₂ = n} (omega arith) (omega arith) in
          let m : size * suc i ≡ size * i + size = mul-suc size i in
          let h : list_size size n ≤ length old = x.room in
          let b : length (bytes_of size e) ≡ size = bytes_length size e in
          let long : length row ≡ size * i = wide in
          let so : new ≡ with_bytes old 8 (row ++ bytes_of size e) = put-after old 8 row p x.so (omega arith) (omega arith) in
          let grown : row_bytes size (up_to f (i + 1)) ≡ row ++ bytes_of size e =
          ap (λ (u : ℕ). row_bytes size (up_to f u)) (add-one i) ∙ row_more (up_to f i) (f i) ∙ ap (λ (u : ℕ). row ++ bytes_of size u) (sym q) in
          record {
            within = omega arith;
            room = h;
            long = ap length so ∙ with_length old 8 (row ++ bytes_of size e) (omega (arith, length-append row (bytes_of size e)));
            so = so ∙ ap (with_bytes old 8) (sym grown);
          }
