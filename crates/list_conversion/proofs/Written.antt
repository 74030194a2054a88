-- What the buffer holds after an answer, of the answer itself. Assumes nothing.
use mathlib.Core.Path.{◌≡◌, refl, sym, ap, subst, ◌∙◌}
use mathlib.Core.Logic.{inl, inr}
use mathlib.Core.Bool.{Bool, true}
use mathlib.Core.List.{List, [], ◌++◌}
use Prim.Native.Nat.{ℕ, ◌+◌, ◌-◌, ◌*◌, ◌≤◌, ◌<◌}
use native.Mathlib.Omega.{arith}
use lib.ListN.{length, get_or, drop, length-append}
use lib.Seq.{drop_at}
use borrow.Author.Tests.{le-ltb}
use Rattle.words.specs.Words.{byte_at, little, word32, signed, Bytes}
use Rattle.words.specs.Paper.{Paper, success}
use Rattle.words.specs.Buffers.{needing}
use Rattle.words.proofs.Papers.{same-success, on-success, on_success_of}
use Rattle.words.proofs.Buffers.{room_success, filled}
use Rattle.words.proofs.Signed.{magnitude_is}
use Rattle.cell.specs.Cells.{magnitude_at, allocated_at}
use Rattle.sub_key_list.specs.Lists.{LF, LH, LI, RI, entry_size, leaf, count_at, list_at}
use Rattle.sub_key_list.specs.Strict.{permitted, strict_at}
use Rattle.sub_key_list.proofs.Cases.{list-leaf}
use Rattle.sub_key_list.proofs.Profiles.{rule, accept}
use Rattle.cell_key_node.proofs.Fill.{up_length, up_at}
use Rattle.words.proofs.Little.{little_lt, little-drop}
use Rattle.writing.proofs.Writing.{bytes_back}
use Rattle.writing.specs.Writing.{bytes_of}
use Rattle.list_conversion.specs.Cells.{list_size, cell_size, cell_with, cell_of}
use Rattle.list_conversion.specs.Entries.{offset_in, key_hash, lh_entries, li_entries, hash_of, lh_entry, lh_size, li_size}
use Rattle.list_conversion.specs.Answers.{size_of, cell_for, Converted}
use Rattle.list_conversion.specs.Written.{offset_at, hash_at, CellReads, Cells, Became, WroteLh, WroteLi}
use Rattle.list_conversion.proofs.Sizes.{list_small, size_holds, size_spare, size_multiple, size_least}
use Rattle.list_conversion.proofs.Lists.{leaf_read}
use Rattle.list_conversion.proofs.Entries.{key_hash_small, lh_of, li_of}
use Rattle.list_conversion.proofs.Reading.{entry_words, word_there, kind_there, count_there, entry_there, zero_there, buffer_length}
use Rattle.std.specs.Prelude.{Ok}

-- ---- the size word of a cell that is written

module _ (s : List ℕ) (p cell : ℕ) (h : 1 ≤ cell) (k : cell ≤ 2147483648) (e : word32 s p ≡ 4294967296 - cell) where
  pub size_read : magnitude_at s p ≡ cell
  unfolding magnitude_at
  size_read =
      let l : 2147483648 ≤ 4294967296 - cell = omega arith in
      rw e (magnitude_is (4294967296 - cell) (omega arith) ∙ rw (le-ltb (4294967296 - cell) 2147483648 l) (omega arith))

  pub allocated_read : allocated_at s p ≡ true
  unfolding allocated_at signed
  allocated_read =
      let l : 2147483648 ≤ 4294967296 - cell = omega arith in
      rw e (simp (le-ltb (4294967296 - cell) 2147483648 l))

-- ---- a cell with any entries, written by an answer

module _ (kind size : ℕ) (z : size ≡ entry_size kind) where
  -- all that is read of it, but for what its entries mean
  pub record Stands (es old new : List ℕ) (n : ℕ) : Type 0 where
    pub list : list_at new 0 ≡ success (leaf kind size (length es))
    pub words : (m i j : ℕ) → i < length es → j + m ≤ size → little m new (8 + size * i + j) ≡ little m (bytes_of size (get_or es i 0)) j
    pub magnitude : magnitude_at new 0 ≡ n
    pub allocated : allocated_at new 0 ≡ true
    pub cell_is : n ≡ cell_size size (length es)
    pub zeroed : (i : ℕ) → list_size size (length es) ≤ i → i < n → byte_at new i ≡ 0
    pub room : n ≤ length old
    pub inside : n ≤ length new
    pub behind : drop n new ≡ drop n old

  -- the strict reading accepts it
  pub stands_strict :
      (kind ≡ RI → ⊥) → (es old new : List ℕ) (n : ℕ) → Stands es old new n → (minor : ℕ) (named : Bool) → permitted kind minor ≡ true
      → strict_at new minor named 0 ≡ success (leaf kind size (length es))
  stands_strict no_index es old new n st minor named e =
      let r = leaf_read new 0 st.list in
      let m : magnitude_at new 0 ≡ n = st.magnitude in
      let y : n ≡ cell_size size (length es) = st.cell_is in
      let h = size_holds size (length es) in
      let i = st.inside in
      accept new minor named 0 (leaf kind size (length es)) st.list
      (record {
        permitted = rw r.kind_is (((rule minor).every kind).0 e);
        top = λ u q. no_index (sym r.kind_is ∙ q);
        allocated = st.allocated;
        large = rw (r.kind_is, r.size_is, r.count_is) (omega arith);
        inside = omega arith;
      })

  module _
      (known : size ≡ 0 → ⊥) (no_index : kind ≡ RI → ⊥) (two : kind < 65536) (few : size < 256)
      (es : List ℕ) (m : length es < 65536) (old : List ℕ)
    where
      abbrev cell : ℕ
      cell = cell_size size (length es)

      abbrev after : List ℕ
      after = cell_with size kind es ++ drop cell old

      whole : length (cell_with size kind es) ≡ cell
      whole = omega (arith, buffer_length size kind es [], length-append (cell_with size kind es) [])

      stands_after : cell ≤ length old → Stands es old after cell
      stands_after h =
          let l = list_small size (length es) few m in
          let a = size_holds size (length es) in
          let b = size_spare size (length es) in
          let long : length after ≡ cell + length (drop cell old) = buffer_length size kind es (drop cell old) in
          let w : word32 after 0 ≡ 4294967296 - cell = word_there size kind es (drop cell old) (omega arith) in
          record {
            list = sym (list-leaf after 0 (omega arith) refl (omega arith) (sym (kind_there size kind es (drop cell old) two)) (sym (count_there size kind es (drop cell old) m)) z known (omega arith) no_index);
            words = λ i j k. entry_there size kind es (drop cell old) i j k;
            magnitude = size_read after 0 cell (omega arith) (omega arith) w;
            allocated = allocated_read after 0 cell (omega arith) (omega arith) w;
            cell_is = refl;
            zeroed = zero_there size kind es (drop cell old);
            room = h;
            inside = omega arith;
            behind = drop_at (cell_with size kind es) (drop cell old) cell whole;
          }

      pub stands : (a : Paper (List ℕ)) → a ≡ success es → (n : ℕ) (new : List ℕ) → Converted kind a old (Ok n) new → Stands es old new n
      unfolding size_of cell_of
      stands a e n new x =
          let r = room_success needing (length old) (size_of kind a) n (sym x.answer) in
          let c : cell ≡ n = ap (λ (u : ℕ). cell_size u (length es)) z ∙ same-success (sym (on-success _ e) ∙ r.0) in
          let f : new ≡ cell_for kind a ++ drop (length (cell_for kind a)) old = filled x refl in
          let g : new ≡ cell_with size kind es ++ drop (length (cell_with size kind es)) old = f ∙ rw (e, z) in
          let b : n ≤ length old = r.1 in
          let w : new ≡ after = g ∙ ap (λ (u : ℕ). cell_with size kind es ++ drop u old) whole in
          subst (λ (u : ℕ). Stands es old new u) c (subst (λ (l : List ℕ). Stands es old l cell) (sym w) (stands_after (omega arith)))

-- ---- the cell by itself

module _ (kind : ℕ) (es tail : List ℕ) (m : length es < 65536) where
  cell_reads :
      (entry_size kind ≡ 0 → ⊥) → (kind ≡ RI → ⊥) → kind < 65536 → entry_size kind < 256 → CellReads kind es tail
  unfolding cell_of
  cell_reads known no_index two few =
      let z : ℕ = entry_size kind in
      let c : ℕ = cell_size z (length es) in
      let one : List ℕ = cell_with z kind es in
      let w : length one ≡ c = whole kind z refl known no_index two few es m [] in
      let e : drop c (one ++ tail) ≡ tail = drop_at one tail c w in
      let fit : c ≤ length (one ++ tail) = omega (arith, length-append one tail) in
      let st : Stands kind z refl es (one ++ tail) (one ++ tail) c =
      subst (λ (l : List ℕ). Stands kind z refl es (one ++ tail) (one ++ l) c) e (stands_after kind z refl known no_index two few es m (one ++ tail) fit) in
      record {
        list = st.list;
        entries = λ i l h.
            let at : 0 + (8 + z * i) ≡ 8 + z * i + 0 = omega arith in
            ap (little z (one ++ tail)) at ∙ st.words z i 0 l (omega arith) ∙ bytes_back z (get_or es i 0) h;
        long = w;
        multiple = rw w (size_multiple z (length es));
        holds = rw w (size_holds z (length es));
        least = λ u q h. rw w (size_least z (length es) u q h);
        magnitude = st.magnitude ∙ sym w;
        allocated = st.allocated;
        strict = stands_strict kind z refl no_index es (one ++ tail) (one ++ tail) c st;
      }

pub cells : Cells
unfolding entry_size
cells kind (inl e) es tail m = subst (λ (k : ℕ). CellReads k es tail) (sym e) (cell_reads LF es tail m (omega arith) (omega arith) (omega arith) (omega arith))
cells kind (inr (inl e)) es tail m = subst (λ (k : ℕ). CellReads k es tail) (sym e) (cell_reads LH es tail m (omega arith) (omega arith) (omega arith) (omega arith))
cells kind (inr (inr e)) es tail m = subst (λ (k : ℕ). CellReads k es tail) (sym e) (cell_reads LI es tail m (omega arith) (omega arith) (omega arith) (omega arith))

-- ---- of an answer that wrote a cell

-- its entries were found
pub found : (kind : ℕ) (a : Paper (List ℕ)) (old new : List ℕ) (n : ℕ) → Converted kind a old (Ok n) new → (es : List ℕ) × (a ≡ success es)
unfolding size_of
found kind a old new n x =
    let r = room_success needing (length old) (size_of kind a) n (sym x.answer) in
    let y = on_success_of (λ (l : List ℕ). cell_size (entry_size kind) (length l)) a r.0 in
    (y.0, y.1)

-- what stands in the buffer, with entries whose offsets are the list's
module _
    (from from-size to to-size : ℕ) (z : to-size ≡ entry_size to) (leafy : to ≡ RI → ⊥)
    (s : List ℕ) (p count : ℕ) (l : list_at s p ≡ success (leaf from from-size count))
    (es old new : List ℕ) (k : length es ≡ count) (n : ℕ) (st : Stands to to-size z es old new n)
  where
    cell_read : list_at new 0 ≡ success (leaf to to-size count)
    cell_read = st.list ∙ ap (λ (u : ℕ). success (leaf to to-size u)) k

    size_is : n ≡ cell_size to-size count
    size_is = st.cell_is ∙ ap (cell_size to-size) k

    pub became : ((i : ℕ) → i < count → offset_at new 0 to-size i ≡ offset_at s p from-size i) → Became from from-size to to-size s p old new n count
    became o =
        let y : n ≡ cell_size to-size count = size_is in
        record {
          list = l;
          cell = cell_read;
          offsets = o;
          size = st.magnitude;
          allocated = st.allocated;
          multiple = rw y (size_multiple to-size count);
          holds = rw y (size_holds to-size count);
          least = λ m e h. rw y (size_least to-size count m e h);
          zeroed = λ i h g. st.zeroed i (rw k h) g;
          room = st.room;
          behind = st.behind;
          strict = λ minor named e. stands_strict to to-size z leafy es old new n st minor named e ∙ ap (λ (u : ℕ). success (leaf to to-size u)) k;
        }

few_entries : (s : List ℕ) → Bytes s → (p : ℕ) {kind size n : ℕ} → list_at s p ≡ success (leaf kind size n) → n < 65536
few_entries s b p {n = n} l =
    let c : count_at s p ≡ n = (leaf_read s p l).count_is in
    let h : count_at s p < 65536 = little_lt 2 s b (p + 6) in
    omega arith

-- an offset in the bytes from the list's size word on has 32 bits, and stands in the slice
offset_small : (s : List ℕ) → Bytes s → (p size i : ℕ) → offset_in (drop p s) size i < 4294967296
offset_small s b p size i = rw (little-drop 4 p s (8 + size * i)) (little_lt 4 s b (p + (8 + size * i)))

pub offset_there : (s : List ℕ) (p size i : ℕ) → offset_in (drop p s) size i ≡ offset_at s p size i
offset_there s p size i = little-drop 4 p s (8 + size * i)

pub wrote_li : WroteLi
wrote_li s b p old new n x =
    let y = found LI (li_entries s p) old new n x in
    let es : List ℕ = y.0 in
    let o = li_of s p y.1 in
    let f : ℕ → ℕ = offset_in (drop p s) 8 in
    let k : length es ≡ o.count = ap length o.entries ∙ up_length f o.count in
    let c : o.count < 65536 = few_entries s b p o.list in
    let st = stands LI 4 li_size (omega arith) (omega arith) (omega arith) (omega arith) es (omega arith) old (li_entries s p) y.1 n new x in (
      o.count,
      became LH 8 LI 4 li_size (omega arith) s p o.count o.list es old new k n st
          (λ i l.
          let e : get_or es i 0 ≡ f i = ap (λ (r : List ℕ). get_or r i 0) o.entries ∙ up_at f o.count i l in
          let at : 0 + (8 + 4 * i) ≡ 8 + 4 * i + 0 = omega arith in
          ap (word32 new) at ∙ st.words 4 i 0 (omega arith) (omega arith) ∙ ap (λ (u : ℕ). little 4 (bytes_of 4 u) 0) e
          ∙ bytes_back 4 (f i) (offset_small s b p 8 i) ∙ offset_there s p 8 i),
    )

pub wrote_lh : WroteLh
wrote_lh s b p image base old new n x =
    let y = found LH (lh_entries s p image base) old new n x in
    let es : List ℕ = y.0 in
    let o = lh_of s p image base y.1 in
    let f : ℕ → ℕ = lh_entry image base (drop p s) in
    let g : ℕ → ℕ = offset_in (drop p s) 4 in
    let k : length es ≡ o.count = ap length o.entries ∙ up_length f o.count in
    let c : o.count < 65536 = few_entries s b p o.list in
    let st = stands LH 8 lh_size (omega arith) (omega arith) (omega arith) (omega arith) es (omega arith) old (lh_entries s p image base) y.1 n new x in
    let word : (i : ℕ) → i < o.count → (j : ℕ) → j + 4 ≤ 8 → little 4 new (8 + 8 * i + j) ≡ little 4 (bytes_of 8 (f i)) j =
    λ i l j q. st.words 4 i j (omega arith) q ∙ ap (λ (u : ℕ). little 4 (bytes_of 8 u) j) (ap (λ (r : List ℕ). get_or r i 0) o.entries ∙ up_at f o.count i l) in
    let both : (i : ℕ) → i < o.count → (little 4 (bytes_of 8 (f i)) 0 ≡ g i) × (little 4 (bytes_of 8 (f i)) 4 ≡ hash_of image base (g i)) =
    λ i l. entry_words (g i) (hash_of image base (g i)) (offset_small s b p 4 i) (key_hash_small image (g i + base) (o.hashes i l)) in (
      o.count,
      became LI 4 LH 8 lh_size (omega arith) s p o.count o.list es old new k n st
          (λ i l.
          let at : 0 + (8 + 8 * i) ≡ 8 + 8 * i + 0 = omega arith in
          ap (word32 new) at ∙ word i l 0 (omega arith) ∙ (both i l).0 ∙ offset_there s p 4 i),
      λ i l.
          let at : 8 + 8 * i + 4 ≡ 0 + (8 + 8 * i) + 4 = omega arith in
          let h : hash_of image base (g i) ≡ hash_at new 0 i = sym (both i l).1 ∙ sym (word i l 4 (omega arith)) ∙ ap (word32 new) at in
          ap (λ (u : ℕ). key_hash image (u + base)) (sym (offset_there s p 4 i)) ∙ o.hashes i l ∙ ap success h,
    )
