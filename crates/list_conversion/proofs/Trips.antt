-- The way there and back, of the functions' own answers; and when one is refused. Assumes nothing.
use mathlib.Core.Path.{◌≡◌, refl, sym, ap, ◌∙◌}
use mathlib.Core.List.{List, [], ◌∷◌}
use Prim.Native.Nat.{ℕ, suc, ◌+◌, ◌-◌, ◌*◌, ◌/◌, ◌%◌, ◌≤◌, ◌<◌, min}
use native.Mathlib.Nat.{zero-add, mul-suc, mul-le-mul}
use native.Mathlib.Omega.{arith}
use lib.Dec.{leb, eqb}
use lib.ListN.{length, drop, length-take, length-drop}
use lib.Seq.{get_or-take, get_or-drop}
use Rattle.words.specs.Words.{byte_at, little, word32}
use Rattle.words.specs.Refusals.{OUTSIDE, BAD_SIGN, BAD_NAME}
use Rattle.words.specs.Paper.{Told, Paper, success, refused, checked}
use Rattle.words.specs.Buffers.{needing}
use Rattle.words.specs.declared.RoomRefusal.{RoomRefusal}
use Rattle.words.proofs.Papers.{same-success, on_success_of}
use Rattle.words.proofs.Plain.{Plainly, plainly_success, plainly_refused, plainly_by, plainly_cond, plainly_then_by, plainly_on}
use Rattle.words.proofs.Buffers.{full_of_lem, untouched}
use Rattle.words.proofs.Little.{little-same}
use Rattle.sub_key_list.specs.Lists.{LH, LI, RI, entry_size, Listed, leaf, index, kind_at, count_at, list_at}
use Rattle.sub_key_list.proofs.Cases.{list-leaf, list-plain}
use Rattle.cell_key_node.specs.Records.{fault_at}
use Rattle.cell_key_node.specs.Key.{key_fault, key_of, key_at, key_name}
use Rattle.cell_key_node.specs.ValueList.{up_to}
use Rattle.cell_key_node.proofs.Checks.{exactly}
use Rattle.name_hash.specs.Hash.{name_hash_of}
use Rattle.list_conversion.specs.Cells.{cell_size}
use Rattle.list_conversion.specs.Entries.{only_kind, count_of, offset_in, key_hash, entry, hashed, lh_entries, li_entries}
use Rattle.list_conversion.specs.Answers.{size_of, Converted}
use Rattle.list_conversion.specs.Written.{offset_at, Lent, Became, SameEntries, FromLi, FromLh, WasRefused, RefusedLh, RefusedLi}
use Rattle.list_conversion.proofs.Lists.{leaf_read}
use Rattle.list_conversion.proofs.Written.{wrote_lh, wrote_li}
use Rattle.std.specs.Prelude.{Err}

-- a word of the cell that is lent is the one that was written
lent_word : (n : ℕ) (new t : List ℕ) (q : ℕ) → Lent n new t q → (m j : ℕ) → j + m ≤ n → little m t (q + j) ≡ little m new j
lent_word n new t q e m j h =
    little-same m t new (q + j) j
    (λ i k.
    let at : q + j + i ≡ q + (j + i) = omega arith in
    ap (byte_at t) at ∙ sym (get_or-drop q t (j + i) 0) ∙ sym (get_or-take n (drop q t) (j + i) 0 (omega arith))
    ∙ ap (λ (l : List ℕ). byte_at l (j + i)) e ∙ get_or-take n new (j + i) 0 (omega arith))

-- one step, and the cell that it wrote lent
module _
    (a z b y : ℕ) (s : List ℕ) (p : ℕ) (old new : List ℕ) (n c : ℕ) (one : Became a z b y s p old new n c)
    (t : List ℕ) (q : ℕ) (e : Lent n new t q) (wide : 4 ≤ y)
  where
    -- the list that is lent is the one that was written
    pub lent_list : (b ≡ RI → ⊥) → list_at t q ≡ success (leaf b y c)
    lent_list no_index =
        let h = one.holds in
        let r = leaf_read new 0 one.cell in
        let i = r.inside in
        let k : min n (length (drop q t)) ≡ min n (length new) = sym (length-take n (drop q t)) ∙ ap length e ∙ length-take n new in
        let d : length (drop q t) ≡ length t - q = length-drop q t in
        let kind : b ≡ kind_at t q = sym (lent_word n new t q e 2 4 (omega arith) ∙ r.kind_is) in
        let count : c ≡ count_at t q = sym (lent_word n new t q e 2 6 (omega arith) ∙ r.count_is) in
        sym (list-leaf t q (omega arith) refl (omega arith) kind count (sym r.size_is) (omega arith) (omega arith) no_index)

    -- and its offsets are those of the list that was there first
    pub lent_offset : (i : ℕ) → i < c → offset_at t q y i ≡ offset_at s p z i
    lent_offset i l =
        let h = one.holds in
        let w : y * suc i ≤ y * c = mul-le-mul {n₁ = y} {m₁ = suc i} {n₂ = y} {m₂ = c} (omega arith) (omega arith) in
        let v : y * suc i ≡ y * i + y = mul-suc y i in
        lent_word n new t q e 4 (8 + y * i) (omega arith) ∙ ap (word32 new) (sym (zero-add (8 + y * i))) ∙ one.offsets i l

    -- another step on it
    module _ (old' new' : List ℕ) (m d : ℕ) (two : Became b y a z t q old' new' m d) where
      same_count : d ≡ c
      same_count =
          let l = one.holds in
          sym (leaf_read t q two.list).count_is ∙ lent_word n new t q e 2 6 (omega arith) ∙ (leaf_read new 0 one.cell).count_is

      same_entries : SameEntries a z s p new' c
      same_entries = record {
        first = one.list;
        last = two.cell ∙ ap (λ (u : ℕ). success (leaf a z u)) same_count;
        offsets = λ i l. let k : d ≡ c = same_count in two.offsets i (omega arith) ∙ lent_offset i l;
      }

pub from_li : FromLi
from_li s b p image base old new n x t bt q e old' new' m x' =
    let one = wrote_lh s b p image base old new n x in
    let two = wrote_li t bt q old' new' m x' in
    (one.0, same_entries LI 4 LH 8 s p old new n one.0 one.1 t q e (omega arith) old' new' m two.0 two.1)

pub from_lh : FromLh
from_lh s b p old new n x t bt q e image base old' new' m x' =
    let one = wrote_li s b p old new n x in
    let two = wrote_lh t bt q image base old' new' m x' in
    let k : two.0 ≡ one.0 = same_count LH 8 LI 4 s p old new n one.0 one.1 t q e (omega arith) old' new' m two.0 two.1 in (
      one.0,
      same_entries LH 8 LI 4 s p old new n one.0 one.1 t q e (omega arith) old' new' m two.0 two.1,
      λ i l r.
          let o : offset_at t q 4 i ≡ offset_at s p 8 i = lent_offset LH 8 LI 4 s p old new n one.0 one.1 t q e (omega arith) i l in
          same-success (sym (two.2 i (omega arith)) ∙ ap (λ (u : ℕ). key_hash image (u + base)) o ∙ r),
    )

-- ---- an answer that refuses

count-plain : (kind : ℕ) (s : List ℕ) (p : ℕ) → Plainly (count_of kind s p)
unfolding count_of only_kind
count-plain kind s p = go (list_at s p) (list-plain s p)
  where
    go : (a : Paper Listed) → Plainly a → Plainly (only_kind kind p a)
    go (success (leaf k size n)) h = plainly_cond (eqb k kind) (plainly_success n) (plainly_by BAD_SIGN p (omega arith))
    go (success (index n)) h = plainly_by BAD_SIGN p (omega arith)
    go (refused t) h = plainly_refused (h t refl)

key-plain : (image : List ℕ) (p : ℕ) → Plainly (key_at image p 0)
unfolding key_at key_fault checked
key-plain image p =
    plainly_cond (eqb (fault_at image p 80 0x6B6E 76) 0) (plainly_success (key_of p 0 (drop p image)))
    (plainly_by (fault_at image p 80 0x6B6E 76) p (λ e. let l = (exactly image p 80 0x6B6E 76).no_other in omega arith))

name-plain : (flags : ℕ) (name : List ℕ) → Plainly (name_hash_of flags name)
unfolding name_hash_of
name-plain flags name =
    plainly_cond (eqb (flags / 32 % 2) 1) (plainly_success _)
    (plainly_cond (eqb (length name % 2) 1) (plainly_by BAD_NAME 0 (omega arith)) (plainly_success _))

hash_plain : (image : List ℕ) (place : ℕ) → Plainly (key_hash image place)
unfolding key_hash
hash_plain image place =
    plainly_cond (leb 4294967296 place) (plainly_by OUTSIDE place (omega arith))
    (plainly_then_by (key_at image place 0) _ (key-plain image place) (λ k. name-plain k.key_node_flag_bits (key_name image place)))

hashed-plain : (image : List ℕ) (base : ℕ) (os : List ℕ) → Plainly (hashed image base os)
unfolding hashed
hashed-plain image base [] = plainly_success []
hashed-plain image base (o ∷ os) =
    plainly_then_by (key_hash image (o + base)) _ (hash_plain image (o + base)) (λ h. plainly_on (λ (es : List ℕ). entry o h ∷ es) (hashed image base os) (hashed-plain image base os))

lh-plain : (s : List ℕ) (p : ℕ) (image : List ℕ) (base : ℕ) → Plainly (lh_entries s p image base)
unfolding lh_entries
lh-plain s p image base = plainly_then_by (count_of LI s p) _ (count-plain LI s p) (λ n. hashed-plain image base (up_to (offset_in (drop p s) 4) n))

li-plain : (s : List ℕ) (p : ℕ) → Plainly (li_entries s p)
unfolding li_entries
li-plain s p = plainly_on (λ n. up_to (offset_in (drop p s) 8) n) (count_of LH s p) (count-plain LH s p)

refusal : (kind : ℕ) (a : Paper (List ℕ)) → Plainly a → (old new : List ℕ) (f : RoomRefusal) → Converted kind a old (Err f) new
    → WasRefused a (entry_size kind) old new f
unfolding size_of
refusal kind a h old new f x = record {
  untouched = untouched x refl;
  no_room = λ e.
      let y = full_of_lem needing (length old) (size_of kind a) (plainly_on _ a h) (sym x.answer) e in
      let w = on_success_of (λ (l : List ℕ). cell_size (entry_size kind) (length l)) a y.1 in
      let k : f.places ≡ y.0 = sym (ap (λ (u : Told). u.places) y.2) in
      let m : length old < y.0 = y.3 in
      (sym (ap (λ (u : Told). u.position) y.2), omega arith, (w.0, w.1, k ∙ sym w.2));
}

pub refused-lh : RefusedLh
refused-lh s p image base old new f x = refusal LH (lh_entries s p image base) (lh-plain s p image base) old new f x

pub refused-li : RefusedLi
refused-li s p old new f x = refusal LI (li_entries s p) (li-plain s p) old new f x
