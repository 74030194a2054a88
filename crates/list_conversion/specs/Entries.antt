-- The entries that a conversion reads and writes, from document 02, order 10.
use Prim.{Unit, tt}
use Rattle.std.specs.Prelude.{ℕ, ◌+◌, ◌*◌, ◌≡◌, refl, List, [], ◌∷◌, cond, leb, eqb, length, drop}
use Rattle.words.specs.Words.{word32}
use Rattle.words.specs.Refusals.{OUTSIDE, BAD_SIGN}
use Rattle.words.specs.Paper.{Paper, success, refused, by, told, paper_of, on_success, then_by}
use Rattle.sub_key_list.specs.Lists.{LH, LI, entry_size, Listed, leaf, index, list_at}
use Rattle.cell_key_node.specs.Key.{key_at, key_name}
use Rattle.cell_key_node.specs.ValueList.{up_to}
use Rattle.cell_key_node.specs.declared.KeyNode.{KeyNode}
use Rattle.name_hash.specs.Hash.{name_hash_of}
use Rattle.std.specs.declared.result.Result.{Result}
use Rattle.words.specs.declared.Refusal.{Refusal}

-- ---- the list

-- "Refusals: those of one list; BAD SIGN for another kind", at the list's position; how many entries it has
unfoldable pub only_kind : ℕ → ℕ → Paper Listed → Paper ℕ
only_kind kind p (success (leaf k size n)) = cond (eqb k kind) (success n) (refused (by BAD_SIGN p))
only_kind kind p (success (index n)) = refused (by BAD_SIGN p)
only_kind kind p (refused t) = refused t

unfoldable pub count_of : ℕ → List ℕ → ℕ → Paper ℕ
count_of kind s p = only_kind kind p (list_at s p)

abbrev pub count_paper : Result ℕ Refusal → Paper ℕ
count_paper = paper_of (λ n. n) told

-- "entries at 8, of 8 bytes (`lf`, `lh`: offset, hint) or 4 (`li`, `ri`)": the offset of entry i, in the bytes from the list's size word on
abbrev pub offset_in : List ℕ → ℕ → ℕ → ℕ
offset_in list size i = word32 list (8 + size * i)

-- ---- the hashes: "each hash worked out from the key record that the entry names"

-- of the key record at a place, which is an entry's offset plus base: "2 for an offset plus base above 32 bits; those of the key record or
-- hash". A refusal tells the position of the record, and 0 for "5 on a hash". The record is read
-- with the base 0, as no offset of it is followed: whether it reads, its flags and its name are the same with any base.
unfoldable pub key_hash : List ℕ → ℕ → Paper ℕ
key_hash image place =
    cond (leb 4294967296 place) (refused (by OUTSIDE place))
    (then_by (key_at image place 0) (λ (k : KeyNode). name_hash_of k.key_node_flag_bits (key_name image place)))

-- an entry of an `lh` list, as the number that its 8 bytes are: the offset, and the hash behind it
abbrev pub entry : ℕ → ℕ → ℕ
entry offset hash = offset + 4294967296 * hash

-- the entries of an `lh` list with these offsets, "entry by entry": the first that is refused decides
unfoldable pub hashed : List ℕ → ℕ → List ℕ → Paper (List ℕ)
hashed image base [] = success []
hashed image base (o ∷ os) = then_by (key_hash image (o + base)) (λ h. on_success (λ es. entry o h ∷ es) (hashed image base os))

-- ---- what is written

-- "Write an `li` list as an allocated `lh` cell"
unfoldable pub lh_entries : List ℕ → ℕ → List ℕ → ℕ → Paper (List ℕ)
lh_entries s p image base = then_by (count_of LI s p) (λ n. hashed image base (up_to (offset_in (drop p s) 4) n))

-- "and write an `lh` list as `li`"
unfoldable pub li_entries : List ℕ → ℕ → Paper (List ℕ)
li_entries s p = on_success (λ n. up_to (offset_in (drop p s) 8) n) (count_of LH s p)

-- ---- the same, as the code goes about it: judged first, written after

-- whether every offset names a key whose name has a hash
abbrev pub judged_of : List ℕ → ℕ → List ℕ → Paper (Unit {0})
judged_of image base os = on_success (λ es. tt) (hashed image base os)

-- how many entries are to be written
abbrev pub lh_count : List ℕ → ℕ → List ℕ → ℕ → Paper ℕ
lh_count s p image base = on_success (λ (es : List ℕ). length es) (lh_entries s p image base)

-- the hash of an offset's key, and 0 where it has none
abbrev pub or_zero : Paper ℕ → ℕ
or_zero (success h) = h
or_zero (refused t) = 0

abbrev pub hash_of : List ℕ → ℕ → ℕ → ℕ
hash_of image base offset = or_zero (key_hash image (offset + base))

-- entry i of the `lh` list that an `li` list becomes
abbrev pub lh_entry : List ℕ → ℕ → List ℕ → ℕ → ℕ
lh_entry image base list i = entry (offset_in list 4 i) (hash_of image base (offset_in list 4 i))

-- the bytes that an entry of each kind takes
pub lh_size : 8 ≡ entry_size LH
unfolding entry_size
lh_size = refl

pub li_size : 4 ≡ entry_size LI
unfolding entry_size
li_size = refl
