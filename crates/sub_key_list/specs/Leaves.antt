-- What one leaf list gives, over the size of its entries, from document 01, "The subkey walk".
use Rattle.std.specs.Prelude.{ℕ, zero, suc, ◌+◌, List, [], ◌∷◌, cond, ltb}
use Rattle.words.specs.Words.{word32}
use Rattle.words.specs.Refusals.{BAD_SIGN}
use Rattle.words.specs.Paper.{Paper, success, refused, by}
use Rattle.sub_key_list.specs.Lists.{Listed, leaf, index, list_at}

-- "A leaf entry whose offset plus base is 4,294,967,296 or more is dropped; others are kept as that sum."
unfoldable pub keep : ℕ → List ℕ → List ℕ
keep v ks = cond (ltb v 4294967296) (v ∷ ks) ks

-- the offsets kept of `left` entries of `size` bytes each, the first at `pos`
unfoldable pub leaf_kept : List ℕ → ℕ → ℕ → ℕ → ℕ → List ℕ
leaf_kept s base size zero pos = []
leaf_kept s base size (suc left) pos = keep (word32 s pos + base) (leaf_kept s base size left (pos + size))

-- document 02, order 2: "the number dropped .. is defined by its own count over the entries": 1 for an entry that is dropped
unfoldable pub drop_one : ℕ → ℕ
drop_one v = cond (ltb v 4294967296) 0 1

-- and of `left` entries of `size` bytes each, the first at `pos`
unfoldable pub leaf_dropped : List ℕ → ℕ → ℕ → ℕ → ℕ → ℕ
leaf_dropped s base size zero pos = 0
leaf_dropped s base size (suc left) pos = drop_one (word32 s pos + base) + leaf_dropped s base size left (pos + size)

-- a leaf list that is read: the bytes an entry, "leaf entries, dropped ones included", the "offsets kept", and "the number dropped"
pub record Leaf : Type 0 where
  pub size : ℕ
  pub entries : ℕ
  pub kept : List ℕ
  pub dropped : ℕ

-- the leaf list at `p` with so many bytes an entry and so many entries: "entries at 8"
abbrev pub leaf_of : List ℕ → ℕ → ℕ → ℕ → ℕ → Leaf
leaf_of s base p size n =
    record { size = size; entries = n; kept = leaf_kept s base size n (p + 8); dropped = leaf_dropped s base size n (p + 8) }

-- the leaf list at a position: the refusals of one list, then BAD SIGN, at its position, for an `ri` list
unfoldable pub only_leaf : List ℕ → ℕ → ℕ → Paper Listed → Paper Leaf
only_leaf s base p (success (leaf kind size n)) = success (leaf_of s base p size n)
only_leaf s base p (success (index n)) = refused (by BAD_SIGN p)
only_leaf s base p (refused t) = refused t

abbrev pub leaf_at : List ℕ → ℕ → ℕ → Paper Leaf
leaf_at s base p = only_leaf s base p (list_at s p)
