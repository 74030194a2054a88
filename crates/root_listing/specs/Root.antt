-- The root's key record. Document 01: offsets count from where the bins begin, which in a hive is 4,096, and the base block tells the root's.
use Rattle.std.specs.Prelude.{ℕ, ◌+◌, List, ℤ, pos, negsuc}
use Rattle.words.specs.Refusals.{OUTSIDE}
use Rattle.words.specs.Paper.{Paper, refused, by}
use Rattle.cell_key_node.specs.declared.KeyNode.{KeyNode}
use Rattle.cell_key_node.specs.Key.{key_at}

-- the key record that stands so far behind the base, with that base; of an offset before it, OUTSIDE at 0
abbrev pub root_at : List ℕ → ℤ → Paper KeyNode
root_at image (pos n) = key_at image (n + 4096) 4096
root_at image (negsuc n) = refused (by OUTSIDE 0)
