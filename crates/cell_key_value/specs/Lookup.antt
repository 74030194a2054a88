-- Document 01, "Value lists and lookup": the lookup by name.
use Rattle.std.specs.Prelude.{ℕ, ◌+◌, List, [], ◌∷◌, cond, ℤ}
use Rattle.words.specs.Paper.{Paper, success, refused, by, told, paper_of, and_then}
use Rattle.words.specs.Refusals.{NOT_FOUND}
use Rattle.words.specs.declared.Refusal.{Refusal}
use Rattle.cell_key_node.specs.ValueList.{place_of, entries_of}
use Rattle.cell_key_value.specs.Value.{value_at, value_name}
use Rattle.cell_key_value.specs.Text.{matches_of}
use Rattle.cell_key_value.specs.declared.KeyValue.{KeyValue}
use Rattle.cell_key_value.specs.declared.FoundValue.{FoundValue}
use Rattle.std.specs.declared.result.Result.{Result}

-- "The first match or the first unreadable record decides; the latter gives its refusal. A match gives the record and its
-- position": what the record at position p says, and what the records after it say
abbrev pub decided : List ℕ → List ℕ → ℕ → Paper KeyValue → Paper FoundValue → Paper FoundValue
decided image name p (success v) rest =
    cond (matches_of v.flags_raw (value_name image p) name) (success (record { value = v; position = p })) rest
decided image name p (refused t) rest = refused t

-- "Lookup by name goes through the list in order": the list's entries, each relative to the base
-- "16 NOT FOUND value lookup: every record reads and none matches"
unfoldable pub look_through : List ℕ → ℕ → List ℕ → List ℕ → Paper FoundValue
look_through image base name [] = refused (by NOT_FOUND 0)
look_through image base name (e ∷ es) = decided image name (e + base) (value_at image (e + base)) (look_through image base name es)

-- "the list's refusals without 9 come first". "Count 0 is NOT FOUND": there is no list, and no entry to go through.
unfoldable pub lookup_of : List ℕ → ℕ → ℕ → ℤ → List ℕ → Paper FoundValue
lookup_of image base count offset name =
    and_then (place_of image base count offset)
    (look_through image base name (entries_of image base count offset))

-- what the code's answer says
abbrev pub lookup_paper : Result FoundValue Refusal → Paper FoundValue
lookup_paper = paper_of (λ v. v) told
