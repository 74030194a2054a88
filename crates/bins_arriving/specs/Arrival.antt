-- Document 02, order 6: what holds of any row of parts. It is said of any answers that the promises of `begin`, `take_part` and `finish`
-- allow, each handed to the next call. proofs/Arrives.antt proves it of every base and every bins size of 32 bits, as `arrival`.
use Rattle.bins_arriving.specs.Arriving.{numbered, arriving_paper}
use Rattle.std.specs.Prelude.{ℕ, ◌+◌, ◌-◌, ◌≤◌, ◌<◌, ◌≡◌, List, [], ◌∷◌, ◌++◌, cond, length, take, drop, ltb, eqb}
use Rattle.words.specs.Refusals.{BAD_CELL, PAST_END, CUT_SHORT}
use Rattle.words.specs.Paper.{Told, refused}
use Rattle.bins_arriving.specs.declared.Numbered.{Numbered}
use Rattle.hive_bin.specs.declared.BinTotals.{BinTotals}
use Rattle.hive_bin.specs.Totals.{bins_of}
use Rattle.bins_arriving.specs.declared.BinsSoFar.{BinsSoFar}
use Rattle.bins_arriving.specs.Arriving.{begun, part_taken, ended}
use Rattle.std.specs.Prelude.{Ok, Err}
use Rattle.std.specs.declared.result.Result.{Result}

-- "consecutive parts", joined
abbrev pub joined : List (List ℕ) → List ℕ
joined [] = []
joined (p ∷ ps) = p ++ joined ps

-- r is what calls of `take_part` answer to a row of parts, from s on
abbrev pub After : BinsSoFar → List (List ℕ) → BinsSoFar → Type 0
After s [] r = r ≡ s
After s (p ∷ ps) r = (q : BinsSoFar) × (q ≡ part_taken s p) × After q ps r

-- and from what `begin` answers on
abbrev pub Arrived : ℕ → ℕ → List (List ℕ) → BinsSoFar → Type 0
Arrived base size ps s = (b : BinsSoFar) × (b ≡ begun base size) × After b ps s

-- and a is what `finish` answers to it
abbrev pub Ends : BinsSoFar → Result BinTotals Numbered → Type 0
Ends s a = arriving_paper a ≡ ended s

-- "a complete hive with these bytes": an image that holds the bins whole, and has the bytes at the base
abbrev pub Complete : List ℕ → ℕ → ℕ → Type 0
Complete image base size = base + size ≤ length image

abbrev pub Has : List ℕ → ℕ → List ℕ → Type 0
Has image base xs = take (length xs) (drop base image) ≡ xs

-- "A bin is judged once its 32 header bytes are in, a cell once its 4, a rest too short for a header with the part that ends the bin
-- before it or with the first part": how many bytes must be in before a refusal at a place of bins of a size is given
abbrev pub due_at : ℕ → ℕ → ℕ → ℕ
due_at size number place = cond (eqb number BAD_CELL) (place + 4) (cond (ltb (size - place) 32) place (place + 32))

abbrev pub refusal : ℕ → ℕ → Numbered
refusal r p = record { number = r; position = p }

pub record Holds (base size : ℕ) : Type 0 where
  -- the joined bytes decide, and not where they are cut: rows of one part or more
  pub joins : (p q : List ℕ) (ps qs : List (List ℕ)) (r s : BinsSoFar) → Arrived base size (p ∷ ps) r → Arrived base size (q ∷ qs) s
      → joined (p ∷ ps) ≡ joined (q ∷ qs) → length (joined (p ∷ ps)) ≤ size → r ≡ s
  -- "Where the joined bytes number exactly the bins size .. the answer is the one that the whole check gives"
  pub whole : (ps : List (List ℕ)) (s : BinsSoFar) (a : Result BinTotals Numbered) → Arrived base size ps s → Ends s a → length (joined ps) ≡ size
      → (image : List ℕ) → Complete image base size → Has image base (joined ps) → arriving_paper a ≡ bins_of image base size
  -- "or a bin or cell refusal comes before that": however the hive is completed
  pub early : (ps : List (List ℕ)) (s : BinsSoFar) (f : Numbered) → Arrived base size ps s → s.answer ≡ Err f → length (joined ps) ≤ size
      → (image : List ℕ) → Complete image base size → Has image base (joined ps) → bins_of image base size ≡ refused (numbered f)
  -- it comes with the byte that makes it due, and not before
  pub timely : (p : List ℕ) (ps : List (List ℕ)) (s : BinsSoFar) → Arrived base size (p ∷ ps) s → length (joined (p ∷ ps)) ≤ size
      → (image : List ℕ) → Complete image base size → Has image base (joined (p ∷ ps)) → (u : Told) → bins_of image base size ≡ refused u
      → (due_at size u.number (u.position - base) ≤ length (joined (p ∷ ps)) → arriving_paper s.answer ≡ refused u)
      × (length (joined (p ∷ ps)) < due_at size u.number (u.position - base) → (t : BinTotals) × (s.answer ≡ Ok t))
  -- "After a refusal every later part gives the same refusal", and so does the end; whatever the record is
  pub kept : (s r : BinsSoFar) (f : Numbered) (ps : List (List ℕ)) → s.answer ≡ Err f → After s ps r → (r ≡ s)
      × ((a : Result BinTotals Numbered) → Ends r a → a ≡ Err f)
  -- where nothing is refused, as many bytes were taken as have come, and no more than the bins have
  pub counted : (ps : List (List ℕ)) (s : BinsSoFar) (t : BinTotals) → Arrived base size ps s → s.answer ≡ Ok t
      → (s.taken ≡ length (joined ps)) × (length (joined ps) ≤ size)
  -- "18 PAST END, where a part exceeds what remains", and nowhere else
  pub past : (ps : List (List ℕ)) (s r : BinsSoFar) (t : BinTotals) → Arrived base size ps s → s.answer ≡ Ok t
      → (p : List ℕ) → r ≡ part_taken s p
      → (size < length (joined ps) + length p → r.answer ≡ Err (refusal PAST_END 0))
      × ((f : Numbered) → r.answer ≡ Err f → f.number ≡ PAST_END → size < length (joined ps) + length p)
  -- "8 is given only when the end is declared early", and nothing was refused before
  pub cut_short : (ps : List (List ℕ)) (s : BinsSoFar) (a : Result BinTotals Numbered) → Arrived base size ps s → Ends s a
      → ((t : BinTotals) → s.answer ≡ Ok t → length (joined ps) < size → a ≡ Err (refusal CUT_SHORT base))
      × ((f : Numbered) → a ≡ Err f → f.number ≡ CUT_SHORT → (t : BinTotals) × (s.answer ≡ Ok t) × (length (joined ps) < size))
  -- totals are given for exactly the bins size
  pub full : (ps : List (List ℕ)) (s : BinsSoFar) (t : BinTotals) → Arrived base size ps s → Ends s (Ok t) → length (joined ps) ≡ size
