-- No function on plain numbers is refused by OTHER PLACE. Assumes nothing.
use Prim.{tt}
use mathlib.Core.Path.{◌≡◌, refl}
use mathlib.Core.Bool.{Bool, not}
use mathlib.Core.List.{List, [], ◌∷◌}
use Prim.Native.Nat.{ℕ, zero, suc, ◌+◌, ◌*◌, ◌<◌}
use native.Mathlib.Omega.{arith}
use lib.Dec.{ltb, leb, eqb}
use lib.IntN.{ℤ}
use lib.ListN.{length}
use Rattle.words.specs.Words.{above_zero}
use Rattle.words.specs.Refusals.{OTHER_PLACE}
use Rattle.words.specs.Paper.{Told, Paper, success, refused, checked}
use Rattle.words.specs.Buffers.{needing}
use Rattle.words.proofs.Every.{Every, every_success, every_refused, every_cond, every_then, every_room}
use Rattle.sub_key_list.specs.Lists as lists
use Rattle.sub_key_list.specs.Lists.{Listed, kind_at, list_at}
use Rattle.sub_key_list.specs.Strict.{barred, own_cell, list_bytes, strict_checks, strict_at}
use Rattle.sub_key_list.proofs.Cases.{list_every}
use Rattle.sub_key_walk.specs.Trace.{Event, each, below, trace, ordinary, LEVELS}
use Rattle.sub_key_walk.specs.Answers.{COUNT_LIMIT, from_record, measured, full_of, answer_of}
use Rattle.sub_key_walk.specs.Free.{All}
use Rattle.sub_key_walk.specs.Strict.{strict, strict_measured, strict_answer_of}
use Rattle.sub_key_walk.proofs.Refusals.{Sound, record_every}
use Rattle.sub_key_walk.proofs.Traces.{append_all}
use Rattle.cell_key_node.specs.Records.{fault_at}
use Rattle.cell_key_node.specs.ValueList.{Placed, nowhere, at, position_of, place_of, counted, value_list_of, entries_of}
use Rattle.cell_key_node.proofs.Checks.{exactly}
use Rattle.cell_key_value.specs.Value.{value_fault, value_at, value_name}
use Rattle.cell_key_value.specs.Text.{matches_of}
use Rattle.cell_key_value.specs.Lookup.{decided, look_through, lookup_of}
use Rattle.cell_key_value.specs.declared.KeyValue.{KeyValue}
use Rattle.cell_key_value.specs.declared.FoundValue.{FoundValue}

-- a refusal by any other number than one
abbrev pub Not : ℕ → Told → Type 0
Not n t = t.number ≡ n → ⊥

-- than OTHER PLACE
abbrev pub Other : Told → Type 0
Other t = Not OTHER_PLACE t

-- ---- the walk: it is refused by no number that document 02 adds behind 20

module _ (n : ℕ) (above : 20 < n) where
  -- a list, read in the ordinary way and strictly
  list_never : (s : List ℕ) (p : ℕ) → Every (Not n) (list_at s p)
  list_never s p = list_every (Not n) s p (λ m. omega arith) (λ m. omega arith) (λ m. omega arith)

  checks_never : (s : List ℕ) (minor : ℕ) (named : Bool) (p : ℕ) → Every (Not n) (strict_checks s minor named p)
  unfolding strict_checks
  checks_never s minor named p =
      every_cond (Not n) (barred minor named (kind_at s p)) (every_refused (Not n) (λ m. omega arith))
      (every_cond (Not n) (not (own_cell s p (list_bytes s p))) (every_refused (Not n) (λ m. omega arith)) (every_success (Not n) tt))

  strict_list_never : (s : List ℕ) (minor : ℕ) (named : Bool) (p : ℕ) → Every (Not n) (strict_at s minor named p)
  unfolding strict_at
  strict_list_never s minor named p =
      every_then (Not n) (list_at s p) (list_never s p) (every_then (Not n) (strict_checks s minor named p) (checks_never s minor named p) (list_never s p))

  -- the lists that are reached, and what a budget makes of them, whichever way each is read
  module _ (hd : ℕ → ℕ → Paper Listed) (reads : (levels p : ℕ) → Every (Not n) (hd levels p)) (s : List ℕ) (base : ℕ) where
    each_sound : (f : ℕ → List Event) → ((o : ℕ) → All (Sound (Not n)) (f o)) → (k pos : ℕ) → All (Sound (Not n)) (each f s k pos)
    unfolding each All
    each_sound f g zero pos = tt
    each_sound f g (suc k) pos = append_all (Sound (Not n)) (f _) _ (g _) (each_sound f g k (pos + 4))

    below_sound : (f : ℕ → List Event) → ((o : ℕ) → All (Sound (Not n)) (f o)) → (p : ℕ) (h : Paper Listed) → Every (Not n) h
        → All (Sound (Not n)) (below f s base p h)
    unfolding below All
    below_sound f g p (success (lists.leaf k z m)) e = (tt, tt)
    below_sound f g p (success (lists.index m)) e = (tt, each_sound f g m (p + 8))
    below_sound f g p (refused t) e = ((λ l. e t refl), tt)

    trace_sound : (levels o : ℕ) → All (Sound (Not n)) (trace hd levels s base o)
    unfolding trace All
    trace_sound zero o = ((λ l m. omega arith), tt)
    trace_sound (suc k) o = below_sound (trace hd k s base) (trace_sound k) (o + base) (hd (suc k) (o + base)) (reads (suc k) (o + base))

    record_never : (count list budget : ℕ) → Every (Not n) (from_record count budget (trace hd LEVELS s base list))
    record_never count list budget =
        record_every (Not n) (λ p l m. omega arith) (λ m. omega arith) (λ m. omega arith) count budget (trace hd LEVELS s base list) (trace_sound LEVELS list)

  pub walk_never : (s : List ℕ) (base count list budget : ℕ) → Every (Not n) (measured s base count list budget)
  walk_never s base = record_never (ordinary s) (λ levels. list_never s) s base

module _ (s : List ℕ) (base count list budget : ℕ) where
  pub measured_never : Every Other (measured s base count list budget)
  measured_never = walk_never OTHER_PLACE (omega arith) s base count list budget

  pub answer_never : (room : ℕ) → Every Other (answer_of s base count list budget room)
  answer_never room = every_room Other full_of room (measured s base count list budget) (λ v m. omega arith) measured_never

  module _ (minor : ℕ) where
    pub strict_never : Every Other (strict_measured s base count list budget minor)
    strict_never =
        record_never OTHER_PLACE (omega arith) (strict s minor) (λ levels. strict_list_never OTHER_PLACE (omega arith) s minor (ltb levels LEVELS)) s base count list budget

    pub strict_answer_never : (room : ℕ) → Every Other (strict_answer_of s base count list budget minor room)
    strict_answer_never room = every_room Other full_of room (strict_measured s base count list budget minor) (λ v m. omega arith) strict_never

-- ---- the values

module _ (image : List ℕ) (base count : ℕ) (offset : ℤ) where
  place_never : Every Other (place_of image base count offset)
  unfolding place_of
  place_never =
      every_cond Other (eqb count 0) (every_success Other nowhere)
      (every_cond Other (eqb (above_zero offset) 0) (every_refused Other (λ m. omega arith))
      (every_cond Other (leb (length image) (above_zero offset)) (every_refused Other (λ m. omega arith))
      (every_cond Other (ltb COUNT_LIMIT count) (every_refused Other (λ m. omega arith))
      (every_cond Other (ltb (length image) (position_of base offset)) (every_refused Other (λ m. omega arith))
      (every_cond Other (ltb (length image) (position_of base offset + 4 + 4 * count)) (every_refused Other (λ m. omega arith))
      (every_success Other (at (position_of base offset))))))))

  counted_never : (a : Paper Placed) → Every Other a → Every Other (counted count a)
  counted_never (success nowhere) p = every_success Other 0
  counted_never (success (at q)) p = every_success Other count
  counted_never (refused t) p = every_refused Other (p t refl)

  pub values_never : (room : ℕ) → Every Other (value_list_of image base count offset room)
  unfolding value_list_of
  values_never room =
      every_room Other needing room (counted count (place_of image base count offset)) (λ v m. omega arith)
      (counted_never (place_of image base count offset) place_never)

value_never : (image : List ℕ) (p : ℕ) → Every Other (value_at image p)
unfolding value_at value_fault checked
value_never image p =
    every_cond Other (eqb (fault_at image p 24 0x6B76 6) 0) (every_success Other _)
    (every_refused Other (λ m. let l = (exactly image p 24 0x6B76 6).no_other in omega arith))

decided_never : (image name : List ℕ) (p : ℕ) (a : Paper KeyValue) (rest : Paper FoundValue) → Every Other a → Every Other rest → Every Other (decided image name p a rest)
decided_never image name p (success v) rest q r = every_cond Other (matches_of v.flags_raw (value_name image p) name) (every_success Other _) r
decided_never image name p (refused t) rest q r = every_refused Other (q t refl)

look_never : (image : List ℕ) (base : ℕ) (name es : List ℕ) → Every Other (look_through image base name es)
unfolding look_through
look_never image base name [] = every_refused Other (λ m. omega arith)
look_never image base name (e ∷ es) =
    decided_never image name (e + base) (value_at image (e + base)) (look_through image base name es) (value_never image (e + base)) (look_never image base name es)

pub lookup_never : (image : List ℕ) (base count : ℕ) (offset : ℤ) (name : List ℕ) → Every Other (lookup_of image base count offset name)
unfolding lookup_of
lookup_never image base count offset name =
    every_then Other (place_of image base count offset) (place_never image base count offset) (look_never image base name (entries_of image base count offset))
