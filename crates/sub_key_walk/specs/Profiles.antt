-- Document 02, order 9, of the walk: what is proved of the strict profile beside the ordinary reading (proofs/Profiles.antt,
-- proofs/Exactly.antt).
use Rattle.std.specs.Prelude.{ℕ, ◌<◌, ◌≡◌, ◌⊎◌, List, [], ◌∷◌, false}
use Rattle.words.specs.Refusals.{BAD_SIZE, TOO_DEEP, NOT_PERMITTED}
use Rattle.sub_key_list.specs.Profiles.{Met}
use Rattle.sub_key_walk.specs.Trace.{Event, deep, bad, index, leaf, walk_from}
use Rattle.sub_key_walk.specs.Judge.{fault}
use Rattle.sub_key_walk.specs.Answers.{walk_told}
use Rattle.sub_key_walk.specs.Free.{All, Succeeds}
use Rattle.sub_key_walk.specs.declared.Counts.{Counts}
use Rattle.sub_key_walk.specs.declared.WalkRefusal.{WalkRefusal}
use Rattle.sub_key_walk.specs.declared.LeafRead.{LeafRead}
use Rattle.std.specs.Prelude.{Ok, Err}
use Rattle.std.specs.declared.result.Result.{Result}
use Rattle.words.specs.Paper.{number_of}

-- a refusal that the strict profile adds: 20 at position 0, or 3, with the lists read so far
abbrev pub Added : WalkRefusal → Type 0
Added f = (walk_told f ≡ fault NOT_PERMITTED 0 f.lists) ⊎ (walk_told f ≡ fault BAD_SIZE f.position f.lists)

-- Of any answer `r` of the strict walk and any answer `o` of the ordinary one from the same record over the same image, base and budget,
-- both with no regard to room or both with the same room
pub record Walks (budget : ℕ) (r o : (Result Counts WalkRefusal)) : Type 0 where
  -- "What strict accepts, ordinary reading answers identically"
  pub accepts : (t : Counts) → r ≡ Ok t → o ≡ r
  -- strict refuses as the ordinary reading does, or by 20 or 3; by these where the budget is not spent, so that 15 comes before them
  pub refuses : (f : WalkRefusal) → r ≡ Err f → (o ≡ r) ⊎ (Added f × (f.lists < budget))
  -- as no `ri` list names an `ri` list, no list is too deep
  pub never_deep : (f : WalkRefusal) → r ≡ Err f → (number_of f.reason) ≡ TOO_DEEP → ⊥

-- And of the buffers, which held `old` and then hold `new` and `made`
pub record SubKeys (budget : ℕ) (old : List ℕ) (r : (Result Counts WalkRefusal)) (new : List ℕ) (o : (Result Counts WalkRefusal)) (made : List ℕ) : Type 0 where
  pub answers : Walks budget r o
  pub buffer : (t : Counts) → r ≡ Ok t → made ≡ new
  pub untouched : (f : WalkRefusal) → r ≡ Err f → new ≡ old

-- ---- when it succeeds, exactly

-- each list that is reached is read, of a permitted kind and in an allocated cell of its own
abbrev pub Permits : List ℕ → ℕ → Event → Type 0
Permits s minor (deep p) = ⊥
Permits s minor (bad t p) = ⊥
Permits s minor (index p n) = Met s minor false p
Permits s minor (leaf p l) = Met s minor false p

-- "an `ri` list may not name an `ri` list": all but the first list that is reached are leaf lists
abbrev pub IsLeaf : Event → Type 0
IsLeaf (deep p) = ⊥
IsLeaf (bad t p) = ⊥
IsLeaf (index p n) = ⊥
IsLeaf (leaf p l) = Unit {0}

abbrev pub Flat : List Event → Type 0
Flat [] = Unit {0}
Flat (e ∷ es) = All IsLeaf es

-- of the lists that the ordinary walk reaches
pub record Permitted (s : List ℕ) (base list minor : ℕ) : Type 0 where
  pub each : All (Permits s minor) (walk_from s base list)
  pub flat : Flat (walk_from s base list)

-- For a count above 0: the strict walk succeeds exactly where the ordinary one does and all lists that it reaches are permitted
pub record Exactly (s : List ℕ) (base list minor : ℕ) (r o : (Result Counts WalkRefusal)) : Type 0 where
  pub if : Succeeds o → Permitted s base list minor → Succeeds r
  pub only_if : Succeeds r → Succeeds o × Permitted s base list minor

-- ---- the same of one leaf list

pub record LeafSubKeys (old : List ℕ) (r : (Result LeafRead WalkRefusal)) (new : List ℕ) (o : (Result LeafRead WalkRefusal)) (made : List ℕ) : Type 0 where
  pub accepts : (t : LeafRead) → r ≡ Ok t → (o ≡ r) × (made ≡ new)
  pub refuses : (f : WalkRefusal) → r ≡ Err f → (o ≡ r) ⊎ Added f
  pub untouched : (f : WalkRefusal) → r ≡ Err f → new ≡ old
