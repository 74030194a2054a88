-- Two answers that say the same by document 02 are the same answer. Assumes nothing.
use Prim.Native.Nat.{ℕ}
use mathlib.Core.Path.{◌≡◌}
use mathlib.Core.List.{List}
use Rattle.words.proofs.Papers.{paper_injective, same_room_refusal}
use Rattle.words.proofs.Buffers.{determined}
use Rattle.deleted_keys.specs.Deleted.{deleted_paper, DeletedAnswered}
use Rattle.std.specs.declared.result.Result.{Result}
use Rattle.words.specs.declared.RoomRefusal.{RoomRefusal}

pub deleted_injective : (a b : Result ℕ RoomRefusal) → deleted_paper a ≡ deleted_paper b → a ≡ b
deleted_injective = paper_injective (λ v w e. e) same_room_refusal

pub deleted_determined :
    (image : List ℕ) (base size : ℕ) (old : List ℕ) (r t : Result ℕ RoomRefusal) (new new' : List ℕ)
    → DeletedAnswered image base size old r new → DeletedAnswered image base size old t new' → (r ≡ t) × (new ≡ new')
deleted_determined image base size old r t new new' x y = let z = determined x y in (deleted_injective r t z.0, z.1)
