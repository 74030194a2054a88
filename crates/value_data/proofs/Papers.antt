-- The promise fixes the answer and the buffer. Assumes nothing.
use mathlib.Core.Path.{◌≡◌}
use mathlib.Core.List.{List}
use Prim.Native.Nat.{ℕ}
use Rattle.words.proofs.Papers.{paper_injective, same_room_refusal}
use Rattle.words.proofs.Buffers.{determined}
use Rattle.value_data.specs.Answers.{data_paper, DataAnswered}
use Rattle.std.specs.declared.result.Result.{Result}
use Rattle.words.specs.declared.RoomRefusal.{RoomRefusal}

pub data_injective : (r t : Result ℕ RoomRefusal) → data_paper r ≡ data_paper t → r ≡ t
data_injective = paper_injective (λ n m e. e) same_room_refusal

pub data_determined :
    (image : List ℕ) (base minor raw offset : ℕ) (old : List ℕ) (r t : Result ℕ RoomRefusal) (new new' : List ℕ)
    → DataAnswered image base minor raw offset old r new → DataAnswered image base minor raw offset old t new' → (r ≡ t) × (new ≡ new')
data_determined image base minor raw offset old r t new new' x y =
    let z = determined x y in
    (data_injective r t z.0, z.1)
