-- The promises fix the answer and the buffer. Assumes nothing.
use mathlib.Core.Path.{◌≡◌}
use mathlib.Core.List.{List}
use Prim.Native.Nat.{ℕ}
use Rattle.words.specs.Paper.{Paper}
use Rattle.words.proofs.Papers.{paper_injective, same_room_refusal}
use Rattle.words.proofs.Buffers.{determined}
use Rattle.list_conversion.specs.Answers.{conversion_paper, Converted, LhAnswered, LiAnswered}
use Rattle.list_conversion.specs.Entries.{lh_entries, li_entries}
use Rattle.sub_key_list.specs.Lists.{LH, LI}
use Rattle.std.specs.declared.result.Result.{Result}
use Rattle.words.specs.declared.RoomRefusal.{RoomRefusal}

pub conversion_injective : (r t : Result ℕ RoomRefusal) → conversion_paper r ≡ conversion_paper t → r ≡ t
conversion_injective = paper_injective (λ v w e. e) same_room_refusal

conversion_determined : (kind : ℕ) (a : Paper (List ℕ)) (old : List ℕ) (r t : Result ℕ RoomRefusal) (new new' : List ℕ)
    → Converted kind a old r new → Converted kind a old t new' → (r ≡ t) × (new ≡ new')
conversion_determined kind a old r t new new' x y =
    let z = determined x y in
    (conversion_injective r t z.0, z.1)

pub lh_determined :
    (s : List ℕ) (p : ℕ) (image : List ℕ) (base : ℕ) (old : List ℕ) (r t : Result ℕ RoomRefusal) (new new' : List ℕ)
    → LhAnswered s p image base old r new → LhAnswered s p image base old t new' → (r ≡ t) × (new ≡ new')
lh_determined s p image base = conversion_determined LH (lh_entries s p image base)

pub li_determined :
    (s : List ℕ) (p : ℕ) (old : List ℕ) (r t : Result ℕ RoomRefusal) (new new' : List ℕ)
    → LiAnswered s p old r new → LiAnswered s p old t new' → (r ≡ t) × (new ≡ new')
li_determined s p = conversion_determined LI (li_entries s p)
