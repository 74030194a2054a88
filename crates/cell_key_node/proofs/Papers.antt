-- The promises fix the answers: two answers that say the same are the same. Assumes nothing.
use mathlib.Core.Path.{◌≡◌, refl, sym, ap}
use Prim.Native.Nat.{ℕ}
use native.Mathlib.Omega.{arith}
use Rattle.words.proofs.Papers.{paper_injective, same-refusal, same_room_refusal}
use Rattle.cell_key_node.specs.Key.{key_paper}
use Rattle.cell_key_node.specs.ValueList.{nowhere, at, placed, place_paper, value_list_paper}
use Rattle.std.specs.declared.result.Result.{Result}
use Rattle.cell_key_node.specs.declared.KeyNode.{KeyNode}
use Rattle.words.specs.declared.Refusal.{Refusal}
use Rattle.std.specs.declared.option.Option.{Option}
use Rattle.words.specs.declared.RoomRefusal.{RoomRefusal}
use Rattle.std.specs.declared.option.Option.TheVariants.{Some, None}

pub key_injective : (r t : Result KeyNode Refusal) → key_paper r ≡ key_paper t → r ≡ t
key_injective = paper_injective (λ k l e. e) same-refusal

same_at : {p q : ℕ} → at p ≡ at q → p ≡ q
same_at e = cc

nowhere-at : {p : ℕ} → nowhere ≡ at p → ⊥
nowhere-at e = let z : ◌≡◌ {A = ℕ} 0 1 = cc in absurd (omega arith)

same_place : (p q : Option ℕ) → placed p ≡ placed q → p ≡ q
same_place None None e = refl
same_place None (Some q) e = absurd (nowhere-at e)
same_place (Some p) None e = absurd (nowhere-at (sym e))
same_place (Some p) (Some q) e = ap Some (same_at e)

pub place_injective : (r t : Result (Option ℕ) Refusal) → place_paper r ≡ place_paper t → r ≡ t
place_injective = paper_injective same_place same-refusal

pub list_injective : (r t : Result ℕ RoomRefusal) → value_list_paper r ≡ value_list_paper t → r ≡ t
list_injective = paper_injective (λ n m e. e) same_room_refusal
