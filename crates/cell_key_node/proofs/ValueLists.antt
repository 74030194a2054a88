-- The value list: one law for each way in which it is answered. Assumes nothing.
use mathlib.Core.Path.{◌≡◌, refl}
use mathlib.Core.List.{List, ◌++◌}
use Prim.Native.Nat.{ℕ, ◌≤◌, ◌<◌}
use native.Mathlib.Omega.{arith}
use lib.ListN.{length, drop}
use lib.IntN.{ℤ}
use Rattle.words.specs.declared.Refusal.{Refusal}
use Rattle.words.specs.Paper.{success, refused, told}
use Rattle.words.specs.declared.Reason.TheVariants.{NoRoom}
use Rattle.words.specs.Buffers.{needing}
use Rattle.words.proofs.Buffers.{room_full, room_fits, room_refused, answered_refused, answered_success}
use Rattle.cell_key_node.specs.ValueList.{nowhere, at, place_of, value_list_of, entry_of, up_to, entries_of, ListAnswered}
use Rattle.cell_key_node.proofs.Fill.{up_length}
use Rattle.std.specs.Prelude.{Ok, Err}

module _ (image : List ℕ) (base count : ℕ) (offset : ℤ) (old : List ℕ) where
  pub no_values : place_of image base count offset ≡ success nowhere → ListAnswered image base count offset old (Ok 0) old
  unfolding value_list_of entries_of
  no_values e = answered_success refl (rw e (room_fits needing (length old) 0 (omega arith))) (rw e)

  pub no_place : (f : Refusal) → place_of image base count offset ≡ refused (told f) → ListAnswered image base count offset old (Err (record { reason = f.reason; position = f.position; places = 0 })) old
  unfolding value_list_of
  no_place f e = answered_refused refl (rw e (room_refused needing (length old) (told f)))

  pub no_room : (p : ℕ) → place_of image base count offset ≡ success (at p) → length old < count → ListAnswered image base count offset old (Err (record { reason = NoRoom; position = 0; places = count })) old
  unfolding value_list_of
  no_room p e l = answered_refused refl (rw e (room_full needing (length old) count l))

  pub listed : (p : ℕ) (new : List ℕ) → place_of image base count offset ≡ success (at p) → count ≤ length old → new ≡ up_to (entry_of (drop p image)) count ++ drop count old → ListAnswered image base count offset old (Ok count) new
  unfolding value_list_of entries_of
  listed p new e l b =
      answered_success refl (rw e (room_fits needing (length old) count l)) (rw (e, up_length (entry_of (drop p image)) count) b)
