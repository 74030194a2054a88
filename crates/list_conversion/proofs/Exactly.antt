-- When a cell is written, exactly. Assumes nothing.
use mathlib.Core.Path.{◌≡◌, refl, sym, ap, subst, ◌∙◌}
use mathlib.Core.List.{List}
use Prim.Native.Nat.{ℕ, ◌+◌, ◌≤◌, ◌<◌}
use lib.ListN.{length, drop}
use Rattle.words.specs.Paper.{Paper, success}
use Rattle.words.specs.Buffers.{needing, in_room}
use Rattle.words.proofs.Papers.{refused-success, same-success, on-success}
use Rattle.words.proofs.Buffers.{room_success, room_fits}
use Rattle.sub_key_list.specs.Lists.{LH, LI, entry_size}
use Rattle.cell_key_node.specs.ValueList.{up_to}
use Rattle.cell_key_node.proofs.Fill.{up_length, up_at}
use Rattle.list_conversion.specs.Cells.{cell_size}
use Rattle.list_conversion.specs.Entries.{offset_in, key_hash, lh_entries, li_entries, lh_entry}
use Rattle.list_conversion.specs.Answers.{conversion_paper, size_of, Converted}
use Rattle.list_conversion.specs.Written.{WasWritten, ExactlyLh, ExactlyLi}
use Rattle.list_conversion.proofs.Entries.{count_known, hashed_up, judged_all, lh-counted, lh_of, li-counted, li_of}
use Rattle.list_conversion.proofs.Written.{found, offset_there}
use Rattle.std.specs.Prelude.{Ok, Err}
use Rattle.std.specs.declared.result.Result.{Result}
use Rattle.words.specs.declared.RoomRefusal.{RoomRefusal}

-- ---- by the entries, which are f 0, f 1, .. before f n

module _ (kind : ℕ) (a : Paper (List ℕ)) (old : List ℕ) (r : (Result ℕ RoomRefusal)) (new : List ℕ) (x : Converted kind a old r new) where
  wrote : WasWritten r → (es : List ℕ) × (a ≡ success es) × (cell_size (entry_size kind) (length es) ≤ length old)
  unfolding size_of
  wrote w =
      let y : Converted kind a old (Ok w.0) new = subst (λ (q : (Result ℕ RoomRefusal)). Converted kind a old q new) w.1 x in
      let e = found kind a old new w.0 y in
      let k = room_success needing (length old) (size_of kind a) w.0 (sym y.answer) in
      let c : cell_size (entry_size kind) (length e.0) ≡ w.0 = same-success (sym (on-success _ e.1) ∙ k.0) in
      (e.0, e.1, rw c k.1)

  writes : (f : ℕ → ℕ) (n : ℕ) → a ≡ success (up_to f n) → cell_size (entry_size kind) n ≤ length old → WasWritten r
  unfolding size_of
  writes f n e h =
      let c : size_of kind a ≡ success (cell_size (entry_size kind) n) = on-success _ e ∙ ap (λ (u : ℕ). success (cell_size (entry_size kind) u)) (up_length f n) in
      go r (x.answer ∙ ap (in_room needing (length old)) c ∙ room_fits needing (length old) (cell_size (entry_size kind) n) h)
    where
      go : (q : (Result ℕ RoomRefusal)) {v : ℕ} → conversion_paper q ≡ success v → WasWritten q
      go (Ok m) e = (m, refl)
      go (Err g) e = absurd (refused-success e)

pub exactly_lh : ExactlyLh
unfolding entry_size
exactly_lh s p image base old r new x = (
  λ w.
      let y = wrote LH (lh_entries s p image base) old r new x w in
      let o = lh_of s p image base y.1 in
      let k : length y.0 ≡ o.count = ap length o.entries ∙ up_length (lh_entry image base (drop p s)) o.count in (
        o.count,
        o.list,
        (λ i l. (_, ap (λ (u : ℕ). key_hash image (u + base)) (sym (offset_there s p 4 i)) ∙ o.hashes i l)),
        rw (← k) y.2,
      ),
  λ w.
      let n : ℕ = w.0 in
      let f : ℕ → ℕ = offset_in (drop p s) 4 in
      let c = count_known LI s p (sym w.1) refl in
      let j = judged_all image base (up_to f n)
      (λ i l.
      let m : i < n = rw (up_length f n) at l in
      let h = w.2 i m in
      (h.0, ap (λ (u : ℕ). key_hash image (u + base)) (up_at f n i m ∙ offset_there s p 4 i) ∙ h.1)) in
      writes LH (lh_entries s p image base) old r new x (lh_entry image base (drop p s)) n (lh-counted s p image base (sym c) ∙ hashed_up image base f n j) w.3,
)

pub exactly_li : ExactlyLi
unfolding entry_size
exactly_li s p old r new x = (
  λ w.
      let y = wrote LI (li_entries s p) old r new x w in
      let o = li_of s p y.1 in
      let k : length y.0 ≡ o.count = ap length o.entries ∙ up_length (offset_in (drop p s) 8) o.count in
      (o.count, o.list, rw (← k) y.2),
  λ w.
      let c = count_known LH s p (sym w.1) refl in
      writes LI (li_entries s p) old r new x (offset_in (drop p s) 8) w.0 (li-counted s p (sym c)) w.2,
)
