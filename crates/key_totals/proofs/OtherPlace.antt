-- A call is refused by OTHER PLACE exactly where its key record does not read as itself in the image. Assumes nothing.
use Rattle.std.proofs.Common.{◌≡◌, ℕ, Bool, true, false, cond, ltb, leb, ◌↔◌, List, sym, refl, ap, ◌∙◌, arith}
use Rattle.words.specs.Refusals.{NOT_FOUND, ALREADY_IN, OTHER_PLACE}
use Rattle.words.specs.Paper.{Paper, success, refused, by}
use Rattle.words.proofs.Every.{Every, every_success, every_refused}
use Rattle.sub_key_walk.specs.declared.Counts.{Counts}
use Rattle.cell_key_node.specs.declared.KeyNode.{KeyNode}
use Rattle.key_in_place.specs.Place.{ReadsAs}
use Rattle.key_in_place.proofs.Place.{in_place}
use Rattle.key_in_place.proofs.Behind.{not_here}
use Rattle.key_in_place.proofs.Never.{Other, measured_never}
use Rattle.key_totals.specs.declared.Totals.{Totals}
use Rattle.key_totals.specs.declared.Changed.{Changed}
use Rattle.key_totals.specs.Table.{PLACES, free, Outcome, outcome, refusing, keeping, full, place_of, free_of, number_in, laid, only_here, walked, add_walked, add_here, add_of, replace_walked, replace_here, replace_of, remove_of, kept_paper}
use Rattle.key_totals.specs.Rows.{Call, add, replace, remove, Answers, Elsewhere}

module _ (s : List ℕ) (t : Totals) where
  walked_never : (key : KeyNode) (budget : ℕ) → Every Other (walked s key budget)
  walked_never key budget = measured_never s key.base key.number_of_sub_keys key.sub_keys_list_offset_relative budget

  -- behind the check no call is refused by it
  add_never : (key : KeyNode) (budget : ℕ) → Every Other (add_here t s key budget).answer
  unfolding add_here
  add_never key budget = go (ltb (place_of t key.position) PLACES) (walked s key budget) (walked_never key budget)
    where
      kept : (c : Bool) (st : Counts) → Every Other (cond c (refusing t full) (keeping t (free_of t) key.position st.kept)).answer
      kept true st = every_refused Other (λ m. omega arith)
      kept false st = every_success Other _

      go : (b : Bool) (w : Paper Counts) → Every Other w → Every Other (cond b (refusing t (by ALREADY_IN 0)) (add_walked t key.position w)).answer
      go true w q = every_refused Other (λ m. omega arith)
      go false (refused u) q = every_refused Other (q u refl)
      go false (success st) q = kept (leb PLACES (free_of t)) st

  replace_never : (key : KeyNode) (budget : ℕ) → Every Other (replace_here t s key budget).answer
  unfolding replace_here
  replace_never key budget = go (leb PLACES (place_of t key.position)) (walked s key budget) (walked_never key budget)
    where
      go : (b : Bool) (w : Paper Counts) → Every Other w → Every Other (cond b (refusing t (by NOT_FOUND 0)) (replace_walked t key.position w)).answer
      go true w q = every_refused Other (λ m. omega arith)
      go false (refused u) q = every_refused Other (q u refl)
      go false (success st) q = every_success Other _

  remove_never : (p : ℕ) → Every Other (remove_of t p).answer
  unfolding remove_of
  remove_never p = go (leb PLACES (place_of t p))
    where
      go : (b : Bool) → Every Other (cond b (refusing t (by NOT_FOUND 0)) (outcome (laid t (place_of t p) free) (success (number_in t p)))).answer
      go true = every_refused Other (λ m. omega arith)
      go false = every_success Other _

  -- an answer that is the check's, and behind it `o`'s
  exactly : (key : KeyNode) (o : Outcome) → Every Other o.answer → {a : Paper ℕ} → a ≡ (only_here t s key o).answer
      → (ReadsAs s key → ⊥) ↔ (a ≡ refused (by OTHER_PLACE 0))
  exactly key o never e = (
    λ n. e ∙ ap (λ (b : Bool). (cond b o (refusing t (by OTHER_PLACE 0))).answer) (not_here s key n),
    λ f r. never (by OTHER_PLACE 0)
        (sym (ap (λ (b : Bool). (cond b o (refusing t (by OTHER_PLACE 0))).answer) ((in_place s key).1 r)) ∙ sym e ∙ f) refl,
  )

  pub other_place : (c : Call) (r : Changed) → Answers s t c r → Elsewhere s c ↔ (kept_paper r.answer ≡ refused (by OTHER_PLACE 0))
  unfolding add_of replace_of
  other_place (add key budget) r a = exactly key (add_here t s key budget) (add_never key budget) (ap (λ (o : Outcome). o.answer) a)
  other_place (replace key budget) r a = exactly key (replace_here t s key budget) (replace_never key budget) (ap (λ (o : Outcome). o.answer) a)
  other_place (remove p) r a =
      ((λ n. absurd n), (λ f. remove_never p (by OTHER_PLACE 0) (sym (ap (λ (o : Outcome). o.answer) a) ∙ f) refl))
