-- What specs/Demands.antt says, of every image and record. Assumes nothing.
use mathlib.Core.Path.{◌≡◌, refl, ap, sym, ◌∙◌}
use mathlib.Core.Logic.{◌↔◌}
use mathlib.Core.List.{List}
use Prim.Native.Nat.{ℕ}
use Rattle.words.specs.Refusals.{OTHER_PLACE}
use Rattle.words.specs.Paper.{Paper, success, by}
use Rattle.words.specs.Buffers.{buffer_after, Answered}
use Rattle.words.proofs.Every.{Every}
use Rattle.words.proofs.Buffers.{untouched}
use Rattle.sub_key_walk.proofs.Demand.{demand_3}
use Rattle.cell_key_node.specs.Key.{key_at, key_paper}
use Rattle.cell_key_node.specs.declared.KeyNode.{KeyNode}
use Rattle.cell_key_node.proofs.Keys.{key_stands}
use Rattle.key_in_place.specs.Place.{ReadsAs, behind}
use Rattle.key_in_place.specs.Demands.{Passes, Demands, Refuses, Untouched, Refused21}
use Rattle.key_in_place.proofs.Place.{in_place}
use Rattle.key_in_place.proofs.Behind.{here, elsewhere, not_here}
use Rattle.key_in_place.proofs.Never.{Other, measured_never, answer_never, strict_never, strict_answer_never, values_never, lookup_never}
use Rattle.key_in_place.proofs.Same.{reads_same}
use Rattle.std.specs.Prelude.{Ok}
use Rattle.std.specs.declared.result.Result.{Result}
use Rattle.words.specs.declared.Refusal.{Refusal}

-- ---- the check

pub passes : (image : List ℕ) (p base : ℕ) (r : (Result KeyNode Refusal)) → key_paper r ≡ key_at image p base → (key : KeyNode) → r ≡ Ok key → Passes image p base key
passes image p base r x key q = record {
  there = λ b e. e ∙ (in_place image key).1 (stands image reads);
  other = λ image' b e. ((λ t. back image' ((in_place image' key).0 (sym e ∙ t))), (λ t. e ∙ (in_place image' key).1 (stands image' t)));
  same = λ image' b e f h. e ∙ (in_place image' key).1 (stands image' (reads_same image image' p base key reads f h));
}
  where
    reads : key_at image p base ≡ success key
    reads = sym x ∙ ap key_paper q

    place : (key.position ≡ p) × (key.base ≡ base)
    place = key_stands image p base reads

    at_place : (s : List ℕ) → key_at s key.position key.base ≡ key_at s p base
    at_place s = ap (λ (n : ℕ). key_at s n key.base) place.0 ∙ ap (key_at s p) place.1

    stands : (s : List ℕ) → key_at s p base ≡ success key → ReadsAs s key
    stands s e = at_place s ∙ e

    back : (s : List ℕ) → ReadsAs s key → key_at s p base ≡ success key
    back s e = sym (at_place s) ∙ e

-- ---- a record that passes

module _ (s : List ℕ) (key : KeyNode) (reads : ReadsAs s key) where
  only_right : {A : Type 0} {said : Paper A} (right : Paper A) → said ≡ behind s key right → said ≡ right
  only_right right x = x ∙ here s key right ((in_place s key).1 reads)

  only_answered : {A B : Type 0} {said right : Paper A} {ks old new : List B} → Answered said (behind s key right) ks old new → Answered said right ks old new
  only_answered {A} {right = right} {ks = ks} {old = old} x = record {
    answer = only_right right x.answer;
    buffer = x.buffer ∙ ap (λ (a : Paper A). buffer_after a ks old) (here s key right ((in_place s key).1 reads));
  }

  pub demands : Demands s key
  demands = record {
    walk = λ budget old new r x. only_answered x;
    counts = λ budget r x. only_right _ x;
    strict_walk = λ budget minor old new r x. only_answered x;
    strict_counts = λ budget minor r x. only_right _ x;
    values = λ old new r x. only_answered x;
    found = λ name r x. only_right _ x;
    demand_3 = λ budget old new r x some few small.
        demand_3 s key.base key.number_of_sub_keys key.sub_keys_list_offset_relative budget old r new (only_answered x) some few small;
  }

-- ---- one that does not, and 21 for no other

module _ (s : List ℕ) (key : KeyNode) where
  refuses : {A : Type 0} {said : Paper A} (right : Paper A) → said ≡ behind s key right → (ReadsAs s key → ⊥) → Refuses said
  refuses right x n = x ∙ elsewhere s key right (not_here s key n)

  refuses_no_other : {A : Type 0} {said : Paper A} (right : Paper A) → Every Other right → said ≡ behind s key right → Refuses said → ReadsAs s key → ⊥
  refuses_no_other right never x f reads = never (by OTHER_PLACE 0) (sym (only_right s key reads right x) ∙ f) refl

  exactly_refuses : {A : Type 0} {said : Paper A} (right : Paper A) → Every Other right → said ≡ behind s key right → (ReadsAs s key → ⊥) ↔ Refuses said
  exactly_refuses right never x = (refuses right x, refuses_no_other right never x)

  exactly_untouched : {A : Type 0} {said : Paper A} (right : Paper A) {ks old new : List ℕ} → Every Other right → Answered said (behind s key right) ks old new
      → (ReadsAs s key → ⊥) ↔ Untouched said old new
  exactly_untouched right never x =
      ((λ n. (refuses right x.answer n, untouched x (refuses right x.answer n))), (λ f. refuses_no_other right never x.answer f.0))

  pub refused_21 : Refused21 s key
  refused_21 =
      let n = key.number_of_sub_keys in
      let l = key.sub_keys_list_offset_relative in
      let m = key.number_of_key_values in
      let o = key.key_values_list_offset_relative in
      record {
        walk = λ budget old new r x. exactly_untouched _ (answer_never s key.base n l budget _) x;
        counts = λ budget r x. exactly_refuses _ (measured_never s key.base n l budget) x;
        strict_walk = λ budget minor old new r x. exactly_untouched _ (strict_answer_never s key.base n l budget minor _) x;
        strict_counts = λ budget minor r x. exactly_refuses _ (strict_never s key.base n l budget minor) x;
        values = λ old new r x. exactly_untouched _ (values_never s key.base m o _) x;
        found = λ name r x. exactly_refuses _ (lookup_never s key.base m o name) x;
      }
