use mathlib.Core.Path.{ap, ◌∙◌, ◌≡◌}
use mathlib.Core.Bool.{Bool, false}
use Rattle.std.specs.Prelude.{Ok, Err, MatchResult}
use Rattle.std.specs.declared.result.Result.{Result}
use Rattle.cell_key_node.specs.Key.{key_paper}
use Rattle.cell_key_node.specs.declared.KeyNode.{KeyNode}
use Rattle.words.specs.declared.Refusal.{Refusal}
use Rattle.key_in_place.specs.Place.{is_this, is_in_place}
use Rattle.key_in_place.proofs.Place.{derived, derived_same}
use Rattle.std.proofs.Common.{rules}
use Rattle.key_in_place.proofs.is_in_place.Goals as goal

of_match : (key : KeyNode) (F : KeyNode → Type 0) (r : Result KeyNode Refusal) (b : Bool) → ((x : KeyNode) → F x → b ≡ derived x key) → MatchResult r F (λ x. b ≡ false) → b ≡ is_this key (key_paper r)
unfolding is_this
of_match key F (Ok k) b f e = f k e ∙ derived_same k key
of_match key F (Err g) b f e = e

pub returns : goal.returns
unfolding is_in_place derived
returns c = of_match _ _ _ _ (λ x k. search rules) c.is_ok_and.ensures ∙ ap (is_this c.args.key) c.read_key_node.ensures
