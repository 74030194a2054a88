-- What is said of an answer tells the answers apart. Assumes nothing.
use Rattle.std.proofs.Common.{◌≡◌, ℕ, List, sym, ap, ◌∙◌}
use Rattle.words.proofs.Papers.{paper_injective}
use Rattle.sub_key_walk.proofs.Papers.{same-fault}
use Rattle.key_totals.specs.declared.Totals.{Totals}
use Rattle.key_totals.specs.declared.Changed.{Changed}
use Rattle.key_totals.specs.Table.{Outcome, kept_paper, changed_paper}
use Rattle.key_totals.specs.Rows.{Call, Answers}
use Rattle.std.specs.declared.result.Result.{Result}
use Rattle.sub_key_walk.specs.declared.WalkRefusal.{WalkRefusal}

pub kept_injective : (a b : Result ℕ WalkRefusal) → kept_paper a ≡ kept_paper b → a ≡ b
kept_injective = paper_injective (λ v w e. e) same-fault

pub changed_injective : (a b : Changed) → changed_paper a ≡ changed_paper b → a ≡ b
changed_injective a b e =
    let q = kept_injective a.answer b.answer (ap (λ (o : Outcome). o.answer) e) in
    λ i. record { table = (e i).table; answer = q i }

-- two answers that are allowed for one call are equal, the tables too
pub calls_determined : (s : List ℕ) (t : Totals) (c : Call) (a b : Changed) → Answers s t c a → Answers s t c b → a ≡ b
calls_determined s t c a b x y = changed_injective a b (x ∙ sym y)
