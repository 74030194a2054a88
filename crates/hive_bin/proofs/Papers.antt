-- Two answers that say the same by document 01 are the same answer. Assumes nothing.
use mathlib.Core.Path.{◌≡◌, refl, sym, ap}
use Rattle.words.proofs.Papers.{same-refusal, paper_injective}
use Rattle.hive_bin.specs.declared.CellStep.{CellStep}
use Rattle.hive_bin.specs.Answers.{bins_paper}
use Rattle.hive_bin.specs.Steps.{cell, found_in, stepped, step_paper}
use Rattle.hive_bin.proofs.Steps.{cell-end, same-cell}
use Rattle.std.specs.declared.result.Result.{Result}
use Rattle.hive_bin.specs.declared.BinTotals.{BinTotals}
use Rattle.words.specs.declared.Refusal.{Refusal}
use Rattle.std.specs.declared.option.Option.{Option}
use Rattle.std.specs.declared.option.Option.TheVariants.{Some, None}

same_step : (c d : CellStep) → cell (found_in c) c.next ≡ cell (found_in d) d.next → c ≡ d
same_step c d e =
    let f = same-cell e in
    λ i. record { place = (f.0 i).place; size = (f.0 i).size; next = f.1 i }

same_stepped : (c d : Option CellStep) → stepped c ≡ stepped d → c ≡ d
same_stepped (Some c) (Some d) e = ap Some (same_step c d e)
same_stepped (Some c) None e = absurd (cell-end e)
same_stepped None (Some d) e = absurd (cell-end (sym e))
same_stepped None None e = refl

pub bins_injective : (a b : Result BinTotals Refusal) → bins_paper a ≡ bins_paper b → a ≡ b
bins_injective = paper_injective (λ t u e. e) same-refusal

pub step_injective : (a b : Result (Option CellStep) Refusal) → step_paper a ≡ step_paper b → a ≡ b
step_injective = paper_injective same_stepped same-refusal
