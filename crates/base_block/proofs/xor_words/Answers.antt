use mathlib.Core.Path.{◌∙◌}
use Rattle.base_block.proofs.Sheets.{fold_keeps, laid_columns, row-joined}
use Rattle.base_block.proofs.xor_words.Goals as goal

pub returns : goal.returns
returns c =
    let s = c.args.s.now in
    c.join4.ensures ∙ row-joined s _ (λ i. (c.type_inv.s i).fits) 127
    (λ k h.
    fold_keeps 1 c.fold-7.ensures k h
    ∙ fold_keeps 2 c.fold-6.ensures k h
    ∙ fold_keeps 4 c.fold-5.ensures k h
    ∙ fold_keeps 8 c.fold-4.ensures k h
    ∙ fold_keeps 16 c.fold-3.ensures k h
    ∙ fold_keeps 32 c.fold-2.ensures k h
    ∙ fold_keeps 64 c.fold.ensures k h
    ∙ laid_columns s _ c.lay_out.ensures k h)
