use mathlib.Core.Path.{sym, ap, ◌∙◌}
use Rattle.words.proofs.Papers.{handed_on, then_next, then_refused}
use Rattle.sub_key_list.specs.Lists.{word_of, list_paper}
use Rattle.sub_key_list.proofs.Strict.{list-header, strict-refused, strict_read}
use Rattle.sub_key_list.proofs.ListKinds.{kind_told}
use Rattle.sub_key_list.proofs.strict_list.Goals as goal

pub returns-in_err-list : goal.returns-in_err-list
returns-in_err-list c =
    ap list_paper (handed_on _ c.from_residual.ensures) ∙ sym (strict-refused _ _ _ _ (sym c.in_err-list.ensures))

pub strict_checks-requires : goal.strict_checks-requires
strict_checks-requires c =
    (list-header _ _ (sym c.in_ok-list.ensures), ap word_of c.kind.ensures ∙ kind_told _ _ _ (sym c.in_ok-list.ensures))

pub returns-in_err-strict_checks : goal.returns-in_err-strict_checks
returns-in_err-strict_checks c =
    ap list_paper (handed_on _ c.from_residual-in_err-strict_checks.ensures) ∙ sym (strict_read _ _ _ _ (sym c.in_ok-list.ensures) ∙ then_refused _ (sym c.in_err-strict_checks.ensures))

pub returns : goal.returns
returns c = sym (strict_read _ _ _ _ (sym c.in_ok-list.ensures) ∙ then_next _ (sym c.in_ok-strict_checks.ensures))
