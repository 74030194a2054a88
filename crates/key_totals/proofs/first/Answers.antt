use Rattle.std.proofs.Common.{◌≡◌, length, sym, ◌∙◌, arith, rules}
use Rattle.key_totals.specs.Table.{free, suits}
use Rattle.key_totals.proofs.Places.{long, left_found, left_next, left_end, is_found, is_none_found}
use Rattle.key_totals.proofs.first.Goals as goal

pub returns-then-is_wanted-clause-place : goal.returns-then-is_wanted-clause-place
returns-then-is_wanted-clause-place c =
    let a = c.args in
    let n : length a.table.places ≡ 256 = search (rules, long) in
    is_found
    (left_found (suits a.wanted) a.table.places c.loop-i.i free (omega arith) c.loop-i.invariant (sym c.is_wanted.ensures ∙ c.if-is_wanted.true))
    (omega arith)

pub loop-i-preserved : goal.loop-i-preserved
loop-i-preserved c =
    let a = c.args in
    let n : length a.table.places ≡ 256 = search (rules, long) in
    left_next (suits a.wanted) a.table.places c.loop-i.i free (omega arith) c.loop-i.invariant (sym c.is_wanted.ensures ∙ c.if-is_wanted.false)

pub returns-clause-place : goal.returns-clause-place
returns-clause-place c =
    let a = c.args in
    let n : length a.table.places ≡ 256 = search (rules, long) in
    is_none_found (left_end (suits a.wanted) a.table.places c.loop-i.i (omega arith) (omega arith) c.loop-i.invariant) (omega arith)
