use Rattle.std.proofs.Common.{sym, arith}
use Rattle.name_hash.specs.Characters.{between, upper_of}
use Rattle.name_hash.proofs.Table.{made, ruled}
use Rattle.name_hash.proofs.Rule.{in_range, out_of_range, unnamed, rule}
use Rattle.name_hash.proofs.upper.Goals as goal

pub returns-then-character-lt256 : goal.returns-then-character-lt256
unfolding made upper_of between
returns-then-character-lt256 c =
    ruled c.args.character c.if-character-lt256.true

pub returns-then-between : goal.returns-then-between
returns-then-between c =
    let h = in_range c.between.ensures c.if-between.true in sym (rule.first _ (omega arith) (omega arith))

pub returns-then-between-2 : goal.returns-then-between-2
returns-then-between-2 c =
    let h = in_range c.between-2.ensures c.if-between-2.true in sym (rule.second _ (omega arith) (omega arith))

pub returns : goal.returns
returns c =
    let b = c in
    let h = out_of_range b.between.ensures b.if-between.false in
    let k = out_of_range c.between-2.ensures c.if-between-2.false in
    sym (rule.others _ b.if-character-lt256.false (unnamed _ (λ l. let m = h l in let n = k (omega arith) in omega arith)))
