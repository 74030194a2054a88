use Prim.Native.Nat.{◌+◌}
use mathlib.Core.Path.{◌≡◌, ap, ◌∙◌}
use Rattle.std.proofs.Common.{rules}
use native.Mathlib.Omega.{arith}
use Rattle.std.specs.Prelude.{Err}
use Rattle.std.proofs.lemmas.Result.{err_from_is_err_and}
use Rattle.hive_bin.specs.declared.BinTotals.{BinTotals}
use Rattle.hive_bin.proofs.Image.{cut_short, of_place, of_part}
use Rattle.hive_bin.proofs.check_bins.Goals as goal

pub returns-then-image-start : goal.returns-then-image-start
returns-then-image-start c = cut_short _ _ _ c.if-image-start.true

pub map_err-requires : goal.map_err-requires
map_err-requires c =
    λ e h.
    let a = c.args in
    let p = of_place a.image.now a.base a.size c.if-image-start.false _ c.part.ensures.bytes _ c.check_row.ensures h in
    grind arith

pub returns : goal.returns
returns c =
    let a = c.args in
    of_part a.image.now a.base a.size c.if-image-start.false _ c.part.ensures.bytes _ c.check_row.ensures c.map_err.result
    (λ t h. rw h at c.map_err.ensures.cases)
    (λ f h.
    let p = err_from_is_err_and {T = BinTotals} c.map_err.result (rw h at c.map_err.ensures.cases) in
    let q = p.2 in
    let e : p.0 ≡ record f { position = a.base + f.position } = search rules in
    p.1 ∙ ap Err e)
