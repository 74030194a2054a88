use mathlib.Core.Path.{ap, ◌∙◌}
use native.Mathlib.Omega.{arith}
use Rattle.list_conversion.proofs.Sizes.{size_holds}
use Rattle.words.proofs.Papers.{handed_on, on-refused}
use Rattle.std.specs.Prelude.{Err}
use Rattle.words.specs.Paper.{refused}
use Rattle.list_conversion.specs.Answers.{conversion_paper}
use Rattle.list_conversion.specs.Entries.{count_paper}
use Rattle.list_conversion.proofs.Answers.{conversion_refused, asks_header, asks_entries, row-full, row_written}
use Rattle.list_conversion.proofs.lay.Goals as goal

pub returns-in_err-count : goal.returns-in_err-count
returns-in_err-count g c =
    conversion_refused g.E.Row.kind _ c.args.out.now (on-refused _ (ap count_paper c.in_err-count.was)) _ (ap conversion_paper (handed_on _ c.from_residual.ensures))

pub returns-then-out-size : goal.returns-then-out-size
returns-then-out-size g c =
    row-full g.E.Row.kind c.size-entry.result (c.size-entry.ensures ∙ g.met.E.Row.sized) _ c.cell_size-size.ensures c.args.out.now (g.E.Row.entry c.args.row.now) c.args.judged
    (ap count_paper c.in_ok-count.was) c.if-out-size.true (Err c.no_room.result) (ap refused c.no_room.ensures)

pub put_header-requires : goal.put_header-requires
put_header-requires g c =
    let both = asks_header g.E.Row.kind c.size-entry.result (c.size-entry.ensures ∙ g.met.E.Row.sized) _ c.cell_size-size.ensures c.args.out.now c.if-out-size.false in
    record { le_size = both.0; in_bounds = both.1 }

pub put_entries-requires : goal.put_entries-requires
put_entries-requires g c =
    asks_entries g.E.Row.kind c.size-entry.result (c.size-entry.ensures ∙ g.met.E.Row.sized) _ c.cell_size-size.ensures c.args.out.now c.if-out-size.false _ c.put_header.ensures c.size-entry.ensures

pub put_rest-requires-clause-count_bound : goal.put_rest-requires-clause-count_bound
put_rest-requires-clause-count_bound g c =
    omega (arith, c.cell_size-size.ensures, size_holds c.size-entry.result c.in_ok-count.count)

pub returns : goal.returns
returns g c =
    row_written g.E.Row.kind c.size-entry.result (c.size-entry.ensures ∙ g.met.E.Row.sized) _ c.cell_size-size.ensures c.args.out.now (g.E.Row.entry c.args.row.now) c.args.judged
    (ap count_paper c.in_ok-count.was) c.if-out-size.false c.kind.ensures c.size-entry.ensures c.put_header.ensures c.put_entries.ensures c.put_rest.ensures
