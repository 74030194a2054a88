use native.Mathlib.Nat.{zero-add}
use mathlib.Core.Path.{sym, ap, ◌∙◌}
use mathlib.Core.List.{List}
use Rattle.writing.specs.Writing.{with_bytes}
use Rattle.writing.proofs.Writing.{with_none, put_true, put_written}
use Rattle.value_data.specs.Pieces.{Piece, joined}
use Rattle.value_data.proofs.Copies.{cell_fits, one-joined}
use Rattle.value_data.proofs.Places.{these_segments}
use Rattle.value_data.proofs.copy_data.Goals as goal

pub copy_bytes-requires : goal.copy_bytes-requires
copy_bytes-requires c =
    let a = c.args in
    cell_fits a.image.now c.in-Cell.position a.size a.out.now _ c.cell_bytes-bytes.ensures c.requires

pub returns-in-Nothing : goal.returns-in-Nothing
unfolding joined
returns-in-Nothing c =
    rw c.in-Nothing.is (sym (with_none c.args.out.now 0))

pub returns-in-Field : goal.returns-in-Field
returns-in-Field c =
    rw c.in-Field.is (put_written c.put_bytes.ensures (put_true c.put_bytes.ensures (rw zero-add c.requires)))

pub returns-in-Cell : goal.returns-in-Cell
returns-in-Cell c =
    rw c.in-Cell.is (c.copy_bytes.ensures ∙ ap (with_bytes c.args.out.now 0) (c.cell_bytes-bytes.ensures ∙ sym (one-joined c.args.image.now _)))

pub returns-in-Segments : goal.returns-in-Segments
returns-in-Segments c =
    let a = c.args in
    rw c.in-Segments.is
    (c.copy_segments.ensures ∙ ap (λ (qs : List Piece). with_bytes a.out.now 0 (joined a.image.now qs)) (sym (these_segments a.image.now a.base _ a.size c.segments_needed-count.ensures c.from-list.ensures.bytes)))
