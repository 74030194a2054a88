use Rattle.list_conversion.proofs.Sizes.{size_is}
use Rattle.list_conversion.proofs.cell_size.Goals as goal

pub returns : goal.returns
returns c =
    let n = c.next_multiple_of.ensures in
    size_is c.args.entry c.args.count c.bytes_of-bytes.ensures n.lower_bound n.upper_bound n.multiple
