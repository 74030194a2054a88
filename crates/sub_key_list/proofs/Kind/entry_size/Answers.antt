use Rattle.sub_key_list.specs.Lists.{entry_size}
use Rattle.sub_key_list.proofs.Kind.entry_size.Goals as goal

pub returns-in-Lf : goal.returns-in-Lf
unfolding entry_size
returns-in-Lf c = rw c.in-Lf.is

pub returns-in-Lh : goal.returns-in-Lh
unfolding entry_size
returns-in-Lh c = rw c.in-Lh.is

pub returns-in-Li : goal.returns-in-Li
unfolding entry_size
returns-in-Li c = rw c.in-Li.is

pub returns-in-Ri : goal.returns-in-Ri
unfolding entry_size
returns-in-Ri c = rw c.in-Ri.is
