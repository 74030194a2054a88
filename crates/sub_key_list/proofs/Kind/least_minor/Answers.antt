use Rattle.sub_key_list.specs.Strict.{least_minor}
use Rattle.sub_key_list.proofs.Kind.least_minor.Goals as goal

pub returns-in-Lf : goal.returns-in-Lf
unfolding least_minor
returns-in-Lf c = rw c.in-Lf.is

pub returns-in-Lh : goal.returns-in-Lh
unfolding least_minor
returns-in-Lh c = rw c.in-Lh.is

pub returns-in-Li : goal.returns-in-Li
unfolding least_minor
returns-in-Li c = rw c.in-Li.is

pub returns-in-Ri : goal.returns-in-Ri
unfolding least_minor
returns-in-Ri c = rw c.in-Ri.is
