use Rattle.sub_key_listing.proofs.Naming.{Naming}
use Rattle.sub_key_listing.proofs.all_named.Given as goal

abbrev pub invariant-loop-i : goal.invariant-loop-i
invariant-loop-i l =
    Naming l.listing l.n l.i
