-- What a walk with a budget makes of the lists that it reaches: the counts, or the first fault in walk order (document 01, "The
-- subkey walk").
use Rattle.std.specs.Prelude.{ℕ, ◌+◌, List, [], ◌∷◌, cond, eqb, length}
use Rattle.words.specs.Refusals.{TOO_DEEP, OUT_OF_STEPS}
use Rattle.words.specs.Paper.{Told, Paper, success, refused, tell}
use Rattle.sub_key_walk.specs.Trace.{Event, deep, bad, index, leaf, kept_in, lists_in, entries_in, dropped_in}
use Rattle.sub_key_walk.specs.declared.Counts.{Counts}

-- "A refusal returns its number, the position of the list .. at fault .. and, from the walk, the lists read so far. Other fields
-- are 0"
abbrev pub fault : ℕ → ℕ → ℕ → Told
fault n p l = tell n p l 0 0 0

-- "The answer gives offsets kept, lists read, and leaf entries, dropped ones included", and "the number dropped as a further number":
-- the one place where they are put together
abbrev pub counts : ℕ → ℕ → ℕ → ℕ → Counts
counts kept lists entries dropped = record { kept = kept; lists = lists; entries = entries; dropped = dropped }

-- "Then it counts as read": the counts with one list more
unfoldable pub counted : Counts → Event → Counts
counted st e = counts (st.kept + length (kept_in e)) (st.lists + lists_in e) (st.entries + entries_in e) (st.dropped + dropped_in e)

-- 15: "another list is reached when the lists read equal the budget"
unfoldable pub in_budget : ℕ → Counts → ℕ → Paper Counts → Paper Counts
in_budget budget st p a = cond (eqb st.lists budget) (refused (fault OUT_OF_STEPS p st.lists)) a

-- "On reaching a list ..: 14, 15", then the list's own refusal, else it counts as read
unfoldable pub one : ℕ → Counts → Event → Paper Counts
one budget st (deep p) = refused (fault TOO_DEEP p st.lists)
one budget st (bad t p) = in_budget budget st p (refused (fault t.number t.position st.lists))
one budget st (index p n) = in_budget budget st p (success (counted st (index p n)))
one budget st (leaf p l) = in_budget budget st p (success (counted st (leaf p l)))

-- "The first fault in walk order is the refusal"
unfoldable pub after : Paper Counts → (Counts → Paper Counts) → Paper Counts
after (success st) f = f st
after (refused t) f = refused t

unfoldable pub judge : ℕ → Counts → List Event → Paper Counts
judge budget st [] = success st
judge budget st (e ∷ es) = after (one budget st e) (λ st'. judge budget st' es)
