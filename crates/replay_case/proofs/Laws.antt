-- Laws of the words and the sums. Assumes nothing.
use Rattle.std.proofs.Common.{◌≡◌, ◌<◌, ℕ, ◌+◌, List, length, map, get_or, ap, sym, ◌∙◌, add-one}
use Rattle.std.proofs.lemmas.List.{get_or-map, map-id}
use Rattle.replay_case.specs.Case.{fresh}
use Rattle.replay_case.specs.Sums.{one_more, sums_of, place_at}

-- one number of a row more
pub sums_more :
    {X : Type 0} (f : X → ℕ) (xs : List X) (i : ℕ) (x : X) → i < length xs → x ≡ get_or xs i x
    → sums_of (place_at (map f xs)) (i + 1) ≡ one_more (sums_of (place_at (map f xs)) i) (f x)
unfolding sums_of
sums_more f xs i x h e =
    rw add-one (ap (one_more (sums_of (place_at (map f xs)) i)) (get_or-map f xs i x 0 h ∙ ap f (sym e)))

-- the sums of a row are those of its places, at each of the three widths
pub sums_of_places : (xs : List ℕ) (n : ℕ) → sums_of (place_at (map (λ x. x) xs)) n ≡ sums_of (place_at xs) n
sums_of_places xs n = ap (λ (ys : List ℕ). sums_of (place_at ys) n) (map-id xs)

-- a word behind so many others, however these and its own bit are counted
pub behind : (news : List ℕ) (k m b bit old : ℕ) → k ≡ m → b ≡ bit → fresh news k b old ≡ fresh news m bit old
behind news k m b bit old e h i = fresh news (e i) (h i) old
