-- A lent buffer: when it has too few places, and what it holds after an answer, over what a place holds (a number or a byte).
use Rattle.std.specs.Prelude.{ℕ, ◌≡◌, List, ◌++◌, cond, ltb, length, drop}
use Rattle.words.specs.Paper.{Told, Paper, success, refused, no_room_told}

-- "9 NO ROOM: all else succeeds and the buffer has too few places". `full` is what the refusal tells of a success, the places
-- needed among it.
unfoldable pub in_room : {A : Type 0} → (A → Told) → ℕ → Paper A → Paper A
in_room full room (success v) = cond (ltb room (full v).places) (refused (full v)) (success v)
in_room full room (refused t) = refused t

-- where the success is the number of places that are written: no lists, no entries, none dropped
abbrev pub needing : ℕ → Told
needing n = no_room_told 0 n 0 0

-- "On success the output is written from the first place on, and the places after the last one written keep their old contents."
-- A refusal "changes no place of the output buffer". The buffer held `old`, and a success writes the row `ks`.
unfoldable pub buffer_after : {A B : Type 0} → Paper A → List B → List B → List B
buffer_after (success v) ks old = ks ++ drop (length ks) old
buffer_after (refused t) ks old = old

-- what a function with a lent buffer promises: what its answer says is `right`, and the buffer, which held `old`, holds `new`
pub record Answered {A B : Type 0} (said right : Paper A) (ks old new : List B) : Type 0 where
  pub answer : said ≡ right
  pub buffer : new ≡ buffer_after right ks old
