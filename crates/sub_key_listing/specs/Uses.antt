-- The two uses of a walk: its offsets are held against the records of a listing, or written as records. What such a use must show is in
-- `Use` (`sub_key_walk`). Of use inside this crate only.
use Rattle.std.specs.Prelude.{ℕ, ◌+◌, ◌≤◌, ◌≡◌, refl, List, [], ◌∷◌, ◌++◌, Bool, true, false, cond, eqb, length, Option, Some, None}
use Rattle.std.proofs.Common.{sym, ap, subst, ◌∙◌, append_assoc, length-append, arith}
use Rattle.words.specs.Words.{word32}
use Rattle.sub_key_walk.specs.Walk.{Filled}
use Rattle.sub_key_walk.proofs.Uses.{Use}
use Rattle.sub_key_walk.proofs.Fills.{writing}
use Rattle.sub_key_listing.specs.Listing.{NAMES, plain, named}
use Rattle.sub_key_listing.specs.Steps.{matched, agreed, Ahead}
use Rattle.sub_key_listing.specs.declared.Comparer.{Comparer}
use Rattle.sub_key_listing.specs.declared.Writer.{Writer}

-- ---- held against the records of a listing, which stays: the state is the place of the next one. Nothing is written

module _ (b : List ℕ) where
  agreed-append : (ks ls : List ℕ) (place : Option ℕ) → agreed b (ks ++ ls) place ≡ agreed b ls (agreed b ks place)
  unfolding agreed
  agreed-append [] ls place = refl
  agreed-append (k ∷ ks) ls place = agreed-append ks ls (matched b place k)

  -- there is room for a row: for its front, and for the rest

  pub ahead_front : (ks ls : List ℕ) (place : Option ℕ) → Ahead (ks ++ ls) place b → Ahead ks place b
  ahead_front ks ls None r = tt
  ahead_front ks ls (Some p) r = omega (arith, length-append ks ls, r)

  ahead_one : (k : ℕ) (ls : List ℕ) (place : Option ℕ) → Ahead (k ∷ ls) place b → Ahead ls (matched b place k) b
  unfolding matched
  ahead_one k ls None r = tt
  ahead_one k ls (Some p) r = go (eqb (word32 b (p + 6)) k)
    where
      go : (t : Bool) → Ahead ls (cond t (Some (p + 10)) None) b
      go true = omega (arith, r)
      go false = tt

  pub ahead_rest : (ks ls : List ℕ) (place : Option ℕ) → Ahead (ks ++ ls) place b → Ahead ls (agreed b ks place) b
  unfolding agreed
  ahead_rest [] ls place r = r
  ahead_rest (k ∷ ks) ls place r = ahead_rest ks ls (matched b place k) (ahead_one k (ks ++ ls) place r)

abbrev pub Holds : List ℕ → Comparer × List ℕ → Comparer × List ℕ → Type 0
Holds ks x y = (y.0.listing ≡ x.0.listing) × (y.0.place ≡ agreed x.0.listing.now ks x.0.place)

pub compared_none : (x : Comparer × List ℕ) → Holds [] x x
unfolding agreed
compared_none x = (refl, refl)

pub compared_more : (ks ls : List ℕ) (x y z : Comparer × List ℕ) → Holds ks x y → Holds ls y z → Holds (ks ++ ls) x z
compared_more ks ls x y z e f = (
  f.0 ∙ e.0,
  f.1 ∙ (λ i. agreed (e.0 i).now ls (e.1 i)) ∙ sym (agreed-append x.0.listing.now ks ls x.0.place),
)

pub compared_front : (ks ls : List ℕ) (x : Comparer × List ℕ) → Ahead (ks ++ ls) x.0.place x.0.listing.now → Ahead ks x.0.place x.0.listing.now
compared_front ks ls x r = ahead_front x.0.listing.now ks ls x.0.place r

pub compared_rest : (ks ls : List ℕ) (x y : Comparer × List ℕ) → Ahead (ks ++ ls) x.0.place x.0.listing.now → Holds ks x y → Ahead ls y.0.place y.0.listing.now
compared_rest ks ls x y r e =
    let P : List ℕ → Option ℕ → Type 0 = λ b o. Ahead ls o b in
    let here : Ahead ls (agreed x.0.listing.now ks x.0.place) x.0.listing.now = ahead_rest x.0.listing.now ks ls x.0.place r in
    subst (λ (o : Option ℕ). Ahead ls o y.0.listing.now) (sym e.1) (subst (λ (b : List ℕ). Ahead ls (agreed x.0.listing.now ks x.0.place) b) (λ i. (sym e.0 i).now) here)

abbrev pub comparing : Use (Comparer × List ℕ)
comparing = record {
  Ready = λ ks x. Ahead ks x.0.place x.0.listing.now;
  Goes = Holds;
  none = compared_none;
  more = compared_more;
  front = compared_front;
  rest = compared_rest;
}

-- ---- written as records: the state is the place behind what is written, and the buffer

pub named_none : named [] ≡ []
unfolding named
named_none = refl

pub named-append : (ks ls : List ℕ) → named (ks ++ ls) ≡ named ks ++ named ls
unfolding named
named-append [] ls = refl
named-append (k ∷ ks) ls = ap (λ (r : List ℕ). plain NAMES k ++ r) (named-append ks ls) ∙ sym (append_assoc (plain NAMES k) (named ks) (named ls))

-- a buffer of so many places, without regard to which one
abbrev rows : ℕ → Use (List ℕ × ℕ)
rows places = writing places named named_none named-append

abbrev pub Room : List ℕ → Writer × List ℕ → Type 0
Room ks x = x.0.place + length (named ks) ≤ length x.1

abbrev pub Records : List ℕ → Writer × List ℕ → Writer × List ℕ → Type 0
Records ks x y = Filled (named ks) x.1 x.0.place y.0.place y.1

pub recorded_none : (x : Writer × List ℕ) → Records [] x x
recorded_none x = (rows 0).none (x.1, x.0.place)

pub recorded_more : (ks ls : List ℕ) (x y z : Writer × List ℕ) → Records ks x y → Records ls y z → Records (ks ++ ls) x z
recorded_more ks ls x y z = (rows 0).more ks ls (x.1, x.0.place) (y.1, y.0.place) (z.1, z.0.place)

pub recorded_front : (ks ls : List ℕ) (x : Writer × List ℕ) → Room (ks ++ ls) x → Room ks x
recorded_front ks ls x r = ((rows (length x.1)).front ks ls (x.1, x.0.place) (refl, r)).1

pub recorded_rest : (ks ls : List ℕ) (x y : Writer × List ℕ) → Room (ks ++ ls) x → Records ks x y → Room ls y
recorded_rest ks ls x y r f =
    let p = (rows (length x.1)).rest ks ls (x.1, x.0.place) (y.1, y.0.place) (refl, r) f in
    subst (λ (n : ℕ). y.0.place + length (named ls) ≤ n) (sym p.0) p.1

abbrev pub recording : Use (Writer × List ℕ)
recording = record { Ready = Room; Goes = Records; none = recorded_none; more = recorded_more; front = recorded_front; rest = recorded_rest }
