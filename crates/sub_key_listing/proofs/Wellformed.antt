-- Which bytes are a listing: the tests of the code, the definition's test, and the definition say the same. Assumes nothing.
use mathlib.Core.Path.{◌≡◌, refl, sym, ap, ◌∙◌}
use mathlib.Core.Logic.{◌↔◌}
use mathlib.Core.List.{List, [], ◌∷◌, ◌++◌, append_assoc, append-nil}
use mathlib.Core.Bool.{true, false, ◌&&◌}
use Prim.Native.Nat.{ℕ, zero, suc, ◌+◌, ◌*◌, ◌<◌}
use native.Mathlib.Nat.{mod-eq_of_lt}
use native.Mathlib.Omega.{arith}
use borrow.Author.Tests.{eqb-true, eq-eqb, lt-ltb, ltb-true}
use lib.Dec.{eqb, ltb}
use lib.ListN.{length, get_or, drop, length-append, drop_of_length-le}
use Rattle.words.specs.Words.{word32, word64}
use Rattle.words.proofs.Little.{Bytes, little_lt}
use Rattle.words.proofs.Tests.{both, both_are, test_same, test_false}
use Rattle.writing.specs.Writing.{bytes_of}
use Rattle.writing.proofs.Writing.{bytes_length, bytes_lt}
use Rattle.sub_key_listing.specs.Listing.{OPENS, NAMES, CLOSES, house, opening, plain, named, listing_of, Wellformed, same, listing_size, number_in, offsets_in, made_of, wellformed}
use Rattle.sub_key_listing.specs.Steps.{begins, all_named, closes, framed}
use Rattle.sub_key_listing.specs.Demands.{Injective}
use Rattle.sub_key_listing.proofs.Rows.{below-append, same_true, same_is, house-length, house-front, plain-length, named-length, offsets_length, peel, begun, plain-begun, all_begun, front-word, front_rest, house-begins, house_content, plain-begins, plain_word, named_begin, named_offsets}

-- ---- a listing's length

pub opening-length : (base position : ℕ) → length (opening base position) ≡ 18
opening-length base position =
    omega (arith, house-length OPENS (bytes_of 4 base ++ bytes_of 8 position), length-append (bytes_of 4 base) (bytes_of 8 position), bytes_length 4 base, bytes_length 8 position)

pub listing_length : (base position : ℕ) (os : List ℕ) → length (listing_of base position os) ≡ listing_size (length os)
unfolding listing_of
listing_length base position os =
    omega (
      arith,
      length-append (opening base position) (named os ++ plain CLOSES (length os)),
      length-append (named os) (plain CLOSES (length os)),
      opening-length base position,
      named-length os,
      plain-length CLOSES (length os),
    )

number_in_lem : (n : ℕ) → number_in (listing_size n) ≡ n
number_in_lem n = omega arith

-- ---- from the tests to the listing

module _ (b : List ℕ) (w : Bytes b) (n : ℕ) (l : length b ≡ listing_size n) (t : framed b n ≡ true) where
  tests : (begins b 0 14 OPENS && all_named b n 18 ≡ true) × (closes b (18 + 10 * n) n ≡ true)
  tests = both (begins b 0 14 OPENS && all_named b n 18) (closes b (18 + 10 * n) n) t

  front_tests : (begins b 0 14 OPENS ≡ true) × (all_named b n 18 ≡ true)
  front_tests = both (begins b 0 14 OPENS) (all_named b n 18) tests.0

  close_tests : (begins b (18 + 10 * n) 6 CLOSES ≡ true) × (eqb (word32 b (18 + 10 * n + 6)) n ≡ true)
  close_tests = both (begins b (18 + 10 * n) 6 CLOSES) (eqb (word32 b (18 + 10 * n + 6)) n) tests.1

  number_is : word32 b (18 + 10 * n + 6) ≡ n
  number_is = eqb-true (word32 b (18 + 10 * n + 6)) n close_tests.1

  abbrev content : List ℕ
  content = bytes_of 4 (word32 b 6) ++ bytes_of 8 (word64 b 10)

  content_length : 14 ≡ 2 + length content
  content_length = omega (arith, length-append (bytes_of 4 (word32 b 6)) (bytes_of 8 (word64 b 10)), bytes_length 4 (word32 b 6), bytes_length 8 (word64 b 10))

  opened : b ≡ opening (word32 b 6) (word64 b 10) ++ drop 18 b
  opened =
      begun b w 0 14 OPENS front_tests.0 (omega arith)
      ∙ (λ i. bytes_of 4 (content_length i) ++ (bytes_of 2 OPENS ++ peel b w 4 6 (omega arith) i))
      ∙ (λ i. bytes_of 4 (2 + length content) ++ (bytes_of 2 OPENS ++ (bytes_of 4 (word32 b 6) ++ peel b w 8 10 (omega arith) i)))
      ∙ ap (λ (r : List ℕ). bytes_of 4 (2 + length content) ++ (bytes_of 2 OPENS ++ r)) (sym (append_assoc (bytes_of 4 (word32 b 6)) (bytes_of 8 (word64 b 10)) (drop 18 b)))
      ∙ sym (house-front OPENS content (drop 18 b))

  closed : drop (18 + 10 * n) b ≡ plain CLOSES (length (offsets_in b n 18))
  closed =
      plain-begun b w (18 + 10 * n) CLOSES close_tests.0 (omega arith)
      ∙ (λ i. plain CLOSES ((number_is ∙ sym (offsets_length b n 18)) i) ++ drop_of_length-le b {i = 18 + 10 * n + 10} (omega arith) i)
      ∙ append-nil (plain CLOSES (length (offsets_in b n 18)))

  pub framed_made : b ≡ listing_of (word32 b 6) (word64 b 10) (offsets_in b n 18)
  unfolding listing_of
  framed_made =
      opened
      ∙ ap (λ (r : List ℕ). opening (word32 b 6) (word64 b 10) ++ r)
      (all_begun b w n 18 front_tests.1 (omega arith) ∙ ap (λ (r : List ℕ). named (offsets_in b n 18) ++ r) closed)

  pub framed_few : n < 4294967296
  framed_few = omega (arith, number_is, little_lt 4 b w (18 + 10 * n + 6))

-- ---- and from the listing to the tests, and to what it holds

module _ (b : List ℕ) (base position : ℕ) (os : List ℕ) (e : b ≡ listing_of base position os) where
  abbrev behind : List ℕ
  behind = named os ++ plain CLOSES (length os)

  abbrev held : List ℕ
  held = bytes_of 4 base ++ bytes_of 8 position

  held-length : 2 + length held ≡ 14
  held-length = omega (arith, length-append (bytes_of 4 base) (bytes_of 8 position), bytes_length 4 base, bytes_length 8 position)

  whole : drop 0 b ≡ house OPENS held ++ behind
  unfolding listing_of
  whole = e

  pub made_length : length b ≡ listing_size (length os)
  made_length = ap length e ∙ listing_length base position os

  numbers : drop 6 b ≡ bytes_of 4 base ++ (bytes_of 8 position ++ behind)
  numbers = house_content b 0 OPENS held behind whole ∙ append_assoc (bytes_of 4 base) (bytes_of 8 position) behind

  position_on : drop 10 b ≡ bytes_of 8 position ++ behind
  position_on = front_rest b 4 6 base (bytes_of 8 position ++ behind) numbers

  offsets_on : drop 18 b ≡ behind
  offsets_on = front_rest b 8 10 position behind position_on

  pub made_base : base < 4294967296 → word32 b 6 ≡ base
  made_base h = front-word b 4 6 base (bytes_of 8 position ++ behind) numbers ∙ mod-eq_of_lt h

  pub made_position : position < 18446744073709551616 → word64 b 10 ≡ position
  made_position h = front-word b 8 10 position behind position_on ∙ mod-eq_of_lt h

  pub made_offsets : ((i : ℕ) → get_or os i 0 < 4294967296) → offsets_in b (length os) 18 ≡ os
  made_offsets f = named_offsets b (plain CLOSES (length os)) os 18 f offsets_on

  pub made_framed : length os < 4294967296 → framed b (length os) ≡ true
  made_framed h =
      let p = named_begin b (plain CLOSES (length os)) os 18 offsets_on in
      let q : drop (18 + 10 * length os) b ≡ plain CLOSES (length os) ++ [] = p.1 ∙ sym (append-nil (plain CLOSES (length os))) in
      both_are
      (both_are (house-begins b 0 OPENS held behind whole 14 held-length (omega arith) (omega arith)) p.0)
      (both_are
      (plain-begins b (18 + 10 * length os) CLOSES (length os) [] q (omega arith))
      (eq-eqb (word32 b (18 + 10 * length os + 6)) (length os) (plain_word b (18 + 10 * length os) CLOSES (length os) [] q ∙ mod-eq_of_lt h)))

-- ---- the definition's test

module _ (b : List ℕ) (t : wellformed b ≡ true) where
  halves : (same b (made_of b) ≡ true) × (ltb (number_in (length b)) 4294967296 ≡ true)
  unfolding wellformed
  halves = both (same b (made_of b)) (ltb (number_in (length b)) 4294967296) t

  pub formed_made : b ≡ made_of b
  formed_made = same_true b (made_of b) halves.0

  pub formed_few : number_in (length b) < 4294967296
  formed_few = ltb-true (number_in (length b)) 4294967296 halves.1

  pub formed_length : length b ≡ listing_size (number_in (length b))
  formed_length =
      made_length b (word32 b 6) (word64 b 10) (offsets_in b (number_in (length b)) 18) formed_made
      ∙ ap listing_size (offsets_length b (number_in (length b)) 18)

-- any other length is refused
pub formed_never : (b : List ℕ) → (length b ≡ listing_size (number_in (length b)) → ⊥) → wellformed b ≡ false
formed_never b h = test_false (wellformed b) (λ t. h (formed_length b t))

-- with that length, it is the test of the code
module _ (b : List ℕ) (w : Bytes b) (n : ℕ) (l : length b ≡ listing_size n) where
  count : number_in (length b) ≡ n
  count = ap number_in l ∙ number_in_lem n

  made_count : made_of b ≡ listing_of (word32 b 6) (word64 b 10) (offsets_in b n 18)
  made_count = ap (λ (k : ℕ). listing_of (word32 b 6) (word64 b 10) (offsets_in b k 18)) count

  pub formed_framed : wellformed b ≡ true → framed b n ≡ true
  formed_framed t =
      let m : length (offsets_in b n 18) ≡ n = offsets_length b n 18 in
      ap (framed b) (sym m)
      ∙ made_framed b (word32 b 6) (word64 b 10) (offsets_in b n 18) (formed_made b t ∙ made_count) (omega (arith, formed_few b t, count))

  pub framed_formed : framed b n ≡ true → wellformed b ≡ true
  unfolding wellformed
  framed_formed t =
      both_are (same_is (framed_made b w n l t ∙ sym made_count)) (lt-ltb (number_in (length b)) 4294967296 (omega (arith, framed_few b w n l t, count)))

  pub formed_test : framed b n ≡ wellformed b
  formed_test = test_same (framed b n) (wellformed b) framed_formed formed_framed

-- a listing with its number not cut passes the test, whatever its numbers
pub listing_formed : (b : List ℕ) → Bytes b → (base position : ℕ) (os : List ℕ) → b ≡ listing_of base position os → length os < 4294967296 → wellformed b ≡ true
listing_formed b w base position os e h =
    framed_formed b w (length os) (made_length b base position os e) (made_framed b base position os e h)

-- each number that is read fits its bytes
offsets_fit : (b : List ℕ) → Bytes b → (n at i : ℕ) → get_or (offsets_in b n at) i 0 < 4294967296
unfolding offsets_in
offsets_fit b w zero at i = omega arith
offsets_fit b w (suc n) at zero = little_lt 4 b w (at + 6)
offsets_fit b w (suc n) at (suc i) = offsets_fit b w n (at + 10) i

-- ---- "one opening, then offsets, one close and no further bytes, the close gives their true number": the test is true exactly then

pub well_formed : (b : List ℕ) → Bytes b → (wellformed b ≡ true) ↔ Wellformed b
well_formed b w = (there, λ f. listing_formed b w f.base f.position f.offsets f.is f.number_fits)
  where
    there : wellformed b ≡ true → Wellformed b
    there t =
        let n : ℕ = number_in (length b) in
        let m : length (offsets_in b (number_in (length b)) 18) ≡ number_in (length b) = offsets_length b (number_in (length b)) 18 in
        record {
          base = word32 b 6;
          position = word64 b 10;
          offsets = offsets_in b (number_in (length b)) 18;
          base_fits = little_lt 4 b w 6;
          position_fits = little_lt 8 b w 10;
          offsets_fit = offsets_fit b w (number_in (length b)) 18;
          number_fits = omega (arith, formed_few b t);
          is = formed_made b t;
        }

-- ---- two listings that are one have one base, one position and the same offsets

pub listings_injective : Injective
listings_injective base base' position position' os os' b b' p p' f f' e =
    let l : List ℕ = listing_of base position os in
    let m = made_length (listing_of base position os) base position os refl in
    let m' = made_length (listing_of base position os) base' position' os' e in
    let n : length os ≡ length os' = omega arith in (
      sym (made_base (listing_of base position os) base position os refl b) ∙ made_base (listing_of base position os) base' position' os' e b',
      sym (made_position (listing_of base position os) base position os refl p) ∙ made_position (listing_of base position os) base' position' os' e p',
      sym (made_offsets (listing_of base position os) base position os refl f)
          ∙ ap (λ (k : ℕ). offsets_in (listing_of base position os) k 18) n ∙ made_offsets (listing_of base position os) base' position' os' e f',
    )

-- ---- every element of a listing is a byte

house_bytes : (kind : ℕ) (content : List ℕ) → Bytes content → Bytes (house kind content)
house_bytes kind content f =
    below-append 256 (bytes_of 4 (2 + length content)) (bytes_of 2 kind ++ content) (bytes_lt 4 (2 + length content))
    (below-append 256 (bytes_of 2 kind) content (bytes_lt 2 kind) f)

named_bytes : (os : List ℕ) → Bytes (named os)
unfolding named
named_bytes [] i = omega arith
named_bytes (o ∷ os) i = below-append 256 (plain NAMES o) (named os) (house_bytes NAMES (bytes_of 4 o) (bytes_lt 4 o)) (named_bytes os) i

pub listing_bytes : (base position : ℕ) (os : List ℕ) → Bytes (listing_of base position os)
unfolding listing_of
listing_bytes base position os =
    below-append 256 (opening base position) (named os ++ plain CLOSES (length os))
    (house_bytes OPENS (bytes_of 4 base ++ bytes_of 8 position) (below-append 256 (bytes_of 4 base) (bytes_of 8 position) (bytes_lt 4 base) (bytes_lt 8 position)))
    (below-append 256 (named os) (plain CLOSES (length os)) (named_bytes os) (house_bytes CLOSES (bytes_of 4 (length os)) (bytes_lt 4 (length os))))
