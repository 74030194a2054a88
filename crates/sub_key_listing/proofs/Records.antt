-- A record that is written. Assumes nothing.
use mathlib.Core.Path.{◌≡◌, sym, ap, subst, ◌∙◌}
use mathlib.Core.List.{List, [], ◌∷◌, ◌++◌, append_assoc, append-nil}
use mathlib.Core.Bool.{Bool}
use Prim.Native.Nat.{ℕ, ◌+◌, ◌≤◌}
use native.Mathlib.Omega.{arith}
use lib.ListN.{length, length-append}
use lib.Seq.{sets}
use Rattle.writing.specs.Writing.{bytes_of, with_bytes, PutAt}
use Rattle.writing.proofs.Writing.{bytes_length, with_none, with_sets, put-after}
use Rattle.sub_key_walk.specs.Walk.{Filled}
use Rattle.sub_key_listing.specs.Listing.{OPENS, NAMES, opening, plain, named}
use Rattle.sub_key_listing.proofs.Rows.{plain-length, named-length}

-- ---- one record

-- its length and its kind
module _ (old : List ℕ) (at size kind : ℕ) (h : at + 6 ≤ length old) {q r : Bool} {one two : List ℕ} (x : PutAt 4 size at old q one) (y : PutAt 2 kind (at + 4) one r two) where
  abbrev front : List ℕ
  front = bytes_of 4 size ++ bytes_of 2 kind

  pub front_length : length front ≡ 6
  front_length = omega (arith, length-append (bytes_of 4 size) (bytes_of 2 kind), bytes_length 4 size, bytes_length 2 kind)

  pub front-put : two ≡ with_bytes old at front
  front-put =
      let u = put-after old at [] x (sym (with_none old at)) (omega arith) (omega arith) in
      put-after old at (bytes_of 4 size) y u (omega (arith, bytes_length 4 size)) (omega (arith, bytes_length 4 size))

pub plain-put : (old : List ℕ) (at kind v : ℕ) → at + 10 ≤ length old → {q r t : Bool} {one two new : List ℕ}
    → PutAt 4 6 at old q one → PutAt 2 kind (at + 4) one r two → PutAt 4 v (at + 6) two t new → new ≡ with_bytes old at (plain kind v)
plain-put old at kind v h x y z =
    let l = front_length old at 6 kind (omega arith) x y in
    put-after old at (bytes_of 4 6 ++ bytes_of 2 kind) z (front-put old at 6 kind (omega arith) x y) (omega arith) (omega arith)
    ∙ ap (with_bytes old at)
    (append_assoc (bytes_of 4 6) (bytes_of 2 kind) (bytes_of 4 v)
    ∙ ap (λ (n : ℕ). bytes_of 4 (2 + n) ++ (bytes_of 2 kind ++ bytes_of 4 v)) (sym (bytes_length 4 v)))

pub opening-put : (old : List ℕ) (base position : ℕ) → 18 ≤ length old → {k : ℕ} → k ≡ OPENS → {q r t u : Bool} {one two three new : List ℕ}
    → PutAt 4 14 0 old q one → PutAt 2 k 4 one r two → PutAt 4 base 6 two t three → PutAt 8 position 10 three u new
    → new ≡ with_bytes old 0 (opening base position)
opening-put old base position h {k} opens {r = r} {one = one} {two = two} x put z w =
    let y : PutAt 2 OPENS 4 one r two = subst (λ (n : ℕ). PutAt 2 n 4 one r two) opens put in
    let l = front_length old 0 14 OPENS (omega arith) x y in
    let front : List ℕ = bytes_of 4 14 ++ bytes_of 2 OPENS in
    let c : length (bytes_of 4 base ++ bytes_of 8 position) ≡ 12 = omega (arith, length-append (bytes_of 4 base) (bytes_of 8 position), bytes_length 4 base, bytes_length 8 position) in
    let m : length (front ++ bytes_of 4 base) ≡ 10 = omega (arith, length-append front (bytes_of 4 base), bytes_length 4 base) in
    let three-is = put-after old 0 front z (front-put old 0 14 OPENS (omega arith) x y) (omega arith) (omega arith) in
    put-after old 0 (front ++ bytes_of 4 base) w three-is (omega arith) (omega arith)
    ∙ ap (with_bytes old 0)
    (append_assoc front (bytes_of 4 base) (bytes_of 8 position)
    ∙ append_assoc (bytes_of 4 14) (bytes_of 2 OPENS) (bytes_of 4 base ++ bytes_of 8 position)
    ∙ ap (λ (n : ℕ). bytes_of 4 (2 + n) ++ (bytes_of 2 OPENS ++ (bytes_of 4 base ++ bytes_of 8 position))) (sym c))

-- ---- the record of an offset

module _ (v place : ℕ) (out : List ℕ) (r : place + length (named (v ∷ [])) ≤ length out) where
  pub record_room : place + 10 ≤ length out
  record_room = omega (arith, named-length (v ∷ []), r)

  pub record_put : {new : List ℕ} → new ≡ with_bytes out place (plain NAMES v) → Filled (named (v ∷ [])) out place (place + 10) new
  unfolding named
  record_put e =
      let l = plain-length NAMES v in
      let m = record_room in
      record {
        next = omega (arith, length-append (plain NAMES v) [], l);
        written = e ∙ with_sets out place (plain NAMES v) (omega arith) ∙ ap (λ (ks : List ℕ). sets out place ks) (sym (append-nil (plain NAMES v)));
      }
