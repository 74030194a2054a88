-- Laws of an answer behind the check, over what the layer below answers. Assumes nothing.
use Prim.{Unit, tt}
use mathlib.Core.Path.{◌≡◌, refl, ap, sym, subst, ◌∙◌}
use mathlib.Core.List.{List}
use mathlib.Core.Bool.{Bool, true, false, cond}
use Prim.Native.Nat.{ℕ}
use Rattle.words.specs.Refusals.{OTHER_PLACE}
use Rattle.std.specs.Prelude.{Ok, Err}
use Rattle.std.specs.declared.result.Result.{Result}
use Rattle.std.specs.Result.{IsErr, IsErrAnd}
use Rattle.words.specs.Paper.{Told, Paper, success, refused, by, paper_of}
use Rattle.words.specs.Buffers.{Answered}
use Rattle.words.proofs.Papers.{refused-success, ok-err, handed_on}
use Rattle.words.proofs.Buffers.{answered_refused}
use Rattle.cell_key_node.specs.declared.KeyNode.{KeyNode}
use Rattle.key_in_place.specs.Place.{ReadsAs, is_in_place, behind}
use Rattle.key_in_place.proofs.Place.{in_place}

module _ (image : List ℕ) (key : KeyNode) {A : Type 0} where
  -- the record stands there: the answer is the one below
  pub here : (a : Paper A) → is_in_place image key ≡ true → behind image key a ≡ a
  unfolding behind
  here a e = simp e

  -- it does not: OTHER PLACE, whatever the one below is
  pub elsewhere : (a : Paper A) → is_in_place image key ≡ false → behind image key a ≡ refused (by OTHER_PLACE 0)
  unfolding behind
  elsewhere a e = simp e

-- so an answer that succeeds is the one below
pub behind-success : {A : Type 0} (image : List ℕ) (key : KeyNode) (a : Paper A) {v : A} → behind image key a ≡ success v → a ≡ success v
unfolding behind
behind-success image key a {v} e = go (is_in_place image key) e
  where
    go : (b : Bool) → cond b a (refused (by OTHER_PLACE 0)) ≡ success v → a ≡ success v
    go true q = q
    go false q = absurd (refused-success q)

-- a record that does not read as itself does not pass
pub not_here : (image : List ℕ) (key : KeyNode) → (ReadsAs image key → ⊥) → is_in_place image key ≡ false
not_here image key n = go (is_in_place image key) refl
  where
    go : (b : Bool) → is_in_place image key ≡ b → b ≡ false
    go true e = absurd (n ((in_place image key).0 e))
    go false e = refl

err_path : {A B E : Type 0} {g f : E} → ◌≡◌ {A = Result A E} (Err g) (Err f) → ◌≡◌ {A = Result B E} (Err g) (Err f)
err_path e = cc

-- what the check of a record lets through, and what it stops: an answer of the code, by what is said of it
module _ (image : List ℕ) (key : KeyNode) (b : Bool) (q : b ≡ is_in_place image key) {E : Type 0} (f : E) where
  passed : (u : Unit {0}) → Ok u ≡ cond b (Ok (tt {0})) (Err f) → is_in_place image key ≡ true
  passed u e = sym q ∙ go b e
    where
      go : (x : Bool) → Ok u ≡ cond x (Ok (tt {0})) (Err f) → x ≡ true
      go true w = refl
      go false w = absurd (ok-err w)

  module _ (u : Unit {0}) (e : Ok u ≡ cond b (Ok (tt {0})) (Err f)) {V : Type 0} where
    pub tested_here : {said right : Paper V} → said ≡ right → said ≡ behind image key right
    tested_here {right = right} x = x ∙ sym (here image key right (passed u e))

    pub answered_here : {said right : Paper V} {B : Type 0} {ks old new : List B} → Answered said right ks old new → Answered said (behind image key right) ks old new
    answered_here {said} {right} {B} {ks} {old} {new} x = subst (λ (a : Paper V). Answered said a ks old new) (sym (here image key right (passed u e))) x

  module _ {A : Type 0} (r : Result A E) {g : E} (h : IsErr r × IsErrAnd r (λ x. x ≡ g)) (e : Err g ≡ cond b (Ok (tt {0})) (Err f)) where
    stopped : (is_in_place image key ≡ false) × (r ≡ Err f)
    stopped = let s = go b e in (sym q ∙ s.0, s.1)
      where
        go : (x : Bool) → Err g ≡ cond x (Ok (tt {0})) (Err f) → (x ≡ false) × (r ≡ Err f)
        go true w = absurd (ok-err (sym w))
        go false w = (refl, handed_on r h ∙ err_path w)

    module _ {V : Type 0} (value : A → V) (tells : E → Told) (t : tells f ≡ by OTHER_PLACE 0) (right : Paper V) where
      pub tested_elsewhere : paper_of value tells r ≡ behind image key right
      tested_elsewhere = ap (paper_of value tells) stopped.1 ∙ ap refused t ∙ sym (elsewhere image key right stopped.0)

      pub answered_elsewhere : {B : Type 0} (ks old : List B) → Answered (paper_of value tells r) (behind image key right) ks old old
      answered_elsewhere ks old = answered_refused (ap (paper_of value tells) stopped.1 ∙ ap refused t) (elsewhere image key right stopped.0)
