-- What the rule of upper case means for the hash of a name. Assumes nothing.
use Rattle.std.proofs.Common.{◌≡◌, ℕ, ◌/◌, ◌%◌, ◌<◌, Bool, true, false, cond, not, eqb, leb, List, length, sym, refl, ap, ◌∙◌, inl, arith, leb-true}
use Rattle.words.specs.Paper.{Paper, success, refused, by}
use Rattle.words.specs.Refusals.{BAD_NAME}
use Rattle.words.proofs.Papers.{same-success, success-refused}
use Rattle.name_hash.specs.Characters.{upper_of, character_of}
use Rattle.name_hash.specs.Hash.{hash_of, name_hash_of}
use Rattle.name_hash.specs.Case.{Unnamed, units_by, count_of, count, character, Answers, Exact, OneCase, upper_before, AsBefore}
use Rattle.name_hash.proofs.Laws.{hash_exact, hash_same}
use Rattle.name_hash.proofs.Rule.{rule}
use Rattle.name_hash.proofs.Papers.{hash_injective}
use Rattle.std.specs.declared.result.Result.{Result}
use Rattle.words.specs.declared.Refusal.{Refusal}

-- the hash by whether the characters are units
abbrev hashed : Bool → List ℕ → Paper ℕ
hashed false name = success (hash_of upper_of (character_of false name) (length name))
hashed true name = cond (eqb (length name % 2) 1) (refused (by BAD_NAME 0)) (success (hash_of upper_of (character_of true name) (length name / 2)))

by_units : (flags : ℕ) (name : List ℕ) → name_hash_of flags name ≡ hashed (units_by flags) name
unfolding name_hash_of
by_units flags name = go (eqb (flags / 32 % 2) 1)
  where
    go : (b : Bool) → cond b (hashed false name) (hashed true name) ≡ hashed (not b) name
    go true = refl
    go false = refl

-- ---- the exact sum

answered : (u : Bool) (name : List ℕ) (h : ℕ) → success h ≡ hashed u name → h ≡ hash_of upper_of (character_of u name) (count_of u name)
answered false name h e = same-success e
answered true name h e = go (eqb (length name % 2) 1) e
  where
    go : (b : Bool) → success h ≡ cond b (refused (by BAD_NAME 0)) (success (hash_of upper_of (character_of true name) (length name / 2)))
        → h ≡ hash_of upper_of (character_of true name) (length name / 2)
    go true z = absurd (success-refused z)
    go false z = same-success z

pub exact : (flags : ℕ) (name : List ℕ) → Exact flags name
exact flags name h e = answered (units_by flags) name h (e ∙ by_units flags name) ∙ hash_exact upper_of _ _

-- ---- two names

same_hash : (u : Bool) (name other : List ℕ) → length name ≡ length other
    → ((i : ℕ) → i < count_of u name → upper_of (character_of u name i) ≡ upper_of (character_of u other i))
    → hashed u name ≡ hashed u other
same_hash false name other l h = ap success (hash_same upper_of upper_of _ _ (length name) h ∙ ap (hash_of upper_of (character_of false other)) l)
same_hash true name other l h =
    ap (λ (v : ℕ). cond (eqb (length name % 2) 1) (refused (by BAD_NAME 0)) (success v)) (hash_same upper_of upper_of _ _ (length name / 2) h)
    ∙ ap (λ (n : ℕ). cond (eqb (n % 2) 1) (refused (by BAD_NAME 0)) (success (hash_of upper_of (character_of true other) (n / 2)))) l

pub one_case : (flags : ℕ) (name other : List ℕ) → OneCase flags name other
one_case flags name other = record { alike = alike; raised = λ l h. alike l (λ i k. sym (ap upper_of (h i k) ∙ rule.stays _)) }
  where
    alike : length name ≡ length other
        → ((i : ℕ) → i < count flags name → upper_of (character flags name i) ≡ upper_of (character flags other i))
        → (r t : Result ℕ Refusal) → Answers flags name r → Answers flags other t → r ≡ t
    alike l h r t p q =
        hash_injective r t (p ∙ by_units flags name ∙ same_hash (units_by flags) name other l h ∙ sym (by_units flags other) ∙ sym q)

-- ---- two rules

agrees : (x : ℕ) → Unnamed x → upper_of x ≡ upper_before x
unfolding upper_before
agrees x h = go (leb 256 x) refl
  where
    go : (b : Bool) → leb 256 x ≡ b → upper_of x ≡ cond b x (upper_of x)
    go true t = rule.others x (leb-true _ _ t) h
    go false t = refl

kept : (u : Bool) (name : List ℕ) (h : ℕ) → success h ≡ hashed u name
    → ((i : ℕ) → i < count_of u name → Unnamed (character_of u name i))
    → h ≡ hash_of upper_before (character_of u name) (count_of u name)
kept u name h e n = answered u name h e ∙ hash_same upper_of upper_before _ _ (count_of u name) (λ i l. agrees _ (n i l))

pub as_before : (flags : ℕ) (name : List ℕ) → AsBefore flags name
as_before flags name =
    record {
      unnamed = λ n h e. kept (units_by flags) name h (e ∙ by_units flags name) n;
      bytes = λ u b h e. kept false name h (e ∙ by_units flags name ∙ ap (λ (v : Bool). hashed v name) u) (λ i l. inl (omega (arith, b i)));
    }
