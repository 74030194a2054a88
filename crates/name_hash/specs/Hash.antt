-- Document 01, "Name hash": the hash.
use Rattle.std.specs.Prelude.{ℕ, zero, suc, ◌+◌, ◌*◌, ◌/◌, ◌%◌, ◌^◌, true, false, cond, List, length, ◌==◌}
use Rattle.words.specs.Paper.{Paper, success, refused, by, told, paper_of}
use Rattle.words.specs.Refusals.{BAD_NAME}
use Rattle.name_hash.specs.Characters.{upper_of, character_of}
use Rattle.std.specs.declared.result.Result.{Result}
use Rattle.words.specs.declared.Refusal.{Refusal}

-- "From 0, for each character: hash times 37 plus the upper-case character, modulo 2^32", of the n characters f 0, f 1, ..,
-- by any rule of upper case
unfoldable pub hash_of : (ℕ → ℕ) → (ℕ → ℕ) → ℕ → ℕ
hash_of upper f zero = 0
hash_of upper f (suc n) = (hash_of upper f n * 37 + upper (f n)) % 2 ^ 32

-- "Characters are bytes, or 16-bit units if flag 0020 of the key is clear."
-- The table of refusals: "5 BAD NAME .. a 16-bit name to be hashed has odd length", at position 0.
unfoldable pub name_hash_of : ℕ → List ℕ → Paper ℕ
name_hash_of flags name =
    cond (flags / 32 % 2 == 1) (success (hash_of upper_of (character_of false name) (length name)))
    (cond ((length name % 2) == 1) (refused (by BAD_NAME 0))
    (success (hash_of upper_of (character_of true name) (length name / 2))))

-- what the code's answer says
abbrev pub hash_paper : Result ℕ Refusal → Paper ℕ
hash_paper = paper_of (λ h. h) told
