-- Document 01, "Name hash": the characters of a name, and their upper case.
use Rattle.std.specs.Prelude.{ℕ, ◌-◌, ◌*◌, Bool, true, false, cond, List, ◌==◌, nat_le}
use Rattle.words.specs.Words.{byte_at, word16}

unfoldable pub between : ℕ → ℕ → ℕ → Bool
between a e x = cond (nat_le a x) (nat_le x e) false

-- "97 to 122 and 224 to 254 except 247 are 32 less, 255 is 376, the others unchanged." And in the place of 01's last sentence, by
-- document 02, order 5 (docs/AMENDMENTS.md): "units 1072 to 1103 become 32 less and 1104 to 1119 become 80 less"; the other units of 256
-- and above are unchanged.
unfoldable pub upper_of : ℕ → ℕ
upper_of x =
    cond (between 97 122 x) (x - 32)
    (cond (x == 247) x
    (cond (between 224 254 x) (x - 32)
    (cond (x == 255) 376
    (cond (between 1072 1103 x) (x - 32)
    (cond (between 1104 1119 x) (x - 80) x)))))

-- "Characters are bytes, or 16-bit units": character i, by whether they are units
abbrev pub character_of : Bool → List ℕ → ℕ → ℕ
character_of false name i = byte_at name i
character_of true name i = word16 name (2 * i)
