-- compare/README.md, "A case": a mask, and a word for each bit of it that is set, the lowest bit first; a word that is left out
-- is as before.
use Rattle.std.specs.Prelude.{ℕ, zero, suc, ◌+◌, ◌*◌, ◌/◌, ◌%◌, ◌^◌, cond, List, ◌==◌}
use Rattle.words.specs.Words.{word32}
use Rattle.replay_case.specs.declared.Case.{Case}

abbrev pub bit : ℕ → ℕ → ℕ
bit mask i = mask / 2 ^ i % 2

-- how many of the bits below bit i are set
abbrev pub below : ℕ → ℕ → ℕ
below mask zero = 0
below mask (suc i) = below mask i + bit mask i

-- the new word behind so many others where the bit is 1, else the old one
unfoldable pub fresh : List ℕ → ℕ → ℕ → ℕ → ℕ
fresh news before b old = cond (b == 1) (word32 news (4 * before)) old

-- word i
abbrev pub word : ℕ → List ℕ → ℕ → ℕ → ℕ
word mask news i old = fresh news (below mask i) (bit mask i) old

unfoldable pub renewed : Case → ℕ → List ℕ → Case
renewed old mask news =
    record {
      a = word mask news 0 old.a;
      b = word mask news 1 old.b;
      c = word mask news 2 old.c;
      d = word mask news 3 old.d;
      e = word mask news 4 old.e;
      name = word mask news 5 old.name;
      image = word mask news 6 old.image;
    }
