-- Document 01, "Value lists and lookup": when a stored name matches.
use Rattle.std.specs.Prelude.{ℕ, ◌+◌, ◌%◌, List, [], ◌∷◌, Bool, true, false, cond, length, ltb, eqb}

-- "ASCII lower case only": 65 to 90 are 32 more
unfoldable pub lower_of : ℕ → ℕ
lower_of x = cond (ltb x 65) x (cond (ltb 90 x) x (x + 32))

-- "the bytes are equal after ASCII lower case only"
unfoldable pub same_text : List ℕ → List ℕ → Bool
same_text [] [] = true
same_text [] (y ∷ ys) = false
same_text (x ∷ xs) [] = false
same_text (x ∷ xs) (y ∷ ys) = cond (eqb (lower_of x) (lower_of y)) (same_text xs ys) false

-- "A stored name matches if both lengths are 0, or if flag 0001 is set and the bytes are equal"
unfoldable pub matches_of : ℕ → List ℕ → List ℕ → Bool
matches_of flags stored name =
    cond (eqb (length stored + length name) 0) true
    (cond (eqb (flags % 2) 1) (same_text stored name) false)
