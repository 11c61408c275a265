-- Codes byte by byte, from the first byte, unsigned. Assumes nothing.
use Rattle.std.specs.Prelude.{ℕ, Bool, true, false, cond, List, [], ◌∷◌, ◌==◌, nat_lt}

abbrev pub same_code : List ℕ → List ℕ → Bool
same_code [] [] = true
same_code [] (y ∷ ys) = false
same_code (x ∷ xs) [] = false
same_code (x ∷ xs) (y ∷ ys) = cond (x == y) (same_code xs ys) false

abbrev pub code_below : List ℕ → List ℕ → Bool
code_below [] [] = false
code_below [] (y ∷ ys) = true
code_below (x ∷ xs) [] = false
code_below (x ∷ xs) (y ∷ ys) = cond (nat_lt x y) true (cond (x == y) (code_below xs ys) false)
