-- The meaning of credits by home. Assumes nothing.
use Rattle.std.proofs.Common.{ℕ, zero, suc, ◌+◌, ◌≤◌, List, [], ◌∷◌, map, get_or, arith}
use Rattle.usage.specs.Books.{Books, books_of}
use Rattle.purses.specs.declared.credit.Credit.{Credit}

-- the books of accounts at these homes
abbrev pub credit_books : List ℕ → List Credit → Books
credit_books homes credits = books_of homes (map (λ c. c.left) credits) (map (λ c. c.held) credits) (map (λ c. c.spent) credits)

-- no home is granted more than the most
pub most_at : (cs : List Credit) (home : ℕ) → get_or (map (λ c. c.left) cs) home 0 + (get_or (map (λ c. c.held) cs) home 0 + get_or (map (λ c. c.spent) cs) home 0) ≤ 1000000000
most_at [] home = omega arith
most_at (c ∷ cs) zero = c.most
most_at (c ∷ cs) (suc home) = most_at cs home
