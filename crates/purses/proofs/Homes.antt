-- Homes, each from 0 to 15; and a table of them, seen from a place on. Assumes nothing.
use Rattle.std.proofs.Common.{◌≡◌, ℕ, zero, suc, ◌+◌, ◌<◌, ◌≤◌, true, false, ◌&&◌, List, [], ◌∷◌, length, get_or, drop, sym, ap, ◌∙◌, add-one, arith, drop_of_length-le, drop-cons}
use Rattle.std.proofs.lemmas.Bool.Decides.{nat_tests}
use Rattle.records.specs.Ranges.{between}
use Rattle.records.proofs.Between.{list_all-between}
use Rattle.usage.specs.Books.{homes_fit}

-- what is left at a place is the home there and the rest
at_place : (hs : List ℕ) (i : ℕ) → i < length hs → homes_fit (drop i hs) ≡ (between 0 15 (get_or hs i 0) && homes_fit (drop (i + 1) hs))
at_place hs i h = rw (add-one, drop-cons hs i 0)

pub homes_more : (hs : List ℕ) (i : ℕ) → i < length hs → homes_fit (drop i hs) ≡ homes_fit hs → get_or hs i 0 ≤ 15 → homes_fit (drop (i + 1) hs) ≡ homes_fit hs
homes_more hs i h inv fits = let e : homes_fit (drop i hs) ≡ (between 0 15 (get_or hs i 0) && homes_fit (drop (i + 1) hs)) = at_place hs i h in grind (arith, nat_tests)

pub homes_not : (hs : List ℕ) (i : ℕ) → i < length hs → homes_fit (drop i hs) ≡ homes_fit hs → 15 < get_or hs i 0 → false ≡ homes_fit hs
homes_not hs i h inv large = let e : homes_fit (drop i hs) ≡ (between 0 15 (get_or hs i 0) && homes_fit (drop (i + 1) hs)) = at_place hs i h in grind (arith, nat_tests)

pub homes_all : (hs : List ℕ) (i : ℕ) → length hs ≤ i → homes_fit (drop i hs) ≡ homes_fit hs → true ≡ homes_fit hs
homes_all hs i h inv = sym (ap homes_fit (drop_of_length-le hs h)) ∙ inv

-- homes that fit are below 16, and what lies past them is 0
pub homes_below : (hs : List ℕ) → homes_fit hs ≡ true → (account : ℕ) → get_or hs account 0 < 16
homes_below [] e account = omega arith
homes_below (h ∷ hs) e zero = grind (arith, nat_tests)
homes_below (h ∷ hs) e (suc account) = let later : homes_fit hs ≡ true = grind (arith, nat_tests) in homes_below hs later account

pub ruleset homes = (list_all-between, homes_below)
