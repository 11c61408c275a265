-- One figure of each credit, where a credit is changed. Assumes nothing.
use Rattle.std.proofs.Common.{◌≡◌, ℕ, List, map, get_or, set, ap, ◌∙◌}
use Rattle.std.proofs.lemmas.List.{map-set, set-get_or, get_or-map}
use Rattle.std.proofs.lemmas.Bool.Decides.{nat_tests}

pub map-set_same : {X : Type 0} (f : X → ℕ) (xs : List X) (i : ℕ) (y : X) → f y ≡ get_or (map f xs) i 0 → map f (set xs i y) ≡ map f xs
map-set_same f xs i y same = map-set f xs i y ∙ (ap (set (map f xs) i) same ∙ set-get_or (map f xs) i 0)

pub ruleset credits = (map-set, map-set_same, get_or-map, nat_tests)
