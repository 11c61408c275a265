-- Numbers that each lie between two ends. Assumes nothing.
use Rattle.std.proofs.Common.{◌≡◌, ℕ, List, [], ◌∷◌, ◌&&◌, refl, ap}
use Rattle.std.specs.List.{list_all}
use Rattle.records.specs.Ranges.{between, all_between}

pub list_all-between : (low high : ℕ) (ns : List ℕ) → list_all (between low high) ns ≡ all_between low high ns
list_all-between low high [] = refl
list_all-between low high (n ∷ ns) = ap (λ rest. between low high n && rest) (list_all-between low high ns)
