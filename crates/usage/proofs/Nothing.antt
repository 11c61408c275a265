-- A purse at nothing. Assumes nothing.
use Rattle.std.proofs.Common.{◌≡◌, ℕ, zero, suc, get_or, replicate, refl}

-- where nothing was granted, every home is at 0
pub nothing_at : (n home : ℕ) → get_or {A = ℕ} (replicate n 0) home 0 ≡ 0
nothing_at zero home = refl
nothing_at (suc n) zero = refl
nothing_at (suc n) (suc home) = nothing_at n home
