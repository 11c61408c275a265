-- The meaning of a purse: where each account's credit lies, and what is left, held and spent there.
-- Assumes nothing.
use Rattle.std.specs.Prelude.{◌≡◌, ℕ, ◌+◌, ◌-◌, ◌<◌, ◌≤◌, Bool, cond, ◌&&◌, List, [], ◌∷◌, length, replicate, ◌==◌, nat_le, slice_index, slice_set}
use Rattle.records.specs.Ranges.{all_between, attribute_fits, amount_fits}

pub record Books : Type 0 where
  pub homes : List ℕ
  pub left : List ℕ
  pub held : List ℕ
  pub spent : List ℕ

abbrev pub books_of : List ℕ → List ℕ → List ℕ → List ℕ → Books
books_of homes left held spent = record { homes = homes; left = left; held = held; spent = spent }

-- the home of an account
abbrev pub home_in : List ℕ → ℕ → ℕ
home_in homes a = slice_index homes a

abbrev pub home : Books → ℕ → ℕ
home b a = home_in b.homes a

abbrev pub left_at : Books → ℕ → ℕ
left_at b a = slice_index b.left (home b a)

abbrev pub held_at : Books → ℕ → ℕ
held_at b a = slice_index b.held (home b a)

abbrev pub spent_at : Books → ℕ → ℕ
spent_at b a = slice_index b.spent (home b a)

abbrev pub granted_at : Books → ℕ → ℕ
granted_at b a = left_at b a + (held_at b a + spent_at b a)

-- a purse at nothing
pub record Empty (b : Books) : Type 0 where
  pub left : b.left ≡ replicate 16 0
  pub held : b.held ≡ replicate 16 0
  pub spent : b.spent ≡ replicate 16 0

-- sixteen accounts, each at one of sixteen homes, and no home granted more than the most
pub record Sound (b : Books) : Type 0 where
  pub accounts : length b.homes ≡ 16
  pub lefts : length b.left ≡ 16
  pub helds : length b.held ≡ 16
  pub spents : length b.spent ≡ 16
  pub within : (a : ℕ) → home b a < 16
  pub most : (h : ℕ) → slice_index b.left h + (slice_index b.held h + slice_index b.spent h) ≤ 1000000000

abbrev pub with_left : Books → ℕ → ℕ → Books
with_left b a n = record { homes = b.homes; left = slice_set b.left (home b a) n; held = b.held; spent = b.spent }

abbrev pub with_held : Books → ℕ → ℕ → Books
with_held b a n = record { homes = b.homes; left = b.left; held = slice_set b.held (home b a) n; spent = b.spent }

abbrev pub with_spent : Books → ℕ → ℕ → Books
with_spent b a n = record { homes = b.homes; left = b.left; held = b.held; spent = slice_set b.spent (home b a) n }

-- what an accepted add, hold and settle leave
abbrev pub after_add : ℕ → ℕ → Books → Books
after_add a amount b = with_left b a (left_at b a + amount)

abbrev pub after_hold : ℕ → ℕ → Books → Books
after_hold a amount b = with_held (with_left b a (left_at b a - amount)) a (held_at b a + amount)

abbrev pub after_settle : ℕ → ℕ → ℕ → Books → Books
after_settle a hold charge b =
    with_spent (with_held (with_left b a (left_at b a + (hold - charge))) a (held_at b a - hold)) a (spent_at b a + charge)

-- the number that each returns, 0 where it is accepted
abbrev pub add_returns : ℕ → ℕ → Books → ℕ
add_returns a amount b =
    cond (attribute_fits a && amount_fits amount) (cond (amount_fits (granted_at b a + amount)) 0 14) 2

abbrev pub hold_returns : ℕ → ℕ → Books → ℕ
hold_returns a amount b =
    cond (attribute_fits a && amount_fits amount) (cond (nat_le amount (left_at b a)) 0 10) 2

abbrev pub settle_returns : ℕ → ℕ → ℕ → Books → ℕ
settle_returns a hold charge b =
    cond (attribute_fits a && (amount_fits hold && amount_fits charge))
    (cond (nat_le charge hold && nat_le hold (held_at b a)) 0 16)
    2

abbrev pub if_accepted : ℕ → Books → Books → Books
if_accepted returned after before = cond (returned == 0) after before

abbrev pub add_leaves : ℕ → ℕ → Books → Books
add_leaves a amount b = if_accepted (add_returns a amount b) (after_add a amount b) b

abbrev pub hold_leaves : ℕ → ℕ → Books → Books
hold_leaves a amount b = if_accepted (hold_returns a amount b) (after_hold a amount b) b

abbrev pub settle_leaves : ℕ → ℕ → ℕ → Books → Books
settle_leaves a hold charge b = if_accepted (settle_returns a hold charge b) (after_settle a hold charge b) b

-- homes from 0 to 15
abbrev pub homes_fit : List ℕ → Bool
homes_fit homes = all_between 0 15 homes

-- each account its own home
abbrev pub own_homes : List ℕ
own_homes = 0 ∷ 1 ∷ 2 ∷ 3 ∷ 4 ∷ 5 ∷ 6 ∷ 7 ∷ 8 ∷ 9 ∷ 10 ∷ 11 ∷ 12 ∷ 13 ∷ 14 ∷ 15 ∷ []
