-- Lots sought and ordered by std's comparisons of codes, and badges by std's of numbers, in the machine's words.
-- Assumes nothing.
use Rattle.std.proofs.Common.{◌≡◌, ℕ, Bool, List, nat_eq}
use Rattle.std.specs.Ordering.{is_lt, nat_cmp}
use Rattle.std.specs.Cmp.Lexicographic.{pointwise, slice_cmp}
use Rattle.register.specs.Codes.{code_below}
use Rattle.register.proofs.Keys.{same_codes, codes_below, numbers_below}
use Rattle.records.specs.declared.Badge.{Badge}
use Rattle.records.specs.declared.Lot.{Lot}
use Rattle.machine.specs.State.{is_lot}
use Rattle.machine.specs.Rising.{badge_below, lot_below}

pub lots_sought : (c : List ℕ) → ◌≡◌ {A = Lot → Bool} (λ l. pointwise nat_eq l.code c) (is_lot c)
lots_sought c = λ i l. same_codes i l.code c

pub lots_above : (c : List ℕ) → ◌≡◌ {A = Lot → Bool} (λ l. is_lt (slice_cmp nat_cmp c l.code)) (λ l. code_below c l.code)
lots_above c = λ i l. codes_below i c l.code

pub lots_ordered : ◌≡◌ {A = Lot → Lot → Bool} (λ l m. is_lt (slice_cmp nat_cmp l.code m.code)) lot_below
lots_ordered = λ i l m. codes_below i l.code m.code

pub badges_ordered : ◌≡◌ {A = Badge → Badge → Bool} (λ b d. is_lt (nat_cmp b.number d.number)) badge_below
badges_ordered = λ i b d. numbers_below i b.number d.number
