-- No refusal has the number of what is accepted, 0. Assumes nothing.
use Rattle.std.proofs.Common.{◌≡◌, false, eqb, refl}
use Rattle.records.specs.Numbers.{refusal_number}
use Rattle.records.specs.declared.Refusal.{Refusal}
use Rattle.records.specs.declared.Refusal.TheVariants.{ShortSheet, OutOfRange, NoBadge, NoLot, NoAccess, AlreadyOpen, AccessesFull, SerialsSpent, QuestionFails, CreditShort, RegisterFull, InUse, UnitsSpent, GrantTooLarge, ClockSpent, HoldMismatch}

pub refused : (r : Refusal) → eqb (refusal_number r) 0 ≡ false
refused ShortSheet = refl
refused OutOfRange = refl
refused NoBadge = refl
refused NoLot = refl
refused NoAccess = refl
refused AlreadyOpen = refl
refused AccessesFull = refl
refused SerialsSpent = refl
refused QuestionFails = refl
refused CreditShort = refl
refused RegisterFull = refl
refused InUse = refl
refused UnitsSpent = refl
refused GrantTooLarge = refl
refused ClockSpent = refl
refused HoldMismatch = refl
