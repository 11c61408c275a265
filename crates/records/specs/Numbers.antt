-- The number that stands for each case of an enum, on data sheets, on sheets and in files. Assumes nothing.
use Rattle.std.specs.Prelude.{ℕ, Bool, cond, Ok, Err, Result, ◌==◌}
use Rattle.records.specs.declared.Right.{Right}
use Rattle.records.specs.declared.Right.TheVariants.{Read, Weigh, Label, Release}
use Rattle.records.specs.declared.Phase.{Phase}
use Rattle.records.specs.declared.Phase.TheVariants.{Work, Washdown}
use Rattle.records.specs.declared.Kind.{Kind}
use Rattle.records.specs.declared.Kind.TheVariants.{Opened, Denied, Ended, Revoked}
use Rattle.records.specs.declared.Refusal.{Refusal}
use Rattle.records.specs.declared.Refusal.TheVariants.{ShortSheet, OutOfRange, NoBadge, NoLot, NoAccess, AlreadyOpen, AccessesFull, SerialsSpent, QuestionFails, CreditShort, RegisterFull, InUse, UnitsSpent, GrantTooLarge, ClockSpent, HoldMismatch}

abbrev pub right_number : Right → ℕ
right_number Read = 0
right_number Weigh = 1
right_number Label = 2
right_number Release = 3

-- the right of a number, where the number is at most 3
abbrev pub right_of : ℕ → Right
right_of n = cond (n == 0) Read (cond (n == 1) Weigh (cond (n == 2) Label Release))

abbrev pub same_right : Right → Right → Bool
same_right r q = right_number r == right_number q

abbrev pub phase_number : Phase → ℕ
phase_number Work = 0
phase_number Washdown = 1

-- the phase of a number, where the number is at most 1
abbrev pub phase_of : ℕ → Phase
phase_of n = cond (n == 0) Work Washdown

abbrev pub kind_number : Kind → ℕ
kind_number Opened = 1
kind_number Denied = 2
kind_number Ended = 3
kind_number Revoked = 4

-- why a call refuses, as the return table numbers it
abbrev pub refusal_number : Refusal → ℕ
refusal_number ShortSheet = 1
refusal_number OutOfRange = 2
refusal_number NoBadge = 3
refusal_number NoLot = 4
refusal_number NoAccess = 5
refusal_number AlreadyOpen = 6
refusal_number AccessesFull = 7
refusal_number SerialsSpent = 8
refusal_number QuestionFails = 9
refusal_number CreditShort = 10
refusal_number RegisterFull = 11
refusal_number InUse = 12
refusal_number UnitsSpent = 13
refusal_number GrantTooLarge = 14
refusal_number ClockSpent = 15
refusal_number HoldMismatch = 16

-- what a call returned: 0 where it was accepted
abbrev pub returned_number : Result (Unit {0}) Refusal → ℕ
returned_number (Ok _) = 0
returned_number (Err refusal) = refusal_number refusal
