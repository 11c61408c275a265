-- What each refusal says to a reader. Assumes nothing.
use Rattle.std.specs.Prelude.{ℕ, List, codes}
use Rattle.records.specs.declared.Refusal.{Refusal}
use Rattle.records.specs.declared.Refusal.TheVariants.{ShortSheet, OutOfRange, NoBadge, NoLot, NoAccess, AlreadyOpen, AccessesFull, SerialsSpent, QuestionFails, CreditShort, RegisterFull, InUse, UnitsSpent, GrantTooLarge, ClockSpent, HoldMismatch}

abbrev pub refusal_text : Refusal → List ℕ
refusal_text ShortSheet = codes "the sheet has under 65 lines"
refusal_text OutOfRange = codes "a field is out of range"
refusal_text NoBadge = codes "no badge has this number"
refusal_text NoLot = codes "no lot has this code"
refusal_text NoAccess = codes "no open access has this serial"
refusal_text AlreadyOpen = codes "this badge has this lot open under this right"
refusal_text AccessesFull = codes "64 accesses are open"
refusal_text SerialsSpent = codes "the next serial would pass 1,000,000,000"
refusal_text QuestionFails = codes "the opening question fails"
refusal_text CreditShort = codes "left is below the hold"
refusal_text RegisterFull = codes "the key is new, and the register holds 64"
refusal_text InUse = codes "the badge or lot to drop has an open access"
refusal_text UnitsSpent = codes "units used would pass units held"
refusal_text GrantTooLarge = codes "a home's granted would pass 1,000,000,000"
refusal_text ClockSpent = codes "the clock would pass 10,000,000"
refusal_text HoldMismatch = codes "the charge is above the hold, or the hold above what is held"
