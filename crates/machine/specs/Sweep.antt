-- Closing, and the sweep: while some open access fails its staying question, the first in the order among those is
-- revoked. Assumes nothing.
use Rattle.std.specs.Prelude.{ℕ, zero, suc, ◌+◌, Bool, cond, List, [], ◌∷◌, ◌++◌, length, Some, None, Option}
use Rattle.register.specs.Lists.{without}
use Rattle.records.specs.declared.Access.{Access}
use Rattle.records.specs.declared.Line.{Line}
use Rattle.records.specs.declared.Kind.TheVariants.{Revoked}
use Rattle.usage.specs.Books.{settle_leaves}
use Rattle.machine.specs.State.{Policy, Scene, State, is_access, situation, fails, hold_of, charge_of, with_lots, with_accesses, raise, lower}
use Rattle.machine.specs.Lines.{closing_line}

-- an access enters, and is struck
abbrev pub enter : Access → Scene → Scene
enter a s = with_accesses (with_lots s (raise a.lot s.lots)) (s.accesses ++ (a ∷ []))

abbrev pub strike : Access → Scene → Scene
strike a s = with_accesses (with_lots s (lower a.lot s.lots)) (without (is_access a.serial) s.accesses)

-- the hold is settled at the noted account with the charge at the noted price
abbrev pub close : Access → State → State
close a s = record {
  scene = strike a s.scene;
  next_serial = s.next_serial;
  books = settle_leaves a.account (hold_of a) (charge_of a) s.books;
}

-- the one that goes first, of an access and the foremost so far
abbrev pub sooner_of : (Access → Access → Bool) → Access → Option Access → Option Access
sooner_of before a None = Some a
sooner_of before a (Some b) = cond (before a b) (Some a) (Some b)

-- the foremost of those that fail, from the foremost so far
abbrev pub foremost_from : (Access → Access → Bool) → (Access → Bool) → Option Access → List Access → Option Access
foremost_from before failing best [] = best
foremost_from before failing best (a ∷ more) = foremost_from before failing (cond (failing a) (sooner_of before a best) best) more

abbrev pub to_revoke : Policy → Scene → Option Access
to_revoke p s = foremost_from p.before (fails p s) None s.accesses

pub record Swept : Type 0 where
  pub lines : List Line
  pub questions : ℕ
  pub after : State

abbrev pub one_more : ℕ → Line → Swept → Swept
one_more questions l rest = record { lines = l ∷ rest.lines; questions = questions + rest.questions; after = rest.after }

-- one round: every open access is questioned, and the one to revoke, if any, is closed before the rounds after it
abbrev pub round : Policy → State → Option Access → (State → Swept) → Swept
round p s None rest = record { lines = []; questions = length s.scene.accesses; after = s }
round p s (Some a) rest =
    one_more (length s.scene.accesses)
    (closing_line Revoked s.scene.room.clock (p.staying (situation s.scene a)) a)
    (rest (close a s))

-- rounds of the sweep, at most so many with a revocation: as many as accesses are open, so that none is left to question
-- where they run out
unfoldable pub rounds : Policy → ℕ → State → Swept
rounds p zero s = record { lines = []; questions = 0; after = s }
rounds p (suc n) s = round p s (to_revoke p s.scene) (λ t. rounds p n t)

abbrev pub sweep : Policy → State → Swept
sweep p s = rounds p (length s.scene.accesses) s
