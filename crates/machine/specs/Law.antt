-- What every shift keeps, whatever is called and in whatever order. Assumes nothing.
use Rattle.std.specs.Prelude.{◌≡◌, ℕ, ◌+◌, Bool, true, false, cond, not, ◌&&◌, ◌||◌, List, [], ◌∷◌, ◌++◌, ◌==◌, ◌≢◌, slice_index}
use Rattle.register.specs.Lists.{In}
use Rattle.records.specs.declared.Access.{Access}
use Rattle.records.specs.declared.Badge.{Badge}
use Rattle.records.specs.declared.Lot.{Lot}
use Rattle.records.specs.declared.Line.{Line}
use Rattle.records.specs.declared.Kind.{Kind}
use Rattle.records.specs.declared.Kind.TheVariants.{Opened, Denied, Ended, Revoked}
use Rattle.records.specs.declared.Call.{Call}
use Rattle.records.specs.declared.Call.TheVariants.{Open, Use, Duty, End, Time, SetRoom, Grant, SetBadge, SetLot, DropBadge, DropLot}
use Rattle.usage.specs.Books.{home_in, settle_returns, Empty, Sound}
use Rattle.usage.specs.Orders.{Ordered}
use Rattle.machine.specs.State.{Policy, Scene, State, situation, fails, hold_of, charge_of}
use Rattle.machine.specs.Step.{step}
use Rattle.machine.specs.Journal.{Entry, joined, before_lines, replay_entry, replay, new_scene, lines_of, opens, closes, revokes}

-- a shift: calls one after another, each at a sheet of some length, each answered as the machine does
pub data Shift (p : Policy) : State → List Entry → State → Type 0 where
  start : {s : State} → Shift p s [] s
  then : {s t : State} {es : List Entry} (sheet : ℕ) (call : Call) → Shift p s es t →
      Shift p s (es ++ (record { call = call; returned = (step p t sheet call).returned; lines = (step p t sheet call).lines } ∷ []))
      (step p t sheet call).after

-- a monitor as it is made, with a purse at nothing
pub record New (badges : List Badge) (lots : List Lot) (s : State) : Type 0 where
  pub scene : s.scene ≡ new_scene badges lots
  pub books : Empty s.books
  pub sound : Sound s.books

-- a just revocation: an open access of the line's serial failed, with the line's cause as its answer, and every other
-- that failed comes later in the order
pub record Just (p : Policy) (s : Scene) (l : Line) : Type 0 where
  pub access : Access
  pub stood : In access s.accesses
  pub serial : access.serial ≡ l.serial
  pub failed : fails p s access ≡ true
  pub cause : p.staying (situation s access) ≡ l.cause
  pub foremost : (b : Access) → In b s.accesses → fails p s b ≡ true → (b.serial ≢ access.serial) →
      p.before access b ≡ true

-- each revocation is just in the scene right before its line
abbrev pub JustLines : Policy → Call → List Line → Scene → Type 0
JustLines p call [] s = Unit {0}
JustLines p call (l ∷ ls) s = (revokes l ≡ true → Just p s l) × JustLines p call ls (joined call l s)

abbrev pub JustJournal : Policy → List Entry → Scene → Type 0
JustJournal p [] s = Unit {0}
JustJournal p (e ∷ es) s = JustLines p e.call e.lines (before_lines e s) × JustJournal p es (replay_entry e s)

-- which call a line may stand under: an accepted open opens, an open that is not accepted is denied, an accepted end
-- ends its own serial, and any accepted call revokes
abbrev pub asks_to_open : Call → Bool
asks_to_open (Open _ _ _ _) = true
asks_to_open (Use _ _) = false
asks_to_open (Duty _) = false
asks_to_open (End _) = false
asks_to_open (Time _) = false
asks_to_open (SetRoom _ _) = false
asks_to_open (Grant _ _) = false
asks_to_open (SetBadge _ _ _ _) = false
asks_to_open (SetLot _ _ _ _ _ _) = false
asks_to_open (DropBadge _) = false
asks_to_open (DropLot _) = false

abbrev pub asks_to_end : ℕ → Call → Bool
asks_to_end serial (Open _ _ _ _) = false
asks_to_end serial (Use _ _) = false
asks_to_end serial (Duty _) = false
asks_to_end serial (End n) = n == serial
asks_to_end serial (Time _) = false
asks_to_end serial (SetRoom _ _) = false
asks_to_end serial (Grant _ _) = false
asks_to_end serial (SetBadge _ _ _ _) = false
asks_to_end serial (SetLot _ _ _ _ _ _) = false
asks_to_end serial (DropBadge _) = false
asks_to_end serial (DropLot _) = false

abbrev pub called_for : Kind → ℕ → Call → ℕ → Bool
called_for Opened serial call returned = asks_to_open call && returned == 0
called_for Denied serial call returned = asks_to_open call && not (returned == 0)
called_for Ended serial call returned = asks_to_end serial call && returned == 0
called_for Revoked serial call returned = returned == 0

-- the serials of the lines of a kind
abbrev pub serials : (Line → Bool) → List Line → List ℕ
serials q [] = []
serials q (l ∷ ls) = cond (q l) (l.serial ∷ serials q ls) (serials q ls)

abbrev pub Distinct : List ℕ → Type 0
Distinct [] = Unit {0}
Distinct (n ∷ ns) = (In n ns → ⊥) × Distinct ns

-- whether a serial is closed by one of the lines, and whether a line opens one that none closes
abbrev pub closed_in : List Line → ℕ → Bool
closed_in [] n = false
closed_in (m ∷ ms) n = (closes m && m.serial == n) || closed_in ms n

abbrev pub still_open : List Line → Line → Bool
still_open all l = opens l && not (closed_in all l.serial)

-- sums by home: the amounts of the lines of a kind, and the accepted grants
abbrev pub amounts : (ℕ → ℕ) → ℕ → (Line → Bool) → List Line → ℕ
amounts home_of h q [] = 0
amounts home_of h q (l ∷ ls) = cond (q l && home_of l.account == h) l.amount 0 + amounts home_of h q ls

abbrev pub granted_by : (ℕ → ℕ) → ℕ → Call → ℕ → ℕ
granted_by home_of h (Open _ _ _ _) returned = 0
granted_by home_of h (Use _ _) returned = 0
granted_by home_of h (Duty _) returned = 0
granted_by home_of h (End _) returned = 0
granted_by home_of h (Time _) returned = 0
granted_by home_of h (SetRoom _ _) returned = 0
granted_by home_of h (Grant account amount) returned = cond (returned == 0 && home_of account == h) amount 0
granted_by home_of h (SetBadge _ _ _ _) returned = 0
granted_by home_of h (SetLot _ _ _ _ _ _) returned = 0
granted_by home_of h (DropBadge _) returned = 0
granted_by home_of h (DropLot _) returned = 0

abbrev pub grants : (ℕ → ℕ) → ℕ → List Entry → ℕ
grants home_of h [] = 0
grants home_of h (e ∷ es) = granted_by home_of h e.call e.returned + grants home_of h es

-- what a journal and the monitor's state after it show
pub record Lawful (p : Policy) (badges : List Badge) (lots : List Lot) (homes : List ℕ) (es : List Entry) (s : State) : Type 0 where
  -- each open access passes its staying question, and each revocation was just
  pub open_pass : (a : Access) → In a (replay es (new_scene badges lots)).accesses → fails p (replay es (new_scene badges lots)) a ≡ false
  pub revoked_justly : JustJournal p es (new_scene badges lots)
  -- each line was called for; serials open once and close once, opening first
  pub lines_called_for : (e : Entry) → In e es → (l : Line) → In l e.lines →
      called_for l.kind l.serial e.call e.returned ≡ true
  pub opened_once : Distinct (serials opens (lines_of es))
  pub closed_once : Distinct (serials closes (lines_of es))
  pub opened_first : (before after : List Line) (l : Line) → lines_of es ≡ before ++ (l ∷ after) → closes l ≡ true →
      In l.serial (serials opens before)
  -- the monitor's records are the journal's, and what is open is what was opened and not closed
  pub records_agree : s.scene ≡ replay es (new_scene badges lots)
  pub open_not_closed : (a : Access) → In a s.scene.accesses →
      In a.serial (serials opens (lines_of es)) × (In a.serial (serials closes (lines_of es)) → ⊥)
  pub not_closed_open : (n : ℕ) → In n (serials opens (lines_of es)) → (In n (serials closes (lines_of es)) → ⊥) →
      (a : Access) × (In a s.scene.accesses × (a.serial ≡ n))
  -- accounts keep their homes, every open hold can be settled, and for each home the grants are the charges, the open
  -- holds and what is left
  pub homes_kept : s.books.homes ≡ homes
  pub holds_settle : (a : Access) → In a s.scene.accesses → settle_returns a.account (hold_of a) (charge_of a) s.books ≡ 0
  pub credit : (h : ℕ) →
      grants (home_in homes) h es
      ≡ amounts (home_in homes) h closes (lines_of es)
      + (amounts (home_in homes) h (still_open (lines_of es)) (lines_of es) + slice_index s.books.left h)

-- every shift from new is lawful
abbrev pub ShiftsLawful : Type 0
ShiftsLawful = (p : Policy) → Ordered p.before → (badges : List Badge) (lots : List Lot) (first last : State) (es : List Entry) →
    New badges lots first → Shift p first es last → Lawful p badges lots first.books.homes es last
