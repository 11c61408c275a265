-- What a journal notes of calls, and what the machine answers to them. Assumes nothing.
use Rattle.std.specs.Prelude.{◌≡◌, ℕ, List, [], ◌∷◌, map, length, take, vec_items}
use Rattle.records.specs.Numbers.{returned_number}
use Rattle.records.specs.declared.Call.{Call}
use Rattle.records.specs.declared.Line.{Line}
use Rattle.machine.specs.State.{Policy, State}
use Rattle.machine.specs.Step.{Outcome}
use Rattle.machine.specs.Journal.{Entry as Replayed}
use Rattle.machine.specs.Runs.{outcomes, after_calls}
use Rattle.journal.specs.declared.Entry.{Entry}

-- a call with its fields, the four numbers that it answered, and the lines that it wrote
pub record Noted : Type 0 where
  pub call : Call
  pub returned : ℕ
  pub line_count : ℕ
  pub serial : ℕ
  pub questions : ℕ
  pub lines : List Line

-- of a call and its outcome
abbrev pub noted : Call → Outcome → Noted
noted call o = record {
  call = call;
  returned = o.returned;
  line_count = length o.lines;
  serial = o.serial;
  questions = o.questions;
  lines = o.lines;
}

-- of each call and its outcome
abbrev pub all_noted : List Call → List Outcome → List Noted
all_noted [] os = []
all_noted (call ∷ calls) [] = []
all_noted (call ∷ calls) (o ∷ os) = noted call o ∷ all_noted calls os

-- of calls in turn, each answered as the machine does at a sheet of 65 lines
abbrev pub notes : Policy → State → List Call → List Noted
notes p s calls = all_noted calls (outcomes p s calls)

-- of an entry
abbrev pub noted_in : Entry → Noted
noted_in e = record {
  call = e.call;
  returned = returned_number e.answer.returned;
  line_count = e.answer.lines;
  serial = e.answer.serial;
  questions = e.answer.questions;
  lines = vec_items e.lines;
}

-- what the law reads of an entry: the call, what it returned, and the lines
abbrev pub replayed : Entry → Replayed
replayed e = record { call = e.call; returned = returned_number e.answer.returned; lines = vec_items e.lines }

-- the first calls, as many as a number, were noted, and left a state
pub record NotedTo (p : Policy) (first : State) (calls : List Call) (n : ℕ) (entries : List Entry) (s : State) : Type 0 where
  pub counted : length entries ≡ n
  pub noted : map noted_in entries ≡ notes p first (take n calls)
  pub state : s ≡ after_calls p first (take n calls)
