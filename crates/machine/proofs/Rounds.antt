-- A sweep round by round: it is done where none is to be revoked, and else revokes one and goes on. Assumes nothing.
use Rattle.std.proofs.Common.{◌≡◌, ℕ, zero, suc, [], length, Some, None, sym, refl, ap, ◌∙◌}
use Rattle.records.specs.declared.Access.{Access}
use Rattle.records.specs.declared.Kind.TheVariants.{Revoked}
use Rattle.machine.specs.State.{Policy, State, situation}
use Rattle.machine.specs.Lines.{closing_line}
use Rattle.machine.specs.Sweep.{Swept, close, to_revoke, one_more, round, rounds, sweep}
use Rattle.machine.proofs.Cases.{length_close}

abbrev pub swept_at : ℕ → State → Swept
swept_at questions s = record { lines = []; questions = questions; after = s }

-- nothing to revoke: one round of questions, and nothing changes
abbrev pub done : State → Swept
done s = swept_at (length s.scene.accesses) s

-- one round, with what the rounds after it give
one_round : (p : Policy) (n : ℕ) (s : State) (a : Access) → length s.scene.accesses ≡ suc n → to_revoke p s.scene ≡ Some a →
    rounds p (length s.scene.accesses) s
    ≡ one_more (length s.scene.accesses) (closing_line Revoked s.scene.room.clock (p.staying (situation s.scene a)) a) (rounds p n (close a s))
unfolding rounds
one_round p n s a few e =
    ap (λ k. rounds p k s) few ∙ ap (λ o. round p s o (λ t. rounds p n t)) e

pub sweep_more : (p : Policy) (s : State) (a : Access) → to_revoke p s.scene ≡ Some a →
    sweep p s
    ≡ one_more (length s.scene.accesses) (closing_line Revoked s.scene.room.clock (p.staying (situation s.scene a)) a) (sweep p (close a s))
sweep_more p s a e = one_round p (length (close a s).scene.accesses) s a (sym (length_close p s a e)) e

none_left : (p : Policy) (n : ℕ) (s : State) → length s.scene.accesses ≡ n → to_revoke p s.scene ≡ None → rounds p n s ≡ done s
unfolding rounds
none_left p zero s few e = ap (λ k. swept_at k s) (sym few)
none_left p (suc n) s few e = ap (λ o. round p s o (λ t. rounds p n t)) e

pub sweep_done : (p : Policy) (s : State) → to_revoke p s.scene ≡ None →
    sweep p s ≡ done s
sweep_done p s e = none_left p (length s.scene.accesses) s refl e
