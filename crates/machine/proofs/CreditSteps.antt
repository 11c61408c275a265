-- Every call keeps the lines, the open accesses and the books together. Assumes nothing.
use Rattle.std.proofs.Common.{◌≡◌, ℕ, ◌+◌, ◌≤◌, false, cond, ◌&&◌, eqb, ltb, List, [], ◌++◌, None, sym, refl, ap, subst, append_assoc, append-nil, arith}
use Rattle.std.proofs.lemmas.Bool.Decides.{nat_tests}
use Rattle.records.specs.declared.Access.{Access}
use Rattle.records.specs.declared.Line.{Line}
use Rattle.records.specs.declared.Kind.TheVariants.{Ended}
use Rattle.records.specs.declared.Call.{Call}
use Rattle.records.specs.declared.Call.TheVariants.{Open, Use, Duty, End, Time, SetRoom, Grant, SetBadge, SetLot, DropBadge, DropLot}
use Rattle.register.specs.Lists.{In}
use Rattle.usage.specs.Books.{Books, home_in, hold_returns, add_returns}
use Rattle.machine.specs.State.{Policy, State, Scene, access_of, hold_of, with_scene}
use Rattle.machine.specs.Scenes.{after_use, after_duty, time_scene, room_scene, badge_scene, lot_scene, drop_badge_scene, drop_lot_scene}
use Rattle.machine.specs.Sweep.{sweep}
use Rattle.machine.specs.Step.{asked_for, denial, written, moved, step}
use Rattle.machine.specs.Checks.{checks, first_applying}
use Rattle.machine.specs.Journal.{is_opening, is_closing}
use Rattle.machine.specs.Law.{granted_by}
use Rattle.machine.proofs.Cases.{by_step}
use Rattle.machine.proofs.Checked.{none_apply, access_open, used_within, grant_accepted, hold_accepted, Denies, denies}
use Rattle.machine.proofs.Serials.{ApartSerials, apart_moved}
use Rattle.machine.proofs.Lines.{tags}
use Rattle.machine.proofs.CreditKept.{Fits, Kept, kept_alike, kept_scene, kept_changed, kept_granted, kept_denied, kept_opened, kept_closed, kept_swept}

-- a call that is not accepted grants nothing
nothing_granted : (home_of : ℕ → ℕ) (h : ℕ) (call : Call) (n : ℕ) → eqb n 0 ≡ false → granted_by home_of h call n ≡ 0
nothing_granted home_of h (Open _ _ _ _) n e = refl
nothing_granted home_of h (Use _ _) n e = refl
nothing_granted home_of h (Duty _) n e = refl
nothing_granted home_of h (End _) n e = refl
nothing_granted home_of h (Time _) n e = refl
nothing_granted home_of h (SetRoom _ _) n e = refl
nothing_granted home_of h (Grant account amount) n e = ap (λ b. cond (b && eqb (home_of account) h) amount 0) e
nothing_granted home_of h (SetBadge _ _ _ _) n e = refl
nothing_granted home_of h (SetLot _ _ _ _ _ _) n e = refl
nothing_granted home_of h (DropBadge _) n e = refl
nothing_granted home_of h (DropLot _) n e = refl

hold_known : (a amount : ℕ) (b : Books) → hold_returns a amount b ≡ 0 → a ≤ 15
hold_known a amount b e = grind (arith, nat_tests)

module _ {homes : List ℕ} {s : State} {ls : List Line} {g : ℕ → ℕ} (kept : Kept homes s ls g) where
  -- a call that grants nothing, and one that writes no line itself
  ungranted : Kept homes s ls (λ h. g h + 0)
  ungranted = kept_alike kept (λ h. omega arith)

  unwritten : Kept homes s (ls ++ []) g
  unwritten = subst (λ v. Kept homes s v g) (sym (append-nil ls)) kept

module _ {homes : List ℕ} (p : Policy) (s : State) {ls : List Line} {g : ℕ → ℕ} (kept : Kept homes s ls g) (apart : ApartSerials s) where
  -- a scene with the same accesses
  same_accesses : (x : Scene) → s.scene.accesses ≡ x.accesses → Kept homes (with_scene s x) (ls ++ []) (λ h. g h + 0)
  same_accesses x e = unwritten (ungranted (kept_scene kept x (ap tags e) (λ a i. kept.fits a (subst (λ v. In a v) (sym e) i))))

  -- what an accepted call moves and writes itself
  kept_moved : (sheet : ℕ) (call : Call) → first_applying (checks s sheet call) ≡ 0 → denial p s call ≡ None →
      Kept homes (moved s call) (ls ++ written s call) (λ h. g h + granted_by (home_in homes) h call 0)
  kept_moved sheet (Open n c r units) pass undenied =
      let a : Access = asked_for s n c r units in
      let accepts : hold_returns a.account (hold_of a) s.books ≡ 0 = hold_accepted p s a undenied in
      ungranted (kept_opened kept a s.scene.room.clock 0 refl (fits accepts) accepts)
    where
      fits : hold_returns (asked_for s n c r units).account (hold_of (asked_for s n c r units)) s.books ≡ 0 → Fits (asked_for s n c r units)
      fits accepts = record {
        covered = omega arith;
        known = hold_known (asked_for s n c r units).account (hold_of (asked_for s n c r units)) s.books accepts;
      }
  kept_moved sheet (Use serial units) pass _ =
      let clear = none_apply (checks s sheet (Use serial units)) refl pass in
      unwritten (ungranted (kept_changed kept serial (after_use units s.scene.room.clock) (λ _. refl)
      (λ a e _. used_within s.scene serial units clear.1.1.1.0 a e)))
  kept_moved sheet (Duty serial) pass _ =
      unwritten (ungranted (kept_changed kept serial (after_duty s.scene.room.clock) (λ _. refl) (λ a _ fits. fits.covered)))
  kept_moved sheet (End serial) pass _ =
      let clear = none_apply (checks s sheet (End serial)) refl pass in
      ungranted (kept_closed kept (access_of s.scene serial) Ended s.scene.room.clock 0 refl refl apart.apart
      (access_open s.scene serial clear.1.1.0))
  kept_moved sheet (Time minutes) pass _ = same_accesses (time_scene minutes s.scene) refl
  kept_moved sheet (SetRoom t phase) pass _ = same_accesses (room_scene t phase s.scene) refl
  kept_moved sheet (Grant account amount) pass _ =
      unwritten (kept_granted kept account amount (grant_accepted (ltb sheet 65) (add_returns account amount s.books) pass))
  kept_moved sheet (SetBadge n level role account) pass _ = same_accesses (badge_scene n level role account s.scene) refl
  kept_moved sheet (SetLot c level role stop limit prices) pass _ = same_accesses (lot_scene c level role stop limit prices s.scene) refl
  kept_moved sheet (DropBadge n) pass _ = same_accesses (drop_badge_scene n s.scene) refl
  kept_moved sheet (DropLot c) pass _ = same_accesses (drop_lot_scene c s.scene) refl

  -- every call
  pub kept_step : (sheet : ℕ) (call : Call) →
      Kept homes (step p s sheet call).after (ls ++ (step p s sheet call).lines) (λ h. g h + granted_by (home_in homes) h call (step p s sheet call).returned)
  kept_step sheet call =
      by_step p s sheet call (λ o. Kept homes o.after (ls ++ o.lines) (λ h. g h + granted_by (home_in homes) h call o.returned))
      (λ n e. unwritten (unchanged kept n e))
      (λ d _ e.
      let line : Denies call d = denies p s call d e in
      unchanged (kept_denied kept d.line (ap is_opening line.kind) (ap is_closing line.kind)) d.returned line.returned)
      (λ pass undenied.
      subst (λ v. Kept homes (sweep p (moved s call)).after v (λ h. g h + granted_by (home_in homes) h call 0))
      (append_assoc ls (written s call) (sweep p (moved s call)).lines)
      (kept_swept p (moved s call) (ls ++ written s call) (apart_moved s call apart) (kept_moved sheet call pass undenied)))
    where
      unchanged : {ms : List Line} → Kept homes s ms g → (n : ℕ) → eqb n 0 ≡ false → Kept homes s ms (λ h. g h + granted_by (home_in homes) h call n)
      unchanged k n e = kept_alike k (λ h. omega (arith, nothing_granted (home_in homes) h call n e))
