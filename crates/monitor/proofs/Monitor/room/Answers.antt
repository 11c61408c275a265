-- A temperature that is passed on is the same number. Assumes nothing.
use Rattle.std.proofs.Common.{length, ℤ, subst, w64, to_z, of_z}
use Rattle.std.proofs.lemmas.Int.{to_z-of_z}
use Rattle.records.specs.Numbers.{returned_number}
use Rattle.records.specs.declared.Call.TheVariants.{SetRoom}
use Rattle.machine.specs.State.{Policy, State}
use Rattle.machine.specs.Checks.{first_applying, room_checks}
use Rattle.machine.specs.Scenes.{room_scene}
use Rattle.machine.specs.Step.{step}
use Rattle.tables.specs.Tables.{scene_of}
use Rattle.monitor.specs.Answered.{policy_by, state_by, Answered}
use Rattle.monitor.proofs.Calls.{scene_call}
use Rattle.monitor.proofs.Monitor.room.Goals as goal

pub returns : goal.returns
returns g c =
    let p : Policy = policy_by g.R.Rule.opening g.R.Rule.staying g.O.Order.before c.args.self.now in
    let s : State = state_by g.P.Purse.books c.args.self.now in
    let passed : ℤ = to_z w64 (of_z w64 c.args.temperature) in
    let after : State = state_by g.P.Purse.books c.finish.new.self in
    record {
      step = subst (λ (t : ℤ). Answered (step p s (length c.args.sheet.now) (SetRoom t c.args.phase)) c.finish.result after c.args.sheet.now c.finish.new.sheet)
          (to_z-of_z w64 c.args.temperature c.ranges.temperature)
          (scene_call p s (room_scene passed c.args.phase s.scene) (scene_of c.set_room-returned.new.self) c.set_room-returned.new.self.next_serial
          (returned_number c.set_room-returned.result) (first_applying (room_checks (length c.args.sheet.now) passed c.args.phase)) c.finish.result after c.args.sheet.now
          c.finish.new.sheet c.set_room-returned.ensures.returned c.set_room-returned.ensures.scene c.set_room-returned.ensures.serial c.finish.ensures.step);
      policy = c.finish.ensures.policy;
    }
