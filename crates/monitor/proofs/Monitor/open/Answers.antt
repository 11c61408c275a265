use Rattle.std.proofs.Common.{◌≡◌, ℕ, true, List, length, sym, ap, subst}
use Rattle.register.specs.Lists.{some}
use Rattle.machine.specs.State.{is_lot}
use Rattle.tables.specs.Tables.{scene_of, unbooked}
use Rattle.monitor.proofs.Calls.{open_passed}
use Rattle.monitor.proofs.Monitor.open.Goals as goal

pub decide-requires : goal.decide-requires
decide-requires g c =
    let h = open_passed (unbooked c.args.self.now.tables) (length c.args.sheet.now) c.args.badge c.args.lot c.args.right c.args.units c.in-Ok.ensures.0 in
    record {
      room = h.room;
      place = h.place;
      serial = h.serial;
      next = ap (λ a. a.serial) c.in-Ok.ensures.1;
      lot = subst (λ (d : List ℕ). some (is_lot d) (scene_of c.args.self.now.tables).lots ≡ true) (sym (ap (λ a. a.lot) c.in-Ok.ensures.1)) h.lot;
    }
