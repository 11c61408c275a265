use Rattle.tables.specs.Tables.{scene_of}
use Rattle.tables.proofs.Keeping.{found_again}
use Rattle.monitor.proofs.Monitor.end.Goals as goal

pub end_access-requires-clause-open_now : goal.end_access-requires-clause-open_now
end_access-requires-clause-open_now g c = found_again c.args.serial (scene_of c.args.self.now.tables).accesses c.in-Ok.access c.in-Ok.ensures.found
