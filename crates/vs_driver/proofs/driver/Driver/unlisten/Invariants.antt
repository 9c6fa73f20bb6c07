use Rattle.std.proofs.Common.{◌≡◌, drop}
use Rattle.vs_driver_parts.specs.Connections.{all_closed, waiting_on}
use Rattle.vs_driver.proofs.driver.Driver.unlisten.Given as goal

-- closing those that are left closes all
abbrev pub invariant-loop-id : goal.invariant-loop-id
invariant-loop-id l = all_closed (drop l.id-index (waiting_on l.fn.port l.fn.self)) l.self ≡ all_closed (waiting_on l.fn.port l.fn.self) l.fn.self
