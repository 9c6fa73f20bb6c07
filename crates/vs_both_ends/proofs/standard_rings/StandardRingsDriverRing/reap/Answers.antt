use Rattle.std.proofs.Common.{◌≡◌, ℕ, List, Option, None, Some, true≢false, sym, subst}
use Rattle.vs_ring_list.specs.Ends.{Ends, driver_contents}
use Rattle.vs_ring_port.specs.{DriverCalls.DriverAllows, DriverCalls.Reap, declared.queue.Queue.Queue}
use Rattle.laws_plain_rings.specs.Exposed.{driver_told}
use Rattle.vs_both_ends.specs.View.{known}
use Rattle.vs_both_ends.proofs.standard_rings.StandardRingsDriverRing.reap.Goals as goal

-- what is allowed where both ends are known
allows : (queue : Queue) (page : Option (List ℕ)) (old new : Option Ends) (now : Ends) → known old ≡ now → old ≡ Some (known old)
    → DriverAllows (Reap queue) page (driver_told old) (driver_told new)
    → DriverAllows (Reap queue) page (driver_contents now) (driver_contents (known new))
allows queue page None new now seen is moves = absurd cc
allows queue page (Some w) None now seen is moves = absurd (true≢false (sym moves.honest))
allows queue page (Some w) (Some v) now seen is moves =
    subst (λ (x : Ends). DriverAllows (Reap queue) page (driver_contents x) (driver_contents v)) seen moves

pub returns-clause-contents : goal.returns-clause-contents
returns-clause-contents c =
    allows c.args.queue _ c.self.inside.rings.ends c.reap-answer.new.self.ends c.args.self.now c.self.view_is c.self.invariant
    c.reap-answer.ensures.contents
