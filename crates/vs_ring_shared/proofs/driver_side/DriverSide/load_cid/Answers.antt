use Rattle.std.proofs.Common.{sym, subst}
use Rattle.vs_ring_rule.specs.Rule.{Seated}
use Rattle.vs_ring_shared.{specs.Countings.CountsDriver, proofs.Countings.count_marked, proofs.DriverCalls.loads_cid}
use Rattle.vs_ring_shared.proofs.driver_side.DriverSide.load_cid.Goals as goal

pub invariant_of-self : goal.invariant_of-self
invariant_of-self c =
    let d = c.self.inside in
    let me = d.port.token.me in
    let call = c.load_cid in (
      rw call.ensures.size (loads_cid d.port.size call.result call.ensures.told.0 me call.new.self.token.me d.rx d.tx d.event call.ensures.told.3
          c.self.invariant.0),
      subst (λ (m : Seated). CountsDriver m.0.log m.0.tx.staged d.counters) (sym call.ensures.told.3)
          (count_marked me.0.log me.0.tx.staged d.counters call.result c.self.invariant.1),
    )
