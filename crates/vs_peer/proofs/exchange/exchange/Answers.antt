use Rattle.std.proofs.Common.{◌≡◌, Err, Result, refl, subst, sym, ◌∙◌, arith}
use Rattle.vs_peer.specs.{Exchanging.Exchanges, declared.stop.Stop.Stop}
use Rattle.vs_peer.proofs.{Exchanges.{done, fails, goes_on, starts, waits}, Waits.{none_paused, paused_before, paused_once}}
use Rattle.vs_peer.proofs.exchange.exchange.Goals as goal

pub loop-init : goal.loop-init
loop-init g c = record {
  was = c.requires.open;
  exchanged = starts c.args.id c.args.bytes.now (g.H.HostNet.contents c.args.host.now) (g.K.Sink.contents c.args.out.now);
  host_faults = refl;
  sink_faults = refl;
  pauses = none_paused _;
}

pub returns-in_err-step-clause-exchanges : goal.returns-in_err-step-clause-exchanges
returns-in_err-step-clause-exchanges g c =
    let e = c.in_err-step.field-0.0 in
    let is : c.from_residual.result ≡ Err e = grind (arith, c.from_residual.ensures) in
    let host = g.H.HostNet.contents c.args.host.now in
    let mid = g.H.HostNet.contents c.loop.host in
    let after = g.H.HostNet.contents c.step.new.host in
    let out = g.K.Sink.contents c.args.out.now in
    let out' = g.K.Sink.contents c.loop.out in
    let out'' = g.K.Sink.contents c.step.new.out in
    let P : Result (Unit {0}) Stop → Type 0 = λ r. Exchanges c.args.id c.args.bytes.now host after out out'' r in
    subst P (sym is) (fails c.args.id c.args.bytes.now c.loop.sending c.step.new.sending host mid after out out' out''
    c.loop.invariant.exchanged e
    c.step.ensures.goes_on c.step.ensures.sending c.in_err-step.ensures.steps)

pub returns-in-Done-clause-exchanges : goal.returns-in-Done-clause-exchanges
returns-in-Done-clause-exchanges g c =
    let host = g.H.HostNet.contents c.args.host.now in
    let mid = g.H.HostNet.contents c.loop.host in
    let after = g.H.HostNet.contents c.step.new.host in
    let out = g.K.Sink.contents c.args.out.now in
    let out' = g.K.Sink.contents c.loop.out in
    let out'' = g.K.Sink.contents c.step.new.out in
    done c.args.id c.args.bytes.now c.step.new.sending host after out out'' c.in_ok-step.field-0 c.in-Done.is
    (goes_on c.args.id c.args.bytes.now c.loop.sending c.step.new.sending host mid after out out' out'' c.loop.invariant.exchanged
    c.step.ensures.goes_on
    c.step.ensures.sending c.in_ok-step.ensures.steps.0)
    c.in_ok-step.ensures.steps.1

pub loop-preserved-in-Moved : goal.loop-preserved-in-Moved
loop-preserved-in-Moved g c =
    let host = g.H.HostNet.contents c.args.host.now in
    let mid = g.H.HostNet.contents c.loop.host in
    let after = g.H.HostNet.contents c.step.new.host in
    let out = g.K.Sink.contents c.args.out.now in
    let out' = g.K.Sink.contents c.loop.out in
    let out'' = g.K.Sink.contents c.step.new.out in
    record {
      was = c.step.ensures.open;
      exchanged = goes_on c.args.id c.args.bytes.now c.loop.sending c.step.new.sending host mid after out out' out''
          c.loop.invariant.exchanged c.step.ensures.goes_on
          c.step.ensures.sending c.in_ok-step.ensures.steps.0;
      host_faults = c.in_ok-step.ensures.host_faults ∙ c.loop.invariant.host_faults;
      sink_faults = c.in_ok-step.ensures.sink_faults ∙ c.loop.invariant.sink_faults;
      pauses = paused_before c.loop.waited 0 _ _ c.loop.invariant.pauses (omega arith);
    }

pub loop-preserved : goal.loop-preserved
loop-preserved g c =
    let host = g.H.HostNet.contents c.args.host.now in
    let mid = g.H.HostNet.contents c.loop.host in
    let after = g.H.HostNet.contents c.step.new.host in
    let out = g.K.Sink.contents c.args.out.now in
    let out' = g.K.Sink.contents c.loop.out in
    let out'' = g.K.Sink.contents c.step.new.out in
    record {
      was = c.step.ensures.open;
      exchanged = goes_on c.args.id c.args.bytes.now c.loop.sending c.step.new.sending host mid after out out' out''
          c.loop.invariant.exchanged c.step.ensures.goes_on
          c.step.ensures.sending c.in_ok-step.ensures.steps.0;
      host_faults = c.in_ok-step.ensures.host_faults ∙ c.loop.invariant.host_faults;
      sink_faults = c.in_ok-step.ensures.sink_faults ∙ c.loop.invariant.sink_faults;
      pauses = paused_once c.loop.waited _ _ _ _ c.loop.invariant.pauses c.gives_up.ensures.steps c.gives_up.ensures.pauses;
    }

pub returns-then-gives_up-clause-exchanges : goal.returns-then-gives_up-clause-exchanges
returns-then-gives_up-clause-exchanges g c =
    let host = g.H.HostNet.contents c.args.host.now in
    let mid = g.H.HostNet.contents c.loop.host in
    let after = g.H.HostNet.contents c.step.new.host in
    let out = g.K.Sink.contents c.args.out.now in
    let out' = g.K.Sink.contents c.loop.out in
    let out'' = g.K.Sink.contents c.step.new.out in
    waits c.args.id c.args.bytes.now c.step.new.sending host after out out'' c.in_ok-step.field-0 c.in-Still.is
    (goes_on c.args.id c.args.bytes.now c.loop.sending c.step.new.sending host mid after out out' out'' c.loop.invariant.exchanged
    c.step.ensures.goes_on
    c.step.ensures.sending c.in_ok-step.ensures.steps.0)
    c.in_ok-step.ensures.steps.1
