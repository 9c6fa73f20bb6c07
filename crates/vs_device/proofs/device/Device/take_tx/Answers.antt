use Rattle.std.proofs.Common.{◌≡◌, false, length, None, refl, sym, ap, rules, nat_le}
use Rattle.vs_limits.specs.declared.TheConstants.{DEVICE_REPLIES}
use Rattle.vs_device_parts.specs.{State.DeviceState, declared.answers.Taken.Taken}
use Rattle.vs_device.proofs.{Takings.{may_next, took_next, by_next}, Ordered.{take_honest, take_streams}, Accounted.take_accounted}
use Rattle.laws_proxy.proofs.Account.Judging.{take_judged}
use Rattle.vs_device_parts.specs.declared.answers.Taken.TheVariants as taken
use Rattle.vs_device.proofs.device.Device.take_tx.Goals as goal

pub take_chain-requires-clause-may : goal.take_chain-requires-clause-may
take_chain-requires-clause-may g c =
    let sound : c.args.self.now.failed ≡ None = rw (← c.self.view_is) (search rules) in
    let room : nat_le DEVICE_REPLIES (length c.args.self.now.replies) ≡ false = rw (← c.self.view_is) (search rules) in
    let took = c.take.ensures.calls (g.H.HostNet.contents c.args.host.now) (g.H.HostNet.faults c.args.host.now) in
    let next = may_next c.args.self.now sound room c.take.result _ _ c.requires.may took in rw c.in-Chain.is at next

pub returns-in-Chain-clause-calls : goal.returns-in-Chain-clause-calls
returns-in-Chain-clause-calls g c =
    let sound : c.args.self.now.failed ≡ None = rw (← c.self.view_is) (search rules) in
    let room : nat_le DEVICE_REPLIES (length c.args.self.now.replies) ≡ false = rw (← c.self.view_is) (search rules) in
    let took = c.take.ensures.calls (g.H.HostNet.contents c.args.host.now) (g.H.HostNet.faults c.args.host.now) in
    took_next c.args.self.now sound room c.take.result _ _ _ _ took
    (by_next c.args.self.now _ _ _ _ _ _ c.in-Chain.is c.take_chain.ensures.calls)

pub returns-in-None-clause-calls : goal.returns-in-None-clause-calls
returns-in-None-clause-calls g c =
    let sound : c.args.self.now.failed ≡ None = rw (← c.self.view_is) (search rules) in
    let room : nat_le DEVICE_REPLIES (length c.args.self.now.replies) ≡ false = rw (← c.self.view_is) (search rules) in
    let took = c.take.ensures.calls (g.H.HostNet.contents c.args.host.now) (g.H.HostNet.faults c.args.host.now) in
    took_next c.args.self.now sound room c.take.result _ _ _ _ took (by_next c.args.self.now _ _ _ _ _ _ c.in-None.is (refl, refl))

pub returns-in-Failed-clause-calls : goal.returns-in-Failed-clause-calls
returns-in-Failed-clause-calls g c =
    let sound : c.args.self.now.failed ≡ None = rw (← c.self.view_is) (search rules) in
    let room : nat_le DEVICE_REPLIES (length c.args.self.now.replies) ≡ false = rw (← c.self.view_is) (search rules) in
    let took = c.take.ensures.calls (g.H.HostNet.contents c.args.host.now) (g.H.HostNet.faults c.args.host.now) in
    let end = ap (λ (u : DeviceState). let r : DeviceState × Taken = (u, taken.Failed c.in-Failed.failure) in r) (sym c.fail.ensures) in
    took_next c.args.self.now sound room c.take.result _ _ _ _ took (by_next c.args.self.now _ _ _ _ _ _ c.in-Failed.is (end, refl))

pub returns-in-Chain-clause-streams : goal.returns-in-Chain-clause-streams
returns-in-Chain-clause-streams g c = take_streams c.args.self.now _ _ _ (returns-in-Chain-clause-calls g c)

pub returns-in-Chain-clause-honest : goal.returns-in-Chain-clause-honest
returns-in-Chain-clause-honest g c = take_honest c.args.self.now _ _ _ (returns-in-Chain-clause-calls g c)

pub returns-in-Chain-clause-bytes : goal.returns-in-Chain-clause-bytes
returns-in-Chain-clause-bytes g c = take_accounted c.args.self.now _ _ _ (returns-in-Chain-clause-calls g c)

pub returns-in-None-clause-streams : goal.returns-in-None-clause-streams
returns-in-None-clause-streams g c = take_streams c.args.self.now _ _ _ (returns-in-None-clause-calls g c)

pub returns-in-None-clause-honest : goal.returns-in-None-clause-honest
returns-in-None-clause-honest g c = take_honest c.args.self.now _ _ _ (returns-in-None-clause-calls g c)

pub returns-in-None-clause-bytes : goal.returns-in-None-clause-bytes
returns-in-None-clause-bytes g c = take_accounted c.args.self.now _ _ _ (returns-in-None-clause-calls g c)

pub returns-in-Failed-clause-streams : goal.returns-in-Failed-clause-streams
returns-in-Failed-clause-streams g c = take_streams c.args.self.now _ _ _ (returns-in-Failed-clause-calls g c)

pub returns-in-Failed-clause-honest : goal.returns-in-Failed-clause-honest
returns-in-Failed-clause-honest g c = take_honest c.args.self.now _ _ _ (returns-in-Failed-clause-calls g c)

pub returns-in-Failed-clause-bytes : goal.returns-in-Failed-clause-bytes
returns-in-Failed-clause-bytes g c = take_accounted c.args.self.now _ _ _ (returns-in-Failed-clause-calls g c)

pub returns-in-Chain-clause-judged : goal.returns-in-Chain-clause-judged
returns-in-Chain-clause-judged g c calls later = take_judged c.args.self.now calls later (c.take_chain.new.self, c.take_chain.result)

pub returns-in-None-clause-judged : goal.returns-in-None-clause-judged
returns-in-None-clause-judged g c calls later = take_judged c.args.self.now calls later (c.args.self.now, taken.None)

pub returns-in-Failed-clause-judged : goal.returns-in-Failed-clause-judged
returns-in-Failed-clause-judged g c calls later = take_judged c.args.self.now calls later (c.fail.new.self, taken.Failed c.in-Failed.failure)
