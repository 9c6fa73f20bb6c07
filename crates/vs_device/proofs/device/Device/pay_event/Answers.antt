use Rattle.std.proofs.Common.{◌≡◌, Bool, true, None, Result, Err, refl, sym, ap, rules}
use Rattle.vs_ring_port.specs.declared.failure.Failure.{Failure}
use Rattle.vs_device_parts.specs.State.{DeviceState}
use Rattle.vs_device.proofs.{EventPaying.{may_event, took_event, by_chain}, Ordered.pay_honest, Accounted.pay_accounted}
use Rattle.vs_device.proofs.device.Device.pay_event.Goals as goal

pub put_event-requires-clause-may : goal.put_event-requires-clause-may
put_event-requires-clause-may g c =
    let sound : c.args.self.now.failed ≡ None = rw (← c.self.view_is) (search rules) in
    let owed : c.args.self.now.event_owed ≡ true = rw (← c.self.view_is) (search rules) in
    let host = c.requires.may.0 in
    let faults = c.requires.may.1 in
    let next = may_event c.args.self.now sound owed c.take.result _ _ c.requires.may.2 (c.take.ensures.calls host faults) in
    (host, faults, rw c.in-Chain.is at next)

pub returns-in-Chain-clause-calls : goal.returns-in-Chain-clause-calls
returns-in-Chain-clause-calls g c = λ host faults.
    let sound : c.args.self.now.failed ≡ None = rw (← c.self.view_is) (search rules) in
    let owed : c.args.self.now.event_owed ≡ true = rw (← c.self.view_is) (search rules) in
    took_event c.args.self.now sound owed c.take.result _ _ _ _ (c.take.ensures.calls host faults)
    (by_chain c.args.self.now _ _ _ _ _ c.in-Chain.is (c.put_event.ensures.calls host faults))

pub returns-in-None-clause-calls : goal.returns-in-None-clause-calls
returns-in-None-clause-calls g c = λ host faults.
    let sound : c.args.self.now.failed ≡ None = rw (← c.self.view_is) (search rules) in
    let owed : c.args.self.now.event_owed ≡ true = rw (← c.self.view_is) (search rules) in
    took_event c.args.self.now sound owed c.take.result _ _ _ _ (c.take.ensures.calls host faults)
    (by_chain c.args.self.now _ _ _ _ _ c.in-None.is (refl, refl))

pub returns-in-Failed-clause-calls : goal.returns-in-Failed-clause-calls
returns-in-Failed-clause-calls g c = λ host faults.
    let sound : c.args.self.now.failed ≡ None = rw (← c.self.view_is) (search rules) in
    let owed : c.args.self.now.event_owed ≡ true = rw (← c.self.view_is) (search rules) in
    let end = ap (λ (u : DeviceState). let r : DeviceState × Result Bool Failure = (u, Err c.in-Failed.failure) in r) (sym c.fail.ensures) in
    took_event c.args.self.now sound owed c.take.result _ _ _ _ (c.take.ensures.calls host faults)
    (by_chain c.args.self.now _ _ _ _ _ c.in-Failed.is (end, refl))

pub returns-in-Chain-clause-honest : goal.returns-in-Chain-clause-honest
returns-in-Chain-clause-honest g c = pay_honest c.args.self.now _ _ _ (returns-in-Chain-clause-calls g c None 0)

pub returns-in-Chain-clause-bytes : goal.returns-in-Chain-clause-bytes
returns-in-Chain-clause-bytes g c = λ calls hands host. pay_accounted c.args.self.now _ _ _ (returns-in-Chain-clause-calls g c host 0) calls hands

pub returns-in-None-clause-honest : goal.returns-in-None-clause-honest
returns-in-None-clause-honest g c = pay_honest c.args.self.now _ _ _ (returns-in-None-clause-calls g c None 0)

pub returns-in-None-clause-bytes : goal.returns-in-None-clause-bytes
returns-in-None-clause-bytes g c = λ calls hands host. pay_accounted c.args.self.now _ _ _ (returns-in-None-clause-calls g c host 0) calls hands

pub returns-in-Failed-clause-honest : goal.returns-in-Failed-clause-honest
returns-in-Failed-clause-honest g c = pay_honest c.args.self.now _ _ _ (returns-in-Failed-clause-calls g c None 0)

pub returns-in-Failed-clause-bytes : goal.returns-in-Failed-clause-bytes
returns-in-Failed-clause-bytes g c = λ calls hands host. pay_accounted c.args.self.now _ _ _ (returns-in-Failed-clause-calls g c host 0) calls hands
