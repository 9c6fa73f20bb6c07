use Rattle.std.{proofs.Common.{◌≡◌, true, Some, refl, subst}, specs.Option.IsSomeAnd}
use Rattle.vs_credit.specs.Credit.{free_of}
use Rattle.vs_flow.specs.Table.{entry_under, value_under}
use Rattle.vs_outside.specs.{Host.ReadsSome, declared.host_net.StreamRead.StreamRead}
use Rattle.vs_ring_port.specs.declared.device_ring.Chain.{Chain}
use Rattle.vs_device_parts.{proofs.Under.value_of, specs.{Calls.ReadStream, Filling.{bytes_read, filling_of}, Playing.{AllowsOnHost, MayRun, situation}, Receiving.Filling}}
use Rattle.vs_device_parts.specs.{Receiving.{may_read, read_answered, read_room}, State.{DeviceConnection, DeviceEntry}}
use Rattle.vs_device.proofs.{Reading.{answered, known, known_read, may_answered, may_ask, none_read, same_chain, some_and}, device.Device.read_stream.Goals.After-read_into-answer}
use Rattle.vs_device.proofs.device.Device.read_stream.Goals as goal

-- the read, as one of the connection in the slot
module _ (g : _) (c : After-read_into-answer g) where
  held : c.args.self.now.chain ≡ Some c.in-Some.chain
  held = rw (← c.self.view_is) c.in-Some.is

  allowed : (e : DeviceEntry) → entry_under c.args.self.now.table c.args.slot ≡ Some e
      → AllowsOnHost (ReadStream e.value.stream (read_room (free_of e.value.end.credit) c.in-Some.chain))
      (c.read_into-answer.result, bytes_read c.read_into-answer.result c.read_into-answer.new.out) (g.H.HostNet.contents c.args.host.now)
      (g.H.HostNet.faults c.args.host.now) (g.H.HostNet.contents c.read_into-answer.new.host) (g.H.HostNet.faults c.read_into-answer.new.host)
  allowed e is =
      let k = known_read c.args.slot c.args.self.now.table c.in-Some.chain _ _ _ e c.requires.known is (c.read_room.ensures.room c.in-Some.chain refl) in
      rw (k.stream_is, k.room_is) at c.read_into-answer.ensures.allowed

pub read_into-answer-requires-clause-open : goal.read_into-answer-requires-clause-open
read_into-answer-requires-clause-open g c =
    let u = known c.args.slot c.args.self.now.table _ _ c.requires.known in
    rw u.reads.stream_is (may_ask c.in-Some.chain u.entry (filling_of c.args.self.now c.args.fill.now) (rw (← c.self.view_is) c.in-Some.is) _ (c.requires.may u.entry u.found))

pub returns-then-is_again-clause-calls : goal.returns-then-is_again-clause-calls
returns-then-is_again-clause-calls g c = λ e is.
    let k = (goal.at.returns-then-is_again-clause-calls g c).After-read_into-answer in
    let q : Filling = filling_of c.args.self.now c.args.fill.now in
    answered c.in-Some.chain e q (held g k) c.read_into-answer.result _ q _ _ _ (allowed g k e is _)
    (none_read c.in-Some.chain e c.read_into-answer.result _ q _ (c.if-is_again.ensures refl))

pub read_answered-requires-clause-reads : goal.read_answered-requires-clause-reads
read_answered-requires-clause-reads g c =
    let u = known c.args.slot c.args.self.now.table _ _ c.requires.known in
    some_and _ u.entry.value (λ (x : DeviceConnection). may_read x.end x.end.state ≡ true) (value_of c.args.self.now.table c.args.slot u.entry u.found) u.reads.reads

pub read_answered-requires-clause-some : goal.read_answered-requires-clause-some
read_answered-requires-clause-some g c =
    let k = (goal.at.read_answered-requires-clause-some g c).After-read_into-answer in
    let u = known c.args.slot c.args.self.now.table _ _ c.requires.known in
    let r = known_read c.args.slot c.args.self.now.table c.in-Some.chain _ _ _ u.entry c.requires.known u.found (c.read_room.ensures.room c.in-Some.chain refl) in
    let answer : StreamRead = c.read_into-answer.result in
    some_and _ c.in-Some.chain (λ (x : Chain). IsSomeAnd (value_under c.args.self.now.table c.args.slot) (λ d. ReadsSome answer (read_room (free_of d.end.credit) x))) (held g k)
    (some_and _ u.entry.value (λ (d : DeviceConnection). ReadsSome answer (read_room (free_of d.end.credit) c.in-Some.chain))
    (value_of c.args.self.now.table c.args.slot u.entry u.found) (rw r.room_is at c.read_into-answer.ensures.some))

pub read_answered-requires-clause-may : goal.read_answered-requires-clause-may
read_answered-requires-clause-may g c = λ e other is held_other.
    let k = (goal.at.read_answered-requires-clause-may g c).After-read_into-answer in
    let answer : StreamRead = c.read_into-answer.result in
    let q : Filling = filling_of c.args.self.now c.args.fill.now in
    let to = situation (g.R.DeviceRing.contents c.args.ring.now) (g.H.HostNet.contents c.read_into-answer.new.host) (g.H.HostNet.faults c.read_into-answer.new.host) in
    let P : Chain → Type 0 = λ x. MayRun (read_answered x e answer (bytes_read answer c.read_into-answer.new.out) q) to in
    subst P (same_chain _ _ _ (held g k) held_other) (may_answered c.in-Some.chain e q (held g k) answer _ _ to (c.requires.may e is) (allowed g k e is _))

pub returns-clause-calls : goal.returns-clause-calls
returns-clause-calls g c = λ e is.
    let k = (goal.at.returns-clause-calls g c).After-read_into-answer in
    answered c.in-Some.chain e (filling_of c.args.self.now c.args.fill.now) (held g k) c.read_into-answer.result _ _ _ _ _ (allowed g k e is _)
    (c.read_answered.ensures.calls e c.in-Some.chain is (held g k))
