use Rattle.std.proofs.{Common.{arith, ◌≡◌, ◌<◌, ℕ, List, length, refl, subst, ◌∙◌}, lemmas.Bool.Decides.nat_tests}
use Rattle.vs_ring_port.specs.{Contents.Write, DeviceCalls.DeviceAllows}
use Rattle.vs_device_parts.{specs.Playing.situation, proofs.{Held.still_held, Writes.{may_return_header, may_write_payload, may_return_packet, header_written, packet_written}}}
use Rattle.vs_device_parts.proofs.packets.write_packet.Goals as goal

pub done-requires-clause-written : goal.done-requires-clause-written
done-requires-clause-written g c =
    let from = g.R.DeviceRing.contents c.args.ring.now in
    let to = g.R.DeviceRing.contents c.write.new.self in
    let P : List ℕ → Type 0 = λ bytes. DeviceAllows (Write c.args.chain 0 bytes) tt from to in
    let none : length c.args.payload.now ≡ 0 = grind (arith, nat_tests, c.is_empty.ensures, c.if-is_empty.true) in
    may_return_header c.args.chain c.args.header.now c.args.payload.now (situation from c.requires.may.0 c.requires.may.1) (situation to c.requires.may.0 c.requires.may.1)
    none c.requires.may.2 (subst P c.encode.ensures.bytes c.write.ensures.contents, refl, refl, tt) (omega arith)

pub write-requires-else-is_empty-clause-is_held : goal.write-requires-else-is_empty-clause-is_held
write-requires-else-is_empty-clause-is_held g c = still_held (g.R.DeviceRing.held c.args.ring.now) (g.R.DeviceRing.held c.write.new.self) c.args.chain c.write.ensures.held c.requires.is_held

pub write-requires-else-is_empty-clause-no_gap : goal.write-requires-else-is_empty-clause-no_gap
write-requires-else-is_empty-clause-no_gap g c =
    let from = g.R.DeviceRing.contents c.args.ring.now in
    let to = g.R.DeviceRing.contents c.write.new.self in
    let P : List ℕ → Type 0 = λ bytes. DeviceAllows (Write c.args.chain 0 bytes) tt from to in
    let some : 0 < length c.args.payload.now = grind (arith, nat_tests, c.is_empty.ensures, c.if-is_empty.false) in
    may_write_payload c.args.chain c.args.header.now c.args.payload.now (situation from c.requires.may.0 c.requires.may.1) (situation to c.requires.may.0 c.requires.may.1)
    some c.requires.may.2 (subst P c.encode.ensures.bytes c.write.ensures.contents, refl, refl, tt)

pub done-requires-else-is_empty-clause-is_held : goal.done-requires-else-is_empty-clause-is_held
done-requires-else-is_empty-clause-is_held g c =
    still_held (g.R.DeviceRing.held c.args.ring.now) (g.R.DeviceRing.held c.write-else-is_empty.new.self) c.args.chain
    (c.write-else-is_empty.ensures.held ∙ c.write.ensures.held) c.requires.is_held

pub done-requires-else-is_empty-clause-written : goal.done-requires-else-is_empty-clause-written
done-requires-else-is_empty-clause-written g c =
    let from = g.R.DeviceRing.contents c.args.ring.now in
    let to = g.R.DeviceRing.contents c.write.new.self in
    let last = g.R.DeviceRing.contents c.write-else-is_empty.new.self in
    let P : List ℕ → Type 0 = λ bytes. DeviceAllows (Write c.args.chain 0 bytes) tt from to in
    let some : 0 < length c.args.payload.now = grind (arith, nat_tests, c.is_empty.ensures, c.if-is_empty.false) in
    may_return_packet c.args.chain c.args.header.now c.args.payload.now (situation from c.requires.may.0 c.requires.may.1) (situation to c.requires.may.0 c.requires.may.1)
    (situation last c.requires.may.0 c.requires.may.1) some c.requires.may.2 (subst P c.encode.ensures.bytes c.write.ensures.contents, refl, refl, tt)
    (c.write-else-is_empty.ensures.contents, refl, refl, tt) (omega arith)

pub returns-then-is_empty-clause-calls : goal.returns-then-is_empty-clause-calls
returns-then-is_empty-clause-calls g c = λ host faults.
    let from = g.R.DeviceRing.contents c.args.ring.now in
    let to = g.R.DeviceRing.contents c.write.new.self in
    let P : List ℕ → Type 0 = λ bytes. DeviceAllows (Write c.args.chain 0 bytes) tt from to in
    let none : length c.args.payload.now ≡ 0 = grind (arith, nat_tests, c.is_empty.ensures, c.if-is_empty.true) in
    header_written c.args.chain c.args.header.now c.args.payload.now (situation from host faults) (situation to host faults)
    (situation (g.R.DeviceRing.contents c.done.new.self) host faults) none (subst P c.encode.ensures.bytes c.write.ensures.contents, refl, refl, tt)
    (c.done.ensures.contents, refl, refl, tt)

pub returns-else-is_empty-clause-calls : goal.returns-else-is_empty-clause-calls
returns-else-is_empty-clause-calls g c = λ host faults.
    let from = g.R.DeviceRing.contents c.args.ring.now in
    let to = g.R.DeviceRing.contents c.write.new.self in
    let P : List ℕ → Type 0 = λ bytes. DeviceAllows (Write c.args.chain 0 bytes) tt from to in
    let some : 0 < length c.args.payload.now = grind (arith, nat_tests, c.is_empty.ensures, c.if-is_empty.false) in
    packet_written c.args.chain c.args.header.now c.args.payload.now (situation from host faults) (situation to host faults)
    (situation (g.R.DeviceRing.contents c.write-else-is_empty.new.self) host faults) (situation (g.R.DeviceRing.contents c.done-else-is_empty.new.self) host faults)
    some (subst P c.encode.ensures.bytes c.write.ensures.contents, refl, refl, tt) (c.write-else-is_empty.ensures.contents, refl, refl, tt)
    (c.done-else-is_empty.ensures.contents, refl, refl, tt)
