use Rattle.std.proofs.Common.{◌≡◌, ℕ, Bool, true, false, [], ◌∷◌, Option, Some, None, is_some, refl, sym, ap, subst, ◌∙◌, arith}
use Rattle.vs_contents.{specs.CallTree.Done, proofs.{Leads.leads_bind, Conditions.may_first}}
use Rattle.vs_outside.specs.{Host.ReadsSome, declared.host_net.StreamRead.StreamRead}
use Rattle.vs_ring_port.specs.Contents.{RingContents}
use Rattle.vs_device_parts.specs.{Calls.{Allows, DeviceTree, ReadStream}, Connections.with_fault, Filling.bytes_read, Playing.{CanMake, MayRun, Runs, situation}, State.DeviceState}
use Rattle.vs_proxy_parts.specs.{Handshakes.{byte_read, dropping, handshake_on, host_fault}, State.{Handshake, ProxyState, Turning}, Turning.turning_of}
use Rattle.vs_proxy.{specs.contracts.proxy.Proxy.the_view, proofs.Handshaking.{answered, is_on, may_answered}}
use Rattle.vs_outside.specs.declared.host_net.StreamRead.TheVariants as read
use Rattle.vs_proxy.proofs.proxy.Proxy.read_byte.Goals as goal

some_of : (o : Option Handshake) → is_some o ≡ true → (h : Handshake) × (o ≡ Some h)
some_of None is = absurd cc
some_of (Some h) is = (h, refl)

none_of : (o : Option Handshake) → is_some o ≡ false → o ≡ None
none_of None is = refl
none_of (Some h) is = absurd cc

one_byte : (a : StreamRead) (n : ℕ) → a ≡ read.Got n → ReadsSome a 1 → a ≡ read.Got 1
one_byte a n is some =
    let most : ReadsSome (read.Got n) 1 = let P : StreamRead → Type 0 = λ x. ReadsSome x 1 in subst P is some in
    let one : n ≡ 1 = omega (arith, most.0, most.1 (omega arith)) in
    is ∙ ap (λ (k : ℕ). read.Got k) one

abbrev ended : Turning → DeviceTree (Turning × Bool)
ended u = Done (u, false)

pub take_byte-requires-clause-may : goal.take_byte-requires-clause-may
take_byte-requires-clause-may g c = λ e found.
    let s : ProxyState = c.args.self.now in
    let t : Turning = turning_of s c.args.tally.now in
    let h : Handshake = e in
    let answer = c.read_byte-answer.result.0 in
    let byte = c.read_byte-answer.result.1 in
    let before = λ (ring : RingContents). situation ring (g.H.HostNet.contents c.args.host.now) (g.H.HostNet.faults c.args.host.now) in
    let after = λ (ring : RingContents). situation ring (g.H.HostNet.contents c.read_byte-answer.new.host) (g.H.HostNet.faults c.read_byte-answer.new.host) in
    let may = c.requires.may in
    let allowed : Allows (ReadStream c.args.stream 1) (read.Got 1, byte ∷ []) (before may.0) (after may.0) =
    let P : StreamRead → Type 0 = λ x. Allows (ReadStream c.args.stream 1) (x, bytes_read x (byte ∷ [])) (before may.0) (after may.0) in
    subst P (one_byte answer c.in-Got._n c.in-Got.is c.read_byte-answer.ensures.some) (c.read_byte-answer.ensures.allowed may.0) in
    (may.0, may_answered c.args.stream t h found (read.Got 1) (byte ∷ []) (before may.0) (after may.0) may.1 allowed)

pub drop_handshake-requires-clause-may : goal.drop_handshake-requires-clause-may
drop_handshake-requires-clause-may g c =
    let s : ProxyState = c.args.self.now in
    let t : Turning = turning_of s c.args.tally.now in
    let some = some_of (handshake_on c.args.stream s) (sym c.has_handshake.ensures ∙ c.if-not-has_handshake.false) in
    let h : Handshake = some.0 in
    let on = is_on c.args.stream s.handshakes h some.1 in
    let answer = c.read_byte-answer.result.0 in
    let byte = c.read_byte-answer.result.1 in
    let before = λ (ring : RingContents). situation ring (g.H.HostNet.contents c.args.host.now) (g.H.HostNet.faults c.args.host.now) in
    let after = λ (ring : RingContents). situation ring (g.H.HostNet.contents c.read_byte-answer.new.host) (g.H.HostNet.faults c.read_byte-answer.new.host) in
    let may = c.requires.may in
    let allowed : Allows (ReadStream c.args.stream 1) (read.End, []) (before may.0) (after may.0) =
    let P : StreamRead → Type 0 = λ x. Allows (ReadStream c.args.stream 1) (x, bytes_read x (byte ∷ [])) (before may.0) (after may.0) in
    subst P c.in-End.is (c.read_byte-answer.ensures.allowed may.0) in
    let all : MayRun (byte_read h read.End [] t) (after may.0) = may_answered c.args.stream t h some.1 read.End [] (before may.0) (after may.0) may.1 allowed in
    let P : ℕ → Type 0 = λ n. MayRun (dropping n t) (after may.0) in
    (may.0, subst P on (may_first CanMake Allows (dropping h.stream t) ended (after may.0) all))

pub drop_handshake-requires-in-Failed-clause-may : goal.drop_handshake-requires-in-Failed-clause-may
drop_handshake-requires-in-Failed-clause-may g c =
    let s : ProxyState = c.args.self.now in
    let t : Turning = turning_of s c.args.tally.now in
    let some = some_of (handshake_on c.args.stream s) (sym c.has_handshake.ensures ∙ c.if-not-has_handshake.false) in
    let h : Handshake = some.0 in
    let on = is_on c.args.stream s.handshakes h some.1 in
    let answer = c.read_byte-answer.result.0 in
    let byte = c.read_byte-answer.result.1 in
    let before = λ (ring : RingContents). situation ring (g.H.HostNet.contents c.args.host.now) (g.H.HostNet.faults c.args.host.now) in
    let after = λ (ring : RingContents). situation ring (g.H.HostNet.contents c.read_byte-answer.new.host) (g.H.HostNet.faults c.read_byte-answer.new.host) in
    let may = c.requires.may in
    let allowed : Allows (ReadStream c.args.stream 1) (read.Failed, []) (before may.0) (after may.0) =
    let P : StreamRead → Type 0 = λ x. Allows (ReadStream c.args.stream 1) (x, bytes_read x (byte ∷ [])) (before may.0) (after may.0) in
    subst P c.in-Failed.is (c.read_byte-answer.ensures.allowed may.0) in
    let all : MayRun (byte_read h read.Failed [] t) (after may.0) = may_answered c.args.stream t h some.1 read.Failed [] (before may.0) (after may.0) may.1 allowed in
    let P : ℕ → Type 0 = λ n. MayRun (dropping n (host_fault t)) (after may.0) in
    (may.0, subst P on (may_first CanMake Allows (dropping h.stream (host_fault t)) ended (after may.0) all))

pub returns-in-Got-clause-calls : goal.returns-in-Got-clause-calls
returns-in-Got-clause-calls g c = λ ring.
    let s : ProxyState = c.args.self.now in
    let t : Turning = turning_of s c.args.tally.now in
    let some = some_of (handshake_on c.args.stream s) (sym c.has_handshake.ensures ∙ c.if-not-has_handshake.false) in
    let h : Handshake = some.0 in
    let answer = c.read_byte-answer.result.0 in
    let byte = c.read_byte-answer.result.1 in
    let before = λ (ring : RingContents). situation ring (g.H.HostNet.contents c.args.host.now) (g.H.HostNet.faults c.args.host.now) in
    let after = λ (ring : RingContents). situation ring (g.H.HostNet.contents c.read_byte-answer.new.host) (g.H.HostNet.faults c.read_byte-answer.new.host) in
    let allowed : Allows (ReadStream c.args.stream 1) (read.Got 1, byte ∷ []) (before ring) (after ring) =
    let P : StreamRead → Type 0 = λ x. Allows (ReadStream c.args.stream 1) (x, bytes_read x (byte ∷ [])) (before ring) (after ring) in
    subst P (one_byte answer c.in-Got._n c.in-Got.is c.read_byte-answer.ensures.some) (c.read_byte-answer.ensures.allowed ring) in
    let end = situation ring (g.H.HostNet.contents c.take_byte.new.host) (g.H.HostNet.faults c.take_byte.new.host) in
    answered c.args.stream t h some.1 (read.Got 1) (byte ∷ []) (turning_of c.take_byte.new.self c.take_byte.new.tally, c.take_byte.result) (before ring) (after ring) end allowed
    (c.take_byte.ensures.calls h some.1 ring)

pub returns-in-Again-clause-calls : goal.returns-in-Again-clause-calls
returns-in-Again-clause-calls g c = λ ring.
    let s : ProxyState = c.args.self.now in
    let t : Turning = turning_of s c.args.tally.now in
    let some = some_of (handshake_on c.args.stream s) (sym c.has_handshake.ensures ∙ c.if-not-has_handshake.false) in
    let h : Handshake = some.0 in
    let answer = c.read_byte-answer.result.0 in
    let byte = c.read_byte-answer.result.1 in
    let before = λ (ring : RingContents). situation ring (g.H.HostNet.contents c.args.host.now) (g.H.HostNet.faults c.args.host.now) in
    let after = λ (ring : RingContents). situation ring (g.H.HostNet.contents c.read_byte-answer.new.host) (g.H.HostNet.faults c.read_byte-answer.new.host) in
    let allowed : Allows (ReadStream c.args.stream 1) (read.Again, []) (before ring) (after ring) =
    let P : StreamRead → Type 0 = λ x. Allows (ReadStream c.args.stream 1) (x, bytes_read x (byte ∷ [])) (before ring) (after ring) in
    subst P c.in-Again.is (c.read_byte-answer.ensures.allowed ring) in
    answered c.args.stream t h some.1 read.Again [] (t, false) (before ring) (after ring) (after ring) allowed (refl, refl)

pub returns-in-End-clause-calls : goal.returns-in-End-clause-calls
returns-in-End-clause-calls g c = λ ring.
    let s : ProxyState = c.args.self.now in
    let t : Turning = turning_of s c.args.tally.now in
    let some = some_of (handshake_on c.args.stream s) (sym c.has_handshake.ensures ∙ c.if-not-has_handshake.false) in
    let h : Handshake = some.0 in
    let on = is_on c.args.stream s.handshakes h some.1 in
    let answer = c.read_byte-answer.result.0 in
    let byte = c.read_byte-answer.result.1 in
    let before = λ (ring : RingContents). situation ring (g.H.HostNet.contents c.args.host.now) (g.H.HostNet.faults c.args.host.now) in
    let after = λ (ring : RingContents). situation ring (g.H.HostNet.contents c.read_byte-answer.new.host) (g.H.HostNet.faults c.read_byte-answer.new.host) in
    let allowed : Allows (ReadStream c.args.stream 1) (read.End, []) (before ring) (after ring) =
    let P : StreamRead → Type 0 = λ x. Allows (ReadStream c.args.stream 1) (x, bytes_read x (byte ∷ [])) (before ring) (after ring) in
    subst P c.in-End.is (c.read_byte-answer.ensures.allowed ring) in
    let end = situation ring (g.H.HostNet.contents c.drop_handshake.new.host) (g.H.HostNet.faults c.drop_handshake.new.host) in
    let u : Turning = turning_of c.drop_handshake.new.self c.drop_handshake.new.tally in
    let P : ℕ → Type 0 = λ n. Runs (dropping n t) (after ring) u end in
    let drops = c.drop_handshake.ensures.calls ring in
    let rest = leads_bind Allows (dropping h.stream t) ended (after ring) end end u (u, false) (subst P (sym on) drops) (refl, refl) in
    answered c.args.stream t h some.1 read.End [] (u, false) (before ring) (after ring) end allowed rest

pub returns-in-Failed-clause-calls : goal.returns-in-Failed-clause-calls
returns-in-Failed-clause-calls g c = λ ring.
    let s : ProxyState = c.args.self.now in
    let t : Turning = turning_of s c.args.tally.now in
    let some = some_of (handshake_on c.args.stream s) (sym c.has_handshake.ensures ∙ c.if-not-has_handshake.false) in
    let h : Handshake = some.0 in
    let on = is_on c.args.stream s.handshakes h some.1 in
    let answer = c.read_byte-answer.result.0 in
    let byte = c.read_byte-answer.result.1 in
    let before = λ (ring : RingContents). situation ring (g.H.HostNet.contents c.args.host.now) (g.H.HostNet.faults c.args.host.now) in
    let after = λ (ring : RingContents). situation ring (g.H.HostNet.contents c.read_byte-answer.new.host) (g.H.HostNet.faults c.read_byte-answer.new.host) in
    let allowed : Allows (ReadStream c.args.stream 1) (read.Failed, []) (before ring) (after ring) =
    let P : StreamRead → Type 0 = λ x. Allows (ReadStream c.args.stream 1) (x, bytes_read x (byte ∷ [])) (before ring) (after ring) in
    subst P c.in-Failed.is (c.read_byte-answer.ensures.allowed ring) in
    let end = situation ring (g.H.HostNet.contents c.drop_handshake-in-Failed.new.host) (g.H.HostNet.faults c.drop_handshake-in-Failed.new.host) in
    let u : Turning = turning_of c.drop_handshake-in-Failed.new.self c.drop_handshake-in-Failed.new.tally in
    let P : ℕ → Type 0 = λ n. Runs (dropping n (host_fault t)) (after ring) u end in
    let d = c.self.inside in
    let counted : turning_of (the_view (record d { device = c.count_fault.new.self })) c.args.tally.now ≡ host_fault t =
    ap (λ (x : DeviceState). turning_of (the_view (record d { device = x })) c.args.tally.now) c.count_fault.ensures
    ∙ ap (λ (z : ProxyState). turning_of (record z { device = with_fault z.device }) c.args.tally.now) c.self.view_is in
    let Q : Turning → Type 0 = λ v. Runs (dropping c.args.stream v) (after ring) u end in
    let drops = subst Q counted (c.drop_handshake-in-Failed.ensures.calls ring) in
    let rest = leads_bind Allows (dropping h.stream (host_fault t)) ended (after ring) end end u (u, false) (subst P (sym on) drops) (refl, refl) in
    answered c.args.stream t h some.1 read.Failed [] (u, false) (before ring) (after ring) end allowed rest
