use Rattle.std.{proofs.{Common.{◌≡◌, ℕ, ◌+◌, ◌<◌, ◌∷◌, [], ◌++◌, List, length, true, refl, ap, ◌∙◌, arith}, lemmas.Bool.Decides.nat_tests}, specs.Prelude.nat_lt}
use Rattle.vs_device_parts.specs.State.{DeviceState}
use Rattle.vs_proxy_parts.specs.{State.{Handshake, Turning}, Turning.turning_of}
use Rattle.vs_limits.specs.declared.TheConstants.{HANDSHAKES}
use Rattle.vs_proxy.{specs.contracts.proxy.Proxy.the_view, proofs.Handshaking.accepts}
use Rattle.vs_outside.specs.declared.host_net.Accepted.TheVariants as accepted
use Rattle.vs_proxy.proofs.proxy.Proxy.accept_one.Goals as goal

pub returns-in-Stream-clause-calls : goal.returns-in-Stream-clause-calls
returns-in-Stream-clause-calls g c = λ ring.
    let d = c.self.inside in
    let few : length c.self.inside.handshakes < HANDSHAKES = omega (arith, c.len.ensures.count, c.if-len-ge-HANDSHAKES.false) in
    let place : nat_lt (length c.self.inside.handshakes) HANDSHAKES ≡ true = grind (arith, nat_tests, few) in
    let more : c.accept-in-Stream.new.self ≡ d.handshakes ++ record { stream = c.in-Stream.stream; accepted_at = d.device.now; line = [] } ∷ [] =
    c.accept-in-Stream.ensures ∙ ap (λ (n : ℕ). d.handshakes ++ record { stream = c.in-Stream.stream; accepted_at = n; line = [] } ∷ []) c.now.ensures in
    let t : Turning = turning_of (the_view d) c.args.tally.now in
    rw (← c.self.view_is) (accepts t _ (accepted.Stream c.in-Stream.stream) _ _ place (c.in-Stream.ensures ring)
    (ap (λ (hs : List Handshake). record t { state = the_view (record d { handshakes = hs }); hands = t.hands + 1 }) more))

pub returns-in-None-clause-calls : goal.returns-in-None-clause-calls
returns-in-None-clause-calls g c = λ ring.
    let few : length c.self.inside.handshakes < HANDSHAKES = omega (arith, c.len.ensures.count, c.if-len-ge-HANDSHAKES.false) in
    let place : nat_lt (length c.self.inside.handshakes) HANDSHAKES ≡ true = grind (arith, nat_tests, few) in
    rw (← c.self.view_is) (accepts (turning_of (the_view c.self.inside) c.args.tally.now) _ accepted.None _ _ place (c.in-None.ensures ring) refl)

pub returns-in-Failed-clause-calls : goal.returns-in-Failed-clause-calls
returns-in-Failed-clause-calls g c = λ ring.
    let few : length c.self.inside.handshakes < HANDSHAKES = omega (arith, c.len.ensures.count, c.if-len-ge-HANDSHAKES.false) in
    let place : nat_lt (length c.self.inside.handshakes) HANDSHAKES ≡ true = grind (arith, nat_tests, few) in
    rw (← c.self.view_is) (accepts (turning_of (the_view c.self.inside) c.args.tally.now) _ accepted.Failed _ _ place (c.in-Failed.ensures ring)
    (ap (λ (x : DeviceState). turning_of (the_view (record c.self.inside { device = x })) c.args.tally.now) c.count_fault.ensures))
