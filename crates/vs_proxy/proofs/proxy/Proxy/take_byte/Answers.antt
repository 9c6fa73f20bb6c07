use Rattle.std.proofs.Common.{◌≡◌, ℕ, ◌+◌, List, [], ◌∷◌, ◌++◌, Some, refl, sym, ap, subst, ◌∙◌}
use Rattle.vs_device_parts.specs.{Calls.{Allows, CloseStream}, Playing.{CanMake, MayRun, Runs, situation}}
use Rattle.vs_proxy_parts.specs.{Handshakes.{handshake_on, with_line, without_handshake, without_stream}, State.{Handshake, ProxyState, Turning}, Turning.{connecting, turning_of}}
use Rattle.vs_proxy_parts.specs.declared.tally.Tally.{Tally}
use Rattle.vs_proxy.{specs.contracts.proxy.Proxy.the_view, proofs.Handshaking.{goes_on, is_on, may_close, may_connect, was_closed, was_connected, without_client}}
use Rattle.vs_uds.specs.declared.scan.Step.TheVariants as step
use Rattle.vs_proxy.proofs.proxy.Proxy.take_byte.Goals as goal

bad_is_no_more : step.Bad ≡ step.More → ⊥
bad_is_no_more e = cc

port_is_no_more : (port : ℕ) → step.Port port ≡ step.More → ⊥
port_is_no_more port e = cc

pub close_client-requires-clause-open : goal.close_client-requires-clause-open
close_client-requires-clause-open g c =
    let s : ProxyState = c.args.self.now in
    let h : Handshake = c.requires.there.0 in
    let found = c.requires.there.1 in
    let there : handshake_on c.args.stream (the_view c.self.inside) ≡ Some h = ap (λ (z : ProxyState). handshake_on c.args.stream z) c.self.view_is ∙ found in
    let on = is_on c.args.stream c.self.inside.handshakes h there in
    let may = c.requires.may h found in
    let x = situation may.0 (g.H.HostNet.contents c.args.host.now) (g.H.HostNet.faults c.args.host.now) in
    let P : ℕ → Type 0 = λ n. CanMake (CloseStream n) x in
    subst P on (may_close c.args.byte (turning_of s c.args.tally.now) h x (sym (c.in-Bad.ensures.step h there)) may.1)

pub connect-requires-clause-may : goal.connect-requires-clause-may
connect-requires-clause-may g c =
    let d = c.self.inside in
    let s : ProxyState = c.args.self.now in
    let t : Turning = turning_of s c.args.tally.now in
    let read : Tally = record c.args.tally.now { read = c.args.tally.now.read + 1 } in
    let h : Handshake = c.requires.there.0 in
    let found = c.requires.there.1 in
    let there : handshake_on c.args.stream (the_view d) ≡ Some h = ap (λ (z : ProxyState). handshake_on c.args.stream z) c.self.view_is ∙ found in
    let on = is_on c.args.stream d.handshakes h there in
    let may = c.requires.may h found in
    let x = situation may.0 (g.H.HostNet.contents c.args.host.now) (g.H.HostNet.faults c.args.host.now) in
    let port = c.in-Port.port in
    let over : c.feed.new.self ≡ without_stream c.args.stream d.handshakes = c.in-Port.ensures.over h there (port_is_no_more port) in
    let left : turning_of (the_view (record d { handshakes = c.feed.new.self })) read ≡ without_client c.args.byte t h =
    ap (λ (hs : List Handshake). turning_of (the_view (record d { handshakes = hs })) read) over
    ∙ (ap (λ (n : ℕ). turning_of (the_view (record d { handshakes = without_stream n d.handshakes })) read) (sym on)
    ∙ ap (λ (z : ProxyState). turning_of (without_handshake h.stream z) read) c.self.view_is) in
    let P : ℕ → Type 0 = λ n. MayRun (connecting n port (without_client c.args.byte t h)) x in
    let Q : Turning → Type 0 = λ u. MayRun (connecting c.args.stream port u) x in
    (may.0, subst Q (sym left) (subst P on (may_connect c.args.byte t h port x (sym (c.in-Port.ensures.step h there)) may.1)))

pub returns-in-More-clause-calls : goal.returns-in-More-clause-calls
returns-in-More-clause-calls g c = λ h found ring.
    let d = c.self.inside in
    let s : ProxyState = c.args.self.now in
    let t : Turning = turning_of s c.args.tally.now in
    let read : Tally = record c.args.tally.now { read = c.args.tally.now.read + 1 } in
    let there : handshake_on c.args.stream (the_view d) ≡ Some h = ap (λ (z : ProxyState). handshake_on c.args.stream z) c.self.view_is ∙ found in
    let on = is_on c.args.stream d.handshakes h there in
    let line = h.line ++ c.args.byte ∷ [] in
    let more : c.feed.new.self ≡ with_line c.args.stream line d.handshakes = c.in-More.ensures.more h there refl in
    let end =
    ap (λ (hs : List Handshake). turning_of (the_view (record d { handshakes = hs })) read) more
    ∙ (ap (λ (n : ℕ). turning_of (the_view (record d { handshakes = with_line n line d.handshakes })) read) (sym on)
    ∙ ap (λ (z : ProxyState). turning_of (record z { handshakes = with_line h.stream line z.handshakes }) read) c.self.view_is) in
    goes_on c.args.byte t h (turning_of (the_view (record d { handshakes = c.feed.new.self })) read) _ (sym (c.in-More.ensures.step h there)) end

pub returns-in-Bad-clause-calls : goal.returns-in-Bad-clause-calls
returns-in-Bad-clause-calls g c = λ h found ring.
    let d = c.self.inside in
    let s : ProxyState = c.args.self.now in
    let t : Turning = turning_of s c.args.tally.now in
    let read : Tally = record c.args.tally.now { read = c.args.tally.now.read + 1 } in
    let there : handshake_on c.args.stream (the_view d) ≡ Some h = ap (λ (z : ProxyState). handshake_on c.args.stream z) c.self.view_is ∙ found in
    let on = is_on c.args.stream d.handshakes h there in
    let over : c.feed.new.self ≡ without_stream c.args.stream d.handshakes = c.in-Bad.ensures.over h there bad_is_no_more in
    let after : Tally = record read { hands = read.hands + 1 } in
    let end =
    ap (λ (hs : List Handshake). turning_of (the_view (record d { handshakes = hs })) c.close_client.new.tally) over
    ∙ (ap (λ (x : Tally). turning_of (the_view (record d { handshakes = without_stream c.args.stream d.handshakes })) x) c.close_client.ensures.count
    ∙ (ap (λ (n : ℕ). turning_of (the_view (record d { handshakes = without_stream n d.handshakes })) after) (sym on)
    ∙ ap (λ (z : ProxyState). turning_of (without_handshake h.stream z) after) c.self.view_is)) in
    let x = situation ring (g.H.HostNet.contents c.args.host.now) (g.H.HostNet.faults c.args.host.now) in
    let y = situation ring (g.H.HostNet.contents c.close_client.new.host) (g.H.HostNet.faults c.close_client.new.host) in
    let P : ℕ → Type 0 = λ n. Allows (CloseStream n) tt x y in
    was_closed c.args.byte t h (turning_of (the_view (record d { handshakes = c.feed.new.self })) c.close_client.new.tally) x y
    (sym (c.in-Bad.ensures.step h there)) (subst P (sym on) (c.close_client.ensures.calls ring)) end

pub returns-in-Port-clause-calls : goal.returns-in-Port-clause-calls
returns-in-Port-clause-calls g c = λ h found ring.
    let d = c.self.inside in
    let s : ProxyState = c.args.self.now in
    let t : Turning = turning_of s c.args.tally.now in
    let read : Tally = record c.args.tally.now { read = c.args.tally.now.read + 1 } in
    let there : handshake_on c.args.stream (the_view d) ≡ Some h = ap (λ (z : ProxyState). handshake_on c.args.stream z) c.self.view_is ∙ found in
    let on = is_on c.args.stream d.handshakes h there in
    let port = c.in-Port.port in
    let over : c.feed.new.self ≡ without_stream c.args.stream d.handshakes = c.in-Port.ensures.over h there (port_is_no_more port) in
    let left : turning_of (the_view (record d { handshakes = c.feed.new.self })) read ≡ without_client c.args.byte t h =
    ap (λ (hs : List Handshake). turning_of (the_view (record d { handshakes = hs })) read) over
    ∙ (ap (λ (n : ℕ). turning_of (the_view (record d { handshakes = without_stream n d.handshakes })) read) (sym on)
    ∙ ap (λ (z : ProxyState). turning_of (without_handshake h.stream z) read) c.self.view_is) in
    let x = situation ring (g.H.HostNet.contents c.args.host.now) (g.H.HostNet.faults c.args.host.now) in
    let y = situation ring (g.H.HostNet.contents c.connect.new.host) (g.H.HostNet.faults c.connect.new.host) in
    let u : Turning = turning_of c.connect.new.self c.connect.new.tally in
    let P : ℕ → Type 0 = λ n. Runs (connecting n port (without_client c.args.byte t h)) x u y in
    let Q : Turning → Type 0 = λ v. Runs (connecting c.args.stream port v) x u y in
    was_connected c.args.byte t h port u x y (sym (c.in-Port.ensures.step h there)) (subst P (sym on) (subst Q left (c.connect.ensures.calls ring)))
