use Rattle.std.proofs.Common.{◌≡◌, take, map}
use Rattle.vs_proxy_parts.proofs.handshakes.Handshakes.streams.Given as goal

abbrev pub invariant-loop-handshake : goal.invariant-loop-handshake
invariant-loop-handshake l = l.streams.items ≡ map (λ h. h.stream) (take l.handshake-index l.handshake-items)
