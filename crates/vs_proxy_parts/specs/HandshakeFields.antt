-- What always holds of the fields of a proxy's handshakes. No public clause cites this module.
use Rattle.std.specs.{Prelude.◌≡◌, Prelude.◌≤◌, Prelude.false, Prelude.length, Prelude.vec_capacity, List.All}
use Rattle.vs_uds.specs.{Reading.is_decided, declared.connect.TheConstants.CONNECT_MAX}
use Rattle.vs_proxy_parts.specs.declared.handshakes.Handshakes.TheInside.{Inside}
use Rattle.vs_limits.specs.declared.TheConstants.{HANDSHAKES}

-- No line is decided yet, and there is room for all handshakes that there may be.
pub record AreUndecided (h : Inside) : Type 0 where
  pub lines : All (λ s. is_decided CONNECT_MAX s.line ≡ false) h.all.items
  pub few : length h.all.items ≤ HANDSHAKES
  pub room : HANDSHAKES ≤ vec_capacity h.all
