use Rattle.std.proofs.Common.{◌≡◌, ℕ, false, sym, subst, ◌∙◌, rules}
use Rattle.vs_device_parts.specs.{Calls.Allows, Calls.CloseStream, Playing.situation}
use Rattle.vs_device.proofs.Leaving.{is_closed_now}
use Rattle.vs_device.proofs.closing.close_unless_closed.Goals as goal

pub returns-then-not-is_closed : goal.returns-then-not-is_closed
returns-then-not-is_closed g c = record {
  calls = λ e f s closed stream ring.
      let x = situation ring (g.H.HostNet.contents c.args.host.now) (g.H.HostNet.faults c.args.host.now) in
      let y = situation ring (g.H.HostNet.contents c.close.new.host) (g.H.HostNet.faults c.close.new.host) in
      let unclosed : c.args.connection.now.closed ≡ false = search rules in
      let id : c.stream.result ≡ e.value.stream = c.stream.ensures ∙ sym stream in
      let P : ℕ → Type 0 = λ n. Allows (CloseStream n) tt x y in
      is_closed_now e f s x y (closed ∙ unclosed) (subst P id (c.close.ensures ring));
}
