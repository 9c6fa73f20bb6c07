use Rattle.std.proofs.Common.{rules, arith, ◌≡◌, ◌≤◌, ◌-◌, length, min, ap, ◌∙◌}
use Rattle.vs_device_parts.{specs.{State.DeviceConnection, Streams.to_write}, proofs.Copying.{count_is, copied}}
use Rattle.vs_device_parts.proofs.connection.Connection.copy_to_write.Goals as goal

pub returns-clause-count : goal.returns-clause-count
returns-clause-count c =
    let b = c.self.inside.buffers in
    let fits : length b.ok_line.bytes ≤ 4096 = omega (arith, c.self.invariant.line_fits) in
    let first : c.copy_front-line.result ≡ length b.ok_line.bytes = omega (arith, c.copy_front-line.ensures.count, c.self.invariant.line_fits) in
    let second : c.copy_front-payload.result ≡ min (4096 - c.copy_front-line.result) (length b.pending.bytes) = search rules in
    count_is 4096 c.copy_front-line.result c.copy_front-payload.result b.ok_line.bytes b.pending.bytes fits first second
    ∙ ap (λ (s : DeviceConnection). length (to_write s)) c.self.view_is

pub returns-clause-copied : goal.returns-clause-copied
returns-clause-copied c =
    let b = c.self.inside.buffers in
    let fits : length b.ok_line.bytes ≤ 4096 = omega (arith, c.self.invariant.line_fits) in
    let first : c.copy_front-line.result ≡ length b.ok_line.bytes = omega (arith, c.copy_front-line.ensures.count, c.self.invariant.line_fits) in
    let second : c.copy_front-payload.result ≡ min (4096 - c.copy_front-line.result) (length b.pending.bytes) = search rules in
    copied 4096 c.copy_front-line.result c.copy_front-payload.result b.ok_line.bytes b.pending.bytes fits first second
    c.copy_front-line.new.out c.copy_front-payload.new.out _ _ _ c.copy_front-line.ensures.copied c.copy_front-payload.ensures.copied
    ∙ ap (λ (s : DeviceConnection). to_write s) c.self.view_is
