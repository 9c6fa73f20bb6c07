use Rattle.std.proofs.Common.{◌∙◌}
use Rattle.vs_peer.proofs.Endings.{fails_to_end, waits_to_end}
use Rattle.vs_peer.proofs.client.converse_to_end.Goals as goal

pub returns-in-Err-Waited : goal.returns-in-Err-Waited
returns-in-Err-Waited g c = record {
  meets =
      waits_to_end c.args.base.now c.args.port c.args.bytes.now c.args.idle (g.H.HostNet.contents c.args.host.now)
      (g.H.HostNet.contents c.converse.new.host)
      (g.H.HostNet.faults c.args.host.now) (g.H.HostNet.faults c.converse.new.host) (g.G.Gate.pauses c.args.gate.now)
      (g.G.Gate.pauses c.converse.new.gate) (g.K.Sink.contents c.args.out.now)
      (g.K.Sink.contents c.converse.new.out)
      (g.K.Sink.contents c.ended.new.out) (g.K.Sink.faults c.args.out.now) (g.K.Sink.faults c.converse.new.out)
      (g.K.Sink.faults c.ended.new.out) c.ended.result
      c.in-Err-Waited.field-0 c.in-Err-Waited.field-0-is c.in-Err-Waited.ensures.converses c.in-Err-Waited.ensures.host_faults
      c.in-Err-Waited.ensures.sink_faults c.in-Err-Waited.ensures.pauses
      c.as_bytes.result.now (c.as_bytes.ensures.value ∙ (c.as_str.ensures.value ∙ c.waited_line.ensures)) c.ended.ensures;
}

pub returns-in-Err-Host : goal.returns-in-Err-Host
returns-in-Err-Host g c = record {
  meets =
      fails_to_end c.args.base.now c.args.port c.args.bytes.now c.args.idle (g.H.HostNet.contents c.args.host.now)
      (g.H.HostNet.contents c.converse.new.host)
      (g.H.HostNet.faults c.args.host.now) (g.H.HostNet.faults c.converse.new.host) (g.G.Gate.pauses c.args.gate.now)
      (g.G.Gate.pauses c.converse.new.gate) (g.K.Sink.contents c.args.out.now)
      (g.K.Sink.contents c.converse.new.out)
      (g.K.Sink.contents c.ended-in-Err-Host.new.out) (g.K.Sink.faults c.args.out.now) (g.K.Sink.faults c.converse.new.out)
      (g.K.Sink.faults c.ended-in-Err-Host.new.out)
      c.ended-in-Err-Host.result c.in-Err-Host.field-0 c.in-Err-Host.field-0-is c.in-Err-Host.ensures.converses
      c.in-Err-Host.ensures.host_faults
      c.in-Err-Host.ensures.sink_faults c.ended-in-Err-Host.ensures;
}
