use Rattle.std.proofs.Common.{◌<◌, length, ap, arith}
use Rattle.vs_outside.{specs.HostProgram.HostMemory, proofs.Streams.as_many_unlabelled}
use Rattle.vs_outside.proofs.mem_host.MemHost.change.Goals as goal

pub invariant_of-self : goal.invariant_of-self
invariant_of-self c =
    let within : c.in-Some.place < length c.self.inside.streams.items =
    omega (arith, ap (λ (m : HostMemory). length m.contents.streams) c.self.view_is, c.in-Some.ensures.1) in
    omega (
      arith,
      c.self.invariant,
      as_many_unlabelled _ c.args.change c.self.inside.streams.items c.in-Some.place c.index_mut.result.now c.change.new.self
          c.index_mut.ensures.value c.change.ensures within,
    )
