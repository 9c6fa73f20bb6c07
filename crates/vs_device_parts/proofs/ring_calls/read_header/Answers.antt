use Rattle.std.proofs.Common.{refl}
use Rattle.vs_device_parts.proofs.ring_calls.read_header.Goals as goal

pub returns-clause-calls : goal.returns-clause-calls
returns-clause-calls g c = (c.read.new.out, (λ host faults. (c.read.ensures.contents, refl, refl, c.are_bounded.ensures)), c.decode.ensures.fields)
