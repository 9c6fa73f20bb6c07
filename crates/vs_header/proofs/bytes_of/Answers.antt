use Rattle.std.proofs.Common.{ap, ◌∙◌, arith, rules}
use Rattle.vs_header.{specs.Packet.header_of, proofs.RoundTrip.header_of-header_bytes}
use Rattle.vs_header.proofs.bytes_of.Goals as goal

pub returns-clause-bytes : goal.returns-clause-bytes
returns-clause-bytes c = search rules

pub returns-clause-back : goal.returns-clause-back
returns-clause-back c =
    ap header_of (returns-clause-bytes c)
    ∙ header_of-header_bytes c.args.header (omega arith) (omega arith) (omega arith) (omega arith) (omega arith) (omega arith)
    (omega arith) (omega arith) (omega arith) (omega arith)
