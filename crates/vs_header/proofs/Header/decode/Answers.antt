use Rattle.std.proofs.Common.{ap, ◌∙◌, drop, lit≤, rules}
use Rattle.byteorder.specs.Numbers.{little_from-take}
use Rattle.vs_header.{specs.Packet.header_bytes, proofs.RoundTrip.{header_bytes-header_of, same_header}}
use Rattle.vs_header.proofs.Header.decode.Goals as goal

pub returns-clause-fields : goal.returns-clause-fields
returns-clause-fields c =
    let bytes = c.args.bytes.now in
    same_header
    c.read_u64.ensures
    (c.read_u64-2.ensures ∙ little_from-take 0 8 36 (drop 8 bytes) (lit≤ tt))
    (c.read_u32.ensures ∙ little_from-take 0 4 28 (drop 16 bytes) (lit≤ tt))
    (c.read_u32-2.ensures ∙ little_from-take 0 4 24 (drop 20 bytes) (lit≤ tt))
    (c.read_u32-3.ensures ∙ little_from-take 0 4 20 (drop 24 bytes) (lit≤ tt))
    (c.read_u16.ensures ∙ little_from-take 0 2 16 (drop 28 bytes) (lit≤ tt))
    (c.read_u16-2.ensures ∙ little_from-take 0 2 14 (drop 30 bytes) (lit≤ tt))
    (c.read_u32-4.ensures ∙ little_from-take 0 4 12 (drop 32 bytes) (lit≤ tt))
    (c.read_u32-5.ensures ∙ little_from-take 0 4 8 (drop 36 bytes) (lit≤ tt))
    (c.read_u32-6.ensures ∙ little_from-take 0 4 4 (drop 40 bytes) (lit≤ tt))

pub returns-clause-back : goal.returns-clause-back
returns-clause-back c =
    ap header_bytes (returns-clause-fields c) ∙ header_bytes-header_of c.args.bytes.now (search rules) c.fits-bytes
