use Rattle.std.proofs.Common.{ap, ◌∙◌, rules}
use Rattle.vs_layout.{specs.Entry.desc_bytes, proofs.RoundTrip.desc_bytes-desc_of}
use Rattle.vs_layout.proofs.entry.Desc.decode.Goals as goal

pub returns-clause-fields : goal.returns-clause-fields
returns-clause-fields c = search rules

pub returns-clause-back : goal.returns-clause-back
returns-clause-back c =
    ap desc_bytes (returns-clause-fields c) ∙ desc_bytes-desc_of c.args.bytes.now (search rules) c.fits-bytes
