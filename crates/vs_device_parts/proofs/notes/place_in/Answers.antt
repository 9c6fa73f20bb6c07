use Rattle.vs_device_parts.proofs.Noting.{seen_at}
use Rattle.vs_device_parts.proofs.notes.place_in.Goals as goal

pub returns-then-is_at : goal.returns-then-is_at
returns-then-is_at c = seen_at c.args.notes.now c.args.slot _ c.requires.rising (c.is_at.ensures c.if-is_at.true)
