use Rattle.vs_flow.proofs.Entries.{seen_at}
use Rattle.vs_flow.proofs.table.place_in.Goals as goal

pub returns-then-is_at : goal.returns-then-is_at
returns-then-is_at c = seen_at c.args.keys.now c.args.slot _ c.requires.rising (c.is_at.ensures c.if-is_at.true)
