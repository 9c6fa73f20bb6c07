use Rattle.vs_load.proofs.Echoed.{same_came_back}
use Rattle.vs_load.proofs.load.line_of.Goals as goal

pub load_line-requires : goal.load_line-requires
load_line-requires g c = same_came_back g.N.RunName.script _ c.args.guests.now.entries _ c.args.guests.now.bytes _ c.script.ensures c.journal.ensures.entries
    c.journal.ensures.bytes c.requires
