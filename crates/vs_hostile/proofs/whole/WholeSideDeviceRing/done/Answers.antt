use Rattle.vs_hostile.{specs.Whole.whole_contents, proofs.Seen.allowed_return}
use Rattle.vs_hostile.proofs.whole.WholeSideDeviceRing.done.Goals as goal

pub returns-clause-contents : goal.returns-clause-contents
returns-clause-contents c =
    rw (← c.self.view_is) (allowed_return c.args.chain c.args.len (whole_contents c.args.self.now) c.self.inside.side c.give_back.new.self
    c.requires.written c.give_back.ensures.exact)
