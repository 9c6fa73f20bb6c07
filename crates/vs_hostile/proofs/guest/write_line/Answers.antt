use Rattle.vs_hostile.proofs.guest.write_line.Goals as goal

pub returns-in-Desc-clause-ok : goal.returns-in-Desc-clause-ok
returns-in-Desc-clause-ok c = rw c.in-Desc.is c.write_desc.ensures
