use Rattle.vs_driver.proofs.driver.Driver.stage_page.Goals as goal

pub count_staged-requires-clause-may : goal.count_staged-requires-clause-may
count_staged-requires-clause-may g c = c.requires.may.1 tt _ c.in-Ok.ensures.contents
