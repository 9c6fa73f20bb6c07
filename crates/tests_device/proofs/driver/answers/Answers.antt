use Rattle.tests_device.proofs.driver.answers.Goals as goal

pub returns-clause-honest : goal.returns-clause-honest
returns-clause-honest g c = (c.requires.honest.0, c.requires.honest.1, c.connect.ensures.honest c.requires.honest.0 c.requires.honest.1 c.requires.honest.2)
