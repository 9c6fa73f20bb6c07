use Rattle.tests_rings.proofs.packets.all_pass.Given as goal

-- the rings that were just made
abbrev pub ghosts-passed : goal.ghosts-passed
ghosts-passed g a = record { ring = a.rings.table }
