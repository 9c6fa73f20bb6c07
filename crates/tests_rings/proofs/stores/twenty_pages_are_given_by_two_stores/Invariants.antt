use Rattle.tests_rings.proofs.stores.twenty_pages_are_given_by_two_stores.Given as goal

-- the rings that were just made
abbrev pub ghosts-twenty_given : goal.ghosts-twenty_given
ghosts-twenty_given g a = record { ring = a.rings.table }
