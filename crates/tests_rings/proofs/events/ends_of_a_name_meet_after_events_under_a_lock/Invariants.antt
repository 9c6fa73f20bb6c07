use Rattle.tests_rings.proofs.events.ends_of_a_name_meet_after_events_under_a_lock.Given as goal

-- the rings that were just made
abbrev pub ghosts-met : goal.ghosts-met
ghosts-met g a = record { ring = a.rings.table }
