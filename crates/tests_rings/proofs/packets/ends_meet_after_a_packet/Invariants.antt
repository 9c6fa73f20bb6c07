use Rattle.tests_rings.proofs.packets.ends_meet_after_a_packet.Given as goal

-- the rings that were just made
abbrev pub ghosts-pass_and_meet : goal.ghosts-pass_and_meet
ghosts-pass_and_meet g a = record { ring = a.rings.table }
