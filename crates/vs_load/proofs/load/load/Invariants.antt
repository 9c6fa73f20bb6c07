use Rattle.laws_settled.specs.Begun.{start_with}
use Rattle.std.proofs.Common.{Some}
use Rattle.vs_limits.specs.declared.TheConstants.{FIRST_PORT}
use Rattle.vs_apps_parts.specs.Scripts.{script_of}
use Rattle.vs_load.specs.Loads.{load_base}
use Rattle.vs_load.proofs.load.load.Given as goal

-- the rings that were just made, the load's script, its base path, and its new host
abbrev pub ghosts-load_under-N-RingName : goal.ghosts-load_under-N-RingName
ghosts-load_under-N-RingName g a = record { ring = a.rings.table }

abbrev pub ghosts-load_under-N-RunName : goal.ghosts-load_under-N-RunName
ghosts-load_under-N-RunName g a = record { script = script_of a.script.items; first = FIRST_PORT }

abbrev pub ghosts-load_under-N-StartName : goal.ghosts-load_under-N-StartName
ghosts-load_under-N-StartName g a = record { start = start_with load_base (Some a.host.now.contents) a.host.now.faults }
