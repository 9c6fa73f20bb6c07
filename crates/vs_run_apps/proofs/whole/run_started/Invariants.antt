use Rattle.laws_settled.specs.Begun.{start_with}
use Rattle.vs_apps_parts.specs.Scripts.{script_of}
use Rattle.vs_run_apps.proofs.whole.run_started.Given as goal

-- the rings that were just made, the script, the first port and the proxy's base path, and the host as it is
abbrev pub ghosts-run_and_report-N-RingName : goal.ghosts-run_and_report-N-RingName
ghosts-run_and_report-N-RingName g a = record { ring = a.rings.table }

abbrev pub ghosts-run_and_report-N-RunName : goal.ghosts-run_and_report-N-RunName
ghosts-run_and_report-N-RunName g a = record { script = script_of a.script.items; first = a.first }

abbrev pub ghosts-run_and_report-N-StartName : goal.ghosts-run_and_report-N-StartName
ghosts-run_and_report-N-StartName g a = record { start = start_with a.proxy.device.base (g.H.HostNet.contents a.host.now) (g.H.HostNet.faults a.host.now) }
