use Rattle.std.{proofs.Common.{◌≡◌, map}, specs.List.range_with_len}
use Rattle.vs_apps_parts.specs.Scripts.{script_of}
use Rattle.vs_run_report.specs.Load.{load_app}
use Rattle.vs_load_parts.proofs.apps.load_apps.Given as goal

-- the apps so far
abbrev pub invariant-loop-c : goal.invariant-loop-c
invariant-loop-c l = script_of l.apps.items ≡ map (load_app l.number l.bytes) (range_with_len 0 l.c)
