use Rattle.vs_apps_parts.specs.Scripts.{AreRight, script_of}
use Rattle.tests_apps.proofs.running.hellos.Given as goal

-- each app so far is right
abbrev pub invariant-loop : goal.invariant-loop
invariant-loop l = AreRight (script_of l.script.items)
