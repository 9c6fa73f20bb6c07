use Rattle.laws_world.proofs.ScriptLines.{line_leads, line_rests, line_sends}
use Rattle.vs_core.proofs.scripts.law_of_lines.Goals as goal

pub returns-clause-events : goal.returns-clause-events
returns-clause-events c = λ l w rest may. line_leads l w rest may

pub returns-clause-rests : goal.returns-clause-rests
returns-clause-rests c = λ l w rest. line_rests l w rest

pub returns-clause-sends : goal.returns-clause-sends
returns-clause-sends c = λ opened k l w. line_sends opened k l w
