use Rattle.std.proofs.Common.{◌≡◌, ◌≤◌, ◌+◌, length}
use Rattle.vs_script.specs.Script.{script_view, lines_from, add_lines, parse_of}
use Rattle.vs_script.proofs.script.parse.Given as goal

-- the lines to come, behind those that were read, say what the text says
abbrev pub invariant-loop-rest : goal.invariant-loop-rest
invariant-loop-rest l = record {
  counted : l.number + length l.rest ≤ length l.bytes;
  says : add_lines (script_view l.script) (lines_from (l.number + 1) l.rest) ≡ parse_of l.fn.command l.bytes;
}

abbrev pub decreases-loop-rest : goal.decreases-loop-rest
decreases-loop-rest l = length l.rest
