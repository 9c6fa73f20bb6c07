use Rattle.laws_tables.{specs.Both.run, specs.Both.start, proofs.Both.run_keeps, proofs.Both.start_sound, proofs.Quiet.quiet_on}
use Rattle.laws_tables.proofs.laws.law_of_kept_flows.Goals as goal

pub returns-clause-quiet : goal.returns-clause-quiet
returns-clause-quiet c = λ first guest host xs role f may among.
    quiet_on first role f (run xs (start first guest host)) (run_keeps first xs (start first guest host) (start_sound first guest host) may)
    among

pub returns-clause-clean : goal.returns-clause-clean
returns-clause-clean c = λ first guest host xs role f may among.
    let s = run_keeps first xs (start first guest host) (start_sound first guest host) may in
    ((s.matches role).fairly (s.fair role)).kept f among

pub returns-clause-two_ends : goal.returns-clause-two_ends
returns-clause-two_ends c = quiet_on
