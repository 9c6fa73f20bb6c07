use Rattle.vs_hostile.specs.Answer.{answer_to}
use Rattle.vs_script.specs.Script.{parse_of}
use Rattle.vs_script.specs.declared.script.Command.TheVariants as command
use Rattle.vs_run.proofs.Causes.{attack_some, is_attack, no_answer}
use Rattle.vs_run.proofs.hostile.hostile_bytes.Goals as goal

pub returns-in-Err : goal.returns-in-Err
returns-in-Err g c =
    no_answer command.Hostile (λ said. (answer_to said).lines) (λ said. (answer_to said).status) c.args.bytes.now
    (g.K.Sink.contents c.args.out.now) (g.K.Sink.contents c.refused.new.out) (g.K.Sink.faults c.args.out.now) (g.K.Sink.faults c.refused.new.out)
    c.refused.result c.in-Err.fault (attack_some (parse_of command.Hostile c.args.bytes.now) (is_attack c.args.bytes.now)) c.in-Err.ensures.refused c.refused.ensures
