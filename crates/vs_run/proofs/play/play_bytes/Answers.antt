use Rattle.vs_play.specs.Answer.{answer_to}
use Rattle.vs_script.specs.Script.{parse_of}
use Rattle.vs_script.specs.declared.script.Command.TheVariants as command
use Rattle.vs_run.proofs.Causes.{is_play, no_answer, play_some}
use Rattle.vs_run.proofs.play.play_bytes.Goals as goal

pub returns-in-Err : goal.returns-in-Err
returns-in-Err g c =
    no_answer command.Play (λ said. (answer_to c.args.queue c.args.first said).lines) (λ said. (answer_to c.args.queue c.args.first said).status) c.args.bytes.now
    (g.K.Sink.contents c.args.out.now) (g.K.Sink.contents c.refused.new.out) (g.K.Sink.faults c.args.out.now) (g.K.Sink.faults c.refused.new.out)
    c.refused.result c.in-Err.fault (play_some c.args.queue c.args.first (parse_of command.Play c.args.bytes.now) (is_play c.args.bytes.now)) c.in-Err.ensures.refused c.refused.ensures
