use Rattle.std.proofs.Common.{subst}
use Rattle.vs_play.specs.Answer.{answer_to}
use Rattle.vs_script.specs.Script.{parse_of}
use Rattle.vs_script.specs.declared.script.Command.TheVariants as command
use Rattle.vs_run.specs.Ends.{EndsParsed, Read}
use Rattle.vs_run.proofs.play.play_script.Goals as goal

pub returns-in-Ok : goal.returns-in-Ok
returns-in-Ok g c =
    Read c.in-Ok.bytes.items c.in-Ok.ensures.bytes c.in-Ok.ensures.faults
    (subst (λ bytes. EndsParsed (λ said. (answer_to c.args.queue c.args.first said).lines) (λ said. (answer_to c.args.queue c.args.first said).status) (g.K.Sink.contents c.args.out.now)
    (g.K.Sink.contents c.play_bytes.new.out) (g.K.Sink.faults c.args.out.now) (g.K.Sink.faults c.play_bytes.new.out) c.play_bytes.result (parse_of command.Play bytes))
    c.deref.ensures.value c.play_bytes.ensures)
