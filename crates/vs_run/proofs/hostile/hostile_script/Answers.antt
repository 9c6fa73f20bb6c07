use Rattle.std.proofs.Common.{subst}
use Rattle.vs_hostile.specs.Answer.{answer_to}
use Rattle.vs_script.specs.Script.{parse_of}
use Rattle.vs_script.specs.declared.script.Command.TheVariants as command
use Rattle.vs_run.specs.Ends.{EndsParsed, Read}
use Rattle.vs_run.proofs.hostile.hostile_script.Goals as goal

pub returns-in-Ok : goal.returns-in-Ok
returns-in-Ok g c =
    Read c.in-Ok.bytes.items c.in-Ok.ensures.bytes c.in-Ok.ensures.faults
    (subst (λ bytes. EndsParsed (λ said. (answer_to said).lines) (λ said. (answer_to said).status) (g.K.Sink.contents c.args.out.now)
    (g.K.Sink.contents c.hostile_bytes.new.out) (g.K.Sink.faults c.args.out.now) (g.K.Sink.faults c.hostile_bytes.new.out) c.hostile_bytes.result (parse_of command.Hostile bytes))
    c.deref.ensures.value c.hostile_bytes.ensures)
