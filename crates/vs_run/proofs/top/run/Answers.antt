use Rattle.std.proofs.Common.{◌≡◌, ◌∙◌, Some, ap, map, refl, subst, string_bytes, sym}
use Rattle.vs_words.specs.Command.{Hostile, Load, Play, Run, command_of, command_view}
use Rattle.vs_run.{specs.Does.{Does, lent}, proofs.Causes.starved}
use Rattle.vs_run.proofs.top.run.Goals as goal

pub returns-in-Ok-Play-clause-does : goal.returns-in-Ok-Play-clause-does
returns-in-Ok-Play-clause-does g c =
    let is : command_of (map string_bytes c.args.words.now) ≡ Some (Play c.in-Ok-Play.rings c.in-Ok-Play.queue c.in-Ok-Play.first) =
    c.in-Ok-Play.ensures.command ∙ ap (λ x. Some (command_view x)) c.in-Ok-Play.field-0-is in
    subst (λ k. Does k
    (lent (g.S.Source.contents c.args.script.now) (g.H.HostNet.contents c.args.host.now) (g.K.Sink.contents c.args.out.now)
    (g.S.Source.faults c.args.script.now) (g.H.HostNet.faults c.args.host.now) (g.K.Sink.faults c.args.out.now)
    (g.G.Gate.pauses c.args.gate.now))
    (lent (g.S.Source.contents c.play_script.new.script) (g.H.HostNet.contents c.args.host.now) (g.K.Sink.contents c.play_script.new.out)
    (g.S.Source.faults c.play_script.new.script) (g.H.HostNet.faults c.args.host.now) (g.K.Sink.faults c.play_script.new.out)
    (g.G.Gate.pauses c.args.gate.now)) c.play_script.result)
    (sym is) (c.play_script.ensures, (refl, refl))

pub returns-in-Ok-Hostile-clause-does : goal.returns-in-Ok-Hostile-clause-does
returns-in-Ok-Hostile-clause-does g c =
    let is : command_of (map string_bytes c.args.words.now) ≡ Some Hostile =
    c.in-Ok-Hostile.ensures.command ∙ ap (λ x. Some (command_view x)) c.in-Ok-Hostile.field-0-is in
    subst (λ k. Does k
    (lent (g.S.Source.contents c.args.script.now) (g.H.HostNet.contents c.args.host.now) (g.K.Sink.contents c.args.out.now)
    (g.S.Source.faults c.args.script.now) (g.H.HostNet.faults c.args.host.now) (g.K.Sink.faults c.args.out.now)
    (g.G.Gate.pauses c.args.gate.now))
    (lent (g.S.Source.contents c.hostile_script.new.script) (g.H.HostNet.contents c.args.host.now) (g.K.Sink.contents c.hostile_script.new.out)
    (g.S.Source.faults c.hostile_script.new.script) (g.H.HostNet.faults c.args.host.now) (g.K.Sink.faults c.hostile_script.new.out)
    (g.G.Gate.pauses c.args.gate.now)) c.hostile_script.result)
    (sym is) (c.hostile_script.ensures, (refl, refl))

pub returns-in-Ok-Load-clause-does : goal.returns-in-Ok-Load-clause-does
returns-in-Ok-Load-clause-does g c =
    let is : command_of (map string_bytes c.args.words.now)
    ≡ Some (Load c.in-Ok-Load.number c.in-Ok-Load.conns c.in-Ok-Load.bytes c.in-Ok-Load.queue) =
    c.in-Ok-Load.ensures.command ∙ ap (λ x. Some (command_view x)) c.in-Ok-Load.field-0-is in
    subst (λ k. Does k
    (lent (g.S.Source.contents c.args.script.now) (g.H.HostNet.contents c.args.host.now) (g.K.Sink.contents c.args.out.now)
    (g.S.Source.faults c.args.script.now) (g.H.HostNet.faults c.args.host.now) (g.K.Sink.faults c.args.out.now)
    (g.G.Gate.pauses c.args.gate.now))
    (lent (g.S.Source.contents c.args.script.now) (g.H.HostNet.contents c.args.host.now) (g.K.Sink.contents c.load_apps.new.out)
    (g.S.Source.faults c.args.script.now) (g.H.HostNet.faults c.args.host.now) (g.K.Sink.faults c.load_apps.new.out)
    (g.G.Gate.pauses c.args.gate.now)) c.load_apps.result)
    (sym is) (c.load_apps.ensures, (refl, refl), (refl, refl))

pub returns-in-Ok-Run-clause-does : goal.returns-in-Ok-Run-clause-does
returns-in-Ok-Run-clause-does g c =
    let is : command_of (map string_bytes c.args.words.now) ≡ Some (Run c.in-Ok-Run.base.now c.in-Ok-Run.queue c.in-Ok-Run.idle c.in-Ok-Run.first) =
    c.in-Ok-Run.ensures.command ∙ ap (λ x. Some (command_view x)) c.in-Ok-Run.field-0-is in
    subst (λ k. Does k
    (lent (g.S.Source.contents c.args.script.now) (g.H.HostNet.contents c.args.host.now) (g.K.Sink.contents c.args.out.now)
    (g.S.Source.faults c.args.script.now) (g.H.HostNet.faults c.args.host.now) (g.K.Sink.faults c.args.out.now)
    (g.G.Gate.pauses c.args.gate.now))
    (lent (g.S.Source.contents c.run_script.new.script) (g.H.HostNet.contents c.run_script.new.host) (g.K.Sink.contents c.run_script.new.out)
    (g.S.Source.faults c.run_script.new.script) (g.H.HostNet.faults c.run_script.new.host) (g.K.Sink.faults c.run_script.new.out)
    (g.G.Gate.pauses c.args.gate.now)) c.run_script.result)
    (sym is) c.run_script.ensures

pub returns-clause-does : goal.returns-clause-does
returns-clause-does g c =
    starved (command_of (map string_bytes c.args.words.now))
    (lent (g.S.Source.contents c.args.script.now) (g.H.HostNet.contents c.args.host.now) (g.K.Sink.contents c.args.out.now)
    (g.S.Source.faults c.args.script.now) (g.H.HostNet.faults c.args.host.now) (g.K.Sink.faults c.args.out.now)
    (g.G.Gate.pauses c.args.gate.now))
    (lent (g.S.Source.contents c.args.script.now) (g.H.HostNet.contents c.args.host.now) (g.K.Sink.contents c.no_memory.new.out)
    (g.S.Source.faults c.args.script.now) (g.H.HostNet.faults c.args.host.now) (g.K.Sink.faults c.no_memory.new.out)
    (g.G.Gate.pauses c.args.gate.now)) c.no_memory.result (refl, refl) (refl, refl) c.no_memory.ensures
