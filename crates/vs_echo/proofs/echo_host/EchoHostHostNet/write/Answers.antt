use Rattle.std.proofs.{Common.{◌-◌, length, refl, sym, subst, ◌∙◌}, lemmas.List.Elements.All-set}
use Rattle.vs_outside.{specs.{Host.IsOpen, HostProgram.HostMemory}, proofs.Streams.{after_writes, is_written}}
use Rattle.vs_echo.{specs.{contracts.echo_host.EchoHost.the_view, Echo.IsEcho}, proofs.Echoes.same_ids}
use Rattle.vs_echo.proofs.echo_host.EchoHostHostNet.write.Goals as goal

pub returns-clause-after : goal.returns-clause-after
returns-clause-after c =
    let m = the_view c.self.inside in
    let opened = subst (λ (m : HostMemory). IsOpen c.args.id m.contents) (sym c.self.view_is) c.requires in
    rw (← c.self.view_is)
    (same_ids m.contents (c.args.id - 1) c.write.new.self
    ∙ after_writes c.args.id c.write.result c.args.bytes.now m.contents c.index_mut.result.now c.write.new.self c.write.ensures.answer opened
    c.index_mut.ensures.value c.write.ensures.after)

pub returns-clause-exact : goal.returns-clause-exact
returns-clause-exact c =
    let m = the_view c.self.inside in
    let opened = subst (λ (m : HostMemory). IsOpen c.args.id m.contents) (sym c.self.view_is) c.requires in
    rw (← c.self.view_is)
    (is_written c.args.id (length c.args.bytes.now) c.write.result m.contents c.index_mut.result.now opened c.index_mut.ensures.value refl
    c.write.ensures.answer)

pub invariant_of-self : goal.invariant_of-self
invariant_of-self c =
    All-set IsEcho c.self.inside.streams.items (c.args.id - 1) c.write.new.self c.write.ensures.echo c.self.invariant
