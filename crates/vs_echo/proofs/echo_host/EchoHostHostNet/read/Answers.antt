use Rattle.std.proofs.{Common.{◌-◌, refl, sym, subst, ◌∙◌}, lemmas.List.Elements.All-set}
use Rattle.vs_outside.{specs.{Host.IsOpen, HostProgram.HostMemory}, proofs.Streams.{after_reads, is_read}}
use Rattle.vs_echo.{specs.{contracts.echo_host.EchoHost.the_view, Echo.IsEcho}, proofs.Echoes.same_ids}
use Rattle.vs_echo.proofs.echo_host.EchoHostHostNet.read.Goals as goal

pub returns-clause-after : goal.returns-clause-after
returns-clause-after c =
    let m = the_view c.self.inside in
    let opened = subst (λ (m : HostMemory). IsOpen c.args.id m.contents) (sym c.self.view_is) c.requires in
    rw (← c.self.view_is)
    (same_ids m.contents (c.args.id - 1) c.read.new.self
    ∙ after_reads c.args.id c.read.result c.read.new.out m.contents c.index_mut.result.now c.read.new.self opened c.index_mut.ensures.value
    c.read.ensures.reads)

pub returns-clause-exact : goal.returns-clause-exact
returns-clause-exact c =
    let m = the_view c.self.inside in
    let opened = subst (λ (m : HostMemory). IsOpen c.args.id m.contents) (sym c.self.view_is) c.requires in
    rw (← c.self.view_is)
    (is_read c.args.id c.read.result c.read.new.out m.contents c.index_mut.result.now c.read.new.self opened c.index_mut.ensures.value refl
    (rw c.read.auto.out c.read.ensures.answer) c.read.ensures.reads)

pub invariant_of-self : goal.invariant_of-self
invariant_of-self c =
    All-set IsEcho c.self.inside.streams.items (c.args.id - 1) c.read.new.self c.read.ensures.echo c.self.invariant
