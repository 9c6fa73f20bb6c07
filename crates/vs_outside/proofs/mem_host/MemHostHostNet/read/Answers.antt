use Rattle.std.proofs.Common.{Bool, ◌-◌, length, get_or, set, ap, sym, ◌∙◌}
use Rattle.vs_outside.{specs.HostProgram.{HostMemory, after_call}, proofs.Streams.{after_reads, is_read, read_counts_none}}
use Rattle.vs_outside.proofs.mem_host.MemHostHostNet.read.Goals as goal

pub returns-clause-exact : goal.returns-clause-exact
returns-clause-exact c =
    let m = c.args.self.now in
    let old = c.index_mut.result.now in
    let is = c.self.view_is ∙ (c.fails.ensures.after ∙ ap (λ (b : Bool). after_call b m) c.if-fails.false) in
    is_read c.args.id c.read.result c.read.new.out m.contents old c.read.new.self c.requires
    (c.index_mut.ensures.value ∙ ap (λ (x : HostMemory). get_or x.contents.streams (c.args.id - 1) old) is)
    (sym c.fails.ensures.answer ∙ c.if-fails.false) (rw c.read.auto.out c.read.ensures.answer) c.read.ensures.reads

pub returns-clause-after : goal.returns-clause-after
returns-clause-after c =
    let m = c.args.self.now in
    let old = c.index_mut.result.now in
    let is = c.self.view_is ∙ (c.fails.ensures.after ∙ ap (λ (b : Bool). after_call b m) c.if-fails.false) in
    ap (λ (x : HostMemory). record x.contents { streams = set x.contents.streams (c.args.id - 1) c.read.new.self }) is
    ∙ after_reads c.args.id c.read.result c.read.new.out m.contents old c.read.new.self c.requires
    (c.index_mut.ensures.value ∙ ap (λ (x : HostMemory). get_or x.contents.streams (c.args.id - 1) old) is) c.read.ensures.reads

pub returns-clause-counts : goal.returns-clause-counts
returns-clause-counts c =
    let m = c.args.self.now in
    let is = c.self.view_is ∙ (c.fails.ensures.after ∙ ap (λ (b : Bool). after_call b m) c.if-fails.false) in
    read_counts_none (length c.args.out.now) c.read.result c.index_mut.result.now _ _ c.read.ensures.answer
    (ap (λ (x : HostMemory). x.faults) is)
