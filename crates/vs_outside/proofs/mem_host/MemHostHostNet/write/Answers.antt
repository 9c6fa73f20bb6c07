use Rattle.std.proofs.Common.{Bool, ◌-◌, length, get_or, set, ap, sym, ◌∙◌}
use Rattle.vs_outside.{specs.HostProgram.{HostMemory, after_call}, proofs.Streams.{after_writes, write_counts_none, is_written}}
use Rattle.vs_outside.proofs.mem_host.MemHostHostNet.write.Goals as goal

pub returns-in-Ok-clause-after : goal.returns-in-Ok-clause-after
returns-in-Ok-clause-after c =
    let m = c.args.self.now in
    let old = c.index_mut-stream.result.now in
    let is = c.self.view_is ∙ (c.fails.ensures.after ∙ ap (λ (b : Bool). after_call b m) c.if-fails.false) in
    ap (λ (x : HostMemory). record x.contents { streams = set x.contents.streams (c.args.id - 1) c.write.new.self }) is
    ∙ after_writes c.args.id c.in-Ok.answer c.args.bytes.now m.contents old c.write.new.self c.in-Ok.ensures.answer c.requires
    (c.index_mut-stream.ensures.value ∙ ap (λ (x : HostMemory). get_or x.contents.streams (c.args.id - 1) old) is) c.in-Ok.ensures.ok

pub returns-in-Ok-clause-counts : goal.returns-in-Ok-clause-counts
returns-in-Ok-clause-counts c =
    let m = c.args.self.now in
    let is = c.self.view_is ∙ (c.fails.ensures.after ∙ ap (λ (b : Bool). after_call b m) c.if-fails.false) in
    write_counts_none (length c.args.bytes.now) c.in-Ok.answer c.index_mut-stream.result.now _ _ c.in-Ok.ensures.answer
    (ap (λ (x : HostMemory). x.faults) is)

pub returns-in-Ok-clause-exact : goal.returns-in-Ok-clause-exact
returns-in-Ok-clause-exact c =
    let m = c.args.self.now in
    let old = c.index_mut-stream.result.now in
    let is = c.self.view_is ∙ (c.fails.ensures.after ∙ ap (λ (b : Bool). after_call b m) c.if-fails.false) in
    is_written c.args.id (length c.args.bytes.now) c.in-Ok.answer m.contents old c.requires
    (c.index_mut-stream.ensures.value ∙ ap (λ (x : HostMemory). get_or x.contents.streams (c.args.id - 1) old) is)
    (sym c.fails.ensures.answer ∙ c.if-fails.false) c.in-Ok.ensures.answer
