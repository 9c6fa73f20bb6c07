use Rattle.std.proofs.Common.{◌-◌, take, drop, ◌∙◌, ap}
use Rattle.vs_buffer.proofs.Pieces.{copied}
use Rattle.vs_buffer.proofs.move_to_front.Goals as goal

pub returns-clause-moved : goal.returns-clause-moved
returns-clause-moved c =
    let count = c.args.end - c.args.start in
    copied c.args.start c.args.end c.args.bytes.now c.copy_from_slice.new.self (drop count c.split_at_mut-front.result.0.now)
    c.split_at_mut-front.result.1.now c.requires.part.0 c.requires.part.1
    (c.copy_from_slice.ensures.after ∙ ap (λ bytes. take count bytes) c.split_at_mut-front.ensures.back)
