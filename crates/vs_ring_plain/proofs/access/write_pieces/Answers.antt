use Rattle.std.proofs.{Common.arith, lemmas.List.drop_more}
use Rattle.vs_ring_plain.proofs.Moving.{writes_more}
use Rattle.vs_ring_plain.proofs.access.write_pieces.Goals as goal

pub loop-piece-preserved : goal.loop-piece-preserved
loop-piece-preserved c =
    writes_more c.args.mem.now c.args.pieces.now c.args.at c.args.bytes.now c.loop-piece.mem c.store_part.new.mem c.loop-piece.piece-index
    c.loop-piece.skip c.loop-piece.written _ c.min-from.result c.min-count.result c.loop-piece.invariant
    (record {
      here = drop_more c.args.pieces.now c.loop-piece.piece-index _ (omega arith);
      skips = c.min-from.ensures;
      uses = grind (arith, c.min-from.ensures, c.min-count.ensures);
    })
    (grind (arith, c.store_part.ensures.memory)) c.store_part.ensures.size
