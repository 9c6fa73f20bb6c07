use Rattle.std.proofs.{Common.{◌≡◌, ℕ, ◌+◌, rules, arith, length, take, ap, ◌∙◌, List, ◌++◌, slice_index_or}, lemmas.{Slice.take-put_mid, List.drop_more}}
use Rattle.vs_guest_mem.specs.Memory.{accessed, bytes_at}
use Rattle.vs_ring_plain.proofs.Moving.{reads_more}
use Rattle.vs_ring_plain.proofs.access.read_pieces.Goals as goal

pub loop-piece-preserved : goal.loop-piece-preserved
loop-piece-preserved c =
    reads_more c.args.mem.now c.args.pieces.now c.args.at (length c.args.out.now) c.loop-piece.mem c.load_part.new.mem c.loop-piece.piece-index
    c.loop-piece.skip c.loop-piece.filled c.loop-piece.out _ _ c.min-from.result c.min-count.result c.loop-piece.invariant
    (record {
      here = drop_more c.args.pieces.now c.loop-piece.piece-index _ (omega arith);
      skips = c.min-from.ensures;
      uses = grind (arith, c.min-from.ensures, c.min-count.ensures, c.loop-piece.invariant.long);
    })
    memory c.load_part.ensures.size (search rules)
    (take-put_mid c.loop-piece.filled _ c.loop-piece.out c.load_part.new.out (c.loop-piece.filled + c.min-count.result) (omega (arith, long)) (omega arith)
    ∙ ap (λ (xs : List ℕ). take c.loop-piece.filled c.loop-piece.out ++ xs) bytes)
  where
    memory : c.load_part.new.mem ≡ accessed c.loop-piece.mem c.min-count.result
    memory = grind (arith, c.load_part.ensures.memory)

    bytes : c.load_part.new.out
        ≡ bytes_at c.load_part.new.mem ((slice_index_or c.args.pieces.now c.loop-piece.piece-index record { addr = 0; len = 0 }).addr + c.min-from.result)
        c.min-count.result
    bytes = grind (arith, c.load_part.ensures.bytes)

    long : length c.load_part.new.out ≡ c.min-count.result
    long = search rules
