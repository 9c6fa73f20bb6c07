use Rattle.std.proofs.Common.{◌≡◌, ℕ, List, Result, Err, arith, sym, ap, ◌∙◌}
use Rattle.vs_guest_mem.specs.Memory.{bytes_at}
use Rattle.vs_layout.specs.Entry.{desc_of}
use Rattle.vs_ring_plain.specs.{declared.piece.Piece.Piece, Accesses.over, Take.comes_to}
use Rattle.vs_ring_port.specs.declared.failure.Failure.{Failure}
use Rattle.vs_ring_plain.proofs.Walk.{along_queue, exit_range, exit_table_fault, exit_to_table, exit_fault, exit_ends, goes_on}
use Rattle.vs_ring_plain.proofs.take.walk_queue.Goals as goal

pub returns-then-number-queue-clause-exact : goal.returns-then-number-queue-clause-exact
returns-then-number-queue-clause-exact c ends =
    exit_range (along_queue c.args.queue.now c.args.mem.now c.args.head)
    c.walk.mem c.walk.pieces.items c.walk.number c.walk.invariant.0 (omega arith) (omega arith) ends

pub returns-in_err-check_piece-clause-exact : goal.returns-in_err-check_piece-clause-exact
returns-in_err-check_piece-clause-exact c ends =
    exit_fault (along_queue c.args.queue.now c.args.mem.now c.args.head)
    c.walk.mem c.load_desc-desc.new.mem c.walk.pieces.items c.walk.number c.load_desc-desc.result
    c.in_err-check_piece.field-0.0 c.walk.invariant.0
    (record {
      some = omega arith;
      near = omega arith;
      memory = c.load_desc-desc.ensures.memory;
      size = c.load_desc-desc.ensures.size;
      is = c.load_desc-desc.ensures.value
          ∙ ap (λ (x : ℕ). desc_of (bytes_at c.load_desc-desc.new.mem x 16)) c.desc_at.ensures.exact;
    })
    c.if-desc-ne0.false (sym c.check_piece.ensures ∙ c.in_err-check_piece.was) ends
    ∙ ap (λ (r : Result (Unit {0}) Failure). comes_to ends r c.walk.pieces.items c.load_desc-desc.new.mem) (sym gives)
  where
    gives : c.from_residual-in_err-check_piece.result ≡ Err c.in_err-check_piece.field-0.0
    gives = grind (arith, c.from_residual-in_err-check_piece.ensures)

pub returns-then-desc-eq0-clause-exact : goal.returns-then-desc-eq0-clause-exact
returns-then-desc-eq0-clause-exact c ends =
    exit_ends (along_queue c.args.queue.now c.args.mem.now c.args.head)
    c.walk.mem c.load_desc-desc.new.mem c.walk.pieces.items c.walk.number c.load_desc-desc.result c.walk.invariant.0
    (record {
      some = omega arith;
      near = omega arith;
      memory = c.load_desc-desc.ensures.memory;
      size = c.load_desc-desc.ensures.size;
      is = c.load_desc-desc.ensures.value
          ∙ ap (λ (x : ℕ). desc_of (bytes_at c.load_desc-desc.new.mem x 16)) c.desc_at.ensures.exact;
    })
    c.if-desc-ne0.false (sym c.check_piece.ensures ∙ c.in_ok-check_piece.was) c.if-desc-eq0.true ends
    ∙ ap (λ (found : List Piece). over (ends found) c.load_desc-desc.new.mem) (sym c.push_reserved.ensures.items)

pub walk-preserved : goal.walk-preserved
walk-preserved c = (
  goes_on (along_queue c.args.queue.now c.args.mem.now c.args.head)
      c.walk.mem c.load_desc-desc.new.mem c.walk.pieces.items
      c.push_reserved.new.self.items c.walk.number c.load_desc-desc.result c.walk.invariant.0
      (record {
        some = omega arith;
        near = omega arith;
        memory = c.load_desc-desc.ensures.memory;
        size = c.load_desc-desc.ensures.size;
        is = c.load_desc-desc.ensures.value
            ∙ ap (λ (x : ℕ). desc_of (bytes_at c.load_desc-desc.new.mem x 16)) c.desc_at.ensures.exact;
      })
      c.if-desc-ne0.false (sym c.check_piece.ensures ∙ c.in_ok-check_piece.was) c.if-desc-eq0.false c.push_reserved.ensures.items,
  c.push_reserved.ensures.capacity ∙ c.walk.invariant.1,
)

pub returns-in_err-check_table-clause-exact : goal.returns-in_err-check_table-clause-exact
returns-in_err-check_table-clause-exact c ends =
    exit_table_fault c.args.queue.now c.args.mem.now c.args.head c.walk.mem c.load_desc-desc.new.mem c.walk.pieces.items c.walk.number
    c.load_desc-desc.result c.in_err-check_table.field-0.0 c.walk.invariant.0
    (record {
      some = omega arith;
      near = omega arith;
      memory = c.load_desc-desc.ensures.memory;
      size = c.load_desc-desc.ensures.size;
      is = c.load_desc-desc.ensures.value
          ∙ ap (λ (x : ℕ). desc_of (bytes_at c.load_desc-desc.new.mem x 16)) c.desc_at.ensures.exact;
    })
    c.if-desc-ne0.true (sym c.check_table.ensures ∙ c.in_err-check_table.was) ends
    ∙ ap (λ (r : Result (Unit {0}) Failure). comes_to ends r c.walk.pieces.items c.load_desc-desc.new.mem) (sym gives)
  where
    gives : c.from_residual.result ≡ Err c.in_err-check_table.field-0.0
    gives = grind (arith, c.from_residual.ensures)

pub returns-then-desc-ne0-clause-exact : goal.returns-then-desc-ne0-clause-exact
returns-then-desc-ne0-clause-exact c ends =
    exit_to_table c.args.queue.now c.args.mem.now c.args.head c.walk.mem c.load_desc-desc.new.mem c.walk.pieces.items c.walk.number
    c.load_desc-desc.result c.walk.invariant.0
    (record {
      some = omega arith;
      near = omega arith;
      memory = c.load_desc-desc.ensures.memory;
      size = c.load_desc-desc.ensures.size;
      is = c.load_desc-desc.ensures.value
          ∙ ap (λ (x : ℕ). desc_of (bytes_at c.load_desc-desc.new.mem x 16)) c.desc_at.ensures.exact;
    })
    c.if-desc-ne0.true (sym c.check_table.ensures ∙ c.in_ok-check_table.was) ends
    ∙ c.walk_table.ensures.exact ends
