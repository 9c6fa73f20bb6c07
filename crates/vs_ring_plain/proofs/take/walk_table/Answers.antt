use Rattle.std.proofs.Common.{◌≡◌, List, Result, Err, arith, sym, ap, ◌∙◌}
use Rattle.vs_ring_plain.{specs.{declared.piece.Piece.Piece, Accesses.over, Take.comes_to}, proofs.Walk.{along_table, exit_range, exit_nested, exit_fault, exit_ends, goes_on}}
use Rattle.vs_ring_port.specs.declared.failure.Failure.{Failure}
use Rattle.vs_ring_plain.proofs.take.walk_table.Goals as goal

pub returns-then-number-entries-clause-exact : goal.returns-then-number-entries-clause-exact
returns-then-number-entries-clause-exact c ends =
    exit_range (along_table c.args.queue.now c.args.mem.now c.args.at c.args.entries c.args.pieces.now.items)
    c.walk.mem c.walk.pieces.items c.walk.number c.walk.invariant.0 (omega arith) (omega arith) ends

pub returns-then-desc-ne0-clause-exact : goal.returns-then-desc-ne0-clause-exact
returns-then-desc-ne0-clause-exact c ends =
    exit_nested c.args.queue.now c.args.at c.args.entries c.args.mem.now c.args.pieces.now.items c.walk.mem c.load_desc-desc.new.mem
    c.walk.pieces.items c.walk.number c.load_desc-desc.result c.walk.invariant.0
    (record {
      some = omega arith;
      near = omega arith;
      memory = c.load_desc-desc.ensures.memory;
      size = c.load_desc-desc.ensures.size;
      is = c.load_desc-desc.ensures.value;
    })
    c.if-desc-ne0.true ends

pub returns-in_err-check_piece-clause-exact : goal.returns-in_err-check_piece-clause-exact
returns-in_err-check_piece-clause-exact c ends =
    exit_fault (along_table c.args.queue.now c.args.mem.now c.args.at c.args.entries c.args.pieces.now.items)
    c.walk.mem c.load_desc-desc.new.mem c.walk.pieces.items c.walk.number c.load_desc-desc.result
    c.in_err-check_piece.field-0.0 c.walk.invariant.0
    (record {
      some = omega arith;
      near = omega arith;
      memory = c.load_desc-desc.ensures.memory;
      size = c.load_desc-desc.ensures.size;
      is = c.load_desc-desc.ensures.value;
    })
    c.if-desc-ne0.false (sym c.check_piece.ensures ∙ c.in_err-check_piece.was) ends
    ∙ ap (λ (r : Result (Unit {0}) Failure). comes_to ends r c.walk.pieces.items c.load_desc-desc.new.mem) (sym gives)
  where
    gives : c.from_residual.result ≡ Err c.in_err-check_piece.field-0.0
    gives = grind (arith, c.from_residual.ensures)

pub returns-then-desc-eq0-clause-exact : goal.returns-then-desc-eq0-clause-exact
returns-then-desc-eq0-clause-exact c ends =
    exit_ends (along_table c.args.queue.now c.args.mem.now c.args.at c.args.entries c.args.pieces.now.items)
    c.walk.mem c.load_desc-desc.new.mem c.walk.pieces.items c.walk.number c.load_desc-desc.result c.walk.invariant.0
    (record {
      some = omega arith;
      near = omega arith;
      memory = c.load_desc-desc.ensures.memory;
      size = c.load_desc-desc.ensures.size;
      is = c.load_desc-desc.ensures.value;
    })
    c.if-desc-ne0.false (sym c.check_piece.ensures ∙ c.in_ok-check_piece.was) c.if-desc-eq0.true ends
    ∙ ap (λ (found : List Piece). over (ends found) c.load_desc-desc.new.mem) (sym c.push_reserved.ensures.items)

pub walk-preserved : goal.walk-preserved
walk-preserved c = (
  goes_on (along_table c.args.queue.now c.args.mem.now c.args.at c.args.entries c.args.pieces.now.items)
      c.walk.mem c.load_desc-desc.new.mem c.walk.pieces.items
      c.push_reserved.new.self.items c.walk.number c.load_desc-desc.result c.walk.invariant.0
      (record {
        some = omega arith;
        near = omega arith;
        memory = c.load_desc-desc.ensures.memory;
        size = c.load_desc-desc.ensures.size;
        is = c.load_desc-desc.ensures.value;
      })
      c.if-desc-ne0.false (sym c.check_piece.ensures ∙ c.in_ok-check_piece.was) c.if-desc-eq0.false c.push_reserved.ensures.items,
  c.push_reserved.ensures.capacity ∙ c.walk.invariant.1,
)
