use Rattle.std.proofs.{Common.{◌≡◌, ap, ◌∙◌, length, take, drop, ◌++◌, ◌-◌, ◌≤◌, arith, List, ℕ}, lemmas.List.with_items_is}
use Rattle.vs_buffer.{specs.Fifo.Fifo, proofs.{Pieces.longer, ByteFifo.put.Goals.{then-is_to_move, else-is_to_move}}}
use Rattle.vs_buffer.proofs.ByteFifo.put.Goals as goal

pub returns : goal.returns
returns c =
    let old = c.self.inside in
    let f = c.if-is_to_move.self-inside in
    let fifo : List ℕ → ℕ → Fifo = λ bytes capacity. record { bytes = bytes; capacity = capacity } in
    let bytes : drop f.start (take f.end f.bytes.items) ≡ c.args.self.now.bytes = elim c.if-is_to_move.branch [
      | then-is_to_move w ↦
          let items = with_items_is old.bytes w.move_to_front.new.bytes (w.move_to_front.ensures.length ∙ w.deref_mut.ensures.len) in
          ap (λ g. drop g.start (take g.end g.bytes.items)) w.self-inside-is ∙ ap (λ items. take (old.end - old.start) items) items
          ∙ w.move_to_front.ensures.moved ∙ ap (λ items. drop old.start (take old.end items)) w.deref_mut.ensures.value ∙ ap (λ v. v.bytes) c.self.view_is
      | else-is_to_move w ↦ ap (λ g. drop g.start (take g.end g.bytes.items)) w.self-inside-is ∙ ap (λ v. v.bytes) c.self.view_is
    ] in
    let capacity : f.capacity ≡ c.args.self.now.capacity = elim c.if-is_to_move.branch [
      | then-is_to_move w ↦ ap (λ g. g.capacity) w.self-inside-is ∙ ap (λ v. v.capacity) c.self.view_is
      | else-is_to_move w ↦ ap (λ g. g.capacity) w.self-inside-is ∙ ap (λ v. v.capacity) c.self.view_is
    ] in
    let sound : (f.start ≤ f.end) × (f.end ≤ length f.bytes.items) = elim c.if-is_to_move.branch [
      | then-is_to_move w ↦
          let new = with_items_is old.bytes w.move_to_front.new.bytes (w.move_to_front.ensures.length ∙ w.deref_mut.ensures.len) in
          let long = ap (λ items. length items) new ∙ w.move_to_front.ensures.length ∙ ap (λ items. length items) w.deref_mut.ensures.value in
          rw w.self-inside-is (omega (arith), omega (arith, long, c.self.invariant.held))
      | else-is_to_move w ↦ rw w.self-inside-is (c.self.invariant.dropped, c.self.invariant.held)
    ] in
    let more = longer f.start f.end f.bytes.items c.put_behind.new.bytes.items c.args.bytes.now sound.0 sound.1 c.put_behind.ensures.put in
    ap (λ bytes. fifo bytes f.capacity) (more ∙ ap (λ bytes. bytes ++ c.args.bytes.now) bytes)
    ∙ ap (λ capacity. fifo (c.args.self.now.bytes ++ c.args.bytes.now) capacity) capacity
