use Rattle.std.proofs.Common.{◌≡◌, ◌++◌, ◌∷◌, [], ◌+◌, ◌-◌, append_assoc, length, ap, sym, ◌∙◌, arith, length-append}
use Rattle.vs_buffer.{specs.Messages.marks_of, proofs.Marks.{kept_whole, mark_next}}
use Rattle.vs_buffer.proofs.messages.put_marks.Goals as goal

pub loop-place-preserved : goal.loop-place-preserved
loop-place-preserved c =
    let items = c.loop-place.marks.items in
    let one = c.mark_at.result in
    let rest = marks_of (c.args.count - (c.loop-place.place + 1)) c.args.last in
    let long = length-append items (one ∷ []) in
    let whole = kept_whole c.loop-place.marks.capacity (items ++ one ∷ []) (omega (arith, long, c.loop-place.invariant.room, c.loop-place-test.true)) in
    let put : c.push_back.new.self.items ≡ items ++ one ∷ [] = ap (λ b. b.items) c.push_back.ensures.items ∙ whole in
    let same : c.push_back.new.self.capacity ≡ c.loop-place.marks.capacity = ap (λ b. b.capacity) c.push_back.ensures.items in
    let next : marks_of (c.args.count - c.loop-place.place) c.args.last ≡ one ∷ rest =
    mark_next c.loop-place.place c.args.count c.args.last c.loop-place-test.true ∙ ap (λ m. m ∷ rest) (sym c.mark_at.ensures) in
    record {
      put = ap (λ xs. xs ++ rest) put ∙ append_assoc items (one ∷ []) rest ∙ ap (λ xs. items ++ xs) (sym next) ∙ c.loop-place.invariant.put;
      room = omega (arith, ap length put, long, same, c.loop-place.invariant.room, c.loop-place-test.true);
      same = same ∙ c.loop-place.invariant.same;
    }
