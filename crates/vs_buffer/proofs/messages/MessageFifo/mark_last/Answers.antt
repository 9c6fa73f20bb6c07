use Rattle.std.proofs.Common.{◌≡◌, ◌++◌, ◌∷◌, [], length, take, ◌-◌, ap, ◌∙◌, arith}
use Rattle.circular_buffer.specs.Buffer.{keep_last}
use Rattle.vs_buffer.{specs.Messages.with_last, proofs.Marks.{kept_whole, remarked}}
use Rattle.vs_buffer.proofs.messages.MessageFifo.mark_last.Goals as goal

new : (c : goal.After-push_back) → c.push_back.new.self.items ≡ with_last c.args.mark c.self.inside.marks.items
new c =
    let marks = c.self.inside.marks.items in
    let r = remarked c.args.mark marks (omega arith) in
    ap (λ b. b.items) c.push_back.ensures.items ∙ ap (λ b. keep_last b.capacity (b.items ++ c.args.mark ∷ [])) c.pop_back.ensures.items
    ∙ kept_whole c.self.inside.marks.capacity (take (length marks - 1) marks ++ c.args.mark ∷ [])
    (omega (arith, ap length r.new, r.long, c.len.ensures.len, c.len.ensures.within.0)) ∙ r.new

pub invariant_of-self : goal.invariant_of-self
invariant_of-self c =
    let r = remarked c.args.mark c.self.inside.marks.items (omega arith) in
    record {
      room = ap (λ b. b.capacity) c.push_back.ensures.items ∙ ap (λ b. b.capacity) c.pop_back.ensures.items ∙ c.self.invariant.room;
      each = ap length (new c) ∙ r.long ∙ c.self.invariant.each;
    }
