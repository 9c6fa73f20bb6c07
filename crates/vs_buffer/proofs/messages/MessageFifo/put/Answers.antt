use Rattle.std.proofs.Common.{ap, sym, ◌∙◌, length, arith, length-append}
use Rattle.vs_buffer.{specs.Messages.marks_of, proofs.Marks.as_many}
use Rattle.vs_buffer.proofs.messages.MessageFifo.put.Goals as goal

pub invariant_of-self : goal.invariant_of-self
invariant_of-self c =
    let f = c.self.inside in
    let n = length c.args.bytes.now in
    let each = rw c.if-self.true at c.self.invariant.each in
    let marks = ap (λ b. length b.items) c.put_marks.ensures ∙ length-append f.marks.items (marks_of n c.args.last) in
    let bytes = ap (λ b. length b.bytes) c.put.ensures ∙ length-append f.bytes.bytes c.args.bytes.now in
    record {
      room = ap (λ b. b.capacity) c.put_marks.ensures ∙ c.self.invariant.room ∙ ap (λ b. b.capacity) (sym c.put.ensures);
      each = rw c.if-self.true (omega (arith, marks, bytes, each, as_many n c.args.last));
    }
