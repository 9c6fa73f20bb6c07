use Rattle.std.proofs.{Common.arith, lemmas.Option.IfSome_then}
use Rattle.vs_buffer.{specs.Messages.first_message, proofs.Marks.{message_within, no_more_marks}}
use Rattle.vs_buffer.proofs.messages.MessageFifo.front_message.Goals as goal

pub returns-clause-within : goal.returns-clause-within
returns-clause-within c =
    let f = c.self.inside in
    let all = no_more_marks f.marked _ _ c.self.invariant.each in
    rw (← c.self.view_is, c.first_of.ensures)
    (IfSome_then (first_message f.marks.items) (message_within f.marks.items) (λ m le. omega (arith, le, all)))
