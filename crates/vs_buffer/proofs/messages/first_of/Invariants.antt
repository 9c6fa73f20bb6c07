use Rattle.std.{proofs.Common.{◌≡◌, ◌+◌, length}, specs.Option.option_map}
use Rattle.vs_buffer.specs.Messages.{first_message}
use Rattle.vs_buffer.proofs.messages.first_of.Given as goal

abbrev pub invariant-loop-mark : goal.invariant-loop-mark
invariant-loop-mark l = record {
  told : option_map (λ m. (l.len + m.0, m.1)) (first_message l.mark-iterator) ≡ first_message l.marks.items;
  long : l.len + length l.mark-iterator ≡ length l.marks.items;
}
