use Rattle.std.proofs.Common.{◌≡◌, ◌+◌, ◌-◌, ◌≤◌, ◌++◌, length}
use Rattle.vs_buffer.specs.Messages.{marks_of}
use Rattle.vs_buffer.proofs.messages.put_marks.Given as goal

abbrev pub invariant-loop-place : goal.invariant-loop-place
invariant-loop-place l = record {
  put : l.marks.items ++ marks_of (l.count - l.place) l.last ≡ l.fn.marks.items ++ marks_of l.count l.last;
  room : length l.marks.items + (l.count - l.place) ≤ l.marks.capacity;
  same : l.marks.capacity ≡ l.fn.marks.capacity;
}
