-- Sources and sinks: what a call answers, and what it changes of the bytes.
use Rattle.std.specs.Prelude.{◌≡◌, ℕ, ◌≤◌, ◌<◌, Bool, true, false, List, [], ◌++◌, length, take, drop}
use Rattle.vs_outside.specs.declared.in_out.{SourceRead.SourceRead, SinkWrite.SinkWrite}
use Rattle.vs_outside.specs.declared.in_out.SourceRead.TheVariants as source_read
use Rattle.vs_outside.specs.declared.in_out.SinkWrite.TheVariants as sink_write

-- A number of bytes that a call moved: no more than there was room for, and at least one where there was room for one.
abbrev pub MovesSome : ℕ → ℕ → Type 0
MovesSome n room = (n ≤ room) × (0 < room → 1 ≤ n)

-- whether a read of a source failed
abbrev pub read_failed : SourceRead → Bool
read_failed source_read.Failed = true
read_failed _ = false

-- Where bytes were read, they are some.
abbrev pub ReadsSome : SourceRead → ℕ → Type 0
ReadsSome (source_read.Got n) room = MovesSome n room
ReadsSome _ room = Unit {0}

-- What is read are the next bytes that are left; at the end none are left.
abbrev pub ReadsNext : SourceRead → List ℕ → List ℕ → Type 0
ReadsNext (source_read.Got n) out left = (n ≤ length left) × (take n out ≡ take n left)
ReadsNext source_read.End out left = left ≡ []
ReadsNext source_read.Failed out left = Unit {0}

-- The bytes that are left after a read.
abbrev pub left_after : SourceRead → List ℕ → List ℕ
left_after (source_read.Got n) left = drop n left
left_after _ left = left

-- whether a write to a sink failed
abbrev pub write_failed : SinkWrite → Bool
write_failed sink_write.Failed = true
write_failed _ = false

-- Where bytes were taken, they are some.
abbrev pub TakesSome : SinkWrite → ℕ → Type 0
TakesSome (sink_write.Took n) len = MovesSome n len
TakesSome sink_write.Failed len = Unit {0}

-- The bytes written so far, after a write of these bytes.
abbrev pub written_after : SinkWrite → List ℕ → List ℕ → List ℕ
written_after (sink_write.Took n) bytes written = written ++ take n bytes
written_after sink_write.Failed bytes written = written
