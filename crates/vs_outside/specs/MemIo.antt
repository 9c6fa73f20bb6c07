-- A source and a sink in memory.
use Rattle.std.specs.Prelude.{◌≡◌, ℕ, ◌==◌, min, if◌then◌else◌, List, [], length}
use Rattle.vs_outside.specs.{Faults.{one_more, fails_next, counted_down}, InOut.{left_after, written_after}, declared.in_out.{SourceRead.SourceRead, SinkWrite.SinkWrite}}
use Rattle.vs_outside.specs.declared.in_out.SourceRead.TheVariants as source_read
use Rattle.vs_outside.specs.declared.in_out.SinkWrite.TheVariants as sink_write

-- The bytes that are left, how many a call reads at most, the calls that are to fail, and how many failed.
pub record SourceMemory : Type 0 where
  pub left : List ℕ
  pub piece : ℕ
  pub to_fail : List ℕ
  pub faults : ℕ

abbrev pub new_source : List ℕ → ℕ → SourceMemory
new_source bytes piece = record { left = bytes; piece = piece; to_fail = []; faults = 0 }

-- What a read into that much room is answered by.
abbrev pub read_answer : ℕ → SourceMemory → SourceRead
read_answer room m =
    if fails_next m.to_fail then source_read.Failed
    else (if length m.left == 0 then source_read.End else source_read.Got (min m.piece (min room (length m.left))))

-- The source after a read.
abbrev pub after_read : SourceRead → SourceMemory → SourceMemory
after_read source_read.Failed m = record m { to_fail = counted_down m.to_fail; faults = one_more m.faults }
after_read answer m = record m { to_fail = counted_down m.to_fail; left = left_after answer m.left }

-- The bytes written so far, how many a call takes at most, the calls that are to fail, and how many failed.
pub record SinkMemory : Type 0 where
  pub written : List ℕ
  pub piece : ℕ
  pub to_fail : List ℕ
  pub faults : ℕ

abbrev pub new_sink : ℕ → SinkMemory
new_sink piece = record { written = []; piece = piece; to_fail = []; faults = 0 }

-- What a write of so many bytes is answered by. It may fail for want of memory too.
abbrev pub write_answer : ℕ → SinkMemory → SinkWrite
write_answer len m = if fails_next m.to_fail then sink_write.Failed else sink_write.Took (min m.piece len)

abbrev pub IsWritten : ℕ → SinkWrite → SinkMemory → Type 0
IsWritten len sink_write.Failed m = Unit {0}
IsWritten len answer m = answer ≡ write_answer len m

-- The sink after a write.
abbrev pub after_write : List ℕ → SinkWrite → SinkMemory → SinkMemory
after_write bytes sink_write.Failed m = record m { to_fail = counted_down m.to_fail; faults = one_more m.faults }
after_write bytes answer m = record m { to_fail = counted_down m.to_fail; written = written_after answer bytes m.written }
