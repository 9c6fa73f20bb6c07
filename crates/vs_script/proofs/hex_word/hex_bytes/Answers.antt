use Rattle.std.proofs.Common.{inl, inr}
use Rattle.vs_script.proofs.HexDigits.{hex_of-ok, hex_of-err}
use Rattle.vs_script.proofs.hex_word.hex_bytes.Goals as goal

pub returns-in-Ok : goal.returns-in-Ok
returns-in-Ok c = hex_of-ok c.args.word.now _ c.if-word-lt2.false c.if-word-gt-MAX_HEX.false c.in-Ok.ensures.ok

pub returns-in_default : goal.returns-in_default
returns-in_default c = elim c.in-Err.ensures.err [
  | inl memory ↦ absurd (c.in_default.not-OutOfMemory memory)
  | inr failed ↦ hex_of-err c.args.word.now _ c.if-word-lt2.false c.if-word-gt-MAX_HEX.false failed
]
