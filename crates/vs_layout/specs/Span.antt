-- Pieces of memory.
use Rattle.std.specs.Prelude.{ℕ, ◌+◌, ◌≤◌, ◌⊎◌}
use Rattle.vs_layout.specs.declared.span.Span.{Span}

-- The address behind a piece.
abbrev pub span_end : Span → ℕ
span_end s = s.at + s.len

-- One of the two ends where the other begins, or before: they have no byte in common.
abbrev pub IsApart : Span → Span → Type 0
IsApart s t = (span_end s ≤ t.at) ⊎ (span_end t ≤ s.at)

-- The first begins and ends within the second.
abbrev pub LiesIn : Span → Span → Type 0
LiesIn s t = (t.at ≤ s.at) × (span_end s ≤ span_end t)
