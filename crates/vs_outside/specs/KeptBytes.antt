-- What a stream of a host in memory keeps of the bytes that went one way on it.
use Rattle.std.specs.Prelude.{◌≡◌, ℕ, Bool, true, if◌then◌else◌, List}
use Rattle.vs_excerpt.specs.{Excerpt.excerpt_of, declared.Excerpt.Excerpt}
use Rattle.vs_outside.specs.HostBytes.{after_line, has_line}

-- What stands behind the line of a handshake, where a client made the stream.
abbrev pub behind_handshake : Bool → List ℕ → List ℕ
behind_handshake by_client given = if by_client then after_line given else given

-- An excerpt of that, and whether no byte of that line is to come.
pub record IsKept (by_client : Bool) (given : List ℕ) (kept : Excerpt) (line_over : Bool) : Type 0 where
  pub bytes : kept ≡ excerpt_of (behind_handshake by_client given)
  pub line : line_over ≡ (if by_client then has_line given else true)
