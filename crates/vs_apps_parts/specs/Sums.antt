-- What a journal says was received on a connection, and what is kept of it.
use Rattle.std.specs.{Prelude.{◌≡◌, ℕ, ◌+◌, ◌*◌, ◌≤◌, ◌<◌, ◌==◌, ◌^◌, Bool, true, false, if◌then◌else◌, List, [], ◌∷◌, ◌++◌, length, Option}, Option.unwrap_or}
use Rattle.vs_excerpt.specs.{Excerpt.excerpt_of, declared.Excerpt.Excerpt}
use Rattle.vs_driver_parts.specs.Connections.{got_count}
use Rattle.vs_apps_parts.specs.{Journals.AllStandIn, Scripts.slice_of, declared.{journal.{Called.Called, Entry.Entry}, progress.TheConstants.SLICE}}
use Rattle.vs_apps_parts.specs.declared.journal.Called.TheVariants as called
use Rattle.vs_apps_parts.specs.declared.journal.Deed.TheVariants as deed

-- The journal, as contracts see it: its entries, oldest first; the bytes that all receives gave, in their order; and how many calls and waits may be
-- noted without memory.
pub record JournalState : Type 0 where
  pub entries : List Entry
  pub bytes : List ℕ
  pub room : ℕ

abbrev pub no_journal : JournalState
no_journal = record { entries = []; bytes = []; room = 0 }

abbrev pub is_receive : Called → Bool
is_receive (called.Recv id len from answer) = true
is_receive c = false

-- The bytes that a call gave on a connection, those of an entry, and those of all entries.
abbrev pub given_in : ℕ → List ℕ → Called → List ℕ
given_in id bytes (called.Recv other len from answer) = if id == other then slice_of from (got_count answer) bytes else []
given_in id bytes c = []

abbrev pub given_by : ℕ → List ℕ → Entry → List ℕ
given_by id bytes e = elim e.deed [ deed.Called c ↦ given_in id bytes c | deed.Waited times why ↦ [] ]

abbrev pub given_on : ℕ → List ℕ → List Entry → List ℕ
given_on id bytes [] = []
given_on id bytes (e ∷ es) = given_by id bytes e ++ given_on id bytes es

-- The excerpt that is kept of a connection, if one is.
abbrev pub kept_of : Option Excerpt → Excerpt
kept_of o = unwrap_or o (excerpt_of [])

-- So many bytes came in all; those of each entry are among them; and the excerpt of each connection is that of its bytes, which are no
-- more than all.
pub record IsSummed (count : ℕ) (bytes : List ℕ) (entries : List Entry) (excerpt : ℕ → Option Excerpt) : Type 0 where
  pub counts : count ≡ length bytes
  pub stands : AllStandIn (length bytes) entries
  pub few : (id : ℕ) → length (given_on id bytes entries) ≤ length bytes
  pub exact : (id : ℕ) → kept_of (excerpt id) ≡ excerpt_of (given_on id bytes entries)

-- So many calls and waits may be noted: there is room for their entries, for the excerpt of a connection each, and for the count of their bytes.
pub record HasSpace (room len capacity spare count : ℕ) : Type 0 where
  pub entries : len + room ≤ capacity
  pub excerpts : room ≤ spare
  pub bytes : count + room * SLICE < 2 ^ 64
