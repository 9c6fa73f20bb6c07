-- The line that a load prints, by the journal of its run.
use Rattle.std.specs.{Prelude.{ℕ, ◌+◌, List, [], if◌then◌else◌, length, nat_lt, Option}, List.fold}
use Rattle.vs_page.specs.Fair.{IsPrefixOf}
use Rattle.laws_driver.specs.Carried.Calls.{Journal, received_by}
use Rattle.vs_apps_parts.specs.{Journals.{calls_of, sent_as}, Scripts.RunScript, declared.journal.Entry.Entry}
use Rattle.vs_run_report.specs.{Connections.{capped, listed, opened_all, opened_by}, Load.{load_text, matches}, Sums.count_of, declared.connection.Opened.Opened}
use Rattle.vs_load_parts.specs.declared.tally.Tally.{Tally}

-- Nothing is counted yet; and what one connection adds: the bytes that were sent on it, and the places where the byte that came back is the one
-- that was sent. Each count stands still at the last number of 64 bits.
abbrev pub no_tally : Tally
no_tally = record { sent = 0; matched = 0 }

abbrev pub adds : Journal → Tally → Opened → Tally
adds journal t o = record {
  sent = capped (t.sent + length (sent_as o.id journal));
  matched = capped (t.matched + matches (sent_as o.id journal) (received_by o.id journal));
}

-- All connections of all apps.
abbrev pub tally_of : RunScript → List Entry → List ℕ → Tally
tally_of script entries bytes = fold (adds (calls_of script bytes entries)) no_tally (opened_all (length script) entries)

abbrev pub tally_text : ℕ → Tally → List ℕ
tally_text conns t = load_text conns t.sent t.matched

-- The line of a load with so many apps.
abbrev pub load_line : ℕ → RunScript → List Entry → List ℕ → List ℕ
load_line conns script entries bytes = tally_text conns (tally_of script entries bytes)

-- What was received on a connection is a prefix of what was sent there: so as many places match as bytes were received.
abbrev pub CameBack : Journal → Opened → Type 0
CameBack journal o = IsPrefixOf (received_by o.id journal) (sent_as o.id journal)

-- The same by the counts that are kept of what was sent on each connection.
abbrev pub counts : (ℕ → Option ℕ) → Journal → Tally → Opened → Tally
counts sent journal t o = record {
  sent = capped (t.sent + count_of (sent o.id));
  matched = capped (t.matched + length (received_by o.id journal));
}

-- The connection that an entry opened, where its app is one of so many.
abbrev pub opened_next : ℕ → Entry → List Opened
opened_next n e = if nat_lt e.app n then listed (opened_by e.app e) else []
