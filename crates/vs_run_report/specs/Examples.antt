-- Worked runs and loads: what the definitions compute for them.
use Rattle.std.specs.Prelude.{ℕ, ◌≤◌, false, List, [], ◌∷◌, codes, Option, None, Some, Ok}
use Rattle.vs_flow.specs.{Connection.Connection, Flow.host_flow}
use Rattle.vs_page.specs.{Fair.number_of, Log.{Driver, Log}}
use Rattle.vs_outside.specs.Host.{HostContents, Stream}
use Rattle.vs_script.specs.{App.{Accept, Close, Connect, Listen, Recv, Send}, Data.Given}
use Rattle.vs_apps_parts.specs.{Examples.at_next, Journals.{entry_called, entry_waited}, Scripts.RunScript, declared.{journal.Entry.Entry, progress.AppState.AppState}}
use Rattle.vs_device_parts.specs.State.{counters_of, new_device}
use Rattle.vs_report.specs.{declared.giving.Totals.Totals, Report.nothing_counted}
use Rattle.vs_run_report.specs.{Report.{run_status, run_texts}, Right.IsRightReport}
use Rattle.vs_outside.specs.declared.host_net.StreamState.TheVariants as state
use Rattle.vs_apps_parts.specs.declared.journal.Called.TheVariants as called
use Rattle.vs_apps_parts.specs.declared.journal.WaitsFor.TheVariants as waits
use Rattle.vs_driver_parts.specs.declared.answers.Accepted.TheVariants as accepted
use Rattle.vs_driver_parts.specs.declared.answers.Closed.TheVariants as closed
use Rattle.vs_driver_parts.specs.declared.answers.ConnectionState.TheVariants as seen
use Rattle.vs_driver_parts.specs.declared.answers.Received.TheVariants as got
use Rattle.vs_driver_parts.specs.declared.answers.Sent.TheVariants as sent

-- How far an app is whose connection is 1, and where its last entry is a wait.
abbrev pub app_at : ℕ → Option ℕ → AppState
app_at at waiting = record { progress = at_next at; waiting = waiting }

-- Both tables have so many entries, and nothing was counted.
abbrev pub both_open : ℕ → Totals
both_open n = record {
  guest_open = n;
  device_open = n;
  counters = counters_of (new_device 3 []);
  broken = 0;
}

-- An app that says hello to host port 52.
abbrev pub hello : RunScript
hello = (Connect 52 ∷ Send (Given (codes "hello")) ∷ Close ∷ []) ∷ []

abbrev pub hello_entries : List Entry
hello_entries =
    entry_called 0 (called.Connect 52 (Ok 1) (Some (host_flow 1024 52))) ∷ entry_waited 0 1 waits.NotOpen
    ∷ entry_called 0 (called.LookAt 1 seen.Live) ∷ entry_called 0 (called.Send 1 1 0 5 (sent.Took 5))
    ∷ entry_called 0 (called.Close 1 closed.Done) ∷ []

abbrev pub hello_printed : List (List ℕ)
hello_printed =
    codes "app 1 done\n" ∷ codes "conn 1024 52 sent 5 received 0 -\n" ∷ codes "guest open 0\n" ∷ codes "device open 0\n"
    ∷ nothing_counted ∷ []

-- Its host, whose program read four of the five bytes so far; and the connections of ids, by their numbers.
abbrev pub hello_stream : Stream
hello_stream = record {
  label = Some (host_flow 1024 52);
  by_client = false;
  state = state.Open;
  taken = [];
  untaken = [];
  ended = false;
  given = codes "hell";
  room = Some 0;
  echoes = false;
  host_closed = false;
  write_shut = false;
}

abbrev pub hello_host : HostContents
hello_host = record {
  base = codes "v.sock";
  streams = hello_stream ∷ [];
  labelled = 1 ∷ [];
  listening = codes "v.sock_52" ∷ [];
  prepared = record { untaken = []; ended = false; room = None; echoes = false; host_closed = false };
  to_fail = [];
  starts_to_fail = [];
  starved = false;
  label_calls = 1;
  shut_write_calls = 0;
}

abbrev pub first_opened : ℕ → Connection
first_opened id = record { flow = host_flow 1024 52; number = id }

-- One that waits for a byte which never comes, and gives up after 3 steps.
abbrev pub silent : RunScript
silent = (Connect 52 ∷ Recv 1 ∷ []) ∷ []

abbrev pub silent_entries : List Entry
silent_entries =
    entry_called 0 (called.Connect 52 (Ok 1) (Some (host_flow 1024 52))) ∷ entry_called 0 (called.LookAt 1 seen.Live)
    ∷ entry_waited 0 4 waits.Empty ∷ []

abbrev pub silent_printed : List (List ℕ)
silent_printed =
    codes "app 1 waited 3 empty at 2\n" ∷ codes "conn 1024 52 sent 0 received 0 -\n" ∷ codes "guest open 1\n" ∷ codes "device open 1\n"
    ∷ nothing_counted ∷ []

-- One that a client of the host talks to at port 70, behind one that opens nothing.
abbrev pub served : RunScript
served = [] ∷ (Listen 70 ∷ Accept 70 ∷ Recv 2 ∷ Send (Given (codes "hi")) ∷ Close ∷ []) ∷ []

abbrev pub served_entries : List Entry
served_entries =
    entry_called 1 (called.Listen 70 (Ok tt)) ∷ entry_waited 1 9 waits.NoneWaiting
    ∷ entry_called 1 (called.Accept 70 (accepted.Conn 1) (Some (record { guest = 70; host = 1073741824; peer = 2 })))
    ∷ entry_called 1 (called.Recv 1 2 0 (got.Got 1)) ∷ entry_called 1 (called.Recv 1 1 1 (got.Got 1))
    ∷ entry_called 1 (called.Send 1 3 0 2 (sent.Took 2)) ∷ entry_called 1 (called.Close 1 closed.Done) ∷ []

abbrev pub served_printed : List (List ℕ)
served_printed =
    codes "app 1 done\n" ∷ codes "app 2 done\n" ∷ codes "conn 70 1073741824 sent 2 received 2 796f\n" ∷ codes "guest open 0\n"
    ∷ codes "device open 0\n" ∷ nothing_counted ∷ []

-- What these print.
abbrev pub hello_says : List (List ℕ)
hello_says = run_texts 10000 hello (app_at 3 None ∷ []) hello_entries [] (both_open 0)

abbrev pub silent_says : List (List ℕ)
silent_says = run_texts 3 silent (app_at 1 (Some 2) ∷ []) silent_entries [] (both_open 1)

abbrev pub served_says : List (List ℕ)
served_says = run_texts 10000 served (app_at 0 None ∷ app_at 5 None ∷ []) served_entries (codes "yo") (both_open 0)

abbrev pub silent_status : ℕ
silent_status = run_status silent (app_at 1 (Some 2) ∷ []) silent_entries

abbrev pub hello_status : ℕ
hello_status = run_status hello (app_at 3 None ∷ []) hello_entries

abbrev pub hello_is_right : Type 0
hello_is_right = (log : Log) → 1 ≤ number_of Driver (host_flow 1024 52) log
    → IsRightReport hello (app_at 3 None ∷ []) hello_entries [] (both_open 0) first_opened log hello_host 0 0

-- One that connects twice on one pair of ports, and receives what the host's program wrote on the first connection, on the second: that is never right.
abbrev pub again : RunScript
again = (Connect 52 ∷ Close ∷ Connect 52 ∷ Recv 3 ∷ []) ∷ []

abbrev pub swapped_entries : List Entry
swapped_entries =
    entry_called 0 (called.Connect 52 (Ok 1) (Some (host_flow 1024 52))) ∷ entry_called 0 (called.Close 1 closed.Done)
    ∷ entry_called 0 (called.Connect 52 (Ok 2) (Some (host_flow 1024 52))) ∷ entry_called 0 (called.Recv 2 3 0 (got.Got 3)) ∷ []

abbrev pub written_stream : List ℕ → Stream
written_stream bytes = record hello_stream { taken = bytes; given = [] }

abbrev pub two_streams : HostContents
two_streams = record hello_host {
  streams = written_stream (codes "abc") ∷ written_stream [] ∷ [];
  labelled = 1 ∷ 2 ∷ [];
  label_calls = 2;
}

abbrev pub swapped_is_right : (ℕ → Connection) → Log → Type 0
swapped_is_right opened log = IsRightReport again (app_at 4 None ∷ []) swapped_entries (codes "abc") (both_open 1) opened log two_streams 0 0
