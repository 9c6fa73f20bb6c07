-- Worked runs of one app.
use Rattle.std.specs.Prelude.{ℕ, false, List, [], ◌∷◌, codes, Ok, Err, Some}
use Rattle.vs_flow.specs.Flow.{host_flow}
use Rattle.vs_script.specs.{App.Act, Data.Given}
use Rattle.laws_driver.specs.Carried.Calls.{Made}
use Rattle.vs_apps_parts.specs.{Journals.{entry_called, entry_waited, made_as}, Scripts.RunScript, declared.{journal.Entry.Entry, progress.Progress.Progress}}
use Rattle.vs_script.specs.App as act
use Rattle.laws_driver.specs.Carried.Calls as call
use Rattle.vs_apps_parts.specs.declared.journal.Called.TheVariants as called
use Rattle.vs_apps_parts.specs.declared.journal.WaitsFor.TheVariants as waits
use Rattle.vs_driver_parts.specs.declared.answers.Accepted.TheVariants as accepted
use Rattle.vs_driver_parts.specs.declared.answers.Closed.TheVariants as closed
use Rattle.vs_driver_parts.specs.declared.answers.ConnectError.TheVariants as refused
use Rattle.vs_driver_parts.specs.declared.answers.ConnectionState.TheVariants as seen
use Rattle.vs_driver_parts.specs.declared.answers.Received.TheVariants as got
use Rattle.vs_driver_parts.specs.declared.answers.Sent.TheVariants as sent

-- Calls with their replies.
abbrev pub asked : List Made
asked = made_as (call.Connect 52) (Ok 1) ∷ []

abbrev pub looked : List Made
looked = made_as (call.LookAt 1) seen.Asked ∷ []

abbrev pub opened : List Made
opened = made_as (call.LookAt 1) seen.Live ∷ []

abbrev pub full : List Made
full = made_as (call.Connect 52) (Err (refused.Full 64)) ∷ []

abbrev pub bad_port : List Made
bad_port = made_as (call.Connect 2000000000) (Err (refused.BadPort 2000000000)) ∷ []

abbrev pub sent_hello : List Made
sent_hello = made_as (call.Send 1 (codes "hello")) (sent.Took 5) ∷ []

abbrev pub sent_he : List Made
sent_he = made_as (call.Send 1 (codes "hello")) (sent.Took 2) ∷ []

abbrev pub sent_llo : List Made
sent_llo = made_as (call.Send 1 (codes "llo")) (sent.Took 3) ∷ []

abbrev pub no_credit : List Made
no_credit = made_as (call.Send 1 (codes "llo")) (sent.NoCredit 65536 65536 0) ∷ []

abbrev pub sent_nothing : List Made
sent_nothing = made_as (call.Send 1 []) sent.NotOpen ∷ []

abbrev pub closed_it : List Made
closed_it = made_as (call.Close 1) closed.Done ∷ []

abbrev pub heard_nothing : List Made
heard_nothing = made_as (call.Recv 1 1) (got.Empty, []) ∷ []

abbrev pub heard_unknown : List Made
heard_unknown = made_as (call.Recv 0 1) (got.Unknown, []) ∷ []

abbrev pub none_waiting : List Made
none_waiting = made_as (call.Accept 70) accepted.None ∷ []

abbrev pub accepted_one : List Made
accepted_one = made_as (call.Accept 70) (accepted.Conn 2) ∷ []

abbrev pub drained : List Made
drained = made_as (call.Recv 1 4096) (got.Got 3, codes "abc") ∷ []

-- Steps of an exchange of two bytes: the send moves and the receive waits; both wait; the send is refused and the receive waits.
abbrev pub hi : Act
hi = act.Exchange (Given (codes "hi"))

abbrev pub said : List Made
said = made_as (call.Send 1 (codes "hi")) (sent.Took 2) ∷ made_as (call.Recv 1 2) (got.Empty, []) ∷ []

abbrev pub both_wait : List Made
both_wait = made_as (call.Send 1 (codes "hi")) (sent.NoDescriptor 8) ∷ made_as (call.Recv 1 2) (got.Empty, []) ∷ []

abbrev pub shut_down : List Made
shut_down = made_as (call.Send 1 (codes "hi")) sent.ShutDown ∷ made_as (call.Recv 1 2) (got.Empty, []) ∷ []

abbrev pub answered : List Made
answered = made_as (call.Recv 1 2) (got.Got 2, codes "ho") ∷ []

-- Where an app is, whose connection is 1.
abbrev pub at_next : ℕ → Progress
at_next n = record { at = n; asked = false; sent = 0; got = 0; conn = Some 1 }

-- A run of two apps, and its journal.
abbrev pub greeters : RunScript
greeters = (act.Connect 52 ∷ act.Send (Given (codes "hello")) ∷ act.Close ∷ []) ∷ (act.Connect 52 ∷ act.Recv 3 ∷ []) ∷ []

abbrev pub greeting : List Entry
greeting =
    entry_called 0 (called.Connect 52 (Ok 1) (Some (host_flow 1024 52))) ∷ entry_waited 0 1 waits.NotOpen
    ∷ entry_called 1 (called.Connect 52 (Ok 2) (Some (host_flow 1025 52))) ∷ entry_called 0 (called.LookAt 1 seen.Live)
    ∷ entry_called 0 (called.Send 1 1 0 5 (sent.Took 2)) ∷ entry_called 1 (called.LookAt 2 seen.Live) ∷ entry_called 0 (called.Send 1 1 2 3 (sent.Took 3))
    ∷ entry_called 1 (called.Recv 2 3 0 (got.Got 1)) ∷ entry_waited 1 4 waits.Empty ∷ entry_called 0 (called.Close 1 closed.Done) ∷ []
