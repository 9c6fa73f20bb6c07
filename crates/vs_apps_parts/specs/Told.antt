-- What a reply tells an app: to wait, or how it goes on.
use Rattle.std.specs.Prelude.{ℕ, ◌||◌, Bool, true, false, List, [], ◌∷◌, ◌++◌, Option, Some, None, Result, Ok, Err}
use Rattle.vs_driver_parts.specs.declared.answers.{Accepted.Accepted, ConnectError.ConnectError, ConnectionState.ConnectionState, Received.Received, Sent.Sent}
use Rattle.laws_driver.specs.Carried.Calls.{GuestCall, Made, ReplyTo, Connect, Accept, Send, Recv, LookAt}
use Rattle.vs_apps_parts.specs.declared.{journal.WaitsFor.WaitsFor, told.{Heard.Heard, Told.Told}}
use Rattle.vs_apps_parts.specs.declared.journal.WaitsFor.TheVariants as waits
use Rattle.vs_apps_parts.specs.declared.told.Told.TheVariants as told
use Rattle.vs_driver_parts.specs.declared.answers.Accepted.TheVariants as accepted
use Rattle.vs_driver_parts.specs.declared.answers.ConnectError.TheVariants as refused
use Rattle.vs_driver_parts.specs.declared.answers.ConnectionState.TheVariants as seen
use Rattle.vs_driver_parts.specs.declared.answers.Received.TheVariants as got
use Rattle.vs_driver_parts.specs.declared.answers.Sent.TheVariants as sent

abbrev pub told_connect : Result ℕ ConnectError → Told
told_connect (Ok id) = told.Asked id
told_connect (Err (refused.Full slots)) = told.Waits waits.Full
told_connect (Err (refused.NoDescriptor in_flight)) = told.Waits (waits.NoDescriptor in_flight)
told_connect (Err why) = told.Ends

abbrev pub told_accept : Accepted → Told
told_accept (accepted.Conn id) = told.Given id
told_accept accepted.None = told.Waits waits.NoneWaiting
told_accept accepted.NotListening = told.Ends

abbrev pub told_send : Sent → Told
told_send (sent.Took n) = told.Took n
told_send (sent.NoCredit tx alloc fwd) = told.Waits (waits.NoCredit tx alloc fwd)
told_send (sent.NoDescriptor in_flight) = told.Waits (waits.NoDescriptor in_flight)
told_send sent.NotOpen = told.Waits waits.NotOpen
told_send answer = told.Ends

abbrev pub told_recv : Received → Told
told_recv (got.Got n) = told.Got n
told_recv got.Empty = told.Waits waits.Empty
told_recv got.NotOpen = told.Waits waits.NotOpen
told_recv answer = told.Ends

abbrev pub told_look : ConnectionState → Told
told_look seen.Asked = told.Waits waits.NotOpen
told_look state = told.Ends

-- Of each call. A listen, a shutdown, a growth and a close are done at any answer.
abbrev pub told_by : (call : GuestCall) → ReplyTo call → Told
told_by (Connect port) reply = told_connect reply
told_by (Accept port) reply = told_accept reply
told_by (Send id bytes) reply = told_send reply
told_by (Recv id n) reply = told_recv reply.0
told_by (LookAt id) reply = told_look reply
told_by call reply = told.Ends

abbrev pub told_of : Made → Told
told_of m = told_by m.call m.reply

-- What it says to wait for; and whether the instruction is done by it, whatever was moved.
abbrev pub wait_of : Told → Option WaitsFor
wait_of (told.Waits why) = Some why
wait_of t = None

abbrev pub is_end : Told → Bool
is_end told.Ends = true
is_end (told.Given id) = true
is_end t = false

-- A step waits where each call that it made does, and then for what the last one waits.
abbrev pub step_wait : List Told → Option WaitsFor
step_wait [] = None
step_wait (told.Waits why ∷ []) = Some why
step_wait (told.Waits why ∷ ts) = step_wait ts
step_wait (t ∷ ts) = None

abbrev pub is_any_end : List Told → Bool
is_any_end [] = false
is_any_end (t ∷ ts) = is_end t || is_any_end ts

-- What a step heard, in the order of its calls.
abbrev pub listed : Option Told → List Told
listed None = []
listed (Some t) = t ∷ []

abbrev pub told_list : Heard → List Told
told_list heard = listed heard.first ++ listed heard.second

-- Where an app's last entry stands if it is a wait, behind a step that didn't wait: it stays where no call was made.
abbrev pub waits_on : List Told → Option ℕ → Option ℕ
waits_on [] was = was
waits_on (t ∷ ts) was = None
