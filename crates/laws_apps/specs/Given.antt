-- What the calls of a journal were given: no connection twice. And why a connect or an accept got none.
use Rattle.std.specs.{Option.ForSome, Prelude.{◌≡◌, ℕ, ◌<◌, Bool, true, false, List, [], ◌∷◌, Option, Some, None, Result, Ok, Err, is_some}}
use Rattle.vs_flow.specs.Flow.{is_assigned}
use Rattle.vs_ring_port.specs.Contents.{RingContents}
use Rattle.vs_driver_parts.specs.{Listening.listener_on, State.{DriverState, Listener}, declared.answers.{Accepted.Accepted, ConnectError.ConnectError, ListenError.ListenError}}
use Rattle.laws_driver.specs.Carried.Calls.{Accept, Connect, GuestCall, Journal, Listen, ReplyTo}
use Rattle.laws_apps.specs.Placed.{some_did, waits_at, was_given}
use Rattle.vs_driver_parts.specs.declared.answers.Accepted.TheVariants as accepted
use Rattle.vs_driver_parts.specs.declared.answers.ConnectError.TheVariants as refused
use Rattle.vs_driver_parts.specs.declared.answers.ListenError.TheVariants as unheard

-- The port that is listened on after a listen, by it or before.
abbrev pub heard_as : ℕ → Result (Unit {0}) ListenError → Option ℕ
heard_as port (Ok x) = Some port
heard_as port (Err unheard.Taken) = Some port
heard_as port (Err (unheard.Full n)) = None

abbrev pub heard_by : (call : GuestCall) → ReplyTo call → Option ℕ
heard_by (Listen port) reply = heard_as port reply
heard_by call reply = None

abbrev pub is_heard : ℕ → Journal → Bool
is_heard port journal = some_did heard_by port journal

-- A connect opened a connection with an id that no call before was given, or its port is one that the device assigns, or it found the slots full, the
-- ports spent or no page, and no other refusal comes; an accept gave such an id, or nobody waited, or no listen before left its port listened on.
abbrev pub ConnectTells : ℕ → Result ℕ ConnectError → Journal → Type 0
ConnectTells port (Ok id) older = was_given id older ≡ false
ConnectTells port (Err (refused.BadPort p)) older = is_assigned port ≡ true
ConnectTells port (Err (refused.BadCid cid)) older = ⊥
ConnectTells port (Err why) older = Unit {0}

abbrev pub AcceptTells : ℕ → Accepted → Journal → Type 0
AcceptTells port (accepted.Conn id) older = was_given id older ≡ false
AcceptTells port accepted.NotListening older = is_heard port older ≡ false
AcceptTells port accepted.None older = Unit {0}

abbrev pub TellsGiven : (call : GuestCall) → ReplyTo call → Journal → Type 0
TellsGiven (Connect port) reply older = ConnectTells port reply older
TellsGiven (Accept port) reply older = AcceptTells port reply older
TellsGiven call reply older = Unit {0}

abbrev pub AllGiven : Journal → Type 0
AllGiven [] = Unit {0}
AllGiven (m ∷ older) = TellsGiven m.call m.reply older × AllGiven older

-- The journal against the driver's next id and its listeners: the ids that calls were given came before it, and so did those that wait, each on one port, and
-- given to no call; and a port that a listen left listened on is so.
pub record AreGiven (journal : Journal) (next : ℕ) (ls : List Listener) : Type 0 where
  pub given : (id : ℕ) → was_given id journal ≡ true → id < next
  pub waits : (port id : ℕ) → waits_at port id ls ≡ true → (id < next) × (was_given id journal ≡ false)
  pub one : (p q id : ℕ) → waits_at p id ls ≡ true → waits_at q id ls ≡ true → p ≡ q
  pub heard : (port : ℕ) → is_heard port journal ≡ true → is_some (listener_on port ls) ≡ true
  pub all : AllGiven journal

-- The same where an honest ring tells the log.
abbrev pub AreGivenWith : Journal → DriverState → RingContents → Type 0
AreGivenWith journal s c = c.honest ≡ true → ForSome c.log (λ l. AreGiven journal s.next_id s.listeners)
