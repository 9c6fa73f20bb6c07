-- Ports that are listened on, and who waits there.
use Rattle.std.specs.Prelude.{ℕ, ◌==◌, not, nat_lt, nat_le, Bool, false, if◌then◌else◌, List, [], ◌∷◌, ◌++◌, length, filter, find, Option, Some, None, is_some, Result, Ok, Err}
use Rattle.vs_driver_parts.specs.{declared.answers.{Accepted.Accepted, ListenError.ListenError}, State.{DriverState, Listener, entry_known_as, gone_known_as}}
use Rattle.vs_limits.specs.declared.TheConstants.{LISTENERS, WAITING}
use Rattle.vs_driver_parts.specs.declared.answers.Accepted.TheVariants as accepted
use Rattle.vs_driver_parts.specs.declared.answers.ListenError.TheVariants as refused

abbrev pub listener_on : ℕ → List Listener → Option Listener
listener_on port ls = find (λ l. l.port == port) ls

-- The listeners with others waiting at a port.
abbrev pub with_waiting : ℕ → (List ℕ → List ℕ) → List Listener → List Listener
with_waiting port change [] = []
with_waiting port change (l ∷ ls) = (if l.port == port then record l { waiting = change l.waiting } else l) ∷ with_waiting port change ls

-- A connection waits at the end, or waits no more.
abbrev pub waiting_too : ℕ → List ℕ → List ℕ
waiting_too id waiting = waiting ++ id ∷ []

abbrev pub without_id : ℕ → List ℕ → List ℕ
without_id id waiting = filter (λ w. not (w == id)) waiting

-- A place is free on a port's list.
abbrev pub has_place : ℕ → List Listener → Bool
has_place port ls = elim (listener_on port ls) [ None ↦ false | Some l ↦ nat_lt (length l.waiting) WAITING ]

-- listen: why it is refused, and the driver after it.
abbrev pub listen_of : ℕ → DriverState → Result (Unit {0}) ListenError
listen_of port s =
    if is_some (listener_on port s.listeners) then Err refused.Taken
    else if nat_le LISTENERS (length s.listeners) then Err (refused.Full LISTENERS)
    else Ok tt

abbrev pub with_port : ℕ → List Listener → List Listener
with_port port ls = ls ++ record { port = port; waiting = [] } ∷ []

abbrev pub listening : ℕ → DriverState → DriverState
listening port s = record s { listeners = with_port port s.listeners }

-- Whether the RESPONSE of a connection was put.
abbrev pub is_answered : DriverState → ℕ → Bool
is_answered s id = elim (entry_known_as id s) [ None ↦ is_some (gone_known_as id s) | Some e ↦ not e.value.unanswered ]

-- accept: the oldest that waits and is answered; it waits no more.
abbrev pub next_accepted : ℕ → DriverState → Option ℕ
next_accepted port s = elim (listener_on port s.listeners) [ None ↦ None | Some l ↦ find (is_answered s) l.waiting ]

abbrev pub accept_of : ℕ → DriverState → Accepted
accept_of port s =
    if is_some (listener_on port s.listeners) then elim (next_accepted port s) [ None ↦ accepted.None | Some id ↦ accepted.Conn id ]
    else accepted.NotListening

abbrev pub after_accept : ℕ → DriverState → DriverState
after_accept port s =
    elim (next_accepted port s) [ None ↦ s | Some id ↦ record s { listeners = with_waiting port (without_id id) s.listeners } ]
