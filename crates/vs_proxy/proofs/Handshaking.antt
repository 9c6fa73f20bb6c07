-- What the steps of handshakes come to.
use Rattle.std.proofs.{Common.{◌≡◌, ℕ, ◌+◌, ◌==◌, Bool, true, false, cond, List, [], ◌∷◌, ◌++◌, length, Option, Some, None, refl, sym, ap, ◌∙◌}, lemmas.Bool.eqb-true}
use Rattle.std.specs.{Prelude.{if◌then◌else◌, nat_lt, Result}, List.find}
use Rattle.vs_contents.{specs.CallTree.{Done, Ask, bind}, proofs.{Leads.{leads_of, leads_bind}, Conditions.{may_first, may_of}}}
use Rattle.vs_outside.specs.declared.host_net.{Accepted.Accepted, StreamRead.StreamRead}
use Rattle.vs_uds.specs.{ConnectLine.connect_step, declared.scan.Step.Step}
use Rattle.vs_flow.specs.declared.{flow.Flow.Flow, table.TableFault.TableFault}
use Rattle.vs_device_parts.specs.{Calls.{DeviceTree, Situation, Allows, Accept, ReadStream, CloseStream}, Playing.{CanMake, MayRun, Runs}, State.DeviceState, Turns.open_of}
use Rattle.vs_proxy_parts.specs.Handshakes.{accept_answered, accept_one, byte_read, dropping, handshake_on, line_decided, next_after, next_flow, read_byte, with_line}
use Rattle.vs_proxy_parts.specs.{Handshakes.{without_handshake, without_stream}, Turning.{closing_client, connecting, opening_client, without_it}, State.{Handshake, Turning}}
use Rattle.vs_proxy_parts.specs.State.{with_device}
use Rattle.vs_limits.specs.declared.TheConstants.{HANDSHAKES}
use Rattle.vs_outside.specs.declared.host_net.StreamRead.TheVariants as read
use Rattle.vs_uds.specs.declared.scan.Step.TheVariants as step

-- a handshake ends
abbrev pub dropped : ℕ → Turning → Turning
dropped stream t = record t { state = without_handshake stream t.state; hands = t.hands + 1 }

pub drops : (stream : ℕ) (t u : Turning) (c m : Situation) → Allows (CloseStream stream) tt c m → u ≡ dropped stream t → Runs (dropping stream t) c u m
drops stream t u c m allowed is = (tt, m, allowed, (sym is, refl))

-- a client is accepted
abbrev accept_on : Turning → Bool → DeviceTree Turning
accept_on t place = if place then Ask Accept (λ answer. Done (accept_answered answer t)) else Done t

pub accepts : (t u : Turning) (a : Accepted) (c m : Situation) → nat_lt (length t.state.handshakes) HANDSHAKES ≡ true → Allows Accept a c m → u ≡ accept_answered a t → Runs (accept_one t) c u m
accepts t u a c m place allowed is = leads_of Allows _ _ c m u (ap (accept_on t) place) (a, m, allowed, (sym is, refl))

-- without the handshake on a stream it is all the same what its line was
pub line_lost : (stream : ℕ) (line : List ℕ) (hs : List Handshake) → without_stream stream (with_line stream line hs) ≡ without_stream stream hs
line_lost stream line [] = refl
line_lost stream line (h ∷ hs) = by (h.stream == stream) refl (line_lost stream line hs)
  where
    by : (b : Bool) → (h.stream == stream) ≡ b → without_stream stream (with_line stream line hs) ≡ without_stream stream hs
        → without_stream stream (with_line stream line (h ∷ hs)) ≡ without_stream stream (h ∷ hs)
    by true is rest = rw is (rw is refl)
    by false is rest = rw is (rw is (ap (λ (xs : List Handshake). h ∷ xs) rest))

-- one byte of a line
module _ (stream : ℕ) (t : Turning) where
  module _ (h : Handshake) (found : handshake_on stream t.state ≡ Some h) where
    asks : read_byte stream t ≡ Ask (ReadStream stream 1) (λ answer. byte_read h answer.0 answer.1 t)
    asks = rw (found, read_byte) refl

    pub may_answered : (answer : StreamRead) (bytes : List ℕ) (c m : Situation) → MayRun (read_byte stream t) c → Allows (ReadStream stream 1) (answer, bytes) c m → MayRun (byte_read h answer bytes t) m
    may_answered answer bytes c m may allowed = (may_of CanMake Allows _ _ c asks may).1 (answer, bytes) m allowed

    pub answered : (answer : StreamRead) (bytes : List ℕ) (x : Turning × Bool) (c m n : Situation) → Allows (ReadStream stream 1) (answer, bytes) c m → Runs (byte_read h answer bytes t) m x n
        → Runs (read_byte stream t) c x n
    answered answer bytes x c m n allowed rest = leads_of Allows _ _ c n x asks ((answer, bytes), m, allowed, rest)

-- what is found is on the stream
pub is_on : (stream : ℕ) (hs : List Handshake) (h : Handshake) → find (λ x. x.stream == stream) hs ≡ Some h → h.stream ≡ stream
is_on stream [] h found = absurd cc
is_on stream (x ∷ xs) h found = by (x.stream == stream) refl found (is_on stream xs h)
  where
    by : (b : Bool) → (x.stream == stream) ≡ b → cond b (Some x) (find (λ y. y.stream == stream) xs) ≡ Some h → (find (λ y. y.stream == stream) xs ≡ Some h → h.stream ≡ stream) → h.stream ≡ stream
    by true is this rest = let one : x ≡ h = cc in ap (λ (y : Handshake). y.stream) (sym one) ∙ eqb-true x.stream stream is
    by false is this rest = rest this

-- a line that got its next byte
module _ (byte : ℕ) (t : Turning) (h : Handshake) where
  abbrev pub line_of : List ℕ
  line_of = h.line ++ byte ∷ []

  -- with more to come, and without the handshake
  abbrev pub with_byte : Turning
  with_byte = record t { state = record t.state { handshakes = with_line h.stream line_of t.state.handshakes }; read = t.read + 1 }

  abbrev pub without_client : Turning
  without_client = record t { state = without_handshake h.stream t.state; read = t.read + 1 }

  lost : without_it h.stream with_byte ≡ without_client
  lost = ap (λ (hs : List Handshake). record t { state = record t.state { handshakes = hs }; read = t.read + 1 }) (line_lost h.stream line_of t.state.handshakes)

  reads_as : (answer : Step) → connect_step line_of ≡ answer → byte_read h (read.Got 1) (byte ∷ []) t ≡ line_decided h.stream answer with_byte
  reads_as answer is = ap (λ (x : Step). line_decided h.stream x with_byte) is

  pub goes_on : (u : Turning) (c : Situation) → connect_step line_of ≡ step.More → u ≡ with_byte → Runs (byte_read h (read.Got 1) (byte ∷ []) t) c (u, true) c
  goes_on u c is end = leads_of Allows _ _ c c (u, true) (reads_as step.More is) (ap (λ (x : Turning). let r : Turning × Bool = (x, true) in r) (sym end), refl)

  abbrev ended : Turning → DeviceTree (Turning × Bool)
  ended u = Done (u, false)

  closes_as : connect_step line_of ≡ step.Bad → byte_read h (read.Got 1) (byte ∷ []) t ≡ bind (closing_client h.stream without_client) ended
  closes_as is = reads_as step.Bad is ∙ ap (λ (x : Turning). bind (closing_client h.stream x) ended) lost

  connects_as : (port : ℕ) → connect_step line_of ≡ step.Port port → byte_read h (read.Got 1) (byte ∷ []) t ≡ bind (connecting h.stream port without_client) ended
  connects_as port is = reads_as (step.Port port) is ∙ ap (λ (x : Turning). bind (connecting h.stream port x) ended) lost

  pub may_close : (c : Situation) → connect_step line_of ≡ step.Bad → MayRun (byte_read h (read.Got 1) (byte ∷ []) t) c → CanMake (CloseStream h.stream) c
  may_close c is may = (may_of CanMake Allows _ _ c (closes_as is) may).0

  pub was_closed : (u : Turning) (c m : Situation) → connect_step line_of ≡ step.Bad → Allows (CloseStream h.stream) tt c m → u ≡ record without_client { hands = t.hands + 1 }
      → Runs (byte_read h (read.Got 1) (byte ∷ []) t) c (u, false) m
  was_closed u c m is allowed end =
      leads_of Allows _ _ c m (u, false) (closes_as is) (tt, m, allowed, (ap (λ (x : Turning). let r : Turning × Bool = (x, false) in r) (sym end), refl))

  pub may_connect : (port : ℕ) (c : Situation) → connect_step line_of ≡ step.Port port → MayRun (byte_read h (read.Got 1) (byte ∷ []) t) c → MayRun (connecting h.stream port without_client) c
  may_connect port c is may = may_first CanMake Allows (connecting h.stream port without_client) ended c (may_of CanMake Allows _ _ c (connects_as port is) may)

  pub was_connected : (port : ℕ) (u : Turning) (c m : Situation) → connect_step line_of ≡ step.Port port → Runs (connecting h.stream port without_client) c u m
      → Runs (byte_read h (read.Got 1) (byte ∷ []) t) c (u, false) m
  was_connected port u c m is runs =
      leads_of Allows _ _ c m (u, false) (connects_as port is) (leads_bind Allows (connecting h.stream port without_client) ended c m m u (u, false) runs (refl, refl))

-- a client whose handshake is over
module _ (stream port : ℕ) (t : Turning) where
  abbrev connect_on : Option Flow → DeviceTree Turning
  connect_on o = elim o [ None ↦ closing_client stream t | Some flow ↦ opening_client stream flow t ]

  abbrev pub given : Option Flow
  given = next_flow port t.state.next_port t.state.device

  pub turned_away : (u : Turning) (c m : Situation) → given ≡ None → Allows (CloseStream stream) tt c m → u ≡ record t { hands = t.hands + 1 } → Runs (connecting stream port t) c u m
  turned_away u c m none allowed end = leads_of Allows _ _ c m u (ap connect_on none) (tt, m, allowed, (sym end, refl))

  abbrev opened_by : DeviceState × Result ℕ TableFault → Turning
  opened_by r = record t { state = record (with_device r.0 t.state) { next_port = next_after t.state.next_port } }

  pub let_in : (flow : Flow) (r : DeviceState × Result ℕ TableFault) (u : Turning) (c m : Situation) → given ≡ Some flow
      → Runs (open_of flow stream t.state.device) c r m → u ≡ opened_by r → Runs (connecting stream port t) c u m
  let_in flow r u c m some runs end =
      leads_of Allows _ _ c m u (ap connect_on some)
      (leads_bind Allows (open_of flow stream t.state.device) (λ x. Done (opened_by x)) c m m r u runs (sym end, refl))
