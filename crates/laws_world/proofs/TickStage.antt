-- Timeouts, and the handshakes of a turn, are lists of events.
use Rattle.std.proofs.{Common.{◌≡◌, ℕ, ◌+◌, Bool, false, List, ◌++◌, Option, Some, None, refl, ◌∙◌, arith}, lemmas.Grind.common_steps}
use Rattle.vs_contents.specs.CallTree.{Done, Ask, bind, for_each, played, while_up_to}
use Rattle.vs_flow.specs.{Table.{slots}, declared.{flow.Flow.Flow}}
use Rattle.vs_outside.specs.{Host.{read_answer}, declared.host_net.{StreamRead.StreamRead}}
use Rattle.vs_uds.specs.{ConnectLine.connect_step, declared.{connect.TheConstants.CONNECT_MAX, scan.Step.Step}}
use Rattle.vs_device_parts.specs.{State.{DeviceState}, Streams.{tick_of, tick_slot}}
use Rattle.vs_device_parts.specs.{Calls.{DeviceTree, ReadStream}}
use Rattle.vs_proxy_parts.specs.Handshakes.{accept_one, byte_read, dropping, handshake_on, line_decided, next_flow, opening, read_byte, read_line}
use Rattle.vs_proxy_parts.specs.{Handshakes.{shake_hands, streams_of, tick_handshake, tick_handshakes, with_line}, Turns.{device_after, tick_stage}}
use Rattle.vs_proxy_parts.specs.State.{Handshake, ProxyState, Turning, start, with_device}
use Rattle.laws_world.specs.{Answers.{Around, answer_around, bytes_with}, Steps.Leads, World.{World, around}, Events.{HandshakeTimesOut, Moment, ProxyAccepts, ProxyReads}}
use Rattle.laws_world.{specs.Events.{TimesOut, at_moment, line_read}, proofs.DeviceLeads.{Does, EndsFine, device_event, does_then, fine_played, plays, proxy_event, with_proxy}}
use Rattle.laws_world.proofs.GuestLines.{leads_one, leads_then}
use Rattle.vs_outside.specs.declared.host_net.StreamRead.TheVariants as read
use Rattle.vs_uds.specs.declared.scan.Step.TheVariants as step
use Rattle.laws_world.proofs.DeviceLeads as leads

-- A step of the device alone.
abbrev pub device_at : World → DeviceState → DeviceState
device_at w d = w.proxy.device

abbrev pub device_of : World → DeviceState → ProxyState
device_of w d = with_device d w.proxy

pub devices : {X : Type 0} (step : X → DeviceState → DeviceTree DeviceState)
    → ((i : X) (w : World) → w.proxy.device.failed ≡ None → let r = plays (step i w.proxy.device) w in Does w (with_device r.0 w.proxy) r.1)
    → (xs : List X) (w : World) → w.proxy.device.failed ≡ None
    → let r = plays (for_each step xs w.proxy.device) w in Does w (with_device r.0 w.proxy) r.1
devices step does xs w fine =
    leads.each_does device_at device_of (λ w a x. refl) (λ w a x y. refl) (λ w x. refl) step
    (λ i w x fine. does i w fine) xs w w.proxy.device fine

-- A connection times out.
tick_fine : (slot : ℕ) (s : DeviceState) → s.failed ≡ None → EndsFine (tick_slot slot s)
tick_fine slot s fine = grind (arith, common_steps)

tick_does : (slot : ℕ) (w : World) → w.proxy.device.failed ≡ None
    → let r = plays (tick_slot slot w.proxy.device) w in Does w (with_device r.0 w.proxy) r.1
tick_does slot w fine = record {
  leads = device_event (TimesOut slot) (tick_slot slot) w refl fine;
  fine = fine_played (tick_slot slot w.proxy.device) (around w) (tick_fine slot w.proxy.device fine);
}

pub ticks_do : (now : ℕ) (w : World) → w.proxy.device.failed ≡ None
    → let r = plays (tick_of now w.proxy.device) w in Does w (with_device r.0 w.proxy) r.1
ticks_do now w fine =
    let v = at_moment now w in
    let rest = devices tick_slot tick_does (slots w.proxy.device.table) v fine in
    record {
      leads = leads_then w v _ (leads_one (Moment now) w v refl) rest.leads;
      fine = rest.fine;
    }

-- A step of a turn, over whatever the turn counted before.
abbrev pub turning_at : World → Turning → Turning
turning_at w t = record t { state = w.proxy }

abbrev pub turning_of : World → Turning → ProxyState
turning_of w t = t.state

abbrev pub TurnDoes : (Turning → DeviceTree Turning) → Type 0
TurnDoes step = (w : World) (t : Turning) → w.proxy.device.failed ≡ None → let r = plays (step (turning_at w t)) w in Does w r.0.state r.1

abbrev pub TestDoes : (Turning → DeviceTree (Turning × Bool)) → Type 0
TestDoes step = (w : World) (t : Turning) → w.proxy.device.failed ≡ None → let r = plays (step (turning_at w t)) w in Does w r.0.0.state r.1

turns : {X : Type 0} (step : X → Turning → DeviceTree Turning) → ((i : X) → TurnDoes (step i)) → (xs : List X) → TurnDoes (for_each step xs)
turns step does xs w t fine =
    leads.each_does turning_at turning_of (λ w a x. refl) (λ w a x y. refl) (λ w x. refl) step does xs w t fine

turns_while : (step : Turning → DeviceTree (Turning × Bool)) → TestDoes step → (n : ℕ) → TurnDoes (while_up_to n step)
turns_while step does n w t fine =
    leads.while_does turning_at turning_of (λ w a x. refl) (λ w a x y. refl) (λ w x. refl) step does n w t fine

-- What the step leaves is the same.
record IsSame (w : World) (p : ProxyState) (a : Around) (q : ProxyState) (b : Around) : Type 0 where
  same : with_proxy p a w ≡ with_proxy q b w
  fine : q.device.failed ≡ None

abbrev Alike : World → Turning → (Turning → DeviceTree Turning) → Type 0
Alike w t step =
    let x = plays (step (start w.proxy)) w in let r = plays (step (turning_at w t)) w in IsSame w x.0.state x.1 r.0.state r.1

module _ (w : World) (t : Turning) (fine : w.proxy.device.failed ≡ None) where
  -- A handshake times out.
  late_alike : (stream : ℕ) → Alike w t (tick_handshake stream)
  late_alike stream = grind (arith, common_steps)

  -- A client is accepted.
  accept_alike : Alike w t accept_one
  accept_alike = grind (arith, common_steps)

  -- A byte of a line is read.
  abbrev ByteAlike : Around → (Turning → DeviceTree (Turning × Bool)) → Type 0
  ByteAlike a step =
      let x = played answer_around (bind (step (start w.proxy)) (λ r. Done r.0)) a in
      let r = played answer_around (step (turning_at w t)) a in
      IsSame w x.0.state x.1 r.0.0.state r.1

  module _ (hs : List Handshake) (n stream : ℕ) (a : Around) where
    abbrev with_read : Turning → Turning
    with_read u = record u { state = record u.state { handshakes = hs }; read = u.read + n }

    opens_alike : (flow : Flow) → ByteAlike a (λ u. bind (opening stream flow (with_read u)) (λ v. Done (v, false)))
    opens_alike flow = grind (arith, common_steps)

    decides_alike : (x : Step) → ByteAlike a (λ u. line_decided stream x (with_read u))
    decides_alike step.More = record { same = refl; fine = fine }
    decides_alike step.Bad = record { same = refl; fine = fine }
    decides_alike (step.Port port) = by (next_flow port w.proxy.next_port w.proxy.device)
      where
        by : (o : Option Flow) → ByteAlike a (λ u. bind (elim o as (λ _. DeviceTree Turning) [
          | None ↦ dropping stream (with_read u)
          | Some flow ↦ opening stream flow (with_read u)
        ]) (λ v. Done (v, false)))
        by None = record { same = refl; fine = fine }
        by (Some flow) = opens_alike flow

  byte_alike : (stream : ℕ) → ByteAlike (around w) (read_byte stream)
  byte_alike stream = by (handshake_on stream w.proxy)
    where
      answered : (h : Handshake) (x : StreamRead) (bytes : List ℕ) (a : Around) → ByteAlike a (byte_read h x bytes)
      answered h (read.Got n) bytes a =
          decides_alike (with_line h.stream (h.line ++ bytes) w.proxy.handshakes) n h.stream a (connect_step (h.line ++ bytes))
      answered h x bytes a = record { same = refl; fine = fine }

      by : (o : Option Handshake) → ByteAlike (around w) (λ u. elim o as (λ _. DeviceTree (Turning × Bool)) [
        | None ↦ Done (u, false)
        | Some h ↦ Ask (ReadStream stream 1) (λ answer. byte_read h answer.0 answer.1 u)
      ])
      by None = record { same = refl; fine = fine }
      by (Some h) =
          let x = read_answer stream 1 w.host in
          let a = (answer_around (ReadStream stream 1) (around w)).1 in
          answered h x (bytes_with stream x w.host) a

leads_to : {w v u : World} → Leads w v → v ≡ u → Leads w u
leads_to l same = (l.0, l.1 ∙ same)

late_does : (stream : ℕ) → TurnDoes (tick_handshake stream)
late_does stream w t fine =
    let alike = late_alike w t fine stream in
    record {
      leads = leads_to (proxy_event (HandshakeTimesOut stream) (tick_handshake stream) w refl fine) alike.same;
      fine = alike.fine;
    }

accept_does : TurnDoes accept_one
accept_does w t fine =
    let alike = accept_alike w t fine in
    record { leads = leads_to (proxy_event ProxyAccepts accept_one w refl fine) alike.same; fine = alike.fine }

byte_does : (stream : ℕ) → TestDoes (read_byte stream)
byte_does stream w t fine =
    let alike = byte_alike w t fine stream in
    record { leads = leads_to (proxy_event (ProxyReads stream) (line_read stream) w refl fine) alike.same; fine = alike.fine }

-- The stages.
pub tick_stage_does : (now : ℕ) (w : World) (t : Turning) → w.proxy.device.failed ≡ None
    → let r = plays (tick_stage now (turning_at w t)) w in Does w r.0.state r.1
tick_stage_does now w t fine =
    let one = ticks_do now w fine in
    let r = plays (tick_of now w.proxy.device) w in
    let v = with_proxy (with_device r.0 w.proxy) r.1 w in
    does_then w (tick_of now w.proxy.device) (λ d. tick_handshakes (device_after d (turning_at w t))) (λ u. u.state)
    (λ d. with_device d w.proxy) one
    (turns tick_handshake late_does (streams_of v.proxy) v t one.fine)

pub shake_does : TurnDoes shake_hands
shake_does w t fine =
    let one = accept_does w t fine in
    let r = plays (accept_one (turning_at w t)) w in
    let v = with_proxy r.0.state r.1 w in
    does_then w (accept_one (turning_at w t)) (λ u. for_each read_line (streams_of u.state) u) (λ u. u.state) (λ u. u.state) one
    (turns read_line (λ stream. turns_while (read_byte stream) (byte_does stream) CONNECT_MAX) (streams_of v.proxy) v r.0 one.fine)
