-- The device's writes to the host's streams are a list of events.
use Rattle.std.proofs.{Common.{◌≡◌, ℕ, ◌+◌, ◌==◌, Bool, true, false, cond, length, Option, Some, None, refl, arith}, lemmas.Grind.common_steps}
use Rattle.vs_contents.specs.CallTree.{Done, Ask, bind, played}
use Rattle.vs_flow.specs.Table.{entry_under, slots}
use Rattle.vs_outside.specs.{Host.write_answer, declared.host_net.StreamWrite.StreamWrite}
use Rattle.vs_device_parts.specs.{Calls.{CloseStream, DeviceTree, WriteStream}, Connections.{cut_off, with_connection, with_fault}, Streams.{Writing}}
use Rattle.vs_device_parts.specs.{Streams.{pump_of, pump_slot, shut_write, to_write, write_answered, write_pending}, State.{DeviceEntry, DeviceState}, Steps.{shuts_write, writes}}
use Rattle.vs_device_parts.specs.Steps.{writes_on, writing}
use Rattle.vs_proxy_parts.specs.{State.{ProxyState, with_device}, Turns.{device_after, pump_stage}}
use Rattle.laws_world.{proofs.{DeviceLeads.{Does, device_event, does_nothing, does_then, plays, with_proxy}, TickStage.{TurnDoes, turning_at}}, specs.Answers.Around}
use Rattle.laws_world.specs.{Answers.answer_around, Events.{DeviceShutsWrite, DeviceWrites}, Steps.Leads, World.{World, around}}
use Rattle.vs_outside.specs.declared.host_net.StreamWrite.TheVariants as write
use Rattle.laws_world.proofs.DeviceLeads as leads

abbrev writing_at : World → Writing → Writing
writing_at w x = record x { state = w.proxy.device }

abbrev writing_of : World → Writing → ProxyState
writing_of w x = with_device x.state w.proxy

abbrev WriteDoes : (Writing → DeviceTree Writing) → Type 0
WriteDoes step = (w : World) (x : Writing) → w.proxy.device.failed ≡ None
    → let r = plays (step (writing_at w x)) w in Does w (with_device r.0.state w.proxy) r.1

module _ (w : World) (x : Writing) (fine : w.proxy.device.failed ≡ None) where
  -- A step of the round, where the same step of another round is an event.
  abbrev FromEvent : (Writing → DeviceTree Writing) → Type 0
  FromEvent step =
      (let y = plays (bind (step (writing w.proxy.device)) (λ z. Done z.state)) w in Leads w (with_proxy (with_device y.0 w.proxy) y.1 w))
      → (let r = plays (step (writing_at w x)) w in Does w (with_device r.0.state w.proxy) r.1)

  closing_from : (e : DeviceEntry) (a : Around) (b : Bool)
      → (let y = played answer_around (bind (bind (cond b (Done (with_connection e.slot (cut_off e.value) (with_fault w.proxy.device)))
      (Ask (CloseStream e.value.stream) (λ _. Done (with_connection e.slot (cut_off e.value) (with_fault w.proxy.device)))))
      (λ s. Done (record (writing w.proxy.device) { state = s })))
      (λ z. Done z.state)) a in Leads w (with_proxy (with_device y.0 w.proxy) y.1 w))
      → (let r = played answer_around (bind (cond b (Done (with_connection e.slot (cut_off e.value) (with_fault w.proxy.device)))
      (Ask (CloseStream e.value.stream) (λ _. Done (with_connection e.slot (cut_off e.value) (with_fault w.proxy.device)))))
      (λ s. Done (record (writing_at w x) { state = s }))) a in Does w (with_device r.0.state w.proxy) r.1)
  closing_from e a true leads = record { leads = leads; fine = fine }
  closing_from e a false leads = record { leads = leads; fine = fine }

  answered_from : (e : DeviceEntry) (answer : StreamWrite) (a : Around)
      → (let y = played answer_around (bind (write_answered e answer (writing w.proxy.device))
      (λ z. Done z.state)) a in Leads w (with_proxy (with_device y.0 w.proxy) y.1 w))
      → (let r = played answer_around (write_answered e answer (writing_at w x)) a in Does w (with_device r.0.state w.proxy) r.1)
  answered_from e write.Failed a leads = closing_from e a e.value.closed leads
  answered_from e y a leads = record { leads = leads; fine = fine }

  pending_from : (e : DeviceEntry) → FromEvent (write_pending e)
  pending_from e = by (length (to_write e.value) == 0)
    where
      by : (b : Bool) → FromEvent (λ y. cond b (Done y) (Ask (WriteStream e.value.stream (to_write e.value))
          (λ answer. write_answered e answer y)))
      by true leads = record { leads = leads; fine = fine }
      by false leads =
          let a = (answer_around (WriteStream e.value.stream (to_write e.value)) (around w)).1 in
          answered_from e (write_answer e.value.stream (length (to_write e.value)) w.host) a leads

  shut_from : (slot : ℕ) → FromEvent (shut_write slot)
  shut_from slot = grind (arith, common_steps)

shut_does : (slot : ℕ) → WriteDoes (shut_write slot)
shut_does slot w x fine = shut_from w x fine slot (device_event (DeviceShutsWrite slot) (shuts_write slot) w refl fine)

pump_does : (slot : ℕ) → WriteDoes (pump_slot slot)
pump_does slot w x fine = by (entry_under w.proxy.device.table slot) (device_event (DeviceWrites slot) (writes slot) w refl fine)
  where
    open_by : (e : DeviceEntry) (b : Bool)
        → (let y = plays (cond b (Done w.proxy.device) (bind (write_pending e (writing w.proxy.device)) (λ z. Done z.state))) w in
        Leads w (with_proxy (with_device y.0 w.proxy) y.1 w))
        → (let r = plays (cond b (Done (writing_at w x)) (bind (write_pending e (writing_at w x)) (shut_write slot))) w in
        Does w (with_device r.0.state w.proxy) r.1)
    open_by e true leads = does_nothing w fine
    open_by e false leads =
        let one = pending_from w x fine e leads in
        let r = plays (write_pending e (writing_at w x)) w in
        let v = with_proxy (with_device r.0.state w.proxy) r.1 w in
        does_then w (write_pending e (writing_at w x)) (shut_write slot) (λ y. with_device y.state w.proxy)
        (λ y. with_device y.state w.proxy) one
        (shut_does slot v r.0 one.fine)

    by : (o : Option DeviceEntry)
        → (let y = plays (elim o as (λ _. DeviceTree DeviceState) [ None ↦ Done w.proxy.device | Some e ↦ writes_on e w.proxy.device ]) w in
        Leads w (with_proxy (with_device y.0 w.proxy) y.1 w))
        → (let r = plays (elim o as (λ _. DeviceTree Writing) [
          | None ↦ Done (writing_at w x)
          | Some e ↦ cond e.value.closed (Done (writing_at w x)) (bind (write_pending e (writing_at w x)) (shut_write slot))
        ]) w in Does w (with_device r.0.state w.proxy) r.1)
    by None leads = does_nothing w fine
    by (Some e) leads = open_by e e.value.closed leads

pub pump_all_does : (w : World) → w.proxy.device.failed ≡ None
    → let r = plays (pump_of w.proxy.device) w in Does w (with_device r.0.state w.proxy) r.1
pump_all_does w fine =
    leads.each_does writing_at writing_of (λ w a x. refl) (λ w a x y. refl) (λ w x. refl) pump_slot pump_does (slots w.proxy.device.table) w
    (writing w.proxy.device) fine

pub pump_stage_does : TurnDoes pump_stage
pump_stage_does w t fine =
    let all = pump_all_does w fine in
    let r = plays (pump_of w.proxy.device) w in
    does_then w (pump_of w.proxy.device) (λ y. Done (record (device_after y.state (turning_at w t)) { wrote = t.wrote + y.wrote }))
    (λ u. u.state)
    (λ y. with_device y.state w.proxy) all (does_nothing (with_proxy (with_device r.0.state w.proxy) r.1 w) all.fine)
