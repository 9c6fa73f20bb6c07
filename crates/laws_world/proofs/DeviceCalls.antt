-- Each call of the device's, whole, is a list of events.
use Rattle.std.proofs.{Common.{◌≡◌, ℕ, Option, Some, None, refl, subst, arith}, lemmas.Grind.common_steps}
use Rattle.vs_contents.specs.CallTree.{played}
use Rattle.vs_ring_port.specs.declared.failure.Failure.{Failure}
use Rattle.vs_device_parts.specs.{Calls.DeviceTree, Receiving.{fill_rx_of, pay_event_of}, State.DeviceState, Streams.{pump_of, tick_of}, Transmitting.take_tx_of}
use Rattle.vs_device_parts.specs.declared.answers.Taken.{Taken}
use Rattle.vs_proxy_parts.specs.{State.{start, with_device}}
use Rattle.laws_world.{specs.{Answers.{Around, answer_around}, Steps.{Leads, device_calls}, World.{World, around}}, proofs.DeviceLeads.{device_bind, plays, with_proxy}}
use Rattle.laws_world.proofs.{FillStage.fill_does, GuestLines.leads_none, PumpStage.pump_all_does, TakeStage.{counts, event_does, take_goes}, TickStage.ticks_do}

pub ticks_lead : (now : ℕ) (w : World) → w.proxy.device.failed ≡ None → Leads w (device_calls (λ d. d) (tick_of now w.proxy.device) w)
ticks_lead now w fine = (ticks_do now w fine).leads

pub pumps_lead : (w : World) → w.proxy.device.failed ≡ None → Leads w (device_calls (λ x. x.state) (pump_of w.proxy.device) w)
pumps_lead w fine = (pump_all_does w fine).leads

-- After a failure of the ring a call does nothing.
abbrev failed_as : Option Failure → World → World
failed_as o w = record w { proxy = with_device (record w.proxy.device { failed = o }) w.proxy }

abbrev CallLeads : {A : Type 0} → (DeviceState → DeviceTree (DeviceState × A)) → World → Type 0
CallLeads call w = Leads w (device_calls (λ r. r.0) (call w.proxy.device) w)

called : {A : Type 0} (call : DeviceState → DeviceTree (DeviceState × A)) (w : World) → ((f : Failure) → CallLeads call (failed_as (Some f) w))
    → (w.proxy.device.failed ≡ None → CallLeads call w) → CallLeads call w
called call w failed leads = by w.proxy.device.failed leads
  where
    by : (o : Option Failure) → (o ≡ None → CallLeads call (failed_as o w)) → CallLeads call (failed_as o w)
    by None leads = leads refl
    by (Some f) leads = failed f

pub events_lead : (w : World) → CallLeads pay_event_of w
events_lead w = called pay_event_of w (λ f. leads_none (failed_as (Some f) w) _ refl) (λ fine. (event_does w fine).leads)

pub fills_lead : (w : World) → CallLeads fill_rx_of w
fills_lead w = called fill_rx_of w (λ f. leads_none (failed_as (Some f) w) _ refl) (λ fine. (fill_does w fine).leads)

-- A packet that is taken, from what the turn does with it.
uncounted : (w : World) (d : DeviceState) (taken : Taken) (a : Around)
    → Leads w (with_proxy (played answer_around (counts (start w.proxy) (d, taken)) a).0.0.state
    (played answer_around (counts (start w.proxy) (d, taken)) a).1 w) → Leads w (with_proxy (with_device d w.proxy) a w)
uncounted w d taken a leads = grind (arith, common_steps)

takes_fine : (w : World) → w.proxy.device.failed ≡ None → CallLeads take_tx_of w
takes_fine w fine =
    let r = plays (take_tx_of w.proxy.device) w in
    uncounted w r.0.0 r.0.1 r.1 (subst (λ x. Leads w (with_proxy x.0.0.state x.1 w)) (device_bind (take_tx_of w.proxy.device) (counts
    (start w.proxy)) (around w))
    (take_goes w (start w.proxy) fine).leads)

pub takes_lead : (w : World) → CallLeads take_tx_of w
takes_lead w = called take_tx_of w (λ f. leads_none (failed_as (Some f) w) _ refl) (takes_fine w)
