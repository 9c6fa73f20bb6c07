-- What a call gives to the host's streams and takes of them, from the conversation that it ran: the calls made account for the streams,
-- before it and after it.
use Rattle.std.proofs.Common.{ℕ, Bool, List, [], Result}
use Rattle.vs_flow.specs.declared.{flow.Flow.Flow, table.TableFault.TableFault}
use Rattle.vs_ring_port.specs.declared.failure.Failure.{Failure}
use Rattle.vs_device_parts.specs.{Calls.Situation, Playing.Runs, Receiving.{fill_rx_of, pay_event_of}, State.DeviceState, Streams.{Writing, pump_of, tick_of}}
use Rattle.vs_device_parts.specs.{Transmitting.take_tx_of, Turns.{open_of, reset_of}, declared.answers.{Filled.Filled, Taken.Taken}}
use Rattle.vs_proxy_parts.specs.State.{Handshake}
use Rattle.laws_proxy.{specs.Account.{Made.Made, Told.{AreAccounted, IsAsking, StayAccounted}}, proofs.Account.{Closing.keeps_tick, Opening.{keeps_open, keeps_reset_alone}}}
use Rattle.laws_proxy.proofs.Account.{Receiving.{keeps_fill_rx, keeps_pay_event}, Telling.stay_accounted, Transmitting.keeps_take_tx, Writing.keeps_pump}

module _ (s : DeviceState) (a b : Situation) where
  pub take_accounted : (x : DeviceState × Taken) → Runs (take_tx_of s) a x b → (calls : List Made) (hands : List Handshake)
      → AreAccounted calls s.table hands a.host → StayAccounted (take_tx_of s) calls x x.0.table hands b.host
  take_accounted x runs calls hands was =
      stay_accounted (λ y. y.0.table) (λ y. hands) (take_tx_of s) calls a b x s.table hands (keeps_take_tx hands s calls was.accounts) was
      runs

  pub pay_accounted : (x : DeviceState × Result Bool Failure) → Runs (pay_event_of s) a x b → (calls : List Made) (hands : List Handshake)
      → AreAccounted calls s.table hands a.host → StayAccounted (pay_event_of s) calls x x.0.table hands b.host
  pay_accounted x runs calls hands was =
      stay_accounted (λ y. y.0.table) (λ y. hands) (pay_event_of s) calls a b x s.table hands (keeps_pay_event hands s calls was.accounts)
      was runs

  pub fill_accounted : (x : DeviceState × Result Filled Failure) → Runs (fill_rx_of s) a x b → (calls : List Made)
      (hands : List Handshake) → AreAccounted calls s.table hands a.host → StayAccounted (fill_rx_of s) calls x x.0.table hands b.host
  fill_accounted x runs calls hands was =
      stay_accounted (λ y. y.0.table) (λ y. hands) (fill_rx_of s) calls a b x s.table hands (keeps_fill_rx hands s calls was.accounts) was
      runs

  pub tick_accounted : (now : ℕ) (t : DeviceState) → Runs (tick_of now s) a t b → (calls : List Made) (hands : List Handshake)
      → AreAccounted calls s.table hands a.host → StayAccounted (tick_of now s) calls t t.table hands b.host
  tick_accounted now t runs calls hands was =
      stay_accounted (λ y. y.table) (λ y. hands) (tick_of now s) calls a b t s.table hands (keeps_tick hands now s calls was.accounts) was
      runs

  pub pump_accounted : (w : Writing) → Runs (pump_of s) a w b → (calls : List Made) (hands : List Handshake)
      → AreAccounted calls s.table hands a.host → StayAccounted (pump_of s) calls w w.state.table hands b.host
  pump_accounted w runs calls hands was =
      stay_accounted (λ y. y.state.table) (λ y. hands) (pump_of s) calls a b w s.table hands (keeps_pump hands s calls was.accounts) was
      runs

  pub reset_accounted : (cid : ℕ) (x : DeviceState × Result (Unit {0}) Failure) → Runs (reset_of cid s) a x b → (calls : List Made)
      (hands : List Handshake) → AreAccounted calls s.table hands a.host → StayAccounted (reset_of cid s) calls x x.0.table [] b.host
  reset_accounted cid x runs calls hands was =
      stay_accounted (λ y. y.0.table) (λ y. []) (reset_of cid s) calls a b x s.table hands
      (keeps_reset_alone hands cid s calls was.accounts) was runs

  pub open_accounted : (flow : Flow) (stream : ℕ) (x : DeviceState × Result ℕ TableFault) → Runs (open_of flow stream s) a x b
      → (calls : List Made) (hands : List Handshake) → AreAccounted calls s.table hands a.host → IsAsking stream calls hands
      → StayAccounted (open_of flow stream s) calls x x.0.table hands b.host
  open_accounted flow stream x runs calls hands was asking =
      stay_accounted (λ y. y.0.table) (λ y. hands) (open_of flow stream s) calls a b x s.table hands
      (keeps_open hands hands flow stream asking.line s calls asking.whole asking.waits was.accounts.tied.undecided
      was.accounts.tied.waiting
      asking.apart was.accounts.tied.apart was.accounts) was runs
