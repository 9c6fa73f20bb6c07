-- The packets of the guest in a turn: its transmit stage, and the stages before and after it.
use Rattle.std.specs.Prelude.{◌≡◌, ℕ, zero, suc, ◌+◌, true, false, List, [], ◌∷◌}
use Rattle.vs_contents.specs.CallTree.{Done, Leads, bind}
use Rattle.vs_ring_port.specs.{Contents.Take, declared.{device_ring.Chain.Chain, queue.Queue.TheVariants.Tx}}
use Rattle.vs_device_parts.specs.{Calls.{Answer, Call, DeviceTree, Ring}, State.DeviceState, Transmitting.take_tx_of, declared.answers.Taken.Taken}
use Rattle.vs_proxy_parts.specs.{Turns.{device_after, event_stage, fill_stage, pump_stage, tick_stage, took_packet, turned, unless_failed}, Handshakes.shake_hands}
use Rattle.vs_proxy_parts.specs.{State.{ProxyState, Turning, start}, declared.answers.Turn.Turn}
use Rattle.laws_proxy.specs.Account.{Judged.IsJudged, Made.{Made, Makes}}
use Rattle.vs_ring_port.specs.declared.device_ring.Next.TheVariants as next

-- The chains of tx that were taken, newest first.
abbrev pub taken_by : (call : Call) → Answer call → List Chain → List Chain
taken_by (Ring (Take Tx)) (next.Chain chain) before = chain ∷ before
taken_by call answer before = before

abbrev pub chains_taken : List Made → List Chain
chains_taken [] = []
chains_taken (m ∷ calls) = taken_by m.call m.answer (chains_taken calls)

-- The stages of a turn before its transmit stage, and those after it.
abbrev pub before_packets : ℕ → ProxyState → DeviceTree Turning
before_packets now s = bind (unless_failed (tick_stage now) (start s)) (unless_failed event_stage)

abbrev pub after_packets : ProxyState → Turning → DeviceTree (ProxyState × Turn)
after_packets s t =
    bind (unless_failed shake_hands t) (λ d.
    bind (unless_failed pump_stage d) (λ e.
    bind (unless_failed fill_stage e) (λ f.
    Done (f.state, turned s f))))

-- At most so many packets are taken, each from where the one before it ended, and judged; the last call takes none, unless all were taken.
abbrev pub AreTaken : ℕ → Turning → List Made → Turning → List Made → Type 0
AreTaken zero t calls u later = (u ≡ t) × (later ≡ calls)
AreTaken (suc n) t calls u later =
    (x : DeviceState × Taken) × (mid : List Made) × Leads Makes (take_tx_of t.state.device) calls x mid
    × IsJudged x.1 t.state.device x.0 calls mid × elim (took_packet x.1) [
      | true ↦ AreTaken n (record (device_after x.0 t) { took = t.took + 1 }) mid u later
      | false ↦ (u ≡ device_after x.0 t) × (later ≡ mid)
    ]

-- The packets of a turn, over queues of this size at this moment: from where the stages before them ended, each is taken and judged, and
-- where they ended the stages after them begin. Those take none.
pub record AreJudged (size now : ℕ) (s : ProxyState) (calls : List Made) (x : ProxyState × Turn) (later : List Made) : Type 0 where
  pub begun : Turning
  pub first : List Made
  pub before : Leads Makes (before_packets now s) calls begun first
  pub none_before : chains_taken first ≡ chains_taken calls
  pub ended : Turning
  pub last : List Made
  pub packets : AreTaken size begun first ended last
  pub after : Leads Makes (after_packets s ended) last x later
  pub none_after : chains_taken later ≡ chains_taken last
