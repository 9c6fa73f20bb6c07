-- The calls on the two ends of a ring, and how the logic stores them.
use Rattle.std.specs.{Prelude.{◌≡◌, ℕ, List, [], ◌∷◌, Option, ◌==◌, cond, option_map, refl}, Coded.{Coded, code_by, coded×, coded_ℕ, coded_list, coded_option}}
use mathlib.Core.Path.{ap}
use Rattle.vs_ring_port.specs.{Contents.{DeviceCall, Take, Read, Write, Return, Given, PublishCid}, DriverCalls.{DriverCall, Stage, Publish, Reap, LoadCid}}
use Rattle.vs_ring_port.specs.declared.{device_ring.Chain.Chain, queue.Queue.{Queue, TheVariants.{Rx, Tx, Event}}}

-- A call of the driver or of the device.
pub data RingCall : Type 0 where
  ByDriver : DriverCall → RingCall
  ByDevice : DeviceCall → RingCall

-- The calls so far, newest first, or none where the journal was given up.
abbrev pub History : Type 0
History = Option (List RingCall)

abbrev pub then : History → RingCall → History
then history call = option_map (λ calls. call ∷ calls) history

-- A call as numbers and bytes: its kind, its queue, its chain's place and lengths, two numbers, and its bytes.
abbrev queue_number : Queue → ℕ
queue_number Rx = 0
queue_number Tx = 1
queue_number Event = 2

abbrev queue_at : ℕ → Queue
queue_at n = cond (n == 0) Rx (cond (n == 1) Tx Event)

pub queue_at-queue_number : (q : Queue) → queue_at (queue_number q) ≡ q
queue_at-queue_number Rx = refl
queue_at-queue_number Tx = refl
queue_at-queue_number Event = refl

abbrev Parts : Type 0
Parts = ℕ × (ℕ × (ℕ × (ℕ × (ℕ × (ℕ × (ℕ × List ℕ))))))

abbrev of_chain : ℕ → Chain → ℕ → ℕ → List ℕ → Parts
of_chain kind chain a b bytes = (kind, (queue_number chain.queue, (chain.place, (chain.readable, (chain.writable, (a, (b, bytes)))))))

abbrev of_queue : ℕ → Queue → List ℕ → Parts
of_queue kind queue bytes = (kind, (queue_number queue, (0, (0, (0, (0, (0, bytes)))))))

abbrev chain_in : Parts → Chain
chain_in p = record { queue = queue_at p.1.0; place = p.1.1.0; readable = p.1.1.1.0; writable = p.1.1.1.1.0 }

abbrev to_parts : RingCall → Parts
to_parts (ByDriver (Stage queue page)) = of_queue 0 queue page
to_parts (ByDriver (Publish queue)) = of_queue 1 queue []
to_parts (ByDriver (Reap queue)) = of_queue 2 queue []
to_parts (ByDriver LoadCid) = of_queue 3 Rx []
to_parts (ByDevice (Take queue)) = of_queue 4 queue []
to_parts (ByDevice (Read chain place count)) = of_chain 5 chain place count []
to_parts (ByDevice (Write chain place bytes)) = of_chain 6 chain place 0 bytes
to_parts (ByDevice (Return chain len)) = of_chain 7 chain len 0 []
to_parts (ByDevice (Given queue)) = of_queue 8 queue []
to_parts (ByDevice (PublishCid cid)) = (9, (0, (cid, (0, (0, (0, (0, [])))))))

abbrev from_parts : Parts → RingCall
from_parts p =
    let queue = queue_at p.1.0 in let a = p.1.1.1.1.1.0 in let b = p.1.1.1.1.1.1.0 in let bytes = p.1.1.1.1.1.1.1 in
    cond (p.0 == 0) (ByDriver (Stage queue bytes)) (cond (p.0 == 1) (ByDriver (Publish queue)) (cond (p.0 == 2) (ByDriver (Reap queue))
    (cond (p.0 == 3) (ByDriver LoadCid) (cond (p.0 == 4) (ByDevice (Take queue)) (cond (p.0 == 5) (ByDevice (Read (chain_in p) a b))
    (cond (p.0 == 6) (ByDevice (Write (chain_in p) a bytes)) (cond (p.0 == 7) (ByDevice (Return (chain_in p) a))
    (cond (p.0 == 8) (ByDevice (Given queue)) (ByDevice (PublishCid p.1.1.0))))))))))

pub from_parts-to_parts : (call : RingCall) → from_parts (to_parts call) ≡ call
from_parts-to_parts (ByDriver (Stage queue page)) = ap (λ q. ByDriver (Stage q page)) (queue_at-queue_number queue)
from_parts-to_parts (ByDriver (Publish queue)) = ap (λ q. ByDriver (Publish q)) (queue_at-queue_number queue)
from_parts-to_parts (ByDriver (Reap queue)) = ap (λ q. ByDriver (Reap q)) (queue_at-queue_number queue)
from_parts-to_parts (ByDriver LoadCid) = refl
from_parts-to_parts (ByDevice (Take queue)) = ap (λ q. ByDevice (Take q)) (queue_at-queue_number queue)
from_parts-to_parts (ByDevice (Read chain place count)) =
    ap (λ (q : Queue). ByDevice (Read (record chain { queue = q }) place count)) (queue_at-queue_number chain.queue)
from_parts-to_parts (ByDevice (Write chain place bytes)) =
    ap (λ (q : Queue). ByDevice (Write (record chain { queue = q }) place bytes)) (queue_at-queue_number chain.queue)
from_parts-to_parts (ByDevice (Return chain len)) =
    ap (λ (q : Queue). ByDevice (Return (record chain { queue = q }) len)) (queue_at-queue_number chain.queue)
from_parts-to_parts (ByDevice (Given queue)) = ap (λ q. ByDevice (Given q)) (queue_at-queue_number queue)
from_parts-to_parts (ByDevice (PublishCid cid)) = refl

abbrev pub history_code : Coded History
history_code =
    coded_option (coded_list (code_by Parts (coded× coded_ℕ (coded× coded_ℕ (coded× coded_ℕ (coded× coded_ℕ (coded× coded_ℕ (coded× coded_ℕ
    (coded× coded_ℕ (coded_list coded_ℕ)))))))) to_parts from_parts from_parts-to_parts))
