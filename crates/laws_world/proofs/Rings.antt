-- What the device leaves of the pages that are given on tx.
use Rattle.std.proofs.Common.{ℕ, List, [], ◌∷◌}
use Rattle.vs_ring_port.specs.{Contents.{DeviceCall, Take, Return}, DeviceCalls.device_answer, EndLog.EndLog, Lists.{Rings, all_but_oldest}}
use Rattle.vs_ring_port.specs.{Lists.after_return, declared.queue.Queue.Queue, declared.queue.Queue.TheVariants.{Rx, Tx}}
use Rattle.laws_world.specs.Pages.{AllHold, AllPacked}

-- Each holds a packet, and nothing more.
abbrev pub AreGiven : List (List ℕ) → Type 0
AreGiven pages = AllHold pages × AllPacked pages

oldest_left : (given : List (List ℕ)) → AreGiven given → AreGiven (all_but_oldest given)
oldest_left [] all = all
oldest_left (page ∷ pages) all = (all.0.1, all.1.1)

returned : (q : Queue) (page : List ℕ) (lists : Rings) → AreGiven lists.tx.given → AreGiven (after_return q page lists).tx.given
returned Rx page lists all = all
returned x page lists all = all

pub given_left : (call : DeviceCall) (lists : Rings) (log : EndLog) → AreGiven lists.tx.given → AreGiven (device_answer call (lists, log)).1.0.tx.given
given_left (Take Tx) lists log all = oldest_left lists.tx.given all
given_left (Return chain len) lists log all = returned chain.queue _ lists all
given_left x lists log all = all
