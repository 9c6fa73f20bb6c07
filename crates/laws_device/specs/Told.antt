-- The device and its log over any ring that tells it, honest or not: as far as packets come in order.
use Rattle.std.specs.{Option.ForSome, Prelude.{◌≡◌, ℕ, None, IfSome}}
use Rattle.vs_page.specs.Log.{Device}
use Rattle.vs_ring_port.specs.{Contents.RingContents, EndLog.EndLog}
use Rattle.laws_tables.specs.{Heard.IsOrderedLog, Matches.Matches}
use Rattle.vs_device_parts.specs.{Playing.IsRxChain, State.DeviceState}
use Rattle.laws_device.specs.Honest.{IsFitState, ends_of_state, unwritten}

-- The device's numbers fit their widths, and each connection is the one that the log left.
pub record IsAsLeft (first port : ℕ) (s : DeviceState) (l : EndLog) : Type 0 where
  pub fits : IsFitState s
  pub matches : Matches Device first (ends_of_state port s) l.entries

-- Where this was the guest's CID at first and this is the next host port: unless the ring failed, the device holds just its rx chain, and where
-- packets come in order, it is as the log left it. It takes no packet of a page that is shorter than its header tells: then the ring failed.
pub record IsTold (first port : ℕ) (s : DeviceState) (l : EndLog) : Type 0 where
  pub held : s.failed ≡ None → l.held ≡ unwritten s.chain
  pub left : s.failed ≡ None → IsOrderedLog Device l.entries → IsAsLeft first port s l

abbrev pub IsToldWith : ℕ → ℕ → DeviceState → RingContents → Type 0
IsToldWith first port s c = IfSome s.chain IsRxChain × ForSome c.log (IsTold first port s)
