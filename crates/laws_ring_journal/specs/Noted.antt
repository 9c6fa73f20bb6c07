-- What a call makes of the calls so far.
use Rattle.std.specs.Prelude.{Option, Some, None, option_and_then}
use Rattle.vs_ring_port.specs.{Contents.{Take, Write, Return, PublishCid}, DriverCalls.{Stage, Publish, Reap, LoadCid}}
use Rattle.laws_ring_journal.specs.{History.{History, RingCall, ByDriver, ByDevice, then}, declared.journal.Call.Call}
use Rattle.laws_ring_journal.specs.declared.journal.Call.TheVariants as call

abbrev pub call_of : Call → Option RingCall
call_of (call.Stage queue page) = Some (ByDriver (Stage queue page.now))
call_of (call.Publish queue) = Some (ByDriver (Publish queue))
call_of (call.Reap queue) = Some (ByDriver (Reap queue))
call_of call.LoadCid = Some (ByDriver LoadCid)
call_of (call.Take queue) = Some (ByDevice (Take queue))
call_of (call.Write chain place bytes) = Some (ByDevice (Write chain.now place bytes.now))
call_of (call.Return chain len) = Some (ByDevice (Return chain.now len))
call_of (call.PublishCid cid) = Some (ByDevice (PublishCid cid))
call_of call.Outside = None

abbrev pub noted : History → Call → History
noted history c = option_and_then (then history) (call_of c)
