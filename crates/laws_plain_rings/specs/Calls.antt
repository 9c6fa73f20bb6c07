-- Both ends of rings after some calls.
use Rattle.std.specs.Prelude.{ℕ, List, [], ◌∷◌, Option, option_map}
use Rattle.vs_ring_port.specs.{Contents.DeviceCall, DeviceCalls.device_answer, DriverCalls.DriverCall, DriverCalls.driver_answer}
use Rattle.vs_ring_list.specs.Ends.{Ends, empty_ends}
use Rattle.laws_ring_journal.specs.History.{History, RingCall, ByDriver, ByDevice}

-- What one call makes of both ends: the lists of pages in flight, and the log of the end that calls.
abbrev pub after_driver : DriverCall → Ends → Ends
after_driver call w = let r = driver_answer call (w.lists, w.driver) in record w { lists = r.1.0; driver = r.1.1 }

abbrev pub after_device : DeviceCall → Ends → Ends
after_device call w = let r = device_answer call (w.lists, w.device) in record w { lists = r.1.0; device = r.1.1 }

abbrev pub after_call : RingCall → Ends → Ends
after_call (ByDriver call) w = after_driver call w
after_call (ByDevice call) w = after_device call w

-- Both ends of rings of size n after these calls, newest first.
abbrev pub ends_after : ℕ → List RingCall → Ends
ends_after n [] = empty_ends n
ends_after n (call ∷ calls) = after_call call (ends_after n calls)

abbrev pub ends_by : ℕ → History → Option Ends
ends_by n history = option_map (ends_after n) history
