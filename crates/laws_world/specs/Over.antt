-- What a conversation leads to over list rings, and over list rings and a host in memory.
use Rattle.std.specs.Prelude.{ℕ}
use Rattle.vs_contents.specs.CallTree.{played}
use Rattle.vs_ring_port.specs.DriverCalls.{driver_answer}
use Rattle.vs_ring_list.specs.Ends.{Ends}
use Rattle.vs_outside.specs.Host.{HostContents}
use Rattle.vs_driver_parts.specs.Conversations.{DriverTree}
use Rattle.vs_device_parts.specs.{Calls.DeviceTree, State.DeviceState}
use Rattle.vs_proxy_parts.specs.{State.ProxyState, State.Turning, State.start, State.with_device, Turns.proxy_reset_of}
use Rattle.laws_world.specs.Answers.{Around, answer_around}

-- What a conversation of the driver's leads to over list rings.
abbrev pub over_lists : {A : Type 0} → DriverTree A → Ends → A × Ends
over_lists tree e = let r = played driver_answer tree (e.lists, e.driver) in (r.0, record e { lists = r.1.0; driver = r.1.1 })

-- What the device sees of the rings and of the host, and what a conversation of the device's leads to over both.
abbrev pub beside : Ends → HostContents → Around
beside e h = record { lists = e.lists; log = e.device; host = h }

abbrev pub over_both : {A : Type 0} → DeviceTree A → Ends → HostContents → A × (Ends × HostContents)
over_both tree e h =
    let r = played answer_around tree (beside e h) in (r.0, (record e { lists = r.1.lists; device = r.1.log }, r.1.host))

-- What a step of the device's, one of the proxy's and a transport reset lead to: the proxy after it, the rings and the host.
abbrev pub device_after : (DeviceState → DeviceTree DeviceState) → ProxyState → Ends → HostContents → ProxyState × (Ends × HostContents)
device_after step s e h = let r = over_both (step s.device) e h in (with_device r.0 s, r.1)

abbrev pub proxy_after : (Turning → DeviceTree Turning) → ProxyState → Ends → HostContents → ProxyState × (Ends × HostContents)
proxy_after step s e h = let r = over_both (step (start s)) e h in (r.0.state, r.1)

abbrev pub reset_after : ℕ → ProxyState → Ends → HostContents → ProxyState × (Ends × HostContents)
reset_after cid s e h = let r = over_both (proxy_reset_of cid s) e h in (r.0.0, r.1)
