-- Raising the buffer space of the connection of a flow, or of a host's stream: what is answered, and what it leaves.
use Rattle.std.specs.{Prelude.{ℕ, Option, Some, None}, Option.option_map}
use Rattle.vs_flow.specs.{Table.entry_of, declared.flow.Flow.Flow}
use Rattle.vs_outside.specs.Host.{HostContents, stream_at}
use Rattle.vs_device_parts.specs.{Growing.after_grow, Growing.grow_of, State.DeviceState, declared.answers.Grown.Grown}
use Rattle.vs_proxy_parts.specs.State.{ProxyState, with_device}
use Rattle.vs_device_parts.specs.declared.answers.Grown.TheVariants as rise

-- The slot of the connection of a flow.
abbrev pub slot_of : Flow → DeviceState → Option ℕ
slot_of flow s = option_map (λ e. e.slot) (entry_of s.table flow)

abbrev pub flow_grow_of : Flow → ℕ → ProxyState → Grown
flow_grow_of flow alloc s = elim (slot_of flow s.device) [ None ↦ rise.Unknown | Some slot ↦ grow_of slot alloc s.device ]

abbrev pub after_flow_grow : Flow → ℕ → ProxyState → ProxyState
after_flow_grow flow alloc s = elim (slot_of flow s.device) [ None ↦ s | Some slot ↦ with_device (after_grow slot alloc s.device) s ]

-- The label of a stream, where there is such a stream. It names the stream's connection; a stream without one has none.
abbrev pub label_at : ℕ → HostContents → Option (Option Flow)
label_at stream host = option_map (λ s. s.label) (stream_at stream host)

abbrev pub label_grow_of : Option (Option Flow) → ℕ → ProxyState → Option Grown
label_grow_of None alloc s = None
label_grow_of (Some None) alloc s = Some rise.Unknown
label_grow_of (Some (Some flow)) alloc s = Some (flow_grow_of flow alloc s)

abbrev pub after_label_grow : Option (Option Flow) → ℕ → ProxyState → ProxyState
after_label_grow (Some (Some flow)) alloc s = after_flow_grow flow alloc s
after_label_grow _ alloc s = s
