-- What an end heard on a flow, and the order in which packets come.
use Rattle.std.specs.Prelude.{◌≡◌, ◌≤◌, ℕ, Bool, true, false, ◌&&◌, ◌||◌, not, if◌then◌else◌, [], ◌∷◌}
use Rattle.vs_conn.specs.declared.route.Route.{Route}
use Rattle.vs_flow.specs.{Flow.same_flow, declared.flow.Flow.Flow}
use Rattle.laws_history.specs.{Again.present, declared.packet.Packet.Packet, History.{History, IsOpening, Put, Got, Side, Asker, Answerer}}
use Rattle.laws_history.specs.{History.{puts, gots}, Packets.{allowance, bytes, has, is_clean_rst, is_request, told_forwarded}}
use Rattle.vs_page.specs.{Log.{Log, Role, Driver, Device, and_then, asks, flow_put, flow_got, history_of, side_of, whole_of}, Open.cid_of}
use Rattle.vs_page.specs.{Open.is_dropped, declared.log.LogEntry.TheVariants.{PutPacket, GotPacket}}

-- What passed on the present connection of a flow, without the packets that were dropped. A REQUEST that is dropped ends what was heard.
abbrev pub hears : Bool → Packet → History → History
hears true p h = if is_request p then [] else h
hears false p h = and_then (Got p) h

abbrev pub heard_of : Role → ℕ → Flow → Log → History
heard_of role first f [] = []
heard_of role first f (PutPacket p ∷ log) =
    if same_flow f (flow_put role p) then and_then (Put p) (heard_of role first f log) else heard_of role first f log
heard_of role first f (GotPacket p ∷ log) =
    if same_flow f (flow_got role p) then hears (is_dropped role (cid_of first log) p.header) p (heard_of role first f log)
    else heard_of role first f log
heard_of role first f (_ ∷ log) = heard_of role first f log

-- No packet of a flow was dropped.
abbrev pub IsAllHeard : Role → ℕ → Flow → Log → Type 0
IsAllHeard role first f log = heard_of role first f log ≡ history_of role f log

-- The payload that an end put is within the credit that it heard, and it says that no more was forwarded than it heard.
pub record IsWithin (h : History) : Type 0 where
  pub fits : bytes (puts h) ≤ allowance (gots h)
  pub forwarded : told_forwarded (puts h) ≤ bytes (gots h)

abbrev pub IsWithinCredit : Role → ℕ → Flow → Log → Type 0
IsWithinCredit role first f log = IsWithin (heard_of role first f log)

abbrev pub is_empty : History → Bool
is_empty [] = true
is_empty (entry ∷ h) = false

-- The end put a marked RST, and nothing passed since.
abbrev pub is_over : History → Bool
is_over [] = false
is_over (Put p ∷ h) = is_clean_rst p
is_over (Got p ∷ h) = false

-- A REQUEST may come: nothing was heard, or the connection is over. And an end that asks waits for packets: it put its REQUEST, and got no
-- marked RST.
abbrev pub is_fresh : History → Bool
is_fresh h = is_empty h || is_over h

abbrev pub is_awaiting : History → Bool
is_awaiting h = not (is_empty h) && not (has is_clean_rst (gots h))

-- A packet comes in order to an end of this side that heard this.
pub record IsInOrder (side : Side) (h : History) (p : Packet) : Type 0 where
  -- A REQUEST comes first, or after a connection that is over, and from the side that asks.
  pub request : is_request p ≡ true → (side ≡ Answerer) × (is_fresh h ≡ true)
  -- Nothing comes before the REQUEST that this end puts, nor after the marked RST that closed its connection until it asks again.
  pub asked : side ≡ Asker → is_awaiting h ≡ true

-- Packets come in order, where these passed on all connections of a flow. What an end puts first is its REQUEST.
abbrev pub IsOrdered : Side → History → Type 0
IsOrdered side [] = Unit {0}
IsOrdered side (Put p ∷ w) = (is_request p ≡ false → is_empty (present w) ≡ false) × IsOrdered side w
IsOrdered side (Got p ∷ w) = IsInOrder side (present w) p × IsOrdered side w

abbrev pub IsOrderedLog : Role → Log → Type 0
IsOrderedLog role log = (f : Flow) → IsOrdered (side_of role f) (whole_of role f log)

-- The first entry of a flow is its only REQUEST, and its own side's to put. And the side that asked gets nothing after a marked RST.
abbrev pub AsksOnce : Side → History → Type 0
AsksOnce side [] = Unit {0}
AsksOnce side (entry ∷ []) = IsOpening side entry
AsksOnce side (entry ∷ older ∷ w) = (asks entry ≡ false) × AsksOnce side (older ∷ w)

abbrev pub StopsAtMark : Side → History → Type 0
StopsAtMark side [] = Unit {0}
StopsAtMark side (Put p ∷ w) = StopsAtMark side w
StopsAtMark side (Got p ∷ w) = (side ≡ Asker → has is_clean_rst (gots w) ≡ false) × StopsAtMark side w

-- No flow is used again, whatever else passes.
abbrev pub AsksOnceLog : Role → Log → Type 0
AsksOnceLog role log = (f : Flow) → AsksOnce (side_of role f) (whole_of role f log) × StopsAtMark (side_of role f) (whole_of role f log)

-- The port of a flow that an end gives to a connection that it asks for.
abbrev pub own_port : Role → Flow → ℕ
own_port Driver f = f.guest
own_port Device f = f.host

-- The route of the packets that an end puts on a flow, where this is the guest's CID.
abbrev pub route_of : Role → ℕ → Flow → Route
route_of Driver cid f = record { src_cid = cid; dst_cid = f.peer; src_port = f.guest; dst_port = f.host }
route_of Device cid f = record { src_cid = f.peer; dst_cid = cid; src_port = f.host; dst_port = f.guest }
