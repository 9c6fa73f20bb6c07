-- What a connection does leaves its id.
use Rattle.std.proofs.Common.{◌≡◌, true, refl}
use Rattle.vs_conn.specs.declared.end.{Owed.Owed, State.State, Verdict.Verdict}
use Rattle.vs_conn.specs.declared.end.Owed.TheVariants as owed
use Rattle.vs_conn.specs.declared.end.State.TheVariants as state
use Rattle.vs_conn.specs.declared.end.Verdict.TheVariants as verdict
use Rattle.laws_history.specs.declared.packet.Packet.{Packet}
use Rattle.vs_driver_parts.specs.{State.DriverConnection, Connections.paid_connection, Connections.after_closing, Receiving.after_packet}

pub paid_id : (what : Owed) (c : DriverConnection) → (paid_connection what c).id ≡ c.id
paid_id owed.Response c = refl
paid_id _ c = refl

pub closing_id : (s : State) (c : DriverConnection) → (after_closing s c).id ≡ c.id
closing_id state.Live c = refl
closing_id _ c = refl

pub packet_id : (v : Verdict) (p : Packet) (c : DriverConnection) → (after_packet v p c).id ≡ c.id
packet_id verdict.Deliver p c = refl
packet_id _ p c = refl

pub closing_closed : (s : State) (c : DriverConnection) → (after_closing s c).closed ≡ true
closing_closed state.Live c = refl
closing_closed _ c = refl
