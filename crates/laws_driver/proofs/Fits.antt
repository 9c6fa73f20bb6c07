-- The buffer of a connection holds what its end counts as unread, whatever the end does.
use Rattle.std.proofs.{Common.{◌≡◌, ℕ, ◌+◌, ◌≤◌, List, ◌++◌, length, refl, subst, arith, length-append, eq-eqb}, lemmas.Grind.common_steps}
use Rattle.vs_credit.specs.declared.Credit.{Credit}
use Rattle.vs_limits.specs.declared.TheConstants.{BUF_ALLOC_MAX}
use Rattle.laws_history.specs.declared.packet.Packet.{Packet}
use Rattle.vs_page.specs.Held.{IsWhole}
use Rattle.vs_conn.specs.{declared.end.{Owed.Owed, State.State, Verdict.Verdict}, End.{end_after, grown, verdict_of, with_payload_sent}}
use Rattle.laws_tables.{specs.Drains.delivered, proofs.Unread.{Counts, Moves, hears, still}}
use Rattle.vs_driver_parts.specs.{Room.HasRoom, State.DriverConnection, Receiving.after_packet, Connections.{after_read, after_shut, after_closing, paid_connection}}
use Rattle.vs_driver_parts.proofs.Delivers.{delivers, named_rw}
use Rattle.vs_conn.specs.declared.end.Owed.TheVariants as owed
use Rattle.vs_conn.specs.declared.end.State.TheVariants as state
use Rattle.vs_conn.specs.declared.end.Verdict.TheVariants as verdict

-- A buffer of BUF_ALLOC_MAX bytes with these.
abbrev pub Holds : Credit → List ℕ → Type 0
Holds c bytes = HasRoom c (record { bytes = bytes; capacity = BUF_ALLOC_MAX })

abbrev pub IsHeldBy : DriverConnection → Type 0
IsHeldBy c = Holds c.end.credit c.unread

counts : (c : Credit) (bytes : List ℕ) → Holds c bytes → Counts c
counts c bytes room = record { within = omega (arith, room.unread, room.fits); alloc = room.space; rx = room.rx_cnt; fwd = room.fwd_cnt }

-- As many bytes come and go as the end counts.
moved : (more less : ℕ) (c d : Credit) (bytes kept : List ℕ) → Holds c bytes → Moves more less c d → length kept + less ≡ length bytes + more → Holds d kept
moved more less c d bytes kept room m long = grind (arith, common_steps)

-- What came in and was forwarded is the same.
pub holds_same : (c d : Credit) (bytes : List ℕ) → Holds c bytes → d.alloc ≡ c.alloc → d.rx_cnt ≡ c.rx_cnt → d.fwd_cnt ≡ c.fwd_cnt → Holds d bytes
holds_same c d bytes room alloc rx fwd = moved 0 0 c d bytes bytes room (still c d (counts c bytes room) alloc rx fwd) (omega arith)

-- What a packet does.
pub packet_fits : (p : Packet) (c : DriverConnection) → IsWhole p → IsHeldBy c → IsHeldBy (after_packet (verdict_of c.end p.header) p c)
packet_fits p c whole room = by (verdict_of c.end p.header) refl
  where
    moves : (v : Verdict) → verdict_of c.end p.header ≡ v → Moves (delivered v p.header.len) 0 c.end.credit (end_after c.end p.header).credit
    moves v is = subst (λ (w : Verdict). Moves (delivered w p.header.len) 0 c.end.credit (end_after c.end p.header).credit) is
        (hears c.end p.header (counts c.end.credit c.unread room))

    by : (v : Verdict) → verdict_of c.end p.header ≡ v → IsHeldBy (after_packet v p c)
    by verdict.Deliver is =
        let long = whole.len (eq-eqb p.header.op 5 (named_rw _ (delivers c.end p.header is).rw)) in
        let both = length-append c.unread p.payload in
        moved _ 0 c.end.credit _ c.unread (c.unread ++ p.payload) room (moves verdict.Deliver is) (omega (arith, long, both))
    by v is = moved 0 0 c.end.credit _ c.unread c.unread room (moves v is) (omega arith)

-- What the driver's own steps do.
pub paid_fits : (what : Owed) (c : DriverConnection) → IsHeldBy c → IsHeldBy (paid_connection what c)
paid_fits owed.Rst c room = room
paid_fits what c room = holds_same c.end.credit _ c.unread room refl refl refl

pub sent_fits : (n : ℕ) (c : DriverConnection) → IsHeldBy c → Holds (with_payload_sent c.end n).credit c.unread
sent_fits n c room = holds_same c.end.credit _ c.unread room refl refl refl

pub read_fits : (n : ℕ) (c : DriverConnection) → IsHeldBy c → IsHeldBy (after_read n c)
read_fits n c room = grind (arith, common_steps)

pub grow_fits : (alloc : ℕ) (c : DriverConnection) → IsHeldBy c → c.end.credit.alloc ≤ alloc → alloc ≤ BUF_ALLOC_MAX
    → Holds (grown c.end alloc).credit c.unread
grow_fits alloc c room rises most = grind (arith, common_steps)

pub shut_fits : (bits : ℕ) (c : DriverConnection) → IsHeldBy c → IsHeldBy (after_shut bits c)
shut_fits bits c room = grind (arith, common_steps)

pub closing_fits : (s : State) (c : DriverConnection) → IsHeldBy c → IsHeldBy (after_closing s c)
closing_fits state.Live c room = shut_fits 3 c room
closing_fits _ c room = room
