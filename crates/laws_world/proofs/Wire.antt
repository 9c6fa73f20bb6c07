-- The header of the next packet that is got fits the wire, as those of all packets that the other end put do.
use Rattle.std.proofs.Common.{ℕ, List, [], ◌∷◌, ◌++◌, Option, Some, None, subst}
use Rattle.laws_history.specs.declared.packet.Packet.{Packet}
use Rattle.vs_page.specs.{Held.{FitsWire, packet_held}, Log.{IsNextPacket, Log, packets_got}, declared.log.LogEntry.TheVariants.PutPacket}
use Rattle.vs_ring_port.specs.EndLog.{all_put, with_packet}
use Rattle.laws_device.proofs.Seats.{AllFit, PutsFit}

among : (rest more : List Packet) (p : Packet) → AllFit (rest ++ p ∷ more) → FitsWire p.header
among [] more p all = all.0
among (q ∷ rest) more p all = among rest more p all.1

pub next_fits : (mine other : Log) (p : Packet) → IsNextPacket mine other p → PutsFit other → FitsWire p.header
next_fits mine other p next all = among next.0 (packets_got mine) p (subst AllFit next.1 all)

-- What was put before what is staged fits too.
pub first_fit : (pages : List (List ℕ)) (log : Log) → PutsFit (all_put pages log) → PutsFit log
first_fit [] log fit = fit
first_fit (page ∷ pages) log fit = by (packet_held page) (first_fit pages (with_packet (λ p. PutPacket p) (packet_held page) log) fit)
  where
    by : (o : Option Packet) → PutsFit (with_packet (λ p. PutPacket p) o log) → PutsFit log
    by None fit = fit
    by (Some p) fit = fit.1
