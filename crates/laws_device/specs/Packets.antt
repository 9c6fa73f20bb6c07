-- What one packet, or one event, does to the log of a ring that tells it.
use Rattle.std.specs.Prelude.{◌≡◌, ℕ, List, ◌∷◌, ◌++◌, length, Some}
use Rattle.vs_header.specs.{Packet.header_bytes, declared.Header.Header}
use Rattle.laws_history.specs.declared.packet.Packet.{Packet}
use Rattle.vs_page.specs.{Held.packet_held, declared.log.LogEntry.LogEntry, declared.log.LogEntry.TheVariants.GotPacket}
use Rattle.vs_ring_port.specs.{Chains.Held, EndLog.EndLog, EndLog.with_packet, declared.device_ring.Chain.Chain}

-- The chain was taken last, of those that are held, and these are its bytes.
abbrev pub HoldsLast : Chain → List ℕ → List Held → EndLog → Type 0
HoldsLast chain bytes others l = l.held ≡ record { chain = chain; bytes = bytes } ∷ others

-- The packet with this header and this payload, and that its bytes hold it.
abbrev pub packet_with : Header → List ℕ → Packet
packet_with h payload = record { header = h; payload = payload }

abbrev pub IsWholeAs : Header → List ℕ → Type 0
IsWholeAs h payload = packet_held (header_bytes h ++ payload) ≡ Some (packet_with h payload)

-- One entry was added to the log, and these chains are held.
pub record HasAdded (entry : LogEntry) (others : List Held) (old new : EndLog) : Type 0 where
  pub entries : new.entries ≡ entry ∷ old.entries
  pub held : new.held ≡ others

-- A page was taken as this chain, and its packet is got, where it holds one.
pub record HasTaken (chain : Chain) (old new : EndLog) : Type 0 where
  pub page : List ℕ
  pub readable : chain.readable ≡ length page
  pub entries : new.entries ≡ with_packet (λ p. GotPacket p) (packet_held page) old.entries
  pub held : new.held ≡ record { chain = chain; bytes = page } ∷ old.held
