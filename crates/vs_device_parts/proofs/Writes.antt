-- A packet is written into a chain: its header, its payload where there is some, and the chain is returned.
use Rattle.std.proofs.Common.{◌≡◌, ℕ, ◌+◌, ◌<◌, List, [], ◌∷◌, length, refl, arith}
use Rattle.vs_header.specs.{Packet.header_bytes, declared.Header.Header, declared.TheConstants.HEADER_LEN}
use Rattle.vs_ring_port.specs.{declared.device_ring.Chain.Chain, Contents.Write, Contents.Return}
use Rattle.vs_device_parts.specs.{Calls.{Ring, Situation, Allows}, Playing.{CanMake, MayRun, Runs}, Receiving.written}

module _ (chain : Chain) (h : Header) where
  pub may_return_header : (payload : List ℕ) (c m : Situation) → length payload ≡ 0 → MayRun (written chain h payload) c
      → Allows (Ring (Write chain 0 (header_bytes h))) tt c m → CanMake (Ring (Return chain HEADER_LEN)) m
  may_return_header [] c m none may one = (may.1 tt m one).0
  may_return_header (x ∷ xs) c m none may one = absurd (omega arith)

  pub may_write_payload : (payload : List ℕ) (c m : Situation) → 0 < length payload → MayRun (written chain h payload) c
      → Allows (Ring (Write chain 0 (header_bytes h))) tt c m → CanMake (Ring (Write chain HEADER_LEN payload)) m
  may_write_payload [] c m some may one = absurd (omega arith)
  may_write_payload (x ∷ xs) c m some may one = (may.1 tt m one).0

  pub may_return_packet : (payload : List ℕ) (c m n : Situation) → 0 < length payload → MayRun (written chain h payload) c
      → Allows (Ring (Write chain 0 (header_bytes h))) tt c m → Allows (Ring (Write chain HEADER_LEN payload)) tt m n
      → CanMake (Ring (Return chain (HEADER_LEN + length payload))) n
  may_return_packet [] c m n some may one two = absurd (omega arith)
  may_return_packet (x ∷ xs) c m n some may one two = ((may.1 tt m one).1 tt n two).0

  pub header_written : (payload : List ℕ) (c m t : Situation) → length payload ≡ 0
      → Allows (Ring (Write chain 0 (header_bytes h))) tt c m → Allows (Ring (Return chain HEADER_LEN)) tt m t → Runs (written chain h payload) c tt t
  header_written [] c m t none one two = (tt, m, one, (tt, t, two, (refl, refl)))
  header_written (x ∷ xs) c m t none one two = absurd (omega arith)

  pub packet_written : (payload : List ℕ) (c m n t : Situation) → 0 < length payload
      → Allows (Ring (Write chain 0 (header_bytes h))) tt c m → Allows (Ring (Write chain HEADER_LEN payload)) tt m n
      → Allows (Ring (Return chain (HEADER_LEN + length payload))) tt n t → Runs (written chain h payload) c tt t
  packet_written [] c m n t some one two three = absurd (omega arith)
  packet_written (x ∷ xs) c m n t some one two three = (tt, m, one, (tt, n, two, (tt, t, three, (refl, refl))))
