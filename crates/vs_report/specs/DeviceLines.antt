-- What the lines print that are the device's turns, resets and growths, each with its LF.
use Rattle.std.specs.Prelude.{ℕ, List, ◌++◌, codes, decimal, Option, Some, None, Result, Ok, Err}
use Rattle.vs_device_parts.specs.declared.answers.Grown.{Grown}
use Rattle.vs_device_parts.specs.declared.answers.Grown.TheVariants as rise
use Rattle.vs_proxy_parts.specs.declared.answers.Turn.{Turn}
use Rattle.vs_proxy_parts.specs.declared.answers.Turn.TheVariants as turn
use Rattle.vs_ring_port.specs.declared.failure.Failure.{Failure}
use Rattle.vs_ring_port.specs.declared.failure.Failure.TheVariants as failure

-- A failure of the ring: its name, and the values that show it.
abbrev pub one_value_text : List ℕ → ℕ → List ℕ
one_value_text name value = codes "failed " ++ name ++ codes " " ++ decimal value ++ codes "\n"

abbrev pub two_values_text : List ℕ → ℕ → ℕ → List ℕ
two_values_text name first second = codes "failed " ++ name ++ codes " " ++ decimal first ++ codes " " ++ decimal second ++ codes "\n"

abbrev pub failure_text : Failure → List ℕ
failure_text (failure.AvailJump taken idx) = two_values_text (codes "AvailJump") taken idx
failure_text (failure.HeadRange head n) = two_values_text (codes "HeadRange") head n
failure_text (failure.Indirect number) = one_value_text (codes "Indirect") number
failure_text (failure.TxWritable number) = one_value_text (codes "TxWritable") number
failure_text (failure.RxReadable number) = one_value_text (codes "RxReadable") number
failure_text (failure.AddrRange addr len) = two_values_text (codes "AddrRange") addr len
failure_text (failure.ChainLong n) = one_value_text (codes "ChainLong") n
failure_text (failure.NextRange next n) = two_values_text (codes "NextRange") next n
failure_text (failure.TxShort readable) = one_value_text (codes "TxShort") readable
failure_text (failure.RxSmall writable) = one_value_text (codes "RxSmall") writable
failure_text (failure.EventSmall writable) = one_value_text (codes "EventSmall") writable
failure_text (failure.PayloadShort len held) = two_values_text (codes "PayloadShort") len held
failure_text (failure.IndirectNext number) = one_value_text (codes "IndirectNext") number
failure_text (failure.IndirectLen len) = one_value_text (codes "IndirectLen") len
failure_text (failure.IndirectNested number) = one_value_text (codes "IndirectNested") number

-- turn: packets taken and put, bytes read of the host's streams and written to them, connections opened and closed
abbrev pub moved_text : (wrote opened closed : ℕ) → List ℕ
moved_text wrote opened closed = codes " " ++ decimal wrote ++ codes " " ++ decimal opened ++ codes " " ++ decimal closed ++ codes "\n"

abbrev pub turned_text : (took put read wrote opened closed : ℕ) → List ℕ
turned_text took put read wrote opened closed =
    codes "turned " ++ decimal took ++ codes " " ++ decimal put ++ codes " " ++ decimal read ++ moved_text wrote opened closed

-- What a turn prints: what moved, or the failure of the ring.
abbrev pub turn_text : Turn → List ℕ
turn_text (turn.Turned t) = turned_text t.took t.put t.read t.wrote t.opened t.closed
turn_text (turn.Failed f) = failure_text f

-- reset CID
abbrev pub reset_text : Result (Unit {0}) Failure → List ℕ
reset_text (Ok x) = codes "ok\n"
reset_text (Err f) = failure_text f

-- host grow H N: what was answered, where there is such a stream
abbrev pub growth_text : Option Grown → List ℕ
growth_text None = codes "no stream\n"
growth_text (Some rise.Done) = codes "ok\n"
growth_text (Some rise.Unknown) = codes "unknown\n"
growth_text (Some rise.NotOpen) = codes "not open\n"
growth_text (Some rise.Reset) = codes "reset\n"
growth_text (Some (rise.TooBig most)) = codes "too big " ++ decimal most ++ codes "\n"
growth_text (Some (rise.Shrinks now)) = codes "shrinks " ++ decimal now ++ codes "\n"
