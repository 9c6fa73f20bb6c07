-- The report behind the last line of a play, each line with its LF.
use Rattle.std.specs.Prelude.{ℕ, ◌+◌, List, [], ◌∷◌, ◌++◌, codes, decimal, Option, Some, None}
use Rattle.vs_device_parts.specs.declared.answers.Counters.{Counters}
use Rattle.vs_flow.specs.declared.flow.Flow.{Flow}
use Rattle.vs_outside.specs.{Host.Stream, HostBytes.wrote_after_connect, HostBytes.read_after_ok}
use Rattle.vs_report.specs.{Bytes.counted_text, declared.giving.Totals.Totals}

-- How many entries each table has.
abbrev pub guest_open_text : ℕ → List ℕ
guest_open_text n = codes "guest open " ++ decimal n ++ codes "\n"

abbrev pub device_open_text : ℕ → List ℕ
device_open_text n = codes "device open " ++ decimal n ++ codes "\n"

-- A stream: its number, its label's guest port and host port, what its program wrote behind a CONNECT line and the proxy took, and what
-- its program was given to read behind an OK line. A stream without a label has nothing of it.
abbrev pub flow_text : Flow → List ℕ → List ℕ → List ℕ
flow_text f wrote read = decimal f.guest ++ codes " " ++ decimal f.host ++ codes " wrote " ++ wrote ++ codes " read " ++ read ++ codes "\n"

abbrev pub labelled_text : Option Flow → List ℕ → List ℕ → List ℕ
labelled_text (Some f) wrote read = flow_text f wrote read
labelled_text None wrote read = codes "- - wrote 0 - read 0 -\n"

abbrev pub stream_text : ℕ → Stream → List ℕ
stream_text number s =
    codes "stream " ++ decimal number ++ codes " "
    ++ labelled_text s.label (counted_text (wrote_after_connect s)) (counted_text (read_after_ok s))

-- Those of all streams, numbered from there on.
abbrev pub stream_texts : ℕ → List Stream → List (List ℕ)
stream_texts number [] = []
stream_texts number (s ∷ ss) = stream_text number s ∷ stream_texts (number + 1) ss

-- What was counted: packets dropped, payload beyond the room, calls of the host that failed; where there is a driver, between them the
-- packets that broke a connection of the guest.
abbrev pub broken_text : Option ℕ → List ℕ
broken_text (Some broken) = codes " broken " ++ decimal broken
broken_text None = []

abbrev pub counts_text : Counters → Option ℕ → List ℕ
counts_text c broken =
    codes "dropped " ++ decimal c.dropped ++ codes " overrun " ++ decimal c.overrun ++ broken_text broken ++ codes " faults " ++ decimal c.faults
    ++ codes "\n"

-- Such lines where nothing was counted, in a play, and where there is no driver and so many packets were dropped.
abbrev pub nothing_counted : List ℕ
nothing_counted = codes "dropped 0 overrun 0 broken 0 faults 0\n"

abbrev pub only_dropped : ℕ → List ℕ
only_dropped n = codes "dropped " ++ decimal n ++ codes " overrun 0 faults 0\n"

-- The report of a play, by how many entries the tables have, what was counted, and the host's streams.
abbrev pub report : Totals → List Stream → List (List ℕ)
report t streams =
    guest_open_text t.guest_open
    ∷ device_open_text t.device_open
    ∷ (stream_texts 1 streams ++ counts_text t.counters (Some t.broken) ∷ [])
