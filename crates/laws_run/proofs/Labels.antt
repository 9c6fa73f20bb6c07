-- At rest each connection of a client that has a line has its stream, and so has each that an app asked for whose REQUEST was served.
use Rattle.std.proofs.lemmas.Grind.{common_steps}
use Rattle.std.proofs.Common.{◌≡◌, ◌≤◌, ◌⊎◌, ◌&&◌, ◌||◌, not, ℕ, Bool, true, false, List, [], ◌∷◌, length, refl, subst, ap, ◌∙◌, arith}
use Rattle.std.{proofs.lemmas.{List.Elements.{All-cons, All-head, All-nil, All-tail}}, specs.List.All}
use Rattle.vs_conn.specs.End.{is_of}
use Rattle.vs_limits.specs.declared.TheConstants.{DEVICE_CONNECTIONS}
use Rattle.laws_history.specs.declared.packet.Packet.{Packet}
use Rattle.vs_page.specs.{Log.{packets_got, packets_put}, declared.log.LogEntry.TheVariants.{GotPacket, PutPacket}}
use Rattle.laws_rest.specs.Rest.{AreRouted}
use Rattle.vs_flow.specs.{Connection.Connection, Flow.host_asks, Table.Table}
use Rattle.laws_history.specs.Packets.{is_request}
use Rattle.vs_outside.specs.Host.{HostContents}
use Rattle.vs_page.specs.{Fair.number_of, Log.{Device, Log}}
use Rattle.vs_device_parts.specs.State.{DeviceConnection}
use Rattle.vs_proxy_parts.specs.State.{Handshake}
use Rattle.laws_device.specs.Carried.Streamed.{IsStreamed, Ports, Seen, asks_streams, count_in, heard_at, is_heard, serves}
use Rattle.laws_device.proofs.Carried.Hosts.{stream_is, there}
use Rattle.laws_apps.proofs.Placed.{or_second}
use Rattle.laws_run.specs.Labels.{HasStream}
use Rattle.vs_header.specs.declared.Kind.TheVariants as kind

both_so : (a b rest : Bool) → (a ≡ true → b ≡ true) → rest ≡ true → ((not a || b) && rest) ≡ true
both_so true b rest is all = ap (λ (c : Bool). c && rest) (is refl) ∙ all
both_so false b rest is all = all

all_so : (a b lost d : Bool) → a ≡ true → b ≡ true → lost ≡ false → d ≡ true → (a && (b && (not lost && d))) ≡ true
all_so a b lost d one two three four = grind (arith, common_steps)

module _ (h : HostContents) (log : Log) (port : Ports) (t : Table DeviceConnection) (hands : List Handshake) (on : IsStreamed h log port t hands)
    (c : Connection) (some : 1 ≤ c.number) where
  -- A connection of which there are as many streams on its flow.
  pub has_stream : c.number ≤ count_in h c.flow → HasStream c h
  has_stream most =
      let one = on.streams.every c some most in
      let found = there one.0 h one.1 one.2 in (
        found.stream,
        stream_is h one.0 found.stream c some found.at (ap (λ (s : Seen). s.label) found.is ∙ one.3),
        ap (λ (s : Seen). s.by_client) found.is ∙ (on.streams.labels one.0 one.1 c one.2 one.3).client,
      )

  -- One that the device asked for.
  pub clients_stream : host_asks c.flow ≡ true → c.number ≤ number_of Device c.flow log → HasStream c h
  clients_stream asks within = grind (arith, common_steps, has_stream)

  -- One that the guest asked for, where its REQUEST was served.
  served_stream : host_asks c.flow ≡ false → c.number ≤ number_of Device c.flow log → serves (heard_at h port).serving log c.flow ≡ true → HasStream c h
  served_stream asks within served = grind (arith, common_steps, or_second, has_stream)

  pub guests_stream : host_asks c.flow ≡ false → c.number ≤ number_of Device c.flow log → is_heard (heard_at h port).serving c.flow ≡ true
      → port.serving.lost ≡ false → asks_streams log ≡ true → HasStream c h ⊎ (DEVICE_CONNECTIONS ≤ length h.labelled)
  guests_stream asks within heard kept streams = grind (arith, common_steps, served_stream, all_so)

-- All REQUESTs that came are of type stream, where all that the driver put are.
abbrev AsksStream : Packet → Type 0
AsksStream p = is_request p ≡ true → is_of kind.Stream p.header ≡ true

put_streams : (first : ℕ) (log : Log) → AreRouted first log → All AsksStream (packets_put log)
put_streams first [] are = All-nil AsksStream
put_streams first (PutPacket p ∷ log) are = All-cons AsksStream p (packets_put log) are.1 (put_streams first log are.2)
put_streams first (_ ∷ log) are = put_streams first log are

got_streams : (log : Log) → All AsksStream (packets_got log) → asks_streams log ≡ true
got_streams [] all = refl
got_streams (GotPacket p ∷ log) all =
    both_so (is_request p) (is_of kind.Stream p.header) (asks_streams log) (All-head AsksStream p (packets_got log) all)
    (got_streams log (All-tail AsksStream p (packets_got log) all))
got_streams (_ ∷ log) all = got_streams log all

pub all_streams : (first : ℕ) (driver device : Log) → AreRouted first driver → packets_put driver ≡ packets_got device → asks_streams device ≡ true
all_streams first driver device are got = got_streams device (subst (All AsksStream) got (put_streams first driver are))
