-- A turn counts a packet as dropped only where it is one, and a fault only where a call of the host failed.
use Rattle.std.proofs.lemmas.Grind.{common_steps}
use Rattle.std.proofs.Common.{◌≡◌, ℕ, ◌+◌, Bool, true, false, List, [], ◌∷◌, length, take, IsSomeAnd, Option, Some, None, refl, sym, ap, subst, ◌∙◌, arith}
use Rattle.std.{proofs.lemmas.{List.Elements.{All-head, All-tail}, Option.same_Some}, specs.{List.All, Option.ForSome}}
use Rattle.byteorder.specs.Endian.{little_bytes}
use Rattle.vs_contents.specs.{CallTree.{Ask, Done}, Contents.Exposes}
use Rattle.vs_conn.specs.Headers.{payload_header}
use Rattle.laws_history.specs.{Packets.packet_bytes, declared.packet.Packet.Packet}
use Rattle.vs_header.specs.{Packet.{header_bytes, header_of}, declared.{Header.Header, TheConstants.HEADER_LEN}}
use Rattle.vs_outside.specs.{Faults.{CountsFault, one_more}, Host.{accept_failed, dial_failed, read_failed, write_failed}, declared.host_net.{Accepted.Accepted, Dialed.Dialed}}
use Rattle.vs_outside.specs.declared.host_net.{StreamRead.StreamRead, StreamWrite.StreamWrite}
use Rattle.vs_page.specs.{Held.{packet_held}, Log.{Device, Log, packets_got}, Open.is_dropped, declared.log.LogEntry.TheVariants.{GotPacket}}
use Rattle.vs_ring_port.specs.{Chains.{bytes_in, chain_of}, Contents.{DeviceAnswer, DeviceCall, Given, PublishCid, Read, Return, RingContents, Take, Write}, DeviceCalls.IsTakenAs}
use Rattle.vs_ring_port.specs.{DeviceCalls.IsTakenWhole, EndLog.{EndLog, entries_returned, log_returned, log_taken, log_reset, log_written, with_packet}}
use Rattle.vs_ring_port.specs.declared.{device_ring.{Chain.Chain, Next.Next}, queue.Queue.{Queue, TheVariants.{Event, Rx, Tx}}}
use Rattle.vs_device_parts.specs.{Calls.{Allows, Answer, DeviceTree, Ring, Situation}, Connections.route_to_guest, Playing.Runs, Receiving.written, State.DeviceEntry}
use Rattle.vs_device_parts.specs.State.{DeviceState}
use Rattle.vs_proxy_parts.specs.{State.{Handshake, ProxyState}, declared.answers.Turn.Turn, Turns.turn_of}
use Rattle.laws_device.proofs.{Ringing.bytes_held, Transmitting.header_is, Walk.{Keeping.{Asking, Keeps}, Serving.{AfterEvent, AfterRead, AfterWrite, Closes, Fills, Writes}}}
use Rattle.laws_device.{proofs.Walk.{Taking.{AfterDial, Takes}, Turning.{AfterAccept, AfterByte, Between, Shakes, keeps_turn}}, specs.Walk.Seen.{Seen, seen}}
use Rattle.laws_settled.specs.Begun.{CountsFailed, IsKept}
use Rattle.vs_outside.specs.declared.host_net.StreamRead.TheVariants as read
use Rattle.vs_ring_port.specs.declared.device_ring.Next.TheVariants as next
use Rattle.laws_device.proofs.Walk.Serving as serving
use Rattle.laws_device.proofs.Walk.Taking as taking

-- Of each call what ring and host allow.
abbrev pub allowed : Asking Situation
allowed = record {
  asks = λ call c P. (a : Answer call) (d : Situation) → Allows call a c d → P a d;
  weaker = λ call c P R then asks a d made. then a d (asks a d made);
}

pub runs_end : {A : Type 0} (Q : A → Situation → Type 0) (tree : DeviceTree A) (c d : Situation) (x : A) → Keeps allowed Q tree c → Runs tree c x d → Q x d
runs_end Q (Done y) c d x keeps runs =
    subst (λ (e : Situation). Q x e) runs.1 (subst (λ z. Q z c) runs.0 keeps)
runs_end Q (Ask call go) c d x keeps runs = runs_end Q (go runs.0) runs.1 d x (keeps runs.0 runs.1 runs.2) runs.3

-- FAULTS
one_failed : (first counted new n m : ℕ) → m ≡ one_more n → CountsFailed first counted n → CountsFailed first new m
one_failed first counted new n m is was = grind (arith, common_steps)

rises : (b : Bool) (first counted n m : ℕ) → CountsFault b n m → CountsFailed first counted n → CountsFailed first counted m
rises false first counted n m is was = subst (λ (k : ℕ). CountsFailed first counted k) (sym is) was
rises true first counted n m is was = one_failed first counted counted n m is was

-- DROPPED PACKETS
abbrev pub Drops : ℕ → ℕ → ℕ → RingContents → Type 0
Drops cid own dropped c =
    c.honest ≡ true → ForSome c.log (λ l. (own ≡ cid) × (All (IsKept cid) (packets_got l.entries) → dropped ≡ 0))

-- The packets that were got stay.
record Follows (c d : RingContents) : Type 0 where
  honest : d.honest ≡ c.honest
  got : (m : EndLog) → d.log ≡ Some m → (l : EndLog) × (c.log ≡ Some l) × (packets_got m.entries ≡ packets_got l.entries)

exposed : (o n : Option EndLog) (P : EndLog → Type 0) (g : EndLog → EndLog) → Exposes o n P g → (m : EndLog) → n ≡ Some m
    → (l : EndLog) × (o ≡ Some l) × P l × (m ≡ g l)
exposed None n P g is m there = absurd (let no : ◌≡◌ {A = Option EndLog} None (Some m) = sym is ∙ there in cc)
exposed (Some l) n P g is m there = (l, refl, is.0, same_Some m (g l) (sym there ∙ is.1))

keeps_got : (o n : Option EndLog) (P : EndLog → Type 0) (g : EndLog → EndLog) → Exposes o n P g
    → ((l : EndLog) → packets_got (g l).entries ≡ packets_got l.entries) → (m : EndLog) → n ≡ Some m
    → (l : EndLog) × (o ≡ Some l) × (packets_got m.entries ≡ packets_got l.entries)
keeps_got o n P g is same m there =
    let was = exposed o n P g is m there in (was.0, was.1, ap (λ (x : EndLog). packets_got x.entries) was.3 ∙ same was.0)

returned_same : (queue : Queue) (page : List ℕ) (log : Log) → packets_got (entries_returned queue page log) ≡ packets_got log
returned_same queue page log = grind (arith, common_steps)

-- All calls but the one that takes a page of tx.
abbrev IsOther : DeviceCall → Type 0
IsOther (Take Tx) = ⊥
IsOther call = Unit {0}

taken_same : (queue : Queue) (a : Next) (page : Option (List ℕ)) (l : EndLog) → IsOther (Take queue)
    → packets_got (log_taken queue a page l).entries ≡ packets_got l.entries
taken_same queue a page l other = grind (arith, common_steps)

ring_follows : (call : DeviceCall) (a : DeviceAnswer call) (c d : Situation) → IsOther call → Allows (Ring call) a c d → Follows c.ring d.ring
ring_follows (Take queue) a c d other made = record {
  honest = made.0.1.honest;
  got = keeps_got c.ring.log d.ring.log _ (log_taken queue a made.0.0) made.0.1.log (λ l. taken_same queue a made.0.0 l other);
}
ring_follows (Read chain place n) a c d other made = record {
  honest = made.0.honest;
  got = keeps_got c.ring.log d.ring.log _ (λ l. l) made.0.log (λ l. refl);
}
ring_follows (Write chain place bytes) a c d other made = record {
  honest = made.0.honest;
  got = keeps_got c.ring.log d.ring.log _ (log_written chain place bytes) made.0.log (λ l. refl);
}
ring_follows (Return chain len) a c d other made = record {
  honest = made.0.1.honest;
  got = keeps_got c.ring.log d.ring.log _ (log_returned chain len) made.0.1.log (λ l. returned_same chain.queue _ l.entries);
}
ring_follows (Given queue) a c d other made = record {
  honest = made.0.1.honest;
  got = keeps_got c.ring.log d.ring.log _ (λ l. l) made.0.1.log (λ l. refl);
}
ring_follows (PublishCid cid) a c d other made = record {
  honest = made.0.honest;
  got = keeps_got c.ring.log d.ring.log _ (log_reset cid) made.0.log (λ l. refl);
}

drops_still : (cid own dropped : ℕ) (c d : RingContents) → Follows c d → Drops cid own dropped c → Drops cid own dropped d
drops_still cid own dropped c d follow was honest m there = grind (arith, common_steps)

-- The header of a packet that was just got.
module _ (cid own dropped : ℕ) (chain : Chain) (bytes : List ℕ) where
  abbrev CameAs : EndLog → Type 0
  CameAs l = (own ≡ cid) × (All (IsKept cid) (packets_got l.entries) → (dropped ≡ 0) × (is_dropped Device cid (header_of bytes) ≡ false))

  abbrev Was : EndLog → Type 0
  Was l = (own ≡ cid) × (All (IsKept cid) (packets_got l.entries) → dropped ≡ 0)

  abbrev taken : Option (List ℕ) → EndLog → EndLog
  taken page l = log_taken Tx (next.Chain chain) page l

  holds_it : (page : List ℕ) (l : EndLog) (o : Option Packet) → packet_held page ≡ o → IsSomeAnd o (λ p. page ≡ packet_bytes p)
      → bytes ≡ take HEADER_LEN (bytes_in chain (taken (Some page) l).held) → Was l
      → (own ≡ cid) × (All (IsKept cid) (packets_got (with_packet (λ p. GotPacket p) o l.entries)) → (dropped ≡ 0) × (is_dropped Device cid (header_of bytes) ≡ false))
  holds_it page l None held whole is was = absurd whole
  holds_it page l (Some p) held whole is was = (
    was.0,
    λ all. (
      was.1 (All-tail (IsKept cid) p (packets_got l.entries) all),
      subst (λ (h : Header). is_dropped Device cid h ≡ false)
          (header_is page p held ∙ ap header_of (sym (is ∙ ap (take HEADER_LEN) (bytes_held chain page l.held (taken (Some page) l) refl))))
          (All-head (IsKept cid) p (packets_got l.entries) all),
    ),
  )

  came_by : (page : Option (List ℕ)) (l : EndLog) → IsTakenAs Tx (next.Chain chain) page → IsTakenWhole Tx (next.Chain chain) page
      → bytes ≡ take HEADER_LEN (bytes_in chain (taken page l).held) → Was l → CameAs (taken page l)
  came_by None l placed whole is was = absurd placed
  came_by (Some page) l placed whole is was = holds_it page l (packet_held page) refl whole is was

  came : (page : Option (List ℕ)) (c d e : RingContents)
      → Exposes c.log d.log (λ l. IsTakenAs Tx (next.Chain chain) page × (c.honest ≡ true → IsTakenWhole Tx (next.Chain chain) page)) (taken page)
      → Exposes d.log e.log (λ l. bytes ≡ take HEADER_LEN (bytes_in chain l.held)) (λ l. l) → d.honest ≡ c.honest → e.honest ≡ d.honest
      → Drops cid own dropped c → e.honest ≡ true → ForSome e.log CameAs
  came page c d e takes reads same also was honest m there =
      let on : c.honest ≡ true = sym same ∙ (sym also ∙ honest) in
      let two = exposed d.log e.log _ _ reads m there in
      let one = exposed c.log d.log _ _ takes two.0 two.1 in
      subst CameAs (sym (two.3 ∙ one.3))
      (came_by page one.0 one.2.0 (one.2.1 on) (two.2 ∙ ap (λ (l : EndLog). take HEADER_LEN (bytes_in chain l.held)) one.3) (was on one.0 one.1))

-- BOTH, where the device has this CID and this base path, and so many calls had failed at first.
module _ (cid first : ℕ) (path : List ℕ) where
  pub record Tallies (base : List ℕ) (own dropped counted : ℕ) (c : Situation) : Type 0 where
    pub based : base ≡ path
    pub drops : Drops cid own dropped c.ring
    pub failed : CountsFailed first counted c.faults

  abbrev D : List Handshake → Option Chain → Seen → Situation → Type 0
  D hands page s c = Tallies s.base s.cid s.dropped s.faults c

  abbrev U : List Handshake → Chain → Header → Seen → Situation → Type 0
  U hands chain h s c = D hands (Some chain) s c

  -- A call on the host, and one that failed and that the device counts.
  host_go : (c d : Situation) (base : List ℕ) (own dropped counted : ℕ) (b : Bool) → d.ring ≡ c.ring → CountsFault b c.faults d.faults → Tallies base own dropped counted c
      → Tallies base own dropped counted d
  host_go c d base own dropped counted b same counts at = grind (arith, common_steps)

  host_fault : (c d : Situation) (base : List ℕ) (own dropped counted new : ℕ) → d.ring ≡ c.ring → CountsFault true c.faults d.faults → Tallies base own dropped counted c
      → Tallies base own dropped new d
  host_fault c d base own dropped counted new same counts at = grind (arith, common_steps)

  ring_go : (call : DeviceCall) (a : DeviceAnswer call) (c d : Situation) (base : List ℕ) (own dropped counted : ℕ) → IsOther call → Allows (Ring call) a c d
      → Tallies base own dropped counted c → Tallies base own dropped counted d
  ring_go call a c d base own dropped counted other made at = grind (arith, common_steps, drops_still, ring_follows, rises)

  written_tallies : (base : List ℕ) (own dropped counted : ℕ) (chain : Chain) (h : Header) (payload : List ℕ) (c : Situation) → Tallies base own dropped counted c
      → Keeps allowed (λ x d. Tallies base own dropped counted d) (written chain h payload) c
  written_tallies base own dropped counted chain h [] c at = λ a d made b e more.
      ring_go (Return chain HEADER_LEN) b d e base own dropped counted tt more
      (ring_go (Write chain 0 (header_bytes h)) a c d base own dropped counted tt made at)
  written_tallies base own dropped counted chain h (x ∷ payload) c at = λ a d made b e more r f last.
      ring_go (Return chain (HEADER_LEN + length (x ∷ payload))) r e f base own dropped counted tt last
      (ring_go (Write chain HEADER_LEN (x ∷ payload)) b d e base own dropped counted tt more
      (ring_go (Write chain 0 (header_bytes h)) a c d base own dropped counted tt made at))

  module _ (hands : List Handshake) where
    closes : Closes allowed (D hands)
    closes = grind (arith, common_steps, host_go)

    wrote : (e : DeviceEntry) (s : DeviceState) (a : StreamWrite) (c d : Situation) → d.ring ≡ c.ring → CountsFault (write_failed a) c.faults d.faults
        → D hands None (seen s) c → AfterWrite allowed (D hands) e s a d
    wrote e s a c d = grind (arith, common_steps, host_go, host_fault)

    writes : Writes allowed (D hands)
    writes = grind (arith, common_steps, wrote, host_go)

    held : (s : DeviceState) (n : Next) (d : Situation) → D hands None (seen s) d → serving.AfterTake allowed (D hands) s n d
    held s (next.Chain chain) d at = at
    held s _ d at = at

    event_taken : (s : DeviceState) (n : Next) (d : Situation) → D hands None (seen s) d → AfterEvent allowed (D hands) s n d
    event_taken s (next.Chain chain) d at = λ a e made b f more.
        ring_go (Return chain 4) b e f s.base s.cid s.dropped s.faults tt more
        (ring_go (Write chain 0 (little_bytes 4 0)) a d e s.base s.cid s.dropped s.faults tt made at)
    event_taken s _ d at = at

    have_read : (e : DeviceEntry) (chain : Chain) (s : DeviceState) (a : StreamRead) (payload : List ℕ) (c d : Situation) → d.ring ≡ c.ring
        → CountsFault (read_failed a) c.faults d.faults → D hands None (seen s) c → AfterRead allowed (D hands) e chain s a payload d
    have_read e chain s (read.Got k) payload c d same counts at =
        written_tallies s.base s.cid s.dropped s.faults chain (payload_header e.value.end (route_to_guest s.cid e.flow) (length payload)) payload d
        (host_go c d s.base s.cid s.dropped s.faults false same counts at)
    have_read e chain s read.Again payload c d same counts at = host_go c d s.base s.cid s.dropped s.faults false same counts at
    have_read e chain s read.End payload c d same counts at = host_go c d s.base s.cid s.dropped s.faults false same counts at
    have_read e chain s read.Failed payload c d same counts at = host_fault c d s.base s.cid s.dropped s.faults _ same counts at

    fills : Fills allowed (D hands)
    fills = record {
      event = λ s c at owed a d made. event_taken s a d (ring_go (Take Event) a c d s.base s.cid s.dropped s.faults tt made at);
      holds = λ s c at none a d made. held s a d (ring_go (Take Rx) a c d s.base s.cid s.dropped s.faults tt made at);
      puts = λ h chain s c at is. written_tallies s.base s.cid s.dropped s.faults chain h [] c at;
      reads = λ e chain s c is at held may a d made. have_read e chain s a.0 a.1 c d made.0.ring made.0.faults at;
      wants = λ e s c is at. at;
      pays = λ e what asked s c is owes at. at;
    }

    -- A page of tx.
    module _ (s : DeviceState) (chain : Chain) (bytes : List ℕ) (c d e : Situation) (takes : Allows (Ring (Take Tx)) (next.Chain chain) c d)
        (reads : Allows (Ring (Read chain 0 HEADER_LEN)) bytes d e) (at : D hands None (seen s) c) where
      came_so : e.ring.honest ≡ true → ForSome e.ring.log (CameAs cid s.cid s.dropped chain bytes)
      came_so =
          came cid s.cid s.dropped chain bytes takes.0.0 c.ring d.ring e.ring takes.0.1.log reads.0.log takes.0.1.honest reads.0.honest at.drops

      failed_so : CountsFailed first s.faults e.faults
      failed_so = rises false first s.faults d.faults e.faults reads.2 (rises false first s.faults c.faults d.faults takes.2 at.failed)

      kept_so : Tallies s.base s.cid s.dropped s.faults e
      kept_so = record { based = at.based; drops = λ on l is. let so = came_so on l is in (so.0, λ all. (so.1 all).0); failed = failed_so }

      dropped_so : (new : ℕ) → is_dropped Device s.cid (header_of bytes) ≡ true → Tallies s.base s.cid new s.faults e
      dropped_so new is = grind (arith, common_steps, came_so, failed_so)

    -- No page was there, or the ring failed: no packet was got.
    none_taken : (s : DeviceState) (n : Next) (c d : Situation) → chain_of n ≡ None → Allows (Ring (Take Tx)) n c d → D hands None (seen s) c
        → Tallies s.base s.cid s.dropped s.faults d
    none_taken s n c d none made at = grind (arith, common_steps)

    taken_by : (s : DeviceState) (n : Next) (c d : Situation) → Allows (Ring (Take Tx)) n c d → D hands None (seen s) c
        → taking.AfterTake allowed (D hands) (U hands) s n d
    taken_by s (next.Chain chain) c d made at = λ bytes e reads. record {
      short = λ less. kept_so s chain bytes c d e made reads at;
      drops = λ whole is. dropped_so s chain bytes c d e made reads at _ is;
      comes = λ whole is. kept_so s chain bytes c d e made reads at;
    }
    taken_by s next.None c d made at = none_taken s next.None c d refl made at
    taken_by s (next.Failed f) c d made at = none_taken s (next.Failed f) c d refl made at

    dials : (chain : Chain) (h : Header) (s : DeviceState) (a : Dialed) (c d : Situation) → d.ring ≡ c.ring → CountsFault (dial_failed a) c.faults d.faults
        → D hands (Some chain) (seen s) c → AfterDial allowed (D hands) (U hands) chain h s a d
    dials chain h s a c d same counts at = grind (arith, common_steps)

    takes : Takes allowed (D hands) (U hands)
    takes = record {
      takes = λ s c at a d made. taken_by s a c d made at;
      returns = λ chain s c at a d made. ring_go (Return chain 0) a c d s.base s.cid s.dropped s.faults tt made at;
      ignores = λ chain h s c at. at;
      dials = λ chain h s c none place at a d made. dials chain h s a c d made.ring made.faults at;
      accepts = λ chain h e s c found is at. at;
      delivers = λ chain h e s c found is at a d made. ring_go (Read chain HEADER_LEN h.len) a c d s.base s.cid s.dropped s.faults tt made at;
      hears = λ chain h e s c v found is other at. at;
    }

  accepted_by : (hands : List Handshake) (port : ℕ) (s : DeviceState) (a : Accepted) (c d : Situation) → d.ring ≡ c.ring
      → CountsFault (accept_failed a) c.faults d.faults → D hands None (seen s) c → AfterAccept allowed (Between D) hands port s a d
  accepted_by hands port s a c d same counts at = grind (arith, common_steps)

  byte_read : (h : Handshake) (hands : List Handshake) (port : ℕ) (s : DeviceState) (a : StreamRead) (bytes : List ℕ) (c d : Situation)
      → d.ring ≡ c.ring → CountsFault (read_failed a) c.faults d.faults → D hands None (seen s) c
      → AfterByte allowed (Between D) h hands port s a bytes d
  byte_read h hands port s (read.Got k) bytes c d same counts at =
      let now = host_go c d s.base s.cid s.dropped s.faults false same counts at in record {
        more = λ is. now;
        ends = λ a e made. host_go d e s.base s.cid s.dropped s.faults false made.ring made.faults now;
        refused = λ guest flow fault decided given full. now;
        opens = λ guest flow decided given none a e made. host_go d e s.base s.cid s.dropped s.faults false made.ring made.faults now;
      }
  byte_read h hands port s read.Again bytes c d same counts at = host_go c d s.base s.cid s.dropped s.faults false same counts at
  byte_read h hands port s read.End bytes c d same counts at = host_go c d s.base s.cid s.dropped s.faults false same counts at
  byte_read h hands port s read.Failed bytes c d same counts at = host_fault c d s.base s.cid s.dropped s.faults _ same counts at

  shakes : Shakes allowed (Between D)
  shakes = grind (arith, common_steps, host_go, accepted_by, byte_read)

  pub turn_tallies : (size now : ℕ) (s : ProxyState) (a b : Situation) (x : ProxyState × Turn)
      → Tallies s.device.base s.device.cid s.device.dropped s.device.faults a → Runs (turn_of size now s) a x b
      → Tallies x.0.device.base x.0.device.cid x.0.device.dropped x.0.device.faults b
  turn_tallies size now s a b x at runs =
      runs_end (λ (y : ProxyState × Turn) d. Tallies y.0.device.base y.0.device.cid y.0.device.dropped y.0.device.faults d) (turn_of size now s) a b x
      (keeps_turn allowed D shakes closes U takes writes fills size now s a at) runs
