-- A packet, or an event, is written into a chain and returned with it.
use Rattle.std.proofs.Common.{◌≡◌, ℕ, ◌+◌, ◌≤◌, Bool, true, List, [], ◌∷◌, ◌++◌, length, take, Option, Some, None, refl, sym, ap, subst, ◌∙◌, arith, IsSomeAnd}
use Rattle.std.proofs.lemmas.List.{append-nil, length-take}
use Rattle.vs_contents.specs.CallTree.{Ask, bind}
use Rattle.vs_header.specs.{Packet.header_bytes, declared.{Header.Header, TheConstants.HEADER_LEN}}
use Rattle.laws_history.specs.{Packets.packet_bytes, declared.packet.Packet.Packet}
use Rattle.vs_page.specs.{Log.{Device, Log}, Fair.IsFairLog, Held.packet_held, Overwriting.overwritten, declared.log.LogEntry.TheVariants.PutPacket}
use Rattle.vs_ring_port.specs.{EndLog.{EndLog, entries_returned, log_returned, log_written, with_packet}, Chains.{Held, bytes_in, without_held}, Contents.{Return, Write}}
use Rattle.vs_ring_port.specs.{DeviceCalls.IsWholePacket, DriverCalls.HoldsPacket, declared.{device_ring.Chain.Chain, queue.Queue.{Queue, TheVariants.{Rx, Tx}}}}
use Rattle.laws_tables.specs.Matches.{Matches}
use Rattle.vs_device_parts.specs.{Calls.{DeviceTree, Ring, Situation}, Receiving.written, State.DeviceState}
use Rattle.laws_device.{specs.Honest.{IsFitState, ends_of_state}, proofs.{Ringing.{Tells, moves, overwritten_long, Telling}, Chains.{Among, Holds, both_written, first_written}}}
use Rattle.laws_device.proofs.{Chains.{held_there, holds_written, is_unwritten}, Keeping.Keeps, Putting.Puts, Seats.{AgreesBy, Carried, seat}, Carrying.{Fact, IsToldBy}, Sure.{Given, Guard, good_fair, good_of, guard_packet, guard_same, guard_sure, sure_is}}
use Rattle.vs_outside.specs.Host.{HostContents}

-- It begins with this header.
abbrev IsHeaded : Header → List ℕ → Type 0
IsHeaded h bytes = take HEADER_LEN bytes ≡ header_bytes h

long : (h : Header) (bytes : List ℕ) → IsHeaded h bytes → HEADER_LEN ≤ length bytes
long h bytes is =
    let few = length-take HEADER_LEN bytes in
    let all : length (take HEADER_LEN bytes) ≡ HEADER_LEN = ap length is in omega (arith, few, all)

module _ (carry : Carried) (first port : ℕ) (s : DeviceState) (F : Fact) where
  -- Into a chain that is held something was written.
  abbrev pub Writes : Chain → (List ℕ → Type 0) → (List Held → Type 0) → Telling
  Writes chain B P honest host l =
      Holds chain B P l.held × (Guard carry.fairly honest s.failed l.entries → AgreesBy carry first port s l × F host l.entries)

  pub write_keeps : {A : Type 0} (Q : A → Situation → Type 0) (next : DeviceTree A) (chain : Chain) (B C : List ℕ → Type 0) (P : List Held → Type 0)
      (new : List ℕ) (place : ℕ) (c : Situation) → (chain.queue ≡ Tx → ⊥) → ((bytes : List ℕ) → B bytes → place ≤ length bytes)
      → ((bytes : List ℕ) → B bytes → C (overwritten bytes place new)) → Tells carry.fairly (Writes chain B P) c
      → ((d : Situation) → Tells carry.fairly (Writes chain C P) d → Keeps Q next d) → Keeps Q (Ask (Ring (Write chain place new)) (λ _. next)) c
  write_keeps Q next chain B C P new place c other within step tells then = (
    (λ l is. within (bytes_in chain l.held) (tells.told l is).0.1, other),
    λ a d made. then d (moves carry.fairly _ _ _ _ _ (log_written chain place new) c d made.0 made.1 (Writes chain B P) (Writes chain C P)
        (λ h o l asked was fair. (holds_written chain B C P place new l.held step was.0, was.1)) tells),
  )

  -- A packet is returned, with the step on the device that puts it.
  module _ (t : DeviceState) (h : Header) (payload : List ℕ) (puts : IsFitState s → Puts carry port s h payload t) (chain : Chain)
      (rx : chain.queue ≡ Rx)
      (G : Fact) (carries : (o : Option HostContents) (l : EndLog) → AgreesBy carry first port s l → F o l.entries
      → G o (PutPacket (record { header = h; payload = payload }) ∷ l.entries))
      (len : ℕ) (B : List ℕ → Type 0) (page_is : (bytes : List ℕ) → B bytes → take len bytes ≡ header_bytes h ++ payload)
      (enough : (bytes : List ℕ) → B bytes → len ≤ length bytes) where
    entries_are : (l : EndLog) → AgreesBy carry first port s l → (bytes : List ℕ) → B bytes
        → entries_returned Rx (take len bytes) l.entries ≡ PutPacket (record { header = h; payload = payload }) ∷ l.entries
    entries_are l p bytes b =
        ap (λ (b : List ℕ). with_packet (λ q. PutPacket q) (packet_held b) l.entries) (page_is bytes b)
        ∙ ap (λ (o : Option Packet). with_packet (λ q. PutPacket q) o l.entries) (puts p.fits).held

    whole : (l : EndLog) → carry.fairly ≡ true → AgreesBy carry first port s l → (bytes : List ℕ) → B bytes → IsWholePacket Rx (take len bytes) l
    whole l sure p bytes b =
        let step = puts p.fits in (
          subst HoldsPacket (sym (page_is bytes b)) (subst (λ (o : Option Packet). IsSomeAnd o (λ q. header_bytes h ++ payload ≡ packet_bytes q))
              (sym step.held) refl),
          subst (λ (log : Log). IsFairLog Device log) (sym (entries_are l p bytes b))
              (step.fair first l.entries p.matches (good_fair carry.fairly l.entries sure p.fair)),
        )

    returned : (none : t.chain ≡ None) → t.failed ≡ s.failed → (hon : Bool) (o : Option HostContents) (l : EndLog) → Writes chain B carry.others hon o l
        → (hon ≡ true → IsFairLog Device (log_returned chain len l).entries) → IsToldBy carry G first port t hon o (log_returned chain len l)
    returned none failed hon o l was new_fair = (
      λ going. subst (λ (x : Option Chain). Among carry.others x (without_held chain l.held)) (sym none) was.0.2,
      λ honest.
          let bytes : List ℕ = take len (bytes_in chain l.held) in
          let before = guard_packet carry.fairly hon s.failed (λ q. PutPacket q) (packet_held bytes) l.entries
          (subst (λ (q : Queue). Guard carry.fairly hon s.failed (entries_returned q bytes l.entries)) rx
          (guard_same carry.fairly hon t.failed s.failed (log_returned chain len l).entries failed honest)) in
          let both = was.1 before in
          let p = both.0 in
          let step = puts p.fits in
          let now : (log_returned chain len l).entries ≡ PutPacket (record { header = h; payload = payload }) ∷ l.entries =
          ap (λ (q : Queue). entries_returned q (take len (bytes_in chain l.held)) l.entries) rx ∙ entries_are l p (bytes_in chain l.held) was.0.1 in (
            record {
              fits = step.fits;
              none_overrun = subst (λ (k : ℕ). Given carry.fairly (k ≡ 0)) (sym step.overrun_is) p.none_overrun;
              matches = subst (λ (log : Log). Matches Device first (ends_of_state port t) log) (sym now)
                  (step.matches first l.entries p.matches);
              fair = good_of carry.fairly hon t.failed (log_returned chain len l).entries honest new_fair;
              seated = subst (λ (log : Log). carry.holds (seat port t log)) (sym now) (step.goes l.entries p.seated);
            },
            subst (λ (log : Log). G o log) (sym now) (carries o l p both.1),
          ),
    )

    pub return_keeps : {A : Type 0} (Q : A → Situation → Type 0) (next : DeviceTree A) (c : Situation) → len ≤ chain.writable → t.chain ≡ None
        → t.failed ≡ s.failed
        → Tells carry.fairly (Writes chain B carry.others) c → ((d : Situation) → Tells carry.fairly (IsToldBy carry G first port t) d → Keeps Q next d)
        → Keeps Q (Ask (Ring (Return chain len)) (λ _. next)) c
    return_keeps Q next c room none failed tells then = (
      (
        λ some. record {
          room = room;
          written = λ l is. enough (bytes_in chain l.held) (tells.told l is).0.1;
          whole = λ honest l is.
              let was = tells.told l is in
              let sure = sure_is carry.fairly c.ring.honest tells.sure honest in
              let guard = guard_sure carry.fairly c.ring.honest s.failed l.entries sure honest in
              subst (λ (q : Queue). IsWholePacket q (take len (bytes_in chain l.held)) l) (sym rx) (whole l sure (was.1 guard).0 (bytes_in chain l.held) was.0.1);
        },
        λ l is. held_there chain l.held (tells.told l is).0.0,
      ),
      λ a d made. then d (moves carry.fairly _ _ _ _ _ (log_returned chain len) c d made.0.1 made.1 (Writes chain B carry.others) (IsToldBy carry G first port t)
          (λ hon o l asked was fair. returned none failed hon o l was fair) tells),
    )

  -- The whole packet.
  pub written_keeps : {A : Type 0} (Q : A → Situation → Type 0) (next : DeviceTree A) (t : DeviceState) (h : Header) (payload : List ℕ)
      → (IsFitState s → Puts carry port s h payload t) → (G : Fact)
      → ((o : Option HostContents) (l : EndLog) → AgreesBy carry first port s l → F o l.entries
      → G o (PutPacket (record { header = h; payload = payload }) ∷ l.entries)) → (chain : Chain) → chain.queue ≡ Rx → HEADER_LEN + length payload ≤ chain.writable
      → t.chain ≡ None → t.failed ≡ s.failed
      → (c : Situation) → Tells carry.fairly (Writes chain is_unwritten carry.others) c → ((d : Situation) → Tells carry.fairly (IsToldBy carry G first port t) d → Keeps Q next d)
      → Keeps Q (bind (written chain h payload) (λ _. next)) c
  written_keeps Q next t h payload puts G carries chain rx room none failed c tells then = by payload puts carries room
    where
      other : chain.queue ≡ Tx → ⊥
      other tx = let both : Rx ≡ Tx = sym rx ∙ tx in cc

      by : (payload : List ℕ) → (IsFitState s → Puts carry port s h payload t)
          → ((o : Option HostContents) (l : EndLog) → AgreesBy carry first port s l → F o l.entries
          → G o (PutPacket (record { header = h; payload = payload }) ∷ l.entries))
          → HEADER_LEN + length payload ≤ chain.writable → Keeps Q (bind (written chain h payload) (λ _. next)) c
      by [] puts carries room =
          write_keeps Q (Ask (Ring (Return chain HEADER_LEN)) (λ _. next)) chain is_unwritten (IsHeaded h) carry.others (header_bytes h) 0 c other
          (λ bytes b. omega arith) (λ bytes b. first_written bytes (header_bytes h) HEADER_LEN refl) tells (λ d now.
          return_keeps t h [] puts chain rx G carries HEADER_LEN (IsHeaded h) (λ bytes b. b ∙ sym (append-nil (header_bytes h))) (long h) Q next d
          (omega (arith, room)) none failed now then)
      by (x ∷ xs) puts carries room =
          let page : List ℕ = header_bytes h ++ x ∷ xs in
          let all : ℕ = HEADER_LEN + length (x ∷ xs) in
          let IsWritten : List ℕ → Type 0 = λ bytes. (take all bytes ≡ page) × (all ≤ length bytes) in
          write_keeps Q (Ask (Ring (Write chain HEADER_LEN (x ∷ xs))) (λ _. Ask (Ring (Return chain all)) (λ _. next))) chain is_unwritten (IsHeaded h) carry.others
          (header_bytes h) 0 c other (λ bytes b. omega arith) (λ bytes b. first_written bytes (header_bytes h) HEADER_LEN refl) tells (λ d now.
          write_keeps Q (Ask (Ring (Return chain all)) (λ _. next)) chain (IsHeaded h) IsWritten carry.others (x ∷ xs) HEADER_LEN d other (long h)
          (λ bytes b. (
            both_written bytes (header_bytes h) (x ∷ xs) HEADER_LEN b refl,
            overwritten_long bytes (x ∷ xs) HEADER_LEN (ap length b),
          )) now (λ e after.
          return_keeps t h (x ∷ xs) puts chain rx G carries all IsWritten (λ bytes b. b.0) (λ bytes b. b.1) Q next e room none failed after then))

-- What the device holds before a packet is put.
pub writes_first : (carry : Carried) (first port : ℕ) (s : DeviceState) (F : Fact) (chain : Chain) (c : Situation) → s.chain ≡ Some chain → s.failed ≡ None
    → Tells carry.fairly (IsToldBy carry F first port s) c → Tells carry.fairly (Writes carry first port s F chain is_unwritten carry.others) c
writes_first carry first port s F chain c is going tells = record {
  sure = tells.sure;
  told = λ l told. let was = tells.told l told in (subst (λ (x : Option Chain). Among carry.others x l.held) is (was.0 going), was.1);
}
