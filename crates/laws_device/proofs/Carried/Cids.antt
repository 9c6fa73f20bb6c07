-- A packet with payload is not dropped where its connection's stream is given payload.
use Rattle.std.proofs.{lemmas.{Bool.Decides.nat_tests, Grind.common_steps}, Common.{◌≡◌, ◌≢◌, ℕ, ◌==◌, ◌&&◌, Bool, true, false, not, is_some, List, [], ◌∷◌, ◌++◌, refl, sym, ap}}
use Rattle.std.proofs.Common.{◌∙◌, subst, arith}
use Rattle.vs_conn.specs.{End.ConnectionEnd, Follows.Follows, declared.end.State.TheVariants.Ended}
use Rattle.vs_flow.specs.declared.flow.Flow.{Flow}
use Rattle.vs_limits.specs.declared.TheConstants.{HOST_CID}
use Rattle.laws_history.specs.{Again.present, History.{Got, History, Side, gots, puts}, Packets.{has, is_clean_rst, is_request, is_rst, is_rw}}
use Rattle.laws_history.specs.declared.packet.Packet.{Packet}
use Rattle.vs_page.specs.{Open.{cid_of, is_dropped}, declared.log.LogEntry.TheVariants.GotPacket, Log.{Device, Driver, IsNextPacket, Log, flow_got, history_of, side_of, whole_of}}
use Rattle.vs_page.proofs.{Entries.{got_on, on_flow, present_is}, Flows.same_self}
use Rattle.laws_tables.{specs.{Both.{Both, IsSound}, Heard.heard_of, Steps.HasEnd}, proofs.{Both.next_is_fair, Fair.{got_fair, got_one}, Steps.cid_heard, Voices.AllSpeak}}
use Rattle.laws_tables.proofs.Voices.{AreVoiced, IsOneVoice, keep, one_older, speak_present}
use Rattle.laws_device.specs.Carried.Streamed.{gives}

-- Packets of another CID are all dropped.
keep_none : (peer cid c : ℕ) (qs : List Packet) → not (cid == c && peer == HOST_CID) ≡ true → AllSpeak peer cid qs → keep c qs ≡ []
keep_none peer cid c [] other all = refl
keep_none peer cid c (q ∷ qs) other all = let dropped = all.0 c ∙ other in rw dropped (keep_none peer cid c qs other all.1)

-- An end that heard nothing from its peer gives its stream nothing.
gives_left : (e : ConnectionEnd) → gives e ≡ true → e.state ≢ Ended
gives_left e is ended = grind (arith, common_steps, is, ended)

unheard : (side : Side) (put : List Packet) (e : ConnectionEnd) → Follows side put [] e → gives e ≡ true → ⊥
unheard side put e follows given = grind (arith, common_steps, gives_left)

payload_no_rst : (p : Packet) → is_rw p ≡ true → is_rst p ≡ false
payload_no_rst p is = grind (arith, nat_tests, common_steps, is)

payload_no_request : (p : Packet) → is_rw p ≡ true → is_request p ≡ false
payload_no_request p is = grind (arith, nat_tests, common_steps, is)

pub dropped_empty : (first : ℕ) (b : Both) → IsSound first b → AreVoiced first b → (p : Packet) → IsNextPacket b.device.log b.driver.log p
    → is_dropped Device b.device.part.cid p.header ≡ true → (is_rw p ≡ false → p.payload ≡ []) → (e : ConnectionEnd)
    → HasEnd (flow_got Device p) e b.device.part → gives e ≡ true → p.payload ≡ []
dropped_empty first b s v p next dropped none e has_it given = by (is_rw p) refl
  where
    f : Flow
    f = flow_got Device p

    log : Log
    log = b.device.log

    w : History
    w = whole_of Device f log

    puts_are : puts (whole_of Driver f b.driver.log) ≡ on_flow (flow_got Device) f next.0 ++ p ∷ gots w
    puts_are =
        let own : whole_of Device f (GotPacket p ∷ log) ≡ Got p ∷ w = rw (same_self f) refl in
        got_on Device f (GotPacket p ∷ log) b.driver.log next.0 next.1 ∙ ap (λ h. on_flow (flow_got Device) f next.0 ++ gots h) own

    by : (c : Bool) → is_rw p ≡ c → p.payload ≡ []
    by false is = none is
    by true is =
        let one = one_older f.peer (on_flow (flow_got Device) f next.0) (p ∷ gots w) (subst (IsOneVoice f.peer) puts_are (v.driver.voices f)) in
        let voice = one.0 (payload_no_rst p is) in
        let fair = next_is_fair Device first p b s next f in
        let own = got_one Device first p e b.device.part log (s.matches Device).flows has_it fair in
        let other = sym (voice.1 (cid_of first log)) ∙ cid_heard Device first b.device.part log p true (s.matches Device).flows dropped in
        let here = present_is Device f log in
        let quiet : has is_clean_rst (gots (present w)) ≡ false = ap (λ (h : History). has is_clean_rst (gots h)) here
        ∙ (got_fair Device first p e b.device.part log (s.matches Device).flows has_it fair).0.quiet in
        let speak = subst (λ (h : History). AllSpeak f.peer voice.0 (gots h)) here
        (speak_present f.peer voice.0 w (voice.2 (payload_no_request p is)) quiet) in
        let silent = v.device f (ap is_some own.kind_is) ∙ keep_none f.peer voice.0 (cid_of first log) (gots (history_of Device f log)) other speak in
        let follows = subst (λ (qs : List Packet). Follows (side_of Device f) (puts (heard_of Device first f log)) qs e) silent own.follows in
        absurd (unheard (side_of Device f) (puts (heard_of Device first f log)) e follows given)
