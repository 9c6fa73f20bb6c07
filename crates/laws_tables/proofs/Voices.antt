-- The CIDs of the packets of a flow: the driver puts all but RSTs from one CID, so that the device drops all of them or none.
use Rattle.std.proofs.Common.{rules, ◌≡◌, ℕ, ◌==◌, Bool, true, false, ◌&&◌, not, if◌then◌else◌, is_some, List, [], ◌∷◌, ◌++◌, Option, Some, refl, sym, ap, ◌∙◌, subst, arith}
use Rattle.std.proofs.lemmas.{Grind.common_steps, Bool.Decides.nat_tests}
use Rattle.laws_tables.specs.Both.{Asks, Both, Decides, Happening, IsSound, MakesReset, MayHappen, MayRun, Opens, Pays, PutsEvent, Replies, Seat, Sends, Step, Takes, TakesEvent}
use Rattle.laws_tables.specs.{Both.{TakesReset, after_packet, answered, decided, happens, run, start}, Heard.{IsInOrder, heard_of, is_fresh}, Steps.HasEnd}
use Rattle.laws_tables.specs.{Steps.{left, owed_on, paid, payload_on, reply_on, request_on, with_clean, with_end}, Ends.{Ends, ends_of}, Matches.MatchesFlows}
use Rattle.laws_tables.proofs.{Entries.{added_other, replaced_other, without_other}, Both.{next_is_fair, run_keeps, start_sound, step_keeps}, Fair.{fair_now, fair_order, got_fair}}
use Rattle.laws_tables.proofs.{Fair.{got_goes_on, got_one, heard_less, heard_puts, own_got_fair}, Frame.{own_or_other, same_of}, Keeps.{asker_peer, kind_by}, Steps.cid_heard}
use Rattle.laws_tables.proofs.Tables.{only_end}
use Rattle.vs_conn.{specs.{End.{ConnectionEnd, is_of, is_refused, paid_of, verdict_of}, Follows.Follows, declared.end.Owed.Owed}, proofs.Getting.get_taken}
use Rattle.vs_flow.specs.{Flow.same_flow, declared.flow.Flow.Flow}
use Rattle.vs_limits.specs.declared.TheConstants.{HOST_CID}
use Rattle.vs_header.specs.{Kind.kind_number, declared.Header.Header}
use Rattle.laws_history.specs.{Packets.{asked_kind, has, is_clean_rst, is_request, is_rst}, History.{Got, History, Put, gots, peer, puts}, Again.present}
use Rattle.laws_history.specs.declared.packet.Packet.{Packet}
use Rattle.vs_page.specs.Open.{cid_of, is_dropped, is_left_open, left_kind}
use Rattle.vs_page.specs.{declared.log.LogEntry.TheVariants.{GotPacket, PutPacket}, Log.{Driver, Device, IsNextPacket, Log, Role, flow_got, flow_put, history_of}}
use Rattle.vs_page.{specs.{Log.{side_of, whole_of}, Fair.IsFairOn}, proofs.{Entries.{got_on, on_flow, present_is}, Flows.same_self}}
use Rattle.vs_conn.specs.declared.end.Owed.TheVariants as owed

-- The device drops a packet on a flow with this peer exactly where the guest's CID isn't this, or the peer isn't the host.
abbrev pub Speaks : ℕ → ℕ → Packet → Type 0
Speaks peer cid q = (c : ℕ) → is_dropped Device c q.header ≡ not (cid == c && peer == HOST_CID)

abbrev pub AllSpeak : ℕ → ℕ → List Packet → Type 0
AllSpeak peer cid [] = Unit {0}
AllSpeak peer cid (q ∷ qs) = Speaks peer cid q × AllSpeak peer cid qs

-- The packets of one connection, of those that an end put: from the newest on, up to its REQUEST, or to the marked RST of the one before.
abbrev pub SpeakSince : ℕ → ℕ → List Packet → Type 0
SpeakSince peer cid [] = Unit {0}
SpeakSince peer cid (q ∷ qs) = is_clean_rst q ≡ false → Speaks peer cid q × (is_request q ≡ false → SpeakSince peer cid qs)

-- Each packet but an RST has the CID of all before it on its connection.
abbrev pub IsOneVoice : ℕ → List Packet → Type 0
IsOneVoice peer [] = Unit {0}
IsOneVoice peer (p ∷ ps) =
    (is_rst p ≡ false → (cid : ℕ) × Speaks peer cid p × (is_request p ≡ false → SpeakSince peer cid ps)) × IsOneVoice peer ps

pub one_older : (peer : ℕ) (rest ps : List Packet) → IsOneVoice peer (rest ++ ps) → IsOneVoice peer ps
one_older peer [] ps one = one
one_older peer (q ∷ rest) ps one = one_older peer rest ps one.1

pub no_mark : (p : Packet) (ps : List Packet) → has is_clean_rst (p ∷ ps) ≡ false → (is_clean_rst p ≡ false) × (has is_clean_rst ps ≡ false)
no_mark = grind (arith, common_steps)

-- So do all packets of the present connection.
speak_got : (peer cid : ℕ) (w : History) (p : Packet) (asks : Bool) → is_request p ≡ asks
    → SpeakSince peer cid (p ∷ gots w) → has is_clean_rst (gots (if asks then Got p ∷ [] else Got p ∷ present w)) ≡ false
    → (SpeakSince peer cid (gots w) → has is_clean_rst (gots (present w)) ≡ false → AllSpeak peer cid (gots (present w)))
    → AllSpeak peer cid (gots (if asks then Got p ∷ [] else Got p ∷ present w))
speak_got = grind (arith, common_steps)

speak_put : (peer cid : ℕ) (w : History) (p : Packet) (asks : Bool)
    → (has is_clean_rst (gots (present w)) ≡ false → AllSpeak peer cid (gots (present w)))
    → has is_clean_rst (gots (if asks then Put p ∷ [] else Put p ∷ present w)) ≡ false
    → AllSpeak peer cid (gots (if asks then Put p ∷ [] else Put p ∷ present w))
speak_put = grind (arith, common_steps)

pub speak_present : (peer cid : ℕ) (w : History) → SpeakSince peer cid (gots w) → has is_clean_rst (gots (present w)) ≡ false
    → AllSpeak peer cid (gots (present w))
speak_present peer cid [] speak none = tt
speak_present peer cid (Put p ∷ w) speak none = speak_put peer cid w p (is_request p) (speak_present peer cid w speak) none
speak_present peer cid (Got p ∷ w) speak none = speak_got peer cid w p (is_request p) refl speak none (speak_present peer cid w)

-- The packets that the device doesn't drop under a CID.
abbrev pub keep : ℕ → List Packet → List Packet
keep c [] = []
keep c (q ∷ qs) = if is_dropped Device c q.header then keep c qs else q ∷ keep c qs

pub keep_all : (peer cid c : ℕ) (qs : List Packet) → not (cid == c && peer == HOST_CID) ≡ false → AllSpeak peer cid qs → keep c qs ≡ qs
keep_all peer cid c [] same all = refl
keep_all peer cid c (q ∷ qs) same all =
    let rest = keep_all peer cid c qs same all.1 in
    let heard = all.0 c ∙ same in
    rw heard (ap (λ ps. q ∷ ps) rest)

speaks_by : (peer cid : ℕ) (q : Packet) → q.header.src_cid ≡ cid → q.header.dst_cid ≡ peer → Speaks peer cid q
speaks_by peer cid q from to c = grind (arith, common_steps)

-- The driver: on a flow that has a connection all packets put on it have its CID.
pub record IsVoiced (w : Seat) : Type 0 where
  pub voices : (f : Flow) → IsOneVoice f.peer (puts (whole_of Driver f w.log))
  pub spoken : (f : Flow) (e : ConnectionEnd) → HasEnd f e w.part → SpeakSince f.peer w.part.cid (puts (whole_of Driver f w.log))

whole_put : (role : Role) (f : Flow) (p : Packet) (log : Log) → flow_put role p ≡ f
    → whole_of role f (PutPacket p ∷ log) ≡ Put p ∷ whole_of role f log
whole_put role f p log is = rw (same_of f (flow_put role p) is) refl

whole_put_other : (role : Role) (f g : Flow) (p : Packet) (log : Log) → flow_put role p ≡ f → same_flow g f ≡ false
    → whole_of role g (PutPacket p ∷ log) ≡ whole_of role g log
whole_put_other role f g p log is other = grind (arith, common_steps)

puts_got : (role : Role) (g : Flow) (p : Packet) (log : Log) → puts (whole_of role g (GotPacket p ∷ log)) ≡ puts (whole_of role g log)
puts_got = grind (arith, common_steps)

voiced_put : (f : Flow) (p : Packet) (part new : Ends) (log : Log) → flow_put Driver p ≡ f → Speaks f.peer part.cid p → new.cid ≡ part.cid
    → (is_rst p ≡ false → is_request p ≡ false → SpeakSince f.peer part.cid (puts (whole_of Driver f log)))
    → ((x : ConnectionEnd) → HasEnd f x new → is_request p ≡ false → SpeakSince f.peer part.cid (puts (whole_of Driver f log)))
    → ((g : Flow) → same_flow g f ≡ false → ends_of g new.entries ≡ ends_of g part.entries)
    → IsVoiced (record { part = part; log = log }) → IsVoiced (record { part = new; log = PutPacket p ∷ log })
voiced_put f p part new log is speaks cid before had others v =
    let own = sym (whole_put Driver f p log is) in
    let other : (g : Flow) → same_flow g f ≡ false → whole_of Driver g log ≡ whole_of Driver g (PutPacket p ∷ log) =
    λ g apart. sym (whole_put_other Driver f g p log is apart) in
    record {
      voices = λ g. own_or_other (λ x. IsOneVoice x.peer (puts (whole_of Driver x (PutPacket p ∷ log)))) f g
          (subst (λ h. IsOneVoice f.peer (puts h)) own ((λ plain. (part.cid, speaks, before plain)), v.voices f))
          (λ apart. subst (λ h. IsOneVoice g.peer (puts h)) (other g apart) (v.voices g));
      spoken = λ g e has. subst (λ c. SpeakSince g.peer c (puts (whole_of Driver g (PutPacket p ∷ log)))) (sym cid)
          (own_or_other (λ x. HasEnd x e new → SpeakSince x.peer part.cid (puts (whole_of Driver x (PutPacket p ∷ log)))) f g
          (λ now. subst (λ h. SpeakSince f.peer part.cid (puts h)) own (λ plain. (speaks, had e now)))
          (λ apart now. subst (λ h. SpeakSince g.peer part.cid (puts h)) (other g apart) (v.spoken g e (sym (others g apart) ∙ now))) has);
    }

spoken_got : (f g : Flow) (part new : Ends) (log : Log) (e : ConnectionEnd)
    → ((x : ConnectionEnd) → HasEnd f x new → SpeakSince f.peer part.cid (puts (whole_of Driver f log)))
    → (same_flow g f ≡ false → ends_of g new.entries ≡ ends_of g part.entries)
    → ((x : Flow) (y : ConnectionEnd) → HasEnd x y part → SpeakSince x.peer part.cid (puts (whole_of Driver x log)))
    → HasEnd g e new → SpeakSince g.peer part.cid (puts (whole_of Driver g log))
spoken_got f g part new log e had others spoken =
    own_or_other (λ x. HasEnd x e new → SpeakSince x.peer part.cid (puts (whole_of Driver x log))) f g (had e)
    (λ apart has. spoken g e (sym (others apart) ∙ has))

voiced_got : (f : Flow) (p : Packet) (part new : Ends) (log : Log) → new.cid ≡ part.cid
    → ((x : ConnectionEnd) → HasEnd f x new → SpeakSince f.peer part.cid (puts (whole_of Driver f log)))
    → ((g : Flow) → same_flow g f ≡ false → ends_of g new.entries ≡ ends_of g part.entries)
    → IsVoiced (record { part = part; log = log }) → IsVoiced (record { part = new; log = GotPacket p ∷ log })
voiced_got f p part new log cid had others v = record {
  voices = λ g. subst (IsOneVoice g.peer) (sym (puts_got Driver g p log)) (v.voices g);
  spoken = λ g e has. subst (λ x. SpeakSince g.peer x (puts (whole_of Driver g (GotPacket p ∷ log)))) (sym cid)
      (subst (SpeakSince g.peer part.cid) (sym (puts_got Driver g p log)) (spoken_got f g part new log e had (others g) v.spoken has));
}

-- Where a REQUEST may come, nothing of the present connection was put, or it is over by a marked RST.
fresh_speak : (peer cid : ℕ) (w : History) → is_fresh (present w) ≡ true → SpeakSince peer cid (puts w)
fresh_speak peer cid [] fresh = tt
fresh_speak peer cid (Put p ∷ w) fresh = grind (arith, common_steps, fresh)
fresh_speak peer cid (Got p ∷ w) fresh = grind (arith, common_steps, fresh)

-- What steps do to the CID and to other flows.
paid_other : (f g : Flow) (e : ConnectionEnd) (what : Owed) (part : Ends) → same_flow g f ≡ false
    → ends_of g (paid f e what part).entries ≡ ends_of g part.entries
paid_other f g e owed.Rst part other = without_other f g part.entries other
paid_other f g e what part other = replaced_other f g (paid_of e what) part.entries other

paid_cid : (f : Flow) (e : ConnectionEnd) (what : Owed) (part : Ends) → (paid f e what part).cid ≡ part.cid
paid_cid = grind (arith, common_steps)

taken_other : (f g : Flow) (now : ConnectionEnd) (part : Ends) (keeps b : Bool) → same_flow g f ≡ false
    → ends_of g (if b then with_clean keeps f (left f part) else with_end f now part).entries ≡ ends_of g part.entries
taken_other = grind (arith, without_other, replaced_other, common_steps)

answered_other : (f g : Flow) (p : Packet) (answer : Bool) (part : Ends) (asks : Bool) → same_flow g f ≡ false
    → ends_of g (answered asks answer p f part).entries ≡ ends_of g part.entries
answered_other = grind (arith, added_other, common_steps)

unknown_other : (f g : Flow) (p : Packet) (answer : Bool) (part : Ends) (rst : Bool) → same_flow g f ≡ false
    → ends_of g (if rst then part else answered (is_request p) answer p f part).entries ≡ ends_of g part.entries
unknown_other = grind (arith, answered_other, common_steps)

packet_other : (ends : List ConnectionEnd) (f g : Flow) (p : Packet) (answer : Bool) (part : Ends) → same_flow g f ≡ false
    → ends_of g (after_packet Driver ends p f answer part).entries ≡ ends_of g part.entries
packet_other ends f g p answer part other = grind (arith, common_steps, unknown_other, taken_other)

packet_cid : (ends : List ConnectionEnd) (f : Flow) (p : Packet) (answer : Bool) (part : Ends)
    → (after_packet Driver ends p f answer part).cid ≡ part.cid
packet_cid = grind (arith, common_steps)

-- A packet that gives a flow its connection is a REQUEST.
unknown_asks : (f : Flow) (p : Packet) (answer : Bool) (part : Ends) (e : ConnectionEnd) (rst : Bool) → ends_of f part.entries ≡ []
    → HasEnd f e (if rst then part else answered (is_request p) answer p f part) → is_request p ≡ true
unknown_asks = grind (arith, common_steps)

packet_had : (first : ℕ) (ends : List ConnectionEnd) (p : Packet) (answer : Bool) (part : Ends) (log : Log) (e : ConnectionEnd)
    → let f = flow_got Driver p in
    ends_of f part.entries ≡ ends → MatchesFlows Driver first part log → IsInOrder (side_of Driver f) (history_of Driver f log) p
    → IsVoiced (record { part = part; log = log }) → HasEnd f e (after_packet Driver ends p f answer part)
    → SpeakSince f.peer part.cid (puts (whole_of Driver f log))
packet_had first [] p answer part log e are m order v has =
    let f = flow_got Driver p in
    let fresh = (order.request (unknown_asks f p answer part e (is_rst p) are has)).1 in
    fresh_speak f.peer part.cid (whole_of Driver f log)
    (ap is_fresh (present_is Driver f log) ∙ fresh)
packet_had first (x ∷ more) p answer part log e are m order v has =
    let f = flow_got Driver p in
    let none = only_end Driver first part log f x more m are in
    v.spoken f x (are ∙ ap (λ es. x ∷ es) none)

-- The device: on a flow that is left open it heard the packets of the guest's CID.
abbrev pub KeepsOn : ℕ → Flow → Log → Type 0
KeepsOn first f log = gots (heard_of Device first f log) ≡ keep (cid_of first log) (gots (history_of Device f log))

abbrev pub IsKeeping : ℕ → Log → Type 0
IsKeeping first log = (f : Flow) → is_left_open Device first f log ≡ true → KeepsOn first f log

-- Both.
pub record AreVoiced (first : ℕ) (b : Both) : Type 0 where
  pub driver : IsVoiced b.driver
  pub device : IsKeeping first b.device.log

driver_step : (first : ℕ) (step : Step) (b : Both) → IsSound first b → MayHappen Driver step b → IsVoiced b.driver
    → IsVoiced (happens Driver step b).driver
driver_step first (Opens f kind) b s may v =
    let part = b.driver.part in
    voiced_put f (request_on Driver part.cid f kind) part _ b.driver.log refl
    (speaks_by f.peer part.cid (request_on Driver part.cid f kind) refl refl) refl
    (λ plain other. absurd cc) (λ x has other. absurd cc) (λ g other. added_other f g _ part.entries other) v
driver_step first (Asks f kind) b s may v = let no = may.0 in absurd cc
driver_step first (Sends f e payload) b s may v =
    let part = b.driver.part in
    let p = payload_on Driver part.cid f e payload in
    voiced_put f p part _ b.driver.log refl (speaks_by f.peer part.cid p refl refl) refl
    (λ plain other. v.spoken f e may.0) (λ x has other. v.spoken f e may.0) (λ g other. replaced_other f g _ part.entries other) v
driver_step first (Pays f e what) b s may v =
    let part = b.driver.part in
    let p = owed_on Driver part.cid f e what in
    voiced_put f p part _ b.driver.log refl (speaks_by f.peer part.cid p refl refl) (paid_cid f e what part)
    (λ plain other. v.spoken f e may.0) (λ x has other. v.spoken f e may.0) (λ g other. paid_other f g e what part other) v
driver_step first (Replies r rest) b s may v =
    let part = b.driver.part in
    let p = reply_on Driver part.cid r in
    voiced_put r.flow p part _ b.driver.log refl (speaks_by (let f = r.flow in f.peer) part.cid p refl refl) refl
    (λ plain other. absurd cc) (λ x has other. v.spoken r.flow x has) (λ g other. refl) v
driver_step first (Decides f e what) b s may v = record {
  voices = v.voices;
  spoken = λ g x has. spoken_got f g b.driver.part (with_end f (decided e what) b.driver.part) b.driver.log x
      (λ y now. v.spoken f e may.0) (λ other. replaced_other f g (decided e what) b.driver.part.entries other) v.spoken has;
}
driver_step first (Takes p answer) b s may v = by (is_dropped Driver (let w = b.driver.part in w.cid) p.header)
  where
    by : (dropped : Bool) → IsVoiced (record {
      part =
          if dropped then b.driver.part else after_packet Driver (ends_of (flow_got Driver p) b.driver.part.entries) p (flow_got Driver p)
          answer b.driver.part;
      log = GotPacket p ∷ b.driver.log;
    })
    by true =
        voiced_got (flow_got Driver p) p b.driver.part b.driver.part b.driver.log refl (λ x has. v.spoken (flow_got Driver p) x has)
        (λ g other. refl) v
    by false =
        let part = b.driver.part in
        let log = b.driver.log in
        let f = flow_got Driver p in
        let two = own_got_fair Driver p log (next_is_fair Driver first p b s may f) in
        let order = fair_order (side_of Driver f) (history_of Driver f log) p (fair_now Driver f log two.0) two.1 in
        voiced_got f p part (after_packet Driver (ends_of f part.entries) p f answer part) log
        (packet_cid (ends_of f part.entries) f p answer part)
        (λ x has. packet_had first (ends_of f part.entries) p answer part log x refl (s.matches Driver).flows order v has)
        (λ g other. packet_other (ends_of f part.entries) f g p answer part other) v
driver_step first (PutsEvent id) b s may v = absurd cc
driver_step first (TakesEvent id) b s may v = record { voices = v.voices; spoken = v.spoken }
driver_step first (MakesReset cid) b s may v = absurd cc
driver_step first (TakesReset cid) b s may v = record { voices = v.voices; spoken = λ g x has. absurd cc }

device_step : (first : ℕ) (step : Step) (b : Both) → MayHappen Device step b → IsKeeping first b.device.log
    → IsKeeping first (happens Device step b).device.log
device_step first step b may k = grind (arith, common_steps)

voices_step : (role : Role) (first : ℕ) (step : Step) (b : Both) → IsSound first b → MayHappen role step b → AreVoiced first b
    → AreVoiced first (happens role step b)
voices_step Driver first step b s may v = record { driver = driver_step first step b s may v.driver; device = v.device }
voices_step Device first step b s may v = record { driver = v.driver; device = device_step first step b may v.device }

pub voices_run : (first : ℕ) (xs : List Happening) (b : Both) → IsSound first b → MayRun xs b → AreVoiced first b
    → AreVoiced first (run xs b)
voices_run first [] b s may v = v
voices_run first (x ∷ xs) b s may v =
    voices_run first xs (happens x.role x.step b) (step_keeps x.role first x.step b s may.0) may.1
    (voices_step x.role first x.step b s may.0 v)

pub voices_start : (first guest_port host_port : ℕ) → AreVoiced first (start first guest_port host_port)
voices_start = grind (arith, common_steps)

-- An RST of the connection's type is never refused.
rst_taken : (e : ConnectionEnd) (p : Packet) → is_rst p ≡ true → is_of e.kind p.header ≡ true → is_refused (verdict_of e p.header) ≡ false
rst_taken = search rules

of_kind : (e : ConnectionEnd) (h : Header) → h.kind ≡ kind_number e.kind → is_of e.kind h ≡ true
of_kind = grind (arith, nat_tests, common_steps)

open_some : (k : Option ℕ) (n : ℕ) → k ≡ Some n → is_some k ≡ true
open_some k n is = rw is refl

taken_by : (first : ℕ) (p : Packet) (e : ConnectionEnd) (b : Both) (rst : Bool) → let f = flow_got Device p in
    is_rst p ≡ rst → IsSound first b → IsKeeping first b.device.log
    → IsOneVoice (let f = flow_got Device p in f.peer) (p ∷ gots (whole_of Device f b.device.log))
    → IsFairOn Device f (GotPacket p ∷ b.device.log) → HasEnd f e b.device.part → is_dropped Device b.device.part.cid p.header ≡ false
    → is_refused (verdict_of e p.header) ≡ false
taken_by first p e b true is s k one fair has_it heard =
    let f = flow_got Device p in
    let log = b.device.log in
    let h = history_of Device f log in
    let part = b.device.part in
    let own = got_one Device first p e part log (s.matches Device).flows has_it fair in
    let other = got_goes_on Device first p e part log (s.matches Device).flows has_it fair in
    let two = own_got_fair Device p log fair in
    let kind = kind_by (side_of Device f) h (heard_of Device first f log) e own.follows (heard_puts Device first f log)
    (heard_less Device first f log two.0) in
    rst_taken e p is (of_kind e p.header ((two.1.goes_on other).kind other ∙ ap asked_kind (asker_peer (side_of Device f) h) ∙ sym kind))
taken_by first p e b false is s k one fair has_it heard =
    let f = flow_got Device p in
    let log = b.device.log in
    let w = whole_of Device f log in
    let h = history_of Device f log in
    let own = got_one Device first p e b.device.part log (s.matches Device).flows has_it fair in
    let other = got_goes_on Device first p e b.device.part log (s.matches Device).flows has_it fair in
    let on = got_fair Device first p e b.device.part log (s.matches Device).flows has_it fair in
    let voice = one.0 is in
    let now = cid_heard Device first b.device.part log p false (s.matches Device).flows heard in
    let here = present_is Device f log in
    let quiet : has is_clean_rst (gots (present w)) ≡ false = ap (λ (x : History). has is_clean_rst (gots x)) here ∙ on.0.quiet in
    let speak = subst (λ x. AllSpeak f.peer voice.0 (gots x)) here (speak_present f.peer voice.0 w (voice.2 other) quiet) in
    let all = keep_all f.peer voice.0 (cid_of first log) (gots h) (sym (voice.1 (cid_of first log)) ∙ now) speak in
    let same_gots : gots (heard_of Device first f log) ≡ gots h =
    k f (open_some (left_kind Device first f log) (kind_number e.kind) own.kind_is) ∙ all in
    let follows = subst (λ x. Follows (side_of Device f) x (gots h) e) (heard_puts Device first f log)
    (subst (λ x. Follows (side_of Device f) (puts (heard_of Device first f log)) x e) same_gots own.follows) in
    get_taken (side_of Device f) h e p on follows

pub device_takes : (first guest_port host_port : ℕ) (xs : List Happening) (p : Packet) (e : ConnectionEnd)
    → MayRun xs (start first guest_port host_port)
    → (let b = run xs (start first guest_port host_port) in IsNextPacket b.device.log b.driver.log p
    → HasEnd (flow_got Device p) e b.device.part → is_dropped Device b.device.part.cid p.header ≡ false
    → is_refused (verdict_of e p.header) ≡ false)
device_takes first guest_port host_port xs p e may next has heard =
    let zero_is = start first guest_port host_port in
    let b = run xs zero_is in
    let s = run_keeps first xs zero_is (start_sound first guest_port host_port) may in
    let v = voices_run first xs zero_is (start_sound first guest_port host_port) may (voices_start first guest_port host_port) in
    let f = flow_got Device p in
    let log = b.device.log in
    let tie = got_on Device f (GotPacket p ∷ log) b.driver.log next.0 next.1 in
    let own : whole_of Device f (GotPacket p ∷ log) ≡ Got p ∷ whole_of Device f log = rw (same_self f) refl in
    let all : puts (whole_of Driver f b.driver.log) ≡ on_flow (flow_got Device) f next.0 ++ p ∷ gots (whole_of Device f log) =
    tie ∙ ap (λ h. on_flow (flow_got Device) f next.0 ++ gots h) own in
    let one =
    one_older f.peer (on_flow (flow_got Device) f next.0) (p ∷ gots (whole_of Device f log))
    (subst (IsOneVoice f.peer) all (v.driver.voices f)) in
    taken_by first p e b (is_rst p) refl s v.device one (next_is_fair Device first p b s next f) has heard
