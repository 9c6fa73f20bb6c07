-- The table that is shown and what is pending, and the log.
use Rattle.std.proofs.{Common.{true, false, ◌≡◌, ℕ, ◌≤◌, Bool, not, ◌||◌, cond, List, [], ◌∷◌, map, length, Contains, refl, ap, subst, ◌∙◌, arith}, lemmas.List.Elements.All-nil}
use Rattle.std.{proofs.lemmas.List.Elements.All-cons, specs.List.All}
use Rattle.vs_flow.specs.declared.flow.Flow.{Flow}
use Rattle.laws_history.specs.{History.{Got, History, IsFair, IsHonest, Put, Side, gots, puts}, Packets.{has, is_request, is_rst, tells, told_alloc}, Again.AllowsNow}
use Rattle.laws_history.{specs.declared.packet.Packet.Packet, proofs.Present.fair_once}
use Rattle.vs_limits.specs.declared.TheConstants.{BUF_ALLOC, BUF_ALLOC_MAX}
use Rattle.vs_page.specs.{declared.log.LogEntry.TheVariants.{GotPacket, PutPacket}, Log.{Device, Log, flow_put, history_of, packets_put, side_of, whole_of}, Fair.IsFairLog}
use Rattle.vs_page.proofs.Entries.{one_got, one_put, present_is}
use Rattle.vs_ring_port.specs.EndLog.{EndLog}
use Rattle.laws_tables.{specs.{Ends.{FlowEnd, flows_of, is_among, is_new}, Matches.Matches}, proofs.Tables.{all_open, end_new}}
use Rattle.vs_device_parts.specs.{State.{DeviceEntry, DeviceState}, Turns.table_shown}
use Rattle.laws_device.{specs.Honest.{Advertises, AgreesWith, IsClients, IsLeftOpen, ends_of_state, flows_shown}, proofs.Tabling.{entry_fits, has_end}}

pub same_flows : (es : List DeviceEntry)
    → flows_shown (map (λ e. (e.flow, e.value.end.state)) es) ≡ flows_of
    (map (λ e. let x : FlowEnd = record { flow = e.flow; end = e.value.end } in x) es)
same_flows [] = refl
same_flows (e ∷ es) = ap (λ (fs : List Flow). e.flow ∷ fs) (same_flows es)

pub as_left_open : (first port : ℕ) (s : DeviceState) (l : EndLog) → Matches Device first (ends_of_state port s) l.entries
    → IsLeftOpen first s (table_shown s) l
as_left_open first port s l matches f =
    ap (is_among f) (same_flows s.table.entries) ∙ all_open Device first (ends_of_state port s) l.entries f matches.flows

pub left_open : (first port : ℕ) (s : DeviceState) (l : EndLog) → AgreesWith first port s l → IsLeftOpen first s (table_shown s) l
left_open first port s l agrees = as_left_open first port s l agrees.matches

pub pending_within : (first port : ℕ) (s : DeviceState) (l : EndLog) (e : DeviceEntry) → AgreesWith first port s l
    → Contains s.table.entries e
    → (length e.value.pending ≤ e.value.end.credit.alloc) × (e.value.end.credit.alloc ≤ BUF_ALLOC_MAX)
pending_within first port s l e agrees there =
    let bytes = (entry_fits s agrees.fits e there).bytes in (omega (arith, bytes.unread, bytes.within), bytes.alloc)

usual_by : (told first alloc : ℕ) (b : Bool) → (b ≡ false → alloc ≡ first) → told ≤ alloc → (b ≡ true → first ≤ told) → first ≤ alloc
usual_by told first alloc true same rises older = omega (arith, rises, older refl)
usual_by told first alloc false same rises older = omega (arith, same refl)

usual_alloc : (side : Side) (h : History) (p : Packet) → IsHonest (puts h) (gots h) p
    → (has tells (puts h) ≡ true → BUF_ALLOC ≤ told_alloc (puts h)) → BUF_ALLOC ≤ p.header.buf_alloc
usual_alloc side h p honest older =
    usual_by (told_alloc (puts h)) BUF_ALLOC p.header.buf_alloc (has tells (puts h)) honest.alloc_first honest.alloc_rises older

-- Over a fair history the buffer space that was told last is the usual one or more.
told_usual : (side : Side) (h : History) → IsFair side h → has tells (puts h) ≡ true → BUF_ALLOC ≤ told_alloc (puts h)
told_usual side [] fair some = absurd cc
told_usual side (Got p ∷ h) fair some = told_usual side h fair.1 some
told_usual side (Put p ∷ h) fair some = by (is_rst p) refl some (told_usual side h fair.1)
  where
    by : (b : Bool) → is_rst p ≡ b → (not b || has tells (puts h)) ≡ true → (has tells (puts h) ≡ true → BUF_ALLOC ≤ told_alloc (puts h))
        → BUF_ALLOC ≤ cond b (told_alloc (puts h)) p.header.buf_alloc
    by true is some_older older = older some_older
    by false is some_older older = usual_alloc side h p (fair.0.honest is) older

advertises : (log : Log) (p : Packet) → IsFairLog Device log → let f = flow_put Device p in
    AllowsNow (side_of Device f) (history_of Device f log) (Put p) → is_rst p ≡ false → BUF_ALLOC ≤ p.header.buf_alloc
advertises log p fair may other = by (is_request p) refl
  where
    f : Flow
    f = flow_put Device p

    once : IsFair (side_of Device f) (history_of Device f log)
    once = subst (IsFair (side_of Device f)) (present_is Device f log) (fair_once (side_of Device f) (whole_of Device f log) (fair f))

    by : (b : Bool) → is_request p ≡ b → BUF_ALLOC ≤ p.header.buf_alloc
    by true is = usual_alloc (side_of Device f) [] p ((may.opens is).1.honest other) (λ some. absurd cc)
    by false is = usual_alloc (side_of Device f) (history_of Device f log) p ((may.goes_on is).honest other)
        (told_usual (side_of Device f) (history_of Device f log) once)

-- Each packet of a fair log advertises.
pub all_advertise : (log : Log) → IsFairLog Device log → All Advertises (packets_put log)
all_advertise [] fair = All-nil Advertises
all_advertise (PutPacket p ∷ log) fair =
    let both = (one_put Device log p).0 fair in
    All-cons Advertises p (packets_put log) (λ other. advertises log p both.0 both.1 other) (all_advertise log both.0)
all_advertise (GotPacket p ∷ log) fair = all_advertise log ((one_got Device log p).0 fair).0
all_advertise (_ ∷ log) fair = all_advertise log fair

pub new_clients : (first port : ℕ) (s : DeviceState) (l : EndLog) (e : DeviceEntry) → AgreesWith first port s l → Contains s.table.entries e
    → is_new e.value.end ≡ true → IsClients e
new_clients first port s l e agrees there new = record {
  by_client = ((entry_fits s agrees.fits e there).new new).by_client;
  asker = (end_new Device first (ends_of_state port s) l.entries e.flow e.value.end agrees.matches.flows
      (has_end s agrees.fits e there port) new).asking.asker;
}
