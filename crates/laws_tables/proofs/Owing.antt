-- Replies that are owed may be put, over a log with one more packet.
use Rattle.std.proofs.{lemmas.Grind.common_steps, Common.{arith, ◌≡◌, ℕ, Bool, true, false, if◌then◌else◌, List, [], ◌∷◌, ◌++◌, refl, sym, subst}}
use Rattle.vs_flow.specs.{Flow.same_flow, declared.flow.Flow.Flow}
use Rattle.vs_header.specs.Kind.{kind_number}
use Rattle.laws_history.specs.{History.{Answerer, Asker, Got, History, Put, Side, gots, is_begun, of_asker, puts}, Packets.{asked_kind, has, is_clean_rst, is_request}}
use Rattle.laws_history.specs.{declared.packet.Packet.Packet, Again.AllowsNow}
use Rattle.vs_page.specs.{declared.log.LogEntry.TheVariants.{GotPacket, PutPacket}, Log.{Log, Role, and_then, flow_got, flow_put, history_of, side_of}, Fair.IsFairLog}
use Rattle.vs_page.proofs.{Entries.fair_got_on, Flows.same_is, Phases.kind_stays}
use Rattle.laws_tables.{specs.{Ends.{is_among, replied}, Matches.{AllOwed, IsOwed}}, proofs.Frame.same_of}
use Rattle.vs_replies.specs.declared.Reply.{Reply}

-- Replies that may be put, over a log with one more packet.
reply_among : (r : Reply) (rs : List Reply) (f : Flow) → same_flow r.flow f ≡ true → is_among f (replied (r ∷ rs)) ≡ true
reply_among r rs f is = let e = same_is r.flow f is in rw (same_of f r.flow e) refl

rest_among : (r : Reply) (rs : List Reply) (f : Flow) → is_among f (replied rs) ≡ true → is_among f (replied (r ∷ rs)) ≡ true
rest_among = grind (arith, common_steps)

begun_put : (side : Side) (h : History) (p : Packet) → is_begun side (puts h) (gots h) ≡ true
    → is_begun side (puts (Put p ∷ h)) (gots (Put p ∷ h)) ≡ true
begun_put = grind (arith, common_steps)

pub begun_got : (side : Side) (h : History) (p : Packet) → is_begun side (puts h) (gots h) ≡ true
    → is_begun side (puts (Got p ∷ h)) (gots (Got p ∷ h)) ≡ true
begun_got = grind (arith, common_steps)

kind_put_stays : (side : Side) (h : History) (p : Packet) → is_request p ≡ false
    → asked_kind (of_asker side (puts (Put p ∷ h)) (gots (Put p ∷ h))) ≡ asked_kind (of_asker side (puts h) (gots h))
kind_put_stays Asker h p other = kind_stays p (puts h) other
kind_put_stays Answerer h p other = refl

pub kind_got_stays : (side : Side) (h : History) (p : Packet) → is_request p ≡ false
    → asked_kind (of_asker side (puts (Got p ∷ h)) (gots (Got p ∷ h))) ≡ asked_kind (of_asker side (puts h) (gots h))
kind_got_stays Asker h p other = refl
kind_got_stays Answerer h p other = kind_stays p (gots h) other

-- What a reply needs, of a history.
pub record IsDue (side : Side) (h : History) (kind : ℕ) : Type 0 where
  pub begun : is_begun side (puts h) (gots h) ≡ true
  pub kind_is : kind ≡ asked_kind (of_asker side (puts h) (gots h))
  pub quiet : has is_clean_rst (puts h) ≡ false

due_of : (role : Role) (log : Log) (r : Reply) → IsOwed role log r
    → IsDue (side_of role r.flow) (history_of role r.flow log) (kind_number r.kind)
due_of role log r o = record { begun = o.begun; kind_is = o.kind; quiet = o.quiet }

pub owed_of : (role : Role) (log : Log) (r : Reply) → IsDue (side_of role r.flow) (history_of role r.flow log) (kind_number r.kind)
    → IsOwed role log r
owed_of = grind (arith, common_steps)

due_put : (side : Side) (h : History) (p : Packet) (kind : ℕ) (b : Bool) → (b ≡ true → (is_request p ≡ false) × (is_clean_rst p ≡ false))
    → IsDue side h kind → IsDue side (if b then and_then (Put p) h else h) kind
due_put = grind (arith, begun_put, kind_put_stays, common_steps)

-- A REQUEST doesn't come while a reply is owed.
due_got_by : (side : Side) (h : History) (p : Packet) (kind : ℕ) (asks : Bool) → is_request p ≡ asks → AllowsNow side h (Got p)
    → IsDue side h kind → IsDue side (and_then (Got p) h) kind
due_got_by = grind (arith, common_steps)

due_got : (side : Side) (h : History) (p : Packet) (kind : ℕ) (b : Bool) → (b ≡ true → AllowsNow side h (Got p))
    → IsDue side h kind → IsDue side (if b then and_then (Got p) h else h) kind
due_got = grind (arith, due_got_by, common_steps)

pub all_put : (role : Role) (f : Flow) (p : Packet) (log : Log) (rs : List Reply) → flow_put role p ≡ f
    → (is_among f (replied rs) ≡ true → (is_request p ≡ false) × (is_clean_rst p ≡ false)) → AllOwed role log rs
    → AllOwed role (PutPacket p ∷ log) rs
all_put role f p log [] is plain all = tt
all_put role f p log (r ∷ rs) is plain all = (
  owed_of role (PutPacket p ∷ log) r
      (due_put (side_of role r.flow) (history_of role r.flow log) p (kind_number r.kind) (same_flow r.flow (flow_put role p))
      (λ same. plain (reply_among r rs f (subst (λ x. same_flow r.flow x ≡ true) is same)))
      (due_of role log r all.0)),
  all_put role f p log rs is (λ among. plain (rest_among r rs f among)) all.1,
)

pub all_got : (role : Role) (p : Packet) (log : Log) (rs : List Reply) → IsFairLog role (GotPacket p ∷ log) → AllOwed role log rs
    → AllOwed role (GotPacket p ∷ log) rs
all_got role p log [] fair all = tt
all_got role p log (r ∷ rs) fair all = (
  owed_of role (GotPacket p ∷ log) r
      (due_got (side_of role r.flow) (history_of role r.flow log) p (kind_number r.kind) (same_flow r.flow (flow_got role p))
      (fair_got_on role r.flow p log (same_flow r.flow (flow_got role p)) refl (fair r.flow)).1
      (due_of role log r all.0)),
  all_got role p log rs fair all.1,
)

pub all_same : (role : Role) (log newer : Log) (rs : List Reply) → ((f : Flow) → history_of role f newer ≡ history_of role f log)
    → AllOwed role log rs
    → AllOwed role newer rs
all_same role log newer [] same all = tt
all_same role log newer (r ∷ rs) same all = (
  owed_of role newer r (subst (λ h. IsDue (side_of role r.flow) h (kind_number r.kind)) (sym (same r.flow)) (due_of role log r all.0)),
  all_same role log newer rs same all.1,
)

pub all_append : (role : Role) (log : Log) (rs more : List Reply) → AllOwed role log rs → AllOwed role log more
    → AllOwed role log (rs ++ more)
all_append role log [] more all them = them
all_append role log (r ∷ rs) more all them = (all.0, all_append role log rs more all.1 them)
