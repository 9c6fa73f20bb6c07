-- What an entry does to its own flow, and to others; and what a step has to show.
use Rattle.std.proofs.{Common.{◌≡◌, ℕ, ◌≤◌, Bool, true, false, Option, List, [], ◌∷◌, refl, sym, ap, ◌∙◌, arith}, lemmas.Grind.common_steps}
use Rattle.vs_conn.specs.End.{ConnectionEnd}
use Rattle.vs_flow.specs.{declared.flow.Flow.Flow, Flow.same_flow}
use Rattle.laws_history.specs.{History.{History, Put, Got, Side, Asker}, Packets.is_request, declared.packet.Packet.Packet}
use Rattle.vs_page.specs.{Log.{Log, Role, and_then, flow_put, flow_got, history_of, side_of}, Open.{Phase, cid_of, is_dropped, kind_got, left_kind}}
use Rattle.vs_page.{specs.{Open.{open_kind, phase_of}, declared.log.LogEntry.{TheVariants.{PutPacket, GotPacket}, LogEntry}, Frame.is_about}, proofs.Flows.same_self}
use Rattle.laws_tables.specs.{Ends.{Ends, FlowEnd, ends_of, is_among, replied}, Heard.{heard_of, is_awaiting, own_port}, Matches.{IsKept, IsLeftOn, IsUnused, MatchesFlows}}
use Rattle.laws_tables.specs.Matches.{MatchesOn}
use Rattle.vs_replies.specs.declared.Reply.{Reply}

pub same_of : (f g : Flow) → g ≡ f → same_flow f g ≡ true
same_of f g is = rw is (same_self f)

-- A packet that is put or got on a flow is the newest that was heard on it, where it isn't dropped.
pub heard_put : (role : Role) (first : ℕ) (f : Flow) (p : Packet) (log : Log) → flow_put role p ≡ f
    → heard_of role first f (PutPacket p ∷ log) ≡ and_then (Put p) (heard_of role first f log)
heard_put role first f p log is = rw (same_of f (flow_put role p) is) refl

pub heard_got : (role : Role) (first : ℕ) (f : Flow) (p : Packet) (log : Log) → flow_got role p ≡ f
    → is_dropped role (cid_of first log) p.header ≡ false
    → heard_of role first f (GotPacket p ∷ log) ≡ and_then (Got p) (heard_of role first f log)
heard_got role first f p log is heard = rw (same_of f (flow_got role p) is) (rw heard refl)

-- The type of the open connection after a packet.
pub open_got : (role : Role) (first : ℕ) (f : Flow) (p : Packet) (log : Log) → flow_got role p ≡ f
    → is_dropped role (cid_of first log) p.header ≡ false
    → left_kind role first f (GotPacket p ∷ log) ≡ kind_got p (left_kind role first f log)
open_got role first f p log is kept = grind (arith, common_steps)

-- A packet that is dropped changes no phase. A REQUEST ends what was heard on its flow, any other changes nothing.
pub phase_dropped : (role : Role) (first : ℕ) (f : Flow) (p : Packet) (log : Log) → is_dropped role (cid_of first log) p.header ≡ true
    → phase_of role first f (GotPacket p ∷ log) ≡ phase_of role first f log
phase_dropped role first f p log dropped = grind (arith, common_steps)

pub heard_dropped : (role : Role) (first : ℕ) (f : Flow) (p : Packet) (log : Log) → is_dropped role (cid_of first log) p.header ≡ true
    → is_request p ≡ false → heard_of role first f (GotPacket p ∷ log) ≡ heard_of role first f log
heard_dropped role first f p log dropped other = grind (arith, common_steps)

pub heard_ended : (role : Role) (first : ℕ) (f : Flow) (p : Packet) (log : Log) → flow_got role p ≡ f
    → is_dropped role (cid_of first log) p.header ≡ true → is_request p ≡ true → heard_of role first f (GotPacket p ∷ log) ≡ []
heard_ended role first f p log is dropped asks = rw (same_of f (flow_got role p) is) (rw dropped (rw asks refl))

-- A flow is the one that a step is about, or another.
pub own_or_other : (P : Flow → Type 0) (f g : Flow) → P f → (same_flow g f ≡ false → P g) → P g
own_or_other P f g own other = grind (arith, common_steps)

-- A flow is not kept to be used again, and its port is given, where this end asks for it.
pub record IsUsed (role : Role) (f : Flow) (part : Ends) : Type 0 where
  pub given : side_of role f ≡ Asker → part.next_port ≤ own_port role f → ⊥
  pub unkept : is_among f part.clean ≡ false

-- A flow is left alone by a step after which the table has these entries and replies: what passed and was heard on it, its phase, its ends,
-- and whether a reply is owed.
pub record IsAlone (role : Role) (first : ℕ) (part : Ends) (older : Log) (xs : List FlowEnd) (rs : List Reply) (newer : Log) (f : Flow)
    : Type 0 where
  pub passed : history_of role f newer ≡ history_of role f older
  pub heard : heard_of role first f newer ≡ heard_of role first f older
  pub phase : phase_of role first f newer ≡ phase_of role first f older
  pub ends : ends_of f xs ≡ ends_of f part.entries
  pub replies : is_among f (replied rs) ≡ is_among f (replied part.replies)

pub left_alone : (role : Role) (side : Side) (h older : History) (kind was : Option ℕ) (owed was_owed : Bool)
    (ends had : List ConnectionEnd)
    → IsLeftOn role side older was was_owed had → h ≡ older → kind ≡ was → owed ≡ was_owed → ends ≡ had
    → IsLeftOn role side h kind owed ends
left_alone role side h older kind was owed was_owed ends had l a b c d = grind (arith, common_steps)

-- A step about the flow f: f is as the longer log leaves it, other flows are left alone.
pub flows_step : (role : Role) (first : ℕ) (f : Flow) (part : Ends) (older : Log) (xs : List FlowEnd) (rs : List Reply) (newer : Log)
    → let new = record part { entries = xs; replies = rs } in
    IsUsed role f part → cid_of first newer ≡ cid_of first older
    → ((g : Flow) → same_flow g f ≡ false → IsAlone role first part older xs rs newer g) → MatchesOn role first new newer f
    → MatchesFlows role first part older → MatchesFlows role first new newer
flows_step role first f part older xs rs newer used cid others own m =
    let new : Ends = record part { entries = xs; replies = rs } in
    record {
      on = λ g. own_or_other (MatchesOn role first new newer) f g own (λ apart. let a = others g apart in
          left_alone role (side_of role g) _ _ _ _ _ _ _ _ (m.on g) a.heard (ap (λ (x : Phase). open_kind x) a.phase) a.replies a.ends);
      unused =
          λ g. own_or_other (λ x. side_of role x ≡ Asker → part.next_port ≤ own_port role x → IsUnused role first new newer x) f g
          (λ asker later. absurd (used.given asker later))
          (λ apart asker later. let a = others g apart in let u = m.unused g asker later in
          record { silent = a.heard ∙ u.silent; no_end = a.ends ∙ u.no_end; not_kept = u.not_kept });
      kept = λ g. own_or_other (λ x. is_among x part.clean ≡ true → IsKept role first new newer x) f g
          (λ among. let un = used.unkept in absurd cc)
          (λ apart among. let a = others g apart in let k = m.kept g among in
          record {
            asker = k.asker;
            no_end = a.ends ∙ k.no_end;
            no_reply = a.replies ∙ k.no_reply;
            over = ap is_awaiting a.heard ∙ k.over;
          });
      once = m.once;
      cid = m.cid ∙ sym cid;
    }

-- One that leaves alone what was heard on every flow.
pub still_flows : (role : Role) (first : ℕ) (part : Ends) (older newer : Log) → cid_of first newer ≡ cid_of first older
    → ((f : Flow) → heard_of role first f newer ≡ heard_of role first f older)
    → ((f : Flow) → phase_of role first f newer ≡ phase_of role first f older) → MatchesFlows role first part older
    → MatchesFlows role first part newer
still_flows role first part older newer cid heard phase m = grind (arith, common_steps)

pub heard_other : (role : Role) (first : ℕ) (f : Flow) (entry : LogEntry) (log : Log) → is_about role f entry ≡ false
    → heard_of role first f (entry ∷ log) ≡ heard_of role first f log
heard_other role first f entry log other = grind (arith, common_steps)
