-- Where a log that is fair by the peer leaves a flow open at the end that asks, no marked RST was heard since its REQUEST.
use Rattle.std.proofs.{Common.{◌≡◌, ℕ, ◌==◌, Bool, true, false, if◌then◌else◌, Some, List, [], ◌∷◌, refl, sym, ap, ◌∙◌, subst, arith}, lemmas.Grind.common_steps}
use Rattle.vs_conn.specs.End.{ConnectionEnd}
use Rattle.vs_flow.specs.{Flow.{is_host, same_flow}, declared.flow.Flow.Flow}
use Rattle.laws_history.specs.{Beside.{is_plain_rst, steady}, History.{Answerer, Asker, Got, History, Put, gots, is_begun, puts}, declared.packet.Packet.Packet}
use Rattle.laws_history.specs.Packets.{asked_kind, has, is_clean_rst, is_request, is_rst}
use Rattle.vs_page.specs.{Fair.{AllowsTo, IsFairLogByPeer}, Log.{Log, Role, and_then, flow_got, flow_put, history_of, side_of}, Open.{Clean, Open, Over, Phase, Unused, cid_of, ended_by}}
use Rattle.vs_page.specs.{Open.{is_clean_end, is_dropped, open_kind, phase_got, phase_heard, phase_of, phase_put, phase_reset}, declared.log.LogEntry.TheVariants.{GotEvent, GotPacket, Mark, PutEvent, PutPacket}}
use Rattle.vs_page.proofs.{ByPeer.{one_got, one_put}, Flows.same_is, Phases.kind_stays}
use Rattle.laws_tables.specs.{Ends.{Ends, is_new}, Heard.{IsInOrder, heard_of, hears}, Matches.Matches, Steps.HasEnd}
use Rattle.laws_tables.proofs.{ByPeer.request_steady, Fair.{awaiting_by, heard_puts, some_by_puts}, OnFlow.end_follows}

abbrev Stands : Phase → History → Type 0
Stands Unused h = Unit {0}
Stands (Open kind) h = (has is_clean_rst (gots h) ≡ false) × (kind ≡ asked_kind (puts h))
Stands Over h = Unit {0}
Stands Clean h = Unit {0}

-- A packet that is put.
put_goes : (p : Packet) (h : History) (ph : Phase) → is_request p ≡ false → Stands ph h → Stands ph (Put p ∷ h)
put_goes p h Unused other s = tt
put_goes p h (Open kind) other s = (s.0, s.1 ∙ sym (kind_stays p (puts h) other))
put_goes p h Over other s = tt
put_goes p h Clean other s = tt

put_by : (p : Packet) (h : History) (ph : Phase) (asks rst : Bool) → is_request p ≡ asks → is_rst p ≡ rst → Stands ph h
    → Stands (phase_put p ph) (and_then (Put p) h)
put_by p h ph asks rst is r s = grind (arith, common_steps, put_goes)

-- One that is got, no REQUEST: where it's a marked RST it has the type of the connection.
got_goes : (p : Packet) (h : History) (ph : Phase) → is_clean_rst p ≡ false → Stands ph h → Stands ph (Got p ∷ h)
got_goes p h ph plain s = grind (arith, common_steps)

ends : (clean : Bool) (p : Packet) (h : History) (ph : Phase) (mark same : Bool) → is_clean_rst p ≡ mark
    → (is_clean_rst p ≡ true → p.header.kind ≡ asked_kind (puts h)) → Stands ph h → Stands (ended_by clean p ph) (Got p ∷ h)
ends clean p h ph mark same m typed s = grind (arith, common_steps)

no_mark : (p : Packet) → is_rst p ≡ false → is_clean_rst p ≡ false
no_mark = grind (arith, common_steps)

got_by : (clean : Bool) (p : Packet) (h : History) (ph : Phase) (rst : Bool) → is_request p ≡ false → is_rst p ≡ rst
    → (is_clean_rst p ≡ true → p.header.kind ≡ asked_kind (puts h)) → Stands ph h → Stands (phase_got clean p ph) (and_then (Got p) h)
got_by clean p h ph true other r typed s = rw other (rw r (ends clean p h ph (is_clean_rst p) true refl typed s))
got_by clean p h ph false other r typed s = rw other (rw r (got_goes p h ph (no_mark p r) s))

heard_by : (dropped clean : Bool) (p : Packet) (h : History) (ph : Phase) → is_request p ≡ false
    → (is_clean_rst p ≡ true → p.header.kind ≡ asked_kind (puts h)) → Stands ph h
    → Stands (phase_heard dropped clean p ph) (hears dropped p h)
heard_by true clean p h ph other typed s = rw other s
heard_by false clean p h ph other typed s = got_by clean p h ph (is_rst p) other refl typed s

-- What fairness by the peer says of a packet that comes to the end that asks.
request_stays : (p : Packet) → is_request p ≡ true → is_plain_rst p ≡ false
request_stays = grind (arith, common_steps)

mark_steady : (p : Packet) → is_clean_rst p ≡ true → (is_plain_rst p ≡ false) × (is_request p ≡ false)
mark_steady = grind (arith, common_steps)

plain_other : (p : Packet) → is_plain_rst p ≡ true → is_request p ≡ false
plain_other = grind (arith, common_steps)

kind_step : (p : Packet) (ps : List Packet) (b : Bool) → is_plain_rst p ≡ b → asked_kind (steady ps) ≡ asked_kind ps
    → asked_kind (steady (p ∷ ps)) ≡ asked_kind (p ∷ ps)
kind_step p ps true is rest = rw is (rest ∙ sym (kind_stays p ps (plain_other p is)))
kind_step p ps false is rest =
    rw is (ap (λ b. if b then asked_kind (steady ps) else if is_request p then p.header.kind else 0) (request_steady ps)
    ∙ ap (λ n. if has is_request ps then n else if is_request p then p.header.kind else 0) rest)

kind_steady : (ps : List Packet) → asked_kind (steady ps) ≡ asked_kind ps
kind_steady [] = refl
kind_steady (p ∷ ps) = kind_step p ps (is_plain_rst p) refl (kind_steady ps)

record Comes (p : Packet) (h : History) : Type 0 where
  other : is_request p ≡ false
  typed : is_clean_rst p ≡ true → p.header.kind ≡ asked_kind (puts h)

never_asks : (p : Packet) → (is_request p ≡ true → Asker ≡ Answerer) → is_request p ≡ false
never_asks p never = grind (arith, common_steps)

comes_to : (host : Bool) (h : History) (p : Packet) → AllowsTo host Asker h (Got p) → Comes p h
comes_to host h p may = grind (arith, common_steps, never_asks, mark_steady, request_stays, kind_steady, puts)

got_on : (role : Role) (first : ℕ) (f : Flow) (p : Packet) (log : Log) (b : Bool) → same_flow f (flow_got role p) ≡ b
    → IsFairLogByPeer role (GotPacket p ∷ log) → side_of role f ≡ Asker
    → Stands (phase_of role first f log) (heard_of role first f log)
    → Stands (phase_of role first f (GotPacket p ∷ log)) (heard_of role first f (GotPacket p ∷ log))
got_on role first f p log false same fair asker s = rw same s
got_on role first f p log true same fair asker s =
    let g = flow_got role p in
    let may = subst (λ x. AllowsTo (is_host x) (side_of role x) (history_of role x log) (Got p)) (sym (same_is f g same))
    ((one_got role log p).0 fair).1 in
    let c = comes_to (is_host f) (history_of role f log) p
    (subst (λ side. AllowsTo (is_host f) side (history_of role f log) (Got p)) asker may) in
    rw same (heard_by (is_dropped role (cid_of first log) p.header) (is_clean_end (side_of role f) (puts (history_of role f log)) p) p
    (heard_of role first f log) (phase_of role first f log) c.other
    (λ is. c.typed is ∙ ap asked_kind (sym (heard_puts role first f log))) s)

put_on : (role : Role) (first : ℕ) (f : Flow) (p : Packet) (log : Log) (b : Bool) → same_flow f (flow_put role p) ≡ b
    → Stands (phase_of role first f log) (heard_of role first f log)
    → Stands (phase_of role first f (PutPacket p ∷ log)) (heard_of role first f (PutPacket p ∷ log))
put_on role first f p log b same s = grind (arith, common_steps, put_by)

reset_on : (ph : Phase) (h : History) → Stands ph h → Stands (phase_reset ph) h
reset_on = grind (arith, common_steps)

stands : (role : Role) (first : ℕ) (f : Flow) (log : Log) → IsFairLogByPeer role log → side_of role f ≡ Asker
    → Stands (phase_of role first f log) (heard_of role first f log)
stands role first f [] fair asker = tt
stands role first f (PutPacket p ∷ log) fair asker =
    put_on role first f p log (same_flow f (flow_put role p)) refl (stands role first f log ((one_put role log p).0 fair).0 asker)
stands role first f (GotPacket p ∷ log) fair asker =
    got_on role first f p log (same_flow f (flow_got role p)) refl fair asker
    (stands role first f log ((one_got role log p).0 fair).0 asker)
stands role first f (PutEvent id ∷ log) fair asker = stands role first f log fair asker
stands role first f (GotEvent id ∷ log) fair asker = stands role first f log fair asker
stands role first f (Mark cid ∷ log) fair asker =
    reset_on (phase_of role first f log) (heard_of role first f log) (stands role first f log fair asker)

unmarked : (ph : Phase) (h : History) (kind : ℕ) → open_kind ph ≡ Some kind → Stands ph h → has is_clean_rst (gots h) ≡ false
unmarked ph h kind is s = grind (arith, common_steps)

-- So a packet of a connection that has begun comes in order, where it's no REQUEST.
pub known_order : (role : Role) (first : ℕ) (f : Flow) (p : Packet) (e : ConnectionEnd) (part : Ends) (log : Log)
    → Matches role first part log → IsFairLogByPeer role log → HasEnd f e part → is_new e ≡ false → is_request p ≡ false
    → IsInOrder (side_of role f) (heard_of role first f log) p
known_order role first f p e part log m fair has old other =
    let h = heard_of role first f log in
    let o = end_follows role (side_of role f) h _ _ _ e (m.flows.on f) has old in
    record {
      request = λ is. (let both : true ≡ false = sym is ∙ other in absurd cc);
      asked = λ asker.
          let begun : is_begun Asker (puts h) (gots h) ≡ true = subst (λ s. is_begun s (puts h) (gots h) ≡ true) asker o.follows.begun in
          awaiting_by h (some_by_puts h h refl begun) (unmarked (phase_of role first f log) h _ o.kind_is (stands role first f log fair asker));
    }
