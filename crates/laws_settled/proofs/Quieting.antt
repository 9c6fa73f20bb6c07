-- A turn that put nothing.
use Rattle.std.proofs.lemmas.Grind.{common_steps}
use Rattle.std.proofs.Common.{◌≡◌, ◌+◌, ◌≤◌, ◌⊎◌, inl, inr, ℕ, Bool, true, false, Option, Some, None, Ok, Err, refl, sym, ap, subst, ◌∙◌, arith}
use Rattle.std.{specs.Option.ForSome}
use Rattle.vs_contents.{specs.{CallTree.Done, Contents.Relates}, proofs.Leads.leads_split}
use Rattle.vs_flow.specs.Table.{IsTable}
use Rattle.vs_ring_port.specs.{Known.{Known, StopsAt}, declared.{failure.Failure.Failure, queue.Queue.TheVariants.Rx}}
use Rattle.vs_device_parts.specs.{Calls.{Allows, DeviceTree, Situation}, Playing.Runs, Receiving.{Filling, fill_rx_of, filled_of}, State.DeviceState, Streams.{Writing, pump_of}}
use Rattle.laws_proxy.proofs.Account.Events.{turn_says}
use Rattle.laws_device.{specs.{Named.Waiting.filling_of, Honest.ends_of_state}, proofs.Named.Stopping.{is_stage, over_lacks}}
use Rattle.laws_rest.{specs.Rest.OwesNothing, proofs.Stages.stage_owes_none}
use Rattle.vs_proxy_parts.specs.{State.{ProxyState, Turning, start}, Turns.{device_after, event_stage, fill_stage, filled, pump_stage, take_stage, tick_stage, turn_of, turned}}
use Rattle.vs_proxy_parts.specs.{Turns.unless_failed, Handshakes.shake_hands, declared.answers.{Turn.Turn, Turned.Turned}}
use Rattle.laws_settled.specs.Settled.{LacksPages}
use Rattle.vs_proxy_parts.specs.declared.answers.Turn.TheVariants as turn

-- The last three stages of a turn.
record LastStage (s : ProxyState) (b : Situation) (x : ProxyState × Turn) : Type 0 where
  pub start : Turning
  pub from : Situation
  pub first : Turning
  pub began : Situation
  pub shakes : Runs (unless_failed shake_hands start) from first began
  pub before : Turning
  pub middle : Situation
  pub pumps : Runs (unless_failed pump_stage first) began before middle
  pub last : Turning
  pub runs : Runs (unless_failed fill_stage before) middle last b
  pub state : last.state ≡ x.0
  pub answer : turned s last ≡ x.1

last_stage : (size now : ℕ) (s : ProxyState) (a b : Situation) (x : ProxyState × Turn) → Runs (turn_of size now s) a x b → LastStage s b x
last_stage size now s a b x runs =
    let one = leads_split Allows (unless_failed (tick_stage now) (start s)) _ a b x runs in
    let two = leads_split Allows (unless_failed event_stage one.end) _ one.middle b x one.rest in
    let three = leads_split Allows (unless_failed (take_stage size) two.end) _ two.middle b x two.rest in
    let four = leads_split Allows (unless_failed shake_hands three.end) _ three.middle b x three.rest in
    let five = leads_split Allows (unless_failed pump_stage four.end) _ four.middle b x four.rest in
    let six = leads_split Allows (unless_failed fill_stage five.end) _ five.middle b x five.rest in
    record {
      start = three.end;
      from = three.middle;
      began = four.middle;
      first = four.end;
      shakes = four.first;
      before = five.end;
      middle = five.middle;
      pumps = five.first;
      last = six.end;
      runs = subst (λ (c : Situation). Runs (unless_failed fill_stage five.end) five.middle six.end c) six.rest.1 six.first;
      state = ap (λ (y : ProxyState × Turn). y.0) six.rest.0;
      answer = ap (λ (y : ProxyState × Turn). y.1) six.rest.0;
    }

-- What it filled, and what the turn says of it.
record FillsOnly (q : Filling) (t l : Turning) : Type 0 where
  pub put : l.put ≡ t.put + q.put
  pub wrote : l.wrote ≡ t.wrote
  pub read : l.read ≡ t.read + q.read
  pub hands : l.hands ≡ t.hands
  pub lines : l.state.handshakes ≡ t.state.handshakes

abbrev Fills : Turning → Situation → Turning → Situation → Type 0
Fills t m l b = (q : Filling) × Runs (filling_of t.state.device) m q b × (l.state.device ≡ q.state) × FillsOnly q t l

after_fill : (q : Filling) (t : Turning) (o : Option Failure) → q.state.failed ≡ o
    → let l = filled (elim o [ Some f ↦ Err f | None ↦ Ok (record { put = q.put; read = q.read }) ]) (device_after q.state t) in
    l.state.device.failed ≡ None → (l.state.device ≡ q.state) × FillsOnly q t l
after_fill q t (Some f) is none = absurd (let both : Some f ≡ None = sym is ∙ none in cc)
after_fill q t None is none = (refl, record { put = refl; wrote = refl; read = refl; hands = refl; lines = refl })

fills_by : (t l : Turning) (m b : Situation) (o : Option Failure) → t.state.device.failed ≡ o
    → Runs (elim o [ Some f ↦ Done t | None ↦ fill_stage t ]) m l b → l.state.device.failed ≡ None → Fills t m l b
fills_by t l m b (Some f) is runs none =
    absurd (let both : Some f ≡ None = sym is ∙ ap (λ (u : Turning). u.state.device.failed) runs.0 ∙ none in cc)
fills_by t l m b None is runs none =
    let split = leads_split Allows (fill_rx_of t.state.device) (λ r. Done (filled r.1 (device_after r.0 t))) m b l runs in
    let r = split.end in
    let stage = is_stage t.state.device m split.middle r split.first is in
    let q = stage.0 in
    let l_is : filled (filled_of q).1 (device_after q.state t) ≡ l =
    ap (λ (y : DeviceState × _). filled y.1 (device_after y.0 t)) (sym stage.2) ∙ split.rest.0 in
    let after = after_fill q t q.state.failed refl (ap (λ (u : Turning). u.state.device.failed) l_is ∙ none) in (
      q,
      subst (λ (c : Situation). Runs (filling_of t.state.device) m q c) split.rest.1 stage.1,
      ap (λ (u : Turning). u.state.device) (sym l_is) ∙ after.0,
      record {
        put = ap (λ (u : Turning). u.put) (sym l_is) ∙ after.1.put;
        wrote = ap (λ (u : Turning). u.wrote) (sym l_is) ∙ after.1.wrote;
        read = ap (λ (u : Turning). u.read) (sym l_is) ∙ after.1.read;
        hands = ap (λ (u : Turning). u.hands) (sym l_is) ∙ after.1.hands;
        lines = ap (λ (u : Turning). u.state.handshakes) (sym l_is) ∙ after.1.lines;
      },
    )

-- The stages before it: the ring hadn't failed, the lines were read, and the streams were written.
still_sound : (stage : Turning → DeviceTree Turning) (t l : Turning) (m b : Situation) (o : Option Failure) → t.state.device.failed ≡ o
    → Runs (elim o [ Some f ↦ Done t | None ↦ stage t ]) m l b → l.state.device.failed ≡ None → t.state.device.failed ≡ None
still_sound stage t l m b None is runs none = is
still_sound stage t l m b (Some f) is runs none = ap (λ (u : Turning). u.state.device.failed) runs.0 ∙ none

stage_made : (stage : Turning → DeviceTree Turning) (t l : Turning) (m b : Situation) (o : Option Failure) → t.state.device.failed ≡ o
    → Runs (elim o [ Some f ↦ Done t | None ↦ stage t ]) m l b → t.state.device.failed ≡ None → Runs (stage t) m l b
stage_made stage t l m b None is runs none = runs
stage_made stage t l m b (Some f) is runs none = absurd (let both : Some f ≡ None = sym is ∙ none in cc)

abbrev Pumps : Turning → Situation → Turning → Situation → Type 0
Pumps t c u m = (w : Writing) × Runs (pump_of t.state.device) c w m × (u.state.device ≡ w.state) × (u.wrote ≡ t.wrote + w.wrote) × (u.read ≡ t.read)
    × (u.hands ≡ t.hands) × (u.state.handshakes ≡ t.state.handshakes)

pumps_by : (t u : Turning) (c m : Situation) (o : Option Failure) → t.state.device.failed ≡ o
    → Runs (elim o [ Some f ↦ Done t | None ↦ pump_stage t ]) c u m → u.state.device.failed ≡ None → Pumps t c u m
pumps_by t u c m (Some f) is runs none =
    absurd (let both : Some f ≡ None = sym is ∙ ap (λ (v : Turning). v.state.device.failed) runs.0 ∙ none in cc)
pumps_by t u c m None is runs none =
    let split = leads_split Allows (pump_of t.state.device) (λ w. Done (record (device_after w.state t) { wrote = t.wrote + w.wrote })) c m u runs in (
      split.end,
      subst (λ (d : Situation). Runs (pump_of t.state.device) c split.end d) split.rest.1 split.first,
      ap (λ (v : Turning). v.state.device) (sym split.rest.0),
      ap (λ (v : Turning). v.wrote) (sym split.rest.0),
      ap (λ (v : Turning). v.read) (sym split.rest.0),
      ap (λ (v : Turning). v.hands) (sym split.rest.0),
      ap (λ (v : Turning). v.state.handshakes) (sym split.rest.0),
    )

says : (s : ProxyState) (l : Turning) (t : Turned) → turned s l ≡ turn.Turned t
    → (l.state.device.failed ≡ None) × (l.put ≡ t.put) × (l.wrote ≡ t.wrote) × (l.read ≡ t.read) × (l.hands ≡ t.hands)
says s l t answer = grind (arith, common_steps, turn_says)

told_taken : (o p : Option Known) → Relates o p (StopsAt Rx) → ForSome p (λ k. k.rx.told ≤ k.rx.taken)
told_taken o p stops = grind (arith, common_steps)

-- The filling of a turn that put nothing, and the writing before it.
pub record LastFill (b : Situation) (d : DeviceState) (t : Turned) : Type 0 where
  pub earlier : DeviceState
  pub began : Situation
  pub writing : Writing
  pub before : DeviceState
  pub middle : Situation
  pub filling : Filling
  pub pumps : Runs (pump_of earlier) began writing middle
  pub pumped : before ≡ writing.state
  pub wrote : writing.wrote ≤ t.wrote
  pub runs : Runs (filling_of before) middle filling b
  pub state : d ≡ filling.state
  pub none : filling.put ≡ 0
  pub goes_on : filling.state.failed ≡ None

-- And the handshakes' stage before both.
pub record LastLines (b : Situation) (p : ProxyState) (t : Turned) : Type 0 where
  pub fill : LastFill b p.device t
  pub start : Turning
  pub from : Situation
  pub first : Turning
  pub shakes : Runs (shake_hands start) from first fill.began
  pub device : first.state.device ≡ fill.earlier
  pub before : Turning
  pub pumps : Runs (unless_failed pump_stage first) fill.began before fill.middle
  pub last : Turning
  pub fills : Runs (unless_failed fill_stage before) fill.middle last b
  pub then : last.state.device ≡ p.device
  pub lines : first.state.handshakes ≡ p.handshakes
  pub hands : first.hands ≡ t.hands
  pub read : first.read ≤ t.read

pub last_lines : (size now : ℕ) (s : ProxyState) (a b : Situation) (x : ProxyState × Turn) (t : Turned) → Runs (turn_of size now s) a x b
    → x.1 ≡ turn.Turned t → t.put ≡ 0 → LastLines b x.0 t
last_lines size now s a b x t runs answer none =
    let stage = last_stage size now s a b x runs in
    let told = says s stage.last t (stage.answer ∙ answer) in
    let fills = fills_by stage.before stage.last stage.middle b stage.before.state.device.failed refl stage.runs told.0 in
    let before_sound = still_sound fill_stage stage.before stage.last stage.middle b stage.before.state.device.failed refl stage.runs told.0 in
    let first_sound = still_sound pump_stage stage.first stage.before stage.began stage.middle stage.first.state.device.failed refl stage.pumps before_sound in
    let start_sound = still_sound shake_hands stage.start stage.first stage.from stage.began stage.start.state.device.failed refl stage.shakes first_sound in
    let pumps = pumps_by stage.first stage.before stage.began stage.middle stage.first.state.device.failed refl stage.pumps before_sound in
    record {
      fill = record {
        earlier = stage.first.state.device;
        began = stage.began;
        writing = pumps.0;
        pumps = pumps.1;
        pumped = pumps.2;
        wrote = (let more = pumps.3 in let same = fills.3.wrote in let all = told.2 in omega (arith, more, same, all));
        before = stage.before.state.device;
        middle = stage.middle;
        filling = fills.0;
        runs = fills.1;
        state = ap (λ (p : ProxyState). p.device) (sym stage.state) ∙ fills.2;
        none = (let put = fills.3.put in let zero = told.1 in omega (arith, put, zero, none));
        goes_on = ap (λ (d : DeviceState). d.failed) (sym fills.2) ∙ told.0;
      };
      start = stage.start;
      from = stage.from;
      first = stage.first;
      shakes = stage_made shake_hands stage.start stage.first stage.from stage.began stage.start.state.device.failed refl stage.shakes start_sound;
      device = refl;
      before = stage.before;
      pumps = stage.pumps;
      last = stage.last;
      fills = stage.runs;
      then = ap (λ (p : ProxyState). p.device) stage.state;
      lines = sym pumps.6 ∙ sym fills.3.lines ∙ ap (λ (p : ProxyState). p.handshakes) stage.state;
      hands = sym pumps.5 ∙ sym fills.3.hands ∙ told.4;
      read = (let same = pumps.4 in let more = fills.3.read in let all = told.3 in omega (arith, same, more, all));
    }

pub last_fill : (size now : ℕ) (s : ProxyState) (a b : Situation) (x : ProxyState × Turn) (t : Turned) → Runs (turn_of size now s) a x b
    → x.1 ≡ turn.Turned t → t.put ≡ 0 → LastFill b x.0.device t
last_fill size now s a b x t runs answer none = (last_lines size now s a b x t runs answer none).fill

-- One that is over early lacks pages.
pub fill_lacks : {b : Situation} {d : DeviceState} {t : Turned} (last : LastFill b d t) → last.filling.over ≡ true → LacksPages last.filling.state b.ring
fill_lacks {b} {d} {t} last over =
    let lacks = over_lacks last.before last.middle b last.filling last.runs over last.goes_on in
    record { chain = lacks.1; taken = told_taken last.middle.ring.known b.ring.known lacks.0 }

module _ (port size now : ℕ) (s : ProxyState) (a b : Situation) (x : ProxyState × Turn) (t : Turned) (runs : Runs (turn_of size now s) a x b)
    (answer : x.1 ≡ turn.Turned t) (none : t.put ≡ 0) (table : IsTable x.0.device.table) where
  abbrev Quiet : DeviceState → Type 0
  Quiet d = OwesNothing (ends_of_state port d) ⊎ LacksPages d b.ring

  by_fill : (last : LastFill b x.0.device t) (o : Bool) → last.filling.over ≡ o → Quiet x.0.device
  by_fill last true over = subst Quiet (sym last.state) (inr (fill_lacks last over))
  by_fill last false over =
      subst Quiet (sym last.state) (inl (stage_owes_none port last.before last.middle b last.filling last.runs last.none over
      (subst (λ (d : DeviceState). IsTable d.table) last.state table)))

  pub turn_owes_none : Quiet x.0.device
  turn_owes_none = let last = last_fill size now s a b x t runs answer none in by_fill last last.filling.over refl

-- It left the ring sound.
pub turn_sound : (size now : ℕ) (s : ProxyState) (a b : Situation) (x : ProxyState × Turn) (t : Turned) → Runs (turn_of size now s) a x b
    → x.1 ≡ turn.Turned t → x.0.device.failed ≡ None
turn_sound size now s a b x t runs answer = grind (arith, common_steps, last_stage, says)
