-- What holds of each play.
use Rattle.std.proofs.lemmas.Grind.{common_steps}
use Rattle.laws_world.proofs.{Carried.{none_received, sent_as_put, sent_stays, wrote_as_put, wrote_stays}, NamesStay.{IsTold, accept_told, connect_told, still_over, still_told}}
use Rattle.laws_world.proofs.{Names.{IsOver, closed_unknown, flow_opened}, CallRests.opening_rests, Opening.{opening_well, run_goes}, ResetTables.device_emptied}
use Rattle.laws_world.{proofs.{ScriptLines.{script_leads, script_rests}, Sound.{Goes, IsWell, tx_at_rest}}, specs.Events.is_at_rest}
use Rattle.laws_world.specs.{Sides.{both_of, device_ends, driver_ends, log_with_staged}, Pipes.{IsFresh, IsRightIn, IsSentIn}, Steps.Leads, World.{Beginning, World, first_cid}}
use Rattle.laws_world.specs.Names.{times_closed}
use Rattle.std.proofs.Common.{◌≡◌, ◌≢◌, ℕ, ◌<◌, ◌≤◌, ◌^◌, true, List, [], ◌∷◌, ◌++◌, None, Some, Result, Ok, refl, sym, ap, subst, ◌∙◌, map, arith}
use Rattle.std.{proofs.lemmas.{List.Elements.{All-head, All-tail}}, specs.List.All}
use Rattle.vs_flow.specs.{Connection.Connection, declared.flow.Flow.Flow}
use Rattle.laws_history.specs.{History.puts, Packets.{has, shuts_send}}
use Rattle.vs_driver_parts.specs.{declared.answers.{ConnectError.ConnectError, Accepted.Accepted}, Connections.flow_of}
use Rattle.vs_device_parts.specs.{State.counters_of, declared.answers.Counters.Counters}
use Rattle.laws_tables.{specs.{Both.{Both, at}, Later.IsPast, Steps.HasEnd}, proofs.{Shutting.{is_past, run_past}, Slots.one_end}}
use Rattle.vs_outside.specs.{Host.HostContents, HostProgram.{new_host, plain}}
use Rattle.vs_page.specs.{Fair.{number_of, payload_put}, Log.{Device, Driver, Log, Role, history_of}}
use Rattle.vs_script.{specs.{Play.Event, Script.{Plays, parse_of}, Bounds.AreBounded}, proofs.Bounded.all_bounded}
use Rattle.vs_report.specs.{Report.{counts_text, device_open_text, guest_open_text, stream_texts}, GuestLines.{accept_text, connect_text, connection_text, opened_text}}
use Rattle.laws_proxy.specs.{Resets.IsEmptied, Account.Counts.counts_shown}
use Rattle.laws_driver.specs.Carried.{Calls.{account_of, flow_accepted, flow_opened as flow_after_connect}, Senders.IsSent}
use Rattle.vs_play.specs.{Answer.{base_path, texts_of, world_after}, Lines.{PlayWorld, event_played}}
use Rattle.laws_play.proofs.{PlayLines.{after_both, front_bounded, lines_of, lines_receive, lines_right, lines_send, rest_bounded, world_is}, Reached.carries}
use Rattle.laws_play.proofs.{Reached.{holds_open, holds_rest, keeps_credit, keeps_ids, log_is, many_device, many_guest, own_streams, queued, rightly}, Counting.lines_count}
use Rattle.laws_play.{proofs.Counting.lines_within, specs.{Headline.{begun_play, IsLawful, IsNamedIn, KeepsIds, StaysShut, driver_log, world_of}, Said.accept_answer}}
use Rattle.laws_play.specs.Said.{close_answer, connect_answer}
use Rattle.vs_driver_parts.specs.declared.answers.Accepted.TheVariants as accepted
use Rattle.vs_driver_parts.specs.declared.answers.Closed.TheVariants as closed
use Rattle.vs_script.specs.Outside as outside
use Rattle.vs_script.specs.Play as script
use Rattle.vs_script.specs.declared.script.Command.TheVariants as command

-- A play's host has no streams at first.
abbrev play_host : HostContents
play_host = (new_host base_path [] plain).contents

abbrev Fresh : Type 0
Fresh = IsFresh play_host

fresh : Fresh
fresh = record { streams = refl; labelled = refl }

-- Lines lead from a world in which nothing is staged to another.
lines_rest : (es : List Event) (p : PlayWorld) → is_at_rest p.world.rings.driver.staged ≡ true
    → is_at_rest (world_after es p).world.rings.driver.staged ≡ true
lines_rest es p rest = subst (λ (w : World). is_at_rest w.rings.driver.staged
    ≡ true) (sym (world_is es p)) (script_rests (lines_of es p) p.world rest)

lines_lead : (es : List Event) (p : PlayWorld) → is_at_rest p.world.rings.driver.staged ≡ true → AreBounded es
    → Leads p.world (world_after es p).world
lines_lead es p rest bounded = subst (Leads p.world) (sym (world_is es p)) (script_leads (lines_of es p) p.world rest
    (lines_right es p bounded))

lines_go : (es : List Event) (p : PlayWorld) → is_at_rest p.world.rings.driver.staged ≡ true → AreBounded es → (well : IsWell Fresh p.world)
    → Goes well (world_after es p).world
lines_go es p rest bounded well =
    let leads = lines_lead es p rest bounded in subst (Goes well) leads.1 (run_goes Fresh leads.0 p.world well)

module _ (w v : World) (c : Connection) (well : IsWell Fresh w) (goes : Goes well v) (opened : ℕ → Connection) (before : IsSentIn opened w)
    (after : IsSentIn opened v) where
  -- What an end put stays from its decision on that it sends no more.
  decided_put : (role : Role) → IsPast role c (at role (both_of w)) → payload_put role c (at role (both_of v)).log ≡ payload_put role c (at role (both_of w)).log
  decided_put role x = subst (λ (b : Both). payload_put role c (at role b).log ≡ payload_put role c (at role (both_of w)).log) goes.runs.ends
      (run_past role first_cid c goes.runs.steps (both_of w) well.sound goes.runs.may x).put

  stays_shut : is_at_rest w.rings.driver.staged ≡ true → StaysShut opened c w v
  stays_shut rest = record {
    sent = λ past shut. sent_stays w v well goes c opened opened before after (up_to past)
        (ap (λ (log : Log). has shuts_send (puts (history_of Driver c.flow log))) (log_is w well fresh rest) ∙ shut);
    wrote = wrote_stays w v well goes c fresh;
    guest_shut = λ past e there flow shut. sent_as_put w v well goes c opened opened before after
        (decided_put Driver (is_past Driver c (both_of w).driver e.value.end (subst (λ (g : Flow). HasEnd g e.value.end (driver_ends w.driver)) flow
        (one_end (λ d. d.end) w.driver.table e well.driver.sound there)) shut (up_to past)));
    stream_ended = λ some past e there flow shut. wrote_as_put w v well goes c fresh some
        (decided_put Device (is_past Device c (both_of w).device e.value.end (subst (λ (g : Flow). HasEnd g e.value.end (device_ends w.proxy)) flow
        (one_end (λ d. d.end) w.proxy.device.table e well.device.fits.sound there)) shut past));
  }
    where
      up_to : c.number ≤ number_of Driver c.flow (driver_log w) → c.number ≤ number_of Driver c.flow (both_of w).driver.log
      up_to past = subst (λ (log : Log). c.number ≤ number_of Driver c.flow log) (sym (log_is w well fresh rest)) past

-- Ids keep their connections from line to line.
record Kept (es : List Event) (p : PlayWorld) (well : IsWell Fresh p.world) : Type 0 where
  opened : ℕ → Connection
  on : (id : ℕ) → 1 ≤ (well.opened id).number → opened id ≡ well.opened id
  right : IsRightIn opened (world_after es p).world
  ids : (before after : List Event) → es ≡ before ++ after → KeepsIds opened (world_after before p).world

lines_keep : (es : List Event) (p : PlayWorld) → is_at_rest p.world.rings.driver.staged ≡ true → AreBounded es → (well : IsWell Fresh p.world) → Kept es p well
lines_keep [] p rest bounded well = record { opened = well.opened; on = λ id some. refl; right = well.right; ids = front }
  where
    front : (before after : List Event) → [] ≡ before ++ after → KeepsIds well.opened (world_after before p).world
    front [] after is = keeps_ids p.world well fresh rest well.opened (λ id some. refl)
    front (x ∷ before) after is = absurd cc
lines_keep (e ∷ es) p rest bounded well =
    let goes = lines_go (e ∷ []) p rest (bounded.0, tt) well in
    let more = lines_keep es (event_played e p).0 (lines_rest (e ∷ []) p rest) bounded.1 goes.well in
    joined more.opened (λ id some. let same = goes.on id some in more.on id (subst (λ (c : Connection). 1 ≤ c.number) (sym same) some) ∙ same) more.right more.ids
  where
    joined : (opened : ℕ → Connection) → ((id : ℕ) → 1 ≤ (well.opened id).number → opened id ≡ well.opened id)
        → IsRightIn opened (world_after es (event_played e p).0).world
        → ((before after : List Event) → es ≡ before ++ after → KeepsIds opened (world_after before (event_played e p).0).world) → Kept (e ∷ es) p well
    joined opened on right ids = record { opened = opened; on = on; right = right; ids = front }
      where
        front : (before after : List Event) → e ∷ es ≡ before ++ after → KeepsIds opened (world_after before p).world
        front [] after is = keeps_ids p.world well fresh rest opened on
        front (x ∷ before) after is =
            let first : e ≡ x = cc in
            let more : es ≡ before ++ after = cc in
            subst (λ (y : Event). KeepsIds opened (world_after before (event_played y p).0).world) first (ids before after more)

-- How often the guest closes an id stays, where no line does.
line_closes : (id : ℕ) (e : Event) (p : PlayWorld) → e ≢ script.Close id → times_closed id (event_played e p).0.world.journal
    ≡ times_closed id p.world.journal
line_closes id e p apart = grind (arith, common_steps)

lines_close : (id : ℕ) (es : List Event) (p : PlayWorld) → All (λ e. e ≢ script.Close id) es
    → times_closed id (world_after es p).world.journal ≡ times_closed id p.world.journal
lines_close id [] p apart = refl
lines_close id (e ∷ es) p apart =
    lines_close id es (event_played e p).0 (All-tail (λ (x : Event). x ≢ script.Close id) e es apart)
    ∙ line_closes id e p (All-head (λ (x : Event). x ≢ script.Close id) e es apart)

-- A line told an id: what it printed names the id's flow in this world, which is that of its connection.
abbrev IsToldIn : World → ℕ → List ℕ → Type 0
IsToldIn w id text = (f : Flow) × (text ≡ opened_text id f) × (flow_of id w.driver ≡ Some f)

named_in : (opened : ℕ → Connection) (w : World) → IsRightIn opened w → (id : ℕ) (text : List ℕ) → IsToldIn w id text → IsNamedIn opened w id text
named_in opened w right id text (f, is, known) =
    let own = flow_opened (account_of 1 opened w.journal) (log_with_staged w.rings.driver) w.driver right.received id f known in
    (is ∙ ap (opened_text id) (sym own.0), known ∙ ap (λ (g : Flow). Some g) (sym own.0), own.1)

-- An id that a line told, or closed.
module _ (e : Event) (p : PlayWorld) (rest : is_at_rest p.world.rings.driver.staged ≡ true) (well : IsWell Fresh p.world) (id : ℕ)
    (more : List Event) (bounded : AreBounded (e ∷ more)) where
  abbrev next : PlayWorld
  next = (event_played e p).0

  next_well : IsWell Fresh next.world
  next_well = (lines_go (e ∷ []) p rest (bounded.0, tt) well).well

  next_rest : is_at_rest next.world.rings.driver.staged ≡ true
  next_rest = lines_rest (e ∷ []) p rest

  more_go : Goes next_well (world_after more next).world
  more_go = lines_go more next next_rest bounded.1 next_well

  still_named : All (λ x. x ≢ script.Close id) more → IsTold id next.world.driver → (text : List ℕ)
      → text ≡ connection_text id (flow_of id next.world.driver) → IsToldIn (world_after (e ∷ more) p).world id text
  still_named apart told text is =
      let x = still_told next.world (world_after more next).world next_well more_go id (lines_close id more next apart) told in
      (x.0, is ∙ ap (connection_text id) x.1, x.2)

  still_closed : IsOver id next.world.driver → flow_of id (world_after (e ∷ more) p).world.driver ≡ None
  still_closed over = still_over next.world (world_after more next).world next_well more_go id over

-- The report, with other names for its numbers.
says_so : (texts streams : List (List ℕ)) (g g' d d' b : ℕ) (c : Counters) → g ≡ g' → d ≡ d' → c.overrun ≡ 0 → b ≡ 0
    → texts ++ (guest_open_text g ∷ device_open_text d ∷ (streams ++ counts_text c (Some b) ∷ []))
    ≡ texts ++ (guest_open_text g' ∷ device_open_text d' ∷ (streams ++ counts_text (record c { overrun = 0 }) (Some 0) ∷ []))
says_so texts streams g g' d d' b c gs ds none nor = rw gs (rw ds (rw none (rw nor refl)))

module _ (how : Beginning) where
  at_rest : is_at_rest (begun_play how).world.rings.driver.staged ≡ true
  at_rest = opening_rests how play_host

  world_rests : (es : List Event) → is_at_rest (world_of how es).rings.driver.staged ≡ true
  world_rests es = lines_rest es (begun_play how) at_rest

  world_well : (es : List Event) → AreBounded es → IsWell Fresh (world_of how es)
  world_well es bounded = (lines_go es (begun_play how) at_rest bounded (opening_well how play_host)).well

  shut_both : (es more : List Event) (c : Connection) (opened : ℕ → Connection) → AreBounded (es ++ more) → IsSent opened (world_of how es).journal (driver_log (world_of how es))
      → IsSentIn opened (world_of how (es ++ more)) → StaysShut opened c (world_of how es) (world_of how (es ++ more))
  shut_both es more c opened bounded sent =
      let p = world_after es (begun_play how) in
      let well = world_well es (front_bounded es more bounded) in
      subst (λ (q : PlayWorld). IsSentIn opened q.world → StaysShut opened c p.world q.world) (sym (after_both es more (begun_play how)))
      (λ after. stays_shut p.world (world_after more p).world c well (lines_go more p (world_rests es) (rest_bounded es more bounded) well) opened
      (subst (IsSent opened p.world.journal) (sym (log_is p.world well fresh (world_rests es))) sent) after (world_rests es))

  emptied_after : (es more : List Event) (cid : ℕ) → AreBounded (es ++ script.Around (outside.Reset cid) ∷ more)
      → IsEmptied (world_of how (es ++ script.Around (outside.Reset cid) ∷ [])).proxy
  emptied_after es more cid bounded =
      let p = world_after es (begun_play how) in
      let well = world_well es (front_bounded es (script.Around (outside.Reset cid) ∷ more) bounded) in
      subst (λ (q : PlayWorld). IsEmptied q.world.proxy) (sym (after_both es (script.Around (outside.Reset cid) ∷ []) (begun_play how)))
      (device_emptied cid p.world well.counted.unfailed)

  -- A line that told an id.
  named_after : (before more : List Event) (e : Event) (id : ℕ) → AreBounded (before ++ e ∷ more) → All (λ x. x ≢ script.Close id) more
      → let p = world_after before (begun_play how) in
      (IsWell Fresh p.world → IsTold id (event_played e p).0.world.driver)
      → (event_played e p).1 ≡ connection_text id (flow_of id (event_played e p).0.world.driver)
      → IsToldIn (world_of how (before ++ e ∷ more)) id (event_played e p).1
  named_after before more e id bounded apart told is =
      let p = world_after before (begun_play how) in
      let well = world_well before (front_bounded before (e ∷ more) bounded) in
      subst (λ (q : PlayWorld). IsToldIn q.world id (event_played e p).1) (sym (after_both before (e ∷ more) (begun_play how)))
      (still_named e p (world_rests before) well id more (rest_bounded before (e ∷ more) bounded) apart (told well) (event_played e p).1 is)

  connect_named : (before more : List Event) (port id : ℕ) → AreBounded (before ++ script.Connect port ∷ more)
      → let p = world_after before (begun_play how) in
      connect_answer port p ≡ Ok id → All (λ x. x ≢ script.Close id) more
      → IsToldIn (world_of how (before ++ script.Connect port ∷ more)) id (event_played (script.Connect port) p).1
  connect_named before more port id bounded is apart =
      let p = world_after before (begun_play how) in
      let below : port ≤ 4294967295 = (rest_bounded before (script.Connect port ∷ more) bounded).0 in
      let port_fits : port < 2 ^ 32 = omega (arith, below) in
      named_after before more (script.Connect port) id bounded apart
      (λ well. connect_told p.world well (tx_at_rest p.world.rings.driver.staged (world_rests before)) port id port_fits is)
      (ap (λ (r : Result ℕ ConnectError). connect_text r (flow_after_connect r (event_played (script.Connect port) p).0.world.driver)) is)

  accept_named : (before more : List Event) (port id : ℕ) → AreBounded (before ++ script.Accept port ∷ more)
      → let p = world_after before (begun_play how) in
      accept_answer port p ≡ accepted.Conn id → All (λ x. x ≢ script.Close id) more
      → IsToldIn (world_of how (before ++ script.Accept port ∷ more)) id (event_played (script.Accept port) p).1
  accept_named before more port id bounded is apart =
      let p = world_after before (begun_play how) in
      named_after before more (script.Accept port) id bounded apart (λ well. accept_told id port p.world.driver well.waiting is)
      (ap (λ (r : Accepted). accept_text r (flow_accepted r (event_played (script.Accept port) p).0.world.driver)) is)

  close_named : (before more : List Event) (id : ℕ) → AreBounded (before ++ script.Close id ∷ more)
      → close_answer id (world_after before (begun_play how)) ≡ closed.Done
      → flow_of id (world_of how (before ++ script.Close id ∷ more)).driver ≡ None
  close_named before more id bounded is =
      let p = world_after before (begun_play how) in
      let well = world_well before (front_bounded before (script.Close id ∷ more) bounded) in
      let over = closed_unknown p.world.driver.next_port id p.world.driver well.driver.sound well.right.received.numbers is in
      subst (λ (q : PlayWorld). flow_of id q.world.driver ≡ None) (sym (after_both before (script.Close id ∷ more) (begun_play how)))
      (still_closed (script.Close id) p (world_rests before) well id more (rest_bounded before (script.Close id ∷ more) bounded)
      over)

  pub each_play : (lines : List Event) → AreBounded lines → IsLawful how lines
  each_play lines bounded =
      let w = world_of how lines in
      let well = world_well lines bounded in
      let rest = world_rests lines in
      let kept = lines_keep lines (begun_play how) at_rest bounded (opening_well how play_host) in
      record {
        events = lines_lead lines (begun_play how) at_rest bounded;
        opened = kept.opened;
        right = rightly w well fresh rest kept.opened kept.right;
        ids = kept.ids;
        silent = none_received w well kept.opened kept.right;
        bytes = carries w well fresh rest kept.opened kept.right;
        rest = holds_rest w well fresh rest;
        streams = own_streams w well fresh rest;
        answers = record {
          sent = λ id. lines_send id kept.opened kept.right.received.once lines (begun_play how) kept.right.sent.senders;
          received = λ id. lines_receive id lines (begun_play how);
          send_printed = λ before after id content is. refl;
          recv_printed = λ before after id len is. refl;
        };
        names = record {
          connected = λ before more port id is answer apart. let p = world_after before (begun_play how) in
              named_in kept.opened w kept.right id _ (subst (λ (es : List Event). IsToldIn (world_of how es) id (event_played (script.Connect port) p).1) (sym is)
              (connect_named before more port id (subst AreBounded is bounded) answer apart));
          accepted = λ before more port id is answer apart. let p = world_after before (begun_play how) in
              named_in kept.opened w kept.right id _ (subst (λ (es : List Event). IsToldIn (world_of how es) id (event_played (script.Accept port) p).1) (sym is)
              (accept_named before more port id (subst AreBounded is bounded) answer apart));
          closed = λ before more id is. subst (λ (es : List Event). close_answer id (world_after before (begun_play how)) ≡ closed.Done
              → flow_of id (world_of how es).driver ≡ None) (sym is) (close_named before more id (subst AreBounded is bounded));
        };
        shut = λ before more c is.
            subst (λ (es : List Event). IsSentIn kept.opened (world_of how es) → StaysShut kept.opened c (world_of how before) (world_of how es)) (sym is)
            (shut_both before more c kept.opened (subst AreBounded is bounded) (kept.ids before more is).sent) kept.right.sent;
        tables = holds_open w well fresh rest;
        reset = λ before more cid is. emptied_after before more cid (subst AreBounded is bounded);
        unfailed = well.counted.unfailed;
        dropped = well.counted.dropped_is;
        counts = lines_count (counts_shown (begun_play how).world.proxy.device) lines (begun_play how) [] refl;
        faults = (let told = lines_within lines (begun_play how) 0 (omega arith) in omega (arith, told));
        credit = keeps_credit w well fresh rest;
        queues = queued w well fresh rest;
        report =
            says_so (texts_of lines (begun_play how))
            (stream_texts 1 w.host.streams) _ _ _ _ _ (counters_of w.proxy.device)
            (many_guest w well fresh rest) (many_device w well fresh rest) well.overrun well.broken;
      }

-- And of each script.
pub each_script : (how : Beginning) (text : List ℕ) (lines : List (ℕ × Event)) → parse_of command.Play text ≡ Ok (Plays lines)
    → IsLawful how (map (λ l. l.1) lines)
each_script how text lines is = each_play how (map (λ l. l.1) lines) (all_bounded text lines is)
