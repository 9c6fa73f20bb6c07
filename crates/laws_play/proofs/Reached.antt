-- What holds of a world in which nothing is staged, where it is well.
use Rattle.std.proofs.lemmas.Grind.{common_steps}
use Rattle.laws_world.proofs.{Carried.{given_is, numbered, pending_of, read_front, received_front, to_device, to_driver, wrote_is}, Names.flow_opened, Sound.IsWell}
use Rattle.laws_world.{proofs.Waiting.{at_device, streams_among}, specs.{Sides.{device_ends, driver_ends, log_with_staged}, Events.{is_at_rest}, Pipes.IsRightIn}}
use Rattle.laws_world.specs.World.{World, first_cid}
use Rattle.vs_flow.specs.{Connection.Connection, declared.flow.Flow.Flow}
use Rattle.std.proofs.Common.{[], ap, Bool, false, get_or, length, List, not, refl, subst, suc, sym, true, Option, ℕ, ◌≤◌, ◌||◌, ◌++◌, ◌∷◌, ◌≡◌, ◌≢◌, ◌∙◌, arith}
use Rattle.std.{proofs.lemmas.{List.{Elements.{All-map, Contains-get_or}, length-map, Kept.AllPairs-cons}, Bool.and_parts}, specs.{List.AllPairs, Option.option_map_or}}
use Rattle.laws_history.specs.{History.{History, IsFair, MayPut, Put, Side, gots, puts}, declared.packet.Packet.Packet}
use Rattle.laws_tables.{specs.{Ends.{FlowEnd, flows_of, is_among, replied}, Matches.{Matches, MatchesFlows}}, proofs.{Fair.fair_now, Tables.{driver_open, table_distinct}}}
use Rattle.vs_page.specs.{Fair.{IsFairLog, IsPrefixOf, current, payload_got, payload_put}, Log.{Device, Driver, HasGotAll, Log, Role, side_of}, Open.{WasOpened, is_left_open}}
use Rattle.vs_page.{specs.Open.is_open, proofs.Opened.was_opened}
use Rattle.vs_outside.{specs.{Host.Stream, HostBytes.{host_wrote, read_after_ok, wrote_after_connect}}, proofs.Connections.{its_stream, one_id}}
use Rattle.laws_driver.{specs.{Honest.slots_of, Resets.MarksResets, Carried.{Calls.{account_of, received_by}, Senders.{IsRightJournal, IsSent}}}, proofs.Carried.Senders.still_sent}
use Rattle.laws_play.specs.Headline.{Carries, HasOwnStreams, HoldsOpen, HoldsTheRest, IsQueued, KeepsCredit, KeepsIds, PutsWithinCredit, device_flows, device_log, device_replies}
use Rattle.laws_play.specs.Headline.{driver_log, guest_flows}
use Rattle.laws_device.specs.Streams.{is_waiting_for_request}

-- No transmit page is staged.
-- A flow that is open was opened by the log.
opened_by : (role : Role) (first : ℕ) (f : Flow) (log : Log) (owed : Bool) → is_open role first f log owed ≡ true
    → WasOpened role first f log
opened_by role first f log owed is = was_opened role first f log (and_parts (is_left_open role first f log) (not owed) is).0

-- Each packet put on a fair log is within credit.
allowed_at : (side : Side) (newer older : History) (p : Packet) → IsFair side (newer ++ Put p ∷ older)
    → MayPut side (puts older) (gots older) p
allowed_at side [] older p fair = fair.0
allowed_at side (x ∷ newer) older p fair = allowed_at side newer older p fair.1

within : (role : Role) (log : Log) → IsFairLog role log → PutsWithinCredit role log
within role log fair f newer older p is other =
    ((allowed_at (side_of role f) newer older p (subst (IsFair (side_of role f)) is (fair_now role f log (fair f)))).honest other).fits

-- The flows of entries are distinct where the entries' are.
flows_apart : (xs : List FlowEnd) → AllPairs (λ d e. d.flow ≢ e.flow) xs → AllPairs (λ f g. f ≢ g) (flows_of xs)
flows_apart [] apart = λ i j d before less. absurd (omega (arith, less))
flows_apart (x ∷ xs) apart =
    AllPairs-cons (λ (f g : Flow). f ≢ g) x.flow (flows_of xs)
    (All-map (λ (g : Flow). x.flow ≢ g) (λ (y : FlowEnd). y.flow) xs (λ k d less. apart 0 (suc k) d (omega arith) (omega (arith, less))))
    (flows_apart xs (λ i j d before less. apart (suc i) (suc j) d (omega (arith, before)) (omega (arith, less))))

module _ {fresh : Type 0} (w : World) (well : IsWell fresh w) (yes : fresh) (rest : is_at_rest w.rings.driver.staged ≡ true) where
  -- The log with what is staged is the log.
  pub log_is : log_with_staged w.rings.driver ≡ driver_log w
  log_is = grind (arith, common_steps)

  driver_fair : IsFairLog Driver (driver_log w)
  driver_fair = subst (IsFairLog Driver) log_is (well.sound.fair Driver)

  device_fair : IsFairLog Device (device_log w)
  device_fair = well.sound.fair Device

  driver_ties : HasGotAll (driver_log w) (device_log w)
  driver_ties = subst (λ (log : Log). HasGotAll log (device_log w)) log_is (well.sound.ties Driver)

  device_ties : HasGotAll (device_log w) (driver_log w)
  device_ties = subst (λ (log : Log). HasGotAll (device_log w) log) log_is (well.sound.ties Device)

  driver_matches : MatchesFlows Driver first_cid (driver_ends w.driver) (driver_log w)
  driver_matches = (subst (λ (log : Log). Matches Driver first_cid (driver_ends w.driver) log) log_is (well.sound.matches Driver)).flows

  device_matches : MatchesFlows Device first_cid (device_ends w.proxy) (device_log w)
  device_matches = (well.sound.matches Device).flows

  -- What holds of the log with what is staged holds of the log.
  at_rest : (P : Log → Type 0) → P (log_with_staged w.rings.driver) → P (driver_log w)
  at_rest P of_staged = subst P log_is of_staged

  -- By a journal that is right.
  module _ (opened : ℕ → Connection) (right : IsRightIn opened w) where
    pub rightly : IsRightJournal 1 opened w.journal (driver_log w) (slots_of w.driver)
    rightly = at_rest (λ log. IsRightJournal 1 opened w.journal log (slots_of w.driver)) right

    pub carries : (c : Connection) → 1 ≤ c.number → Carries opened w c
    carries c some = record {
      to_guest = λ id is. subst (λ (k : Connection). IsPrefixOf (received_by id w.journal) (host_wrote k w.host)) is
          (received_front w well yes opened right id (subst (λ (k : Connection). 1 ≤ k.number) (sym is) some));
      to_host = read_front w well yes opened right c some;
      device_put = wrote_is w well yes c some;
      driver_got = at_rest (λ log. IsPrefixOf (payload_got Driver c log) (payload_put Device c (device_log w))) (to_driver w well c);
      device_got = at_rest (λ log. IsPrefixOf (payload_got Device c (device_log w)) (payload_put Driver c log)) (to_device w well c);
      given = given_is w well yes c some;
    }

  -- And by ids that got their connections later.
  pub keeps_ids : (opened : ℕ → Connection) → ((id : ℕ) → 1 ≤ (well.opened id).number → opened id ≡ well.opened id) → KeepsIds opened w
  keeps_ids opened on = record {
    flows = λ id f is.
        let own = flow_opened (account_of 1 well.opened w.journal) (log_with_staged w.rings.driver) w.driver well.right.received id f is in
        let same = on id own.1 in (ap (λ (k : Connection). k.flow) same ∙ own.0, subst (λ (k : Connection). 1 ≤ k.number) (sym same) own.1);
    present = λ i d less. let e = get_or w.driver.table.entries i d in let held = well.right.received.held i d less in
        at_rest (λ log. opened e.value.id ≡ current Driver e.flow log)
        (on e.value.id (subst (λ (k : Connection). 1 ≤ k.number) (sym held.present) held.some) ∙ held.present);
    sent = at_rest (λ log. IsSent opened w.journal log)
        (still_sent well.opened opened on w.journal (log_with_staged w.rings.driver) (log_with_staged w.rings.driver) (λ k. refl) well.right.sent);
  }

  pub holds_rest : HoldsTheRest w
  holds_rest = λ i d less. pending_of w well yes _ (Contains-get_or w.proxy.device.table.entries i d less)

  pub own_streams : HasOwnStreams w
  own_streams = record {
    numbered = numbered w well yes;
    one = λ i j c. one_id i j c w.host;
    wrote = λ i s c at is. ap (λ (o : Option Stream). option_map_or wrote_after_connect o []) (sym (its_stream i c w.host is ∙ at));
    read = λ i s c at is. ap (λ (o : Option Stream). option_map_or read_after_ok o []) (sym (its_stream i c w.host is ∙ at));
  }

  -- The tables.
  open_at_guest : (f : Flow) → is_among f (guest_flows w) ≡ is_open Driver first_cid f (driver_log w) (is_among f
      (replied (driver_ends w.driver).replies))
  open_at_guest f = driver_open first_cid (driver_ends w.driver) (driver_log w) f driver_matches

  left_of : (a b : Bool) → (a || b) ≡ true → b ≡ false → a ≡ true
  left_of a b is none = grind (arith, common_steps)

  pub holds_open : HoldsOpen w
  holds_open = record {
    guest = record {
      distinct = flows_apart (driver_ends w.driver).entries (table_distinct Driver first_cid (driver_ends w.driver)
          (driver_log w) driver_matches);
      these = open_at_guest;
    };
    device = record {
      distinct = flows_apart (device_ends w.proxy).entries (table_distinct Device first_cid (device_ends w.proxy)
          (device_log w) device_matches);
      these = at_device w well yes;
    };
    streams = streams_among w well yes;
    guest_since = λ f there. opened_by Driver first_cid f (driver_log w) _ (sym (open_at_guest f) ∙ there);
    device_since = λ f there begun. opened_by Device first_cid f (device_log w) (is_among f (device_replies w))
        (left_of (is_open Device first_cid f (device_log w) (is_among f (device_replies w))) (is_waiting_for_request f w.host (device_log w))
        (sym (at_device w well yes f) ∙ there) begun);
    marks = at_rest MarksResets well.marks;
  }

  pub keeps_credit : KeepsCredit w
  keeps_credit = record {
    guest = within Driver (driver_log w) driver_fair;
    device = within Device (device_log w) device_fair;
    driver_fair = driver_fair;
    device_fair = device_fair;
    unread = λ i d less. let held = (well.driver.entries i d less).buffer in (held.fits, held.space);
    pending = λ i d less. let fits = (well.device.fits.entries i d less).bytes in (omega (arith, fits.unread, fits.within), fits.alloc);
    broken = well.broken;
    overrun = well.overrun;
  }

  pub queued : IsQueued w
  queued = record { to_guest = driver_ties; to_host = device_ties }

  -- How many entries each table has.
  pub many_guest : length w.driver.table.entries ≡ length (guest_flows w)
  many_guest = sym (length-map (driver_ends w.driver).entries (λ (x : FlowEnd). x.flow) ∙ length-map w.driver.table.entries _)

  pub many_device : length w.proxy.device.table.entries ≡ length (device_flows w)
  many_device = sym (length-map (device_ends w.proxy).entries (λ (x : FlowEnd). x.flow) ∙ length-map w.proxy.device.table.entries _)
