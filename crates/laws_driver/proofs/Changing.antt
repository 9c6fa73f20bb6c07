-- Calls that make no use of the ring: the driver still matches its log.
use Rattle.std.proofs.Common.{◌≡◌, ℕ, ◌≤◌, Bool, min, List, [], ◌∷◌, length, Option, Some, None, refl, sym, subst, ◌∙◌, ap, arith}
use Rattle.vs_conn.{proofs.Steps.{abort_follows, ask_follows, forward_follows, grow_follows, shut_follows}, specs.{End.{ConnectionEnd, grown, wanting_credit}, Follows.Follows}}
use Rattle.vs_conn.specs.declared.end.State.{State}
use Rattle.vs_credit.specs.Credit.{unread_of}
use Rattle.laws_history.specs.History.{Side, gots, puts, History}
use Rattle.vs_page.specs.Log.{Driver, Log, side_of}
use Rattle.laws_tables.specs.{Both.{Aborts, Decides, Decision, Forwards, Grows, MayDecide, Shuts, WantsCredit, decided}, Ends.Ends, Heard.heard_of, Matches.Matches, Steps.with_end}
use Rattle.laws_tables.proofs.{Going.{Goes, goes_then, one_step, stays}, Keeps.changes, Slots.found_by, Tables.driver_begun}
use Rattle.vs_driver_parts.specs.{State.{DriverConnection, DriverEntry, DriverState, entry_known_as, is_known_as}, Connections.after_close}
use Rattle.vs_driver_parts.specs.Connections.{after_closing, after_grow, after_read, after_recv, after_shut, after_shutdown, after_unlisten}
use Rattle.vs_driver_parts.specs.Connections.{all_closed, entry_closed, waiting_on, with_connection}
use Rattle.vs_driver_parts.{specs.Listening.{after_accept, listening, next_accepted, with_waiting, without_id}, proofs.Growing.{MayGrow, may_grow}}
use Rattle.vs_driver_parts.proofs.Ids.{found_under}
use Rattle.laws_driver.proofs.Calling.{close_to, grow_to, recv_to, shutdown_to}
use Rattle.laws_driver.{specs.Honest.{IsFitState, ends_of_state}, proofs.{Going.{at_log, seat}, Tabling.{Stands, connection_ends}}}
use Rattle.laws_driver.proofs.{Tabling.{connection_fits, entry_fits, has_end}, Fits.{IsHeldBy, closing_fits, grow_fits, holds_same, read_fits, shut_fits}}
use Rattle.vs_conn.specs.declared.end.State.TheVariants as state
use Rattle.vs_driver_parts.specs.Connections as connections

-- What a step does that puts and gets nothing.
pub record Changes (hosts : Bool) (s t : DriverState) : Type 0 where
  pub matches : (first : ℕ) (log : Log) → Matches Driver first (ends_of_state s) log → Matches Driver first (ends_of_state t) log
  pub fits : IsFitState hosts t
  pub broken : t.broken ≡ s.broken
  pub goes : (first : ℕ) (log : Log) → Matches Driver first (ends_of_state s) log → Goes Driver (seat s log) (seat t log)

module _ {hosts : Bool} where
  pub same : (s : DriverState) → IsFitState hosts s → Changes hosts s s
  same s fits = record { matches = λ first log m. m; fits = fits; broken = refl; goes = λ first log m. stays Driver (seat s log) (seat s log) refl }

  pub stands_known : (id : ℕ) (s : DriverState) (e : DriverEntry) → IsFitState hosts s → entry_known_as id s ≡ Some e → Stands s e
  stands_known id s e fits found =
      let by = found_by (is_known_as id) s.table.entries e found in
      record { under = found_under (is_known_as id) s.table e fits.sound found; contains = by.0 }

-- Whatever follows what the end before it followed.
abbrev pub FollowsAs : ConnectionEnd → ConnectionEnd → Type 0
FollowsAs old new = (side : Side) (h : History) → Follows side (puts h) (gots h) old → Follows side (puts h) (gots h) new

module _ {hosts : Bool} where
  connection_changes : (s : DriverState) (e : DriverEntry) (c : DriverConnection) (what : Decision) → IsFitState hosts s → Stands s e → IsHeldBy c
      → c.end.kind ≡ e.value.end.kind → FollowsAs e.value.end c.end → c.end ≡ decided e.value.end what → MayDecide e.value.end what
      → Changes hosts s (with_connection e.slot c s)
  connection_changes s e c what fits stands held kind follows is may = record {
    matches = λ first log m.
        let has = has_end s e fits stands in
        let begun = driver_begun first (ends_of_state s) log e.flow e.value.end m.flows has in
        subst (λ (x : Ends). Matches Driver first x log) (sym (connection_ends s e c fits stands))
        (changes Driver first e.flow e.value.end c.end (ends_of_state s) log m has begun kind
        (follows (side_of Driver e.flow) (heard_of Driver first e.flow log)));
    fits = connection_fits s e.slot c fits held (kind ∙ (entry_fits s e fits stands).kind);
    broken = refl;
    goes = λ first log m.
        let has = has_end s e fits stands in
        one_step Driver (seat s log) (seat (with_connection e.slot c s) log) (Decides e.flow e.value.end what)
        (has, driver_begun first (ends_of_state s) log e.flow e.value.end m.flows has, may)
        (at_log log _ _ (ap (λ (x : ConnectionEnd). with_end e.flow x (ends_of_state s)) (sym is) ∙ sym (connection_ends s e c fits stands)));
  }

  -- Credit is wanted.
  pub wanting_changes : (s : DriverState) (e : DriverEntry) → IsFitState hosts s → Stands s e → Changes hosts s (connections.with_end (wanting_credit e.value.end) e s)
  wanting_changes s e fits stands =
      let held = (entry_fits s e fits stands).buffer in
      connection_changes s e (record e.value { end = wanting_credit e.value.end }) WantsCredit fits stands (holds_same e.value.end.credit _ e.value.unread held refl refl refl) refl
      (λ side h follows. ask_follows _ _ _ e.value.end follows) refl tt

  -- recv.
  read_changes : (n : ℕ) (s : DriverState) (e : DriverEntry) → IsFitState hosts s → Stands s e → Changes hosts s (with_connection e.slot (after_read n e.value) s)
  read_changes n s e fits stands =
      let held = (entry_fits s e fits stands).buffer in
      let k : ℕ = min n (length e.value.unread) in
      let within : k ≤ length e.value.unread = omega arith in
      let least : k ≤ unread_of e.value.end.credit = omega (arith, within, held.unread) in
      connection_changes s e (after_read n e.value) (Forwards k) fits stands (read_fits n e.value held) refl
      (λ side h follows. forward_follows _ _ _ e.value.end k follows least) refl least

  pub recv_changes : (id n : ℕ) (s : DriverState) → IsFitState hosts s → Changes hosts s (after_recv id n s)
  recv_changes id n s fits = recv_to (Changes hosts s) id s (same s fits) n (λ e found. read_changes n s e fits (stands_known id s e fits found))
      (record { matches = λ first log m. m; fits = fits; broken = refl; goes = λ first log m. stays Driver _ _ refl })

  -- shutdown.
  shut_changes : (bits : ℕ) (s : DriverState) (e : DriverEntry) → IsFitState hosts s → Stands s e → Changes hosts s (with_connection e.slot (after_shut bits e.value) s)
  shut_changes bits s e fits stands =
      let held = (entry_fits s e fits stands).buffer in
      connection_changes s e (after_shut bits e.value) (Shuts bits) fits stands (shut_fits bits e.value held) refl
      (λ side h follows. shut_follows _ _ _ e.value.end bits follows) refl tt

  pub shutdown_changes : (id bits : ℕ) (s : DriverState) → IsFitState hosts s → Changes hosts s (after_shutdown id bits s)
  shutdown_changes id bits s fits =
      shutdown_to (Changes hosts s) id s (same s fits) bits (λ e found. shut_changes bits s e fits (stands_known id s e fits found))

  -- grow.
  raise_changes : (alloc : ℕ) (s : DriverState) (e : DriverEntry) → IsFitState hosts s → Stands s e → MayGrow e.value.end alloc
      → Changes hosts s (connections.with_end (grown e.value.end alloc) e s)
  raise_changes alloc s e fits stands may =
      let held = (entry_fits s e fits stands).buffer in
      connection_changes s e (record e.value { end = grown e.value.end alloc }) (Grows alloc) fits stands (grow_fits alloc e.value held may.rises may.most) refl
      (λ side h follows. grow_follows _ _ _ e.value.end alloc follows may.live may.rises may.most) refl (may.live, may.rises, may.most)

  pub grow_changes : (id alloc : ℕ) (s : DriverState) → IsFitState hosts s → Changes hosts s (after_grow id alloc s)
  grow_changes id alloc s fits = grow_to (Changes hosts s) id s (same s fits) alloc
      (λ e found done. raise_changes alloc s e fits (stands_known id s e fits found) (may_grow e.value.end alloc done))

-- close.
closing_follows : (st : State) (c : DriverConnection) → FollowsAs c.end (after_closing st c).end
closing_follows state.Live c = λ side h follows. shut_follows _ _ _ c.end 3 follows
closing_follows _ c = λ side h follows. abort_follows _ _ _ c.end follows

abbrev closing : State → Decision
closing state.Live = Shuts 3
closing _ = Aborts

closing_is : (st : State) (c : DriverConnection)
    → ((after_closing st c).end ≡ decided c.end (closing st)) × MayDecide c.end (closing st) × ((after_closing st c).end.kind ≡ c.end.kind)
closing_is state.Live c = (refl, tt, refl)
closing_is _ c = (refl, tt, refl)

module _ {hosts : Bool} where
  entry_closed_changes : (s : DriverState) (e : DriverEntry) → IsFitState hosts s → Stands s e → Changes hosts s (entry_closed e s)
  entry_closed_changes s e fits stands =
      let held = (entry_fits s e fits stands).buffer in
      let is = closing_is e.value.end.state e.value in
      let c = connection_changes s e (after_closing e.value.end.state e.value) (closing e.value.end.state) fits stands (closing_fits e.value.end.state e.value held)
      is.2 (closing_follows e.value.end.state e.value) is.0 is.1 in
      record { matches = c.matches; fits = c.fits; broken = c.broken; goes = c.goes }

  pub close_changes : (id : ℕ) (s : DriverState) → IsFitState hosts s → Changes hosts s (after_close id s)
  close_changes id s fits =
      close_to (Changes hosts s) id s (same s fits) (λ e found. entry_closed_changes s e fits (stands_known id s e fits found))
      (λ g. record { matches = λ first log m. m; fits = fits; broken = refl; goes = λ first log m. stays Driver _ _ refl })

  -- unlisten.
  all_closed_changes : (ids : List ℕ) (s : DriverState) → IsFitState hosts s → Changes hosts s (all_closed ids s)
  all_closed_changes [] s fits = same s fits
  all_closed_changes (id ∷ ids) s fits =
      let one = close_changes id s fits in
      let rest = all_closed_changes ids (after_close id s) one.fits in
      record {
        matches = λ first log m. rest.matches first log (one.matches first log m);
        fits = rest.fits;
        broken = rest.broken ∙ one.broken;
        goes = λ first log m. goes_then Driver _ _ _ (one.goes first log m) (rest.goes first log (one.matches first log m));
      }

  pub unlisten_changes : (port : ℕ) (s : DriverState) → IsFitState hosts s → Changes hosts s (after_unlisten port s)
  unlisten_changes port s fits =
      let c = all_closed_changes (waiting_on port s) s fits in
      record { matches = c.matches; fits = c.fits; broken = c.broken; goes = c.goes }

  -- listen and accept.
  pub listen_changes : (port : ℕ) (s : DriverState) → IsFitState hosts s → Changes hosts s (listening port s)
  listen_changes port s fits = record { matches = λ first log m. m; fits = fits; broken = refl; goes = λ first log m. stays Driver _ _ refl }

  accept_by : (o : Option ℕ) (port : ℕ) (s : DriverState) → IsFitState hosts s
      → Changes hosts s (elim o [ None ↦ s | Some id ↦ record s { listeners = with_waiting port (without_id id) s.listeners } ])
  accept_by None port s fits = same s fits
  accept_by (Some id) port s fits = record { matches = λ first log m. m; fits = fits; broken = refl; goes = λ first log m. stays Driver _ _ refl }

  pub accept_changes : (port : ℕ) (s : DriverState) → IsFitState hosts s → Changes hosts s (after_accept port s)
  accept_changes port s fits = accept_by (next_accepted port s) port s fits
