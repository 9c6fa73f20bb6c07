-- What the guest is told of an id, in a world: the flow of a connection that it was given, until it closes the id, and then none.
use Rattle.std.proofs.lemmas.Grind.{common_steps}
use Rattle.std.proofs.Common.{◌≡◌, ℕ, ◌+◌, ◌<◌, ◌^◌, ◌==◌, ◌&&◌, inl, inr, Bool, true, false, not, cond, [], ◌∷◌, find, Option, Some, None, is_some, Result, Ok, refl, ap}
use Rattle.std.{proofs.{Common.{subst, ◌∙◌, arith}, lemmas.{Bool.Decides.nat_tests, List.Folds.find-append}}, specs.{List.All, Option.{option_map, option_or}}}
use Rattle.vs_contents.specs.CallTree.{played}
use Rattle.vs_ring_port.specs.DriverCalls.{driver_answer}
use Rattle.vs_flow.{specs.{Table.next_entry, declared.flow.Flow.Flow}, proofs.Entries.{find_none, found_passes}}
use Rattle.vs_conn.specs.End.{ConnectionEnd, asked, paid_of}
use Rattle.vs_header.specs.declared.Kind.TheVariants.{Stream}
use Rattle.vs_limits.specs.declared.TheConstants.{BUF_ALLOC, HOST_CID}
use Rattle.vs_driver_parts.specs.{Connections.{connected, flow_of, next_flow, with_opened}, State.{DriverEntry, DriverState, Listener, gone_known_as, is_known_as}}
use Rattle.vs_driver_parts.specs.{Listening.{accept_of, after_accept, is_answered, listener_on, with_waiting, without_id}, Conversations.connect_of}
use Rattle.vs_driver_parts.{specs.declared.answers.{Accepted.Accepted, ConnectError.ConnectError}, proofs.Ids.HasId}
use Rattle.laws_driver.proofs.{Calls.connect_keeps, Carrying.Fact}
use Rattle.laws_world.proofs.{Listeners.{AllWait, IsOfPort, IsOther, accepted_other, ids_found, wait_found, wait_weaker}, Names.{IsOver, Stands, WaitsApart, answered_seen}}
use Rattle.laws_world.{proofs.{Names.{flow_seen, seen, shown}, Keeping.Sees, Sound.{Goes, IsWell, rests_on}}, specs.{Names.times_closed, World.{World, first_cid}}}
use Rattle.vs_conn.specs.declared.end.Owed.TheVariants as owed
use Rattle.vs_driver_parts.specs.declared.answers.Accepted.TheVariants as accepted

-- The guest was told an id that was given: its connection is answered, and waits on no port.
pub record IsTold (id : ℕ) (s : DriverState) : Type 0 where
  pub given : id < s.next_id
  pub answered : is_answered s id ≡ true
  pub waits : AllWait (IsOther id) s.listeners

module _ {fresh : Type 0} (w : World) (well : IsWell fresh w) (id : ℕ) where
  abbrev s : DriverState
  s = w.driver

  told_stands : IsTold id s → (f : Flow) × Sees (Stands id (Some f)) s
  told_stands told =
      let x = answered_seen s.next_port id s well.driver.sound well.right.received.numbers told.answered in (
        x.0,
        record { given = told.given; next_is = well.right.received.numbers.given; ids = well.right.received.numbers.slots; is = x.1; waits = inr told.waits },
      )

  unknown_stands : id < s.next_id → seen id s.table s.gone ≡ None → Sees (Stands id None) s
  unknown_stands given is = record { given = given; next_is = well.right.received.numbers.given; ids = well.right.received.numbers.slots; is = is; waits = inl refl }

  -- The flow that the driver tells.
  stands_flow : (o : Option Flow) → Sees (Stands id o) s → flow_of id s ≡ o
  stands_flow o x = flow_seen s.next_port id s well.driver.sound well.right.received.numbers ∙ ap (option_map (λ (y : Bool × Flow). y.1)) x.is ∙ by o
    where
      by : (o : Option Flow) → option_map (λ (y : Bool × Flow). y.1) (shown o) ≡ o
      by None = refl
      by (Some f) = refl

-- So it is in each world that this one leads to: where the id isn't closed, and where it was.
module _ {fresh : Type 0} (w v : World) (well : IsWell fresh w) (goes : Goes well v) (id : ℕ) where
  pub still_told : times_closed id v.journal ≡ times_closed id w.journal → IsTold id w.driver
      → (f : Flow) × (flow_of id w.driver ≡ Some f) × (flow_of id v.driver ≡ Some f)
  still_told same told =
      let x = told_stands w well id told in
      (x.0, stands_flow w well id (Some x.0) x.1, stands_flow v goes.well id (Some x.0) (goes.named.stays id (Some x.0) (inr same) x.1))

  pub still_over : IsOver id w.driver → flow_of id v.driver ≡ None
  still_over over = stands_flow v goes.well id None (goes.named.stays id None (inl refl) (unknown_stands w well id over.0 over.1))

-- The connection that opened last is answered, where the guest asked for it.
last_answered : (s : DriverState) (f : Flow) (end : ConnectionEnd) → s.next_id ≡ 1 + s.table.given → All (HasId 1) s.table.entries
    → All (λ e. e.slot < s.table.given) s.table.entries → is_answered (with_opened f end false s) s.next_id ≡ true
last_answered s f end next ids given =
    let new : DriverEntry = next_entry s.table f (record { id = s.next_id; end = end; unread = []; unanswered = false; closed = false }) in
    let here : (s.next_id == s.next_id) ≡ true = grind (arith, nat_tests) in
    let none : find (is_known_as s.next_id) s.table.entries ≡ None = find_none (is_known_as s.next_id) s.table.entries
    (λ k d less. let own = ids k d less in let slot = given k d less in grind (arith, nat_tests, own, slot, next)) in
    ap (λ (y : Option DriverEntry). elim y as (λ _. Bool) [ None ↦ is_some (gone_known_as s.next_id s) | Some e ↦ not e.value.unanswered ])
    (find-append (is_known_as s.next_id) s.table.entries (new ∷ [])
    ∙ ap (λ (y : Option DriverEntry). option_or y (find (is_known_as s.next_id) (new ∷ []))) none
    ∙ ap (λ (b : Bool). cond (b && true) (Some new) None) here)

-- A connect that gave an id told it.
module _ {fresh : Type 0} (w : World) (well : IsWell fresh w) (rest : w.rings.driver.staged.tx ≡ []) where
  abbrev Before : Fact
  Before part s log = Sees WaitsApart s × (s.next_id ≡ 1 + s.table.given) × All (HasId 1) s.table.entries

  abbrev After : ℕ → Result ℕ ConnectError → Fact
  After id r part s log = r ≡ Ok id → IsTold id s

  pub connect_told : (host id : ℕ) → host < 2 ^ 32 → (played driver_answer (connect_of host w.driver) (w.rings.lists, w.rings.driver)).0.1 ≡ Ok id
      → IsTold id (played driver_answer (connect_of host w.driver) (w.rings.lists, w.rings.driver)).0.0
  connect_told host id port is =
      let told = rests_on fresh w well (connect_of host w.driver) (λ x. x.0) Before (λ x. After id x.1) rest
      (well.waiting, well.right.received.numbers.given, well.right.received.numbers.slots)
      (λ rests. connect_keeps true true first_cid HOST_CID host Before (After id) (record {
        refused = λ why s log held is. absurd cc;
        opens = λ s log fits free m was fair held is.
            let same : s.next_id ≡ id = cc in
            subst (λ (k : ℕ). IsTold k (record (connected HOST_CID host s) { in_flight = 0; staged = 0 })) same (record {
              given = omega arith;
              answered = last_answered s (next_flow HOST_CID host s) (paid_of (asked Stream BUF_ALLOC) owed.Request) held.1 held.2 fits.sound.were_given;
              waits = wait_weaker (IsOfPort s.next_id held.0.0) (IsOther s.next_id) (λ port other of at. let less = of.0 in absurd (omega (arith, less, at)))
                  s.listeners held.0.1;
            });
      }) (omega arith) port (λ hosts. refl) w.driver _ rests) is in
      record { given = told.given; answered = told.answered; waits = told.waits }

-- An accept that gave one did.
module _ (id port : ℕ) (s : DriverState) (waits : Sees WaitsApart s) where
  gives : (l : Listener) → listener_on port s.listeners ≡ Some l → (o : Option ℕ) → find (is_answered s) l.waiting ≡ o
      → (elim o as (λ _. Accepted) [ None ↦ accepted.None | Some x ↦ accepted.Conn x ]) ≡ accepted.Conn id
      → IsTold id (elim o as (λ _. DriverState) [ None ↦ s | Some x ↦ record s { listeners = with_waiting port (without_id x) s.listeners } ])
  gives l there o found is = grind (arith, common_steps, ids_found, IsOfPort, wait_found, found_passes, accepted_other)

  pub accept_told : accept_of port s ≡ accepted.Conn id → IsTold id (after_accept port s)
  accept_told is = grind (arith, common_steps, gives)
