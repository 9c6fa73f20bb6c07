-- Flows that may be used again, through each change of the table and of those that are kept.
use Rattle.std.proofs.Common.{◌≡◌, ◌+◌, ◌-◌, ◌<◌, ◌≤◌, ◌==◌, ◌&&◌, ◌||◌, not, nat_le, nat_lt, ◌⊎◌, inl, inr, ℕ, zero, suc, drop, length, Bool, true, false, cond, List, [], ◌∷◌}
use Rattle.std.{proofs.{Common.{◌++◌, get_or, Option, Some, None, is_some, refl, sym, ap, ◌∙◌, subst, arith}, lemmas.Bool.Decides.nat_tests}, specs.List.{All}}
use Rattle.std.specs.Option.{option_and_then, option_map_or, option_map, option_or}
use Rattle.vs_flow.specs.{CleanPairs.{goes_to, kept, kept_if, of_host, oldest}, Flow.{host_asks, is_assigned, is_host, same_flow}, declared.flow.Flow.Flow}
use Rattle.vs_flow.{specs.Table.{Table, IsTable, entry_of, entry_under, revalued, with_entry, with_value, without, next_entry}, proofs.Entries.{find_none, found_passes, same_flow_false}}
use Rattle.vs_flow.proofs.Lookups.{entry_of-with_entry, entry_of-with_value, entry_of-without, entry_under_found}
use Rattle.vs_limits.specs.declared.TheConstants.{CLEAN_PAIRS, DRIVER_CONNECTIONS, HOST_CID, LAST_ID, LAST_PORT}
use Rattle.vs_page.proofs.Flows.{same_is, same_self}
use Rattle.laws_tables.{specs.{Ends.{is_among, without as flows_without}, Steps.port_after}, proofs.Entries.{host_distinct, kept_distinct, without_distinct}}
use Rattle.laws_tables.proofs.{Entries.without_own, Found.{either_true, found_among}}
use Rattle.vs_driver_parts.specs.{Connections.{connect_refusal, free_flow, fresh_flow, is_full, next_flow}, SlotFields.{AllReuse, AreClean, AreKept, KeepsClean, MayReuse}}
use Rattle.vs_driver_parts.specs.{State.{DriverConnection, DriverEntry, DriverState, slots_held}, declared.{slots.Slots.TheInside.Inside, answers.ConnectError.ConnectError}}
use Rattle.vs_driver_parts.proofs.Ids.{entry_has}

-- What is so of each of them.
pub each_at : (port : ℕ) (t : Table DriverConnection) (f : Flow) (fs : List Flow) → AllReuse port t fs → is_among f fs ≡ true → MayReuse port t f
each_at port t f [] each is = absurd cc
each_at port t f (g ∷ gs) each is = by (same_flow f g) refl is (each_at port t f gs each.1)
  where
    by : (b : Bool) → same_flow f g ≡ b → (b || is_among f gs) ≡ true → (is_among f gs ≡ true → MayReuse port t f) → MayReuse port t f
    by true same is rest = subst (λ h. MayReuse port t h) (sym (same_is f g same)) each.0
    by false other is rest = rest is

pub each_to : (port next : ℕ) (t u : Table DriverConnection) (fs : List Flow)
    → ((f : Flow) → is_among f fs ≡ true → MayReuse port t f → MayReuse next u f) → AllReuse port t fs → AllReuse next u fs
each_to port next t u [] step each = tt
each_to port next t u (f ∷ fs) step each = (
  step f (ap (λ b. b || is_among f fs) (same_self f)) each.0,
  each_to port next t u fs (λ g is. step g (either_true (same_flow g f) (is_among g fs) is)) each.1,
)

each_drop : (port : ℕ) (t : Table DriverConnection) (n : ℕ) (fs : List Flow) → AllReuse port t fs → AllReuse port t (drop n fs)
each_drop port t zero fs each = each
each_drop port t (suc n) [] each = tt
each_drop port t (suc n) (f ∷ fs) each = each_drop port t n fs each.1

each_push : (port : ℕ) (t : Table DriverConnection) (f : Flow) (fs : List Flow) → AllReuse port t fs → MayReuse port t f
    → AllReuse port t (fs ++ f ∷ [])
each_push port t f [] each may = (may, tt)
each_push port t f (g ∷ gs) each may = (each.0, each_push port t f gs each.1 may)

each_without : (port : ℕ) (t : Table DriverConnection) (f : Flow) (fs : List Flow) → AllReuse port t fs → AllReuse port t (flows_without f fs)
each_without port t f [] each = tt
each_without port t f (g ∷ gs) each = by (same_flow f g) (each_without port t f gs each.1)
  where
    by : (b : Bool) → AllReuse port t (flows_without f gs) → AllReuse port t (cond b (flows_without f gs) (g ∷ flows_without f gs))
    by true rest = rest
    by false rest = (each.0, rest)

-- A flow of the table is none of them.
pub none_kept : (port : ℕ) (t : Table DriverConnection) (f : Flow) (fs : List Flow) (e : DriverEntry) → AllReuse port t fs → entry_of t f ≡ Some e
    → is_among f fs ≡ false
none_kept port t f fs e each there = by (is_among f fs) refl
  where
    by : (b : Bool) → is_among f fs ≡ b → b ≡ false
    by true is = let both : Some e ≡ None = sym there ∙ (each_at port t f fs each is).absent in absurd cc
    by false is = refl

-- What is so of all, looked into and put together.
pub all_clean : (port : ℕ) (t : Table DriverConnection) (fs : List Flow) → AreClean port t fs → KeepsClean port t fs
unfolding AreClean
all_clean port t fs clean = clean

pub are_clean : (port : ℕ) (t : Table DriverConnection) (fs : List Flow) → KeepsClean port t fs → AreClean port t fs
unfolding AreClean
are_clean port t fs all = all

-- One whose host port the device assigns is none of them.
pub none_assigned : (port : ℕ) (t : Table DriverConnection) (f : Flow) (fs : List Flow) → AreClean port t fs → host_asks f ≡ true
    → is_among f fs ≡ false
none_assigned port t f fs clean assigned = by (is_among f fs) refl
  where
    by : (b : Bool) → is_among f fs ≡ b → b ≡ false
    by true is = let both : true ≡ false = sym assigned ∙ (each_at port t f fs (all_clean port t fs clean).each is).own in absurd cc
    by false is = refl

-- A connection of the table is another.
pub clean_value : (port : ℕ) (t : Table DriverConnection) (fs : List Flow) (slot : ℕ) (c : DriverConnection) → AreClean port t fs
    → AreClean port (with_value t slot c) fs
clean_value port t fs slot c clean = are_clean port (with_value t slot c) fs (record {
  each = each_to port port t (with_value t slot c) fs (λ f is may. record {
    own = may.own;
    given = may.given;
    absent = entry_of-with_value t slot c f ∙ ap (option_map (revalued slot c)) may.absent;
  }) (all_clean port t fs clean).each;
  once = (all_clean port t fs clean).once;
})

-- One comes into the table, of a flow that isn't kept.
pub clean_entry : (port next : ℕ) (t : Table DriverConnection) (f : Flow) (c : DriverConnection) (fs : List Flow) → AreClean port t fs
    → is_among f fs ≡ false → port ≤ next → AreClean next (with_entry t f c) fs
clean_entry port next t f c fs clean none more = are_clean next (with_entry t f c) fs (record {
  each = each_to port next t (with_entry t f c) fs (λ g is may. record {
    own = may.own;
    given = let below = may.given in omega (arith, below, more);
    absent = entry_of-with_entry t f c g ∙ ap (λ o. option_or o (cond (same_flow g f) (Some (next_entry t f c)) None)) may.absent
        ∙ ap (λ b. cond b (Some (next_entry t f c)) None) (apart g is);
  }) (all_clean port t fs clean).each;
  once = (all_clean port t fs clean).once;
})
  where
    apart : (g : Flow) → is_among g fs ≡ true → same_flow g f ≡ false
    apart g is = by (same_flow g f) refl
      where
        by : (b : Bool) → same_flow g f ≡ b → b ≡ false
        by true same = let both : true ≡ false = sym is ∙ ap (λ h. is_among h fs) (same_is g f same) ∙ none in absurd cc
        by false other = refl

-- One leaves it, and its flow is kept, or not.
pub clean_without : (port : ℕ) (t : Table DriverConnection) (fs : List Flow) (slot : ℕ) → IsTable t → AreClean port t fs → AreClean port (without t slot) fs
clean_without port t fs slot sound clean = are_clean port (without t slot) fs (record {
  each = each_to port port t (without t slot) fs (λ f is may. record {
    own = may.own;
    given = may.given;
    absent = entry_of-without t slot f sound ∙ ap (option_and_then (λ e. cond (e.slot == slot) None (Some e))) may.absent;
  }) (all_clean port t fs clean).each;
  once = (all_clean port t fs clean).once;
})

pub clean_left : (keep : Bool) (port : ℕ) (t : Table DriverConnection) (fs : List Flow) (slot : ℕ) (e : DriverEntry) → IsTable t
    → entry_under t slot ≡ Some e → (keep ≡ true → host_asks e.flow ≡ false) → (host_asks e.flow ≡ false → e.flow.guest < port)
    → AreClean port t fs → AreClean port (without t slot) (kept_if keep e.flow fs)
clean_left false port t fs slot e sound found own below clean = clean_without port t fs slot sound clean
clean_left true port t fs slot e sound found own below clean =
    let left = clean_without port t fs slot sound clean in
    let is = entry_under_found t slot e sound found in
    let here : (e.slot == slot) ≡ true = let at = is.slot_is in grind (arith, nat_tests, at) in
    let n : ℕ = length fs + 1 - CLEAN_PAIRS in
    are_clean port (without t slot) (kept CLEAN_PAIRS e.flow fs) (record {
      each = each_push port (without t slot) e.flow (drop n fs) (each_drop port (without t slot) n fs (all_clean port (without t slot) fs left).each) (record {
        own = own refl;
        given = below (own refl);
        absent = entry_of-without t slot e.flow sound ∙ ap (option_and_then (λ x. cond (x.slot == slot) None (Some x))) is.of_flow
            ∙ ap (λ b. cond b None (Some e)) here;
      });
      once = kept_distinct e.flow fs (none_kept port t e.flow fs e (all_clean port t fs clean).each is.of_flow) (all_clean port t fs clean).once;
    })

-- The same of all that holds of the slots.
pub flow_there : (t : Table DriverConnection) (slot : ℕ) (e : DriverEntry) (f : Flow) → entry_under t slot ≡ Some e
    → Some f ≡ option_map (λ x. x.flow) (entry_under t slot) → f ≡ e.flow
flow_there t slot e f found is =
    let same : Some f ≡ Some e.flow = is ∙ ap (option_map (λ (x : DriverEntry). x.flow)) found in cc

own_only : (b assigned : Bool) → (b && not assigned) ≡ true → assigned ≡ false
own_only b false is = refl
own_only true true is = absurd cc
own_only false true is = absurd cc

pub left_clean : (s : Inside) (slot : ℕ) (e : DriverEntry) (f : Flow) (cleanly : Bool) → AreKept s → entry_under s.table slot ≡ Some e
    → Some f ≡ option_map (λ x. x.flow) (entry_under s.table slot)
    → AreClean s.next_port (without s.table slot) (kept_if (cleanly && not (host_asks f)) f s.clean)
left_clean s slot e f cleanly kept found is =
    subst (λ g. AreClean s.next_port (without s.table slot) (kept_if (cleanly && not (host_asks g)) g s.clean))
    (sym (flow_there s.table slot e f found is))
    (clean_left (cleanly && not (host_asks e.flow)) s.next_port s.table s.clean slot e kept.table found (own_only cleanly (host_asks e.flow))
    (entry_has (λ x. host_asks x.flow ≡ false → x.flow.guest < s.next_port) (λ x. x.slot == slot) s.table.entries e kept.numbers.ports found) kept.clean)

-- Those with the host stay.
each_host : (port : ℕ) (t : Table DriverConnection) (fs : List Flow) → AllReuse port t fs → AllReuse port t (of_host fs)
each_host port t [] each = tt
each_host port t (f ∷ fs) each = by (is_host f) (each_host port t fs each.1)
  where
    by : (b : Bool) → AllReuse port t (of_host fs) → AllReuse port t (cond b (f ∷ of_host fs) (of_host fs))
    by true rest = (each.0, rest)
    by false rest = rest

pub clean_host : (port : ℕ) (t : Table DriverConnection) (fs : List Flow) → AreClean port t fs → AreClean port t (of_host fs)
clean_host port t fs clean =
    let all = all_clean port t fs clean in are_clean port t (of_host fs) (record { each = each_host port t fs all.each; once = host_distinct fs all.once })

pub none_clean : (port : ℕ) (t : Table DriverConnection) → AreClean port t []
none_clean port t = are_clean port t [] (record { each = tt; once = tt })

-- A fresh one is none of the table's.
new_flow : (peer to port : ℕ) (t : Table DriverConnection) → All (λ e. host_asks e.flow ≡ false → e.flow.guest < port) t.entries
    → host_asks (fresh_flow peer to port) ≡ false → entry_of t (fresh_flow peer to port) ≡ None
new_flow peer to port t ports mine =
    let flow : Flow = fresh_flow peer to port in
    find_none (λ (e : DriverEntry). same_flow flow e.flow) t.entries (λ k d lt. same_flow_false flow (get_or t.entries k d).flow (λ same.
    let guest_is : port ≡ (get_or t.entries k d).flow.guest = ap (λ (f : Flow). f.guest) same in
    let less = ports k d lt (ap host_asks (sym same) ∙ mine) in
    absurd (omega (arith, less, guest_is))))

-- The next flow to a port of a peer: a fresh one, or the oldest of those that are kept.
pub fresh_is : (peer to port : ℕ) (fs : List Flow) (f : Flow) → nat_le port LAST_PORT ≡ true → free_flow peer to port fs ≡ Some f → f ≡ fresh_flow peer to port
fresh_is peer to port fs f left is =
    let same : Some (fresh_flow peer to port) ≡ Some f = sym (ap (λ b. cond b (Some (fresh_flow peer to port)) (oldest (goes_to peer to) fs)) left) ∙ is in cc

pub again_is : (peer to port : ℕ) (fs : List Flow) (f : Flow) → nat_le port LAST_PORT ≡ false → free_flow peer to port fs ≡ Some f
    → oldest (goes_to peer to) fs ≡ Some f
again_is peer to port fs f spent is = sym (ap (λ b. cond b (Some (fresh_flow peer to port)) (oldest (goes_to peer to) fs)) spent) ∙ is

-- It goes there.
pub record GoesTo (peer to : ℕ) (f : Flow) : Type 0 where
  pub peer_is : f.peer ≡ peer
  pub port_is : f.host ≡ to

pub given_to : (peer to port : ℕ) (fs : List Flow) (f : Flow) → free_flow peer to port fs ≡ Some f → GoesTo peer to f
given_to peer to port fs f is = by (nat_le port LAST_PORT) refl
  where
    by : (b : Bool) → nat_le port LAST_PORT ≡ b → GoesTo peer to f
    by true left =
        let fresh = fresh_is peer to port fs f left is in
        record { peer_is = ap (λ (g : Flow). g.peer) fresh; port_is = ap (λ (g : Flow). g.host) fresh }
    by false spent =
        let passes = found_passes (goes_to peer to) fs f (again_is peer to port fs f spent is) in
        record { peer_is = grind (arith, nat_tests, passes); port_is = grind (arith, nat_tests, passes) }

pub given_from : (peer to port : ℕ) (fs : List Flow) (f : Flow) → free_flow peer to port fs ≡ Some f → (port ≤ f.guest) ⊎ (is_among f fs ≡ true)
given_from peer to port fs f is = by (nat_le port LAST_PORT) refl
  where
    by : (b : Bool) → nat_le port LAST_PORT ≡ b → (port ≤ f.guest) ⊎ (is_among f fs ≡ true)
    by true left = let guest : f.guest ≡ port = ap (λ (g : Flow). g.guest) (fresh_is peer to port fs f left is) in inl (omega (arith, guest))
    by false spent = inr (found_among (goes_to peer to) f fs (again_is peer to port fs f spent is))

pub port_below : (port guest : ℕ) → guest < port_after port guest
port_below port guest = grind (arith, nat_tests)

pub port_rises : (port guest : ℕ) → port ≤ port_after port guest
port_rises port guest = grind (arith, nat_tests)

module _ (port : ℕ) (t : Table DriverConnection) (fs : List Flow) (clean : AreClean port t fs) (f : Flow) where
  -- One that is kept has a port below the next.
  again_below : oldest (goes_to f.peer f.host) fs ≡ Some f → f.guest < port
  again_below found = (each_at port t f fs (all_clean port t fs clean).each (found_among (goes_to f.peer f.host) f fs found)).given

  pub given_guest : free_flow f.peer f.host port fs ≡ Some f → port ≤ LAST_PORT + 1 → f.guest ≤ LAST_PORT
  given_guest is most = by (nat_le port LAST_PORT) refl
    where
      by : (b : Bool) → nat_le port LAST_PORT ≡ b → f.guest ≤ LAST_PORT
      by true left =
          let guest : f.guest ≡ port = ap (λ (g : Flow). g.guest) (fresh_is f.peer f.host port fs f left is) in grind (arith, nat_tests, left, guest)
      by false spent = let below = again_below (again_is f.peer f.host port fs f spent is) in omega (arith, below, most)

  pub given_within : free_flow f.peer f.host port fs ≡ Some f → port ≤ LAST_PORT + 1 → port_after port f.guest ≤ LAST_PORT + 1
  given_within is most = let guest = given_guest is most in grind (arith, nat_tests, guest, most)

  pub given_absent : All (λ e. host_asks e.flow ≡ false → e.flow.guest < port) t.entries → host_asks f ≡ false
      → free_flow f.peer f.host port fs ≡ Some f → entry_of t f ≡ None
  given_absent ports own is = by (nat_le port LAST_PORT) refl
    where
      by : (b : Bool) → nat_le port LAST_PORT ≡ b → entry_of t f ≡ None
      by true left =
          let fresh = fresh_is f.peer f.host port fs f left is in
          ap (entry_of t) fresh ∙ new_flow f.peer f.host port t ports (ap host_asks (sym fresh) ∙ own)
      by false spent = (each_at port t f fs (all_clean port t fs clean).each (found_among (goes_to f.peer f.host) f fs (again_is f.peer f.host port fs f spent is))).absent

  pub given_clean : (c : DriverConnection) → AreClean (port_after port f.guest) (with_entry t f c) (flows_without f fs)
  given_clean c =
      clean_entry port (port_after port f.guest) t f c (flows_without f fs)
      (are_clean port t (flows_without f fs)
      (record { each = each_without port t f fs (all_clean port t fs clean).each; once = without_distinct f fs (all_clean port t fs clean).once })) (without_own f fs) (port_rises port f.guest)

-- A connect that isn't refused before a page is looked for.
pub record MayConnect (peer to : ℕ) (s : DriverState) : Type 0 where
  pub own : host_asks (next_flow peer to s) ≡ false
  pub place : slots_held s < DRIVER_CONNECTIONS
  pub flow : free_flow peer to s.next_port s.clean ≡ Some (next_flow peer to s)
  pub id : s.next_id ≤ LAST_ID

none_refused : (a b c d : Bool) (x y z : ConnectError) → cond a (Some x) (cond b (Some y) (cond (not c || d) (Some z) None)) ≡ None
    → (a ≡ false) × (b ≡ false) × (c ≡ true) × (d ≡ false)
none_refused true b c d x y z is = absurd cc
none_refused false true c d x y z is = absurd cc
none_refused false false false d x y z is = absurd cc
none_refused false false true true x y z is = absurd cc
none_refused false false true false x y z is = (refl, refl, refl, refl)

some_flow : (o : Option Flow) (f : Flow) → is_some o ≡ true → o ≡ Some (option_map_or (λ g. g) o f)
some_flow None f is = absurd cc
some_flow (Some g) f is = refl

pub may_connect : (peer to : ℕ) (s : DriverState) → connect_refusal peer to s ≡ None → MayConnect peer to s
may_connect peer to s is =
    let n = none_refused ((peer == HOST_CID) && is_assigned to) (is_full s) (is_some (free_flow peer to s.next_port s.clean)) (nat_lt LAST_ID s.next_id) _ _ _ is in
    let flow = some_flow (free_flow peer to s.next_port s.clean) (fresh_flow peer to s.next_port) n.2 in
    let goes = given_to peer to s.next_port s.clean (next_flow peer to s) flow in
    let room = n.1 in
    let last = n.3 in
    record {
      own = rw (goes.peer_is, goes.port_is) n.0;
      place = grind (arith, nat_tests, room);
      flow = flow;
      id = grind (arith, nat_tests, last);
    }
