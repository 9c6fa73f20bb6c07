-- The flow that a client's connection gets is one of the device's own, and the table takes it.
use Rattle.std.proofs.lemmas.Grind.{common_steps}
use Rattle.std.proofs.Common.{◌≡◌, ℕ, ◌<◌, ◌≤◌, ◌^◌, ◌||◌, nat_le, Bool, true, false, cond, List, [], ◌∷◌, Option, Some, None, refl, sym, ap, subst, ◌∙◌, arith, inl, inr}
use Rattle.std.{proofs.lemmas.{Bool.Decides.nat_tests, List.Elements.All-tail}, specs.List.All}
use Rattle.vs_flow.specs.{CleanPairs.{comes_from, oldest}, Flow.{host_asks, host_flow, is_assigned, same_flow}, Table.{IsTable, Table, entry_of, has_place, refusal}, declared.flow.Flow.Flow}
use Rattle.vs_flow.proofs.Entries.{host_asks_from, same_flow_true}
use Rattle.vs_limits.specs.declared.TheConstants.{ASSIGNED_FIRST, ASSIGNED_LAST}
use Rattle.vs_page.specs.Log.{Device, side_by}
use Rattle.vs_ring_port.specs.EndLog.{EndLog}
use Rattle.laws_tables.{specs.{Ends.{ends_of, entries_of, is_among}, Steps.port_after}, proofs.{Found.found_among, Slots.{found_by, one_end}}}
use Rattle.vs_device_parts.specs.State.{DeviceConnection, DeviceEntry, DeviceState}
use Rattle.vs_proxy_parts.specs.Handshakes.{free_flow, next_after, next_flow}
use Rattle.laws_device.{specs.Honest.{IsFitClean, end_in}, proofs.{Seats.{AgreesBy, Carried}, Turning.Gives}}

-- A flow without an end has no entry.
absent : (t : Table DeviceConnection) (f : Flow) → IsTable t → ends_of f (entries_of end_in t) ≡ [] → entry_of t f ≡ None
absent t f sound none = by (entry_of t f) refl
  where
    by : (o : Option DeviceEntry) → entry_of t f ≡ o → o ≡ None
    by None is = refl
    by (Some e) is =
        let found = found_by (λ (x : DeviceEntry). same_flow f x.flow) t.entries e is in
        let one = one_end end_in t e sound found.0 in
        let same = same_flow_true f e.flow found.1 in
        let two : [] ≡ end_in e.value ∷ [] = sym none ∙ ap (λ (g : Flow). ends_of g (entries_of end_in t)) same ∙ one in
        absurd cc

-- What is so of each flow that is kept is so of one that is found among them.
among_all : (P : Flow → Type 0) (f : Flow) (fs : List Flow) → All P fs → is_among f fs ≡ true → P f
among_all P f [] each is = absurd cc
among_all P f (g ∷ gs) each is = by (same_flow f g) refl is (among_all P f gs (All-tail P g gs each))
  where
    by : (b : Bool) → same_flow f g ≡ b → (b || is_among f gs) ≡ true → (is_among f gs ≡ true → P f) → P f
    by true same is rest = subst P (sym (same_flow_true f g same)) (each 0 g (omega arith))
    by false other is rest = rest is

pub above_then : (port : ℕ) → ASSIGNED_FIRST ≤ port → ASSIGNED_FIRST ≤ next_after port
above_then port above = grind (arith, nat_tests, above)

-- So it is of the next flow, over a ring that tells its log.
pub record IsTaken (carry : Carried) (port : ℕ) (s : DeviceState) (flow : Flow) : Type 0 where
  pub gives : Gives carry port s flow (next_after port)
  pub inside : host_asks flow ≡ true
  pub none : refusal s.table flow ≡ None

placed : (s : DeviceState) (o : Option Flow) (flow : Flow) → cond (has_place s.table) o None ≡ Some flow → (has_place s.table ≡ true) × (o ≡ Some flow)
placed s o flow is = grind (arith, common_steps)

module _ (carry : Carried) (first port : ℕ) (s : DeviceState) (guest : ℕ) (flow : Flow) (l : EndLog) (p : AgreesBy carry first port s l)
    (above : ASSIGNED_FIRST ≤ port) (fits : guest < 2 ^ 32) (place : has_place s.table ≡ true) where
  taken_by : host_asks flow ≡ true → entry_of s.table flow ≡ None → Gives carry port s flow (next_after port) → IsTaken carry port s flow
  taken_by inside alone gives = record { gives = gives; inside = inside; none = rw (alone, place) refl }

  -- A fresh one.
  fresh : nat_le port ASSIGNED_LAST ≡ true → flow ≡ host_flow guest port → IsTaken carry port s flow
  fresh left is = subst (λ (f : Flow). IsTaken carry port s f) (sym is) (
      let f : Flow = host_flow guest port in
      let last : port ≤ ASSIGNED_LAST = grind (arith, nat_tests, left) in
      let inside : is_assigned port ≡ true = grind (arith, nat_tests, above, last) in
      let asker = ap (side_by Device) inside in
      let onward : port_after port port ≡ next_after port = grind (arith, nat_tests, last) in
      record {
        gives = record {
          next = record { asker = asker; port = inl (omega arith) };
          ports = record { guest = fits; host = omega (arith, last); peer = omega arith };
          wanted = carry.of_host f refl;
          port_is = onward;
        };
        inside = inside;
        none = rw (absent s.table f p.fits.sound (p.matches.flows.unused f asker (omega arith)).no_end, place) refl;
      })

  -- One that is used again.
  again : nat_le port ASSIGNED_LAST ≡ false → oldest (comes_from guest) s.clean ≡ Some flow → IsTaken carry port s flow
  again spent found =
      let among = found_among (comes_from guest) flow s.clean found in
      let kept = p.matches.flows.kept flow among in
      let fit : IsFitClean flow = among_all IsFitClean flow s.clean p.fits.clean_fit among in
      let inside : host_asks flow ≡ true = own (host_asks flow) kept.asker in
      let assigned = (host_asks_from flow inside).1 in
      let onward : port_after port flow.host ≡ next_after port = grind (arith, nat_tests, spent, assigned) in
      taken_by inside (absent s.table flow p.fits.sound kept.no_end) (record {
        next = record { asker = kept.asker; port = inr among };
        ports = fit.ports;
        wanted = carry.of_host flow fit.peer;
        port_is = onward;
      })
    where
      own : (b : Bool) → side_by Device b ≡ side_by Device true → b ≡ true
      own true is = refl
      own false is = absurd cc

  free_taken : free_flow guest port s.clean ≡ Some flow → IsTaken carry port s flow
  free_taken is = by (nat_le port ASSIGNED_LAST) refl is
    where
      by : (b : Bool) → nat_le port ASSIGNED_LAST ≡ b → cond b (Some (host_flow guest port)) (oldest (comes_from guest) s.clean) ≡ Some flow
          → IsTaken carry port s flow
      by true left is = let same : host_flow guest port ≡ flow = cc in fresh left (sym same)
      by false spent is = again spent is

pub next_taken : (carry : Carried) (first port : ℕ) (s : DeviceState) (guest : ℕ) (flow : Flow) (l : EndLog) → AgreesBy carry first port s l
    → ASSIGNED_FIRST ≤ port → guest < 2 ^ 32 → next_flow guest port s ≡ Some flow → IsTaken carry port s flow
next_taken carry first port s guest flow l p above fits is =
    let both = placed s (free_flow guest port s.clean) flow is in free_taken carry first port s guest flow l p above fits both.0 both.1
