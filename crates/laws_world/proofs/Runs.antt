-- Small steps of the two ends, one after another.
use Rattle.std.proofs.lemmas.Grind.{common_steps}
use Rattle.std.proofs.Common.{arith}
use Rattle.std.proofs.Common.{◌≡◌, List, [], ◌∷◌, ◌++◌, refl, sym, subst, ◌∙◌, ℕ, append_assoc}
use Rattle.vs_page.specs.{Log.{Driver, HasGotAll, Log, Role, other_role, packets_got, events_got}, declared.log.LogEntry.{LogEntry, TheVariants.{GotEvent, GotPacket}}}
use Rattle.laws_tables.{specs.Both.{Both, Happening, IsSound, MayHappen, MayRun, Seat, Step, Takes, TakesEvent, after, at, happens, run}, proofs.Both.run_keeps}
use Rattle.laws_tables.proofs.Going.{Goes, MayDo, MayDoAll, done}
use Rattle.laws_world.specs.Sides.{Runs}

may_append : (xs ys : List Happening) (b : Both) → MayRun xs b → MayRun ys (run xs b) → MayRun (xs ++ ys) b
may_append [] ys b first then_ = then_
may_append (x ∷ xs) ys b first then_ = (first.0, may_append xs ys (happens x.role x.step b) first.1 then_)

run_append : (xs ys : List Happening) (b : Both) → run (xs ++ ys) b ≡ run ys (run xs b)
run_append [] ys b = refl
run_append (x ∷ xs) ys b = run_append xs ys (happens x.role x.step b)

pub stays : (b c : Both) → b ≡ c → Runs b c
stays b c is = record { steps = []; may = tt; ends = is }

pub one_step : (role : Role) (step : Step) (b c : Both) → MayHappen role step b → happens role step b ≡ c → Runs b c
one_step role step b c may is = record { steps = record { role = role; step = step } ∷ []; may = (may, tt); ends = is }

pub and_then : (b c d : Both) → Runs b c → Runs c d → Runs b d
and_then b c d x y = grind (arith, common_steps, may_append, run_append)

pub keeps_sound : (first : ℕ) (b c : Both) → Runs b c → IsSound first b → IsSound first c
keeps_sound first b c r s = subst (λ e. IsSound first e) r.ends (run_keeps first r.steps b s r.may)

-- What an end got before was put by the other too.
pub log_before : (other : Log) (entry : LogEntry) (log : Log) → HasGotAll (entry ∷ log) other → HasGotAll log other
log_before other (GotPacket p) log got = record {
  packets = (got.packets.0 ++ p ∷ [], got.packets.1 ∙ sym (append_assoc got.packets.0 (p ∷ []) (packets_got log)));
  events = got.events;
}
log_before other (GotEvent id) log got = record {
  packets = got.packets;
  events = (got.events.0 ++ id ∷ [], got.events.1 ∙ sym (append_assoc got.events.0 (id ∷ []) (events_got log)));
}
log_before other entry log got = record { packets = got.packets; events = got.events }

pub got_before : (role : Role) (other : Log) (step : Step) (w : Seat) → HasGotAll (after role step w).log other → HasGotAll w.log other
got_before role other (Takes p answer) w got = log_before other (GotPacket p) w.log got
got_before role other (TakesEvent id) w got = log_before other (GotEvent id) w.log got
got_before role other step w got = record { packets = got.packets; events = got.events }

-- A step of an end, where it got just what the other put first.
pub step_runs : (role : Role) (step : Step) (b : Both) → MayDo role step (at role b) → HasGotAll (after role step (at role b)).log (at (other_role role) b).log
    → Runs b (happens role step b)
step_runs role (Takes p answer) b may got = one_step role (Takes p answer) b _ got.packets refl
step_runs role (TakesEvent id) b may got = one_step role (TakesEvent id) b _ (may, got.events) refl
step_runs role step b may got = one_step role step b _ may refl

-- Steps of the driver's, where it got just what the device put first.
module _ (device : Seat) where
  abbrev pub beside_device : Seat → Both
  beside_device w = record { driver = w; device = device }

  all_run : (v : Seat) (steps : List Step) → MayDoAll Driver steps v → HasGotAll (done Driver steps v).log device.log
      → Runs (beside_device v) (beside_device (done Driver steps v))
  all_run v [] may got = stays _ _ refl
  all_run v (step ∷ older) may got =
      and_then _ _ _ (all_run v older may.0 (got_before Driver device.log step (done Driver older v) got)) (step_runs Driver step (beside_device (done Driver older v)) may.1 got)

  pub goes_run : (v w : Seat) → Goes Driver v w → HasGotAll w.log device.log → Runs (beside_device v) (beside_device w)
  goes_run v w goes got = grind (arith, common_steps, all_run)
