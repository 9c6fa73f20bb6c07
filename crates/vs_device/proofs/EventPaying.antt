-- What paying the owed event comes to.
use Rattle.std.proofs.Common.{◌≡◌, Bool, true, false, cond, Option, Some, None, Result, Ok, Err, refl, sym, ap, subst, ◌∙◌, arith}
use Rattle.byteorder.specs.Endian.{little_bytes}
use Rattle.vs_contents.{specs.CallTree.{Done, Ask}, proofs.{Leads.leads_of, Conditions.may_of}}
use Rattle.vs_ring_port.specs.{Contents.{Take, Write, Return}, declared.{device_ring.{Chain.Chain, Next.Next}, failure.Failure.Failure, queue.Queue.TheVariants.Event}}
use Rattle.vs_ring_port.specs.DeviceCalls.{CanReturn}
use Rattle.vs_device_parts.specs.{Calls.{Situation, DeviceTree, Allows, Ring}, Playing.{CanMake, MayRun, Runs}, Receiving.{event_on, pay_event_of}, State.DeviceState}
use Rattle.vs_ring_port.specs.declared.device_ring.Next.TheVariants as next

module _ (s : DeviceState) (sound : s.failed ≡ None) (owed : s.event_owed ≡ true) where
  with_event : Bool → DeviceTree (DeviceState × Result Bool Failure)
  with_event b = cond b (Ask (Ring (Take Event)) (λ answer. event_on answer s)) (Done (s, Ok false))

  unless_failed : Option Failure → DeviceTree (DeviceState × Result Bool Failure)
  unless_failed (Some f) = Done (s, Err f)
  unless_failed None = with_event s.event_owed

  as_cases : (o : Option Failure) → elim o [ Some f ↦ Done (s, Err f) | None ↦ cond s.event_owed (Ask (Ring (Take Event)) (λ answer. event_on answer s)) (Done (s, Ok false)) ] ≡ unless_failed o
  unfolding with_event unless_failed
  as_cases (Some f) = refl
  as_cases None = refl

  pays : pay_event_of s ≡ Ask (Ring (Take Event)) (λ answer. event_on answer s)
  unfolding with_event unless_failed
  pays = as_cases s.failed ∙ (ap unless_failed sound ∙ ap with_event owed)

  pub may_event : (answer : Next) (x y : Situation) → MayRun (pay_event_of s) x → Allows (Ring (Take Event)) answer x y → MayRun (event_on answer s) y
  may_event answer x y may allowed = (may_of CanMake Allows _ _ x pays may).1 answer y allowed

  pub took_event : (answer : Next) (r : DeviceState × Result Bool Failure) (x y z : Situation) → Allows (Ring (Take Event)) answer x y → Runs (event_on answer s) y r z
      → Runs (pay_event_of s) x r z
  took_event answer r x y z allowed rest = leads_of Allows _ _ x z r pays (answer, y, allowed, rest)

pub by_chain : (s : DeviceState) (a b : Next) (r : DeviceState × Result Bool Failure) (x y : Situation) → a ≡ b → Runs (event_on b s) x r y → Runs (event_on a s) x r y
by_chain s a b r x y is runs = let P : Next → Type 0 = λ n. Runs (event_on n s) x r y in subst P (sym is) runs

pub put : (chain : Chain) (s t : DeviceState) (x y z : Situation) → Allows (Ring (Write chain 0 (little_bytes 4 0))) tt x y → Allows (Ring (Return chain 4)) tt y z
    → t ≡ record s { event_owed = false } → Runs (event_on (next.Chain chain) s) x (t, Ok true) z
put chain s t x y z written returned end =
    let last = ap (λ (u : DeviceState). let r : DeviceState × Result Bool Failure = (u, Ok true) in r) (sym end) in
    (tt, y, written, (tt, z, returned, (last, refl)))

pub may_return : (chain : Chain) (s : DeviceState) (x y : Situation) → MayRun (event_on (next.Chain chain) s) x → Allows (Ring (Write chain 0 (little_bytes 4 0))) tt x y
    → CanReturn chain 4 y.ring
may_return chain s x y may written = (may.1 tt y written).0 (omega arith)
