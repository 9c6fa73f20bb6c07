use Rattle.std.proofs.Common.{◌≡◌, ℕ, List, ◌<◌, ◌≤◌, length, refl, sym, ap, subst, ◌∙◌, rules, arith}
use Rattle.vs_ring_port.specs.{declared.queue.Queue.TheVariants.Tx, Counts.{no_counts, with_count}}
use Rattle.vs_driver_parts.specs.{Connections.OweNothing, State.DriverState, Held.HeldSlots, Playing.{IsAtWork, MayPublishAll, Plays, RingAllows}, Conversations.{Round, round_of}}
use Rattle.vs_driver_parts.specs.Conversations.{pay_all, pay_slot}
use Rattle.vs_contents.{specs.CallTree.for_each, proofs.Leads.leads_of}
use Rattle.vs_flow.specs.Table.{slots}
use Rattle.vs_driver.{specs.contracts.driver.Driver.the_view, proofs.Paying.{each_more, may_each_step, may_each_more, each_end, pays_none}}
use Rattle.vs_driver.proofs.driver.Driver.pay_all.Goals as goal

pub loop-slot-init : goal.loop-slot-init
loop-slot-init g c =
    let tally = c.args.tally.now in
    let from = g.R.DriverRing.contents c.args.ring.now in
    let looked : HeldSlots → DriverState = λ h. the_view (record c.self.inside { slots = h }) in
    let state : looked c.may_owe.new.self ≡ c.args.self.now = ap looked c.may_owe.ensures.same ∙ c.self.view_is in
    let is : c.as_slice-slot-items.result.now ≡ slots c.may_owe.new.self.table = c.as_slice-slot-items.ensures.value ∙ c.all-slots.ensures.all in
    let r : Round = round_of (looked c.may_owe.new.self) tally in
    let may : MayPublishAll (pay_all r) from = let P : DriverState → Type 0 = λ s. MayPublishAll (pay_all (round_of s tally)) from in subst P (sym state) c.requires.may in
    record {
      goes_on = λ x t rest.
          let P : DriverState → Type 0 = λ s. Plays (pay_all (round_of s tally)) from x t in
          let Q : List ℕ → Type 0 = λ xs. Plays (for_each pay_slot xs r) from x t in
          subst P state (subst Q is rest);
      may = let P : List ℕ → Type 0 = λ xs. MayPublishAll (for_each pay_slot xs r) from in subst P (sym is) may;
      ring = subst (IsAtWork Tx (g.R.DriverRing.size c.args.ring.now) (g.R.DriverRing.flight c.args.ring.now) (g.R.DriverRing.staged c.args.ring.now)) (sym state) (record {
        size = c.requires.ring.size;
        flight = c.requires.ring.flight;
        staged = c.requires.ring.staged ∙ ap (λ (n : ℕ). with_count Tx n no_counts) (sym c.requires.ring.none);
        few = omega (arith, c.requires.ring.none);
      });
      small = omega arith;
      few = c.as_slice-slot-items.ensures.fits;
    }

pub pay_if_owed-requires-clause-may : goal.pay_if_owed-requires-clause-may
pay_if_owed-requires-clause-may g c =
    let xs = c.as_slice-slot-items.result.now in
    let i = c.loop-slot.slot-index in
    let within : i < length xs = search rules in
    let r : Round = round_of c.loop-slot.self c.loop-slot.tally in
    let from = g.R.DriverRing.contents c.loop-slot.ring in
    may_each_step xs i 0 r within from c.loop-slot.invariant.may

pub loop-slot-preserved : goal.loop-slot-preserved
loop-slot-preserved g c =
    let xs = c.as_slice-slot-items.result.now in
    let i = c.loop-slot.slot-index in
    let within : i < length xs = search rules in
    let r : Round = round_of c.loop-slot.self c.loop-slot.tally in
    let from = g.R.DriverRing.contents c.loop-slot.ring in
    let after : Round = round_of c.pay_if_owed.new.self c.pay_if_owed.new.tally in
    let to = g.R.DriverRing.contents c.pay_if_owed.new.ring in
    record {
      goes_on = λ x t rest. c.loop-slot.invariant.goes_on x t (each_more xs i 0 r within after x from to t c.pay_if_owed.ensures.calls rest);
      may = may_each_more xs i 0 r within after from to c.loop-slot.invariant.may c.pay_if_owed.ensures.calls;
      ring = c.pay_if_owed.ensures.ring;
      small = omega (arith, c.loop-slot.invariant.small, c.pay_if_owed.ensures.count);
      few = c.loop-slot.invariant.few;
    }

pub returns-clause-calls : goal.returns-clause-calls
returns-clause-calls g c =
    let xs = c.as_slice-slot-items.result.now in
    let i = c.loop-slot.slot-index in
    let r : Round = round_of c.loop-slot.self c.loop-slot.tally in
    let from = g.R.DriverRing.contents c.loop-slot.ring in
    let ends : length xs ≤ i = search rules in
    c.loop-slot.invariant.goes_on r from (each_end xs i r from ends)

pub returns-then-not-may_owe-clause-calls : goal.returns-then-not-may_owe-clause-calls
returns-then-not-may_owe-clause-calls g c =
    let r : Round = round_of c.args.self.now c.args.tally.now in
    let from = g.R.DriverRing.contents c.args.ring.now in
    let state = ap (λ (h : HeldSlots). the_view (record c.self.inside { slots = h })) c.may_owe.ensures.same ∙ c.self.view_is in
    let none : OweNothing c.args.self.now.table = let P : DriverState → Type 0 = λ s. OweNothing s.table in subst P c.self.view_is (c.if-not-may_owe.ensures.none refl) in
    let P : DriverState → Type 0 = λ s. Plays (pay_all r) from (round_of s c.args.tally.now) from in
    subst P (sym state) (leads_of RingAllows _ _ from from r (pays_none r none (slots c.args.self.now.table)) (refl, refl))
