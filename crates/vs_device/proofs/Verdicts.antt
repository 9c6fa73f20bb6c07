-- What the verdict on a packet of a connection comes to.
use Rattle.std.proofs.{Common.{◌≡◌, ℕ, ◌&&◌, Bool, true, Some, refl, sym, ap, subst, ◌∙◌, arith}, lemmas.Grind.common_steps}
use Rattle.vs_contents.{specs.CallTree.{Done, bind}, proofs.{Leads.{leads_of, leads_bind}, Conditions.{may_first, may_of}}}
use Rattle.vs_header.specs.declared.Header.{Header}
use Rattle.vs_conn.{specs.{Shut.is_both, End.{is_reset, verdict_of}, declared.end.{Verdict.Verdict, Why.Why}}, proofs.Frames.got_own}
use Rattle.vs_page.specs.{Log.{Device, side_by, side_of}, Open.asks_for}
use Rattle.vs_flow.specs.{Flow.host_asks, Table.entry_under}
use Rattle.vs_ring_port.specs.declared.device_ring.Chain.{Chain}
use Rattle.vs_device_parts.{proofs.Under.{has_slot, under_changed, with_its}, specs.{Connections.{with_connection, stream_closed, after_leaving, keeping}, Calls.Situation}}
use Rattle.vs_device_parts.specs.{Calls.{DeviceTree, Allows}, State.{DeviceConnection, DeviceEntry, DeviceState}, Playing.{CanMake, MayRun, MayClose, Runs}, Streams.leaving}
use Rattle.vs_device_parts.specs.{Streams.closing, Taking.{after_refusal, known_packet}, Transmitting.{heard, keeps_flow, on_known}}
use Rattle.vs_device.proofs.Leaving.{may_close}
use Rattle.vs_conn.specs.declared.end.Verdict.TheVariants as verdict
use Rattle.vs_conn.specs.declared.end.Why.TheVariants as why

-- the connection in a slot, once its end heard a packet
pub record IsHeard (s m : DeviceState) (slot : ℕ) (e : DeviceEntry) (v : DeviceConnection) : Type 0 where
  pub at : e.slot ≡ slot
  pub here : m ≡ with_connection e.slot v s
  pub there : entry_under m.table slot ≡ Some (with_its e v)

pub heard_in : (s m : DeviceState) (slot : ℕ) (e : DeviceEntry) (v : DeviceConnection) → entry_under s.table slot ≡ Some e
    → m ≡ with_connection slot v s → IsHeard s m slot e v
heard_in s m slot e v is was = record {
  at = has_slot s.table slot e is;
  here = was ∙ ap (λ (n : ℕ). with_connection n v s) (sym (has_slot s.table slot e is));
  there = ap (λ (x : DeviceState). entry_under x.table slot) was ∙ under_changed s.table slot e v is;
}

-- It is kept where it ended cleanly and a client of the host opened it. No packet that comes changes what its end decided.
kept_by : (assigned both mine marked cleanly : Bool) → mine ≡ both → cleanly ≡ (mine && marked)
    → (cleanly && assigned) ≡ (asks_for (side_by Device assigned) && both && marked)
kept_by assigned both mine marked cleanly = grind (arith, common_steps)

pub kept_as : (h : Header) (e : DeviceEntry) (marked cleanly : Bool) → cleanly ≡ (is_both (heard h e.value).end.own && marked)
    → (cleanly && host_asks e.flow) ≡ (asks_for (side_of Device e.flow) && is_both e.value.end.own && marked)
kept_as h e marked cleanly is =
    kept_by (host_asks e.flow) (is_both e.value.end.own) (is_both (heard h e.value).end.own) marked cleanly (ap is_both (got_own e.value.end h)) is

module _ (chain : Chain) (h : Header) (e : DeviceEntry) (s t : DeviceState) where
  abbrev pub same_end : DeviceState
  same_end = with_connection e.slot (heard h e.value) s

  pub over : (x y : Situation) → is_reset h ≡ true → Runs (leaving (keeps_flow h e) (record e { value = heard h e.value }) s) x t y → Runs (on_known verdict.Peer chain h e s) x t y
  over x y is runs =
      let same : on_known verdict.Peer chain h e s ≡ leaving (keeps_flow h e) (record e { value = heard h e.value }) s = rw is refl in
      leads_of Allows _ _ x y t same runs

  pub refuses : (w : Why) (x : Situation) → t ≡ with_connection e.slot (heard h e.value) (after_refusal w s) → Runs (on_known (verdict.Rst w) chain h e s) x t x
  refuses (why.Overrun o) x end = (sym end, refl)
  refuses w x end = (sym end, refl)

  pub counted_refusal : (w : Why) (u : DeviceState) → u ≡ same_end → after_refusal w u ≡ with_connection e.slot (heard h e.value) (after_refusal w s)
  counted_refusal (why.Overrun o) u is = ap (after_refusal (why.Overrun o)) is
  counted_refusal w u is = is

  answered : Verdict → DeviceState → DeviceTree (DeviceState × Verdict)
  answered v u = Done (u, v)

  pub known : (v : Verdict) (x y : Situation) → v ≡ verdict_of e.value.end h → Runs (on_known v chain h e s) x t y → Runs (known_packet chain h e s) x (t, v) y
  unfolding answered
  known v x y is runs =
      let w = verdict_of e.value.end h in
      let P : Verdict → Type 0 = λ u. Runs (bind (on_known u chain h e s) (answered u)) x (t, v) y in
      subst P is (leads_bind Allows (on_known v chain h e s) (answered v) x y y t (t, v) runs (refl, refl))

-- what is asked of a packet that ends the connection
pub may_leave : (chain : Chain) (h : Header) (e : DeviceEntry) (s : DeviceState) (v : Verdict) (x : Situation) → v ≡ verdict_of e.value.end h → v ≡ verdict.Peer → is_reset h ≡ true
    → MayRun (known_packet chain h e s) x → MayClose (heard h e.value) x.host
may_leave chain h e s v x is peer reset may =
    let gone : DeviceEntry = record e { value = heard h e.value } in
    let P : Verdict → Type 0 = λ u. MayRun (tree u) x in
    let first = may_first CanMake Allows (on_known verdict.Peer chain h e s) (ends verdict.Peer) x (subst P (sym is ∙ peer) may) in
    let same : on_known verdict.Peer chain h e s ≡ leaving (keeps_flow h e) gone s = rw reset refl in
    let leaves = may_of CanMake Allows _ _ x same first in
    may_close gone stream_closed s x (may_first CanMake Allows (closing gone stream_closed s) (λ t. Done (keeping (keeps_flow h e) e.flow (after_leaving gone.slot t))) x leaves)
  where
    ends : Verdict → DeviceState → DeviceTree (DeviceState × Verdict)
    ends u t = Done (t, u)

    tree : Verdict → DeviceTree (DeviceState × Verdict)
    tree u = bind (on_known u chain h e s) (ends u)
