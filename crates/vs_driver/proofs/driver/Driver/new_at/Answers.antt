use Rattle.std.proofs.Common.{◌≡◌, ℕ, refl, sym, ap, subst, ◌∙◌, rules}
use Rattle.vs_ring_port.specs.{Contents.RingContents, declared.queue.Queue.TheVariants.{Event, Rx}}
use Rattle.vs_driver_parts.specs.{State.DriverState, Playing.{MayPublishAll, Plays}, Conversations.{load_cid, new_of, new_state, post_all, post_events}}
use Rattle.vs_driver.{specs.contracts.driver.Driver.the_view, proofs.Rest.{IsLeft, all_left, may_next, then}}
use Rattle.laws_driver.proofs.Calls.{new_honest, new_may}
use Rattle.vs_driver.proofs.driver.Driver.new_at.Goals as goal

-- The driver begins with what it knows of its ring. Once the receive pages are posted, the event pages are left.
begins : (size n port id : ℕ) (d : DriverState) → d ≡ new_state size port id 0 → size ≡ n → d ≡ new_state n port id 0
begins size n port id d is same = is ∙ ap (λ (k : ℕ). new_state k port id 0) same

posted : (n port id : ℕ) (s t : DriverState) (c m : RingContents) → s ≡ new_state n port id 0 → Plays (post_all Rx s) c t m
    → IsLeft (new_of n port id) c (post_events t) m
posted n port id s t c m is plays =
    then (post_all Rx (new_state n port id 0)) post_events (all_left (new_of n port id) c) t m
    (subst (λ (x : DriverState). Plays (post_all Rx x) c t m) is plays)

pub post_all-requires-clause-may : goal.post_all-requires-clause-may
post_all-requires-clause-may g c =
    let n = g.R.DriverRing.size c.args.ring.now in
    let P : DriverState → Type 0 = λ x. MayPublishAll (post_all Rx x) (g.R.DriverRing.contents c.args.ring.now) in
    subst P (sym (begins _ n _ _ _ c.in_ok-driver.ensures c.size-size.ensures.value))
    (may_next (post_all Rx (new_state n c.args.port c.args.id 0)) post_events (all_left (new_of n c.args.port c.args.id) _)
    (new_may n c.args.port c.args.id _ c.requires.port.1 c.requires.fresh))

pub post_all-requires-2-clause-may : goal.post_all-requires-2-clause-may
post_all-requires-2-clause-may g c =
    let n = g.R.DriverRing.size c.args.ring.now in
    may_next (post_all Event c.post_all.new.self) load_cid
    (posted n c.args.port c.args.id _ c.post_all.new.self _ _ (begins _ n _ _ _ c.in_ok-driver.ensures c.size-size.ensures.value)
    c.post_all.ensures.calls)
    (new_may n c.args.port c.args.id (g.R.DriverRing.contents c.args.ring.now) c.requires.port.1 c.requires.fresh)

pub returns-clause-calls : goal.returns-clause-calls
returns-clause-calls g c =
    let n = g.R.DriverRing.size c.args.ring.now in
    let end : DriverState = the_view (record c.driver-2.inside { cid = c.cid.result }) in
    let is : record c.post_all-2.new.self { cid = c.cid.result } ≡ end = ap (λ (x : DriverState). record x { cid = c.cid.result }) (sym c.driver-2.view_is) in
    (then (post_all Event c.post_all.new.self) load_cid
    (posted n c.args.port c.args.id _ c.post_all.new.self _ _ (begins _ n _ _ _ c.in_ok-driver.ensures c.size-size.ensures.value)
    c.post_all.ensures.calls)
    c.post_all-2.new.self _ c.post_all-2.ensures.calls).goes_on end (g.R.DriverRing.contents c.cid.new.self)
    (c.cid.result, g.R.DriverRing.contents c.cid.new.self, (search rules, c.cid.ensures.contents), (is, refl))

pub returns-clause-honest : goal.returns-clause-honest
returns-clause-honest g c =
    new_honest (g.R.DriverRing.size c.args.ring.now) c.args.port c.args.id (g.R.DriverRing.contents c.args.ring.now) (g.R.DriverRing.contents c.cid.new.self) _ c.requires.port.1
    c.requires.fresh (returns-clause-calls g c)
