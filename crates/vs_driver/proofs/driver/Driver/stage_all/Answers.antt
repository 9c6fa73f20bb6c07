use Rattle.std.proofs.Common.{◌≡◌, ℕ, List, [], true, ◌-◌, refl, sym, ap, subst, ◌∙◌, arith}
use Rattle.vs_contents.{proofs.Loops.{while_more, while_end, may_step, may_more}, specs.CallTree.while_up_to}
use Rattle.vs_driver_parts.{specs.{Playing.{CanMake, MayPublishAll, Plays, RingAllows}, State.DriverState, Conversations.post_one}, proofs.SlotChanges.{all_front, last_of}}
use Rattle.vs_ring_port.specs.Counts.{Counts, at, no_counts, one_more, with_count}
use Rattle.vs_driver.proofs.Posting.{at_count, none_at, one_more_count, count_is, may_stage_one, one_staged}
use Rattle.vs_driver.proofs.driver.Driver.stage_all.Goals as goal

pub loop-init : goal.loop-init
loop-init g c =
    let q = c.args.queue in
    let s : DriverState = c.args.self.now in
    let from = g.R.DriverRing.contents c.args.ring.now in
    let most : c.size-size.result ≡ s.size = c.size-size.ensures ∙ ap (λ (x : DriverState). x.size) c.self.view_is in
    let whole : c.size-size.result - 0 ≡ s.size = omega (arith, most) in
    record {
      goes_on = λ x t rest. let P : ℕ → Type 0 = λ n. Plays (while_up_to n (post_one q) s) from x t in subst P whole rest;
      may = let P : ℕ → Type 0 = λ n. MayPublishAll (while_up_to n (post_one q) s) from in subst P (sym whole) c.requires.may;
      same_size = refl;
      size = most ∙ c.requires.size;
      left = omega (arith, most, c.requires.pages);
      empty = c.requires.empty;
      flight = count_is q 0 (g.R.DriverRing.flight c.args.ring.now) c.requires.unused;
      staged = c.requires.none_staged ∙ count_is q s.staged no_counts (none_at q ∙ sym c.requires.none);
      few = omega (arith, c.requires.none);
      state = refl;
    }

pub stage_page-requires-clause-room : goal.stage_page-requires-clause-room
stage_page-requires-clause-room g c =
    let q = c.args.queue in
    let posted : at q (g.R.DriverRing.flight c.loop.ring) ≡ c.loop.counter =
    ap (λ (f : Counts). at q f) c.loop.invariant.flight ∙ at_count q c.loop.counter (g.R.DriverRing.flight c.args.ring.now) in
    omega (arith, posted, c.loop-test.true, c.loop.invariant.size, c.loop.invariant.same_size)

pub stage_page-requires-clause-header : goal.stage_page-requires-clause-header
stage_page-requires-clause-header g c = λ is. absurd (c.requires.not_tx is)

pub stage_page-requires-clause-may : goal.stage_page-requires-clause-may
stage_page-requires-clause-may g c =
    let page_is : c.take_last-page.result ≡ [] =
    last_of (λ (p : List ℕ). p ≡ []) c.take_last-page.new.self.items c.take_last-page.result c.loop.pages.items c.take_last-page.ensures.items c.loop.invariant.empty in
    may_stage_one c.args.queue c.take_last-page.result c.loop.self (g.R.DriverRing.contents c.loop.ring) page_is
    (may_step RingAllows (post_one c.args.queue) CanMake c.size-size.result c.loop.counter c.loop.self (g.R.DriverRing.contents c.loop.ring) c.loop-test.true c.loop.invariant.may)

pub loop-preserved : goal.loop-preserved
loop-preserved g c =
    let q = c.args.queue in
    let from = g.R.DriverRing.contents c.loop.ring in
    let to = g.R.DriverRing.contents c.stage_page.new.ring in
    let kept = c.loop.invariant in
    let page_is : c.take_last-page.result ≡ [] =
    last_of (λ (p : List ℕ). p ≡ []) c.take_last-page.new.self.items c.take_last-page.result c.loop.pages.items c.take_last-page.ensures.items c.loop.invariant.empty in
    let one : Plays (post_one q c.loop.self) from (c.stage_page.new.self, true) to = one_staged q c.take_last-page.result c.loop.self c.stage_page.new.self from to page_is c.stage_page.ensures.calls in
    record {
      goes_on = λ x t rest. kept.goes_on x t (while_more RingAllows (post_one q) c.size-size.result c.loop.counter c.loop.self c.stage_page.new.self x from to t c.loop-test.true one rest);
      may = may_more RingAllows (post_one q) CanMake c.size-size.result c.loop.counter c.loop.self c.stage_page.new.self from to c.loop-test.true kept.may one;
      same_size = c.stage_page.ensures.same_size ∙ kept.same_size;
      size = kept.size;
      left = omega (arith, kept.left, c.take_last-page.ensures.len);
      empty = all_front (λ (p : List ℕ). p ≡ []) c.take_last-page.new.self.items c.take_last-page.result c.loop.pages.items c.take_last-page.ensures.items kept.empty;
      flight = c.stage_page.ensures.flight ∙ (ap (λ (f : Counts). one_more q f) kept.flight ∙ one_more_count q c.loop.counter (g.R.DriverRing.flight c.args.ring.now));
      staged = c.stage_page.ensures.staged;
      few = c.stage_page.ensures.few;
      state = c.stage_page.ensures.state ∙ ap (λ (x : DriverState). record x { staged = c.stage_page.new.self.staged }) kept.state;
    }

pub returns-clause-calls : goal.returns-clause-calls
returns-clause-calls g c =
    c.loop.invariant.goes_on c.loop.self (g.R.DriverRing.contents c.loop.ring)
    (while_end RingAllows (post_one c.args.queue) c.size-size.result c.loop.counter c.loop.self (g.R.DriverRing.contents c.loop.ring) c.loop-test.false)

pub returns-clause-flight : goal.returns-clause-flight
returns-clause-flight g c =
    let all : c.loop.counter ≡ g.R.DriverRing.size c.args.ring.now = omega (arith, c.loop.invariant.left, c.loop-test.false, c.loop.invariant.size) in
    c.loop.invariant.flight ∙ ap (λ (n : ℕ). with_count c.args.queue n (g.R.DriverRing.flight c.args.ring.now)) all
