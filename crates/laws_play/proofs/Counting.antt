-- What the calls of a play come to in the device's counts.
use Rattle.std.proofs.lemmas.Grind.{common_steps}
use Rattle.std.proofs.Common.{◌≡◌, ℕ, ◌+◌, ◌≤◌, Bool, false, cond, List, [], ◌∷◌, length, sym, ap, subst, ◌∙◌, Result, arith}
use Rattle.vs_contents.specs.CallTree.{Ask, Done, played}
use Rattle.vs_ring_port.specs.declared.failure.Failure.{Failure}
use Rattle.vs_device_parts.specs.Calls.{DeviceTree}
use Rattle.laws_proxy.{proofs.{Growing.label_grow_counts, Account.{Quiet.{counts_reset, counts_turn}, Walks.Walks}}, specs.Account.Counts.{DeviceCounts, count_made, counts_of}}
use Rattle.laws_proxy.specs.Account.{Counts.counts_shown, Made.{Made, made}}
use Rattle.vs_proxy_parts.specs.{Growing.label_at, State.ProxyState, Turns.{proxy_reset_of, turn_of}, declared.answers.Turn.Turn}
use Rattle.vs_script.specs.{Outside.Outside, Play.Event}
use Rattle.laws_world.{proofs.Failing.{FailsWithin, reset_fails, turn_fails}, specs.{Answers.{Around, answer_around}, World.around}}
use Rattle.vs_play.specs.{Answer.world_after, Lines.{PlayWorld, event_played}}
use Rattle.laws_play.specs.Recorded.{calls_of, fails_in, line_fails, made_in, outside_made, recording}
use Rattle.vs_script.specs.Outside as outside
use Rattle.vs_script.specs.Play as script

-- A conversation, from counts that the calls made so far come to.
played_counts : {A : Type 0} (f : A → DeviceCounts) (tree : DeviceTree A) (a : Around) (calls : List Made) (n first : DeviceCounts)
    → Walks false f tree n → n ≡ counts_of first calls
    → f (played answer_around tree a).0 ≡ counts_of first (played recording tree (record { around = a; calls = calls })).1.calls
played_counts f (Done x) a calls n first walks is = walks ∙ is
played_counts f (Ask call next) a calls n first walks is =
    let r = answer_around call a in
    played_counts f (next r.0) r.1 (made call r.0 ∷ calls) (count_made call r.0 n) first (walks.1 r.0) (ap (count_made call r.0) is)

module _ (first : DeviceCounts) where
  abbrev CountedBy : PlayWorld → List Made → Type 0
  CountedBy p calls = counts_shown p.world.proxy.device ≡ counts_of first calls

  outside_counts : (line : Outside) (p : PlayWorld) (calls : List Made) → CountedBy p calls
      → CountedBy (event_played (script.Around line) p).0 (outside_made line p calls)
  outside_counts outside.Turn p calls is =
      let tree = turn_of p.world.rings.lists.size p.moment p.world.proxy in
      played_counts (λ (x : ProxyState × Turn). counts_shown x.0.device) tree (around p.world) calls
      (counts_shown p.world.proxy.device) first
      (counts_turn p.world.rings.lists.size p.moment p.world.proxy) is
  outside_counts (outside.Reset cid) p calls is =
      played_counts (λ (x : ProxyState × Result (Unit {0}) Failure). counts_shown x.0.device) (proxy_reset_of cid p.world.proxy)
      (around p.world) calls (counts_shown p.world.proxy.device) first (counts_reset false cid p.world.proxy) is
  outside_counts (outside.Tick ms) p calls is = is
  outside_counts (outside.Grow stream alloc) p calls is = label_grow_counts (label_at stream p.world.host) alloc p.world.proxy ∙ is
  outside_counts outside.Client p calls is = is
  outside_counts (outside.OfHost host) p calls is = by host
    where
      by : (host : outside.Host) → CountedBy (event_played (script.Around (outside.OfHost host)) p).0 calls
      by (outside.HostListen port) = is
      by x = is

  line_counts : (e : Event) (p : PlayWorld) (calls : List Made) → CountedBy p calls → CountedBy (event_played e p).0 (made_in e p calls)
  line_counts (script.Around line) p calls is = outside_counts line p calls is
  line_counts x p calls is = is

  pub lines_count : (es : List Event) (p : PlayWorld) (calls : List Made) → CountedBy p calls
      → CountedBy (world_after es p) (calls_of es p calls)
  lines_count [] p calls is = is
  lines_count (e ∷ es) p calls is = lines_count es (event_played e p).0 (made_in e p calls) (line_counts e p calls is)

-- Faults counted, and calls of the host that are to fail: no more than lines told of.
abbrev After : ℕ → Event → PlayWorld → Type 0
After m e p = FailsWithin (cond (line_fails e) (m + 1) m) (event_played e p).0.world

host_within : (m : ℕ) (host : outside.Host) (p : PlayWorld) → FailsWithin m p.world → After m (script.Around (outside.OfHost host)) p
host_within m host p at = grind (arith, common_steps)

line_within : (m : ℕ) (e : Event) (p : PlayWorld) → FailsWithin m p.world → After m e p
line_within m (script.Around outside.Turn) p at = turn_fails m p.moment p.world at
line_within m (script.Around (outside.Reset cid)) p at = reset_fails m cid p.world at
line_within m (script.Around (outside.Grow stream alloc)) p at =
    subst (λ (c : DeviceCounts). c.faults + length p.world.host.to_fail ≤ m)
    (sym (label_grow_counts (label_at stream p.world.host) alloc p.world.proxy)) at
line_within m (script.Around (outside.OfHost host)) p at = host_within m host p at
line_within m x p at = at

told : (b : Bool) (n m x : ℕ) → x ≤ n + cond b (m + 1) m → x ≤ cond b 1 0 + n + m
told b n m x less = grind (arith, common_steps)

pub lines_within : (es : List Event) (p : PlayWorld) (m : ℕ) → FailsWithin m p.world
    → FailsWithin (fails_in es + m) (world_after es p).world
lines_within [] p m at = omega (arith, at)
lines_within (e ∷ es) p m at =
    told (line_fails e) (fails_in es) m _ (lines_within es (event_played e p).0 (cond (line_fails e) (m + 1) m) (line_within m e p at))
