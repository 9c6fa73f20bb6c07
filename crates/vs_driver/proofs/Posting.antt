-- What posting all receive and event pages comes to.
use Rattle.std.proofs.Common.{◌≡◌, ℕ, ◌+◌, Bool, true, List, [], refl, sym, ap, subst}
use Rattle.vs_contents.{specs.CallTree.Done, proofs.{Leads.leads_bind, Conditions.may_first}}
use Rattle.vs_ring_port.specs.{declared.queue.Queue.{Queue, TheVariants.{Rx, Tx, Event}}, Counts.{Counts, at, one_more, with_count, no_counts}, Contents.RingContents}
use Rattle.vs_driver_parts.specs.{State.DriverState, Conversations.{DriverTree, stage_of, post_one}, Playing.{CanMake, MayPublishAll, Plays, RingAllows}}

pub at_count : (queue : Queue) (n : ℕ) (f : Counts) → at queue (with_count queue n f) ≡ n
at_count Rx n f = refl
at_count Tx n f = refl
at_count Event n f = refl

pub none_at : (queue : Queue) → at queue no_counts ≡ 0
none_at Rx = refl
none_at Tx = refl
none_at Event = refl

pub one_more_count : (queue : Queue) (n : ℕ) (f : Counts) → one_more queue (with_count queue n f) ≡ with_count queue (n + 1) f
one_more_count Rx n f = refl
one_more_count Tx n f = refl
one_more_count Event n f = refl

pub count_is : (queue : Queue) (n : ℕ) (f : Counts) → at queue f ≡ n → f ≡ with_count queue n f
count_is Rx n f is = ap (λ (k : ℕ). let c : Counts = record f { rx = k } in c) is
count_is Tx n f is = ap (λ (k : ℕ). let c : Counts = record f { tx = k } in c) is
count_is Event n f is = ap (λ (k : ℕ). let c : Counts = record f { event = k } in c) is

going : DriverState → DriverTree (DriverState × Bool)
going t = Done (t, true)

pub may_stage_one : (queue : Queue) (page : List ℕ) (s : DriverState) (c : RingContents) → page ≡ [] → MayPublishAll (post_one queue s) c
    → MayPublishAll (stage_of queue page s) c
unfolding going
may_stage_one queue page s c is may =
    let P : List ℕ → Type 0 = λ b. MayPublishAll (stage_of queue b s) c in
    subst P (sym is) (may_first CanMake RingAllows (stage_of queue [] s) going c may)

pub one_staged : (queue : Queue) (page : List ℕ) (s t : DriverState) (c m : RingContents) → page ≡ [] → Plays (stage_of queue page s) c t m
    → Plays (post_one queue s) c (t, true) m
unfolding going
one_staged queue page s t c m is plays =
    let P : List ℕ → Type 0 = λ b. Plays (stage_of queue b s) c t m in
    leads_bind RingAllows (stage_of queue [] s) going c m m t (t, true) (subst P is plays) (refl, refl)
