-- What taking events comes to.
use Rattle.std.proofs.Common.{◌≡◌, ℕ, Bool, true, false, List, [], length, nat_le, nat_lt, ◌+◌, Some, None, refl, subst}
use Rattle.vs_contents.{specs.CallTree.Ask, proofs.{Leads.{leads_of, leads_bind}, Conditions.may_first}}
use Rattle.vs_ring_port.specs.{declared.queue.Queue.{TheVariants.{Event, Rx}, Queue}, Contents.RingContents, DriverCalls.{Reap, DriverAllows}}
use Rattle.vs_limits.specs.declared.TheConstants.{DRIVER_REPLIES_FULL}
use Rattle.vs_driver_parts.specs.Conversations.{Round, take_event, take_packet, packet_reaped, event_reaped, event_taken, staged_again, goes_on_with, stage_of, publish_of}
use Rattle.vs_driver_parts.specs.{Conversations.{published, with_state}, Playing.{BringsFit, CanMake, MayPublishAll, Plays, RingAllows}, State.DriverState, Receiving.on_page}

reaps_event : (r : Round) → nat_lt DRIVER_REPLIES_FULL (length r.state.replies) ≡ false → take_event r ≡ Ask (Reap Event) (event_reaped r)
reaps_event r few = rw (few, take_event) refl

pub took_event : (r after : Round) (s : DriverState) (bytes : List ℕ) (c m n e : RingContents)
    → nat_lt DRIVER_REPLIES_FULL (length r.state.replies) ≡ false → DriverAllows (Reap Event) (Some bytes) c m → Plays (event_taken bytes r) m after n → Plays (stage_of Event [] after.state) n s e
    → Plays (take_event r) c (record after { state = s }, true) e
took_event r after s bytes c m n e few reaped taken staged =
    let x : Round × Bool = (record after { state = s }, true) in
    let again : Plays (staged_again Event after) n x e =
    leads_bind RingAllows (stage_of Event [] after.state) (goes_on_with after) n e e s x staged (refl, refl) in
    leads_of RingAllows _ _ c e x (reaps_event r few)
    (Some bytes, m, (tt, reaped), leads_bind RingAllows (event_taken bytes r) (staged_again Event) m n e after x taken again)

-- what is staged is published
pub may_published : (queue : Queue) (r : Round) (c : RingContents) → MayPublishAll (published queue r) c → MayPublishAll (publish_of queue r.state) c
may_published queue r c may = may_first CanMake RingAllows (publish_of queue r.state) (with_state r) c may

pub round_published : (queue : Queue) (r : Round) (s : DriverState) (c m : RingContents) → Plays (publish_of queue r.state) c s m
    → Plays (published queue r) c (record r { state = s }) m
round_published queue r s c m plays = leads_bind RingAllows (publish_of queue r.state) (with_state r) c m m s (record r { state = s }) plays (refl, refl)

-- a packet
reaps_packet : (r : Round) → nat_le DRIVER_REPLIES_FULL (length r.state.replies) ≡ false → take_packet r ≡ Ask (Reap Rx) (packet_reaped r)
reaps_packet r few = rw (few, take_packet) refl

pub took_packet : (r : Round) (t s : DriverState) (bytes : List ℕ) (c m e : RingContents) → nat_le DRIVER_REPLIES_FULL (length r.state.replies) ≡ false
    → DriverAllows (Reap Rx) (Some bytes) c m → BringsFit bytes → t ≡ on_page bytes r.state → Plays (stage_of Rx [] t) m s e
    → Plays (take_packet r) c (record r { state = s; count = r.count + 1 }, true) e
took_packet r t s bytes c m e few reaped fits is staged =
    let now : DriverState → Round = λ u. record r { state = u; count = r.count + 1 } in
    let x : Round × Bool = (record r { state = s; count = r.count + 1 }, true) in
    let again : Plays (staged_again Rx (now t)) m x e =
    leads_bind RingAllows (stage_of Rx [] t) (goes_on_with (now t)) m e e s x staged (refl, refl) in
    leads_of RingAllows _ _ c e x (reaps_packet r few)
    (Some bytes, m, (fits, reaped), subst (λ (u : DriverState). Plays (staged_again Rx (now u)) m x e) is again)

pub took_no_packet : (r : Round) (c m : RingContents) → nat_le DRIVER_REPLIES_FULL (length r.state.replies) ≡ false → DriverAllows (Reap Rx) None c m
    → Plays (take_packet r) c (r, false) m
took_no_packet r c m few reaped = leads_of RingAllows _ _ c m (r, false) (reaps_packet r few) (None, m, (tt, reaped), (refl, refl))

pub took_no_event : (r : Round) (c m : RingContents) → nat_lt DRIVER_REPLIES_FULL (length r.state.replies) ≡ false → DriverAllows (Reap Event) None c m
    → Plays (take_event r) c (r, false) m
took_no_event r c m few reaped = leads_of RingAllows _ _ c m (r, false) (reaps_event r few) (None, m, (tt, reaped), (refl, refl))
