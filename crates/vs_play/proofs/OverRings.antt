-- Over rings that are seen as their ends a call of the driver's or the device's has one end: the one that it has over lists.
use Rattle.std.proofs.Common.{◌≡◌, ℕ, Bool, List, ◌++◌, Option, Some, sym, ap, subst, ◌∙◌}
use Rattle.vs_outside.specs.Host.{HostContents}
use Rattle.vs_ring_port.specs.{Chains.chains_of, Contents.RingContents, Counts.Counts, declared.device_ring.Chain.Chain}
use Rattle.vs_ring_list.specs.Ends.{Ends, device_contents, driver_contents}
use Rattle.vs_driver_parts.specs.{Conversations.DriverTree, Playing.IsRingOf, Playing.Plays, Playing.all_flown, State.DriverState}
use Rattle.laws_driver.specs.Honest.{IsHonest, IsHonestWith}
use Rattle.vs_device_parts.specs.{Calls.DeviceTree, Playing.IsItsRing, Playing.Runs, Playing.situation, State.DeviceState}
use Rattle.vs_proxy_parts.specs.State.{ProxyState}
use Rattle.laws_proxy.specs.Order.{IsInOrder}
use Rattle.vs_both_ends.specs.Seen.{IsDeviceOf, IsDriverOf}
use Rattle.vs_play.specs.{Ready.IsDriven, Told.Answers}
use Rattle.laws_world.{specs.Over.over_lists, proofs.OverLists.over}

module _ (e : Ends) (n : ℕ) (flown waiting : Counts) (c : RingContents) (shows : IsDriverOf e n flown waiting c) where
  pub ring_of : (s : DriverState) → IsDriven s e → IsRingOf n flown waiting s
  ring_of s driven = record {
    size = driven.ring.size ∙ sym shows.size_is;
    flight = shows.flight_is ∙ (driven.ring.flight ∙ ap (λ m. all_flown m s) (sym shows.size_is));
    staged = shows.staged_is ∙ driven.ring.staged;
    none = driven.ring.none;
  }

  pub honest_of : (s : DriverState) → IsDriven s e → IsHonest s c
  honest_of s driven = subst (IsHonest s) (sym shows.exposes) driven.honest

  pub driven_as : (hosts : Bool) (first : ℕ) (s : DriverState) → IsRingOf n flown waiting s → IsHonestWith hosts first s c → IsDriven s e
  driven_as hosts first s ring honest = record {
    ring = record {
      size = ring.size ∙ shows.size_is;
      flight = sym shows.flight_is ∙ (ring.flight ∙ ap (λ m. all_flown m s) shows.size_is);
      staged = sym shows.staged_is ∙ ring.staged;
      none = ring.none;
    };
    honest = (hosts, first, subst (IsHonestWith hosts first s) shows.exposes honest);
  }

  pub honest_with : (hosts : Bool) (first : ℕ) (s : DriverState) → IsHonestWith hosts first s (driver_contents e) → IsHonestWith hosts first s c
  honest_with hosts first s honest = subst (IsHonestWith hosts first s) (sym shows.exposes) honest

pub played_as : {A : Type 0} (tree : DriverTree A) (v w : Ends) (n m : ℕ) (f g k l : Counts) (c d : RingContents) (x : A)
    → IsDriverOf v n f k c → IsDriverOf w m g l d → Plays tree c x d → over_lists tree v ≡ (x, w)
played_as tree v w n m f g k l c d x old new plays =
    over tree v w x (subst (λ t. Plays tree (driver_contents v) x t) new.exposes (subst (λ t. Plays tree t x d) old.exposes plays))

pub answered : {A : Type 0} (tree : DriverTree (DriverState × A)) (text_of : A → DriverState → List ℕ) (v w : Ends) (n m : ℕ) (f g k l : Counts)
    (c d : RingContents) (s t : DriverState) (a : A) (text text' : List ℕ) → IsDriverOf v n f k c → IsDriverOf w m g l d → IsDriven s v
    → Plays tree c (t, a) d → IsRingOf m g l t → ((hosts : Bool) (first : ℕ) → IsHonestWith hosts first s c → IsHonestWith hosts first t d)
    → text' ≡ text ++ text_of a t → Answers tree text_of t v w text text'
answered tree text_of v w n m f g k l c d s t a text text' old new driven plays ring honest printed =
    let hosts = driven.honest.0 in
    let first = driven.honest.1 in
    record {
      answer = a;
      played = played_as tree v w n m f g k l c d (t, a) old new plays;
      printed = printed;
      driven = driven_as w m g l d new hosts first t ring (honest hosts first (honest_with v n f k c old hosts first s driven.honest.2));
    }

-- The device's calls.
pub its_ring : (v : Ends) (n : ℕ) (held : List Chain) (c : RingContents) (s : DeviceState) → IsDeviceOf v n held c
    → IsItsRing (chains_of v.device.held) s → IsItsRing held s
its_ring v n held c s shows ring = subst (λ h. IsItsRing h s) (sym shows.held_is) ring

pub ring_is : (v : Ends) (n : ℕ) (held : List Chain) (c : RingContents) (s : DeviceState) → IsDeviceOf v n held c
    → IsItsRing held s → IsItsRing (chains_of v.device.held) s
ring_is v n held c s shows ring = subst (λ h. IsItsRing h s) shows.held_is ring

pub order_as : (first : ℕ) (v : Ends) (n : ℕ) (held : List Chain) (c : RingContents) (s : ProxyState) (h : HostContents) (faults : ℕ)
    → IsDeviceOf v n held c → IsInOrder first s (situation (device_contents v) (Some h) 0) → IsInOrder first s (situation c (Some h) faults)
order_as first v n held c s h faults shows order =
    subst (λ t. IsInOrder first s (situation t (Some h) faults)) (sym shows.exposes) (record { streams = order.streams; ring = order.ring })

-- What a call runs, whose tree asks for the queues' size.
pub runs_as : {A : Type 0} (v w : Ends) (n m : ℕ) (held kept : List Chain) (c d : RingContents) (tree : ℕ → DeviceTree A)
    (h g : Option HostContents) (k l : ℕ) (x : A) → IsDeviceOf v n held c → IsDeviceOf w m kept d
    → Runs (tree n) (situation c h k) x (situation d g l)
    → Runs (tree v.lists.size) (situation (device_contents v) h k) x (situation (device_contents w) g l)
runs_as v w n m held kept c d tree h g k l x old new runs =
    subst (λ t. Runs (tree v.lists.size) (situation (device_contents v) h k) x (situation t g l)) new.exposes
    (subst (λ t. Runs (tree v.lists.size) (situation t h k) x (situation d g l)) old.exposes
    (subst (λ i. Runs (tree i) (situation c h k) x (situation d g l)) old.size_is runs))
