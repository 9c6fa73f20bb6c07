-- Each call keeps standard rings tied to their memory, and is one that the ports allow.
use Rattle.std.proofs.Common.{◌≡◌, ℕ, ◌+◌, ◌<◌, ◌≤◌, List, [], length, Option, None, Some, Contains, Bool, true, false, cond, refl, sym, ap, ap₂, ◌∙◌, subst}
use Rattle.std.specs.Option.{ForSome}
use Rattle.vs_ring_port.specs.{DeviceCalls.{CanReturn, DeviceAllows, LeavesNoGap}, DriverCalls.{CanPublish, CanStage, DriverAllows, LoadCid, Publish, Reap, Stage}, Contents.Given}
use Rattle.vs_ring_port.specs.{Contents.{PublishCid, Read, Return, Take, Write}, declared.{queue.Queue.{TheVariants.{Rx, Tx, Event}, Queue}, device_ring.{Chain.Chain, Next.Next}}}
use Rattle.laws_ring_journal.specs.History.{ByDevice, ByDriver, History, RingCall, then}
use Rattle.vs_ring_list.specs.Ends.{Ends, empty_ends}
use Rattle.vs_ring_plain.specs.Device.{DeviceState, answer_to, chains_held}
use Rattle.vs_plain_driver.specs.Queue.{DriverQueueState, flight_in, reaped_page}
use Rattle.laws_plain_rings.specs.{Exposed.{BothEnds, device_contents, device_told, driver_contents, driver_told}, Parts.{PartsState, driver_at, published_parts, reaped_parts}}
use Rattle.laws_plain_rings.specs.{Parts.{staged_parts, used_in, with_driver}, Calls.{after_call, ends_by}, Tie.{AreTied, IsTiedTo, areas_of}}
use Rattle.vs_ring_plain.proofs.Calls as plain
use Rattle.laws_plain_rings.proofs.Told as told

-- one call more
one_more : (n m : ℕ) (h new : History) (call : RingCall) → m ≡ n → new ≡ then h call → ends_by m new
    ≡ told.drives (ends_by n h) (after_call call)
one_more n m None new call same is = ap₂ ends_by same is
one_more n m (Some cs) new call same is = ap₂ ends_by same is

same_device : (queue : Queue) (q : DriverQueueState) (p : PartsState) → (with_driver queue q p).device.size ≡ p.device.size
same_device Rx q p = refl
same_device Tx q p = refl
same_device Event q p = refl

module _ (p : PartsState) (h : History) (now : BothEnds) (is : (let x : BothEnds = record { parts = p; ends = ends_by p.device.size h }
    in x) ≡ now)
    (tied : IsTiedTo p (ends_by p.device.size h)) where
  abbrev ends : Option Ends
  ends = ends_by p.device.size h

  ends_is : ends ≡ now.ends
  ends_is = ap (λ (x : BothEnds). x.ends) is

  -- what the driver's end exposes before and after
  driver_as : (call : RingCall) (P : Option Ends → Option Ends → Type 0) (m : ℕ) (new : History) → m ≡ p.device.size → new ≡ then h call
      → P ends (told.drives ends (after_call call)) → P now.ends (ends_by m new)
  driver_as call P m new size calls holds =
      subst (λ (x : Option Ends). P x (ends_by m new)) ends_is (subst (P ends) (sym (one_more p.device.size m h new call size calls)) holds)

  tied_as : (call : RingCall) (then_p q : PartsState) (new : History) → q ≡ then_p → then_p.device.size ≡ p.device.size → new ≡ then h call
      → IsTiedTo then_p (told.drives ends (after_call call)) → IsTiedTo q (ends_by q.device.size new)
  tied_as call then_p q new parts size calls holds =
      subst (λ (x : PartsState). IsTiedTo x (ends_by x.device.size new)) (sym parts)
      (subst (IsTiedTo then_p) (sym (one_more p.device.size then_p.device.size h new call size calls)) holds)

  -- a page is staged
  pub tied_staged : (queue : Queue) (page : List ℕ) (q : PartsState) (new : History) → q ≡ staged_parts queue page p
      → new ≡ then h (ByDriver (Stage queue page)) → length page ≤ 4096 → (queue ≡ Tx → 44 ≤ length page)
      → CanStage queue page (driver_contents now) → flight_in (driver_at queue p) < p.device.size → IsTiedTo q (ends_by q.device.size new)
  tied_staged queue page q new parts calls fits header can less =
      tied_as (ByDriver (Stage queue page)) (staged_parts queue page p) q new parts (same_device queue _ _) calls
      (told.told_staged p queue page ends tied fits header (subst (λ (x : Option Ends). CanStage queue page (driver_told x)) (sym ends_is)
      can) less)

  -- those staged are published
  pub tied_published : (queue : Queue) (q : PartsState) (new : History) → q ≡ published_parts queue p
      → new ≡ then h (ByDriver (Publish queue))
      → CanPublish queue (driver_contents now) → IsTiedTo q (ends_by q.device.size new)
  tied_published queue q new parts calls can =
      tied_as (ByDriver (Publish queue)) (published_parts queue p) q new parts (same_device queue _ _) calls
      (told.told_published p queue ends tied (subst (λ (x : Option Ends). CanPublish queue (driver_told x)) (sym ends_is) can))

  pub allows_published : (queue : Queue) (q : PartsState) (new : History) → q ≡ published_parts queue p
      → new ≡ then h (ByDriver (Publish queue))
      → CanPublish queue (driver_contents now)
      → DriverAllows (Publish queue) tt (driver_contents now) (driver_told (ends_by q.device.size new))
  allows_published queue q new parts calls can =
      driver_as (ByDriver (Publish queue)) (λ x y. DriverAllows (Publish queue) tt (driver_told x) (driver_told y)) q.device.size new
      (ap (λ (x : PartsState). x.device.size) parts ∙ same_device queue _ _) calls
      (told.allows_published p queue ends tied (subst (λ (x : Option Ends). CanPublish queue (driver_told x)) (sym ends_is) can))

  -- a page is reaped, or none
  pub tied_reaped : (queue : Queue) (q : PartsState) (new : History) → q ≡ reaped_parts queue p → new ≡ then h (ByDriver (Reap queue))
      → IsTiedTo q (ends_by q.device.size new)
  tied_reaped queue q new parts calls =
      tied_as (ByDriver (Reap queue)) (reaped_parts queue p) q new parts (same_device queue _ _) calls (told.told_reaped p queue ends tied)

  pub allows_reaped : (queue : Queue) (page : Option (List ℕ)) (q : PartsState) (new : History) → q ≡ reaped_parts queue p
      → new ≡ then h (ByDriver (Reap queue)) → page ≡ reaped_page (areas_of p queue) (driver_at queue p) p.device.memory (used_in queue p)
      → DriverAllows (Reap queue) page (driver_contents now) (driver_told (ends_by q.device.size new))
  allows_reaped queue page q new parts calls page_is =
      driver_as (ByDriver (Reap queue)) (λ x y. DriverAllows (Reap queue) page (driver_told x) (driver_told y)) q.device.size new
      (ap (λ (x : PartsState). x.device.size) parts ∙ same_device queue _ _) calls (told.allows_reaped p queue page ends tied page_is)

  -- the guest's CID is loaded
  pub tied_loaded : (new : History) → new ≡ then h (ByDriver LoadCid) → IsTiedTo p (ends_by p.device.size new)
  tied_loaded new calls = tied_as (ByDriver LoadCid) p p new refl refl calls (told.told_loaded p ends tied)

  pub allows_loaded : (cid : ℕ) (new : History) → cid ≡ p.cid → new ≡ then h (ByDriver LoadCid)
      → DriverAllows LoadCid cid (driver_contents now) (driver_told (ends_by p.device.size new))
  allows_loaded cid new cid_is calls =
      subst (λ (x : ℕ). DriverAllows LoadCid x (driver_contents now) (driver_told (ends_by p.device.size new))) (sym cid_is)
      (driver_as (ByDriver LoadCid) (λ x y. DriverAllows LoadCid p.cid (driver_told x) (driver_told y)) p.device.size new refl calls
      (told.allows_loaded p ends tied))

  -- what the device's end exposes
  device_is : p.device ≡ now.parts.device
  device_is = ap (λ (x : BothEnds). x.parts.device) is

  now_told : device_told p.device ends ≡ device_contents now
  now_told = ap device_contents is

  -- a chain is taken, or none
  pub tied_taken : (queue : Queue) (answer : Next) (q : PartsState) (new : History) → q ≡ record p { device = q.device }
      → answer_to (Take queue) p.device ≡ (answer, q.device) → new ≡ then h (ByDevice (Take queue)) → IsTiedTo q (ends_by q.device.size new)
  tied_taken queue answer q new parts exact calls =
      tied_as (ByDevice (Take queue)) (record p { device = q.device }) q new parts (plain.takes_by queue answer p.device q.device
      exact).same_size calls
      (told.told_taken p queue answer q.device ends tied exact)

  pub allows_taken : (queue : Queue) (answer : Next) (q : PartsState) (new : History) → answer_to (Take queue) p.device ≡ (answer, q.device)
      → new ≡ then h (ByDevice (Take queue))
      → DeviceAllows (Take queue) answer (device_contents now) (device_told q.device (ends_by q.device.size new))
  allows_taken queue answer q new exact calls =
      subst (λ x. DeviceAllows (Take queue) answer x (device_told q.device (ends_by q.device.size new))) now_told
      (subst (λ (x : Option Ends). DeviceAllows (Take queue) answer (device_told p.device ends) (device_told q.device x))
      (sym (one_more p.device.size q.device.size h new (ByDevice (Take queue)) (plain.takes_by queue answer p.device q.device
      exact).same_size calls))
      (told.allows_taken p queue answer q.device ends tied exact))

  -- bytes are read
  pub tied_read : (c : Chain) (place count : ℕ) (answer : List ℕ) (q : PartsState) → q ≡ record p { device = q.device }
      → answer_to (Read c place count) p.device ≡ (answer, q.device) → Contains (chains_held now.parts.device) c
      → place + count ≤ c.readable
      → IsTiedTo q (ends_by q.device.size h)
  tied_read c place count answer q parts exact has within =
      subst (λ (x : PartsState). IsTiedTo x (ends_by x.device.size h)) (sym parts)
      (subst (λ (k : ℕ). IsTiedTo (record p { device = q.device }) (ends_by k h)) (sym (plain.reads_by c place count answer p.device
      q.device exact).same_size)
      (told.told_read p c place count answer q.device ends tied exact (subst (λ (d : DeviceState). Contains (chains_held d) c) (sym
      device_is) has) within))

  pub allows_read : (c : Chain) (place count : ℕ) (answer : List ℕ) (q : PartsState)
      → answer_to (Read c place count) p.device ≡ (answer, q.device) → Contains (chains_held now.parts.device) c
      → place + count ≤ c.readable
      → DeviceAllows (Read c place count) answer (device_contents now) (device_told q.device (ends_by q.device.size h))
  allows_read c place count answer q exact has within =
      subst (λ x. DeviceAllows (Read c place count) answer x (device_told q.device (ends_by q.device.size h))) now_told
      (subst (λ (k : ℕ). DeviceAllows (Read c place count) answer (device_told p.device ends) (device_told q.device (ends_by k h)))
      (sym (plain.reads_by c place count answer p.device q.device exact).same_size)
      (told.allows_read p c place count answer q.device ends tied exact (subst (λ (d : DeviceState). Contains (chains_held d) c) (sym
      device_is) has) within))

  -- bytes are written
  pub tied_written : (c : Chain) (place : ℕ) (bytes : List ℕ) (q : PartsState) (new : History) → q ≡ record p { device = q.device }
      → answer_to (Write c place bytes) p.device ≡ (tt, q.device) → Contains (chains_held now.parts.device) c
      → place + length bytes ≤ c.writable
      → LeavesNoGap c place (device_contents now) → new ≡ then h (ByDevice (Write c place bytes)) → IsTiedTo q (ends_by q.device.size new)
  tied_written c place bytes q new parts exact has within no_gap calls =
      tied_as (ByDevice (Write c place bytes)) (record p { device = q.device }) q new parts (plain.writes_by c place bytes p.device
      q.device exact).same_size
      calls (told.told_written p c place bytes q.device ends tied exact (subst (λ (d : DeviceState). Contains (chains_held d) c) (sym
      device_is) has) within
      (subst (LeavesNoGap c place) (sym now_told) no_gap))

  pub allows_written : (c : Chain) (place : ℕ) (bytes : List ℕ) (q : PartsState) (new : History)
      → answer_to (Write c place bytes) p.device ≡ (tt, q.device) → new ≡ then h (ByDevice (Write c place bytes))
      → DeviceAllows (Write c place bytes) tt (device_contents now) (device_told q.device (ends_by q.device.size new))
  allows_written c place bytes q new exact calls =
      subst (λ x. DeviceAllows (Write c place bytes) tt x (device_told q.device (ends_by q.device.size new))) now_told
      (subst (λ (x : Option Ends). DeviceAllows (Write c place bytes) tt (device_told p.device ends) (device_told q.device x))
      (sym (one_more p.device.size q.device.size h new (ByDevice (Write c place bytes)) (plain.writes_by c place bytes p.device
      q.device exact).same_size calls))
      (told.allows_written p c place bytes q.device ends tied exact))

  -- a chain is returned
  pub tied_returned : (c : Chain) (len : ℕ) (q : PartsState) (new : History) → q ≡ record p { device = q.device }
      → answer_to (Return c len) p.device ≡ (tt, q.device) → Contains (chains_held now.parts.device) c
      → CanReturn c len (device_contents now)
      → new ≡ then h (ByDevice (Return c len)) → IsTiedTo q (ends_by q.device.size new)
  tied_returned c len q new parts exact has can calls =
      tied_as (ByDevice (Return c len)) (record p { device = q.device }) q new parts (plain.returns_by c len p.device q.device exact).1
      calls (told.told_returned p c len q.device ends tied exact (subst (λ (d : DeviceState). Contains (chains_held d) c) (sym
      device_is) has)
      (subst (CanReturn c len) (sym now_told) can))

  pub allows_returned : (c : Chain) (len : ℕ) (q : PartsState) (new : History) → answer_to (Return c len) p.device ≡ (tt, q.device)
      → CanReturn c len (device_contents now) → new ≡ then h (ByDevice (Return c len))
      → DeviceAllows (Return c len) tt (device_contents now) (device_told q.device (ends_by q.device.size new))
  allows_returned c len q new exact can calls =
      subst (λ x. DeviceAllows (Return c len) tt x (device_told q.device (ends_by q.device.size new))) now_told
      (subst (λ (x : Option Ends). DeviceAllows (Return c len) tt (device_told p.device ends) (device_told q.device x))
      (sym (one_more p.device.size q.device.size h new (ByDevice (Return c len)) (plain.returns_by c len p.device q.device exact).1 calls))
      (told.allows_returned p c len q.device ends tied exact (subst (CanReturn c len) (sym now_told) can)))

  -- the pages given are counted
  pub tied_given : (queue : Queue) (count : ℕ) (q : PartsState) → q ≡ record p { device = q.device }
      → answer_to (Given queue) p.device ≡ (count, q.device) → IsTiedTo q (ends_by q.device.size h)
  tied_given queue count q parts exact =
      subst (λ (x : PartsState). IsTiedTo x (ends_by x.device.size h)) (sym parts)
      (subst (λ (k : ℕ). IsTiedTo (record p { device = q.device }) (ends_by k h)) (sym (plain.counts_by queue count p.device q.device
      exact).same_size)
      (told.told_given p queue count q.device ends tied exact))

  pub allows_given : (queue : Queue) (count : ℕ) (q : PartsState) → answer_to (Given queue) p.device ≡ (count, q.device)
      → DeviceAllows (Given queue) count (device_contents now) (device_told q.device (ends_by q.device.size h))
  allows_given queue count q exact =
      subst (λ x. DeviceAllows (Given queue) count x (device_told q.device (ends_by q.device.size h))) now_told
      (subst (λ (k : ℕ). DeviceAllows (Given queue) count (device_told p.device ends) (device_told q.device (ends_by k h)))
      (sym (plain.counts_by queue count p.device q.device exact).same_size) (told.allows_given p queue count q.device ends tied exact))

  -- the guest's CID is published
  pub tied_reset : (cid : ℕ) (q : PartsState) (new : History) → q ≡ record p { cid = cid } → new ≡ then h (ByDevice (PublishCid cid))
      → IsTiedTo q (ends_by q.device.size new)
  tied_reset cid q new parts calls =
      tied_as (ByDevice (PublishCid cid)) (record p { cid = cid }) q new parts refl calls (told.told_reset p cid ends tied)

  pub allows_reset : (cid : ℕ) (q : PartsState) (new : History) → q ≡ record p { cid = cid } → new ≡ then h (ByDevice (PublishCid cid))
      → DeviceAllows (PublishCid cid) tt (device_contents now) (device_told q.device (ends_by q.device.size new))
  allows_reset cid q new parts calls =
      subst (λ x. DeviceAllows (PublishCid cid) tt x (device_told q.device (ends_by q.device.size new))) now_told
      (subst (λ (x : PartsState). DeviceAllows (PublishCid cid) tt (device_told p.device ends) (device_told x.device (ends_by
      x.device.size new))) (sym parts)
      (subst (λ (x : Option Ends). DeviceAllows (PublishCid cid) tt (device_told p.device ends) (device_told p.device x))
      (sym (one_more p.device.size p.device.size h new (ByDevice (PublishCid cid)) refl calls)) (told.allows_reset p cid ends tied)))

-- no call was made yet
pub first_is : (b : Bool) (n : ℕ) (h : History) → h ≡ cond b (Some []) None → ends_by n h ≡ cond b (Some (empty_ends n)) None
first_is true n h is = ap (ends_by n) is
first_is false n h is = ap (ends_by n) is

-- what is true of the ends where they are known
pub of_ends : (r : BothEnds) (P : Ends → Type 0) → IsTiedTo r.parts r.ends → ((w : Ends) → AreTied r.parts w → P w) → ForSome r.ends P
of_ends r P tied all w is = all w (subst (λ (o : Option Ends). IsTiedTo r.parts o) is tied)
