-- Each call keeps the ends tied, where they are known; and it is one that the ports allow.
use Rattle.std.proofs.lemmas.Grind.{common_steps}
use Rattle.std.proofs.{Common.{◌≡◌, ℕ, ◌+◌, ◌<◌, ◌≤◌, List, [], ◌∷◌, length, Option, None, Some, Contains, refl, sym, ap, ◌∙◌, subst, arith}}
use Rattle.std.specs.{Prelude.option_map}
use Rattle.vs_page.specs.{Fair.IsFairLog, Log.{Device, Driver}}
use Rattle.vs_ring_port.specs.{DriverCalls.{CanPublish, CanStage, DriverAllows, DriverAnswer, DriverCall, DriverMoves, LoadCid, Publish, Reap, Stage}, Contents.DeviceAnswer}
use Rattle.vs_ring_port.specs.{Contents.{DeviceCall, Given, PublishCid, Read, Return, Take, Write}, DeviceCalls.{CanReturn, DeviceAllows, DeviceMoves, IsTakenAs, IsWholePacket}}
use Rattle.vs_ring_port.specs.{DeviceCalls.LeavesNoGap, EndLog.{EndLog, entries_published, entries_returned, pages_at}, Lists.{Rings, next_at, next_back, next_given, queue_of}}
use Rattle.vs_ring_port.specs.{declared.{queue.Queue.{TheVariants.{Rx, Tx, Event}, Queue}, device_ring.{Chain.Chain, Next.Next}}, Chains.{bytes_in, held_of}}
use Rattle.vs_ring_list.{specs.Ends.Ends}
use Rattle.vs_ring_plain.specs.Device.{DeviceState, answer_to, chains_held}
use Rattle.vs_plain_driver.specs.Queue.{flight_in, reaped_page}
use Rattle.laws_plain_rings.specs.{Parts.{PartsState, driver_at, published_parts, reaped_parts, staged_parts, used_in}, Tie.{AreTied, IsTiedTo, areas_of}, Calls.after_device}
use Rattle.laws_plain_rings.{specs.{Calls.after_driver, Exposed.{device_told, driver_told}}, proofs.{Publishing.{tied_loaded, tied_published}, Reaping.reaps, Reading.reads}}
use Rattle.laws_plain_rings.proofs.{Reading.tied_written, Resetting.tied_reset, Returning.{counts, tied_returned}, Staging.tied_staged, Taking.takes}

abbrev pub drives : (ends : Option Ends) → (Ends → Ends) → Option Ends
drives ends f = option_map f ends

-- where nothing is known, a call of the driver is allowed
quiet : (call : DriverCall) (answer : DriverAnswer call) (P : Rings → Type 0) (f : Rings → Rings) (Q : EndLog → Type 0)
    (g : EndLog → EndLog) → DriverMoves call answer P f Q g (driver_told None) (driver_told None)
quiet call answer P f Q g = grind (arith, common_steps)

-- a call of the driver whose answer the lists give
driver_moves : (call : DriverCall) (answer : DriverAnswer call) (P : Rings → Type 0) (f : Rings → Rings) (Q : EndLog → Type 0)
    (g : EndLog → EndLog) (w : Ends) → P w.lists → Q w.driver → IsFairLog Driver (g w.driver).entries
    → DriverMoves call answer P f Q g (driver_told (Some w)) (driver_told (Some (record w { lists = f w.lists; driver = g w.driver })))
driver_moves call answer P f Q g w p q fair = grind (arith, common_steps)

-- the same of the device
device_quiet : (call : DeviceCall) (answer : DeviceAnswer call) (P : Rings → Type 0) (f : Rings → Rings) (Q : EndLog → Type 0)
    (g : EndLog → EndLog) (d new : DeviceState) → answer_to call d ≡ (answer, new)
    → DeviceMoves call answer P f Q g (device_told d None) (device_told new None)
device_quiet call answer P f Q g d new is = grind (arith, common_steps)

device_moves : (call : DeviceCall) (answer : DeviceAnswer call) (P : Rings → Type 0) (f : Rings → Rings) (Q : EndLog → Type 0)
    (g : EndLog → EndLog) (d new : DeviceState) (w : Ends) → answer_to call d ≡ (answer, new) → P w.lists → Q w.device
    → IsFairLog Device (g w.device).entries
    → DeviceMoves call answer P f Q g (device_told d (Some w)) (device_told new (Some (record w {
      lists = f w.lists;
      device = g
          w.device;
    })))
device_moves call answer P f Q g d new w is p q fair = grind (arith, common_steps)

taken_as : (queue : Queue) (place : ℕ) (page : Option (List ℕ)) → IsTakenAs queue (next_at queue place page) page
taken_as queue place page = grind (arith, common_steps)

module _ (p : PartsState) where
  -- a page is staged
  pub told_staged : (queue : Queue) (page : List ℕ) (ends : Option Ends) → IsTiedTo p ends → length page ≤ 4096 → (queue ≡ Tx
      → 44 ≤ length page)
      → CanStage queue page (driver_told ends) → flight_in (driver_at queue p) < p.device.size
      → IsTiedTo (staged_parts queue page p) (drives ends (after_driver (Stage queue page)))
  told_staged queue page None tied fits header can less = tt
  told_staged queue page (Some w) tied fits header can less = by (driver_at queue p).free refl
    where
      by : (free : List ℕ) → (driver_at queue p).free ≡ free → AreTied (staged_parts queue page p) (after_driver (Stage queue page) w)
      by [] none = absurd (omega (arith, less, tied.sizes queue, ap length none))
      by (id ∷ rest) free = tied_staged p w tied queue page fits header (can refl w.driver refl) id rest free

  -- those staged are published
  fair_then : (queue : Queue) (w : Ends) → AreTied p w → CanPublish queue (driver_told (Some w))
      → IsFairLog Driver (entries_published queue (pages_at queue w.driver.staged) w.driver.entries)
  fair_then Rx w tied can = tied.logs.driver_fair
  fair_then Tx w tied can = can refl w.driver refl
  fair_then Event w tied can = tied.logs.driver_fair

  pub told_published : (queue : Queue) (ends : Option Ends) → IsTiedTo p ends → CanPublish queue (driver_told ends)
      → IsTiedTo (published_parts queue p) (drives ends (after_driver (Publish queue)))
  told_published queue None tied can = tt
  told_published queue (Some w) tied can = tied_published p w tied queue (fair_then queue w tied can)

  pub allows_published : (queue : Queue) (ends : Option Ends) → IsTiedTo p ends → CanPublish queue (driver_told ends)
      → DriverAllows (Publish queue) tt (driver_told ends) (driver_told (drives ends (after_driver (Publish queue))))
  allows_published queue None tied can = ([], quiet (Publish queue) tt _ _ _ _)
  allows_published queue (Some w) tied can =
      (pages_at queue w.driver.staged, driver_moves (Publish queue) tt _ _ _ _ w tt refl (fair_then queue w tied can))

  -- a page is reaped, or none
  pub told_reaped : (queue : Queue) (ends : Option Ends) → IsTiedTo p ends
      → IsTiedTo (reaped_parts queue p) (drives ends (after_driver (Reap queue)))
  told_reaped queue None tied = tt
  told_reaped queue (Some w) tied = (reaps p w tied queue).tied_then

  pub allows_reaped : (queue : Queue) (page : Option (List ℕ)) (ends : Option Ends) → IsTiedTo p ends
      → page ≡ reaped_page (areas_of p queue) (driver_at queue p) p.device.memory (used_in queue p)
      → DriverAllows (Reap queue) page (driver_told ends) (driver_told (drives ends (after_driver (Reap queue))))
  allows_reaped queue page None tied is = quiet (Reap queue) page _ _ _ _
  allows_reaped queue page (Some w) tied is =
      let page_is : page ≡ next_back queue w.lists = is ∙ (reaps p w tied queue).page in
      subst (λ (x : Option (List ℕ)). DriverAllows (Reap queue) x (driver_told (Some w)) (driver_told (Some (after_driver (Reap queue)
      w)))) (sym page_is)
      (driver_moves (Reap queue) (next_back queue w.lists) _ _ _ _ w refl tt (reaps p w tied queue).tied_then.logs.driver_fair)

  -- the guest's CID is loaded
  pub told_loaded : (ends : Option Ends) → IsTiedTo p ends → IsTiedTo p (drives ends (after_driver LoadCid))
  told_loaded None tied = tt
  told_loaded (Some w) tied = tied_loaded p w tied

  pub allows_loaded : (ends : Option Ends) → IsTiedTo p ends
      → DriverAllows LoadCid p.cid (driver_told ends) (driver_told (drives ends (after_driver LoadCid)))
  allows_loaded None tied = quiet LoadCid p.cid _ _ _ _
  allows_loaded (Some w) tied =
      subst (λ (x : ℕ). DriverAllows LoadCid x (driver_told (Some w)) (driver_told (Some (after_driver LoadCid w)))) tied.cid
      (driver_moves LoadCid w.lists.cid _ _ _ _ w refl tt (tied_loaded p w tied).logs.driver_fair)

  -- a chain is taken, or none
  pub told_taken : (queue : Queue) (answer : Next) (new : DeviceState) (ends : Option Ends) → IsTiedTo p ends
      → answer_to (Take queue) p.device ≡ (answer, new)
      → IsTiedTo (record p { device = new }) (drives ends (after_device (Take queue)))
  told_taken queue answer new None tied is = tt
  told_taken queue answer new (Some w) tied is =
      subst (λ (r : Next × DeviceState). AreTied (record p { device = r.1 }) (after_device (Take queue) w)) is (takes p w tied
      queue).tied_then

  pub allows_taken : (queue : Queue) (answer : Next) (new : DeviceState) (ends : Option Ends) → IsTiedTo p ends
      → answer_to (Take queue) p.device ≡ (answer, new)
      → DeviceAllows (Take queue) answer (device_told p.device ends) (device_told new (drives ends (after_device (Take queue))))
  allows_taken queue answer new None tied is = (None, device_quiet (Take queue) answer _ _ _ _ p.device new is)
  allows_taken queue answer new (Some w) tied is =
      let page = next_given queue w.lists in
      let place = (queue_of queue w.lists).place in
      let t = takes p w tied queue in
      let answer_is : answer ≡ next_at queue place page = sym (ap (λ (r : Next × DeviceState). r.0) is) ∙ t.answer in
      subst (λ (x : Next). (answer_to (Take queue) p.device ≡ (x, new)) → DeviceAllows (Take queue) x (device_told p.device (Some w))
      (device_told new (Some (after_device (Take queue) w)))) (sym answer_is)
      (λ is. (
        page,
        device_moves (Take queue) (next_at queue place page) _ _ _ _ p.device new w is (refl, refl)
            (taken_as queue place page, λ _. t.whole) t.tied_then.logs.device_fair,
      )) is

  -- bytes are read
  pub told_read : (c : Chain) (place count : ℕ) (answer : List ℕ) (new : DeviceState) (ends : Option Ends) → IsTiedTo p ends
      → answer_to (Read c place count) p.device ≡ (answer, new) → Contains (chains_held p.device) c → place + count ≤ c.readable
      → IsTiedTo (record p { device = new }) ends
  told_read c place count answer new None tied is has within = tt
  told_read c place count answer new (Some w) tied is has within =
      subst (λ (r : List ℕ × DeviceState). AreTied (record p { device = r.1 }) w) is (reads p w tied c has place count within).tied_then

  pub allows_read : (c : Chain) (place count : ℕ) (answer : List ℕ) (new : DeviceState) (ends : Option Ends) → IsTiedTo p ends
      → answer_to (Read c place count) p.device ≡ (answer, new) → Contains (chains_held p.device) c → place + count ≤ c.readable
      → DeviceAllows (Read c place count) answer (device_told p.device ends) (device_told new ends)
  allows_read c place count answer new None tied is has within = device_quiet (Read c place count) answer _ _ _ _ p.device new is
  allows_read c place count answer new (Some w) tied is has within =
      device_moves (Read c place count) answer (λ x. Unit {0}) (λ x. x) _ (λ l. l) p.device new w is tt
      (sym (ap (λ (r : List ℕ × DeviceState). r.0) is) ∙ (reads p w tied c has place count within).answer) tied.logs.device_fair

  -- bytes are written
  pub told_written : (c : Chain) (place : ℕ) (bytes : List ℕ) (new : DeviceState) (ends : Option Ends) → IsTiedTo p ends
      → answer_to (Write c place bytes) p.device ≡ (tt, new) → Contains (chains_held p.device) c → place + length bytes ≤ c.writable
      → LeavesNoGap c place (device_told p.device ends)
      → IsTiedTo (record p { device = new }) (drives ends (after_device (Write c place bytes)))
  told_written c place bytes new None tied is has within no_gap = tt
  told_written c place bytes new (Some w) tied is has within no_gap =
      subst (λ (r : Unit {0} × DeviceState). AreTied (record p { device = r.1 }) (after_device (Write c place bytes) w)) is
      (tied_written p w tied c has place bytes within (no_gap w.device refl))

  pub allows_written : (c : Chain) (place : ℕ) (bytes : List ℕ) (new : DeviceState) (ends : Option Ends) → IsTiedTo p ends
      → answer_to (Write c place bytes) p.device ≡ (tt, new)
      → DeviceAllows (Write c place bytes) tt (device_told p.device ends) (device_told new (drives ends (after_device (Write c place
      bytes))))
  allows_written c place bytes new ends tied is = grind (arith, common_steps)

  -- a chain is returned
  whole_then : (queue : Queue) (page : List ℕ) (w : Ends) → AreTied p w → IsWholePacket queue page w.device
      → IsFairLog Device (entries_returned queue page w.device.entries)
  whole_then queue page w tied whole = grind (arith, common_steps)

  pub told_returned : (c : Chain) (len : ℕ) (new : DeviceState) (ends : Option Ends) → IsTiedTo p ends
      → answer_to (Return c len) p.device ≡ (tt, new) → Contains (chains_held p.device) c → CanReturn c len (device_told p.device ends)
      → IsTiedTo (record p { device = new }) (drives ends (after_device (Return c len)))
  told_returned c len new None tied is has can = tt
  told_returned c len new (Some w) tied is has can =
      subst (λ (r : Unit {0} × DeviceState). AreTied (record p { device = r.1 }) (after_device (Return c len) w)) is
      (tied_returned p w tied c has len (can.written w.device refl) (whole_then c.queue _ w tied (can.whole refl w.device refl)))

  pub allows_returned : (c : Chain) (len : ℕ) (new : DeviceState) (ends : Option Ends) → IsTiedTo p ends
      → answer_to (Return c len) p.device ≡ (tt, new) → CanReturn c len (device_told p.device ends)
      → DeviceAllows (Return c len) tt (device_told p.device ends) (device_told new (drives ends (after_device (Return c len))))
  allows_returned c len new None tied is can = ([], device_quiet (Return c len) tt _ _ _ _ p.device new is)
  allows_returned c len new (Some w) tied is can = (
    bytes_in c w.device.held,
    device_moves (Return c len) tt (λ x. Unit {0}) _ _ _ p.device new w is tt refl (whole_then c.queue _ w tied (can.whole refl
        w.device refl)),
  )

  -- the pages given are counted
  pub told_given : (queue : Queue) (count : ℕ) (new : DeviceState) (ends : Option Ends) → IsTiedTo p ends
      → answer_to (Given queue) p.device ≡ (count, new) → IsTiedTo (record p { device = new }) ends
  told_given queue count new None tied is = tt
  told_given queue count new (Some w) tied is =
      subst (λ (r : ℕ × DeviceState). AreTied (record p { device = r.1 }) w) is (counts p w tied queue).tied_then

  pub allows_given : (queue : Queue) (count : ℕ) (new : DeviceState) (ends : Option Ends) → IsTiedTo p ends
      → answer_to (Given queue) p.device ≡ (count, new)
      → DeviceAllows (Given queue) count (device_told p.device ends) (device_told new ends)
  allows_given queue count new None tied is = (0, device_quiet (Given queue) count _ _ _ _ p.device new is)
  allows_given queue count new (Some w) tied is = (
    held_of queue w.device.held,
    device_moves (Given queue) count _ (λ x. x) _ (λ l. l) p.device new w is
        (sym (ap (λ (r : ℕ × DeviceState). r.0) is) ∙ (counts p w tied queue).answer) refl tied.logs.device_fair,
  )

  -- the guest's CID is published
  pub told_reset : (cid : ℕ) (ends : Option Ends) → IsTiedTo p ends → IsTiedTo (record p { cid = cid }) (drives ends (after_device
      (PublishCid cid)))
  told_reset cid None tied = tt
  told_reset cid (Some w) tied = tied_reset p w tied cid

  pub allows_reset : (cid : ℕ) (ends : Option Ends) → IsTiedTo p ends
      → DeviceAllows (PublishCid cid) tt (device_told p.device ends) (device_told p.device (drives ends (after_device (PublishCid cid))))
  allows_reset cid ends tied = grind (arith, common_steps)
