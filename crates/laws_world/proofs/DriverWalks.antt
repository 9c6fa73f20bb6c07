-- The driver's conversations over list rings that are tied to the device's log: each is one that any ring may have.
use Rattle.std.proofs.lemmas.Grind.{common_steps}
use Rattle.std.{proofs.Common.{◌≡◌, ℕ, ◌<◌, ◌^◌, List, [], ◌∷◌, ◌++◌, length, Option, Some, None, refl, sym, ap, subst, ◌∙◌, arith, true, Bool, false}, specs.Prelude.IsSomeAnd}
use Rattle.vs_contents.specs.CallTree.{Ask, Done, played}
use Rattle.laws_history.specs.{History.{History, Put, Side}, Packets.{IsFormed, is_request, packet_bytes}, declared.packet.Packet.Packet, Again.AllowsNow}
use Rattle.vs_page.specs.{Fair.IsFairLog, Held.{held_in, packet_held}, Log.{Driver, Log, flow_put, history_of, side_of}, declared.log.LogEntry.TheVariants.{GotPacket, PutPacket}}
use Rattle.vs_page.proofs.Entries.{one_put}
use Rattle.vs_ring_port.specs.{EndLog.{EndLog, all_put, entries_reaped, log_loaded, log_published, log_reaped, log_staged, pages_at, with_packet}, DriverCalls.DriverAnswer}
use Rattle.vs_ring_port.specs.{DriverCalls.{DriverCall, DriverMoves, HoldsPacket, LoadCid, MayPublish, Publish, Reap, Stage, driver_answer}, Contents.RingContents, Lists.Rings}
use Rattle.vs_ring_port.specs.{Lists.{after_publish, after_reap, next_back}, declared.queue.Queue.{Queue, TheVariants.{Event, Rx, Tx}}}
use Rattle.vs_ring_list.{specs.{Ends.driver_contents, Sound.IsTied}, proofs.Ties.{tied-load, tied-publish, tied-reap}}
use Rattle.vs_driver_parts.specs.{Conversations.DriverTree, Playing.{BringsFit, CanMake, FitsPorts, IsFitPage, Plays, RingAllows}}
use Rattle.laws_driver.proofs.Keeping.{Keeps}
use Rattle.laws_world.{specs.Pages.{AllHold, AllPacked, PageHolds, TxHolds}, proofs.Wire.next_fits}
use Rattle.laws_device.proofs.Seats.{PutsFit}

-- Pages that hold packets, put in a fair log, hold them with as many bytes as their headers tell.
put_formed : (side : Side) (h : History) (p : Packet) (b : Bool) → is_request p ≡ b → AllowsNow side h (Put p) → IsFormed p
put_formed side h p true is may = (may.opens is).1.formed
put_formed side h p false is may = (may.goes_on is).formed

module _ (log : Log) (page : List ℕ) where
  fair_before : (o : Option Packet) → IsFairLog Driver (with_packet (λ p. PutPacket p) o log) → IsFairLog Driver log
  fair_before None fair = fair
  fair_before (Some p) fair = ((one_put Driver log p).0 fair).0

  page_holds : (o : Option Packet) → packet_held page ≡ o → IsFairLog Driver (with_packet (λ p. PutPacket p) o log) → IsSomeAnd o (λ p. page ≡ packet_bytes p)
      → PageHolds page
  page_holds None held fair packed = absurd packed
  page_holds (Some p) held fair packed =
      let may = ((one_put Driver log p).0 fair).1 in
      let formed = put_formed (side_of Driver (flow_put Driver p)) (history_of Driver (flow_put Driver p) log) p (is_request p) refl may in
      record { packet = p; held = held; long = omega (arith, ap length packed, formed.len) }

first_fair : (pages : List (List ℕ)) (log : Log) → IsFairLog Driver (all_put pages log) → IsFairLog Driver log
first_fair [] log fair = fair
first_fair (page ∷ pages) log fair = fair_before log page (packet_held page) (first_fair pages (with_packet (λ p. PutPacket p) (packet_held page) log) fair)

hold_all : (pages : List (List ℕ)) (log : Log) → IsFairLog Driver (all_put pages log) → AllPacked pages → AllHold pages
hold_all [] log fair packed = tt
hold_all (page ∷ pages) log fair packed =
    let next : Log = with_packet (λ p. PutPacket p) (packet_held page) log in
    (page_holds log page (packet_held page) refl (first_fair pages next fair) packed.0, hold_all pages next fair packed.1)

hold_both : (xs ys : List (List ℕ)) → AllHold xs → AllHold ys → AllHold (xs ++ ys)
hold_both [] ys first rest = rest
hold_both (x ∷ xs) ys first rest = (first.0, hold_both xs ys first.1 rest)

packed_both : (xs ys : List (List ℕ)) → AllPacked xs → AllPacked ys → AllPacked (xs ++ ys)
packed_both [] ys first rest = rest
packed_both (x ∷ xs) ys first rest = (first.0, packed_both xs ys first.1 rest)

one_more : (xs : List (List ℕ)) (page : List ℕ) → AllPacked xs → HoldsPacket page → AllPacked (xs ++ page ∷ [])
one_more [] page first last = (last, tt)
one_more (x ∷ xs) page first last = (first.0, one_more xs page first.1 last)

module _ (device : EndLog) (fit : PutsFit device.entries) where
  abbrev pub shown : Rings × EndLog → RingContents
  shown s = driver_contents (record { lists = s.0; driver = s.1; device = device })

  pub record Ties (s : Rings × EndLog) : Type 0 where
    pub tied : IsTied s.0 s.1.entries device.entries
    pub cid : s.0.cid < 2 ^ 64
    pub pages : TxHolds s.0 s.1

  moved : (call : DriverCall) (a : DriverAnswer call) (P : Rings → Type 0) (f : Rings → Rings) (Q : EndLog → Type 0) (g : EndLog → EndLog) (s : Rings × EndLog)
      → P s.0 → Q s.1 → IsFairLog Driver (g s.1).entries → DriverMoves call a P f Q g (shown s) (shown (f s.0, g s.1))
  moved call a P f Q g s p q fair = grind (arith, common_steps)

  -- A packet that comes back is the next that the device put.
  came : (log : Log) (page : List ℕ) (lists : Rings) (o : Option Packet) → packet_held page ≡ o
      → IsTied lists (with_packet (λ p. GotPacket p) o log) device.entries → BringsFit page
  came log page lists None held tied p is = let both : None ≡ Some p = sym held ∙ is in absurd cc
  came log page lists (Some p) held tied r is =
      let wire = next_fits log device.entries p (held_in packet_held lists.rx.back, tied.rx) fit in
      let ports : FitsPorts p.header = record { src_port = wire.src_port; dst_port = wire.dst_port; src_cid = wire.src_cid; fwd_cnt = wire.fwd_cnt } in
      let both : Some p ≡ Some r = sym held ∙ is in
      let same : p ≡ r = cc in
      subst (λ (x : Packet). FitsPorts x.header) same ports

  reaped : (queue : Queue) (lists : Rings) (log : Log) (o : Option (List ℕ)) → IsTied lists (entries_reaped queue o log) device.entries
      → IsFitPage queue o
  reaped Rx lists log (Some page) tied = came log page lists (packet_held page) refl tied
  reaped Rx lists log None tied = tt
  reaped x lists log o tied = tt

  still : (queue : Queue) (s : Rings × EndLog) → Ties s → TxHolds (after_reap queue s.0) s.1 × ((after_reap queue s.0).cid < 2 ^ 64)
  still Rx s ties = (ties.pages, ties.cid)
  still x s ties = (ties.pages, ties.cid)

  -- Each call gets an answer that a ring may give.
  one : (call : DriverCall) (s : Rings × EndLog) → Ties s → CanMake call (shown s)
      → let r = driver_answer call s in RingAllows call r.0 (shown s) (shown r.1) × Ties r.1
  one (Stage queue page) s ties can = (
    moved (Stage queue page) tt (λ w. Unit {0}) (λ w. w) (λ l. Unit {0}) (log_staged queue page) s tt tt ties.tied.driver_fair,
    record { tied = ties.tied; cid = ties.cid; pages = (ties.pages.0, staged queue (can refl s.1 refl), ties.pages.2) },
  )
    where
      staged : (queue : Queue) → (queue ≡ Tx → HoldsPacket page) → AllPacked (log_staged queue page s.1).staged.tx
      staged Tx holds = one_more s.1.staged.tx page ties.pages.1 (holds refl)
      staged x holds = ties.pages.1
  one (Publish queue) s ties can =
      let pages = pages_at queue s.1.staged in
      let p = published queue (can refl s.1 refl) in (
        (
          pages,
          moved (Publish queue) tt (λ w. Unit {0}) (after_publish queue pages) (λ l. pages ≡ pages_at queue l.staged)
              (log_published queue) s tt refl p.0,
        ),
        record { tied = tied-publish queue pages s.0 s.1.entries device.entries ties.tied p.0; cid = p.2; pages = p.1 },
      )
    where
      published : (queue : Queue) → MayPublish queue s.1 → let r = (driver_answer (Publish queue) s).1 in
          IsFairLog Driver r.1.entries × TxHolds r.0 r.1 × (r.0.cid < 2 ^ 64)
      published Rx may = (ties.tied.driver_fair, ties.pages, ties.cid)
      published Event may = (ties.tied.driver_fair, ties.pages, ties.cid)
      published Tx may = (
        may,
        (
          hold_both s.0.tx.given s.1.staged.tx ties.pages.0 (hold_all s.1.staged.tx s.1.entries may ties.pages.1),
          tt,
          packed_both s.0.tx.given s.1.staged.tx ties.pages.2 ties.pages.1,
        ),
        ties.cid,
      )
  one (Reap queue) s ties can =
      let page = next_back queue s.0 in
      let tied = tied-reap s.0 s.1.entries device.entries ties.tied queue in
      let kept = still queue s ties in (
        (
          reaped queue (after_reap queue s.0) s.1.entries page tied,
          moved (Reap queue) page (λ w. page ≡ next_back queue w) (after_reap queue) (λ l. Unit {0})
              (log_reaped queue page) s refl tt tied.driver_fair,
        ),
        record { tied = tied; cid = kept.1; pages = kept.0 },
      )
  one LoadCid s ties can =
      let tied = tied-load s.0.cid s.0 s.1.entries device.entries ties.tied in (
        (ties.cid, moved LoadCid s.0.cid (λ w. s.0.cid ≡ w.cid) (λ w. w) (λ l. Unit {0}) (log_loaded s.0.cid) s refl tt tied.driver_fair),
        record { tied = tied; cid = ties.cid; pages = ties.pages },
      )

  pub walk : {A : Type 0} (Q : A → RingContents → Type 0) (tree : DriverTree A) (s : Rings × EndLog) → Ties s → Keeps Q tree (shown s)
      → let r = played driver_answer tree s in Plays tree (shown s) r.0 (shown r.1) × Ties r.1
  walk Q (Done x) s ties keeps = ((refl, refl), ties)
  walk Q (Ask call next) s ties keeps =
      let r = driver_answer call s in
      let now = one call s ties keeps.0 in
      let rest = walk Q (next r.0) r.1 now.1 (keeps.1 r.0 (shown r.1) now.0) in ((r.0, shown r.1, now.0, rest.0), rest.1)
