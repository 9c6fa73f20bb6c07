-- Where a stage ends for want of a page: the last load showed none that isn't taken.
use Rattle.std.proofs.Common.{arith}
use Rattle.std.proofs.lemmas.Grind.{common_steps}
use Rattle.std.proofs.Common.{◌≡◌, ◌≢◌, ◌+◌, ◌-◌, ◌==◌, ℕ, nat_le, Bool, true, false, not, cond, List, [], ◌∷◌, length, Option, Some, None, Result, Err, refl}
use Rattle.std.proofs.Common.{sym, ap, subst, ◌∙◌}
use Rattle.vs_conn.specs.{Headers.{owed_header}, End.owes_of, declared.end.Owed.Owed}
use Rattle.vs_contents.{specs.{CallTree.{Ask, Done, bind, for_each, while_up_to}, Contents.Relates}, proofs.Leads.{leads_bind, leads_split}}
use Rattle.vs_credit.specs.Credit.{free_of}
use Rattle.vs_flow.specs.Table.{entry_under, slots}
use Rattle.vs_header.specs.{declared.{Header.Header}, Packet.{header_of}}
use Rattle.vs_outside.specs.declared.host_net.StreamRead.{StreamRead}
use Rattle.vs_replies.specs.declared.Reply.{Reply}
use Rattle.vs_ring_port.specs.{Contents.{RingContents, Take}, Known.{Known, StopsAt}, declared.queue.Queue.{TheVariants.{Rx, Tx}, Queue}}
use Rattle.vs_ring_port.{specs.declared.{device_ring.{Chain.Chain, Next.Next}, failure.Failure.Failure}, proofs.{Stopping.{NotFewer, at_first}}}
use Rattle.vs_ring_port.proofs.Stopping.{stops_by}
use Rattle.vs_limits.specs.declared.TheConstants.{DEVICE_REPLIES, OWED_MAX}
use Rattle.vs_device_parts.specs.Receiving.{Filling, after_paying, fill_rx_of, filled_of, hold, holding, put_on, put_owed, put_packet, put_reply, put_reply_of}
use Rattle.vs_device_parts.specs.{Receiving.{read_answered, read_stream, read_with_chain, round_from, serve_slot, written}, Calls.{Allows, Call}}
use Rattle.vs_device_parts.specs.{Calls.{DeviceTree, Ring, Situation}, Connections.{route_to_guest}, Transmitting.on_header}
use Rattle.vs_device_parts.specs.{Transmitting.{on_next, take_tx_of}, declared.answers.{Filled.Filled, Taken.Taken}, State.{DeviceConnection, DeviceEntry, DeviceState}}
use Rattle.vs_device_parts.specs.{Steps.filling, Streams.{closing, leaving}, Playing.Runs}
use Rattle.laws_device.{specs.Named.Waiting.filling_of, proofs.{Named.Keeping.{Keeps, asking, keeps_each, keeps_end, keeps_then}, Walk.Keeping.{keeps_if, keeps_some}}}
use Rattle.laws_device.proofs.Walk.Keeping as walked
use Rattle.vs_conn.specs.declared.end.Owed.TheVariants as owed
use Rattle.vs_ring_port.specs.declared.device_ring.Next.TheVariants as next
use Rattle.vs_device_parts.specs.declared.answers.Taken.TheVariants as taken

-- Each call may be made here.
abbrev pub CanAny : Call → Situation → Type 0
CanAny call s = Unit {0}

keeps_any : {A : Type 0} (tree : DeviceTree A) (c : Situation) → Keeps CanAny Allows (λ (x : A) (d : Situation). Unit {0}) tree c
keeps_any (Done x) c = tt
keeps_any (Ask call go) c = (tt, λ a d allowed. keeps_any (go a) d)

module _ (queue : Queue) (a : Option Known) where
  abbrev Grown : Situation → Type 0
  Grown d = Relates a d.ring.known (NotFewer queue)

  abbrev Stops : Situation → Type 0
  Stops d = Relates a d.ring.known (StopsAt queue)

  grown_same : (c d : Situation) → d.ring ≡ c.ring → Grown c → Grown d
  grown_same c d same grown = subst (λ (r : RingContents). Relates a r.known (NotFewer queue)) (sym same) grown

  stops_ring : (c d : Situation) → Allows (Ring (Take queue)) next.None c d → Grown c → Stops d
  stops_ring c d allowed grown = stops_by Chain queue a c.ring.known d.ring.known grown allowed.0.1.known

-- FILLING: where it is over for want of a chain, the last load showed none, and none is held; where it isn't over, these replies are owed.
module _ (a : Option Known) where
  abbrev pub Ends : List Reply → Filling → Situation → Type 0
  Ends rs q d =
      Grown Rx a d × (q.over ≡ true → q.state.failed ≡ None → Stops Rx a d × (q.state.chain ≡ None)) × (q.over ≡ false → q.state.replies ≡ rs)

  abbrev pub Goes : List Reply → Filling → Situation → Type 0
  Goes rs q d = (q.over ≡ false) × Ends rs q d

  abbrev pub Steps : List Reply → List Reply → Filling × Bool → Situation → Type 0
  Steps rs rs' = walked.Goes (asking CanAny Allows) (Goes rs) (Ends rs')

  going : (rs : List Reply) (q : Filling) (d : Situation) → q.over ≡ false → Grown Rx a d → q.state.replies ≡ rs → Goes rs q d
  going rs q d on grown same = (on, (grown, (λ over failed. absurd cc), λ _. same))

  over_ends : (rs rs' : List Reply) (q : Filling) (d : Situation) → q.over ≡ true → Ends rs q d → Ends rs' q d
  over_ends rs rs' q d over ends = (ends.0, ends.1, λ on. absurd cc)

  step_of : (rs rs' : List Reply) (q : Filling) (d : Situation) → Ends rs q d → Steps rs rs' (q, not q.over) d
  step_of rs rs' q d ends = grind (arith, common_steps, over_ends)

  -- A chain is held, or there is none, and the stage is over.
  abbrev HeldWith : List Reply → Filling → Situation → Option Chain → Type 0
  HeldWith rs q d None = (q.over ≡ true) × Ends rs q d
  HeldWith rs q d (Some chain) = Goes rs q d

  held_by : (answer : Next) (rs : List Reply) (r : Filling) (c d : Situation) → r.state.chain ≡ None → Allows (Ring (Take Rx)) answer c d
      → Goes rs r c → HeldWith rs (holding answer r) d (holding answer r).state.chain
  held_by answer rs r c d none allowed goes = grind (arith, common_steps)

  abbrev Held : List Reply → Filling → Situation → Type 0
  Held rs q d = HeldWith rs q d q.state.chain

  keeps_hold : (rs : List Reply) (r : Filling) (c : Situation) → Goes rs r c → Keeps CanAny Allows (Held rs) (hold r) c
  keeps_hold rs r c goes = grind (arith, common_steps, held_by)

  -- A packet is written.
  keeps_written : (chain : Chain) (h : Header) (payload : List ℕ) (c : Situation) → Grown Rx a c
      → Keeps CanAny Allows (λ u d. Grown Rx a d) (written chain h payload) c
  keeps_written chain h payload c grown = grind (arith, common_steps)

  keeps_put_on : (rs : List Reply) (chain : Chain) (h : Header) (payload : List ℕ) (r : Filling) (c : Situation) → Goes rs r c
      → Keeps CanAny Allows (Goes rs) (put_on chain h payload r) c
  keeps_put_on rs chain h payload r c goes = grind (arith, common_steps, keeps_then, written, keeps_written, going)

  -- Calls on the host in between, after which these replies are owed.
  abbrev pub Leaves : List Reply → DeviceState → Situation → Type 0
  Leaves rs s d = Grown Rx a d × (s.replies ≡ rs)

  module _ (rs rs' : List Reply) (h : Header) (f : DeviceState → DeviceTree DeviceState)
      (leaves : (s : DeviceState) (d : Situation) → Leaves rs s d → Keeps CanAny Allows (Leaves rs') (f s) d) where
    after_put : Filling → DeviceTree Filling
    after_put p = bind (f p.state) (λ s. Done (record p { state = s }))

    keeps_put_packet : (r : Filling) (c : Situation) → Goes rs r c → Keeps CanAny Allows (Ends rs') (put_packet h f r) c
    unfolding after_put
    keeps_put_packet r c goes =
        keeps_then CanAny Allows (Ends rs') (Held rs) (hold r)
        (λ q. elim q.state.chain [ None ↦ Done q | Some chain ↦ bind (put_on chain h [] q) after_put ]) c (keeps_hold rs r c goes)
        (λ q d held. by q d q.state.chain held)
      where
        puts : (chain : Chain) (q : Filling) (d : Situation) → Goes rs q d
            → Keeps CanAny Allows (Ends rs') (bind (put_on chain h [] q) after_put) d
        puts chain q d on =
            keeps_then CanAny Allows (Ends rs') (Goes rs) (put_on chain h [] q) after_put d (keeps_put_on rs chain h [] q d on)
            (λ p e went. keeps_then CanAny Allows (Ends rs') (Leaves rs') (f p.state) (λ s. Done (record p { state = s })) e
            (leaves p.state e (went.1.0, went.1.2 went.0))
            (λ s g left. (going rs' (record p { state = s }) g went.0 left.0 left.1).1))

        by : (q : Filling) (d : Situation) (o : Option Chain) → HeldWith rs q d o
            → Keeps CanAny Allows (Ends rs') (elim o [ None ↦ Done q | Some chain ↦ bind (put_on chain h [] q) after_put ]) d
        by q d None held = over_ends rs rs' q d held.0 held.1
        by q d (Some chain) held = puts chain q d held

  -- Owed replies, oldest first.
  keeps_put_reply : (reply : Reply) (rs : List Reply) (r : Filling) (c : Situation) → Goes (reply ∷ rs) r c
      → Keeps CanAny Allows (Steps rs []) (put_reply_of (reply ∷ rs) r) c
  keeps_put_reply reply rs r c goes = grind (arith, common_steps, keeps_then, put_packet, step_of)

  replies_keep : (rs : List Reply) (r : Filling) (c : Situation) → Goes rs r c
      → Keeps CanAny Allows (Ends []) (while_up_to (length rs) put_reply r) c
  replies_keep [] r c goes = goes.1
  replies_keep (reply ∷ rs) r c goes =
      let first = keeps_put_reply reply rs r c goes in
      let P : List Reply → Type 0 = λ owed. Keeps CanAny Allows (Steps rs []) (put_reply_of owed r) c in
      keeps_then CanAny Allows (Ends []) (Steps rs []) (put_reply r)
      (λ x. elim x.1 [ true ↦ while_up_to (length rs) put_reply x.0 | false ↦ Done x.0 ]) c (subst P (sym (goes.1.2 goes.0)) first)
      (walked.by_last (asking CanAny Allows) (Goes rs) (Ends []) (length rs) put_reply (λ q d on. replies_keep rs q d on))

  -- The host's calls leave the ring.
  keeps_closing : (rs : List Reply) (e : DeviceEntry) (f : DeviceConnection → DeviceConnection) (s : DeviceState) (c : Situation) → Leaves rs s c
      → Keeps CanAny Allows (Leaves rs) (closing e f s) c
  keeps_closing rs e f s c left = grind (arith, common_steps, grown_same)

  keeps_leaving : (rs : List Reply) (e : DeviceEntry) (s : DeviceState) (c : Situation) → Leaves rs s c
      → Keeps CanAny Allows (Leaves rs) (leaving false e s) c
  keeps_leaving rs e s c left = grind (arith, common_steps, keeps_then, closing, keeps_closing)

  -- What a connection owes.
  keeps_after_paying : (rs : List Reply) (what : Owed) (e : DeviceEntry) (s : DeviceState) (c : Situation) → Leaves rs s c
      → Keeps CanAny Allows (Leaves rs) (after_paying what e s) c
  keeps_after_paying rs owed.Rst e s c left = keeps_leaving rs e (record s { last_put = Some e.slot }) c left
  keeps_after_paying rs _ e s c left = left

  keeps_put_owed : (rs : List Reply) (slot : ℕ) (r : Filling) (c : Situation) → Goes rs r c → Keeps CanAny Allows (Steps rs rs) (put_owed slot r) c
  keeps_put_owed rs slot r c goes =
      keeps_some (asking CanAny Allows) (Steps rs rs) (entry_under r.state.table slot) (Done (r, false))
      (λ e. elim (owes_of e.value.end) [ None ↦ Done (r, false) | Some what ↦ puts e what ]) c (λ none. goes.1) (λ e found.
      keeps_some (asking CanAny Allows) (Steps rs rs) (owes_of e.value.end) (Done (r, false)) (puts e) c (λ none. goes.1) (λ what owes.
      keeps_then CanAny Allows (Steps rs rs) (Ends rs) (put_packet (owed_header e.value.end (route_to_guest r.state.cid e.flow) what)
      (after_paying what e) r) (λ q. Done (q, not q.over)) c
      (keeps_put_packet rs rs (owed_header e.value.end (route_to_guest r.state.cid e.flow) what) (after_paying what e)
      (λ s d left. keeps_after_paying rs what e s d left) r c goes)
      (λ q d ends. step_of rs rs q d ends)))
    where
      puts : DeviceEntry → Owed → DeviceTree (Filling × Bool)
      puts e what = bind (put_packet (owed_header e.value.end (route_to_guest r.state.cid e.flow) what) (after_paying what e) r)
          (λ q. Done (q, not q.over))

  owed_keep : (rs : List Reply) (slot n : ℕ) (r : Filling) (c : Situation) → Goes rs r c
      → Keeps CanAny Allows (Ends rs) (while_up_to n (put_owed slot) r) c
  owed_keep rs slot = walked.goes_while (asking CanAny Allows) (Goes rs) (Ends rs) (λ q d on. on.1) (put_owed slot) (keeps_put_owed rs slot)

  -- What it reads.
  keeps_read_answered : (rs : List Reply) (chain : Chain) (e : DeviceEntry) (answer : StreamRead) (payload : List ℕ) (r : Filling) (c : Situation)
      → Goes rs r c → Keeps CanAny Allows (Ends rs) (read_answered chain e answer payload r) c
  keeps_read_answered rs chain e answer payload r c goes = grind (arith, common_steps)

  keeps_read_with_chain : (rs : List Reply) (e : DeviceEntry) (r : Filling) (c : Situation) → Held rs r c
      → Keeps CanAny Allows (Ends rs) (read_with_chain e r) c
  keeps_read_with_chain rs e r c held = grind (arith, common_steps, free_of, read_answered, keeps_read_answered, going, grown_same)

  keeps_read_stream : (rs : List Reply) (e : DeviceEntry) (r : Filling) (c : Situation) → Goes rs r c
      → Keeps CanAny Allows (Ends rs) (read_stream e r) c
  keeps_read_stream rs e r c goes = grind (arith, common_steps, free_of, keeps_then, keeps_hold, keeps_read_with_chain)

  -- The round.
  keeps_serve_slot : (rs : List Reply) (slot : ℕ) (r : Filling) (c : Situation) → Ends rs r c
      → Keeps CanAny Allows (Ends rs) (serve_slot slot r) c
  keeps_serve_slot rs slot r c ends =
      keeps_if (asking CanAny Allows) (Ends rs) r.over _ _ c (λ over. ends) (λ on.
      keeps_then CanAny Allows (Ends rs) (Ends rs) (elim (entry_under r.state.table slot) [ None ↦ Done r | Some e ↦ read_stream e r ]) _ c
      (keeps_some (asking CanAny Allows) (Ends rs) (entry_under r.state.table slot) (Done r) (λ e. read_stream e r) c (λ none. ends)
      (λ e found. keeps_read_stream rs e r c (on, ends))) (λ q d kept.
      keeps_if (asking CanAny Allows) (Ends rs) q.over _ _ d (λ over. kept) (λ still. owed_keep rs slot OWED_MAX q d (still, kept))))

-- The stage from its start.
module _ (s : DeviceState) (c : Situation) where
  abbrev First : Option Known
  First = c.ring.known

  pub keeps_filling : Keeps CanAny Allows (Ends First []) (filling_of s) c
  keeps_filling =
      keeps_then CanAny Allows (Ends First []) (Ends First []) (while_up_to (length s.replies) put_reply (filling s)) rounds c
      (replies_keep First s.replies (filling s) c (going First s.replies (filling s) c refl (at_first Rx First) refl))
      (λ r d ends. keeps_if (asking CanAny Allows) (Ends First []) r.over _ _ d (λ over. ends) (λ on.
      keeps_each CanAny Allows (Ends First []) serve_slot (λ slot q e kept. keeps_serve_slot First [] slot q e kept)
      (round_from r.state.last_put (slots r.state.table)) r d ends))
    where
      rounds : Filling → DeviceTree Filling
      rounds r = cond r.over (Done r) (for_each serve_slot (round_from r.state.last_put (slots r.state.table)) r)

pub over_lacks : (s : DeviceState) (c d : Situation) (q : Filling) → Runs (filling_of s) c q d → q.over ≡ true → q.state.failed ≡ None
    → Stops Rx c.ring.known d × (q.state.chain ≡ None)
over_lacks s c d q runs = (keeps_end CanAny Allows (Ends c.ring.known []) (filling_of s) c d q (keeps_filling s c) runs).1

pub over_stops : (s : DeviceState) (c d : Situation) (q : Filling) → Runs (filling_of s) c q d → q.over ≡ true → q.state.failed ≡ None
    → Stops Rx c.ring.known d
over_stops s c d q runs over sound = (over_lacks s c d q runs over sound).0

-- A run of the whole call is one of the stage, and its answer is what that comes to.
abbrev IsStage : DeviceState → Situation → DeviceState × Result Filled Failure → Situation → Type 0
IsStage s c x d = (q : Filling) × Runs (filling_of s) c q d × (x ≡ filled_of q)

module _ (s : DeviceState) (c d : Situation) (x : DeviceState × Result Filled Failure) where
  rounds : Filling → DeviceTree Filling
  rounds r = cond r.over (Done r) (for_each serve_slot (round_from r.state.last_put (slots r.state.table)) r)

  replies_of : DeviceTree Filling
  replies_of = while_up_to (length s.replies) put_reply (filling s)

  ends_with : Filling → DeviceTree (DeviceState × Result Filled Failure)
  ends_with r = bind (rounds r) (λ q. Done (filled_of q))

  splits : Runs (bind replies_of ends_with) c x d → IsStage s c x d
  unfolding replies_of rounds ends_with
  splits runs =
      let one = leads_split Allows replies_of ends_with c d x runs in
      let two = leads_split Allows (rounds one.end) (λ q. Done (filled_of q)) one.middle d x one.rest in
      let all = leads_bind Allows replies_of rounds c one.middle two.middle one.end two.end one.first two.first in
      (two.end, subst (λ (e : Situation). Runs (filling_of s) c two.end e) two.rest.1 all, sym two.rest.0)

  filled_by : (o : Option Failure) → o ≡ None → Runs (elim o [ Some f ↦ Done (s, Err f) | None ↦ bind replies_of ends_with ]) c x d
      → IsStage s c x d
  filled_by (Some f) none runs = absurd cc
  filled_by None none runs = splits runs

  pub is_stage : Runs (fill_rx_of s) c x d → s.failed ≡ None → IsStage s c x d
  unfolding replies_of rounds ends_with
  is_stage runs none = filled_by s.failed none runs

  -- A reply that stays owed.
  owing : IsStage s c x d → x.0.replies ≢ [] → x.0.failed ≡ None → Stops Rx c.ring.known d
  owing (q, runs, is) some_owed sound =
      by q.over refl (keeps_end CanAny Allows (Ends c.ring.known []) (filling_of s) c d q (keeps_filling s c) runs)
    where
      same : x.0 ≡ q.state
      same = ap (λ (y : DeviceState × Result Filled Failure). y.0) is

      by : (b : Bool) → q.over ≡ b → Ends c.ring.known [] q d → Stops Rx c.ring.known d
      by true over ends = (ends.1 over (sym (ap (λ (t : DeviceState). t.failed) same) ∙ sound)).0
      by false on ends = absurd (some_owed (ap (λ (t : DeviceState). t.replies) same ∙ ends.2 on))

  left_by : (o : Option Failure) → s.failed ≡ o → Runs (elim o [ Some f ↦ Done (s, Err f) | None ↦ bind replies_of ends_with ]) c x d
      → x.0.replies ≢ [] → x.0.failed ≡ None → Stops Rx c.ring.known d
  left_by (Some f) failed runs some_owed sound =
      let same = ap (λ (y : DeviceState × Result Filled Failure). y.0.failed) runs.0 in
      absurd (let none : Some f ≡ None = sym failed ∙ (same ∙ sound) in cc)
  left_by None failed runs some_owed sound = owing (splits runs) some_owed sound

  pub reply_stops : Runs (fill_rx_of s) c x d → x.0.replies ≢ [] → x.0.failed ≡ None → Stops Rx c.ring.known d
  unfolding replies_of rounds ends_with
  reply_stops runs some_owed sound = left_by s.failed refl runs some_owed sound

-- TAKING
module _ (s : DeviceState) (c : Situation) where
  abbrev Takes : DeviceState × Taken → Situation → Type 0
  Takes x d = x.1 ≡ taken.None → Stops Tx c.ring.known d

  heads : (chain : Chain) (h : Header) (d : Situation) → Keeps CanAny Allows Takes (on_header chain h s) d
  heads chain h d = grind (arith, common_steps, keeps_then, keeps_any)

  nexts : (answer : Next) (d : Situation) → Allows (Ring (Take Tx)) answer c d → Keeps CanAny Allows Takes (on_next answer s) d
  nexts (next.Chain chain) d allowed = (tt, λ bytes e also. heads chain (header_of bytes) e)
  nexts next.None d allowed = λ none. stops_ring Tx c.ring.known c d allowed (at_first Tx c.ring.known)
  nexts (next.Failed f) d allowed = λ none. absurd cc

  failed_by : (o : Option Failure) → Keeps CanAny Allows Takes (elim o [
    | Some f ↦ Done (s, taken.Failed f)
    | None ↦ cond (nat_le DEVICE_REPLIES (length s.replies)) (Done (s, taken.RepliesFull DEVICE_REPLIES)) (Ask (Ring (Take Tx)) (λ answer. on_next answer s))
  ]) c
  failed_by (Some f) = λ none. absurd cc
  failed_by None =
      keeps_if (asking CanAny Allows) Takes (nat_le DEVICE_REPLIES (length s.replies)) _ _ c (λ full none. absurd cc)
      (λ room. (tt, λ answer d allowed. nexts answer d allowed))

  pub take_stops : (d : Situation) (x : DeviceState × Taken) → Runs (take_tx_of s) c x d → Takes x d
  take_stops d x runs = keeps_end CanAny Allows Takes (take_tx_of s) c d x (failed_by s.failed) runs
