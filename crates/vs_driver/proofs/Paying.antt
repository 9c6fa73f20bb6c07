-- What putting replies and what connections owe comes to.
use Rattle.std.proofs.Common.{◌≡◌, ◌==◌, ℕ, Bool, true, false, List, [], ◌∷◌, length, drop, Option, Some, None, ◌+◌, ◌<◌, ◌≤◌, get_or, drop-cons, add-one, refl, sym, ap, subst}
use Rattle.std.{proofs.{Common.◌∙◌, Math.ListN.drop_of_length-le}, specs.{List.slice_get, Option.IsSomeAnd}}
use Rattle.vs_contents.{specs.CallTree.{Done, bind, for_each}, proofs.{Leads.{leads_of, leads_bind}, Conditions.{may_first, may_rest, may_of}}}
use Rattle.vs_header.specs.{Packet.header_bytes, declared.Header.Header}
use Rattle.vs_conn.specs.{End.owes_of, Headers.owed_header, declared.end.Owed.Owed}
use Rattle.vs_flow.specs.Table.{entry_under}
use Rattle.vs_replies.specs.declared.Reply.{Reply}
use Rattle.vs_ring_port.specs.Contents.{RingContents}
use Rattle.vs_driver_parts.specs.Conversations.{DriverTree, Round, after_paying, has_page, is_rst, one_put, pay_slot, put_owed, put_reply, put_reply_of, reply_header, round_of}
use Rattle.vs_driver_parts.specs.{Conversations.stage_packet, Connections.{OweNothing, with_connection, paid_connection, route_to_host}, Playing.{CanMake, MayPublishAll, Plays}}
use Rattle.vs_driver_parts.{specs.{Playing.RingAllows, State.{DriverEntry, DriverState}, declared.tally.Tally.Tally}, proofs.Ids.entry_has}
use Rattle.vs_driver.proofs.Rest.{left_as, may_next, then}
use Rattle.vs_conn.specs.declared.end.Owed.TheVariants as owed

pub paid_other : (what : Owed) (slot : ℕ) (e : DriverEntry) (s : DriverState) → is_rst what ≡ false → e.slot ≡ slot
    → with_connection slot (paid_connection what e.value) s ≡ after_paying what e s
paid_other owed.Rst slot e s other at = absurd (cc)
paid_other what slot e s other at = ap (λ (n : ℕ). with_connection n (paid_connection what e.value) s) (sym at)

record HoldsOf {X : Type 0} (o : Option X) (P : X → Type 0) : Type 0 where
  pub one : X
  pub is : o ≡ Some one
  pub holds : P one

some_and : {X : Type 0} (o : Option X) (P : X → Type 0) → IsSomeAnd o P → HoldsOf o P
some_and (Some x) P h = record { one = x; is = refl; holds = h }
some_and None P h = absurd h

-- a packet is staged in a round
module _ (tree : DriverTree (Round × Bool)) (r : Round) (bytes : List ℕ) (g : DriverState) (is : tree ≡ bind (stage_packet bytes g) (one_put r)) where
  pub may_put : (c : RingContents) → MayPublishAll tree c → MayPublishAll (stage_packet bytes g) c
  may_put c = may_next (stage_packet bytes g) (one_put r) (left_as tree (bind (stage_packet bytes g) (one_put r)) c is)

  pub put : (s : DriverState) (c m : RingContents) → Plays (stage_packet bytes g) c s m
      → Plays tree c (record r { state = s; count = r.count + 1 }, true) m
  put s c m plays =
      (then (stage_packet bytes g) (one_put r) (left_as tree (bind (stage_packet bytes g) (one_put r)) c is) s m plays).goes_on _ _
      (refl, refl)

-- what a connection owes, with its header h, where it leaves g
module _ (tally : Tally) (slot : ℕ) (what : Owed) (h : Header) (g s : DriverState) where
  abbrev Owes : DriverState → Type 0
  Owes d =
      IsSomeAnd (entry_under d.table slot) (λ e. (owes_of e.value.end ≡ Some what) ×
      (h ≡ owed_header e.value.end (route_to_host d.cid e.flow) what))

  owed_at : (e : DriverEntry) → entry_under s.table slot ≡ Some e → owes_of e.value.end ≡ Some what
      → h ≡ owed_header e.value.end (route_to_host s.cid e.flow) what → has_page s ≡ true → g ≡ after_paying what e s
      → put_owed slot (round_of s tally) ≡ bind (stage_packet (header_bytes h) g) (one_put (round_of s tally))
  owed_at e found owes head free after = rw (found, owes, free, head, after, put_owed) refl

  pub owed_tree : (d : DriverState) → d ≡ s → Owes d → has_page s ≡ true
      → ((e : DriverEntry) → entry_under s.table slot ≡ Some e → g ≡ after_paying what e s)
      → put_owed slot (round_of s tally) ≡ bind (stage_packet (header_bytes h) g) (one_put (round_of s tally))
  owed_tree d same owed free after =
      let o = some_and (entry_under s.table slot) (λ (e : DriverEntry). (owes_of e.value.end ≡ Some what) ×
      (h ≡ owed_header e.value.end (route_to_host s.cid e.flow) what)) (subst Owes same owed) in
      owed_at o.one o.is o.holds.0 o.holds.1 free (after o.one o.is)

-- the oldest owed reply
head_of : (xs : List Reply) (x : Reply) → Some x ≡ slice_get xs 0 → xs ≡ x ∷ drop 1 xs
head_of [] x is = absurd (cc)
head_of (y ∷ ys) x is = let same : x ≡ y = cc in ap (λ (z : Reply). z ∷ ys) (sym same)

module _ (tally : Tally) (reply : Reply) (h : Header) (g s : DriverState) where
  abbrev Replies : DriverState → Type 0
  Replies d = (Some reply ≡ slice_get d.replies 0) × (h ≡ reply_header d.cid reply) × (g ≡ record d { replies = drop 1 d.replies })

  pub reply_tree : (d : DriverState) → d ≡ s → Replies d → has_page s ≡ true
      → put_reply (round_of s tally) ≡ bind (stage_packet (header_bytes h) g) (one_put (round_of s tally))
  reply_tree d same replies free =
      let r : Round = round_of s tally in
      let here : Replies s = subst Replies same replies in
      let one : put_reply r ≡ put_reply_of (reply ∷ drop 1 s.replies) r = ap (λ (xs : List Reply). put_reply_of xs r)
      (head_of s.replies reply here.0) in
      one ∙ rw (here.1, here.2, free) refl

-- each slot in turn
module _ (xs : List ℕ) (i d : ℕ) (x : Round) (lt : i < length xs) where
  each_next : for_each pay_slot (drop i xs) x ≡ bind (pay_slot (get_or xs i d) x) (for_each pay_slot (drop (i + 1) xs))
  each_next = rw (drop-cons xs i d lt) (ap (λ (n : ℕ). bind (pay_slot (get_or xs i d) x) (for_each pay_slot (drop n xs))) (sym (add-one i)))

  pub each_more : (y z : Round) (r s t : RingContents) → Plays (pay_slot (get_or xs i d) x) r y s → Plays (for_each pay_slot (drop (i + 1) xs) y) s z t
      → Plays (for_each pay_slot (drop i xs) x) r z t
  each_more y z r s t one rest =
      leads_of RingAllows _ _ r t z each_next (leads_bind RingAllows (pay_slot (get_or xs i d) x) (for_each pay_slot (drop (i + 1) xs)) r s t y z one rest)

  pub may_each_step : (r : RingContents) → MayPublishAll (for_each pay_slot (drop i xs) x) r → MayPublishAll (pay_slot (get_or xs i d) x) r
  may_each_step r may =
      may_first CanMake RingAllows (pay_slot (get_or xs i d) x) (for_each pay_slot (drop (i + 1) xs)) r (may_of CanMake RingAllows _ _ r each_next may)

  pub may_each_more : (y : Round) (r s : RingContents) → MayPublishAll (for_each pay_slot (drop i xs) x) r → Plays (pay_slot (get_or xs i d) x) r y s
      → MayPublishAll (for_each pay_slot (drop (i + 1) xs) y) s
  may_each_more y r s may one =
      may_rest CanMake RingAllows (pay_slot (get_or xs i d) x) (for_each pay_slot (drop (i + 1) xs)) r s y (may_of CanMake RingAllows _ _ r each_next may) one

pub each_end : (xs : List ℕ) (i : ℕ) (x : Round) (r : RingContents) → length xs ≤ i → Plays (for_each pay_slot (drop i xs) x) r x r
each_end xs i x r ends = let same : for_each pay_slot (drop i xs) x ≡ Done x = rw (drop_of_length-le xs ends) refl in leads_of RingAllows _ _ r r x same (refl, refl)

-- no connection owes a packet
pays_not : (slot : ℕ) (r : Round) (o : Option DriverEntry) → entry_under r.state.table slot ≡ o → ((e : DriverEntry) → o ≡ Some e → owes_of e.value.end ≡ None)
    → pay_slot slot r ≡ Done r
pays_not slot r None is none = rw (is, put_owed) refl
pays_not slot r (Some e) is none = rw (is, none e refl, put_owed) refl

pub pays_none : (r : Round) → OweNothing r.state.table → (xs : List ℕ) → for_each pay_slot xs r ≡ Done r
pays_none r none [] = refl
pays_none r none (slot ∷ xs) =
    rw (pays_not slot r (entry_under r.state.table slot) refl (λ e is.
    entry_has (λ (x : DriverEntry). owes_of x.value.end ≡ None) (λ (x : DriverEntry). x.slot == slot) r.state.table.entries e none is)) (pays_none r none xs)
