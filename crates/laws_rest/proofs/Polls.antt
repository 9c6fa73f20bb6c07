-- A poll puts nothing only where nothing is owed, or no page is free.
use Rattle.std.proofs.lemmas.Grind.{common_steps}
use Rattle.std.{proofs.Common.{◌≡◌, ◌<◌, ◌+◌, ℕ, Bool, true, false, not, if◌then◌else◌, List, [], ◌∷◌, length, Option, Some, None, refl, arith}, specs.Prelude.nat_lt}
use Rattle.vs_contents.{specs.CallTree.{Done, bind, while_up_to}, proofs.Leads.{AllEnds, end_of, ends_bind, ends_weaker}}
use Rattle.vs_conn.specs.{End.owes_of, declared.end.Owed.Owed}
use Rattle.vs_flow.specs.Table.{IsTable, entry_under, slots}
use Rattle.vs_replies.specs.declared.Reply.{Reply}
use Rattle.vs_ring_port.specs.{Contents.RingContents, declared.queue.Queue.TheVariants.{Event, Rx, Tx}}
use Rattle.vs_driver_parts.specs.Conversations.{DriverTree, Round, has_page, one_put, pay_all, pay_and_publish, pay_slot, poll_of, poll_packets}
use Rattle.vs_driver_parts.specs.Conversations.{poll_puts, poll_reaps, polled, publish_and_pay, published, put_all, put_owed, put_owed_of, put_replies, put_reply, put_reply_of}
use Rattle.vs_driver_parts.specs.{Conversations.{reap_all, start, take_all, take_event, take_packet}, Playing.{Plays, RingAllows}, State.DriverEntry}
use Rattle.vs_driver_parts.specs.{State.DriverState, declared.answers.Polled.Polled}
use Rattle.laws_driver.specs.Honest.{end_in, ends_of_state}
use Rattle.laws_rest.{specs.Rest.OwesNothing, proofs.{Owing.{all_owe_none, end_under, listed}, Quiet.{NoReplies, NoneAt, OwesNone, Relation, Same, Serves, Served, Sight, Steps}}}
use Rattle.laws_rest.proofs.Quiet.{all_served, ends_any, ends_then, is_over, more, none_at, one_then, quiet_each, quiet_while, serves, still, touches_none, weaker}

-- A stage is over early where no page is free.
abbrev see : Round → Sight
see r = record {
  put = r.count;
  over = not (has_page r.state);
  replies = r.state.replies;
  slots = slots r.state.table;
  end_at = end_under end_in r.state.table;
}

put_if : (N : Relation) (r : Round) (b : Bool) (p : DriverTree DriverState) → has_page r.state ≡ b
    → AllEnds (λ (x : Round × Bool). Steps see N r x.0) (if b then bind p (one_put r) else Done (r, false))
put_if N r true p page =
    ends_bind (λ (x : Round × Bool). Steps see N r x.0) p (one_put r)
    (ends_any (λ s. AllEnds (λ (x : Round × Bool). Steps see N r x.0) (one_put r s))
    (λ s. more N (see r) (see (record r { state = s; count = r.count + 1 })) refl) p)
put_if N r false p page = is_over N (see r) (see r) (omega arith) (rw page refl)

-- Replies.
one_reply : (rs : List Reply) (r : Round) → r.state.replies ≡ rs
    → AllEnds (λ (x : Round × Bool). Steps see (Same NoReplies) r x.0) (put_reply_of rs r)
one_reply rs r is = grind (arith, common_steps)

all_replies : (rs : List Reply) (s : DriverState) → s.replies ≡ rs
    → AllEnds (Steps see (Same NoReplies) (start s)) (while_up_to (length rs) put_reply (start s))
all_replies [] s is = still (Same NoReplies) (see (start s)) (refl, is)
all_replies (reply ∷ rs) s is = quiet_while see NoReplies (length rs) put_reply (λ r. one_reply r.state.replies r refl) (start s)

-- What a connection owes.
owed_of : (slot : ℕ) (r : Round) (e : DriverEntry) (w : Option Owed) → entry_under r.state.table slot ≡ Some e → owes_of e.value.end ≡ w
    → AllEnds (λ (x : Round × Bool). Steps see (Same (NoneAt slot)) r x.0) (elim w [ None ↦ Done (r, false) | Some what ↦ put_owed_of what e r ])
owed_of slot r e w at is = grind (arith, common_steps, still, put_if)

owed_at : (slot : ℕ) (r : Round) (o : Option DriverEntry) → entry_under r.state.table slot ≡ o
    → AllEnds (λ (x : Round × Bool). Steps see (Same (NoneAt slot)) r x.0) (elim o [
      | None ↦ Done (r, false)
      | Some e ↦ elim (owes_of e.value.end) [ None ↦ Done (r, false) | Some what ↦ put_owed_of what e r ]
    ])
owed_at slot r None at = still (Same (NoneAt slot)) (see r) (refl, none_at slot (see r) (rw at refl))
owed_at slot r (Some e) at = owed_of slot r e (owes_of e.value.end) at refl

paid : (slot : ℕ) (r : Round) → AllEnds (Steps see (Serves slot) r) (pay_slot slot r)
paid slot r =
    ends_weaker (Steps see (Same (NoneAt slot)) r) (Steps see (Serves slot) r)
    (λ x a. weaker (Same (NoneAt slot)) (Serves slot) (see r) (see x) (serves slot (see r) (see r) (see x) (touches_none slot (see r))) a)
    (pay_slot slot r) (quiet_while see (NoneAt slot) 3 (put_owed slot) (λ q. owed_at slot q (entry_under q.state.table slot) refl) r)

-- The whole of the last part of a poll. What is published changes only what is staged.
abbrev Ends : Relation
Ends r x = OwesNone x

paid_all : (s : DriverState) (r : Round) → Steps see (Same NoReplies) (start s) r → AllEnds (Steps see Ends (start s)) (pay_and_publish r)
paid_all s r a =
    ends_then (Steps see Ends (start s)) (Steps see (Served (slots r.state.table)) r) (pay_all r) (published Tx)
    (quiet_each see pay_slot paid (slots r.state.table) r)
    (λ x b answer. one_then (Same NoReplies) (Served (slots r.state.table)) Ends (see (start s)) (see r) (see x)
    (all_served (slots r.state.table) (see (start s)) (see r) (see x) (listed end_in x.state.table) (λ slot at. at)) a b)

put_ends : (s : DriverState) → AllEnds (Steps see Ends (start s)) (put_all s)
put_ends s =
    ends_then (Steps see Ends (start s)) (Steps see (Same NoReplies) (start s)) (put_replies s) publish_and_pay
    (all_replies s.replies s refl) (λ r a answer. paid_all s (record r { state = record r.state { staged = 0 } }) a)

abbrev Polls : DriverState × Polled → Type 0
Polls x = x.1.posted ≡ 0 → has_page x.0 ≡ true → OwesNone (see (start x.0))

none_owed : (s : DriverState) (r : Round) → Steps see Ends (start s) r → r.count ≡ 0 → has_page r.state ≡ true → OwesNone (see (start r.state))
none_owed s r a none page = let o = (a.same none (rw page refl)).1 in record { replies = o.replies; ends = o.ends }

puts_poll : (took : ℕ) (reset : Bool) (s : DriverState) → AllEnds Polls (poll_puts took reset s)
puts_poll took reset s = ends_then Polls (Steps see Ends (start s)) (put_all s) (polled took reset) (put_ends s) (none_owed s)

reaps_poll : (reset : Bool) (r : Round) → AllEnds Polls (poll_reaps reset r)
reaps_poll reset r =
    ends_bind Polls (reap_all r.state) (poll_puts r.count reset)
    (ends_any (λ s. AllEnds Polls (poll_puts r.count reset s)) (puts_poll r.count reset) (reap_all r.state))

packets_poll : (r : Round) → AllEnds Polls (poll_packets r)
packets_poll r =
    ends_bind Polls (take_all Rx take_packet r.state) (poll_reaps r.reset)
    (ends_any (λ q. AllEnds Polls (poll_reaps r.reset q)) (reaps_poll r.reset) (take_all Rx take_packet r.state))

all_polls : (s : DriverState) → AllEnds Polls (poll_of s)
all_polls s =
    ends_bind Polls (take_all Event take_event s) poll_packets
    (ends_any (λ q. AllEnds Polls (poll_packets q)) packets_poll (take_all Event take_event s))

less_than : (a b : ℕ) → a < b → nat_lt a b ≡ true
less_than a b less = grind arith

pub poll_owes_none : (s t : DriverState) (c d : RingContents) (p : Polled) → Plays (poll_of s) c (t, p) d → p.posted ≡ 0
    → t.in_flight < t.size → IsTable t.table → OwesNothing (ends_of_state t)
poll_owes_none s t c d p plays none less table =
    let o = end_of Polls RingAllows (poll_of s) c d (t, p) (all_polls s) plays none (less_than t.in_flight t.size less) in
    record { ends = all_owe_none end_in t.table table o.ends; replies = o.replies }
