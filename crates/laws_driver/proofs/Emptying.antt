-- The step that takes the event page of a transport reset: whatever a ring answers besides, the driver's table is empty then.
use Rattle.std.proofs.{Common.arith, lemmas.Grind.common_steps}
use Rattle.std.{proofs.Common.{◌≡◌, ℕ, ◌==◌, not, nat_lt, Bool, true, false, cond, List, [], ◌∷◌, length, Option, Some, ap, subst, ◌∙◌}, specs.List.filter}
use Rattle.vs_contents.{specs.CallTree.{Ask, Done, Leads, bind}, proofs.Leads.{AllEnds, end_of}}
use Rattle.vs_flow.{specs.{Table.{IsRising, IsTable}}, proofs.Entries.rising_tail}
use Rattle.vs_limits.specs.declared.TheConstants.{DRIVER_REPLIES_FULL}
use Rattle.vs_ring_port.specs.{DriverCalls.{DriverAnswer, DriverCall, Reap}, declared.queue.Queue.TheVariants.Event}
use Rattle.vs_driver_parts.specs.{Conversations.{DriverTree, Round, event_reaped, staged_again, start}, Connections.after_leaving, State.{DriverEntry, DriverState}}
use Rattle.vs_driver_parts.{specs.{Steps.takes_page, Receiving.{all_left, is_reset_event, reset_reply, with_reply}}, proofs.Packets.others_left}

abbrev IsEmpty : DriverState → Type 0
IsEmpty s = s.table.entries ≡ []

none_left : (es : List DriverEntry) (s : DriverState) → s.table.entries ≡ es → IsRising es → IsEmpty (all_left es s)
none_left [] s is rising = is
none_left (e ∷ es) s is rising =
    none_left es (with_reply (reset_reply e) (after_leaving e s))
    (ap (λ (xs : List DriverEntry). filter (λ x. not (x.slot == e.slot)) xs) is ∙ others_left e es rising) (rising_tail e es rising)

-- The page is staged again.
staged : (r : Round) → IsEmpty r.state → AllEnds IsEmpty (bind (staged_again Event r) (λ r. Done r.0.state))
staged r none = grind (arith, common_steps)

abbrev taking : DriverState → Option (List ℕ) → DriverTree DriverState
taking s page = bind (event_reaped (start s) page) (λ r. Done r.0.state)

module _ (s : DriverState) (page : List ℕ) (sound : IsTable s.table) (reset : is_reset_event page ≡ true) where
  page_empties : AllEnds IsEmpty (taking s (Some page))
  page_empties = grind (arith, common_steps, staged, none_left)

  pub takes_empties : {S : Type 0} (Allows : (call : DriverCall) → DriverAnswer call → S → S → Type 0) (t : DriverState) (c d : S)
      → nat_lt DRIVER_REPLIES_FULL (length s.replies) ≡ false → ((o : Option (List ℕ)) (m : S) → Allows (Reap Event) o c m → o ≡ Some page)
      → Leads Allows (takes_page Event s) c t d → IsEmpty t
  takes_empties Allows t c d few gives leads = by (nat_lt DRIVER_REPLIES_FULL (length s.replies)) few leads
    where
      by : (b : Bool) → b ≡ false
          → Leads Allows (bind (cond b (Done (start s, false)) (Ask (Reap Event) (event_reaped (start s)))) (λ r. Done r.0.state)) c t d → IsEmpty t
      by true is leads = absurd cc
      by false is (o, m, allowed, rest) = end_of IsEmpty Allows (taking s (Some page)) m d t page_empties
          (subst (λ (p : Option (List ℕ)). Leads Allows (taking s p) m t d) (gives o m allowed) rest)
