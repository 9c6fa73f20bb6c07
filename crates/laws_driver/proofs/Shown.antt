-- The table that is shown, and the log; the answers of the driver's ring, and of any.
use Rattle.std.proofs.Common.{◌≡◌, ℕ, Bool, List, [], ◌∷◌, map, refl, sym, ap, ◌∙◌}
use Rattle.vs_contents.specs.CallTree.{Done, Ask, Leads}
use Rattle.vs_flow.specs.declared.flow.Flow.{Flow}
use Rattle.vs_ring_port.specs.{DriverCalls.{DriverCall, DriverAnswer, Stage, Reap, LoadCid, DriverAllows}, Contents.RingContents, EndLog.EndLog}
use Rattle.vs_page.specs.Log.{Driver}
use Rattle.laws_tables.{specs.{Ends.{FlowEnd, flows_of, is_among}, Heard.IsOrderedLog, Matches.Matches}, proofs.Tables.driver_open}
use Rattle.vs_driver_parts.specs.{Playing.{Plays, RingAllows}, State.{DriverEntry, DriverState}, Connections.table_shown, Conversations.DriverTree}
use Rattle.laws_driver.specs.{Honest.{AgreesWith, IsLeftOpen, ends_of_state, flows_shown}, Told.IsTold}

same_flows : (es : List DriverEntry)
    → flows_shown (map (λ e. (e.flow, e.value.end.state)) es) ≡ flows_of (map (λ e. let x : FlowEnd = record { flow = e.flow; end = e.value.end } in x) es)
same_flows [] = refl
same_flows (e ∷ es) = ap (λ (fs : List Flow). e.flow ∷ fs) (same_flows es)

matching_open : (first : ℕ) (s : DriverState) (l : EndLog) → Matches Driver first (ends_of_state s) l.entries → IsLeftOpen first (table_shown s) s.replies l
matching_open first s l matches f = ap (is_among f) (same_flows s.table.entries) ∙ driver_open first (ends_of_state s) l.entries f matches.flows

pub left_open : (hosts : Bool) (first : ℕ) (s : DriverState) (l : EndLog) → AgreesWith hosts first s l → IsLeftOpen first (table_shown s) s.replies l
left_open hosts first s l agrees = matching_open first s l agrees.matches

pub told_open : (first : ℕ) (s : DriverState) (l : EndLog) → IsTold first s l → IsOrderedLog Driver l.entries
    → IsLeftOpen first (table_shown s) s.replies l
told_open first s l told ordered = matching_open first s l (told.matches ordered)

pub ring_allows : (call : DriverCall) (a : DriverAnswer call) (c d : RingContents) → RingAllows call a c d → DriverAllows call a c d
ring_allows (Reap queue) a c d allowed = allowed.1
ring_allows LoadCid a c d allowed = allowed.1
ring_allows x a c d allowed = allowed

pub any_ring : {A : Type 0} (tree : DriverTree A) (c d : RingContents) (x : A) → Plays tree c x d → Leads DriverAllows tree c x d
any_ring (Done y) c d x plays = plays
any_ring (Ask call next) c d x plays = (plays.0, plays.1, ring_allows call plays.0 c plays.1 plays.2, any_ring (next plays.0) plays.1 d x plays.3)

one_other : (call : DriverCall) (a : DriverAnswer call) (c d : RingContents) → RingAllows call a c d → d.other ≡ c.other
one_other (Stage queue page) a c d allowed = allowed.other
one_other _ a c d allowed = allowed.1.other

pub other_stays : {A : Type 0} (tree : DriverTree A) (c d : RingContents) (x : A) → Plays tree c x d → d.other ≡ c.other
other_stays (Done y) c d x plays = ap (λ (r : RingContents). r.other) (sym plays.1)
other_stays (Ask call next) c d x plays = other_stays (next plays.0) plays.1 d x plays.3 ∙ one_other call plays.0 c plays.1 plays.2
