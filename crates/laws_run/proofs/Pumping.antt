-- A stage of writing that wrote nothing tried each stream to which something is to be written, and each gave Again.
use Rattle.std.proofs.lemmas.Grind.{common_steps}
use Rattle.std.proofs.Common.{◌≡◌, ◌≤◌, ◌==◌, ◌&&◌, ◌||◌, not, ◌⊎◌, inl, inr, ℕ, Bool, true, false, cond, List, [], ◌∷◌, length, Option, Some, None, refl, sym, ap}
use Rattle.std.{proofs.{Common.{subst, ◌∙◌, arith}, lemmas.{Bool.{eqb-true}}}, specs.{Option.{option_map}}}
use Rattle.vs_contents.specs.{CallTree.{Ask, Done, bind, for_each}}
use Rattle.vs_flow.specs.Table.{Table, entry_under, slots, with_value}
use Rattle.vs_outside.specs.Host.{HostContents, IsWritten, after_close, after_failed, after_shut_write, after_write}
use Rattle.vs_outside.specs.{Host.{with_shut_write_call}, declared.host_net.StreamWrite.StreamWrite}
use Rattle.vs_device_parts.specs.{Calls.{Allows, CloseStream, DeviceTree, HostMoves, ShutWrite, Situation, WriteStream}, Playing.Runs, Connections.{after_shut, after_written}}
use Rattle.vs_device_parts.specs.{Connections.{cut_off, with_connection, with_fault}, Streams.{Writing, closing, is_written_out, pump_of, pump_slot, shut_write, to_write}}
use Rattle.vs_device_parts.{specs.{Streams.{write_answered, write_pending}, State.{DeviceConnection, DeviceEntry, DeviceState}}, proofs.Under.has_slot}
use Rattle.vs_proxy_parts.specs.{State.ProxyState, Turns.turn_of, declared.answers.{Turn.Turn, Turned.Turned}}
use Rattle.laws_device.{specs.Honest.end_in, proofs.Walk.Keeping.{Keeps, keeps_then, keeps_weaker}}
use Rattle.laws_rest.proofs.{Owing.{listed, same_slots}, Quiet.in_list}
use Rattle.laws_settled.{specs.Settled.LacksPages, proofs.Quieting.{LastFill, fill_lacks, last_fill}}
use Rattle.laws_run.specs.Dry.{AreIdle, IsDry, IsDryAt, IsFull, IsFullAt, IsTaken, IsTakenAt, IsToldFull, writes_of, writes_under}
use Rattle.laws_run.proofs.Drying.{Calm, allowed, calm_both, calm_close, calm_moves, calm_same, full_closed, host_moves, keeps_run, or_true}
use Rattle.laws_run.proofs.Drying.{stage_dry, stays_with, under_at, under_other, under_own}
use Rattle.vs_outside.specs.declared.host_net.StreamWrite.TheVariants as write
use Rattle.vs_proxy_parts.specs.declared.answers.Turn.TheVariants as turn

abbrev Relation : Type 1
Relation = Writing → Situation → Writing → Situation → Type 0

record Step (N : Relation) (w : Writing) (c : Situation) (x : Writing) (d : Situation) : Type 0 where
  rises : w.wrote ≤ x.wrote
  same : x.wrote ≡ w.wrote → N w c x d

step_then : (N M K : Relation) (w : Writing) (c : Situation) (v : Writing) (d : Situation) (x : Writing) (e : Situation)
    → (N w c v d → M v d x e → K w c x e) → Step N w c v d → Step M v d x e → Step K w c x e
step_then N M K w c v d x e gives a b = grind (arith, common_steps)

abbrev OwnFull : ℕ → Writing → Situation → Type 0
OwnFull n x d = (id : ℕ) → writes_under n x.state.table ≡ Some id → IsToldFull id d.host

-- At most the connection under one slot changes, and what is written to it takes nothing.
record Leaves (slot : ℕ) (w : Writing) (c : Situation) (x : Writing) (d : Situation) : Type 0 where
  slots : slots x.state.table ≡ slots w.state.table
  others : (n : ℕ) → (n == slot) ≡ false → writes_under n x.state.table ≡ writes_under n w.state.table
  full : (id : ℕ) → IsToldFull id c.host → IsToldFull id d.host
  calm : Calm c.host d.host

record Pumps (slot : ℕ) (w : Writing) (c : Situation) (x : Writing) (d : Situation) : Type 0 where
  leaves : Leaves slot w c x d
  own : OwnFull slot x d

record Shuts (slot : ℕ) (w : Writing) (c : Situation) (x : Writing) (d : Situation) : Type 0 where
  leaves : Leaves slot w c x d
  less : (id : ℕ) → writes_under slot x.state.table ≡ Some id → writes_under slot w.state.table ≡ Some id

no_change : (slot : ℕ) (w : Writing) (c : Situation) → Leaves slot w c w c
no_change slot w c = record { slots = refl; others = λ n other. refl; full = λ id is. is; calm = calm_same c.host c.host refl }

leaves_then : (slot : ℕ) (w : Writing) (c : Situation) (v : Writing) (d : Situation) (x : Writing) (e : Situation) → Leaves slot w c v d → Leaves slot v d x e
    → Leaves slot w c x e
leaves_then slot w c v d x e a b = record {
  slots = b.slots ∙ a.slots;
  others = λ n other. b.others n other ∙ a.others n other;
  full = λ id is. b.full id (a.full id is);
  calm = calm_both c.host d.host e.host a.calm b.calm;
}

pumps_then : (slot : ℕ) (w : Writing) (c : Situation) (v : Writing) (d : Situation) (x : Writing) (e : Situation) → Pumps slot w c v d → Shuts slot v d x e
    → Pumps slot w c x e
pumps_then slot w c v d x e a b =
    record { leaves = leaves_then slot w c v d x e a.leaves b.leaves; own = λ id at. b.leaves.full id (a.own id (b.less id at)) }

replaced : (slot : ℕ) (v : DeviceConnection) (w : Writing) (c : Situation) (x : Writing) (d : Situation) → x.state.table ≡ with_value w.state.table slot v
    → ((id : ℕ) → IsToldFull id c.host → IsToldFull id d.host) → Calm c.host d.host → Leaves slot w c x d
replaced slot v w c x d table full calm = record {
  slots = ap (λ (t : Table DeviceConnection). slots t) table ∙ same_slots end_in w.state.table slot v;
  others = λ n other. ap (λ (t : Table DeviceConnection). writes_under n t) table ∙ under_other writes_of w.state.table slot n v other;
  full = full;
  calm = calm;
}

own_none : (slot : ℕ) (e : DeviceEntry) (v : DeviceConnection) (w x : Writing) (d : Situation) → entry_under w.state.table slot ≡ Some e
    → x.state.table ≡ with_value w.state.table slot v → writes_of (record e { value = v }) ≡ None → OwnFull slot x d
own_none slot e v w x d at table none id writes =
    absurd (let no : None ≡ Some id = sym none ∙ sym (under_own writes_of w.state.table slot e v at) ∙ ap (λ (t : Table DeviceConnection). writes_under slot t) (sym table)
    ∙ writes in cc)

still_none : (slot : ℕ) (w : Writing) (c : Situation) → writes_under slot w.state.table ≡ None → Step (Pumps slot) w c w c
still_none slot w c none = grind (arith, common_steps, no_change)

-- What the answers to a write say.
untold : (o : Option HostContents) → o ≡ None → (id : ℕ) → IsToldFull id o
untold o none id = λ h there. absurd (let no : ◌≡◌ {A = Option HostContents} None (Some h) = sym none ∙ there in cc)

untold_calm : (o q : Option HostContents) → q ≡ None → Calm o q
untold_calm o q none = grind (arith, common_steps)

took_none : (stream n : ℕ) (bytes : List ℕ) (c d : Situation)
    → HostMoves false (IsWritten stream (length bytes) (write.Took n)) (after_write stream bytes (write.Took n)) c d → n ≡ 0 → d.host ≡ None
took_none stream n bytes c d moves none = grind (arith, common_steps)

told_full : (stream : ℕ) (bytes : List ℕ) (c d : Situation) → (length bytes == 0) ≡ false
    → HostMoves false (IsWritten stream (length bytes) write.Again) (after_write stream bytes write.Again) c d → IsToldFull stream d.host
told_full stream bytes c d some moves = grind (arith, common_steps)

full_failed : (i : ℕ) (h : HostContents) → IsFullAt i h → IsFullAt i (after_failed h)
full_failed i h full = grind (arith, common_steps)

dry_failed : (i : ℕ) (h : HostContents) → IsDryAt i h → IsDryAt i (after_failed h)
dry_failed i h dry = grind (arith, common_steps)

taken_failed : (i : ℕ) (h : HostContents) → IsTakenAt i h → IsTakenAt i (after_failed h)
taken_failed i h taken = grind (arith, common_steps)

and_none : (a : Bool) (stream : ℕ) → cond (a && false) (Some stream) None ≡ None
and_none true stream = refl
and_none false stream = refl

writes_none : (e : DeviceEntry) → (length (to_write e.value) == 0) ≡ true → writes_of e ≡ None
writes_none e is = ap (λ (b : Bool). cond (not e.value.closed && not b) (Some e.value.stream) None) is ∙ and_none (not e.value.closed) e.value.stream

its_stream : (b : Bool) (stream id : ℕ) → cond b (Some stream) None ≡ Some id → stream ≡ id
its_stream true stream id is = cc
its_stream false stream id is = absurd cc

module _ (e : DeviceEntry) where
  -- All to be written is dropped where it receives no more.
  shut_none : (now : ℕ) → writes_of (record e { value = after_shut 1 now e.value }) ≡ None
  shut_none now = grind (arith, common_steps, or_true, and_none)

  answered : (a : StreamWrite) (w : Writing) (c d : Situation) → entry_under w.state.table e.slot ≡ Some e → (length (to_write e.value) == 0) ≡ false
      → Allows (WriteStream e.value.stream (to_write e.value)) a c d → Keeps allowed (λ x f. Step (Pumps e.slot) w c x f) (write_answered e a w) d
  answered (write.Took n) w c d at some made = record {
    rises = omega arith;
    same = λ wrote.
        let none = took_none e.value.stream n (to_write e.value) c d made.0 (omega (arith, wrote)) in record {
          leaves = replaced e.slot (after_written n e.value) w c _ d refl (λ id full. untold d.host none id) (untold_calm c.host d.host none);
          own = λ id writes. untold d.host none id;
        };
  }
  answered write.Again w c d at some made = record {
    rises = omega arith;
    same = λ wrote. record {
      leaves = record {
        slots = refl;
        others = λ n other. refl;
        full = host_moves IsFullAt false (IsWritten e.value.stream (length (to_write e.value)) write.Again)
            (after_write e.value.stream (to_write e.value) write.Again) c d made.0 (λ id h full. full);
        calm = calm_moves false (IsWritten e.value.stream (length (to_write e.value)) write.Again)
            (after_write e.value.stream (to_write e.value) write.Again) c d made.0 (λ id h dry. dry) (λ id h taken. taken);
      };
      own = λ id writes.
          subst (λ (i : ℕ). IsToldFull i d.host) (its_stream (not e.value.closed && not (length (to_write e.value) == 0)) e.value.stream id
          (sym (under_at writes_of w.state.table e.slot (Some e) at) ∙ writes)) (told_full e.value.stream (to_write e.value) c d some made.0);
    };
  }
  answered write.Closed w c d at some made = record {
    rises = omega arith;
    same = λ wrote. record {
      leaves = replaced e.slot (after_shut 1 w.state.now e.value) w c _ d refl
          (host_moves IsFullAt false (IsWritten e.value.stream (length (to_write e.value)) write.Closed)
          (after_write e.value.stream (to_write e.value) write.Closed) c d made.0 (λ id h full. full))
          (calm_moves false (IsWritten e.value.stream (length (to_write e.value)) write.Closed)
          (after_write e.value.stream (to_write e.value) write.Closed) c d made.0 (λ id h dry. dry) (λ id h taken. taken));
      own = own_none e.slot e (after_shut 1 w.state.now e.value) w
          (record w { state = with_connection e.slot (after_shut 1 w.state.now e.value) w.state }) d at refl (shut_none w.state.now);
    };
  }
  answered write.Failed w c d at some made =
      keeps_then allowed (λ x f. Step (Pumps e.slot) w c x f) (λ s f. (s ≡ cut) × ((id : ℕ) → IsToldFull id d.host → IsToldFull id f.host) × Calm d.host f.host)
      (closing e cut_off (with_fault w.state)) (λ s. Done (record w { state = s })) d (closes e.value.closed)
      (λ s f is. record {
        rises = omega arith;
        same = λ wrote. record {
          leaves = replaced e.slot (cut_off e.value) w c (record w { state = s }) f (ap (λ (t : DeviceState). t.table) is.0)
              (λ id full. is.1 id (host_moves IsFullAt true (IsWritten e.value.stream (length (to_write e.value)) write.Failed)
              (after_write e.value.stream (to_write e.value) write.Failed) c d made.0 full_failed id full))
              (calm_both c.host d.host f.host (calm_moves true (IsWritten e.value.stream (length (to_write e.value)) write.Failed)
              (after_write e.value.stream (to_write e.value) write.Failed) c d made.0 dry_failed taken_failed) is.2);
          own = own_none e.slot e (cut_off e.value) w (record w { state = s }) f at (ap (λ (t : DeviceState). t.table) is.0) refl;
        };
      })
    where
      cut : DeviceState
      cut = with_connection e.slot (cut_off e.value) (with_fault w.state)

      closes : (b : Bool) → Keeps allowed (λ s f. (s ≡ cut) × ((id : ℕ) → IsToldFull id d.host → IsToldFull id f.host) × Calm d.host f.host) (cond b
          (Done (with_connection e.slot (cut_off e.value) (with_fault w.state)))
          (Ask (CloseStream e.value.stream) (λ u. Done (with_connection e.slot (cut_off e.value) (with_fault w.state))))) d
      closes true = (refl, λ id full. full, calm_same d.host d.host refl)
      closes false = λ u f closed. (
        refl,
        host_moves IsFullAt false (λ h. Unit {0}) (after_close e.value.stream) d f closed (λ id h full. full_closed id e.value.stream h full),
        calm_close e.value.stream d f closed,
      )

  writes : (w : Writing) (c : Situation) → entry_under w.state.table e.slot ≡ Some e → Keeps allowed (λ x d. Step (Pumps e.slot) w c x d) (write_pending e w) c
  writes w c at = by (length (to_write e.value) == 0) refl
    where
      by : (b : Bool) → (length (to_write e.value) == 0) ≡ b → Keeps allowed (λ x d. Step (Pumps e.slot) w c x d) (cond b (Done w)
          (Ask (WriteStream e.value.stream (to_write e.value)) (λ answer. write_answered e answer w))) c
      by true none = still_none e.slot w c (under_at writes_of w.state.table e.slot (Some e) at ∙ writes_none e none)
      by false some = λ a d made. answered a w c d at some made

full_shut : (stream i : ℕ) (h : HostContents) → IsFullAt i h → IsFullAt i (after_shut_write stream h)
full_shut stream i h full = stays_with IsFull (λ s. record s { write_shut = true }) (λ s is. is) i stream (with_shut_write_call h) full

calm_shut : (stream : ℕ) (c d : Situation) → HostMoves false (λ h. Unit {0}) (after_shut_write stream) c d → Calm c.host d.host
calm_shut stream c d moves = calm_moves false (λ h. Unit {0}) (after_shut_write stream) c d moves
    (λ id h. stays_with IsDry (λ s. record s { write_shut = true }) (λ s is. record { untaken = is.untaken; goes_on = is.goes_on }) id stream (with_shut_write_call h))
    (λ id h. stays_with IsTaken (λ s. record s { write_shut = true }) (λ s is. is) id stream (with_shut_write_call h))

shuts : (slot : ℕ) (w : Writing) (c : Situation) → Keeps allowed (λ x d. Step (Shuts slot) w c x d) (shut_write slot w) c
shuts slot w c = by (entry_under w.state.table slot) refl
  where
    none : Step (Shuts slot) w c w c
    none = record { rises = omega arith; same = λ wrote. record { leaves = no_change slot w c; less = λ id at. at } }

    out : (e : DeviceEntry) → entry_under w.state.table slot ≡ Some e → (b : Bool) → Keeps allowed (λ x d. Step (Shuts slot) w c x d) (cond b
        (Ask (ShutWrite e.value.stream) (λ u. Done (record w { state = with_connection slot (record e.value { write_shut = true }) w.state }))) (Done w)) c
    out e at false = none
    out e at true = λ u d made. record {
      rises = omega arith;
      same = λ wrote. record {
        leaves = replaced slot (record e.value { write_shut = true }) w c _ d refl
            (host_moves IsFullAt false (λ h. Unit {0}) (after_shut_write e.value.stream) c d made (λ id h full. full_shut e.value.stream id h full))
            (calm_shut e.value.stream c d made);
        less = λ id writes. under_at writes_of w.state.table slot (Some e) at
            ∙ (sym (under_own writes_of w.state.table slot e (record e.value { write_shut = true }) at) ∙ writes);
      };
    }

    by : (o : Option DeviceEntry) → entry_under w.state.table slot ≡ o → Keeps allowed (λ x d. Step (Shuts slot) w c x d) (elim o as (λ _. DeviceTree Writing) [
      | None ↦ Done w
      | Some e ↦ cond (is_written_out e.value)
          (Ask (ShutWrite e.value.stream) (λ u. Done (record w { state = with_connection slot (record e.value { write_shut = true }) w.state }))) (Done w)
    ]) c
    by None at = none
    by (Some e) at = out e at (is_written_out e.value)

pumps : (slot : ℕ) (w : Writing) (c : Situation) → Keeps allowed (λ x d. Step (Pumps slot) w c x d) (pump_slot slot w) c
pumps slot w c = by (entry_under w.state.table slot) refl
  where
    open_one : (e : DeviceEntry) → entry_under w.state.table slot ≡ Some e → (b : Bool) → e.value.closed ≡ b
        → Keeps allowed (λ x d. Step (Pumps slot) w c x d) (cond b (Done w) (bind (write_pending e w) (shut_write slot))) c
    open_one e at true closed =
        still_none slot w c (under_at writes_of w.state.table slot (Some e) at
        ∙ ap (λ (b : Bool). cond (not b && not (length (to_write e.value) == 0)) (Some e.value.stream) None) closed)
    open_one e at false still =
        let own : e.slot ≡ slot = has_slot w.state.table slot e at in
        keeps_then allowed (λ x d. Step (Pumps slot) w c x d) (λ v d. Step (Pumps slot) w c v d) (write_pending e w) (shut_write slot) c
        (subst (λ (n : ℕ). Keeps allowed (λ x d. Step (Pumps n) w c x d) (write_pending e w) c) own
        (writes e w c (subst (λ (n : ℕ). entry_under w.state.table n ≡ Some e) (sym own) at)))
        (λ v d step. keeps_weaker allowed (λ x f. Step (Shuts slot) v d x f) (λ x f. Step (Pumps slot) w c x f)
        (λ x f a. step_then (Pumps slot) (Shuts slot) (Pumps slot) w c v d x f (pumps_then slot w c v d x f) step a) (shut_write slot v) d (shuts slot v d))

    by : (o : Option DeviceEntry) → entry_under w.state.table slot ≡ o → Keeps allowed (λ x d. Step (Pumps slot) w c x d) (elim o as (λ _. DeviceTree Writing) [
      | None ↦ Done w
      | Some e ↦ cond e.value.closed (Done w) (bind (write_pending e w) (shut_write slot))
    ]) c
    by None at = still_none slot w c (under_at writes_of w.state.table slot None at)
    by (Some e) at = open_one e at e.value.closed refl

-- All slots of a list.
record PumpsAll (is : List ℕ) (w : Writing) (c : Situation) (x : Writing) (d : Situation) : Type 0 where
  slots : slots x.state.table ≡ slots w.state.table
  all : (n : ℕ) → in_list n is ≡ true → OwnFull n x d
  keeps : (n : ℕ) → OwnFull n w c → OwnFull n x d
  calm : Calm c.host d.host

pump_keeps : (slot n : ℕ) (w : Writing) (c : Situation) (x : Writing) (d : Situation) (b : Bool) → (n == slot) ≡ b → Pumps slot w c x d → OwnFull n w c → OwnFull n x d
pump_keeps slot n w c x d true is s own = subst (λ (m : ℕ). OwnFull m x d) (sym (eqb-true n slot is)) s.own
pump_keeps slot n w c x d false is s own = λ id at. s.leaves.full id (own id (sym (s.leaves.others n is) ∙ at))

pumps_more : (slot : ℕ) (is : List ℕ) (w : Writing) (c : Situation) (v : Writing) (d : Situation) (x : Writing) (f : Situation) → Pumps slot w c v d
    → PumpsAll is v d x f → PumpsAll (slot ∷ is) w c x f
pumps_more slot is w c v d x f s rest = record {
  slots = rest.slots ∙ s.leaves.slots;
  all = λ n at. by n (n == slot) refl at;
  keeps = λ n own. rest.keeps n (pump_keeps slot n w c v d (n == slot) refl s own);
  calm = calm_both c.host d.host f.host s.leaves.calm rest.calm;
}
  where
    by : (n : ℕ) (b : Bool) → (n == slot) ≡ b → (b || in_list n is) ≡ true → OwnFull n x f
    by n true same at = rest.keeps n (subst (λ (m : ℕ). OwnFull m v d) (sym (eqb-true n slot same)) s.own)
    by n false other at = rest.all n at

pumps_each : (is : List ℕ) (w : Writing) (c : Situation) → Keeps allowed (λ x d. Step (PumpsAll is) w c x d) (for_each pump_slot is w) c
pumps_each [] w c = record { rises = omega arith; same = λ wrote. record { slots = refl; all = λ n at. absurd cc; keeps = λ n own. own; calm = calm_same c.host c.host refl } }
pumps_each (slot ∷ is) w c =
    keeps_then allowed (λ x d. Step (PumpsAll (slot ∷ is)) w c x d) (λ v d. Step (Pumps slot) w c v d) (pump_slot slot w) (for_each pump_slot is) c (pumps slot w c)
    (λ v d step. keeps_weaker allowed (λ x f. Step (PumpsAll is) v d x f) (λ x f. Step (PumpsAll (slot ∷ is)) w c x f)
    (λ x f a. step_then (Pumps slot) (PumpsAll is) (PumpsAll (slot ∷ is)) w c v d x f (pumps_more slot is w c v d x f) step a)
    (for_each pump_slot is v) d (pumps_each is v d))

listed_writes : (n : ℕ) (t : Table DeviceConnection) (id : ℕ) → writes_under n t ≡ Some id → in_list n (slots t) ≡ true
listed_writes n t id at = by (entry_under t n) refl
  where
    by : (o : Option DeviceEntry) → entry_under t n ≡ o → in_list n (slots t) ≡ true
    by None none = absurd (let no : None ≡ Some id = sym (under_at writes_of t n None none) ∙ at in cc)
    by (Some e) there = listed end_in t n e.value.end (ap (option_map (λ (x : DeviceEntry). x.value.end)) there)

pub stage_calm : (s : DeviceState) (c d : Situation) (w : Writing) → Runs (pump_of s) c w d → w.wrote ≡ 0 → Calm c.host d.host
stage_calm s c d w runs none =
    let first : Writing = record { state = s; wrote = 0 } in
    ((keeps_run (λ x f. Step (PumpsAll (slots s.table)) first c x f) (pump_of s) c d w (pumps_each (slots s.table) first c) runs).same none).calm

pub stage_full : (s : DeviceState) (c d : Situation) (w : Writing) → Runs (pump_of s) c w d → w.wrote ≡ 0
    → (n id : ℕ) → writes_under n w.state.table ≡ Some id → IsToldFull id d.host
stage_full s c d w runs none n id at =
    let first : Writing = record { state = s; wrote = 0 } in
    let all = (keeps_run (λ x f. Step (PumpsAll (slots s.table)) first c x f) (pump_of s) c d w (pumps_each (slots s.table) first c) runs).same none in
    all.all n (subst (λ (ns : List ℕ). in_list n ns ≡ true) all.slots (listed_writes n w.state.table id at)) id at

-- A turn that put and wrote nothing; or it stopped for want of a page.
pub turn_idle : (size now : ℕ) (s : ProxyState) (a b : Situation) (x : ProxyState × Turn) (t : Turned) → Runs (turn_of size now s) a x b
    → x.1 ≡ turn.Turned t → t.put ≡ 0 → t.wrote ≡ 0 → AreIdle x.0.device.table b.host ⊎ LacksPages x.0.device b.ring
turn_idle size now s a b x t runs answer none none_written =
    let last = last_fill size now s a b x t runs answer none in by last last.filling.over refl
  where
    by : (last : LastFill b x.0.device t) (o : Bool) → last.filling.over ≡ o → AreIdle x.0.device.table b.host ⊎ LacksPages x.0.device b.ring
    by last true over = inr (subst (λ (d : DeviceState). LacksPages d b.ring) (sym last.state) (fill_lacks last over))
    by last false on =
        let stage = stage_dry last.before last.middle b last.filling last.runs last.none on in
        let wrote = last.wrote in
        let before = stage_full last.earlier last.began last.middle last.writing last.pumps (omega (arith, wrote, none_written)) in
        inl (subst (λ (d : DeviceState). AreIdle d.table b.host) (sym last.state) (
          stage.0,
          λ n id at. stage.1.full id (before n id
              (ap (λ (d : DeviceState). writes_under n d.table) (sym last.pumped) ∙ stage.1.less n id at)),
        ))
