-- A stage of handshakes that did nothing read each line, and each gave Again; and it accepted none, since none waited or all places are taken.
use Rattle.std.proofs.lemmas.Grind.{common_steps}
use Rattle.std.proofs.Common.{◌≡◌, ◌≤◌, ◌<◌, ◌+◌, ◌-◌, ◌^◌, ◌==◌, min, nat_lt, ◌⊎◌, inl, inr, ℕ, zero, suc, Bool, true, false, cond, List, [], ◌∷◌, ◌++◌, length, map, take, slice_get, Contains, Option}
use Rattle.std.{proofs.{Common.{Some, None, refl, sym, ap, subst, ◌∙◌, arith}, lemmas.{Bool.{eq-eqb, Decides.nat_tests}, Option.{get_or_from_slice_get, same_Some, slice_get_within}}}}
use Rattle.std.specs.{List.{All, find}, Option.{option_map, option_map_or}}
use Rattle.vs_contents.specs.{CallTree.{Ask, Done, bind, for_each, while_up_to}, Contents.Exposes}
use Rattle.vs_flow.{specs.{declared.{flow.Flow.Flow}}, proofs.Entries.{find_position, none_found}}
use Rattle.vs_limits.specs.declared.TheConstants.{HANDSHAKES}
use Rattle.vs_outside.specs.{Host.{HostContents, Stream, accept_answer, after_accept, after_close, after_read, is_waiting}}
use Rattle.vs_outside.specs.declared.host_net.{Accepted.Accepted, StreamRead.StreamRead}
use Rattle.vs_uds.specs.{ConnectLine.connect_step, declared.{scan.Step.Step as LineStep}}
use Rattle.vs_device_parts.specs.{Calls.{Accept, Allows, DeviceTree, HostMoves, IsReadOf, ReadStream, Situation}, Playing.Runs}
use Rattle.vs_proxy_parts.specs.Handshakes.{accept_answered, accept_one, byte_read, dropping, handshake_on, host_fault, line_decided, opening, read_byte, read_line, shake_hands, streams_of, with_line}
use Rattle.vs_proxy_parts.specs.State.{Handshake, Turning}
use Rattle.laws_device.{specs.Carried.Streamed.HasHand, proofs.{Carried.Opens.one_byte, Walk.Keeping.{Keeps, keeps_if, keeps_some, keeps_then, keeps_weaker}}}
use Rattle.laws_run.{specs.Dry.{IsTakenAt, IsToldDry, IsToldTaken}, proofs.Drying.{Calm, allowed, calm_both, calm_read, calm_same, keeps_run, told_again}}
use Rattle.vs_outside.specs.declared.host_net.Accepted.TheVariants as accepted
use Rattle.vs_outside.specs.declared.host_net.StreamRead.TheVariants as read
use Rattle.vs_uds.specs.declared.scan.Step.TheVariants as step

abbrev Relation : Type 1
Relation = Turning → Situation → Turning → Situation → Type 0

-- What it counts rises. A host that tells nothing tells nothing after it. Where the counts stay the host tells nothing, or N holds.
record Step (N : Relation) (t : Turning) (c : Situation) (x : Turning) (d : Situation) : Type 0 where
  rises : t.hands + t.read ≤ x.hands + x.read
  none : c.host ≡ None → d.host ≡ None
  same : x.hands + x.read ≡ t.hands + t.read → (d.host ≡ None) ⊎ N t c x d

step_then : (N M K : Relation) (t : Turning) (c : Situation) (v : Turning) (d : Situation) (x : Turning) (e : Situation)
    → (N t c v d → M v d x e → K t c x e) → Step N t c v d → Step M v d x e → Step K t c x e
step_then N M K t c v d x e gives a b = grind (arith, common_steps)

step_weaker : (N M : Relation) (t : Turning) (c : Situation) (x : Turning) (d : Situation) → (N t c x d → M t c x d) → Step N t c x d → Step M t c x d
step_weaker N M t c x d gives a = grind (arith, common_steps)

more : (N : Relation) (t : Turning) (c : Situation) (x : Turning) (d : Situation) → t.hands + t.read < x.hands + x.read → (c.host ≡ None → d.host ≡ None)
    → Step N t c x d
more N t c x d less none = record { rises = omega (arith, less); none = none; same = λ counts. absurd (omega (arith, less, counts)) }

none_moves : (failed : Bool) (P : HostContents → Type 0) (f : HostContents → HostContents) (c d : Situation) → HostMoves failed P f c d → c.host ≡ None
    → d.host ≡ None
none_moves failed P f c d moves none = subst (λ (o : Option HostContents). Exposes o d.host P f) none moves.host

-- Nothing changes but that calls were made.
record Still (t : Turning) (c : Situation) (x : Turning) (d : Situation) : Type 0 where
  state : x.state ≡ t.state
  calm : Calm c.host d.host

still_here : (t : Turning) (c : Situation) → Step Still t c t c
still_here t c = grind (arith, common_steps, calm_same)

still_then : (t : Turning) (c : Situation) (v : Turning) (d : Situation) (x : Turning) (e : Situation) → Still t c v d → Still v d x e → Still t c x e
still_then t c v d x e a b = record { state = b.state ∙ a.state; calm = calm_both c.host d.host e.host a.calm b.calm }

-- A LINE
module _ (stream : ℕ) where
  -- The line of a stream is read, where it has one: the stream is dry.
  record Reads (t : Turning) (c : Situation) (x : Turning) (d : Situation) : Type 0 where
    still : Still t c x d
    dry : HasHand x.state.handshakes stream → IsToldDry stream d.host

  no_hand : (hands : List Handshake) → find (λ (h : Handshake). h.stream == stream) hands ≡ None → HasHand hands stream → ⊥
  no_hand hands none has = grind (arith, common_steps, none_found, eq-eqb)

  zero_bytes : (o : Option Stream) → option_map_or (λ (s : Stream). take 0 s.untaken) o [] ≡ []
  zero_bytes None = refl
  zero_bytes (Some s) = refl

  -- Where a byte is told, it is one.
  got_none : (n : ℕ) (bytes : List ℕ) (c d : Situation) → HostMoves false (IsReadOf stream 1 (read.Got n, bytes)) (after_read stream (read.Got n)) c d
      → n ≡ 0 → d.host ≡ None
  got_none n bytes c d moves none = grind (arith, common_steps, one_byte, zero_bytes)

  -- What a byte more leads to.
  abbrev Follows : Turning → Situation → Turning → Situation → Type 0
  Follows u d x e = (u.hands + u.read ≤ x.hands + x.read) × (d.host ≡ None → e.host ≡ None)

  drop_follows : (id : ℕ) (u : Turning) (d : Situation) → Keeps allowed (λ x e. Follows u d x e) (dropping id u) d
  drop_follows id u d = λ a e made. (omega arith, none_moves false (λ h. Unit {0}) (after_close id) d e made)

  open_follows : (id : ℕ) (flow : Flow) (u : Turning) (d : Situation) → Keeps allowed (λ x e. Follows u d x e) (opening id flow u) d
  open_follows id flow u d = grind (arith, common_steps, keeps_then, allowed, keeps_some, none_moves)

  line_follows : (id : ℕ) (w : LineStep) (u : Turning) (d : Situation) → Keeps allowed (λ (r : Turning × Bool) e. Follows u d r.0 e) (line_decided id w u) d
  line_follows id w u d = grind (arith, common_steps, keeps_then, allowed, drop_follows, keeps_some, open_follows)

  module _ (t : Turning) (c : Situation) where
    abbrev Now : Turning × Bool → Situation → Type 0
    Now r d = Step Reads t c r.0 d

    drops : (id : ℕ) (u : Turning) (d : Situation) → u.hands + u.read ≡ t.hands + t.read → (c.host ≡ None → d.host ≡ None)
        → Keeps allowed Now (bind (dropping id u) (λ v. Done (v, false))) d
    drops id u d same none = λ a e made.
        more Reads t c (record u { state = record u.state { handshakes = _ }; hands = u.hands + 1 }) e (omega (arith, same))
        (λ is. none_moves false (λ h. Unit {0}) (after_close id) d e made (none is))

    answered : (h : Handshake) (a : StreamRead) (bytes : List ℕ) (d : Situation) → Allows (ReadStream stream 1) (a, bytes) c d
        → Keeps allowed Now (byte_read h a bytes t) d
    answered h (read.Got n) bytes d made =
        let line = h.line ++ bytes in
        let u : Turning = record t { state = record t.state { handshakes = with_line h.stream line t.state.handshakes }; read = t.read + n } in
        keeps_weaker allowed (λ (r : Turning × Bool) e. Follows u d r.0 e) Now (λ r e f. let least = f.0 in record {
          rises = omega (arith, least);
          none = λ is. f.1 (none_moves false (IsReadOf stream 1 (read.Got n, bytes)) (after_read stream (read.Got n)) c d made.0 is);
          same = λ counts. inl (f.1 (got_none n bytes c d made.0 (omega (arith, least, counts))));
        }) (line_decided h.stream (connect_step line) u) d (line_follows h.stream (connect_step line) u d)
    answered h read.Again bytes d made = record {
      rises = omega arith;
      none = none_moves false (IsReadOf stream 1 (read.Again, bytes)) (after_read stream read.Again) c d made.0;
      same = λ counts. inr (record {
        still = record { state = refl; calm = calm_read read.Again stream 1 bytes c d tt made };
        dry = λ has. told_again stream 1 c d bytes made.0;
      });
    }
    answered h read.End bytes d made =
        drops h.stream t d refl (none_moves false (IsReadOf stream 1 (read.End, bytes)) (after_read stream read.End) c d made.0)
    answered h read.Failed bytes d made =
        drops h.stream (host_fault t) d refl (none_moves true (IsReadOf stream 1 (read.Failed, bytes)) (after_read stream read.Failed) c d made.0)

    reads_byte : Keeps allowed Now (read_byte stream t) c
    reads_byte =
        keeps_some allowed Now (handshake_on stream t.state) (Done (t, false)) (λ h. Ask (ReadStream stream 1) (λ answer. byte_read h answer.0 answer.1 t)) c
        (λ none. step_weaker Still Reads t c t c (λ same. record { still = same; dry = λ has. absurd (no_hand t.state.handshakes none has) }) (still_here t c))
        (λ h found a d made. answered h a.0 a.1 d made)

  reads_then : (t : Turning) (c : Situation) (v : Turning) (d : Situation) (x : Turning) (e : Situation) → Reads t c v d → Still v d x e → Reads t c x e
  reads_then t c v d x e a b = record {
    still = still_then t c v d x e a.still b;
    dry = λ has. b.calm.dry stream (a.dry (subst (λ (s : List Handshake). HasHand s stream) (ap (λ s. s.handshakes) b.state) has));
  }

  -- Byte after byte.
  still_while : (n : ℕ) (t : Turning) (c : Situation) → Keeps allowed (λ x d. Step Still t c x d) (while_up_to n (read_byte stream) t) c
  still_while zero t c = still_here t c
  still_while (suc n) t c =
      keeps_then allowed (λ x d. Step Still t c x d) (λ (r : Turning × Bool) d. Step Reads t c r.0 d) (read_byte stream t)
      (λ r. elim r.1 [ true ↦ while_up_to n (read_byte stream) r.0 | false ↦ Done r.0 ]) c (reads_byte t c)
      (λ r d step. by r.0 r.1 d step (still_while n r.0 d))
    where
      by : (v : Turning) (b : Bool) (d : Situation) → Step Reads t c v d → Keeps allowed (λ x e. Step Still v d x e) (while_up_to n (read_byte stream) v) d
          → Keeps allowed (λ x e. Step Still t c x e) (elim b as (λ _. DeviceTree Turning) [ true ↦ while_up_to n (read_byte stream) v | false ↦ Done v ]) d
      by v true d one rest =
          keeps_weaker allowed (λ x e. Step Still v d x e) (λ x e. Step Still t c x e)
          (λ x e a. step_then Reads Still Still t c v d x e (λ r s. still_then t c v d x e r.still s) one a) (while_up_to n (read_byte stream) v) d rest
      by v false d one rest = step_weaker Reads Still t c v d (λ r. r.still) one

  reads_while : (n : ℕ) (t : Turning) (c : Situation) → Keeps allowed (λ x d. Step Reads t c x d) (while_up_to (suc n) (read_byte stream) t) c
  reads_while n t c =
      keeps_then allowed (λ x d. Step Reads t c x d) (λ (r : Turning × Bool) d. Step Reads t c r.0 d) (read_byte stream t)
      (λ r. elim r.1 [ true ↦ while_up_to n (read_byte stream) r.0 | false ↦ Done r.0 ]) c (reads_byte t c)
      (λ r d step. by r.0 r.1 d step)
    where
      by : (v : Turning) (b : Bool) (d : Situation) → Step Reads t c v d
          → Keeps allowed (λ x e. Step Reads t c x e) (elim b as (λ _. DeviceTree Turning) [ true ↦ while_up_to n (read_byte stream) v | false ↦ Done v ]) d
      by v true d one =
          keeps_weaker allowed (λ x e. Step Still v d x e) (λ x e. Step Reads t c x e)
          (λ x e a. step_then Reads Still Reads t c v d x e (reads_then t c v d x e) one a) (while_up_to n (read_byte stream) v) d (still_while n v d)
      by v false d one = one

  reads_line : (t : Turning) (c : Situation) → Keeps allowed (λ x d. Step Reads t c x d) (read_line stream t) c
  reads_line t c = reads_while 31 t c

-- ALL LINES
record ReadsAll (ids : List ℕ) (t : Turning) (c : Situation) (x : Turning) (d : Situation) : Type 0 where
  still : Still t c x d
  dry : (id : ℕ) → Contains ids id → HasHand x.state.handshakes id → IsToldDry id d.host

all_more : (stream : ℕ) (ids : List ℕ) (t : Turning) (c : Situation) (v : Turning) (d : Situation) (x : Turning) (e : Situation) → Reads stream t c v d
    → ReadsAll ids v d x e → ReadsAll (stream ∷ ids) t c x e
all_more stream ids t c v d x e a b = record { still = still_then t c v d x e a.still b.still; dry = by }
  where
    by : (id : ℕ) → Contains (stream ∷ ids) id → HasHand x.state.handshakes id → IsToldDry id e.host
    by id (zero, less, is) has =
        subst (λ (n : ℕ). IsToldDry n e.host) is
        ((reads_then stream t c v d x e a b.still).dry (subst (λ (n : ℕ). HasHand x.state.handshakes n) (sym is) has))
    by id (suc k, less, is) has = b.dry id (k, omega (arith, less), is) has

reads_each : (ids : List ℕ) (t : Turning) (c : Situation) → Keeps allowed (λ x d. Step (ReadsAll ids) t c x d) (for_each read_line ids t) c
reads_each [] t c =
    step_weaker Still (ReadsAll []) t c t c (λ same. record { still = same; dry = λ id within has. absurd (nowhere within) }) (still_here t c)
  where
    nowhere : {id : ℕ} → Contains [] id → ⊥
    nowhere (k, less, is) = absurd (omega (arith, less))
reads_each (stream ∷ ids) t c =
    keeps_then allowed (λ x d. Step (ReadsAll (stream ∷ ids)) t c x d) (λ v d. Step (Reads stream) t c v d) (read_line stream t) (for_each read_line ids) c
    (reads_line stream t c)
    (λ v d one. keeps_weaker allowed (λ x e. Step (ReadsAll ids) v d x e) (λ x e. Step (ReadsAll (stream ∷ ids)) t c x e)
    (λ x e a. step_then (Reads stream) (ReadsAll ids) (ReadsAll (stream ∷ ids)) t c v d x e (all_more stream ids t c v d x e) one a)
    (for_each read_line ids v) d (reads_each ids v d))

-- A CLIENT THAT WAITS
record Accepts (t : Turning) (c : Situation) (x : Turning) (d : Situation) : Type 0 where
  lines : x.state.handshakes ≡ t.state.handshakes
  waits : length t.state.handshakes < HANDSHAKES → x.state.device.faults ≡ 0 → (id : ℕ) → IsToldTaken id d.host

none_placed : (b : Bool) (o : Option ℕ) → accepted.None ≡ cond b accepted.Failed (option_map_or accepted.Stream (option_map (λ (place : ℕ). place + 1) o) accepted.None)
    → o ≡ None
none_placed b o is = grind (arith, common_steps)

all_under : (xs : List Stream) → All (λ (s : Stream). is_waiting s ≡ false) xs → (b : Bool) (i : ℕ) (s : Stream) → cond b None (slice_get xs i) ≡ Some s
    → is_waiting s ≡ false
all_under xs all true i s at = absurd cc
all_under xs all false i s at =
    ap is_waiting (sym (get_or_from_slice_get xs i s s at)) ∙ all i s (slice_get_within xs i s at)

none_waiting : (h : HostContents) → accepted.None ≡ accept_answer h → (id : ℕ) → IsTakenAt id h
none_waiting h answer id s there = grind (arith, common_steps, none_placed, find_position, all_under, none_found)

told_none : (c d : Situation) → HostMoves false (λ h. accepted.None ≡ accept_answer h) (after_accept accepted.None) c d → (id : ℕ) → IsToldTaken id d.host
told_none c d moves id = grind (arith, common_steps, same_Some, none_waiting)

pub some_fault : (n : ℕ) → min (n + 1) (2 ^ 64 - 1) ≡ 0 → ⊥
some_fault n is = grind (arith, nat_tests, common_steps, is)

accepts : (t : Turning) (c : Situation) → Keeps allowed (λ x d. Step Accepts t c x d) (accept_one t) c
accepts t c =
    keeps_if allowed (λ x d. Step Accepts t c x d) (nat_lt (length t.state.handshakes) HANDSHAKES) _ _ c (λ room a d made. by a d made)
    (λ full. record {
      rises = omega arith;
      none = λ is. is;
      same = λ counts. inr (record { lines = refl; waits = λ less. absurd (grind (arith, nat_tests, full, less)) });
    })
  where
    by : (a : Accepted) (d : Situation) → Allows Accept a c d → Step Accepts t c (accept_answered a t) d
    by (accepted.Stream id) d made =
        more Accepts t c _ d (omega arith) (none_moves false (λ h. accepted.Stream id ≡ accept_answer h) (after_accept (accepted.Stream id)) c d made)
    by accepted.None d made = record {
      rises = omega arith;
      none = none_moves false (λ h. accepted.None ≡ accept_answer h) (after_accept accepted.None) c d made;
      same = λ counts. inr (record { lines = refl; waits = λ room faults. told_none c d made });
    }
    by accepted.Failed d made = record {
      rises = omega arith;
      none = none_moves true (λ h. accepted.Failed ≡ accept_answer h) (after_accept accepted.Failed) c d made;
      same = λ counts. inr (record { lines = refl; waits = λ room faults. absurd (some_fault t.state.device.faults faults) });
    }

-- THE STAGE
pub record Shakes (x : Turning) (d : Situation) : Type 0 where
  pub dry : (id : ℕ) → HasHand x.state.handshakes id → IsToldDry id d.host
  pub waits : length x.state.handshakes < HANDSHAKES → x.state.device.faults ≡ 0 → (id : ℕ) → IsToldTaken id d.host

hand_listed : (id : ℕ) (hands : List Handshake) → HasHand hands id → Contains (map (λ (h : Handshake). h.stream) hands) id
hand_listed id [] (h, (i, less, is), same) = absurd (omega (arith, less))
hand_listed id (k ∷ ks) (h, (zero, less, is), same) = (0, omega arith, ap (λ (y : Handshake). y.stream) is ∙ same)
hand_listed id (k ∷ ks) (h, (suc i, less, is), same) =
    let rest = hand_listed id ks (h, (i, omega (arith, less), is), same) in let within = rest.1 in (suc rest.0, omega (arith, within), rest.2)

shakes : (t : Turning) (c : Situation) → Keeps allowed (λ x d. Step (λ t c x d. Shakes x d) t c x d) (shake_hands t) c
shakes t c =
    keeps_then allowed (λ x d. Step (λ t c x d. Shakes x d) t c x d) (λ u d. Step Accepts t c u d) (accept_one t) (λ u. for_each read_line (streams_of u.state) u) c
    (accepts t c)
    (λ u d one. keeps_weaker allowed (λ x e. Step (ReadsAll (streams_of u.state)) u d x e) (λ x e. Step (λ t c x d. Shakes x d) t c x e)
    (λ x e a. step_then Accepts (ReadsAll (streams_of u.state)) (λ t c x d. Shakes x d) t c u d x e (both u d x e) one a)
    (for_each read_line (streams_of u.state) u) d (reads_each (streams_of u.state) u d))
  where
    both : (u : Turning) (d : Situation) (x : Turning) (e : Situation) → Accepts t c u d → ReadsAll (streams_of u.state) u d x e → Shakes x e
    both u d x e a b = record {
      dry = λ id has. b.dry id (hand_listed id u.state.handshakes
          (subst (λ (hs : List Handshake). HasHand hs id) (ap (λ s. s.handshakes) b.still.state) has)) has;
      waits = λ room faults id. b.still.calm.taken id (a.waits
          (subst (λ (hs : List Handshake). length hs < HANDSHAKES) (ap (λ s. s.handshakes) b.still.state ∙ a.lines) room)
          (ap (λ s. s.device.faults) (sym b.still.state) ∙ faults) id);
    }

pub stage_shakes : (t : Turning) (c : Situation) (x : Turning) (d : Situation) → Runs (shake_hands t) c x d → x.hands + x.read ≡ 0
    → (d.host ≡ None) ⊎ Shakes x d
stage_shakes t c x d runs none =
    let kept = keeps_run (λ x d. Step (λ t c x d. Shakes x d) t c x d) (shake_hands t) c d x (shakes t c) runs in
    let less = kept.rises in kept.same (omega (arith, less, none))
