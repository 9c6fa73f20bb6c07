-- What a call leaves that is made and noted.
use Rattle.std.proofs.Common.{◌≡◌, ℕ, ◌≤◌, ◌<◌, ◌^◌, arith, true, List, [], ◌++◌, length, Option, Some, None, Result, Ok, Err, refl, sym, ap, ◌∙◌, append-nil}
use Rattle.std.{proofs.lemmas.Bool.Decides.nat_tests, specs.Prelude.{OnOk, OnErr}}
use Rattle.vs_ring_port.specs.Contents.{RingContents}
use Rattle.vs_driver_parts.specs.{Connections.{after_close, after_grow, after_shutdown, close_of, grow_of, shutdown_of, state_of}, Listening.{accept_of, after_accept, listen_of}}
use Rattle.vs_driver_parts.specs.{Listening.listening, Playing.Plays, State.DriverState, declared.answers.{Accepted.Accepted, Closed.Closed, ConnectionState.ConnectionState}}
use Rattle.vs_driver_parts.specs.declared.answers.{Grown.Grown, ListenError.ListenError, Shut.Shut}
use Rattle.laws_driver.specs.Carried.Calls.{GuestCall, ReplyTo, bytes_received, is_right, whole_call}
use Rattle.vs_apps_parts.specs.{Journals.{called_noted, ends_at, made_as, made_of}, Scripts.RunScript, Told.{told_by, wait_of}, declared.journal.{Called.Called, Entry.Entry}}
use Rattle.vs_apps_parts.specs.declared.{journal.WaitsFor.WaitsFor, progress.AppState.AppState, told.Told.Told}
use Rattle.laws_apps.specs.{Runs.{HasFlow, NotesCall}, Calls.{CallsAs, run_with}}
use Rattle.laws_driver.specs.Carried.Calls as call
use Rattle.std.proofs.lemmas.Grind.{common_steps}

module _ (script : RunScript) (k : ℕ) (made_call : GuestCall) (reply : ReplyTo made_call) (entry : Called) (t : DriverState) (old new : List Entry) (bytes : List ℕ)
    (made : made_of script bytes k entry ≡ made_as made_call reply) (within : ends_at entry ≤ length bytes) (flow : HasFlow entry t)
    (none : bytes_received made_call reply ≡ []) where
  notes : (s : DriverState) (c d : RingContents) (apps : List AppState) (o : Option WaitsFor) → new ≡ called_noted k entry o old
      → NotesCall script k (made_as made_call reply) o (run_with s c apps old bytes) (run_with t d apps new bytes)
  notes s c d apps None is = (entry, made, within, is, sym (ap (λ (xs : List ℕ). bytes ++ xs) none ∙ append-nil bytes), flow)
  notes s c d apps (Some why) is = (is, refl)

  -- A call that received no byte.
  calls_with : (s : DriverState) (c d : RingContents) (apps : List AppState) (told : Told) → is_right made_call ≡ true
      → Plays (whole_call made_call s) c (t, reply) d → told ≡ told_by made_call reply → new ≡ called_noted k entry (wait_of told) old
      → CallsAs script k made_call told (run_with s c apps old bytes) (run_with t d apps new bytes)
  calls_with s c d apps told right plays says noted = grind (arith, common_steps, notes)

  pub calls_as : (s : DriverState) (c d : RingContents) (apps : List AppState) (told : Told) (after : List ℕ) → is_right made_call ≡ true
      → Plays (whole_call made_call s) c (t, reply) d → told ≡ told_by made_call reply → new ≡ called_noted k entry (wait_of told) old → after ≡ bytes
      → CallsAs script k made_call told (run_with s c apps old bytes) (run_with t d apps new after)
  calls_as s c d apps told after right plays says noted same = grind (arith, common_steps, calls_with)

-- Calls that need no ring.
abbrev Same : (A B : Type 0) → A × B → A × B → Type 0
Same A B p q = p ≡ q

both_same : {A B : Type 0} {a x : A} {b y : B} → a ≡ x → b ≡ y → Same A B (a, b) (x, y)
both_same one two = λ i. (one i, two i)

pub listen_plays : (port : ℕ) (s t : DriverState) (r : Result (Unit {0}) ListenError) (c : RingContents) → r ≡ listen_of port s
    → OnOk r (t ≡ listening port s) → OnErr r (t ≡ s) → Plays (whole_call (call.Listen port) s) c (t, r) c
listen_plays port s t (Ok u) c is ok err = (rw (← is, ok) refl, refl)
listen_plays port s t (Err why) c is ok err = (rw (← is, err) refl, refl)

pub accept_plays : (port : ℕ) (s t : DriverState) (r : Accepted) (c : RingContents) → r ≡ accept_of port s → t ≡ after_accept port s
    → Plays (whole_call (call.Accept port) s) c (t, r) c
accept_plays port s t r c is state = (both_same (sym state) (sym is), refl)

pub shutdown_plays : (id bits : ℕ) (s t : DriverState) (r : Shut) (c : RingContents) → r ≡ shutdown_of id s → t ≡ after_shutdown id bits s
    → Plays (whole_call (call.Shutdown id bits) s) c (t, r) c
shutdown_plays id bits s t r c is state = (both_same (sym state) (sym is), refl)

pub grow_plays : (id alloc : ℕ) (s t : DriverState) (r : Grown) (c : RingContents) → r ≡ grow_of id alloc s → t ≡ after_grow id alloc s
    → Plays (whole_call (call.Grow id alloc) s) c (t, r) c
grow_plays id alloc s t r c is state = (both_same (sym state) (sym is), refl)

pub close_plays : (id : ℕ) (s t : DriverState) (r : Closed) (c : RingContents) → r ≡ close_of id s → t ≡ after_close id s
    → Plays (whole_call (call.Close id) s) c (t, r) c
close_plays id s t r c is state = (both_same (sym state) (sym is), refl)

pub look_plays : (id : ℕ) (s : DriverState) (r : ConnectionState) (c : RingContents) → r ≡ state_of id s
    → Plays (whole_call (call.LookAt id) s) c (s, r) c
look_plays id s r c is = (both_same refl (sym is), refl)

pub port_right : (port : ℕ) → port < 2 ^ 32 → is_right (call.Connect port) ≡ true
port_right port less = grind (arith, nat_tests, less)
