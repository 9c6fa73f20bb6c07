-- A step that waits does so for what its instruction may wait for.
use Rattle.std.proofs.Common.{◌≡◌, ◌||◌, ℕ, nat_lt, if◌then◌else◌, Bool, true, false, List, [], ◌∷◌, ◌++◌, length, Option, Some, None, Result, Ok, Err, refl, ap, subst, arith}
use Rattle.vs_script.specs.{App.Act, Data.{Content, size_of}}
use Rattle.laws_driver.specs.Carried.Calls.{GuestCall, Made, ReplyTo}
use Rattle.vs_apps_parts.specs.{Scripts.{calls_in, calls_next, id_of, recv_next, send_next, told_in}, Told.{step_wait, told_accept, told_by, told_connect, told_look, told_of}}
use Rattle.vs_apps_parts.specs.{Told.{told_recv, told_send}, declared.{journal.WaitsFor.WaitsFor, progress.Progress.Progress, told.Told.Told}}
use Rattle.vs_driver_parts.specs.declared.answers.{Accepted.Accepted, ConnectError.ConnectError, ConnectionState.ConnectionState, Received.Received, Sent.Sent}
use Rattle.vs_run_report.specs.Right.{may_wait, waits_to_accept, waits_to_connect, waits_to_receive, waits_to_send}
use Rattle.vs_script.specs.App as act
use Rattle.laws_driver.specs.Carried.Calls as call
use Rattle.vs_apps_parts.specs.declared.told.Told.TheVariants as told
use Rattle.vs_driver_parts.specs.declared.answers.Accepted.TheVariants as accepted
use Rattle.vs_driver_parts.specs.declared.answers.ConnectError.TheVariants as refused
use Rattle.vs_driver_parts.specs.declared.answers.ConnectionState.TheVariants as seen
use Rattle.vs_driver_parts.specs.declared.answers.Received.TheVariants as got
use Rattle.vs_driver_parts.specs.declared.answers.Sent.TheVariants as sent

-- What a reply tells to wait for passes a test; and what a step waits for.
abbrev Tells : (WaitsFor → Bool) → Told → Type 0
Tells f (told.Waits why) = f why ≡ true
Tells f t = Unit {0}

abbrev WaitsAs : (WaitsFor → Bool) → Option WaitsFor → Type 0
WaitsAs f (Some why) = f why ≡ true
WaitsAs f None = Unit {0}

abbrev may_tell : GuestCall → WaitsFor → Bool
may_tell (call.Connect port) why = waits_to_connect why
may_tell (call.Accept port) why = waits_to_accept why
may_tell (call.Send id bytes) why = waits_to_send why
may_tell (call.Recv id n) why = waits_to_receive why
may_tell (call.LookAt id) why = waits_to_connect why
may_tell c why = false

-- Each reply.
connect_tells : (r : Result ℕ ConnectError) → Tells waits_to_connect (told_connect r)
connect_tells (Ok id) = tt
connect_tells (Err (refused.BadCid cid)) = tt
connect_tells (Err (refused.BadPort port)) = tt
connect_tells (Err (refused.Full n)) = refl
connect_tells (Err (refused.PortsSpent port id)) = tt
connect_tells (Err (refused.NoDescriptor n)) = refl

accept_tells : (r : Accepted) → Tells waits_to_accept (told_accept r)
accept_tells (accepted.Conn id) = tt
accept_tells accepted.None = refl
accept_tells accepted.NotListening = tt

send_tells : (r : Sent) → Tells waits_to_send (told_send r)
send_tells (sent.Took n) = tt
send_tells sent.Unknown = tt
send_tells sent.NotOpen = refl
send_tells sent.Reset = tt
send_tells sent.ShutDown = tt
send_tells (sent.NoCredit tx alloc fwd) = refl
send_tells (sent.NoDescriptor n) = refl

recv_tells : (r : Received) → Tells waits_to_receive (told_recv r)
recv_tells (got.Got n) = tt
recv_tells got.Unknown = tt
recv_tells got.End = tt
recv_tells got.NotOpen = refl
recv_tells got.Reset = tt
recv_tells got.Empty = refl

look_tells : (r : ConnectionState) → Tells waits_to_connect (told_look r)
look_tells seen.Asked = refl
look_tells seen.Answering = tt
look_tells seen.Live = tt
look_tells seen.Ended = tt
look_tells seen.Gone = tt
look_tells seen.Unknown = tt

reply_tells : (c : GuestCall) (r : ReplyTo c) → Tells (may_tell c) (told_by c r)
reply_tells (call.Connect port) r = connect_tells r
reply_tells (call.Listen port) r = tt
reply_tells (call.Unlisten port) r = tt
reply_tells (call.Accept port) r = accept_tells r
reply_tells (call.Send id bytes) r = send_tells r
reply_tells (call.Recv id n) r = recv_tells r.0
reply_tells (call.Shutdown id bits) r = tt
reply_tells (call.Grow id alloc) r = tt
reply_tells (call.Close id) r = tt
reply_tells (call.LookAt id) r = look_tells r

-- A step of one call, and one of two.
weaker : (f g : WaitsFor → Bool) → ((why : WaitsFor) → f why ≡ true → g why ≡ true) → (t : Told) → Tells f t → Tells g t
weaker f g each (told.Waits why) is = each why is
weaker f g each (told.Asked id) is = tt
weaker f g each (told.Given id) is = tt
weaker f g each (told.Took n) is = tt
weaker f g each (told.Got n) is = tt
weaker f g each told.Ends is = tt

waits_one : (f : WaitsFor → Bool) (t : Told) → Tells f t → WaitsAs f (step_wait (t ∷ []))
waits_one f (told.Waits why) is = is
waits_one f (told.Asked id) is = tt
waits_one f (told.Given id) is = tt
waits_one f (told.Took n) is = tt
waits_one f (told.Got n) is = tt
waits_one f told.Ends is = tt

waits_two : (f : WaitsFor → Bool) (t u : Told) → Tells f u → WaitsAs f (step_wait (t ∷ u ∷ []))
waits_two f (told.Waits why) u is = waits_one f u is
waits_two f (told.Asked id) u is = tt
waits_two f (told.Given id) u is = tt
waits_two f (told.Took n) u is = tt
waits_two f (told.Got n) u is = tt
waits_two f told.Ends u is = tt

abbrev first_or : GuestCall → List GuestCall → GuestCall
first_or d [] = d
first_or d (c ∷ cs) = c

abbrev second_or : GuestCall → List GuestCall → GuestCall
second_or d [] = d
second_or d (c ∷ cs) = first_or d cs

module _ (f : WaitsFor → Bool) (c : GuestCall) (each : (why : WaitsFor) → may_tell c why ≡ true → f why ≡ true) where
  made_tells : (m : Made) → m.call ≡ c → Tells f (told_of m)
  made_tells m is =
      weaker (may_tell c) f each (told_of m) (subst (λ (x : GuestCall). Tells (may_tell x) (told_of m)) is (reply_tells m.call m.reply))

  one_waits : (ms : List Made) → calls_in ms ≡ c ∷ [] → WaitsAs f (step_wait (told_in ms))
  one_waits [] is = tt
  one_waits (m ∷ []) is = waits_one f (told_of m) (made_tells m (ap (first_or c) is))
  one_waits (m ∷ n ∷ ms) is = let e = ap (λ (cs : List GuestCall). length cs) is in absurd (omega (arith, e))

  last_waits : (other : GuestCall) (ms : List Made) → calls_in ms ≡ other ∷ c ∷ [] → WaitsAs f (step_wait (told_in ms))
  last_waits other [] is = tt
  last_waits other (m ∷ []) is = let e = ap (λ (cs : List GuestCall). length cs) is in absurd (omega (arith, e))
  last_waits other (m ∷ n ∷ []) is = waits_two f (told_of m) (told_of n) (made_tells n (ap (second_or c) is))
  last_waits other (m ∷ n ∷ o ∷ ms) is = let e = ap (λ (cs : List GuestCall). length cs) is in absurd (omega (arith, e))

-- Each instruction.
or_left : (a b : Bool) → a ≡ true → (a || b) ≡ true
or_left true b is = refl
or_left false b is = absurd cc

or_right : (a b : Bool) → b ≡ true → (a || b) ≡ true
or_right true b is = refl
or_right false b is = is

connects : (asked : Bool) (id port : ℕ) (why : WaitsFor) → may_tell (if asked then call.LookAt id else call.Connect port) why ≡ true
    → waits_to_connect why ≡ true
connects true id port why is = is
connects false id port why is = is

exchanges : (more less : Bool) (c : Content) (p : Progress) (ms : List Made)
    → calls_in ms ≡ (if more then send_next c p ∷ [] else []) ++ (if less then recv_next (size_of c) p ∷ [] else [])
    → WaitsAs (may_wait (act.Exchange c)) (step_wait (told_in ms))
exchanges true true c p ms is =
    last_waits (may_wait (act.Exchange c)) (recv_next (size_of c) p) (λ why e. or_right (waits_to_send why) (waits_to_receive why) e) (send_next c p) ms is
exchanges true false c p ms is =
    one_waits (may_wait (act.Exchange c)) (send_next c p) (λ why e. or_left (waits_to_send why) (waits_to_receive why) e) ms is
exchanges false true c p ms is =
    one_waits (may_wait (act.Exchange c)) (recv_next (size_of c) p) (λ why e. or_right (waits_to_send why) (waits_to_receive why) e) ms is
exchanges false false c p [] is = tt
exchanges false false c p (m ∷ ms) is = let e = ap (λ (cs : List GuestCall). length cs) is in absurd (omega (arith, e))

step_waits : (a : Act) (p : Progress) (ms : List Made) → calls_in ms ≡ calls_next a p → WaitsAs (may_wait a) (step_wait (told_in ms))
step_waits (act.Connect port) p ms is = one_waits waits_to_connect _ (connects p.asked (id_of p) port) ms is
step_waits (act.Listen port) p ms is = one_waits (may_wait (act.Listen port)) (call.Listen port) (λ why e. e) ms is
step_waits (act.Accept port) p ms is = one_waits waits_to_accept (call.Accept port) (λ why e. e) ms is
step_waits (act.Send c) p ms is = one_waits waits_to_send (send_next c p) (λ why e. e) ms is
step_waits (act.Recv n) p ms is = one_waits waits_to_receive (recv_next n p) (λ why e. e) ms is
step_waits act.Drain p ms is = one_waits waits_to_receive _ (λ why e. e) ms is
step_waits (act.Exchange c) p ms is = exchanges (nat_lt p.sent (size_of c)) (nat_lt p.got (size_of c)) c p ms is
step_waits (act.Shutdown bits) p ms is = one_waits (may_wait (act.Shutdown bits)) (call.Shutdown (id_of p) bits) (λ why e. e) ms is
step_waits (act.Grow alloc) p ms is = one_waits (may_wait (act.Grow alloc)) (call.Grow (id_of p) alloc) (λ why e. e) ms is
step_waits act.Close p ms is = one_waits (may_wait act.Close) (call.Close (id_of p)) (λ why e. e) ms is

pub waits_right : (a : Act) (p : Progress) (ms : List Made) (why : WaitsFor) → calls_in ms ≡ calls_next a p
    → step_wait (told_in ms) ≡ Some why
    → may_wait a why ≡ true
waits_right a p ms why is waits = subst (WaitsAs (may_wait a)) waits (step_waits a p ms is)
