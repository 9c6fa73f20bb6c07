-- The script of a run, and how apps go along it.
use Rattle.std.specs.Prelude.{◌≡◌, ℕ, ◌+◌, ◌-◌, ◌≤◌, ◌^◌, min, nat_le, nat_lt, ◌&&◌, ◌||◌, Bool, true, false, if◌then◌else◌, List, [], ◌∷◌, ◌++◌, map, take, drop, slice_get}
use Rattle.std.specs.{Prelude.{slice_index_or, Some, None}, List.All, Option.unwrap_or}
use Rattle.vs_script.specs.{Data.{Content, bytes_of, size_of}, declared.app.App.App, App.{Act, app_view, Connect, Listen, Accept, Send, Recv, Drain, Exchange, Shutdown, Grow}}
use Rattle.vs_script.specs.App.{Close}
use Rattle.laws_driver.specs.Carried.Calls.{GuestCall, Journal, Made}
use Rattle.vs_apps_parts.specs.{Told.{is_any_end, step_wait, told_of, wait_of}, declared.{progress.{Progress.Progress, TheConstants.SLICE}, told.Told.Told}}
use Rattle.laws_driver.specs.Carried.Calls as call
use Rattle.vs_apps_parts.specs.declared.told.Told.TheVariants as told

-- What each app is to do.
abbrev pub RunScript : Type 0
RunScript = List (List Act)

abbrev pub script_of : List App → RunScript
script_of apps = map app_view apps

abbrev pub acts_of : ℕ → RunScript → List Act
acts_of k script = slice_index_or script k []

-- The bits of each shutdown are 1 to 3.
abbrev pub IsRight : Act → Type 0
IsRight (Shutdown bits) = (1 ≤ bits) × (bits ≤ 3)
IsRight act = Unit {0}

abbrev pub AreRight : RunScript → Type 0
AreRight script = All (λ acts. All IsRight acts) script

-- The progress at first, and at the next instruction.
abbrev pub begun : Progress
begun = record { at = 0; asked = false; sent = 0; got = 0; conn = None }

abbrev pub on_to_next : Progress → Progress
on_to_next p = record { at = p.at + 1; asked = false; sent = 0; got = 0; conn = p.conn }

-- The id that an app's calls name: no connection has the id 0.
abbrev pub id_of : Progress → ℕ
id_of p = unwrap_or p.conn 0

-- The calls of a step: of the bytes that are left to send, and of those that are missing, one slice at most.
abbrev pub slice_of : ℕ → ℕ → List ℕ → List ℕ
slice_of from len bytes = take len (drop from bytes)

abbrev pub slice_left : ℕ → ℕ → ℕ
slice_left done whole = min SLICE (whole - done)

abbrev pub send_next : Content → Progress → GuestCall
send_next c p = call.Send (id_of p) (slice_of p.sent (slice_left p.sent (size_of c)) (bytes_of c))

abbrev pub recv_next : ℕ → Progress → GuestCall
recv_next n p = call.Recv (id_of p) (slice_left p.got n)

abbrev pub calls_next : Act → Progress → List GuestCall
calls_next (Connect port) p = (if p.asked then call.LookAt (id_of p) else call.Connect port) ∷ []
calls_next (Listen port) p = call.Listen port ∷ []
calls_next (Accept port) p = call.Accept port ∷ []
calls_next (Send c) p = send_next c p ∷ []
calls_next (Recv n) p = recv_next n p ∷ []
calls_next Drain p = call.Recv (id_of p) SLICE ∷ []
calls_next (Exchange c) p =
    (if nat_lt p.sent (size_of c) then send_next c p ∷ [] else []) ++ (if nat_lt p.got (size_of c) then recv_next (size_of c) p ∷ [] else [])
calls_next (Shutdown bits) p = call.Shutdown (id_of p) bits ∷ []
calls_next (Grow alloc) p = call.Grow (id_of p) alloc ∷ []
calls_next Close p = call.Close (id_of p) ∷ []

-- What a reply adds to an app's progress. A drain doesn't count what came. A count stands still at the last number of 64 bits.
abbrev pub more : ℕ → ℕ → ℕ
more n count = min (count + n) (2 ^ 64 - 1)

abbrev pub counted : Act → Told → Progress → Progress
counted act (told.Asked id) p = record p { asked = true; conn = Some id }
counted act (told.Given id) p = record p { conn = Some id }
counted act (told.Took n) p = record p { sent = more n p.sent }
counted Drain (told.Got n) p = p
counted act (told.Got n) p = record p { got = more n p.got }
counted act t p = p

abbrev pub all_counted : Act → List Told → Progress → Progress
all_counted act [] p = p
all_counted act (t ∷ ts) p = all_counted act ts (counted act t p)

-- Whether all that the instruction is to move was moved.
abbrev pub is_complete : Act → Progress → Bool
is_complete (Send c) p = nat_le (size_of c) p.sent
is_complete (Recv n) p = nat_le n p.got
is_complete (Exchange c) p = nat_le (size_of c) p.sent && nat_le (size_of c) p.got
is_complete act p = false

-- The progress after a step that was told this. One that waits changes nothing.
abbrev pub goes_to : Act → List Told → Progress → Progress
goes_to act ts q = if is_any_end ts || is_complete act q then on_to_next q else q

abbrev pub after_step : Act → List Told → Progress → Progress
after_step act ts p = elim (step_wait ts) [ Some why ↦ p | None ↦ goes_to act ts (all_counted act ts p) ]

-- The calls of a step with their replies, and what they told.
abbrev pub calls_in : List Made → List GuestCall
calls_in [] = []
calls_in (m ∷ ms) = m.call ∷ calls_in ms

abbrev pub told_in : List Made → List Told
told_in [] = []
told_in (m ∷ ms) = told_of m ∷ told_in ms

-- The journal has those that didn't wait.
abbrev pub with_noted : List Made → Journal → Journal
with_noted [] journal = journal
with_noted (m ∷ ms) journal = with_noted ms (elim (wait_of (told_of m)) [ None ↦ m ∷ journal | Some why ↦ journal ])

-- A step makes the calls of an instruction, and leads from one progress to another.
abbrev pub Goes : Act → Progress → List Made → Progress → Type 0
Goes act p ms q = (calls_in ms ≡ calls_next act p) × (q ≡ after_step act (told_in ms) p)

-- Steps of an app, the newest first: each is one of the instruction that is next.
abbrev pub Follows : List Act → Progress → List (List Made) → Progress → Type 0
Follows acts p [] q = p ≡ q
Follows acts p (ms ∷ steps) q =
    (mid : Progress) × (act : Act) × Follows acts p steps mid × (slice_get acts mid.at ≡ Some act) × Goes act mid ms q

abbrev pub all_noted : List (List Made) → Journal
all_noted [] = []
all_noted (ms ∷ steps) = with_noted ms (all_noted steps)

-- The calls of a journal are, in order, those of an app's instructions, up to this progress; steps that waited aside.
abbrev pub IsPlayed : List Act → Journal → Progress → Type 0
IsPlayed acts journal p = (steps : List (List Made)) × Follows acts begun steps p × (all_noted steps ≡ journal)
