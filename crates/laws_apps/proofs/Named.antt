-- What an app's calls name: its connection is one that it was given, so it closes no other, and it listens where its script says.
use Rattle.std.proofs.lemmas.Grind.{common_steps}
use Rattle.std.proofs.Common.{◌≡◌, ◌⊎◌, inl, inr, ℕ, ◌≤◌, ◌==◌, ◌||◌, Bool, true, false, cond, List, [], ◌∷◌, ◌++◌, Option, Some, None, Result, refl, sym, ap}
use Rattle.std.{proofs.{Common.{◌∙◌, arith, slice_get}, lemmas.Bool.eqb-true}, specs.{List.list_any, Option.unwrap_or}}
use Rattle.vs_script.specs.{App.{Act, Listen, Close}}
use Rattle.vs_apps_parts.specs.{Journals.{calls_of, calls_of_app, made_by, made_by_app}, Scripts.{RunScript, Follows, all_counted, all_noted, begun, calls_in, calls_next, counted}}
use Rattle.vs_apps_parts.specs.{Scripts.{goes_to, id_of, told_in, with_noted}, declared.journal.{Entry.Entry, WaitsFor.WaitsFor}}
use Rattle.vs_apps_parts.specs.{declared.{progress.Progress.Progress, told.Told.Told}, Told.{step_wait, told_accept, told_by, told_connect, told_look, told_of}}
use Rattle.vs_apps_parts.specs.Told.{told_recv, told_send, wait_of}
use Rattle.vs_driver_parts.specs.declared.answers.{Accepted.Accepted, ConnectError.ConnectError, ConnectionState.ConnectionState}
use Rattle.vs_driver_parts.specs.declared.answers.{Received.Received, Sent.Sent}
use Rattle.laws_driver.specs.Carried.Calls.{GuestCall, Journal, Made, ReplyTo, names}
use Rattle.laws_apps.{specs.{Placed.{closed_by, given_by, listened_by, some_did, was_closed, was_given, was_listened}, Traces.id_told}, proofs.Placed.{one_of, or_first, or_second}}
use Rattle.laws_driver.specs.Carried.Calls as call

-- What some call of two journals did; and what an app did was done.
module _ (by : (call : GuestCall) → ReplyTo call → Option ℕ) (m : ℕ) where
  pub did_append : (a b : Journal) → some_did by m (a ++ b) ≡ (some_did by m a || some_did by m b)
  did_append [] b = refl
  did_append (x ∷ a) b = by_first (names m (by x.call x.reply)) (did_append a b)
    where
      by_first : (c : Bool) → some_did by m (a ++ b) ≡ (some_did by m a || some_did by m b)
          → (c || some_did by m (a ++ b)) ≡ ((c || some_did by m a) || some_did by m b)
      by_first true rest = refl
      by_first false rest = rest

  pub app_did : (script : RunScript) (bytes : List ℕ) (k : ℕ) (es : List Entry) → some_did by m (calls_of_app k script bytes es) ≡ true
      → some_did by m (calls_of script bytes es) ≡ true
  app_did script bytes k [] is = absurd cc
  app_did script bytes k (e ∷ es) is =
      did_append (calls_of script bytes es) (made_by script bytes e)
      ∙ one_of false (some_did by m (calls_of_app k script bytes es)) (some_did by m (made_by_app k script bytes e)) _
      (sym (did_append (calls_of_app k script bytes es) (made_by_app k script bytes e)) ∙ is) (λ no_way. absurd cc)
      (λ older. or_first (some_did by m (calls_of script bytes es)) _ (app_did script bytes k es older))
      (λ now. or_second (some_did by m (calls_of script bytes es)) _ (own (e.app == k) now))
    where
      own : (b : Bool) → some_did by m (cond b (made_by script bytes e) []) ≡ true → some_did by m (made_by script bytes e) ≡ true
      own true so = so
      own false so = absurd cc

-- Calls that are noted behind others leave what those did.
module _ (by : (call : GuestCall) → ReplyTo call → Option ℕ) (n : ℕ) where
  still_one : (m : Made) (o : Option WaitsFor) (journal : Journal) → some_did by n journal ≡ true
      → some_did by n (elim o as (λ _. Journal) [ None ↦ m ∷ journal | Some why ↦ journal ]) ≡ true
  still_one m None journal is = or_second (names n (by m.call m.reply)) _ is
  still_one m (Some why) journal is = is

  pub still_did : (ms : List Made) (journal : Journal) → some_did by n journal ≡ true → some_did by n (with_noted ms journal) ≡ true
  still_did [] journal is = is
  still_did (m ∷ ms) journal is = still_did ms _ (still_one m (wait_of (told_of m)) journal is)

  -- What is noted of these calls was done by an older one, or by one of these.
  module _ (test : GuestCall → Bool) (tells : (c : GuestCall) (reply : ReplyTo c) → names n (by c reply) ≡ true → test c ≡ true) where
    pub did_one : (ms : List Made) (journal : Journal) → some_did by n (with_noted ms journal) ≡ true
        → (some_did by n journal ≡ true) ⊎ (list_any test (calls_in ms) ≡ true)
    did_one [] journal is = inl is
    did_one (m ∷ ms) journal is = by_rest (did_one ms _ is)
      where
        first : (a : Bool) → names n (by m.call m.reply) ≡ a → (a || some_did by n journal) ≡ true
            → (some_did by n journal ≡ true) ⊎ ((test m.call || list_any test (calls_in ms)) ≡ true)
        first true own so = inr (or_first (test m.call) _ (tells m.call m.reply own))
        first false other so = inl so

        noted : (o : Option WaitsFor) → some_did by n (elim o as (λ _. Journal) [ None ↦ m ∷ journal | Some why ↦ journal ]) ≡ true
            → (some_did by n journal ≡ true) ⊎ ((test m.call || list_any test (calls_in ms)) ≡ true)
        noted None so = first (names n (by m.call m.reply)) refl so
        noted (Some why) so = inl so

        by_rest : (some_did by n (elim (wait_of (told_of m)) as (λ _. Journal) [ None ↦ m ∷ journal | Some why ↦ journal ]) ≡ true)
            ⊎ (list_any test (calls_in ms) ≡ true) → (some_did by n journal ≡ true) ⊎ ((test m.call || list_any test (calls_in ms)) ≡ true)
        by_rest (inl so) = noted (wait_of (told_of m)) so
        by_rest (inr so) = inr (or_second (test m.call) _ so)

-- What tells no id, and what was given where one is told.
none_connect : (r : Result ℕ ConnectError) (id : ℕ) → id_told (told_connect r) ≡ Some id → given_by (call.Connect 0) r ≡ Some id
none_connect r id is = grind (arith, common_steps)

none_accept : (r : Accepted) (id : ℕ) → id_told (told_accept r) ≡ Some id → given_by (call.Accept 0) r ≡ Some id
none_accept r id is = grind (arith, common_steps)

none_send : (r : Sent) (id : ℕ) → id_told (told_send r) ≡ Some id → ⊥
none_send r id is = grind (arith, common_steps)

none_recv : (r : Received) (id : ℕ) → id_told (told_recv r) ≡ Some id → ⊥
none_recv r id is = grind (arith, common_steps)

none_look : (r : ConnectionState) (id : ℕ) → id_told (told_look r) ≡ Some id → ⊥
none_look r id = grind (arith, common_steps)

was_told : (c : GuestCall) (reply : ReplyTo c) (id : ℕ) → id_told (told_by c reply) ≡ Some id → given_by c reply ≡ Some id
was_told (call.Connect port) reply id is = none_connect reply id is
was_told (call.Accept port) reply id is = none_accept reply id is
was_told (call.Send n bytes) reply id is = absurd (none_send reply id is)
was_told (call.Recv n len) reply id is = absurd (none_recv reply.0 id is)
was_told (call.LookAt n) reply id is = absurd (none_look reply id is)
was_told (call.Listen port) reply id is = absurd cc
was_told (call.Unlisten port) reply id is = absurd cc
was_told (call.Shutdown n bits) reply id is = absurd cc
was_told (call.Grow n alloc) reply id is = absurd cc
was_told (call.Close n) reply id is = absurd cc

-- The connection that an app is at, after what its calls told.
conn_by : (act : Act) (t : Told) (p : Progress) → ((counted act t p).conn ≡ p.conn) ⊎ ((counted act t p).conn ≡ id_told t)
conn_by act t p = grind (arith, common_steps)

module _ (id : ℕ) where
  -- One that tells of an id doesn't wait, so it is noted.
  noted_told : (m : Made) (t : Told) (journal : Journal) → told_of m ≡ t → id_told t ≡ Some id
      → was_given id (elim (wait_of (told_of m)) as (λ _. Journal) [ None ↦ m ∷ journal | Some why ↦ journal ]) ≡ true
  noted_told m t journal at is = grind (arith, common_steps, was_told, or_first)

  calls_give : (act : Act) (ms : List Made) (p : Progress) (journal : Journal) → (p.conn ≡ Some id → was_given id journal ≡ true)
      → (all_counted act (told_in ms) p).conn ≡ Some id → was_given id (with_noted ms journal) ≡ true
  calls_give act [] p journal had is = had is
  calls_give act (m ∷ ms) p journal had is = calls_give act ms (counted act (told_of m) p) _ (by (conn_by act (told_of m) p)) is
    where
      by : ((counted act (told_of m) p).conn ≡ p.conn) ⊎ ((counted act (told_of m) p).conn ≡ id_told (told_of m)) → (counted act (told_of m) p).conn ≡ Some id
          → was_given id (elim (wait_of (told_of m)) as (λ _. Journal) [ None ↦ m ∷ journal | Some why ↦ journal ]) ≡ true
      by (inl same) so = still_one given_by id m (wait_of (told_of m)) journal (had (sym same ∙ so))
      by (inr told) so = noted_told m (told_of m) journal refl (sym told ∙ so)

  goes_conn : (act : Act) (ts : List Told) (q : Progress) → (goes_to act ts q).conn ≡ q.conn
  goes_conn act ts q = grind (arith, common_steps)

  step_gives : (act : Act) (ms : List Made) (p : Progress) (journal : Journal) (o : Option WaitsFor) → (p.conn ≡ Some id → was_given id journal ≡ true)
      → (elim o as (λ _. Progress) [ Some why ↦ p | None ↦ goes_to act (told_in ms) (all_counted act (told_in ms) p) ]).conn ≡ Some id
      → was_given id (with_noted ms journal) ≡ true
  step_gives act ms p journal o = grind (arith, common_steps, still_did, calls_give, goes_conn)

  pub conn_given : (acts : List Act) (steps : List (List Made)) (q : Progress) → Follows acts begun steps q → q.conn ≡ Some id
      → was_given id (all_noted steps) ≡ true
  conn_given acts [] q follows is = absurd (let no : None ≡ Some id = ap (λ (p : Progress). p.conn) follows ∙ is in cc)
  conn_given acts (ms ∷ steps) q follows is =
      step_gives follows.1 ms follows.0 (all_noted steps) (step_wait (told_in ms)) (conn_given acts steps follows.0 follows.2)
      (ap (λ (p : Progress). p.conn) (sym follows.4.1) ∙ is)

-- An app closes its own connection.
abbrev is_close : ℕ → GuestCall → Bool
is_close id (call.Close n) = id == n
is_close id c = false

closes_it : (id : ℕ) (c : GuestCall) (reply : ReplyTo c) → names id (closed_by c reply) ≡ true → is_close id c ≡ true
closes_it id c reply is = grind (arith, common_steps)

-- A test that holds of none of an instruction's calls but one.
module _ (test : GuestCall → Bool) (p : Progress) (sends : (bytes : List ℕ) → test (call.Send (id_of p) bytes) ≡ false)
    (recvs : (n : ℕ) → test (call.Recv (id_of p) n) ≡ false) (looks : test (call.LookAt (id_of p)) ≡ false)
    (connects : (port : ℕ) → test (call.Connect port) ≡ false) (accepts : (port : ℕ) → test (call.Accept port) ≡ false)
    (shuts : (bits : ℕ) → test (call.Shutdown (id_of p) bits) ≡ false) (grows : (n : ℕ) → test (call.Grow (id_of p) n) ≡ false) where
  pub only : (act : Act) → list_any test (calls_next act p) ≡ true
      → ((port : ℕ) × (act ≡ Listen port) × (test (call.Listen port) ≡ true)) ⊎ ((act ≡ Close) × (test (call.Close (id_of p)) ≡ true))
  only act is = grind (arith, common_steps)

-- So an id that an app closed, it was given.
pub closed_given : (id : ℕ) → 1 ≤ id → (acts : List Act) (steps : List (List Made)) (q : Progress) → Follows acts begun steps q
    → was_closed id (all_noted steps) ≡ true → was_given id (all_noted steps) ≡ true
closed_given id some acts [] q follows is = absurd cc
closed_given id some acts (ms ∷ steps) q follows is =
    by (did_one closed_by id (is_close id) (closes_it id) ms (all_noted steps) is) (closed_given id some acts steps follows.0 follows.2)
  where
    conn_of : (o : Option ℕ) → id ≡ unwrap_or o 0 → o ≡ Some id
    conn_of None same = absurd (omega (arith, some, same))
    conn_of (Some n) same = ap (λ (m : ℕ). let o : Option ℕ = Some m in o) (sym same)

    own : ((port : ℕ) × (follows.1 ≡ Listen port) × (false ≡ true)) ⊎ ((follows.1 ≡ Close) × ((id == id_of follows.0) ≡ true))
        → was_given id (all_noted steps) ≡ true
    own (inl none) = absurd (let both = none.2 in cc)
    own (inr is_it) = conn_given id acts steps follows.0 follows.2 (conn_of follows.0.conn (eqb-true id (id_of follows.0) is_it.1))

    by : (was_closed id (all_noted steps) ≡ true) ⊎ (list_any (is_close id) (calls_in ms) ≡ true)
        → (was_closed id (all_noted steps) ≡ true → was_given id (all_noted steps) ≡ true) → was_given id (with_noted ms (all_noted steps)) ≡ true
    by (inl older) rest = still_did given_by id ms (all_noted steps) (rest older)
    by (inr now) rest =
        still_did given_by id ms (all_noted steps)
        (own (only (is_close id) follows.0 (λ bytes. refl) (λ n. refl) refl (λ port. refl) (λ port. refl) (λ bits. refl) (λ n. refl) follows.1
        (ap (λ (cs : List GuestCall). list_any (is_close id) cs) (sym follows.4.0) ∙ now)))

-- It listens where its instructions say.
abbrev is_listen : ℕ → GuestCall → Bool
is_listen port (call.Listen n) = port == n
is_listen port c = false

listens_there : (port : ℕ) (c : GuestCall) (reply : ReplyTo c) → names port (listened_by c reply) ≡ true → is_listen port c ≡ true
listens_there port c reply is = grind (arith, common_steps)

pub listened_there : (port : ℕ) (acts : List Act) (steps : List (List Made)) (q : Progress) → Follows acts begun steps q
    → was_listened port (all_noted steps) ≡ true → (i : ℕ) × (slice_get acts i ≡ Some (Listen port))
listened_there port acts [] q follows is = absurd cc
listened_there port acts (ms ∷ steps) q follows is =
    by (did_one listened_by port (is_listen port) (listens_there port) ms (all_noted steps) is) (listened_there port acts steps follows.0 follows.2)
  where
    own : ((n : ℕ) × (follows.1 ≡ Listen n) × ((port == n) ≡ true)) ⊎ ((follows.1 ≡ Close) × (false ≡ true)) → (i : ℕ) × (slice_get acts i ≡ Some (Listen port))
    own (inl it) = (
      follows.0.at,
      follows.3 ∙ ap (λ (a : Act). let o : Option Act = Some a in o) it.1 ∙ ap (λ (n : ℕ). let o : Option Act = Some (Listen n) in o) (sym (eqb-true port it.0 it.2)),
    )
    own (inr none) = absurd (let both = none.1 in cc)

    by : (was_listened port (all_noted steps) ≡ true) ⊎ (list_any (is_listen port) (calls_in ms) ≡ true)
        → (was_listened port (all_noted steps) ≡ true → (i : ℕ) × (slice_get acts i ≡ Some (Listen port))) → (i : ℕ) × (slice_get acts i ≡ Some (Listen port))
    by (inl older) rest = rest older
    by (inr now) rest =
        own (only (is_listen port) follows.0 (λ bytes. refl) (λ n. refl) refl (λ n. refl) (λ n. refl) (λ bits. refl) (λ n. refl) follows.1
        (ap (λ (cs : List GuestCall). list_any (is_listen port) cs) (sym follows.4.0) ∙ now))
