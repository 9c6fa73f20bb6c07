-- What a journal tells of the calls by which an app moved bytes: what a reply tells is what was moved.
use Rattle.std.proofs.lemmas.Grind.{common_steps}
use Rattle.std.proofs.Common.{◌≡◌, ◌⊎◌, inl, inr, ℕ, ◌+◌, ◌≤◌, ◌==◌, ◌||◌, ◌&&◌, not, nat_lt, Bool, true, false, cond, List, [], ◌∷◌, ◌++◌, Option, Some, None}
use Rattle.std.proofs.Common.{append_assoc, append-nil, length, length-append, length-drop, drop, length-take, slice_get, refl, sym, ap, subst, ◌∙◌, arith}
use Rattle.std.{proofs.lemmas.{Bool.{Decides.nat_tests, and_parts, eq-eqb, eqb-true}, Option.same_Some}, specs.List.list_any}
use Rattle.vs_script.specs.App.{Act, Drain}
use Rattle.vs_driver_parts.specs.{Connections.got_count, State.{DriverConnection, DriverEntry}, declared.answers.{Received.Received, Sent.Sent}}
use Rattle.laws_driver.specs.Carried.Calls.{GuestCall, Journal, Made, ReplyTo, bytes_received, bytes_sent, names, received_by}
use Rattle.vs_apps_parts.specs.{Scripts.{Follows, RunScript, after_step, all_noted, begun, calls_in, calls_next, id_of, more, told_in, with_noted}, Journals.{AllStandIn, calls_of}}
use Rattle.vs_apps_parts.specs.{Journals.{calls_of_app, ends_at, id_in, made_by, made_of, sent_as}, Told.{told_by, told_of, wait_of, told_recv, told_send}}
use Rattle.vs_apps_parts.specs.declared.{journal.{Called.Called, Deed.Deed, Entry.Entry, WaitsFor.WaitsFor}, progress.{Progress.Progress, TheConstants.SLICE}, told.Told.Told}
use Rattle.laws_apps.specs.Traces.{AllTell, AtId, IsDrained, IsStopped, TellsOf, id_told, is_shut, shuts}
use Rattle.laws_run.proofs.Bounding.{is_send, is_recv, is_move, sent_told, got_told, sending, tally, AreFree, follows_went, no_received, ArePlain, at_parts}
use Rattle.laws_run.specs.Bounds.{calls_of_others, done_at, done_by, early, is_at, is_cut, is_drain, is_over, receives_on, sends_on, was_over, went}
use Rattle.vs_driver_parts.specs.declared.answers.Received.TheVariants as got
use Rattle.laws_driver.specs.Carried.Calls as call
use Rattle.vs_apps_parts.specs.declared.journal.Called.TheVariants as called
use Rattle.vs_apps_parts.specs.declared.journal.Deed.TheVariants as deed
use Rattle.vs_apps_parts.specs.declared.told.Told.TheVariants as says

-- What stands in a journal, and in an app's part of it.
shut_after : (id : ℕ) (ms journal : Journal) → is_shut id (ms ++ journal) ≡ (is_shut id ms || is_shut id journal)
shut_after id [] journal = refl
shut_after id (m ∷ ms) journal = by (shuts m.call id) (shut_after id ms journal)
  where
    by : (b : Bool) → is_shut id (ms ++ journal) ≡ (is_shut id ms || is_shut id journal)
        → (b || is_shut id (ms ++ journal)) ≡ ((b || is_shut id ms) || is_shut id journal)
    by true rest = refl
    by false rest = rest

tally_after : (tell : Told → ℕ) (id : ℕ) (ms journal : Journal) → tally tell id (ms ++ journal) ≡ tally tell id ms + tally tell id journal
tally_after tell id [] journal = omega arith
tally_after tell id (m ∷ ms) journal = let rest = tally_after tell id ms journal in omega (arith, rest)

plain_made : (script : RunScript) (bytes : List ℕ) (k : ℕ) (c : Called) → let m : Made = made_of script bytes k c in m.id ≡ id_in m.call
plain_made script bytes k c = grind (arith, common_steps)

both_false : (a b : Bool) → (a || b) ≡ false → (a ≡ false) × (b ≡ false)
both_false true b is = absurd cc
both_false false b is = (refl, is)

plain_after : (ms journal : Journal) → ArePlain ms → ArePlain journal → ArePlain (ms ++ journal)
plain_after [] journal one two = two
plain_after (m ∷ ms) journal one two = (one.0, plain_after ms journal one.1 two)

made_plain : (script : RunScript) (bytes : List ℕ) (k : ℕ) (d : Deed) → ArePlain (elim d as (λ _. Journal) [ deed.Called c ↦ made_of script bytes k c ∷ [] | deed.Waited times why ↦ [] ])
made_plain script bytes k (deed.Called c) = (plain_made script bytes k c, tt)
made_plain script bytes k (deed.Waited times why) = tt

pub all_plain : (script : RunScript) (bytes : List ℕ) (es : List Entry) → ArePlain (calls_of script bytes es)
all_plain script bytes [] = tt
all_plain script bytes (e ∷ es) = plain_after (calls_of script bytes es) (made_by script bytes e) (all_plain script bytes es) (made_plain script bytes e.app e.deed)

module _ (script : RunScript) (bytes : List ℕ) (k : ℕ) where
  -- An entry more of the others', which shut no id.
  others_apart : (id : ℕ) (e : Entry) (es : List Entry) → is_shut id (calls_of_others k script bytes (e ∷ es)) ≡ false
      → (is_shut id (calls_of_others k script bytes es) ≡ false) × (is_shut id (cond (e.app == k) [] (made_by script bytes e)) ≡ false)
  others_apart id e es apart = both_false _ _ (sym (shut_after id (calls_of_others k script bytes es) (cond (e.app == k) [] (made_by script bytes e))) ∙ apart)

  next_same : (id : ℕ) (e : Entry) (older own : Journal) → is_shut id older ≡ is_shut id own → (b : Bool) → is_shut id (cond b [] (made_by script bytes e)) ≡ false
      → is_shut id (made_by script bytes e ++ older) ≡ is_shut id (cond b (made_by script bytes e) [] ++ own)
  next_same id e older own same b none = grind (arith, common_steps, shut_after)

  pub app_plain : (es : List Entry) → ArePlain (calls_of_app k script bytes es)
  app_plain [] = tt
  app_plain (e ∷ es) = plain_after (calls_of_app k script bytes es) (cond (e.app == k) (made_by script bytes e) []) (app_plain es) (by (e.app == k))
    where
      by : (b : Bool) → ArePlain (cond b (made_by script bytes e) [])
      by true = made_plain script bytes e.app e.deed
      by false = tt

  pub app_less : (tell : Told → ℕ) (id : ℕ) (es : List Entry) → tally tell id (calls_of_app k script bytes es) ≤ tally tell id (calls_of script bytes es)
  app_less tell id [] = omega arith
  app_less tell id (e ∷ es) =
      let rest = app_less tell id es in
      let one = tally_after tell id (calls_of_app k script bytes es) (cond (e.app == k) (made_by script bytes e) []) in
      let two = tally_after tell id (calls_of script bytes es) (made_by script bytes e) in
      let own = by (e.app == k) in omega (arith, rest, one, two, own)
    where
      by : (b : Bool) → tally tell id (cond b (made_by script bytes e) []) ≤ tally tell id (made_by script bytes e)
      by true = omega arith
      by false = omega arith

  -- None of an app's calls ended early, where none of the whole journal's did, and no other app shut the connection.
  module _ (of : GuestCall → Bool) (id : ℕ) where
    free_last : (ms journal : Journal) → AreFree of id (ms ++ journal) → AreFree of id journal
    free_last [] journal free = free
    free_last (m ∷ ms) journal free = free_last ms journal free.1

    free_from : (es : List Entry) (older own : Journal) → AreFree of id (calls_of script bytes es ++ older)
        → is_shut id (calls_of_others k script bytes es) ≡ false → is_shut id older ≡ is_shut id own → AreFree of id own
        → AreFree of id (calls_of_app k script bytes es ++ own)
    free_from [] older own all apart same free = free
    free_from (e ∷ es) older own all apart same free =
        subst (AreFree of id) (sym (append_assoc (calls_of_app k script bytes es) (cond (e.app == k) (made_by script bytes e) []) own))
        (free_from es (made_by script bytes e ++ older) (cond (e.app == k) (made_by script bytes e) [] ++ own) all_then parts.0
        (next_same id e older own same (e.app == k) parts.1) (next_free (e.app == k) e.deed (free_last (calls_of script bytes es) (made_by script bytes e ++ older) all_then)))
      where
        all_then : AreFree of id (calls_of script bytes es ++ (made_by script bytes e ++ older))
        all_then = subst (AreFree of id) (append_assoc (calls_of script bytes es) (made_by script bytes e) older) all

        parts : (is_shut id (calls_of_others k script bytes es) ≡ false) × (is_shut id (cond (e.app == k) [] (made_by script bytes e)) ≡ false)
        parts = others_apart id e es apart

        next_free : (b : Bool) (d : Deed)
            → AreFree of id (elim d as (λ _. Journal) [ deed.Called c ↦ made_of script bytes e.app c ∷ [] | deed.Waited times why ↦ [] ] ++ older)
            → AreFree of id (cond b (elim d as (λ _. Journal) [ deed.Called c ↦ made_of script bytes e.app c ∷ [] | deed.Waited times why ↦ [] ]) [] ++ own)
        next_free false d all = free
        next_free true (deed.Waited times why) all = free
        next_free true (deed.Called c) all = ((λ is at ends. sym same ∙ all.0 is at ends), free)

    pub app_free : (es : List Entry) → AreFree of id (calls_of script bytes es) → is_shut id (calls_of_others k script bytes es) ≡ false
        → AreFree of id (calls_of_app k script bytes es)
    app_free es free apart = subst (AreFree of id) (append-nil (calls_of_app k script bytes es))
        (free_from es [] [] (subst (AreFree of id) (sym (append-nil (calls_of script bytes es))) free) apart refl tt)

or_case : (a b : Bool) (P : Type 0) → (a || b) ≡ true → (a ≡ true → P) → (b ≡ true → P) → P
or_case true b P is one two = one refl
or_case false b P is one two = two is

or_goes : (a b c d : Bool) → (a ≡ true → c ≡ true) → (b ≡ true → d ≡ true) → (a || b) ≡ true → (c || d) ≡ true
or_goes a b c d one two is = grind (arith, common_steps)

-- Where no send, or no receive, on an id was over before a call shut the id, none was but behind one.
module _ (id : ℕ) where
  not_over : (a b c d : Bool) → ((a && (b && not c)) || d) ≡ false → a ≡ true → b ≡ true → c ≡ true
  not_over a b c d none one two = grind (arith, common_steps)

  free_of : (of on : GuestCall → Bool) → ((c : GuestCall) → of c ≡ true → id_in c ≡ Some id → on c ≡ true) → (js : Journal) → ArePlain js
      → was_over on id js ≡ false → AreFree of id js
  free_of of on here [] plain none = tt
  free_of of on here (m ∷ older) plain none = (
    λ is at ends. not_over (on m.call) (is_over (told_of m)) (is_shut id older) (was_over on id older) none (here m.call is (sym plain.0 ∙ at)) (ap (λ (t : Told). is_over t) ends),
    free_of of on here older plain.1 (both_false (on m.call && (is_over (told_of m) && not (is_shut id older))) (was_over on id older) none).1,
  )

  on_send : (c : GuestCall) → is_send c ≡ true → id_in c ≡ Some id → sends_on id c ≡ true
  on_send (call.Send other bytes) is at = eq-eqb other id (same_Some other id at)
  on_send _ is at = absurd cc

  on_recv : (c : GuestCall) → is_recv c ≡ true → id_in c ≡ Some id → receives_on id c ≡ true
  on_recv (call.Recv other n) is at = eq-eqb other id (same_Some other id at)
  on_recv _ is at = absurd cc

  pub free_sends : (js : Journal) → ArePlain js → is_cut id js ≡ false → AreFree is_send id js
  free_sends js plain none = free_of is_send (sends_on id) on_send js plain none

  pub free_moves : (js : Journal) → ArePlain js → is_cut id js ≡ false → early id js ≡ false → AreFree is_move id js
  free_moves js plain uncut none = both js (free_sends js plain uncut) (free_of is_recv (receives_on id) on_recv js plain none)
    where
      either : (c : GuestCall) (P : Type 0) → is_move c ≡ true → (is_send c ≡ true → P) → (is_recv c ≡ true → P) → P
      either (call.Send other bytes) P is one two = one refl
      either (call.Recv other n) P is one two = two refl
      either _ P is one two = absurd cc

      both : (js : Journal) → AreFree is_send id js → AreFree is_recv id js → AreFree is_move id js
      both [] one two = tt
      both (m ∷ older) one two =
          (λ is at ends. either m.call (is_shut id older ≡ true) is (λ sends. one.0 sends at ends) (λ gets. two.0 gets at ends), both older one.1 two.1)

  -- One that was over so found it so.
  module _ (next : ℕ) (ds : List DriverEntry) where
    found_over : (on : GuestCall → Bool) (P : DriverConnection → Type 0) → ((c : GuestCall) (t : Told) (older : Journal) → TellsOf c t older next ds → on c ≡ true
        → is_over t ≡ true → (is_shut id older ≡ true) ⊎ AtId P id next ds) → (js : Journal) → AllTell js next ds → was_over on id js ≡ true → AtId P id next ds
    found_over on P tells [] tell over = absurd cc
    found_over on P tells (m ∷ older) tell over =
        or_case (on m.call && (is_over (told_of m) && not (is_shut id older))) (was_over on id older) (AtId P id next ds) over (λ now.
        let one = and_parts (on m.call) (is_over (told_of m) && not (is_shut id older)) now in
        let two = and_parts (is_over (told_of m)) (not (is_shut id older)) one.1 in of (tells m.call (told_of m) older tell.0 one.0 two.0) two.1)
        (λ before. found_over on P tells older tell.1 before)
      where
        of : (is_shut id older ≡ true) ⊎ AtId P id next ds → not (is_shut id older) ≡ true → AtId P id next ds
        of (inl shut) free = absurd (let no : true ≡ false = sym free ∙ ap (λ (b : Bool). not b) shut in cc)
        of (inr at) free = at

    send_tells : (c : GuestCall) (t : Told) (older : Journal) → TellsOf c t older next ds → sends_on id c ≡ true → is_over t ≡ true
        → (is_shut id older ≡ true) ⊎ AtId IsStopped id next ds
    send_tells (call.Send other bytes) says.Ends older tells on over =
        subst (λ (i : ℕ). (is_shut i older ≡ true) ⊎ AtId IsStopped i next ds) (eqb-true other id on) (tells.0 refl)
    send_tells (call.Send other bytes) t older tells on over = absurd cc
    send_tells c t older tells on over = absurd cc

    recv_tells : (c : GuestCall) (t : Told) (older : Journal) → TellsOf c t older next ds → receives_on id c ≡ true → is_over t ≡ true
        → (is_shut id older ≡ true) ⊎ AtId IsDrained id next ds
    recv_tells (call.Recv other n) says.Ends older tells on over =
        subst (λ (i : ℕ). (is_shut i older ≡ true) ⊎ AtId IsDrained i next ds) (eqb-true other id on) (tells refl)
    recv_tells (call.Recv other n) t older tells on over = absurd cc
    recv_tells c t older tells on over = absurd cc

    pub stopped : (js : Journal) → AllTell js next ds → is_cut id js ≡ true → AtId IsStopped id next ds
    stopped = found_over (sends_on id) IsStopped send_tells

    pub drained : (js : Journal) → AllTell js next ds → early id js ≡ true → AtId IsDrained id next ds
    drained = found_over (receives_on id) IsDrained recv_tells

-- What a reply tells is what was moved.
none_took : (c : GuestCall) (reply : ReplyTo c) → is_send c ≡ false → sent_told (told_by c reply) ≡ 0
none_took c reply is = grind (arith, common_steps)

took_so : (bytes : List ℕ) (id : ℕ) (r : Sent) → ((n : ℕ) → told_send r ≡ says.Took n → n ≤ length bytes)
    → sent_told (told_send r) ≤ length (bytes_sent (call.Send id bytes) r)
took_so bytes id r few = grind (arith, common_steps)

pub sent_enough : (id next : ℕ) (ds : List DriverEntry) (js : Journal) → AllTell js next ds → tally sent_told id js ≤ length (sent_as id js)
sent_enough id next ds [] tell = omega arith
sent_enough id next ds (m ∷ older) tell =
    let rest = sent_enough id next ds older tell.1 in
    let both = length-append (sent_as id older) (cond (names id m.id) (bytes_sent m.call m.reply) []) in
    let one = named (names id m.id) in omega (arith, rest, both, one)
  where
    of : (c : GuestCall) (reply : ReplyTo c) → TellsOf c (told_by c reply) older next ds → sent_told (told_by c reply) ≤ length (bytes_sent c reply)
    of (call.Send other bytes) reply tells = took_so bytes other reply tells.1
    of c reply tells = let none = none_took c reply refl in omega (arith, none)

    named : (b : Bool) → cond b (sent_told (told_of m)) 0 ≤ length (cond b (bytes_sent m.call m.reply) [])
    named true = of m.call m.reply tell.0
    named false = omega arith

got_so : (r : Received) → got_told (told_recv r) ≤ got_count r
got_so r = grind (arith, common_steps)

none_got : (c : GuestCall) (reply : ReplyTo c) → (c ≡ c) → is_recv c ≡ false → got_told (told_by c reply) ≡ 0
none_got c reply same is = grind (arith, common_steps)

received_after : (id : ℕ) (ms journal : Journal) → length (received_by id (ms ++ journal)) ≡ length (received_by id journal) + length (received_by id ms)
received_after id [] journal = omega arith
received_after id (m ∷ ms) journal =
    let rest = received_after id ms journal in
    let one = length-append (received_by id (ms ++ journal)) (cond (names id m.id) (bytes_received m.call m.reply) []) in
    let two = length-append (received_by id ms) (cond (names id m.id) (bytes_received m.call m.reply) []) in omega (arith, rest, one, two)

pub received_enough : (script : RunScript) (bytes : List ℕ) (id : ℕ) (es : List Entry) → AllStandIn (length bytes) es
    → tally got_told id (calls_of script bytes es) ≤ length (received_by id (calls_of script bytes es))
received_enough script bytes id [] stand = omega arith
received_enough script bytes id (e ∷ es) stand =
    let rest = received_enough script bytes id es stand.1 in
    let one = tally_after got_told id (calls_of script bytes es) (made_by script bytes e) in
    let two = received_after id (calls_of script bytes es) (made_by script bytes e) in
    let own = by e.deed stand.0 in omega (arith, rest, one, two, own)
  where
    of : (c : Called) → ends_at c ≤ length bytes → (let m : Made = made_of script bytes e.app c in got_told (told_of m) ≤ length (bytes_received m.call m.reply))
    of (called.Recv other len from answer) within =
        let most = got_so answer in
        let taken = length-take (got_count answer) (drop from bytes) in
        let rest = length-drop from bytes in omega (arith, within, most, taken, rest)
    of (called.Connect port answer flow) within = let none = none_got (call.Connect port) answer refl refl in omega (arith, none)
    of (called.Listen port answer) within = omega arith
    of (called.Accept port answer flow) within = let none = none_got (call.Accept port) answer refl refl in omega (arith, none)
    of (called.Send other at from len answer) within = let none = none_got (call.Send other []) answer refl refl in omega (arith, none)
    of (called.Shutdown other bits answer) within = omega arith
    of (called.Grow other alloc answer) within = omega arith
    of (called.Close other answer) within = omega arith
    of (called.LookAt other answer) within = let none = none_got (call.LookAt other) answer refl refl in omega (arith, none)

    by : (d : Deed) → elim d as (λ _. Type 0) [ deed.Called c ↦ ends_at c ≤ length bytes | deed.Waited times why ↦ Unit {0} ]
        → (let ms : Journal = elim d [ deed.Called c ↦ made_of script bytes e.app c ∷ [] | deed.Waited times why ↦ [] ] in tally got_told id ms ≤ length (received_by id ms))
    by (deed.Waited times why) stands = omega arith
    by (deed.Called c) stands = named (names id (made_of script bytes e.app c).id)
      where
        named : (b : Bool) → cond b (got_told (told_of (made_of script bytes e.app c))) 0 + 0
            ≤ length (cond b (bytes_received (made_of script bytes e.app c).call (made_of script bytes e.app c).reply) [])
        named true = let is = of c stands in omega (arith, is)
        named false = omega arith

-- A drain that is done came to the end.
any_after : (xs ys : List Act) → list_any is_drain (xs ++ ys) ≡ (list_any is_drain xs || list_any is_drain ys)
any_after xs ys = grind (arith, common_steps)

module _ (script : RunScript) (bytes : List ℕ) (k id : ℕ) where
  early_from : (es : List Entry) (older own : Journal) → is_shut id (calls_of_others k script bytes es) ≡ false → is_shut id older ≡ is_shut id own
      → (early id own ≡ true → early id older ≡ true) → early id (calls_of_app k script bytes es ++ own) ≡ true → early id (calls_of script bytes es ++ older) ≡ true
  early_from [] older own apart same goes is = goes is
  early_from (e ∷ es) older own apart same goes is =
      subst (λ (js : Journal). early id js ≡ true) (sym (append_assoc (calls_of script bytes es) (made_by script bytes e) older))
      (early_from es (made_by script bytes e ++ older) (cond (e.app == k) (made_by script bytes e) [] ++ own) parts.0
      (next_same script bytes k id e older own same (e.app == k) parts.1) (next (e.app == k) e.deed)
      (subst (λ (js : Journal). early id js ≡ true) (append_assoc (calls_of_app k script bytes es) (cond (e.app == k) (made_by script bytes e) []) own) is))
    where
      parts : (is_shut id (calls_of_others k script bytes es) ≡ false) × (is_shut id (cond (e.app == k) [] (made_by script bytes e)) ≡ false)
      parts = others_apart script bytes k id e es apart

      next : (b : Bool) (d : Deed)
          → early id (cond b (elim d as (λ _. Journal) [ deed.Called c ↦ made_of script bytes e.app c ∷ [] | deed.Waited times why ↦ [] ]) [] ++ own) ≡ true
          → early id (elim d as (λ _. Journal) [ deed.Called c ↦ made_of script bytes e.app c ∷ [] | deed.Waited times why ↦ [] ] ++ older) ≡ true
      next true (deed.Waited times why) so = goes so
      next false (deed.Waited times why) so = goes so
      next true (deed.Called c) so = let m : Made = made_of script bytes e.app c in
          or_goes (receives_on id m.call && (is_over (told_of m) && not (is_shut id own))) (early id own) _ (early id older)
          (λ now. ap (λ (b : Bool). receives_on id m.call && (is_over (told_of m) && not b)) same ∙ now) goes so
      next false (deed.Called c) so = let m : Made = made_of script bytes e.app c in
          or_goes false (early id own) (receives_on id m.call && (is_over (told_of m) && not (is_shut id older))) (early id older) (λ no. absurd cc) goes so

  pub app_early : (es : List Entry) → is_shut id (calls_of_others k script bytes es) ≡ false → early id (calls_of_app k script bytes es) ≡ true
      → early id (calls_of script bytes es) ≡ true
  app_early es apart is =
      subst (λ (js : Journal). early id js ≡ true) (append-nil (calls_of script bytes es))
      (early_from es [] [] apart refl (λ so. so) (subst (λ (js : Journal). early id js ≡ true) (sym (append-nil (calls_of_app k script bytes es))) is))

early_more : (id : ℕ) (ms : List Made) (journal : Journal) → early id journal ≡ true → early id (with_noted ms journal) ≡ true
early_more id [] journal is = is
early_more id (m ∷ ms) journal is = early_more id ms (with_noted (m ∷ []) journal) (by (wait_of (told_of m)))
  where
    second : (b : Bool) → (b || early id journal) ≡ true
    second true = refl
    second false = is

    by : (o : Option WaitsFor) → early id (elim o as (λ _. Journal) [ None ↦ m ∷ journal | Some why ↦ journal ]) ≡ true
    by None = second (receives_on id m.call && (is_over (told_of m) && not (is_shut id journal)))
    by (Some why) = is

drain_step : (id : ℕ) (act : Act) (ms : List Made) (p : Progress) (journal : Journal) → calls_in ms ≡ calls_next act p → id_of p ≡ id → is_shut id journal ≡ false
    → is_drain act ≡ true
    → nat_lt p.at (after_step act (told_in ms) p).at ≡ true → early id (with_noted ms journal) ≡ true
drain_step id Drain [] p journal calls at free drains goes = absurd cc
drain_step id Drain (m ∷ n ∷ ms) p journal calls at free drains goes = absurd cc
drain_step id Drain (m ∷ []) p journal calls at free drains goes = by m.call m.reply first refl (told_of m) refl goes
  where
    first : m.call ≡ call.Recv (id_of p) SLICE
    first = cc

    stays : nat_lt p.at p.at ≡ true → ⊥
    stays is = grind (arith, nat_tests, is)

    over : (c : GuestCall) → c ≡ call.Recv (id_of p) SLICE → receives_on id c ≡ true
    over c is = ap (λ (d : GuestCall). receives_on id d) is ∙ eq-eqb (id_of p) id at

    none : (c : GuestCall) (reply : ReplyTo c) → c ≡ call.Recv (id_of p) SLICE → id_told (told_by c reply) ≡ None
    none (call.Recv other n) reply is = no_received reply.0
    none _ reply is = absurd cc

    by : (c : GuestCall) (reply : ReplyTo c) → c ≡ call.Recv (id_of p) SLICE → told_by c reply ≡ told_of m → (t : Told) → told_of m ≡ t
        → nat_lt p.at (after_step Drain (t ∷ []) p).at ≡ true → early id (elim (wait_of (told_of m)) as (λ _. Journal) [ None ↦ m ∷ journal | Some why ↦ journal ]) ≡ true
    by c reply is same says.Ends told more =
        ap (λ (u : Told). early id (elim (wait_of u) as (λ _. Journal) [ None ↦ m ∷ journal | Some why ↦ journal ])) told
        ∙ ap (λ (u : Told). (receives_on id m.call && (is_over u && not (is_shut id journal))) || early id journal) told
        ∙ ap (λ (b : Bool). (b && not (is_shut id journal)) || early id journal) (over m.call first) ∙ ap (λ (b : Bool). not b || early id journal) free
    by c reply is same (says.Given i) told more = absurd (let no : Some i ≡ None = sym (ap id_told (same ∙ told)) ∙ none c reply is in cc)
    by c reply is same (says.Waits why) told more = absurd (stays more)
    by c reply is same (says.Asked i) told more = absurd (stays more)
    by c reply is same (says.Took n) told more = absurd (stays more)
    by c reply is same (says.Got n) told more = absurd (stays more)
drain_step id act ms p journal calls at free drains goes = absurd cc

pub drain_early : (id : ℕ) (acts : List Act) (steps : List (List Made)) (q : Progress) → Follows acts begun steps q → list_any is_drain (done_at id acts steps) ≡ true
    → early id (all_noted steps) ≡ true
drain_early id acts [] q follows is = absurd cc
drain_early id acts (ms ∷ steps) q (mid, act, follows, next, (calls, goes)) is =
    or_case _ _ _ (sym (any_after (done_at id acts steps) (cond (is_at id p old) (done_by acts ms p) [])) ∙ is)
    (λ before. early_more id ms old (drain_early id acts steps mid follows before))
    (λ now. by (is_at id p old) refl (nat_lt p.at (after_step act (told_in ms) p).at) refl (sym done ∙ now))
  where
    p : Progress
    p = went acts steps

    old : Journal
    old = all_noted steps

    is_mid : mid ≡ p
    is_mid = follows_went acts steps mid follows

    done : list_any is_drain (cond (is_at id p old) (done_by acts ms p) [])
        ≡ list_any is_drain (cond (is_at id p old) (cond (nat_lt p.at (after_step act (told_in ms) p).at) (act ∷ []) []) [])
    done = ap (λ (o : Option Act). list_any is_drain (cond (is_at id p old) (elim o as (λ _. List Act) [
      | None ↦ []
      | Some a ↦ cond (nat_lt p.at (after_step a (told_in ms) p).at) (a ∷ []) []
    ]) [])) (subst (λ (x : Progress). slice_get acts x.at ≡ Some act) is_mid next)

    by : (a : Bool) → is_at id p old ≡ a → (b : Bool) → nat_lt p.at (after_step act (told_in ms) p).at ≡ b → list_any is_drain (cond a (cond b (act ∷ []) []) []) ≡ true
        → early id (with_noted ms old) ≡ true
    by true at true more drains = drain_step id act ms p old (subst (λ (x : Progress). calls_in ms ≡ calls_next act x) is_mid calls)
        (at_parts sending id acts p old at).0 (at_parts sending id acts p old at).1 (one (is_drain act) drains) more
      where
        one : (b : Bool) → (b || false) ≡ true → b ≡ true
        one true so = refl
        one false so = so
    by true at false more drains = absurd cc
    by false at b more drains = absurd cc
