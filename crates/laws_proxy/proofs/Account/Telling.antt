-- Each call of the proxy on a host in memory: its answer may be got, and the accounts show the host after it.
use Rattle.std.proofs.lemmas.Grind.{common_steps}
use Rattle.std.proofs.Common.{◌≡◌, ℕ, ◌+◌, ◌≤◌, Bool, true, false, cond, List, ◌∷◌, ◌++◌, length, take, Option, Some, None, refl, sym, ap, subst, ◌∙◌, [], arith}
use Rattle.std.{specs.Option.{option_map, option_map_or}}
use Rattle.vs_contents.specs.{CallTree.{Done, Ask, Leads}, Contents.Exposes}
use Rattle.vs_flow.specs.{declared.flow.Flow.Flow, Table.Table}
use Rattle.vs_outside.specs.Host.{HostContents, Stream, accept_answer, after_accept, after_close, after_dial, after_failed, after_label, after_read, after_shut_write, after_write}
use Rattle.vs_outside.specs.Host.{called, dial_answer, dialed_stream, give_bytes, take_bytes, waits, IsDialed, IsWritten, with_label_call}
use Rattle.vs_outside.specs.{Host.with_shut_write_call, declared.host_net.{Accepted.Accepted, Dialed.Dialed, StreamRead.StreamRead, StreamWrite.StreamWrite}}
use Rattle.vs_outside.proofs.Frames.{accepts_waiting}
use Rattle.vs_ring_port.specs.Contents.{DeviceAnswer, DeviceCall}
use Rattle.vs_device_parts.specs.Calls.{Answer, Call, DeviceTree, Ring, Accept, Dial, Label, ReadStream, WriteStream, ShutWrite, CloseStream, Allows, IsReadOf, Situation}
use Rattle.vs_device_parts.specs.{Calls.TakesWithin, Playing.Runs, State.DeviceConnection}
use Rattle.laws_proxy.specs.Account.{Made.{Account, Made, MayGet, account_of, labelled, made, new_account, shut, with_given, took, with_taken}}
use Rattle.laws_proxy.{specs.Account.{Tied.{IsWhole, reading_account, AgreesWith}, Told.{AreAccounted, Shows, ShowsAt, ShowsIn, StayAccounted}}, proofs.Account.Shown.change_shows}
use Rattle.laws_proxy.proofs.Account.{Shown.{new_shows, none_there, read_same, unseen_shows}, Accounts.{Changes, changes, changing, comes, differs}}
use Rattle.laws_proxy.proofs.Account.{Accounts.self_is, Carrying.carries, Keeping.{Asks, Keeps, keeps_answer}}
use Rattle.vs_proxy_parts.specs.State.{Handshake}
use Rattle.vs_outside.specs.declared.host_net.Accepted.TheVariants as accepted
use Rattle.vs_outside.specs.declared.host_net.Dialed.TheVariants as dialed
use Rattle.vs_outside.specs.declared.host_net.StreamRead.TheVariants as read
use Rattle.vs_outside.specs.declared.host_net.StreamState.TheVariants as state
use Rattle.vs_outside.specs.declared.host_net.StreamWrite.TheVariants as write

-- A call that failed.
failed_shows : (c : HostContents) (at : ℕ → Option Account) → Shows at c → Shows at (after_failed c)
failed_shows c at shows = grind (arith, common_steps)

unknown : (st : Stream) (o : Option Account) → waits st.state ≡ true → ShowsIn st o → o ≡ None
unknown st None waiting shows = refl
unknown st (Some a) waiting shows = let both : true ≡ false = sym waiting ∙ shows.0 in absurd cc

dialed_id : (path : List ℕ) (id : ℕ) (c : HostContents) → dial_answer path c ≡ dialed.Stream id → id ≡ length c.streams + 1
dialed_id path id c is = grind (arith, common_steps)

-- Bytes that were taken of a stream.
took_shows : (o : Option Flow) (k : ℕ) (bytes : List ℕ) (st : Stream) (x : Account) → bytes ≡ take k st.untaken → x.label ≡ o
    → ShowsIn st (Some x) → ShowsIn (take_bytes k st) (Some (took o bytes x))
took_shows o k bytes st x got label in_it = grind (arith, common_steps)

module _ (c : HostContents) (calls : List Made) (shows : Shows (account_of calls) c) where
  -- What a call's answer may be, and what holds after it.
  abbrev pub Shown : (call : Call) → Answer call → HostContents → Type 0
  Shown call answer after = MayGet call answer calls × Shows (account_of (made call answer ∷ calls)) after

  pub accept_shows : (a : Accepted) → accept_answer c ≡ a → Shown Accept a (after_accept a c)
  accept_shows accepted.None is = (tt, shows)
  accept_shows accepted.Failed is = (tt, shows)
  accept_shows (accepted.Stream id) is =
      let w = accepts_waiting id c is in
      let there : ShowsIn w.0 (account_of calls id) = subst (λ (o : Option Stream). ShowsAt o (account_of calls id)) w.1 (shows id) in
      let none : account_of calls id ≡ None = unknown w.0 (account_of calls id) (ap waits w.2) there in
      let now : ℕ → Option Account = account_of (made Accept (accepted.Stream id) ∷ calls) in
      let ch : Changes (account_of calls) now id (new_account None true) = comes (new_account None true) id (account_of calls) in (
        none,
        change_shows id (λ s. record s { state = state.Open }) (called c) (account_of calls) now shows ch.others
            (λ gone was. let both : Some w.0 ≡ None = sym w.1 ∙ gone in absurd cc)
            (λ st at in_it.
            let s : ShowsIn st None = subst (ShowsIn st) none in_it in
            subst (ShowsIn (record st { state = state.Open })) (sym ch.here)
            (refl, s.0, s.1, s.2, s.3, refl)),
      )

  pub dial_shows : (path : List ℕ) (flow : Flow) (a : Dialed) → IsDialed path a c → Shown (Dial path flow) a (after_dial flow a c)
  dial_shows path flow dialed.Refused is = (tt, shows)
  dial_shows path flow dialed.Failed is = (tt, failed_shows c (account_of calls) shows)
  dial_shows path flow (dialed.Stream id) is =
      let place : id ≡ length c.streams + 1 = dialed_id path id c (sym is) in
      let none : account_of calls (length c.streams + 1) ≡ None =
      subst (λ (o : Option Stream). ShowsAt o (account_of calls (length c.streams + 1))) (none_there (dialed_stream flow c.prepared) c)
      (shows (length c.streams + 1)) in
      let now : ℕ → Option Account = account_of (made (Dial path flow) (dialed.Stream id) ∷ calls) in
      let ch : Changes (account_of calls) now id (new_account (Some flow) false) = comes (new_account (Some flow) false) id
      (account_of calls) in (
        ap (account_of calls) place ∙ none,
        new_shows (dialed_stream flow c.prepared) c (account_of calls) now shows
            (subst (ShowsIn (dialed_stream flow c.prepared)) (sym ch.here ∙ ap now place)
            (refl, refl, refl, refl, refl, refl))
            (λ j other. ch.others j (λ same. other (same ∙ place))),
      )

  pub label_shows : (stream : ℕ) (flow : Flow) (answer : Unit {0})
      → (line : List ℕ) × (account_of calls stream ≡ Some (reading_account line)) × IsWhole line
      → Shown (Label stream flow) answer (after_label stream flow c)
  label_shows stream flow answer (line, is, whole) =
      let a : Account = reading_account line in
      let now : ℕ → Option Account = account_of (made (Label stream flow) answer ∷ calls) in
      let ch : Changes (account_of calls) now stream (labelled flow a) = changes (labelled flow) stream (account_of calls) a is in (
        tt,
        change_shows stream (λ s. record s { label = Some flow }) (with_label_call stream c) (account_of calls) now shows ch.others
            (λ gone was. let both : Some a ≡ None = sym is ∙ was in absurd cc)
            (λ st at in_it.
            let s : ShowsIn st (Some a) = subst (ShowsIn st) is in_it in
            subst (ShowsIn (record st { label = Some flow })) (sym ch.here) (
              s.0,
              s.1,
              refl,
              s.3,
              s.4,
              whole,
            )),
      )

  pub read_shows : (stream n : ℕ) (a : StreamRead) (bytes : List ℕ) → IsReadOf stream n (a, bytes) c → length bytes ≤ n
      → (x : Account) × (account_of calls stream ≡ Some x) → Shown (ReadStream stream n) (a, bytes) (after_read stream a c)
  read_shows stream n (read.Got k) bytes is few (x, known) =
      let now : ℕ → Option Account = account_of (made (ReadStream stream n) (read.Got k, bytes) ∷ calls) in
      let ch : Changes (account_of calls) now stream (with_taken bytes x) = changes (with_taken bytes) stream (account_of calls) x known in (
        few,
        change_shows stream (take_bytes k) (called c) (account_of calls) now shows ch.others
            (λ gone was. let both : Some x ≡ None = sym known ∙ was in absurd cc)
            (λ st at in_it.
            let got : take k st.untaken ≡ bytes =
            ap (λ (o : Option Stream). option_map_or (λ (s : Stream). take k s.untaken) o []) (sym at) ∙ sym is.1 in
            subst (ShowsIn (take_bytes k st)) (sym ch.here)
            (subst (λ (b : List ℕ). ShowsIn (take_bytes k st) (Some (with_taken b x))) got
            (took_shows x.label k (take k st.untaken) st x refl refl (subst (ShowsIn st) known in_it)))),
      )
  read_shows stream n _ bytes is few known = (tt, shows)

  pub write_shows : (stream : ℕ) (bytes : List ℕ) (a : StreamWrite) → TakesWithin (length bytes) a
      → (x : Account) × (account_of calls stream ≡ Some x) → Shown (WriteStream stream bytes) a (after_write stream bytes a c)
  write_shows stream bytes (write.Took n) is (x, known) =
      let now : ℕ → Option Account = account_of (made (WriteStream stream bytes) (write.Took n) ∷ calls) in
      let ch : Changes (account_of calls) now stream (with_given (take n bytes) x) =
      changes (with_given (take n bytes)) stream (account_of calls) x known in (
        is,
        change_shows stream (give_bytes n bytes) (called c) (account_of calls) now shows ch.others
            (λ gone was. let both : Some x ≡ None = sym known ∙ was in absurd cc)
            (λ st at in_it.
            let s : ShowsIn st (Some x) = subst (ShowsIn st) known in_it in
            subst (ShowsIn (give_bytes n bytes st)) (sym ch.here) (
              s.0,
              s.1,
              s.2,
              ap (λ (given : List ℕ). given ++ take n bytes) s.3,
              s.4,
              read_same x.label x (with_given (take n bytes) x) refl refl refl s.5,
            )),
      )
  write_shows stream bytes write.Failed is known = (tt, failed_shows c (account_of calls) shows)
  write_shows stream bytes _ is known = (tt, shows)

  pub shut_shows : (stream : ℕ) → Shows (account_of calls) (after_shut_write stream c)
  shut_shows stream =
      unseen_shows stream (λ s. record s { write_shut = true }) (with_shut_write_call c) (account_of calls) shows (λ st o in_it. by st o in_it)
    where
      by : (st : Stream) (o : Option Account) → ShowsIn st o → ShowsIn (record st { write_shut = true }) o
      by st None in_it = in_it
      by st (Some a) in_it = in_it

  pub close_shows : (stream : ℕ) (answer : Unit {0}) → Shown (CloseStream stream) answer (after_close stream c)
  close_shows stream answer = (
    tt,
    change_shows stream (λ s. record s { state = state.Closed }) c (account_of calls) (changing shut stream (account_of calls)) shows
        (λ id other. ap (λ (b : Bool). cond b (option_map shut (account_of calls id)) (account_of calls id)) (differs id stream other))
        (λ gone was. here ∙ ap (option_map shut) was)
        (λ st at in_it. subst (ShowsIn (record st { state = state.Closed })) (sym here) (by st (account_of calls stream) in_it)),
  )
    where
      here : changing shut stream (account_of calls) stream ≡ option_map shut (account_of calls stream)
      here = ap (λ (b : Bool). cond b (option_map shut (account_of calls stream)) (account_of calls stream)) (self_is stream)

      by : (st : Stream) (o : Option Account) → ShowsIn st o → ShowsIn (record st { state = state.Closed }) (option_map shut o)
      by st None in_it = in_it
      by st (Some a) in_it = (refl, in_it.1, in_it.2, in_it.3, in_it.4, read_same a.label a (shut a) refl refl refl in_it.5)

-- Calls on the ring are nothing to the host.
pub ring_shows : (call : DeviceCall) (a : DeviceAnswer call) (c : HostContents) (calls : List Made) → Shows (account_of calls) c
    → MayGet (Ring call) a calls × Shows (account_of (made (Ring call) a ∷ calls)) c
ring_shows call payload c calls shows = grind (arith, common_steps)

-- A call on a host that exposes its contents.
exposed : (o n : Option HostContents) (P : HostContents → Type 0) (f : HostContents → HostContents) (h : HostContents) → o ≡ Some h
    → Exposes o n P f → P h × (n ≡ Some (f h))
exposed None n P f h is moves = absurd cc
exposed (Some c) n P f h is moves = let same : c ≡ h = cc in subst (λ (d : HostContents). P d × (n ≡ Some (f d))) same moves

pub record After (call : Call) (a : Answer call) (calls : List Made) (new : Situation) : Type 0 where
  pub may : MayGet call a calls
  pub host : HostContents
  pub is : new.host ≡ Some host
  pub shows : Shows (account_of (made call a ∷ calls)) host

after_told : (call : Call) (a : Answer call) (old new : Situation) (h : HostContents) (calls : List Made) (P : HostContents → Type 0)
    (f : HostContents → HostContents) → old.host ≡ Some h → Exposes old.host new.host P f
    → (P h → MayGet call a calls × Shows (account_of (made call a ∷ calls)) (f h)) → After call a calls new
after_told call a old new h calls P f is made shown =
    let e = exposed old.host new.host P f h is made in let s = shown e.0 in record { may = s.0; host = f h; is = e.1; shows = s.1 }

step_told : (call : Call) (a : Answer call) (old new : Situation) (h : HostContents) (calls : List Made) (P : Type 0) → Asks call calls P
    → old.host ≡ Some h → Shows (account_of calls) h → Allows call a old new → After call a calls new
step_told (Ring call) a old new h calls P asks is shows allowed =
    let s = ring_shows call a h calls shows in record { may = s.0; host = h; is = allowed.1 ∙ is; shows = s.1 }
step_told Accept a old new h calls P asks is shows allowed =
    after_told Accept a old new h calls (λ c. a ≡ accept_answer c) (after_accept a) is allowed.host (λ e. accept_shows h calls shows a (sym e))
step_told (Dial path flow) a old new h calls P asks is shows allowed =
    after_told (Dial path flow) a old new h calls (IsDialed path a) (after_dial flow a) is allowed.host (dial_shows h calls shows path flow a)
step_told (Label stream flow) a old new h calls P asks is shows allowed =
    after_told (Label stream flow) a old new h calls (λ c. Unit {0}) (after_label stream flow) is allowed.host
    (λ e. label_shows h calls shows stream flow a asks.0)
step_told (ReadStream stream n) a old new h calls P asks is shows allowed =
    after_told (ReadStream stream n) a old new h calls (IsReadOf stream n a) (after_read stream a.0) is allowed.0.host
    (λ e. read_shows h calls shows stream n a.0 a.1 e allowed.1 asks.0)
step_told (WriteStream stream bytes) a old new h calls P asks is shows allowed =
    after_told (WriteStream stream bytes) a old new h calls (IsWritten stream (length bytes) a) (after_write stream bytes a) is allowed.0.host
    (λ e. write_shows h calls shows stream bytes a allowed.1 asks.0)
step_told (ShutWrite stream) a old new h calls P asks is shows allowed =
    after_told (ShutWrite stream) a old new h calls (λ c. Unit {0}) (after_shut_write stream) is allowed.host
    (λ e. (tt, shut_shows h calls shows stream))
step_told (CloseStream stream) a old new h calls P asks is shows allowed =
    after_told (CloseStream stream) a old new h calls (λ c. Unit {0}) (after_close stream) is allowed.host (λ e. close_shows h calls shows stream a)

-- A whole conversation.
leads_told : {A : Type 0} (t : A → Table DeviceConnection) (hands : A → List Handshake) (tree : DeviceTree A) (calls : List Made)
    (old new : Situation) (x : A) (h : HostContents) → Keeps (λ y later. AgreesWith later (t y) (hands y)) tree calls → old.host ≡ Some h
    → Shows (account_of calls) h → Leads Allows tree old x new → StayAccounted tree calls x (t x) (hands x) new.host
leads_told {A} t hands (Done y) calls old new x h keeps is shows leads =
    let P : A → Type 0 = λ z. AgreesWith calls (t z) (hands z) in
    let holds : AgreesWith calls (t x) (hands x) = subst P leads.0 keeps in
    record {
      later = calls;
      made = (leads.0, refl);
      stay = record {
        accounts = holds;
        contents = h;
        exposed = subst (λ (s : Situation). s.host ≡ Some h) leads.1 is;
        shows = shows;
        carried = carries calls (t x) (hands x) holds;
      };
    }
leads_told {A} t hands (Ask call next) calls old new x h keeps is shows leads =
    let a = leads.0 in
    let step = step_told call a old leads.1 h calls _ keeps is shows leads.2 in
    let rest = leads_told t hands (next a) (made call a ∷ calls) leads.1 new x step.host
    (keeps_answer (λ y later. AgreesWith later (t y) (hands y)) call next calls keeps a step.may) step.is step.shows leads.3 in record {
      later = rest.later;
      made = (a, made call a ∷ calls, (step.may, refl), rest.made);
      stay = rest.stay;
    }

pub stay_accounted : {A : Type 0} (t : A → Table DeviceConnection) (hands : A → List Handshake) (tree : DeviceTree A) (calls : List Made)
    (old new : Situation) (x : A) (s : Table DeviceConnection) (hs : List Handshake)
    → Keeps (λ y later. AgreesWith later (t y) (hands y)) tree calls → AreAccounted calls s hs old.host → Runs tree old x new
    → StayAccounted tree calls x (t x) (hands x) new.host
stay_accounted t hands tree calls old new x s hs keeps was runs =
    leads_told t hands tree calls old new x was.contents keeps was.exposed was.shows runs
