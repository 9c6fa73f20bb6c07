-- What a client carries that was answered, and how its conversation ends.
use Rattle.std.proofs.Common.{◌≡◌, ◌≢◌, ◌≤◌, ◌<◌, ◌⊎◌, inl, inr, ℕ, true, false, Bool, ◌||◌, List, [], ◌++◌, length, take, Option, Some, Result, Ok, Err, refl, sym, ap, subst, ◌∙◌}
use Rattle.std.{proofs.{Common.arith, lemmas.List.append-nil}, specs.Prelude.IsSomeAnd}
use Rattle.vs_contents.specs.Contents.{Relates}
use Rattle.vs_outside.specs.Host.{Stream, HostContents, stream_at}
use Rattle.vs_uds.specs.ConnectLine.{connect_text}
use Rattle.vs_peer.specs.{Client.{IsAnswered, IsUnanswered, IsUnopened, Opens}, Conversing.{Carries, Converses, Failed, HasSent, IsDone, IsFailed, IsStuckNow, IsWaiting, Stuck}}
use Rattle.vs_peer.specs.{Conversing.{Unanswered, Unopened}, Exchanging.{Exchanges, IsStuck}, Passing.{IsClosed, Moves, ReadsAgain, ReadsEnd, WritesAgain}, Pieces.Emits}
use Rattle.vs_peer.specs.{Sending.{IsSending, IsStill, is_shut}, Text.{port_text, GivesPort}, declared.{send.{Sending.Sending, Side.Side}, stop.Stop.Stop}}
use Rattle.vs_peer.proofs.{Clients.{client_then, relates_both, relates_map, relates_now}, Pieces.{emits_append, emits_none, emits_then_some}}
use Rattle.vs_peer.specs.declared.send.Side.TheVariants as side
use Rattle.vs_peer.specs.declared.stop.Stop.TheVariants as stop

-- The client wasn't answered.
pub open_fails : (base : List ℕ) (port : ℕ) (source : List ℕ) (host host' : Option HostContents) (out : Option (List ℕ)) (e : Stop) →
    Opens base port host host' (Err e) → Converses base port source host host' out out (Err e)
open_fails base port source host host' out stop.Refused h = (refl, h)
open_fails base port source host host' out stop.Waited h =
    ([], emits_none out, relates_map (IsUnanswered base port) (IsWaiting base port source []) host host' (λ x y r. Unanswered refl r) h)
open_fails base port source host host' out stop.Host h =
    ([], emits_none out, relates_map (IsUnopened base port) (IsFailed base port source []) host host' (λ x y r. Unopened refl r) h)
open_fails base port source host host' out stop.Sink h = absurd h

-- What was carried, with the stream by its id.
record CarriesAt (base : List ℕ) (port id : ℕ) (source written : List ℕ) (s : Sending) (before after : HostContents) : Type 0 where
  carries : Carries base port source written before after
  sent : carries.sent ≡ s.sent
  shut : carries.stream.write_shut ≡ is_shut s.side
  at : stream_at id after ≡ Some carries.stream

or_false : (b : Bool) → (b || false) ≡ b
or_false true = refl
or_false false = refl

carried_at : (base : List ℕ) (port id host_port : ℕ) (source taken : List ℕ) (s : Sending) (a b c : HostContents) → s.sent ≤ length source →
    IsAnswered base port id host_port a b →
    Moves id (take s.sent source) taken (is_shut s.side) b c → CarriesAt base port id source (port_text host_port ++ taken) s a c
carried_at base port id host_port source taken s a b c within h m =
    let client = client_then base port id (connect_text port) (take s.sent source) h.line taken false (is_shut s.side) a b c h.client m in
    record {
      carries = record {
        stream = client.stream;
        host_port = host_port;
        line = h.line;
        rest = taken;
        sent = s.sent;
        is = h.is;
        within = within;
        client = client.client;
        writes = refl;
      };
      sent = refl;
      shut = client.shut ∙ or_false (is_shut s.side);
      at = ap (λ n. stream_at n c) client.newest ∙ client.client.there;
    }

-- A sink that failed at the first line.
pub port_fails : (base : List ℕ) (port id host_port : ℕ) (source : List ℕ) (host host' : Option HostContents) (out out' : Option
    (List ℕ)) (e : Stop) →
    Relates host host' (IsAnswered base port id host_port) → GivesPort out out' host_port (Err e) →
    Converses base port source host host' out out' (Err e)
port_fails base port id host_port source host host' out out' stop.Sink h given = (
  port_text host_port,
  given,
  relates_map (IsAnswered base port id host_port) (Carries base port source (port_text host_port)) host host' (λ x y r. record {
    stream = r.client.stream;
    host_port = host_port;
    line = r.line;
    rest = [];
    sent = 0;
    is = r.is;
    within = omega arith;
    client = record {
      listened = r.client.client.listened;
      there = r.client.client.there;
      label = r.client.client.label;
      given = r.client.client.given ∙ sym (append-nil (connect_text port));
      taken = r.client.client.taken ∙ sym (append-nil r.line);
      others = r.client.client.others;
    };
    writes = sym (append-nil (port_text host_port));
  }) h,
)
port_fails base port id host_port source host host' out out' stop.Refused h given = absurd given
port_fails base port id host_port source host host' out out' stop.Waited h given = absurd given
port_fails base port id host_port source host host' out out' stop.Host h given = absurd given

-- What holds of the stream now.
at_now : (P : Stream → Type 0) (base : List ℕ) (port id : ℕ) (source written : List ℕ) (s : Sending) (a c : HostContents)
    (h : CarriesAt base port id source written s a c) →
    IsSomeAnd (stream_at id c) P → P h.carries.stream
at_now P base port id source written s a c h now = subst (λ o. IsSomeAnd o P) h.at now

module _ (base : List ℕ) (port id host_port : ℕ) (source : List ℕ) (host mid after : Option HostContents) (out out' out'' : Option (List ℕ))
    (opened : Relates host mid (IsAnswered base port id host_port)) (told : Emits out out' (port_text host_port)) where
  written : List ℕ → List ℕ
  written taken = port_text host_port ++ taken

  carried : (s : Sending) (taken : List ℕ) → s.sent ≤ length source →
      Relates mid after (Moves id (take s.sent source) taken (is_shut s.side)) →
      Relates host after (CarriesAt base port id source (port_text host_port ++ taken) s)
  carried s taken within m =
      relates_both (IsAnswered base port id host_port) (Moves id (take s.sent source) taken (is_shut s.side)) (CarriesAt base port id source
      (port_text host_port ++ taken) s)
      host mid after (λ x y z h n. carried_at base port id host_port source taken s x y z within h n) opened m

  has_sent : (s : Sending) (x : Side) (w : List ℕ) (a c : HostContents) → s.side ≡ x → x ≢ side.Open → IsSending id source s after →
      after ≡ Some c →
      (h : CarriesAt base port id source w s a c) → HasSent h.carries.sent (length source) h.carries.stream
  has_sent s side.Open w a c is away i at h = absurd (away refl)
  has_sent s side.Shut w a c is away i at h = inl (h.sent ∙ i.whole is, h.shut ∙ ap is_shut is)
  has_sent s side.Closed w a c is away i at h =
      inr (subst (λ (n : ℕ). n < length source) (sym h.sent) (i.cut is), at_now IsClosed base port id source w s a c h (i.closed is c at))

  pub ends : Exchanges id source mid after out' out'' (Ok tt) → Converses base port source host after out out'' (Ok tt)
  ends (s, e, away, now) = (
    port_text host_port ++ e.taken,
    emits_append out out' out'' (port_text host_port) e.taken told e.gets,
    relates_now (CarriesAt base port id source (port_text host_port ++ e.taken) s) (IsDone base port source (port_text host_port ++ e.taken))
        (λ c. after ≡ Some c) host after
        (λ x y h at. record {
          carries = h.carries;
          has_sent = has_sent s s.side (port_text host_port ++ e.taken) x y refl away e.sending at h;
          no_more = at_now ReadsEnd base port id source (port_text host_port ++ e.taken) s x y h (now y at);
        }) (carried s e.taken e.sending.within e.passes) (λ c at. at),
  )

  stuck_again : (s : Sending) (w : List ℕ) (a c : HostContents) → IsStill id source s after → IsSending id source s after → after ≡ Some c →
      (h : CarriesAt base port id source w s a c) → HasSent h.carries.sent (length source) h.carries.stream ⊎
      ((h.carries.sent < length source) × WritesAgain h.carries.stream)
  stuck_again s w a c (inl away) i at h = inl (has_sent s s.side w a c refl away i at h)
  stuck_again s w a c (inr (is, less, now)) i at h =
      inr (subst (λ (n : ℕ). n < length source) (sym h.sent) less, at_now WritesAgain base port id source w s a c h (now c at))

  stuck_end : (s : Sending) (w : List ℕ) (a c : HostContents) → IsStill id source s after → s.side ≡ side.Open → after ≡ Some c →
      (h : CarriesAt base port id source w s a c) → (h.carries.sent < length source) × WritesAgain h.carries.stream
  stuck_end s w a c (inl away) is at h = absurd (away is)
  stuck_end s w a c (inr (open', less, now)) is at h =
      (subst (λ (n : ℕ). n < length source) (sym h.sent) less, at_now WritesAgain base port id source w s a c h (now c at))

  stuck_now : (s : Sending) (w : List ℕ) (a c : HostContents) → IsStuck id source s after → IsSending id source s after → after ≡ Some c →
      (h : CarriesAt base port id source w s a c) → IsStuckNow h.carries.sent (length source) h.carries.stream
  stuck_now s w a c (quiet, inl again) i at h = inl (
    stuck_again s w a c quiet i at h,
    at_now ReadsAgain base port id source w s a c h
        (again c at),
  )
  stuck_now s w a c (quiet, inr (is, over)) i at h =
      let unsent = stuck_end s w a c quiet is at h in inr (unsent.0, unsent.1, at_now ReadsEnd base port id source w s a c h (over c at))

  pub waits : Exchanges id source mid after out' out'' (Err stop.Waited) → Converses base port source host after out out'' (Err stop.Waited)
  waits (s, e, stuck) = (
    port_text host_port ++ e.taken,
    emits_append out out' out'' (port_text host_port) e.taken told e.gets,
    relates_now (CarriesAt base port id source (port_text host_port ++ e.taken) s) (IsWaiting base port source (port_text host_port ++ e.taken))
        (λ c. after ≡ Some c) host after
        (λ x y h at. Stuck (record { carries = h.carries; stuck = stuck_now s (port_text host_port ++ e.taken) x y stuck e.sending at h }))
        (carried s e.taken e.sending.within e.passes) (λ c at. at),
  )

  pub exchange_ends : (result : Result (Unit {0}) Stop) → Exchanges id source mid after out' out'' result →
      Converses base port source host after out out'' result
  exchange_ends (Ok u) h = ends h
  exchange_ends (Err stop.Waited) h = waits h
  exchange_ends (Err stop.Host) (s, e) = (
    port_text host_port ++ e.taken,
    emits_append out out' out'' (port_text host_port) e.taken told e.gets,
    relates_map (CarriesAt base port id source (port_text host_port ++ e.taken) s) (IsFailed base port source
        (port_text host_port ++ e.taken)) host after
        (λ x y h. Failed h.carries) (carried s e.taken e.sending.within e.passes),
  )
  exchange_ends (Err stop.Sink) (s, e) = (
    port_text host_port ++ e.taken,
    emits_then_some out out' out'' (port_text host_port) e.taken told e.gets,
    relates_map (CarriesAt base port id source (port_text host_port ++ e.taken) s) (Carries base port source
        (port_text host_port ++ e.taken)) host after
        (λ x y h. h.carries) (carried s e.taken e.sending.within e.passes),
  )
  exchange_ends (Err stop.Refused) h = absurd h
