-- Steps of an exchange, one after another.
use Rattle.std.proofs.Common.{◌≡◌, inl, inr, ℕ, Bool, true, false, ◌||◌, List, [], ◌++◌, take, Option, Some, None, Ok, Err, refl, sym, subst, ◌∙◌, append-nil, arith}
use Rattle.std.specs.Prelude.{IsSomeAnd}
use Rattle.vs_contents.specs.Contents.{Relates}
use Rattle.vs_outside.specs.{Host.{Stream, HostContents, stream_at}, Faults.CountsFault}
use Rattle.vs_peer.specs.{Failing.sink_failed, Passing.{Moves, Now, ReadsAgain, ReadsEnd, WritesAgain, SameStreams}, Pieces.Emits, Receiving.Receives, Sending.{IsSending, IsStill}}
use Rattle.vs_peer.specs.{Sending.{GoesOn, Sends, between, is_shut, shuts}, Exchanging.{Exchanges, Exchanged, ExchangedCut, Leaves, Stepped, SteppedCut, Steps, comes_to, still}}
use Rattle.vs_peer.{specs.declared.{exchange.Progress.Progress, receive.Came.Came, send.{Sending.Sending, Side.Side}, stop.Stop.Stop}, proofs.Pieces.{emits_none, emits_append}}
use Rattle.vs_peer.proofs.{Pieces.emits_then_some, Sends.joined_between, Streams.{moves_not, relates_as, relates_not, relates_then}}
use Rattle.vs_peer.specs.declared.exchange.Progress.TheVariants as progress
use Rattle.vs_peer.specs.declared.receive.Came.TheVariants as came
use Rattle.vs_peer.specs.declared.send.Side.TheVariants as side
use Rattle.vs_peer.specs.declared.stop.Stop.TheVariants as stop

-- A call that changes no stream passes nothing.
pub relates_same : (id : ℕ) (a b : Option HostContents) → Relates a b SameStreams → Relates a b (Moves id [] [] false)
relates_same id None b h = h
relates_same id (Some a) None h = absurd h
relates_same id (Some a) (Some b) h = moves_not id a b (λ other. h other)

now_same : (id : ℕ) (P : Stream → Type 0) (a b : Option HostContents) → Relates a b SameStreams → Now id P a → Now id P b
now_same id P None b h was c is = cc
now_same id P (Some a) None h was c is = cc
now_same id P (Some a) (Some b) h was c is =
    let same : b ≡ c = cc in
    subst (λ x. IsSomeAnd (stream_at id x) P) same (subst (λ o. IsSomeAnd o P) (sym (h id)) (was a refl))

module _ (id : ℕ) (bytes : List ℕ) (s t : Sending) (host mid after : Option HostContents) (out out' : Option (List ℕ))
    (sent : Relates host mid (Moves id (between s t bytes) [] (shuts s.side t.side))) where
  sent_and : (taken : List ℕ) → Relates mid after (Moves id [] taken false) →
      Relates host after (Moves id (between s t bytes) taken (shuts s.side t.side))
  sent_and taken m =
      relates_as id (between s t bytes ++ []) (between s t bytes) taken taken (shuts s.side t.side) (shuts s.side t.side) host after
      (relates_then id (between s t bytes) [] [] taken (shuts s.side t.side) false host mid after sent m) (append-nil
      (between s t bytes)) refl refl

  no_bytes : Relates mid after SameStreams → out' ≡ out → Stepped id bytes s t host after out out'
  no_bytes same is = record {
    taken = [];
    passes = sent_and [] (relates_same id mid after same);
    gets = subst (λ o. Emits out o []) (sym is) (emits_none out);
  }

  -- the read failed, or the sink did
  pub step_fails : (e : Stop) → Receives id mid after out out' (Err e) → Steps id bytes s t host after out out' (Err e)
  step_fails stop.Sink h = record { taken = h.0; passes = sent_and h.0 h.1; gets = h.2 }
  step_fails stop.Host h = no_bytes h.0 h.1
  step_fails stop.Waited h = absurd h
  step_fails stop.Refused h = absurd h

  still_after : IsStill id bytes t mid → Relates mid after SameStreams → IsStill id bytes t after
  still_after (inl h) same = inl h
  still_after (inr h) same = inr (h.0, h.1, now_same id WritesAgain mid after same h.2)

  nothing_came : (b : Bool) → Sends id bytes t mid (Ok b) → Relates mid after SameStreams → Now id ReadsAgain after →
      Leaves id bytes t after (still b)
  nothing_came true h same reads = tt
  nothing_came false h same reads = (still_after h same, inl reads)

  end_came : (x : Side) (b : Bool) → t.side ≡ x → Sends id bytes t mid (Ok b) → Relates mid after SameStreams → Now id ReadsEnd after →
      Leaves id bytes t after (comes_to x b came.End)
  end_came side.Open true is h same reads = tt
  end_came side.Open false is h same reads = (still_after h same, inr (is, reads))
  end_came side.Shut b is h same reads = (λ e. let f = sym is ∙ e in cc, reads)
  end_came side.Closed b is h same reads = (λ e. let f = sym is ∙ e in cc, reads)

  pub step_goes : (b : Bool) (x : Came) → Sends id bytes t mid (Ok b) → Receives id mid after out out' (Ok x) →
      Stepped id bytes s t host after out out' × Leaves id bytes t after (comes_to t.side b x)
  step_goes b came.Bytes h r = (record { taken = r.0; passes = sent_and r.0 r.1; gets = r.2 }, tt)
  step_goes b came.Nothing h r = (no_bytes r.0 r.2, nothing_came b h r.0 r.1)
  step_goes b came.End h r = (no_bytes r.0 r.2, end_came t.side b refl h r.0 r.1)

-- the write failed
pub write_fails : (id : ℕ) (bytes : List ℕ) (s t : Sending) (host mid : Option HostContents) (out : Option (List ℕ)) (e : Stop) →
    Relates host mid (Moves id (between s t bytes) [] (shuts s.side t.side)) → Sends id bytes t mid (Err e) →
    Steps id bytes s t host mid out out (Err e)
write_fails id bytes s t host mid out stop.Host sent h = record { taken = []; passes = sent; gets = emits_none out }
write_fails id bytes s t host mid out stop.Sink sent h = absurd h
write_fails id bytes s t host mid out stop.Waited sent h = absurd h
write_fails id bytes s t host mid out stop.Refused sent h = absurd h

pub sink_kept : (id : ℕ) (bytes : List ℕ) (t : Sending) (mid : Option HostContents) (e : Stop) (faults : ℕ) → Sends id bytes t mid (Err e) →
    CountsFault (sink_failed {A = Progress} (Err e)) faults faults
sink_kept id bytes t mid stop.Host faults h = refl
sink_kept id bytes t mid stop.Sink faults h = absurd h
sink_kept id bytes t mid stop.Waited faults h = absurd h
sink_kept id bytes t mid stop.Refused faults h = absurd h

-- at first
pub starts : (id : ℕ) (bytes : List ℕ) (host : Option HostContents) (out : Option (List ℕ)) →
    Exchanged id bytes (record { sent = 0; side = side.Open }) host host out out
starts id bytes host out = record {
  sending = record { within = omega arith; whole = λ e. cc; cut = λ e. cc; closed = λ e. cc };
  taken = [];
  passes = relates_not id host;
  gets = emits_none out;
}

module _ (id : ℕ) (bytes : List ℕ) (s t : Sending) (host mid after : Option HostContents) (out out' out'' : Option (List ℕ))
    (so_far : Exchanged id bytes s host mid out out') where
  both_pass : (taken : List ℕ) → GoesOn s t → Relates mid after (Moves id (between s t bytes) taken (shuts s.side t.side)) →
      Relates host after (Moves id (take t.sent bytes) (so_far.taken ++ taken) (is_shut t.side))
  both_pass taken on m =
      relates_as id (take s.sent bytes ++ between s t bytes) (take t.sent bytes) (so_far.taken ++ taken) (so_far.taken ++ taken)
      (shuts s.side t.side || is_shut s.side) (is_shut t.side) host after
      (relates_then id (take s.sent bytes) (between s t bytes) so_far.taken taken (is_shut s.side)
      (shuts s.side t.side) host mid after so_far.passes m)
      (joined_between bytes s.sent t.sent on.grows) refl (sym on.shut)

  pub goes_on : GoesOn s t → IsSending id bytes t after → Stepped id bytes s t mid after out' out'' →
      Exchanged id bytes t host after out out''
  goes_on on i h = record {
    sending = i;
    taken = so_far.taken ++ h.taken;
    passes = both_pass h.taken on h.passes;
    gets = emits_append out out' out'' so_far.taken h.taken so_far.gets h.gets;
  }

  cuts : GoesOn s t → IsSending id bytes t after → SteppedCut id bytes s t mid after out' out'' →
      ExchangedCut id bytes t host after out out''
  cuts on i h = record {
    sending = i;
    taken = so_far.taken ++ h.taken;
    passes = both_pass h.taken on h.passes;
    gets = emits_then_some out out' out'' so_far.taken h.taken so_far.gets h.gets;
  }

  pub fails : (e : Stop) → GoesOn s t → IsSending id bytes t after → Steps id bytes s t mid after out' out'' (Err e) →
      Exchanges id bytes host after out out'' (Err e)
  fails stop.Host on i h = (t, goes_on on i h)
  fails stop.Sink on i h = (t, cuts on i h)
  fails stop.Waited on i h = absurd h
  fails stop.Refused on i h = absurd h

-- The end of an exchange: all passed, or nothing moves any more.
pub done : (id : ℕ) (bytes : List ℕ) (t : Sending) (host after : Option HostContents) (out out' : Option (List ℕ)) →
    (p : Progress) → p ≡ progress.Done → Exchanged id bytes t host after out out' → Leaves id bytes t after p →
    Exchanges id bytes host after out out' (Ok tt)
done id bytes t host after out out' progress.Done is h left = (t, h, left.0, left.1)
done id bytes t host after out out' progress.Moved is h left = absurd (never is)
  where
    never : progress.Moved ≡ progress.Done → ⊥
    never e = cc
done id bytes t host after out out' progress.Still is h left = absurd (never is)
  where
    never : progress.Still ≡ progress.Done → ⊥
    never e = cc

pub waits : (id : ℕ) (bytes : List ℕ) (t : Sending) (host after : Option HostContents) (out out' : Option (List ℕ)) (p : Progress) →
    p ≡ progress.Still → Exchanged id bytes t host after out out' → Leaves id bytes t after p →
    Exchanges id bytes host after out out' (Err stop.Waited)
waits id bytes t host after out out' p still h left = let Q : Progress → Type 0 = λ x. Leaves id bytes t after x in (t, h, subst Q still left)
