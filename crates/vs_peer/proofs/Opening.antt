-- How a client is answered, or isn't.
use Rattle.std.{proofs.{Common.{ℕ, false, List, [], ◌++◌, take, Option, Ok, Err, refl, inl, inr}, lemmas.List.append-nil}, specs.Prelude.IsSomeAnd}
use Rattle.vs_contents.specs.Contents.{Relates}
use Rattle.vs_outside.specs.Host.{Stream, HostContents, stream_at}
use Rattle.vs_uds.specs.ConnectLine.{connect_text}
use Rattle.vs_peer.specs.{Asking.{Answers, AnswersBad, AnswersPort, AnswersSome, Asks, AsksSome}, Client.{Asked, Asking, Closed, Dials, Ended, HasClient, IsAnswered, IsAsked}}
use Rattle.vs_peer.specs.{Client.{IsAsking, IsRefused, IsUnanswered, IsUnheard, IsUnopened, Misheard, Opens, Unasked, Undialed, Unheard, Untold}, Passing.{IsClosed, Moves, Now}}
use Rattle.vs_peer.{specs.{Passing.{ReadsAgain, ReadsEnd, WritesAgain, SameStreams}, declared.stop.Stop.Stop}, proofs.Clients.{client_now, client_then, client_as, relates_both}}
use Rattle.vs_peer.proofs.Clients.{relates_map, relates_now}
use Rattle.vs_peer.specs.declared.stop.Stop.TheVariants as stop

module _ (base : List ℕ) (port : ℕ) (host : Option HostContents) where
  -- the dial failed
  pub dial_fails : (after : Option HostContents) (e : Stop) → Dials base port host after (Err e) → Opens base port host after (Err e)
  dial_fails after stop.Refused h = relates_map (IsUnheard base) (IsRefused base port) host after (λ x y r. Unheard r) h
  dial_fails after stop.Host h = relates_map SameStreams (IsUnopened base port) host after (λ x y r. Undialed r) h
  dial_fails after stop.Waited h = absurd h
  dial_fails after stop.Sink h = absurd h

  module _ (id : ℕ) (mid : Option HostContents) (after : Option HostContents) (dialed : Relates host mid
      (HasClient base port id [] [] false)) where
    asked : (line : List ℕ) → Relates mid after (Moves id line [] false) → Relates host after (HasClient base port id line [] false)
    asked line m =
        relates_both (HasClient base port id [] [] false) (Moves id line [] false) (HasClient base port id line [] false) host mid after
        (λ x y z h n. client_then base port id [] line [] [] false false x y z h n) dialed m

    still_asking : (P : Stream → Type 0) → AsksSome id (connect_text port) mid after → Now id P after → Relates host after (IsAsking base port P)
    still_asking P some now =
        relates_now (HasClient base port id (take some.sent (connect_text port)) [] false) (IsAsking base port P) (λ c. IsSomeAnd
        (stream_at id c) P) host after
        (λ x y h n. record {
          stream = h.stream;
          sent = some.sent;
          less = some.less;
          client = h.client;
          now = client_now base port id (take some.sent (connect_text port)) [] false P x y h n;
        }) (asked (take some.sent (connect_text port)) some.passes) now

    -- the CONNECT line wasn't taken whole
    pub ask_fails : (e : Stop) → Asks id (connect_text port) mid after (Err e) → Opens base port host after (Err e)
    ask_fails stop.Waited h = relates_map (IsAsking base port WritesAgain) (IsUnanswered base port) host after (λ x y r. Asking r)
        (still_asking WritesAgain h.0 h.1)
    ask_fails stop.Refused h = relates_map (IsAsking base port IsClosed) (IsRefused base port) host after (λ x y r. Closed r)
        (still_asking IsClosed h.0 h.1)
    ask_fails stop.Host h =
        relates_map (HasClient base port id (take h.sent (connect_text port)) [] false) (IsUnopened base port) host after
        (λ x y r. Unasked (record { stream = r.stream; sent = h.sent; less = h.less; client = r.client; now = tt }))
        (asked (take h.sent (connect_text port)) h.passes)
    ask_fails stop.Sink h = absurd h

    pub asked_whole : Asks id (connect_text port) mid after (Ok tt) → Relates host after (HasClient base port id (connect_text port) [] false)
    asked_whole h = asked (connect_text port) h

  module _ (id : ℕ) (mid : Option HostContents) (after : Option HostContents) (asked : Relates host mid (HasClient base port id
      (connect_text port) [] false)) where
    took : (line : List ℕ) → Relates mid after (Moves id [] line false) →
        Relates host after (HasClient base port id (connect_text port) line false)
    took line m =
        relates_both (HasClient base port id (connect_text port) [] false) (Moves id [] line false) (HasClient base port id
        (connect_text port) line false) host mid after
        (λ x y z h n. client_as base port id (connect_text port ++ []) (connect_text port) line line false x z
        (client_then base port id (connect_text port) [] [] line false false x y z h n) (append-nil (connect_text port)) refl)
        asked m

    still_asked : (P : Stream → Type 0) → AnswersSome id mid after → Now id P after → Relates host after (IsAsked base port P)
    still_asked P some now =
        relates_now (HasClient base port id (connect_text port) some.line false) (IsAsked base port P) (λ c. IsSomeAnd (stream_at id c) P) host after
        (λ x y h n. record {
          stream = h.stream;
          line = some.line;
          more = some.more;
          client = h.client;
          now = client_now base port id (connect_text port) some.line false P x y h n;
        }) (took some.line some.passes) now

    misheard : AnswersBad id mid after → Relates host after (IsRefused base port)
    misheard h =
        relates_map (HasClient base port id (connect_text port) h.line false) (IsRefused base port) host after
        (λ x y r. Misheard (record { stream = r.stream; line = h.line; bad = h.bad; client = r.client })) (took h.line h.passes)

    -- no OK line came
    pub answer_fails : (e : Stop) → Answers id mid after (Err e) → Opens base port host after (Err e)
    answer_fails stop.Waited h = relates_map (IsAsked base port ReadsAgain) (IsUnanswered base port) host after (λ x y r. Asked r)
        (still_asked ReadsAgain h.0 h.1)
    answer_fails stop.Refused (inl h) = relates_map (IsAsked base port ReadsEnd) (IsRefused base port) host after (λ x y r. Ended r)
        (still_asked ReadsEnd h.0 h.1)
    answer_fails stop.Refused (inr h) = misheard h
    answer_fails stop.Host h =
        relates_map (HasClient base port id (connect_text port) h.line false) (IsUnopened base port) host after
        (λ x y r. Untold (record { stream = r.stream; line = h.line; more = h.more; client = r.client; now = tt })) (took h.line h.passes)
    answer_fails stop.Sink h = absurd h

    -- it came
    pub answered : (host_port : ℕ) → AnswersPort id host_port mid after → Relates host after (IsAnswered base port id host_port)
    answered host_port h =
        relates_map (HasClient base port id (connect_text port) h.line false) (IsAnswered base port id host_port) host after
        (λ x y r. record { line = h.line; is = h.is; client = r }) (took h.line h.passes)
