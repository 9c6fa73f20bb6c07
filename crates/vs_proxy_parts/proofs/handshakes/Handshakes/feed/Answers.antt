use Rattle.std.{proofs.{Common.{◌≡◌, List, ◌==◌, false, Some, None, sym, ap, ◌∙◌, rules, arith}, lemmas.List.{length-set, Elements.All-set}}, specs.List.{find, position}}
use Rattle.vs_uds.specs.{ConnectLine.connect_step, Reading.is_decided, declared.connect.TheConstants.CONNECT_MAX}
use Rattle.vs_proxy_parts.{specs.State.Handshake, proofs.Waiting.{found_nowhere, undecided, fed_line, fed_more, fed_over}}
use Rattle.vs_proxy_parts.proofs.handshakes.Handshakes.feed.Goals as goal

pub returns-in_default-clause-step : goal.returns-in_default-clause-step
returns-in_default-clause-step c = λ h found.
    let hs : List Handshake = c.self.inside.all.items in
    let at : position (λ (x : Handshake). x.stream == c.args.stream) hs ≡ None = search rules in
    let there : find (λ (x : Handshake). x.stream == c.args.stream) hs ≡ Some h = rw (← c.self.view_is) at found in
    let none = found_nowhere c.args.stream hs at in
    absurd (cc)

pub returns-in_default-clause-over : goal.returns-in_default-clause-over
returns-in_default-clause-over c = λ h found other.
    let hs : List Handshake = c.self.inside.all.items in
    let at : position (λ (x : Handshake). x.stream == c.args.stream) hs ≡ None = search rules in
    let there : find (λ (x : Handshake). x.stream == c.args.stream) hs ≡ Some h = rw (← c.self.view_is) at found in
    let none = found_nowhere c.args.stream hs at in
    absurd (cc)

pub invariant_of-self : goal.invariant_of-self
invariant_of-self c =
    let hs : List Handshake = c.self.inside.all.items in
    let old : Handshake = c.index_mut-handshake.result.now in
    let new : Handshake = c.feed.new.self in
    record {
      lines = All-set (λ (h : Handshake). is_decided CONNECT_MAX h.line ≡ false) hs c.in-Some.place new (undecided new.line (sym c.in-More.ensures.step)) c.self.invariant.lines;
      few = omega (arith, c.self.invariant.few, length-set {A = Handshake});
      room = c.self.invariant.room;
    }

pub returns-in-More-clause-step : goal.returns-in-More-clause-step
returns-in-More-clause-step c = λ h found.
    let hs : List Handshake = c.self.inside.all.items in
    let at : position (λ (x : Handshake). x.stream == c.args.stream) hs ≡ Some c.in-Some.place =
    ap (λ (xs : List Handshake). position (λ (x : Handshake). x.stream == c.args.stream) xs) (sym c.deref.ensures.value) ∙ sym c.in-Some.ensures in
    let there : find (λ (x : Handshake). x.stream == c.args.stream) hs ≡ Some h = rw (← c.self.view_is) at found in
    let line = fed_line c.args.stream c.args.byte hs c.in-Some.place c.index_mut-handshake.result.now c.feed.new.self at c.index_mut-handshake.ensures.value c.self.invariant.lines c.feed.ensures.fed h there in
    c.in-More.ensures.step ∙ ap (λ (x : Handshake). connect_step x.line) line

pub returns-in-More-clause-more : goal.returns-in-More-clause-more
returns-in-More-clause-more c = λ h found more.
    let hs : List Handshake = c.self.inside.all.items in
    let at : position (λ (x : Handshake). x.stream == c.args.stream) hs ≡ Some c.in-Some.place =
    ap (λ (xs : List Handshake). position (λ (x : Handshake). x.stream == c.args.stream) xs) (sym c.deref.ensures.value) ∙ sym c.in-Some.ensures in
    let there : find (λ (x : Handshake). x.stream == c.args.stream) hs ≡ Some h = rw (← c.self.view_is) at found in
    rw (← c.self.view_is) (fed_more c.args.stream c.args.byte hs c.in-Some.place c.index_mut-handshake.result.now c.feed.new.self at c.index_mut-handshake.ensures.value c.self.invariant.lines c.feed.ensures.fed h there)

pub returns-in_default-feed : goal.returns-in_default-feed
returns-in_default-feed c =
    let hs : List Handshake = c.self.inside.all.items in
    let at : position (λ (x : Handshake). x.stream == c.args.stream) hs ≡ Some c.in-Some.place =
    ap (λ (xs : List Handshake). position (λ (x : Handshake). x.stream == c.args.stream) xs) (sym c.deref.ensures.value) ∙ sym c.in-Some.ensures in
    let old : Handshake = c.index_mut-handshake.result.now in
    record {
      step = λ h found.
          let there : find (λ (x : Handshake). x.stream == c.args.stream) hs ≡ Some h = rw (← c.self.view_is) at found in
          let line = fed_line c.args.stream c.args.byte hs c.in-Some.place old c.feed.new.self at c.index_mut-handshake.ensures.value c.self.invariant.lines c.feed.ensures.fed h there in
          c.feed.ensures.step ∙ ap (λ (x : Handshake). connect_step x.line) line;
      more = λ h found more. absurd (c.in_default-feed.not-More more);
      over = λ h found other.
          rw (← c.self.view_is) (c.remove.ensures.items ∙ fed_over c.args.stream c.args.byte hs c.in-Some.place old c.feed.new.self at c.index_mut-handshake.ensures.value c.self.invariant.lines c.feed.ensures.fed);
    }
