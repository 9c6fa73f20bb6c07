-- Ends that pass a test, among those of a flow, when entries come, change and go, and over the steps of an end of many connections.
use Rattle.std.{specs.List.list_any, proofs.Common.{◌≡◌, ℕ, Bool, true, false, cond, ◌&&◌, ◌||◌, ◌++◌, List, [], ◌∷◌, length, refl, sym, ap, subst, ◌∙◌, arith}}
use Rattle.std.proofs.lemmas.Grind.{common_steps}
use Rattle.vs_conn.specs.{End.{ConnectionEnd, answering, asked, end_after, is_of, paid_of, with_payload_sent}, declared.end.Owed.Owed}
use Rattle.vs_flow.specs.{Flow.same_flow, declared.flow.Flow.Flow}
use Rattle.vs_header.specs.declared.Header.{Header}
use Rattle.laws_history.specs.{Packets.{is_request, is_rst}, declared.packet.Packet.Packet}
use Rattle.vs_limits.specs.declared.TheConstants.{BUF_ALLOC}
use Rattle.vs_page.{proofs.Flows.same_is, specs.{Log.{Role, flow_got}, Open.is_dropped}}
use Rattle.laws_tables.specs.{Ends.{Ends, FlowEnd, answer_kind, ends_of, replaced, without_flow}, Both.{Asks, Decides, Decision, MakesReset, Opens, Pays, Sends, Step, Takes}}
use Rattle.laws_tables.{specs.{Both.{TakesReset, after_packet, answered, decided, part_after}, Steps.{HasEnd, is_kept, left, with_clean, with_end}}, proofs.Entries.replaced_other}
use Rattle.vs_conn.specs.declared.end.Owed.TheVariants as owed

module _ (test : ConnectionEnd → Bool) where
  pub added_one : (f g : Flow) (e : ConnectionEnd) (xs : List FlowEnd)
      → list_any test (ends_of f (xs ++ record { flow = g; end = e } ∷ [])) ≡ (list_any test (ends_of f xs) || (same_flow f g && test e))
  added_one f g e [] = grind (arith, common_steps)
  added_one f g e (x ∷ xs) = let rest = added_one f g e xs in grind (arith, common_steps)

  -- Where one passes it after this, one did before.
  abbrev pub MakesNone : Flow → List FlowEnd → List FlowEnd → Type 0
  MakesNone f old new = list_any test (ends_of f new) ≡ true → list_any test (ends_of f old) ≡ true

  pub leaves : (f g : Flow) (xs : List FlowEnd) → MakesNone f xs (without_flow g xs)
  leaves f g [] is = absurd cc
  leaves f g (x ∷ xs) is = let rest = leaves f g xs in grind (arith, common_steps)

  -- An end that comes passes it on another flow at most.
  pub comes : (f g : Flow) (e : ConnectionEnd) (xs : List FlowEnd) → (same_flow f g && test e) ≡ false
      → MakesNone f xs (xs ++ record { flow = g; end = e } ∷ [])
  comes f g e xs none is = by (list_any test (ends_of f xs)) (same_flow f g && test e) none (sym (added_one f g e xs) ∙ is)
    where
      by : (h b : Bool) → b ≡ false → (h || b) ≡ true → h ≡ true
      by = grind (arith, common_steps)

  -- A flow with an end that passes it, and one whose end changes to one that doesn't.
  pub some_one : (g : Flow) (e : ConnectionEnd) (es : List ConnectionEnd) (xs : List FlowEnd) → ends_of g xs ≡ e ∷ es → test e ≡ true
      → list_any test (ends_of g xs) ≡ true
  some_one g e es xs is one = ap (list_any test) is ∙ ap (λ (b : Bool). b || list_any test es) one

  pub none_replaced : (g : Flow) (now : ConnectionEnd) (xs : List FlowEnd) → test now ≡ false → list_any test (ends_of g (replaced g now xs)) ≡ false
  none_replaced g now [] none = refl
  none_replaced g now (x ∷ xs) none = by (same_flow g x.flow) refl (none_replaced g now xs none)
    where
      by : (a : Bool) → same_flow g x.flow ≡ a → list_any test (ends_of g (replaced g now xs)) ≡ false
          → list_any test (ends_of g ((cond a (record x { end = now }) x) ∷ replaced g now xs)) ≡ false
      by true same rest = rw same (rw none rest)
      by false other rest = rw other rest

  pub changes : (f g : Flow) (e now : ConnectionEnd) (more : List ConnectionEnd) (xs : List FlowEnd) → ends_of g xs ≡ e ∷ more
      → (test e ≡ false → test now ≡ false) → MakesNone f xs (replaced g now xs)
  changes f g e now more xs has keeps is = by (same_flow f g) refl (test now) refl
    where
      was : (old new : Bool) → (old ≡ false → new ≡ false) → new ≡ true → old ≡ true
      was = grind (arith, common_steps)

      by : (b : Bool) → same_flow f g ≡ b → (n : Bool) → test now ≡ n → list_any test (ends_of f xs) ≡ true
      by false other n at = sym (ap (list_any test) (replaced_other g f now xs other)) ∙ is
      by true same true at =
          subst (λ (k : Flow). list_any test (ends_of k xs) ≡ true) (sym (same_is f g same)) (some_one g e more xs has (was (test e) (test now) keeps at))
      by true same false at =
          let none = subst (λ (k : Flow). list_any test (ends_of k (replaced g now xs)) ≡ false) (sym (same_is f g same)) (none_replaced g now xs at) in
          absurd (let no : true ≡ false = sym is ∙ none in cc)

  -- Nothing that an end does makes it pass.
  pub record Stays : Type 0 where
    pub heard : (e : ConnectionEnd) (h : Header) → test e ≡ false → test (end_after e h) ≡ false
    pub sent : (e : ConnectionEnd) (n : ℕ) → test e ≡ false → test (with_payload_sent e n) ≡ false
    pub paid : (e : ConnectionEnd) (what : Owed) → test e ≡ false → test (paid_of e what) ≡ false
    pub decided : (e : ConnectionEnd) (what : Decision) → test e ≡ false → test (decided e what) ≡ false

  -- A step names the end of its flow, and an end that it makes passes on another flow at most.
  abbrev pub MakesOther : Flow → Step → Role → Ends → Type 0
  MakesOther f (Opens g kind) role part = (same_flow f g && test (paid_of (asked kind BUF_ALLOC) owed.Request)) ≡ false
  MakesOther f (Asks g kind) role part = (same_flow f g && test (asked kind BUF_ALLOC)) ≡ false
  MakesOther f (Sends g e payload) role part = HasEnd g e part
  MakesOther f (Pays g e what) role part = HasEnd g e part
  MakesOther f (Decides g e what) role part = HasEnd g e part
  MakesOther f (Takes p answer) role part = let g = flow_got role p in
      is_request p ≡ true → (same_flow f g && test (answering (answer_kind p.header.kind) BUF_ALLOC p.header)) ≡ false
  MakesOther f step role part = Unit {0}

  module _ (stays : Stays) (f : Flow) where
    -- A packet that is taken.
    module _ (role : Role) (p : Packet) (answer : Bool) (part : Ends) (none : MakesOther f (Takes p answer) role part) where
      abbrev g : Flow
      g = flow_got role p

      unknown : (rst asks a : Bool) → is_request p ≡ asks → MakesNone f part.entries (cond rst part (answered asks a p g part)).entries
      unknown true asks a is = λ one. one
      unknown false true true is = comes f g (answering (answer_kind p.header.kind) BUF_ALLOC p.header) part.entries (none is)
      unknown false true false is = λ one. one
      unknown false false a is = λ one. one

      known : (leaves_it k : Bool) (e : ConnectionEnd) (more : List ConnectionEnd) → ends_of g part.entries ≡ e ∷ more
          → MakesNone f part.entries (cond leaves_it (with_clean k g (left g part)) (with_end g (end_after e p.header) part)).entries
      known true true e more has = leaves f g part.entries
      known true false e more has = leaves f g part.entries
      known false k e more has = changes f g e (end_after e p.header) more part.entries has (stays.heard e p.header)

      heard_by : (es : List ConnectionEnd) → ends_of g part.entries ≡ es → MakesNone f part.entries (after_packet role es p g answer part).entries
      heard_by [] has = unknown (is_rst p) (is_request p) answer refl
      heard_by (e ∷ more) has = known (is_rst p && is_of e.kind p.header) (is_kept role g e p) e more has

      takes : (dropped : Bool) → MakesNone f part.entries (cond dropped part (after_packet role (ends_of g part.entries) p g answer part)).entries
      takes true = λ one. one
      takes false = heard_by (ends_of g part.entries) refl

    -- Each step.
    pub step_makes : (step : Step) (role : Role) (part : Ends) → MakesOther f step role part
        → MakesNone f part.entries (part_after role step part).entries
    step_makes (Opens g kind) role part other = comes f g (paid_of (asked kind BUF_ALLOC) owed.Request) part.entries other
    step_makes (Asks g kind) role part other = comes f g (asked kind BUF_ALLOC) part.entries other
    step_makes (Sends g e payload) role part has = changes f g e (with_payload_sent e (length payload)) [] part.entries has (stays.sent e (length payload))
    step_makes (Pays g e owed.Rst) role part has = leaves f g part.entries
    step_makes (Pays g e what) role part has = changes f g e (paid_of e what) [] part.entries has (stays.paid e what)
    step_makes (Decides g e what) role part has = changes f g e (decided e what) [] part.entries has (stays.decided e what)
    step_makes (Takes p answer) role part other = takes role p answer part other (is_dropped role part.cid p.header)
    step_makes (MakesReset cid) role part other = λ one. absurd cc
    step_makes (TakesReset cid) role part other = λ one. absurd cc
    step_makes step role part other = λ one. one
