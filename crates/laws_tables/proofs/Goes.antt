-- What a connection's end does to the payload that it takes.
use Rattle.std.proofs.Common.{◌≡◌, ℕ, Bool, true, false, List, [], ◌++◌, take, drop, sym, ap, subst, ◌∙◌, append_assoc, arith}
use Rattle.std.proofs.lemmas.{Bool.Decides.nat_tests, Grind.common_steps, List.append-nil}
use Rattle.vs_conn.specs.{End.{ConnectionEnd, end_after, is_refused, verdict_of}, declared.end.Verdict.Verdict}
use Rattle.vs_header.specs.declared.Header.{Header}
use Rattle.laws_history.specs.{Packets.is_rw, declared.packet.Packet.Packet}
use Rattle.vs_page.specs.Fair.{IsPrefixOf}
use Rattle.laws_tables.{specs.Drains.{Drains, receives}, proofs.Logs.{all_of, longer, nothing_more, shorter}}
use Rattle.vs_conn.specs.declared.end.Verdict.TheVariants as verdict

-- Nothing moves; what was held is dropped; bytes come out; bytes come in.
abbrev pub Goes : Bool → Bool → List ℕ → List ℕ → List ℕ → List ℕ → Type 0
Goes b c held kept taken more = (out came : List ℕ) → Drains b out held came → Drains c (out ++ taken) kept (came ++ more)

pub stays_still : (b c : Bool) (held more : List ℕ) → (c ≡ true → b ≡ true) → (c ≡ true → more ≡ []) → Goes b c held held [] more
stays_still b c held more less none out came d = grind (arith, common_steps)

pub drops : (b : Bool) (held more : List ℕ) → Goes b false held [] [] more
drops b held more out came d = record {
  front = subst (λ (xs : List ℕ). IsPrefixOf xs (came ++ more)) (nothing_more out ∙ nothing_more (out ++ []))
      (longer out came more (shorter out held came d.front));
  whole = λ is. absurd cc;
}

pub comes_out : (b c : Bool) (held : List ℕ) (n : ℕ) → (c ≡ true → b ≡ true) → Goes b c held (drop n held) (take n held) []
comes_out b c held n less out came d = grind (arith, common_steps)

pub comes_in : (b c : Bool) (held more : List ℕ) → b ≡ true → Goes b c held (held ++ more) [] more
comes_in b c held more is out came d =
    let all : (out ++ []) ++ (held ++ more) ≡ came ++ more =
    ap (λ (xs : List ℕ). xs ++ (held ++ more)) (append-nil out) ∙ sym (append_assoc out held more) ∙ ap (λ (xs : List ℕ). xs ++ more) (d.whole is) in
    record { front = all_of ((out ++ []) ++ (held ++ more)) (came ++ more) all; whole = λ on. all }

pub ended_goes : (b : Bool) (held : List ℕ) → Goes b false held held [] []
ended_goes b held = stays_still b false held [] (λ on. absurd cc) (λ on. absurd cc)

-- A packet: payload is delivered to an end that takes it, and none else comes to one.
pub delivers_to : (e : ConnectionEnd) (h : Header) → verdict_of e h ≡ verdict.Deliver → receives e ≡ true
delivers_to e h is = grind (arith, common_steps, is)

pub only_delivered : (e : ConnectionEnd) (p : Packet) (v : Verdict) → verdict_of e p.header ≡ v → is_refused v ≡ false → (v ≡ verdict.Deliver → ⊥)
    → receives (end_after e p.header) ≡ true → is_rw p ≡ false
only_delivered e p v is taken other on = grind (arith, nat_tests, common_steps, is, on)
