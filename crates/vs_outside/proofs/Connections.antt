-- The connections that streams are: each has one stream.
use Rattle.std.proofs.{lemmas.{Bool.Decides.nat_tests, List.Quantifiers.position-Some, Option.slice_get-get_or}, Common.{◌≡◌, ℕ, ◌+◌, ◌-◌, List, get_or, Option, Some, None, refl}}
use Rattle.std.{proofs.Common.{sym, ap, subst, ◌∙◌, arith}, specs.{Prelude.{option_and_then, position, slice_get, ◌==◌}, Option.option_map}}
use Rattle.vs_flow.specs.{Connection.Connection, declared.flow.Flow.Flow}
use Rattle.vs_outside.specs.{Host.{HostContents, Stream, stream_at}, HostBytes.{connection_at, labelled_with, numbered_in, stream_of}}

-- A number says where the id stands.
numbered : (ids : List ℕ) (id : ℕ) (f : Flow) (k : Connection) → numbered_in ids id f ≡ Some k →
    (f ≡ k.flow) × (slice_get ids (k.number - 1) ≡ Some id)
numbered ids id f k h = by (position (λ other. other == id) ids) refl h
  where
    by : (o : Option ℕ) → position (λ other. other == id) ids ≡ o →
        option_map (λ place. let x : Connection = record { flow = f; number = place + 1 } in x) o ≡ Some k →
        (f ≡ k.flow) × (slice_get ids (k.number - 1) ≡ Some id)
    by None at is = absurd cc
    by (Some place) at is =
        let p = position-Some (λ other. other == id) ids place 0 at in
        let here : get_or ids place 0 ≡ id = grind (arith, nat_tests, p.1) in
        let back : place + 1 - 1 ≡ place = omega arith in
        let x : Connection = record { flow = f; number = place + 1 } in
        let same : x ≡ k = cc in
        subst (λ (y : Connection). (f ≡ y.flow) × (slice_get ids (y.number - 1) ≡ Some id)) same
        (refl, rw back (slice_get-get_or ids place 0 p.0 ∙ ap Some here))

pub record IsOf (id : ℕ) (k : Connection) (c : HostContents) : Type 0 where
  pub stream : Stream
  pub at : stream_at id c ≡ Some stream
  pub label : stream.label ≡ Some k.flow
  pub listed : slice_get (labelled_with k.flow c) (k.number - 1) ≡ Some id

pub is_of : (id : ℕ) (k : Connection) (c : HostContents) → connection_at id c ≡ Some k → IsOf id k c
is_of id k c h = by (stream_at id c) refl h
  where
    labelled : (s : Stream) → stream_at id c ≡ Some s → (o : Option Flow) → s.label ≡ o →
        option_and_then (λ f. numbered_in (labelled_with f c) id f) o ≡ Some k → IsOf id k c
    labelled s at None on is = absurd cc
    labelled s at (Some f) on is =
        let n = numbered (labelled_with f c) id f k is in
        record {
          stream = s;
          at = at;
          label = on ∙ ap Some n.0;
          listed = ap (λ (g : Flow). slice_get (labelled_with g c) (k.number - 1)) (sym n.0) ∙ n.1;
        }

    by : (o : Option Stream) → stream_at id c ≡ o →
        option_and_then (λ s. option_and_then (λ f. numbered_in (labelled_with f c) id f) s.label) o ≡ Some k → IsOf id k c
    by None at is = absurd cc
    by (Some s) at is = labelled s at s.label refl is

pub its_stream : (id : ℕ) (k : Connection) (c : HostContents) → connection_at id c ≡ Some k → stream_of k c ≡ stream_at id c
its_stream id k c h = ap (λ (o : Option ℕ). option_and_then (λ j. stream_at j c) o) (is_of id k c h).listed

pub one_id : (i j : ℕ) (k : Connection) (c : HostContents) → connection_at i c ≡ Some k → connection_at j c ≡ Some k → i ≡ j
one_id i j k c h g =
    let both : Some i ≡ Some j = sym (is_of i k c h).listed ∙ (is_of j k c g).listed in
    cc
