-- A client's stream, from its dial on.
use Rattle.std.proofs.Common.{◌≡◌, ℕ, Bool, true, false, cond, ◌||◌, List, ◌++◌, Option, Some, None, refl, sym, ap, subst, ◌∙◌}
use Rattle.std.specs.{Prelude.IsSomeAnd, Option.ForSome}
use Rattle.vs_contents.specs.Contents.{Relates}
use Rattle.vs_flow.specs.declared.flow.Flow.{Flow}
use Rattle.vs_outside.{specs.Host.{Stream, HostContents, stream_at, after_dial}, proofs.Frames.stream_at-after_failed}
use Rattle.vs_peer.specs.{Passing.{Moves, SameStreams}, Client.HasClient}
use Rattle.vs_outside.specs.declared.host_net.Dialed.TheVariants as dialed

-- A relation that follows from another.
pub relates_map : (R S : HostContents → HostContents → Type 0) (a b : Option HostContents) → ((x y : HostContents) → R x y → S x y) →
    Relates a b R → Relates a b S
relates_map R S None b f h = h
relates_map R S (Some a) None f h = absurd h
relates_map R S (Some a) (Some b) f h = f a b h

-- One relation, and then another.
pub relates_both : (R S T : HostContents → HostContents → Type 0) (a b c : Option HostContents) →
    ((x y z : HostContents) → R x y → S y z → T x z) → Relates a b R → Relates b c S → Relates a c T
relates_both R S T None b c f h k = subst (λ o. Relates o c S → c ≡ None) (sym h) (λ x. x) k
relates_both R S T (Some a) None c f h k = absurd h
relates_both R S T (Some a) (Some b) None f h k = absurd k
relates_both R S T (Some a) (Some b) (Some c) f h k = f a b c h k

-- A relation, and what holds now.
pub relates_now : (R T : HostContents → HostContents → Type 0) (Q : HostContents → Type 0) (a b : Option HostContents) →
    ((x y : HostContents) → R x y → Q y → T x y) → Relates a b R → ForSome b Q → Relates a b T
relates_now R T Q None b f h q = h
relates_now R T Q (Some a) None f h q = absurd h
relates_now R T Q (Some a) (Some b) f h q = f a b h (q b refl)

-- What passes at the client's stream.
pub client_then : (base : List ℕ) (port id : ℕ) (g g' k k' : List ℕ) (w w' : Bool) (a b c : HostContents) → HasClient base port id g k w a b →
    Moves id g' k' w' b c →
    HasClient base port id (g ++ g') (k ++ k') (w' || w) a c
client_then base port id g g' k k' w w' a b c h m =
    let there : stream_at id b ≡ Some h.stream = ap (λ n. stream_at n b) h.newest ∙ h.client.there in
    let t = m.stream h.stream there in
    record {
      stream = t.0;
      newest = h.newest;
      client = record {
        listened = h.client.listened;
        there = ap (λ n. stream_at n c) (sym h.newest) ∙ t.1;
        label = t.2.label ∙ h.client.label;
        given = t.2.given ∙ ap (λ xs. xs ++ g') h.client.given;
        taken = t.2.taken ∙ ap (λ xs. xs ++ k') h.client.taken;
        others = λ other apart. m.others other (λ e. apart (e ∙ h.newest)) ∙ h.client.others other apart;
      };
      shut = t.2.shut ∙ ap (λ x. w' || x) h.shut;
    }

pub client_as : (base : List ℕ) (port id : ℕ) (g g' k k' : List ℕ) (w : Bool) (a b : HostContents) → HasClient base port id g k w a b → g ≡ g' → k ≡ k' →
    HasClient base port id g' k' w a b
client_as base port id g g' k k' w a b h p q =
    let P : List ℕ → Type 0 = λ x. HasClient base port id x k w a b in
    let Q : List ℕ → Type 0 = λ x. HasClient base port id g' x w a b in
    subst Q q (subst P p h)

-- What holds of the client's stream now.
pub client_now : (base : List ℕ) (port id : ℕ) (g k : List ℕ) (w : Bool) (P : Stream → Type 0) (a b : HostContents) (h : HasClient base port id g k w a b) →
    IsSomeAnd (stream_at id b) P → P h.stream
client_now base port id g k w P a b h now =
    let there : stream_at id b ≡ Some h.stream = ap (λ n. stream_at n b) h.newest ∙ h.client.there in
    subst (λ o. IsSomeAnd o P) there now

heard : (b l : Bool) (n id : ℕ) → dialed.Stream id ≡ cond b dialed.Failed (cond l (dialed.Stream n) dialed.Refused) → l ≡ true
heard true l n id h = cc
heard false true n id h = refl
heard false false n id h = cc

unheard : (b l : Bool) (n : ℕ) → dialed.Refused ≡ cond b dialed.Failed (cond l (dialed.Stream n) dialed.Refused) → l ≡ false
unheard true l n h = cc
unheard false true n h = cc
unheard false false n h = refl

pub dial_failed : (flow : Flow) (c : HostContents) → SameStreams c (after_dial flow dialed.Failed c)
dial_failed flow c other = stream_at-after_failed other c
