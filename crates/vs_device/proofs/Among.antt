-- The receive chain that a device holds, among all chains that were taken of its ring.
use Rattle.std.{proofs.Common.{◌≡◌, zero, suc, ◌<◌, Bool, true, false, cond, List, [], ◌∷◌, Option, Some, None, Contains, sym, ap, subst, ◌∙◌, arith}, specs.Option.IfSome}
use Rattle.vs_ring_port.specs.{Chains.{same_chain, without}, declared.device_ring.Chain.Chain}
use Rattle.vs_device_parts.specs.{State.DeviceState, Playing.{IsAmong, IsRingOf, IsRxChain, beside, held_by}}
use Rattle.vs_device.proofs.Takings.{newest_held, without_newest}

-- where it is the only one
held_among : (o : Option Chain) (held : List Chain) → held ≡ held_by o → IfSome o IsRxChain → IfSome o (λ chain. Contains held chain × IsRxChain chain)
held_among None held is rx = tt
held_among (Some chain) held is rx = (newest_held chain held [] is, rx)

pub among : (held : List Chain) (s : DeviceState) → IsRingOf held s → IsAmong held s
among held s ring = held_among s.chain held ring.chains ring.rx

held_alone : (o : Option Chain) (held : List Chain) → held ≡ held_by o → beside o held ≡ []
held_alone None held is = is
held_alone (Some chain) held is = without_newest chain held [] is

only : (h c : Chain) → Contains (h ∷ []) c → h ≡ c
only h c (zero, low, is) = is
only h c (suc i, low, is) = absurd (let no : suc i < 1 = low in omega (arith, no))

alone_by : (b : Bool) (h c : Chain) (held : List Chain) → Contains (h ∷ held) c → cond b held (h ∷ without c held) ≡ [] → h ∷ held ≡ c ∷ []
alone_by true h c [] has is = ap (λ (x : Chain). x ∷ []) (only h c has)
alone_by true h c (g ∷ held) has is = absurd (cc)
alone_by false h c held has is = absurd (cc)

alone : (c : Chain) (held : List Chain) → Contains held c → without c held ≡ [] → held ≡ c ∷ []
alone c [] (i, low, is) none = absurd (let no : i < 0 = low in omega (arith, no))
alone c (h ∷ held) has none = alone_by (same_chain c h) h c held has none

held_only : (o : Option Chain) (held : List Chain) → IfSome o (λ chain. Contains held chain × IsRxChain chain) → beside o held ≡ [] → held ≡ held_by o
held_only None held has none = none
held_only (Some chain) held has none = alone chain held has.0 none

held_rx : (o : Option Chain) (held : List Chain) → IfSome o (λ chain. Contains held chain × IsRxChain chain) → IfSome o IsRxChain
held_rx None held has = tt
held_rx (Some chain) held has = has.1

pub ring_of : (held held' : List Chain) (s s' : DeviceState) → IsRingOf held s → beside s'.chain held' ≡ beside s.chain held → IsAmong held' s' → IsRingOf held' s'
ring_of held held' s s' ring same has = record {
  chains = held_only s'.chain held' has (same ∙ held_alone s.chain held ring.chains);
  rx = held_rx s'.chain held' has;
}

-- the one that is held, and a chain that becomes so
pub held_one : (o : Option Chain) (c : Chain) (held : List Chain) → o ≡ Some c → IfSome o (λ chain. Contains held chain × IsRxChain chain)
    → Contains held c × IsRxChain c
held_one o c held is has = let P : Option Chain → Type 0 = λ x. IfSome x (λ chain. Contains held chain × IsRxChain chain) in subst P is has

pub beside_one : (o : Option Chain) (c : Chain) (held : List Chain) → o ≡ Some c → without c held ≡ beside o held
beside_one o c held is = sym (ap (λ (x : Option Chain). beside x held) is)

pub same_among : (held held' : List Chain) (s s' : DeviceState) → held' ≡ held → s'.chain ≡ s.chain → IsAmong held s → IsAmong held' s'
same_among held held' s s' same chain has =
    let P : Option Chain → Type 0 = λ o. IfSome o (λ c. Contains held c × IsRxChain c) in
    let Q : List Chain → Type 0 = λ xs. IfSome s'.chain (λ c. Contains xs c × IsRxChain c) in
    subst Q (sym same) (subst P (sym chain) has)

pub same_ring : (held held' : List Chain) (s s' : DeviceState) → held' ≡ held → s'.chain ≡ s.chain → IsRingOf held s → IsRingOf held' s'
same_ring held held' s s' same chain ring = record {
  chains = same ∙ (ring.chains ∙ ap held_by (sym chain));
  rx = let P : Option Chain → Type 0 = λ o. IfSome o IsRxChain in subst P (sym chain) ring.rx;
}

pub none_among : (o : Option Chain) (held : List Chain) → o ≡ None → IfSome o (λ chain. Contains held chain × IsRxChain chain)
none_among o held none = let P : Option Chain → Type 0 = λ x. IfSome x (λ chain. Contains held chain × IsRxChain chain) in subst P (sym none) tt
