-- A turn publishes no CID, and puts no event where none is owed.
use Rattle.std.proofs.lemmas.Grind.{common_steps}
use Rattle.std.{proofs.Common.{◌≡◌, ◌≢◌, ℕ, false, Option, Some, None, sym, ap, subst, ◌∙◌, arith}, specs.Option.IfSome}
use Rattle.vs_contents.specs.{CallTree.{Ask, Done}}
use Rattle.vs_ring_port.specs.{Chains.chain_of, Contents.{PublishCid, Return, Take}}
use Rattle.vs_ring_port.specs.{declared.{device_ring.{Chain.Chain, Next.Next}, queue.Queue.{Queue, TheVariants.Event}}}
use Rattle.vs_ring_port.specs.declared.queue.Queue.TheVariants.{Rx, Tx}
use Rattle.vs_device_parts.specs.{Calls.{Allows, Answer, Call, DeviceTree, IsFitChain, Ring, Situation}, Playing.Runs}
use Rattle.vs_device_parts.specs.State.{DeviceState}
use Rattle.vs_proxy_parts.specs.{State.ProxyState, declared.answers.Turn.Turn, Turns.turn_of}
use Rattle.laws_device.proofs.Walk.{Fields.{AfterTx, Calls, Fields, TxCalls, fields_turn}, Keeping.{Asking, Keeps}}
use Rattle.laws_rest.specs.{Calm.{OwesNoEvent, resets_in}}
use Rattle.vs_ring_port.specs.declared.device_ring.Next.TheVariants as next

-- Such a call, and a chain that fits its queue.
abbrev IsCalm : Call → Type 0
IsCalm (Ring (Return chain len)) = chain.queue ≢ Event
IsCalm (Ring (PublishCid cid)) = ⊥
IsCalm call = Unit {0}

abbrev Fits : (call : Call) → Answer call → Type 0
Fits (Ring (Take queue)) next = IfSome (chain_of next) (λ chain. chain.queue ≡ queue)
Fits call a = Unit {0}

-- Such conversations.
abbrev calls : Asking (Unit {0})
calls = record {
  asks = λ call c P. IsCalm call × ((a : Answer call) → Fits call a → P a tt);
  weaker = λ call c P R then asks. (asks.0, λ a fit. then a tt (asks.1 a fit));
}

abbrev Calm : {A : Type 0} → (A → Type 0) → DeviceTree A → Type 0
Calm Q tree = Keeps calls (λ x c. Q x) tree tt

-- What is told of resets stays.
call_same : (call : Call) (a : Answer call) (s t : Situation) → IsCalm call → Allows call a s t → resets_in t.ring.log ≡ resets_in s.ring.log
call_same call a s t calm allowed = grind (arith, common_steps)

fits_next : (queue : Queue) (o : Option Chain) → IfSome o (λ chain. IsFitChain queue chain) → IfSome o (λ chain. chain.queue ≡ queue)
fits_next queue None fit = fit
fits_next queue (Some chain) fit = fit.queue_is

fits : (call : Call) (a : Answer call) (s t : Situation) → Allows call a s t → Fits call a
fits (Ring (Take queue)) a s t allowed = fits_next queue (chain_of a) allowed.3
fits _ a s t allowed = tt

calm_runs : {A : Type 0} (Q : A → Type 0) (tree : DeviceTree A) (s t : Situation) (x : A) → Calm Q tree → Runs tree s x t
    → Q x × (resets_in t.ring.log ≡ resets_in s.ring.log)
calm_runs Q (Done y) s t x calm runs = (subst Q runs.0 calm, ap (λ c. resets_in c.ring.log) (sym runs.1))
calm_runs Q (Ask call k) s t x calm runs =
    let rest = calm_runs Q (k runs.0) runs.1 t x (calm.1 runs.0 (fits call runs.0 s runs.1 runs.2)) runs.3 in
    (rest.0, rest.1 ∙ call_same call runs.0 s runs.1 calm.0 runs.2)

-- No event is owed, the chain that is held is one of rx, and a page that is taken one of tx.
abbrev P : Option Chain → Fields → Unit {0} → Type 0
P page n c = ((n.event_owed ≡ false) × IfSome n.chain (λ chain. chain.queue ≡ Rx)) × IfSome page (λ chain. chain.queue ≡ Tx)

abbrev Owes : DeviceState → Type 0
Owes s = OwesNoEvent s × Unit {0}

tx_other : (queue : Queue) → queue ≡ Tx → queue ≢ Event
tx_other queue is same = let both : Tx ≡ Event = sym is ∙ same in absurd cc

plain : Calls calls P
plain = grind (arith, common_steps)

taken : (a : Next) (n : Fields) → IfSome (chain_of a) (λ chain. chain.queue ≡ Tx) → P None n tt → AfterTx calls P a n tt
taken (next.Chain chain) n fit at =
    (tt, λ bytes any. record { short = λ no. at; drops = λ whole no. (at.0, fit); comes = λ whole kept. (at.0, fit) })
taken next.None n fit at = at
taken (next.Failed f) n fit at = at

tx_calls : TxCalls calls P
tx_calls = grind (arith, common_steps, taken, tx_other)

pub calm_turns : (size now : ℕ) (s : ProxyState) (a b : Situation) (x : ProxyState × Turn) → OwesNoEvent s.device → Runs (turn_of size now s) a x b
    → OwesNoEvent x.0.device × (resets_in b.ring.log ≡ resets_in a.ring.log)
calm_turns size now s a b x d runs =
    let same = calm_runs (λ (y : ProxyState × Turn). Owes y.0.device) (turn_of size now s) a b x
    (fields_turn calls P plain tx_calls size now s tt (d, tt)) runs in
    (same.0.0, same.1)
