use Rattle.std.{proofs.Common.{ℕ, ◌+◌, ◌%◌, List, ◌∷◌, length, sym, ap, ◌∙◌, subst}, specs.VecDeque.deque_capacity}
use Rattle.vs_ring_rule.specs.{OneQueue.Page, Rule.{Seated, queue_in}, Steps.{laid, took}}
use Rattle.vs_ring_shared.specs.{DriverStates.{GetsBack, IsDriverQueue}, declared.driver_queue.DriverQueue.DriverQueue}
use Rattle.vs_ring_shared.proofs.Reaps as reaps
use Rattle.vs_ring_shared.proofs.driver_queue.get_back.Goals as goal

pub returns-clause-gets : goal.returns-clause-gets
returns-clause-gets c =
    let n = c.args.port.now.size in
    let queue = c.args.queue in
    let me = c.args.port.now.token.me in
    let q = queue_in queue me.0 in
    let s = c.requires.numbers in
    let small = c.args.port.now.sized.1 in
    let k = c.reap-element.ensures.told in
    let slot = reaps.slot_of n k.0 (length k.1) c.reap-element.result small k.2 k.3 in
    let d = c.args.numbers.now in
    let free = c.push_front_reserved.ensures.items ∙ ap (λ (z : ℕ). z ∷ d.free.items) slot in
    let after = reaps.reaped_after n q d.free.items (deque_capacity d.free) d.offered d.taken d.staged d.shown s k.0 k.1 c.requires.there k.2 in
    let page = reaps.same_page _ _ k.1 c.take_out-page.result _ _ (sym (ap (λ (m : Seated). m.1) k.5) ∙ c.take_out-page.ensures.page) in
    let after_all = laid (took k.0 k.1 q) in
    let d' : DriverQueue =
    record { free = c.push_front_reserved.new.self; offered = d.offered; staged = d.staged; taken = (d.taken + 1) % 65536; shown = d.shown } in
    subst (λ (p : Page). GetsBack n queue p me c.lay.new.self.token.me d') page
    (reaps.got_back n queue me c.reap-element.new.self.token.me c.take_out-page.new.self.token.me c.lay.new.self.token.me d' k.0 k.1
    (ap (λ (m : Seated). m.0) k.5) (ap (λ (m : Seated). m.0) c.take_out-page.ensures.me) c.lay.ensures.me k.4
    (subst (λ (l : List ℕ). IsDriverQueue n after_all l (deque_capacity c.push_front_reserved.new.self) d'.offered d'.taken d'.staged d'.shown) (sym free)
    (subst (λ (r : ℕ). IsDriverQueue n after_all (k.0 ∷ d.free.items) r d'.offered d'.taken d'.staged d'.shown)
    (sym c.push_front_reserved.ensures.capacity) after)))
