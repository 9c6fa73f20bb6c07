use Rattle.std.proofs.Common.{ℕ, List, ◌∷◌, ◌+◌, ◌<◌, ◌%◌, sym, ap, ap₂, ◌∙◌, subst, arith}
use Rattle.vs_ring_port.specs.{EndLog.entries_taken, Lists.chain_with, declared.device_ring.Chain.Chain}
use Rattle.vs_ring_rule.{specs.{declared.view.QueueView.QueueView, OneQueue.{Page, taken, times}, Rule.{Seated, queue_in}, Steps.took}, proofs.Ways.times_here}
use Rattle.vs_ring_shared.{specs.{DeviceStates.DeviceGets, Holdings.Holding, declared.device_queue.DeviceQueue.DeviceQueue}, proofs.{Known.entry_place, Queues.there_logged}}
use Rattle.vs_ring_shared.proofs.Reaps as reaps
use Rattle.vs_ring_shared.proofs.Takes as takes
use Rattle.vs_ring_shared.proofs.device_queue.get_chain.Goals as goal

pub lay-requires-clause-held : goal.lay-requires-clause-held
lay-requires-clause-held c =
    let queue = c.args.queue in
    let v = c.read_entry-slot.new.self.token.me.0 in
    let slot = c.read_entry-slot.result in
    let k = c.take.ensures.told.1 in
    let of : Seated → List ℕ = λ m. (queue_in queue m.0).held in
    let held = ap of c.take_out-page.ensures.me ∙ ap of k.4
    ∙ ap (λ (z : QueueView). z.held) (there_logged queue (took slot k.0 (queue_in queue v)) (entries_taken queue k.0 v.log) v) in
    subst (λ (l : List ℕ). 0 < times slot l) (sym held) (times_here slot (queue_in queue v).held)

pub hold-requires : goal.hold-requires
hold-requires c = let s = c.requires.numbers in omega (arith, c.requires.there, s.most, s.holds, c.requires.room)

pub returns-clause-gets : goal.returns-clause-gets
returns-clause-gets c =
    let n = c.args.port.now.size in
    let queue = c.args.queue in
    let me = c.args.port.now.token.me in
    let q = queue_in queue me.0 in
    let d = c.args.numbers.now in
    let s = c.requires.numbers in
    let e = c.read_entry-slot.ensures.told in
    let k = c.take.ensures.told.1 in
    let slot = c.read_entry-slot.result in
    let page = reaps.same_page _ _ k.0 c.take_out-page.result _ _ (sym (ap (λ (m : Seated). m.1) k.4) ∙ c.take_out-page.ensures.page) in
    let d' : DeviceQueue = record { given = d.given; taken = (d.taken + 1) % 65536; shown = d.shown } in
    let place = entry_place n (taken q) d.taken c.ring_place-place.result c.args.port.now.sized s.taken_is c.ring_place-place.ensures in
    let old = c.args.held.now in
    let hold : Chain → List ℕ → Holding =
    λ chain bytes. record old { pages = record { chain = chain; slot = slot; page = bytes } ∷ old.pages } in
    record {
      slot = slot;
      page = c.take_out-page.result;
      gets = subst (λ (p : Page). DeviceGets n queue slot p me c.lay.new.self.token.me d') page
          (takes.gets_page n queue me c.read_entry-slot.new.self.token.me c.take.new.self.token.me c.take_out-page.new.self.token.me
          c.lay.new.self.token.me d' slot k.0 (ap (λ (m : Seated). m.0) e.1) (ap (λ (m : Seated). m.0) k.4)
          (ap (λ (m : Seated). m.0) c.take_out-page.ensures.me) c.lay.ensures.me k.2 k.3
          (takes.taken_after n q d.given d.taken d.shown s slot k.0 c.requires.there e.0));
      chain_is = c.chain_for-chain.ensures.chain ∙ ap (λ (z : ℕ). chain_with queue z c.take_out-page.result) place;
      held_is = c.hold.ensures ∙ ap₂ hold c.twin.ensures c.chain_for-chain.ensures.page;
    }
