use Rattle.std.proofs.Common.{◌≡◌, ◌*◌, ◌∙◌, ◌≤◌, refl, ap, length, arith}
use Rattle.vs_layout.specs.Layout.{queue_areas_of}
use Rattle.vs_ring_plain.specs.Device.{DeviceState}
use Rattle.laws_plain_rings.specs.Parts.{new_queue, pages_behind, pages_start}
use Rattle.vs_plain_rings.proofs.Making.{made, order_new, sized}
use Rattle.vs_plain_rings.proofs.parts.Parts.new.Goals as goal

module _ (c : goal.After-clear-3) where
  pages : c.pages_from-pages.result ≡ pages_start c.args.mem (queue_areas_of c.args.base c.args.n).event.end c.args.n
  pages = rw (c.pages_from-pages.ensures.exact, c.queue_areas-areas.ensures.exact, c.base.ensures, c.size.ensures.exact) refl

  size : c.in_ok-device.device.size ≡ c.args.n
  size = ap (λ (d : DeviceState). d.size) c.in_ok-device.ensures

  rx_is : c.in_ok-rx.rx ≡ new_queue c.args.n (pages_start c.args.mem (queue_areas_of c.args.base c.args.n).event.end c.args.n)
  rx_is = sized _ _ c.args.n _ c.in_ok-rx.ensures.queue size ∙ ap (new_queue c.args.n) pages

  tx_is : c.in_ok-tx.tx
      ≡ new_queue c.args.n (pages_behind (pages_start c.args.mem (queue_areas_of c.args.base c.args.n).event.end c.args.n)
      (4096 * c.args.n))
  tx_is =
      sized _ _ c.args.n _ c.in_ok-tx.ensures.queue (c.new-2.ensures.place.same_size ∙ size)
      ∙ ap (new_queue c.args.n) (c.behind-tx_pages.ensures ∙ ap (λ o. pages_behind o (4096 * c.args.n)) pages)

  event_is : c.in_ok-event.event
      ≡ new_queue c.args.n (pages_behind (pages_start c.args.mem (queue_areas_of c.args.base c.args.n).event.end c.args.n) (2
      * (4096 * c.args.n)))
  event_is =
      sized _ _ c.args.n _ c.in_ok-event.ensures.queue (c.new-3.ensures.place.same_size ∙ c.new-2.ensures.place.same_size ∙ size)
      ∙ ap (new_queue c.args.n) (c.behind-event_pages.ensures ∙ ap (λ o. pages_behind o (2 * (4096 * c.args.n))) pages)

pub invariant_of-result : goal.invariant_of-result
invariant_of-result c =
    order_new c.args.mem (queue_areas_of c.args.base c.args.n).event.end c.args.n _ from
    (c.clear-3.ensures.place.same_size ∙ c.clear-2.ensures.place.same_size ∙ c.clear.ensures.place.same_size
    ∙ c.new-4.ensures.place.same_size ∙ c.new-3.ensures.place.same_size ∙ c.new-2.ensures.place.same_size ∙ size c)
    (c.clear-3.ensures.place.base ∙ c.clear-2.ensures.place.base ∙ c.clear.ensures.place.base ∙ c.new-4.ensures.place.base
    ∙ c.new-3.ensures.place.base ∙ c.new-2.ensures.place.base ∙ ap (λ (d : DeviceState). d.memory.base) c.in_ok-device.ensures)
    (c.clear-3.ensures.place.bytes ∙ c.clear-2.ensures.place.bytes ∙ c.clear.ensures.place.bytes ∙ c.new-4.ensures.place.bytes
    ∙ c.new-3.ensures.place.bytes ∙ c.new-2.ensures.place.bytes ∙ ap (λ (d : DeviceState). length d.memory.bytes) c.in_ok-device.ensures)
    (rx_is c) (tx_is c) (event_is c) refl
  where
    from : c.args.mem.base ≤ (queue_areas_of c.args.base c.args.n).event.end
    from = omega (arith, c.requires.from)

pub returns : goal.returns
returns c =
    made c.args.mem c.args.base c.args.n c.args.indirect c.queue_areas-areas.result c.in_ok-device.device c.new-2.new.device
    c.new-3.new.device c.new-4.new.device c.clear.new.self c.clear-2.new.self c.clear-3.new.self c.in_ok-rx.rx c.in_ok-tx.tx
    c.in_ok-event.event c.queue_areas-areas.ensures.exact c.in_ok-device.ensures c.in_ok-rx.ensures.memory c.in_ok-tx.ensures.memory
    c.in_ok-event.ensures.memory c.clear.ensures.memory c.clear-2.ensures.memory c.clear-3.ensures.memory (rx_is c) (tx_is c) (event_is c)
