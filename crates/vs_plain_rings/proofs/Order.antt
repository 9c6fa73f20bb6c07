-- Both ends stay in order.
use Rattle.std.proofs.Common.{◌≡◌, sym, ◌∙◌}
use Rattle.vs_ring_plain.specs.Device.{DeviceState, SamePlace}
use Rattle.vs_plain_driver.specs.Queue.{DriverQueueState}
use Rattle.laws_plain_rings.specs.Parts.{PartsState}
use Rattle.vs_plain_rings.specs.View.{AreInOrder}

-- with another device, whose queues and memory lie where they did
pub order_device : (p : PartsState) (d : DeviceState) → AreInOrder p → SamePlace p.device d → AreInOrder (record p { device = d })
order_device p d order same = record {
  rx_size = order.rx_size ∙ sym same.same_size;
  tx_size = order.tx_size ∙ sym same.same_size;
  event_size = order.event_size ∙ sym same.same_size;
  rx_pages = rw (same.base, same.bytes) order.rx_pages;
  tx_pages = rw (same.base, same.bytes) order.tx_pages;
  event_pages = rw (same.base, same.bytes) order.event_pages;
  low = order.low;
  high = order.high;
}

pub order_rx : (p : PartsState) (q : DriverQueueState) (d : DeviceState) → AreInOrder p → SamePlace p.device d → q.n ≡ p.rx.n
    → q.pages_at ≡ p.rx.pages_at → AreInOrder (record p { device = d; rx = q })
order_rx p q d order same size at =
    let o = order_device p d order same in
    record {
      rx_size = size ∙ o.rx_size;
      tx_size = o.tx_size;
      event_size = o.event_size;
      rx_pages = rw (size, at) o.rx_pages;
      tx_pages = o.tx_pages;
      event_pages = o.event_pages;
      low = order.low;
      high = order.high;
    }

pub order_tx : (p : PartsState) (q : DriverQueueState) (d : DeviceState) → AreInOrder p → SamePlace p.device d → q.n ≡ p.tx.n
    → q.pages_at ≡ p.tx.pages_at → AreInOrder (record p { device = d; tx = q })
order_tx p q d order same size at =
    let o = order_device p d order same in
    record {
      rx_size = o.rx_size;
      tx_size = size ∙ o.tx_size;
      event_size = o.event_size;
      rx_pages = o.rx_pages;
      tx_pages = rw (size, at) o.tx_pages;
      event_pages = o.event_pages;
      low = order.low;
      high = order.high;
    }

pub order_event : (p : PartsState) (q : DriverQueueState) (d : DeviceState) → AreInOrder p → SamePlace p.device d → q.n ≡ p.event.n
    → q.pages_at ≡ p.event.pages_at → AreInOrder (record p { device = d; event = q })
order_event p q d order same size at =
    let o = order_device p d order same in
    record {
      rx_size = o.rx_size;
      tx_size = o.tx_size;
      event_size = size ∙ o.event_size;
      rx_pages = o.rx_pages;
      tx_pages = o.tx_pages;
      event_pages = rw (size, at) o.event_pages;
      low = order.low;
      high = order.high;
    }
