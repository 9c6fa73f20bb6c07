-- What both ends count is what the lists say.
use Rattle.std.proofs.Common.{◌≡◌, ℕ, ◌+◌, cond, List, [], ◌∷◌, length, length-append, map, refl, sym, ap₂, ◌∙◌, arith}
use Rattle.vs_ring_port.specs.{Chains.{Held, chains_of, held_of, same_queue}, declared.queue.Queue.TheVariants.{Rx, Tx, Event}}
use Rattle.vs_ring_port.specs.{Counts.Counts, EndLog.pages_at, Lists.queue_of, declared.device_ring.Chain.Chain, declared.queue.Queue.Queue}
use Rattle.vs_ring_list.{specs.Ends.Ends, specs.Ends.in_flight, proofs.Flights.held_of-cons}
use Rattle.vs_ring_plain.specs.Device.{HeldChain}
use Rattle.vs_plain_driver.specs.Queue.{flight_in}
use Rattle.laws_plain_rings.specs.{Tie.{AreHeldAs, AreTied, heads_of, shown_of, start_of}, Parts.{PartsState, driver_at}, Shown.Shown}
use Rattle.laws_plain_rings.proofs.{Rows.back_length, Rows.out_length, Held.heads_length}
use Rattle.vs_plain_rings.specs.Counted.{AreCounted}

-- the chains that the device holds
heads_held : (at : Queue → ℕ) (s : Queue → Shown) (q : Queue) (held : List HeldChain) (chains : List Held) → AreHeldAs at s held chains
    → length (heads_of q held) ≡ held_of q chains
heads_held at s q [] [] all = refl
heads_held at s q [] (g ∷ chains) all = absurd all
heads_held at s q (h ∷ held) [] all = absurd all
heads_held at s q (h ∷ held) (g ∷ chains) (one, all) =
    heads_length q h held
    ∙ (ap₂ (λ (c : Chain) (n : ℕ). cond (same_queue q c.queue) 1 0 + n) one.chain (heads_held at s q held chains all)
    ∙ sym (held_of-cons q g chains))

chains_as : (at : Queue → ℕ) (s : Queue → Shown) (held : List HeldChain) (chains : List Held) → AreHeldAs at s held chains
    → map (λ (h : HeldChain). h.chain) held ≡ chains_of chains
chains_as at s [] [] all = refl
chains_as at s [] (g ∷ chains) all = absurd all
chains_as at s (h ∷ held) [] all = absurd all
chains_as at s (h ∷ held) (g ∷ chains) (one, all) =
    ap₂ (λ (c : Chain) (cs : List Chain). c ∷ cs) one.chain (chains_as at s held chains all)

module _ (p : PartsState) (w : Ends) (tied : AreTied p w) where
  flown : (queue : Queue) → flight_in (driver_at queue p) ≡ in_flight queue w
  flown queue =
      let t = tied.queues queue in
      let q = driver_at queue p in
      let out = out_length queue _ _ _ _ _ _ t.2.given_out in
      let back = back_length _ _ _ _ _ t.2.back_is in
      omega (
        arith,
        t.2.all,
        tied.sizes queue,
        out,
        back,
        length-append (queue_of queue w.lists).given (pages_at queue w.driver.staged),
        heads_held (start_of p) (shown_of p) queue p.device.held w.device.held tied.held,
      )

  staged_as : (queue : Queue) → (driver_at queue p).staged ≡ length (pages_at queue w.driver.staged)
  staged_as queue = (tied.queues queue).2.staged_count

  same_counts : (f g : Counts) → f.rx ≡ g.rx → f.tx ≡ g.tx → f.event ≡ g.event → f ≡ g
  same_counts f g rx tx event = λ i. record { rx = rx i; tx = tx i; event = event i }

  pub are_counted : AreCounted p w
  are_counted = record {
    size = sym tied.size;
    flight = same_counts _ _ (flown Rx) (flown Tx) (flown Event);
    staged = same_counts _ _ (staged_as Rx) (staged_as Tx) (staged_as Event);
    held = chains_as (start_of p) (shown_of p) p.device.held w.device.held tied.held;
  }
