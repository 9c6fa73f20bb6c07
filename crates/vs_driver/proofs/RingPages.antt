-- What the steps on the ring's pages come to.
use Rattle.std.proofs.Common.{◌≡◌, ℕ, List, refl, sym, ap, subst, ◌∙◌}
use Rattle.vs_ring_port.specs.{declared.queue.Queue.TheVariants.Tx, Counts.Counts, Contents.RingContents, DriverCalls.{Stage, Publish}}
use Rattle.vs_driver_parts.specs.{State.DriverState, Conversations.{stage_of, post_packet, stage_packet, one_more_in_flight}}
use Rattle.vs_driver_parts.specs.Playing.{IsRingOf, MayPublishAll, Plays, RingAllows, SamePages}

-- a page was staged and published
pub posted : (bytes page : List ℕ) (g h : DriverState) (s m t : RingContents) → page ≡ bytes → h ≡ one_more_in_flight g
    → RingAllows (Stage Tx page) tt s m → RingAllows (Publish Tx) tt m t → Plays (post_packet bytes g) s h t
posted bytes page g h s m t same after staged published =
    let P : List ℕ → Type 0 = λ b. RingAllows (Stage Tx b) tt s m in
    (tt, m, subst P same staged, (tt, t, published, (sym after, refl)))

-- a packet is staged
pub may_stage : (bytes page : List ℕ) (g h : DriverState) (s : RingContents) → page ≡ bytes → h ≡ one_more_in_flight g
    → MayPublishAll (stage_packet bytes g) s → MayPublishAll (stage_of Tx page h) s
may_stage bytes page g h s same after may =
    let P : List ℕ → Type 0 = λ b. MayPublishAll (stage_of Tx b h) s in
    let Q : DriverState → Type 0 = λ x. MayPublishAll (stage_of Tx bytes x) s in
    subst P (sym same) (subst Q (sym after) may)

pub packet_staged : (bytes page : List ℕ) (g h new : DriverState) (s t : RingContents) → page ≡ bytes → h ≡ one_more_in_flight g
    → Plays (stage_of Tx page h) s new t → Plays (stage_packet bytes g) s new t
packet_staged bytes page g h new s t same after plays =
    let P : List ℕ → Type 0 = λ b. Plays (stage_of Tx b h) s new t in
    let Q : DriverState → Type 0 = λ x. Plays (stage_of Tx bytes x) s new t in
    subst Q after (subst P same plays)

-- a ring stays the driver's where its pages stay, and where transmit pages alone come and go
module _ (n : ℕ) (f w : Counts) (g h : DriverState) (same : SamePages g h) where
  pub ring_same : IsRingOf n f w g → IsRingOf n f w h
  ring_same ring = record {
    size = same.0 ∙ ring.size;
    flight = ring.flight ∙ ap (λ (k : ℕ). let c : Counts = record { rx = n; tx = k; event = n } in c) (sym same.1);
    staged = ring.staged;
    none = same.2 ∙ ring.none;
  }

pub ring_after_reap : (n m : ℕ) (f f' v w : Counts) (g h : DriverState) → m ≡ n → f' ≡ record f { tx = h.in_flight } → w ≡ v
    → h ≡ record g { in_flight = h.in_flight } → IsRingOf n f v g → IsRingOf m f' w h
ring_after_reap n m f f' v w g h size flight staged others ring = record {
  size = ap (λ (x : DriverState). x.size) others ∙ (ring.size ∙ sym size);
  flight = flight ∙ (ap (λ (c : Counts). let d : Counts = record c { tx = h.in_flight } in d) ring.flight
      ∙ ap (λ (k : ℕ). let d : Counts = record { rx = k; tx = h.in_flight; event = k } in d) (sym size));
  staged = staged ∙ ring.staged;
  none = ap (λ (x : DriverState). x.staged) others ∙ ring.none;
}
