-- A turn that did nothing read each line, and each gave Again; and no client waited, where a place was free and no fault was counted.
use Rattle.std.proofs.lemmas.Grind.{common_steps}
use Rattle.std.proofs.Common.{◌≡◌, ◌<◌, ◌⊎◌, inl, inr, ℕ, Bool, true, false, List, [], ◌∷◌, length, get_or, Option, Some, None, refl, sym, ap, subst, ◌∙◌, arith}
use Rattle.std.{proofs.lemmas.List.Elements.Contains-get_or}
use Rattle.vs_header.specs.declared.Header.{Header}
use Rattle.vs_outside.specs.Host.{HostContents}
use Rattle.vs_ring_port.specs.declared.{device_ring.{Chain.Chain, Next.Next}}
use Rattle.vs_limits.specs.declared.TheConstants.{HANDSHAKES}
use Rattle.vs_device_parts.specs.{Calls.Situation, Playing.Runs, Receiving.written, State.DeviceState}
use Rattle.vs_proxy_parts.specs.{State.{Handshake, ProxyState, Turning}, Turns.{fill_stage, pump_stage, turn_of, unless_failed}, declared.answers.{Turn.Turn, Turned.Turned}}
use Rattle.laws_device.specs.Carried.Streamed.{HasHand}
use Rattle.laws_device.proofs.Walk.{Fields.{AfterEventPage, Calls, Fields, after_rx, faulted}, Keeping.Keeps, Serving.{keeps_fill_rx, keeps_pump}, Turning.{Between, Turns, keeps_fill_stage}}
use Rattle.laws_device.proofs.Walk.Turning.{keeps_pump_stage, keeps_unless}
use Rattle.laws_settled.{specs.Settled.LacksPages, proofs.Quieting.{LastLines, fill_lacks, last_lines}}
use Rattle.laws_run.specs.Dry.{AreLinesIdle, IsToldDry, IsToldTaken}
use Rattle.laws_run.proofs.{Drying.{Calm, allowed, calm_both, keeps_run, stage_dry}, Pumping.stage_calm, Shaking.{Shakes, some_fault, stage_shakes}}
use Rattle.vs_ring_port.specs.declared.device_ring.Next.TheVariants as next
use Rattle.vs_proxy_parts.specs.declared.answers.Turn.TheVariants as turn
use Rattle.laws_device.proofs.Walk.Fields as walk

-- Where no fault is counted at the end of a stage, none was before it.
module _ (first : ℕ) where
  abbrev P : Option Chain → Fields → Situation → Type 0
  P page n c = n.faults ≡ 0 → first ≡ 0

  kept : (b : Bool) (n : Fields) → (n.faults ≡ 0 → first ≡ 0) → (faulted b n).faults ≡ 0 → first ≡ 0
  kept true n at none = absurd (some_fault n.faults none)
  kept false n at none = at none

  rx_page : (a : Next) (n : Fields) (d : Situation) → P None n d → P None (after_rx a n) d
  rx_page a n d at = grind (arith, common_steps)

  event_page : (a : Next) (n : Fields) (d : Situation) → P None n d → AfterEventPage allowed P a n d
  event_page a n d at = grind (arith, common_steps)

  puts_packet : (chain : Chain) (h : Header) (payload : List ℕ) (n : Fields) (c : Situation) → P None n c
      → Keeps allowed (λ x d. P None (record n { chain = None }) d) (written chain h payload) c
  puts_packet chain h [] n c at = λ a d one b e two. at
  puts_packet chain h (x ∷ payload) n c at = λ a d one b e two y f three. at

  calls : Calls allowed P
  calls = grind (arith, common_steps, kept, rx_page, event_page, puts_packet)

  abbrev Of : Turning → Situation → Type 0
  Of = Turns allowed (Between (walk.D allowed P))

  pumps_faults : (t u : Turning) (c d : Situation) → Runs (unless_failed pump_stage t) c u d → Of t c → Of u d
  pumps_faults t u c d runs at = keeps_run Of (unless_failed pump_stage t) c d u
      (keeps_unless allowed (Between (walk.D allowed P)) pump_stage (keeps_pump_stage allowed (Between (walk.D allowed P))
      (λ hands port. keeps_pump allowed (walk.D allowed P hands) (walk.closes allowed P calls hands) (walk.writes allowed P calls hands))) t c at) runs

  fills_faults : (t u : Turning) (c d : Situation) → Runs (unless_failed fill_stage t) c u d → Of t c → Of u d
  fills_faults t u c d runs at = keeps_run Of (unless_failed fill_stage t) c d u
      (keeps_unless allowed (Between (walk.D allowed P)) fill_stage (keeps_fill_stage allowed (Between (walk.D allowed P))
      (λ hands port. keeps_fill_rx allowed (walk.D allowed P hands) (walk.closes allowed P calls hands) (walk.fills allowed P calls hands))) t c at) runs

-- Or the turn stopped for want of a page.
pub turn_lines : (size now : ℕ) (s : ProxyState) (a b : Situation) (x : ProxyState × Turn) (t : Turned) → Runs (turn_of size now s) a x b
    → x.1 ≡ turn.Turned t → t.put ≡ 0 → t.wrote ≡ 0 → t.hands ≡ 0 → t.read ≡ 0 → AreLinesIdle x.0 b.host ⊎ LacksPages x.0.device b.ring
turn_lines size now s a b x t runs answer none none_written none_shaken none_read =
    let last = last_lines size now s a b x t runs answer none in by last last.fill.filling.over refl
  where
    by : (last : LastLines b x.0 t) (o : Bool) → last.fill.filling.over ≡ o → AreLinesIdle x.0 b.host ⊎ LacksPages x.0.device b.ring
    by last true over = inr (subst (λ (d : DeviceState). LacksPages d b.ring) (sym last.fill.state) (fill_lacks last.fill over))
    by last false on =
        let fill = last.fill in
        let stage = stage_dry fill.before fill.middle b fill.filling fill.runs fill.none on in
        let wrote = fill.wrote in
        let calm = calm_both fill.began.host fill.middle.host b.host
        (stage_calm fill.earlier fill.began fill.middle fill.writing fill.pumps (omega (arith, wrote, none_written))) stage.1.calm in
        let hands = last.hands in
        let less = last.read in
        inl (read_so calm (stage_shakes last.start last.from last.first fill.began last.shakes (omega (arith, hands, less, none_shaken, none_read))))
      where
        untold_dry : (o : Option HostContents) → o ≡ None → (id : ℕ) → IsToldDry id o
        untold_dry o none id h there = absurd (let no : ◌≡◌ {A = Option HostContents} None (Some h) = sym none ∙ there in cc)

        untold_taken : (o : Option HostContents) → o ≡ None → (id : ℕ) → IsToldTaken id o
        untold_taken o none id h there = absurd (let no : ◌≡◌ {A = Option HostContents} None (Some h) = sym none ∙ there in cc)

        no_faults : x.0.device.faults ≡ 0 → last.first.state.device.faults ≡ 0
        no_faults is =
            fills_faults last.first.state.device.faults last.before last.last last.fill.middle b last.fills
            (pumps_faults last.first.state.device.faults last.first last.before last.fill.began last.fill.middle last.pumps (λ same. same))
            (ap (λ (d : DeviceState). d.faults) last.then ∙ is)

        read_so : Calm last.fill.began.host b.host → (last.fill.began.host ≡ None) ⊎ Shakes last.first last.fill.began → AreLinesIdle x.0 b.host
        read_so calm (inl none) = record {
          read = λ i h within. let line : Handshake = get_or x.0.handshakes i h in calm.dry line.stream (untold_dry last.fill.began.host none line.stream);
          waits = λ room faults id. calm.taken id (untold_taken last.fill.began.host none id);
        }
        read_so calm (inr shaken) = record {
          read = λ i h within.
              let line : Handshake = get_or x.0.handshakes i h in
              calm.dry line.stream (shaken.dry line.stream
              (subst (λ (hs : List Handshake). HasHand hs line.stream) (sym last.lines) (line, Contains-get_or x.0.handshakes i h within, refl)));
          waits = λ room faults id. calm.taken id (shaken.waits (subst (λ (hs : List Handshake). length hs < HANDSHAKES) (sym last.lines) room) (no_faults faults) id);
        }
