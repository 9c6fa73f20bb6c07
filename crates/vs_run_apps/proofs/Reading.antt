-- In the last round the device read each stream that it may read, and none had anything to be taken; and wrote to each to which it has something to
-- write, and none took any.
use Rattle.std.proofs.Common.{◌≡◌, ◌+◌, ◌<◌, ◌⊎◌, inl, inr, List, [], ◌∷◌, length, refl, sym, ap, ◌∙◌, arith}
use Rattle.vs_ring_port.specs.{Chains.{Held, chains_of, held_of}, declared.queue.Queue.{Queue, TheVariants.Rx}}
use Rattle.vs_ring_rule.specs.declared.view.Past.{Past}
use Rattle.vs_ring_shared.specs.{Meetings.after_hearing, Sights.{device_contents, driver_contents, known_of, sight_in}}
use Rattle.vs_device_parts.specs.Playing.{IsItsRing, held_by, situation}
use Rattle.vs_proxy_parts.specs.{Turns.turn_of}
use Rattle.vs_proxy_parts.specs.declared.answers.Turn.TheVariants as turn
use Rattle.vs_apps_parts.specs.Scripts.{RunScript}
use Rattle.vs_apps.specs.Guests.{GuestsState}
use Rattle.laws_settled.{specs.Settled.IsSettled, specs.Settled.LacksPages, proofs.Quieting.turn_sound, proofs.Steady.told_runs, proofs.Taking.poll_takes_none}
use Rattle.laws_run.{specs.Dry.{AreIdle, AreLinesIdle}, proofs.Pumping.turn_idle, proofs.Reading.turn_lines, proofs.Still.took_none}
use Rattle.vs_settle.specs.Rounds.{LastRound, no_turn}
use Rattle.vs_run_apps.specs.Sides.{SideState}

none_held : (held : List Held) → chains_of held ≡ [] → held_of Rx held ≡ 0
none_held [] is = refl
none_held (h ∷ held) is = absurd cc

module _ (script : RunScript) (g : GuestsState) (s : SideState) (last : LastRound script g s.proxy s.ring s.contents s.faults)
    (rest : IsSettled g.driver g.end s.proxy s.ring) (its : IsItsRing (chains_of s.ring.held) s.proxy.device) (some : 0 < s.ring.sight.size)
    (held : (queue : Queue) → length (sight_in queue s.ring.sight).put + held_of queue s.ring.held ≡ length (sight_in queue s.ring.sight).got) where
  -- The driver gave it more pages than it lacks.
  none_lacks : LacksPages s.proxy.device (device_contents last.over) → ⊥
  none_lacks lacks =
      let taken = lacks.taken (known_of last.over.sight) refl in
      let told : length last.over.sight.heard.rx.put ≡ length last.before.sight.heard.rx.put =
      told_runs (turn_of last.before.sight.size last.now last.was) (situation (device_contents last.before) last.host_was last.faults_were)
      (situation (device_contents last.over) s.contents s.faults) (s.proxy, turn.Turned no_turn) last.turn in
      let heard : length last.before.sight.heard.rx.put ≡ length last.stood.end.rx.put = ap (λ (x : Past). length x.rx.put) last.told in
      let same = last.same.taken in
      let holds = held Rx in
      let sound = turn_sound last.before.sight.size last.now last.was (situation (device_contents last.before) last.host_was last.faults_were)
      (situation (device_contents last.over) s.contents s.faults) (s.proxy, turn.Turned no_turn) no_turn last.turn refl in
      let zero : held_of Rx s.ring.held ≡ 0 = none_held s.ring.held ((its sound).chains ∙ ap held_by lacks.chain) in
      let flown = last.flown in
      let back : length g.end.rx.got ≡ length last.past.end.rx.got = ap (λ (x : GuestsState). length x.end.rx.got) last.ends in
      let none_back : length last.past.end.rx.got ≡ length last.stood.end.rx.got =
      poll_takes_none last.stood.driver last.past.driver (driver_contents (after_hearing last.heard last.stood.end)) (driver_contents last.past.end)
      last.polled last.polls.polls (took_none last.polled last.still) in
      let pages : length s.ring.sight.rx.put ≡ length g.end.rx.got = ap (λ xs. length xs) rest.rx_pages in
      let size : last.stood.end.size ≡ s.ring.sight.size = last.size ∙ sym last.same.size in
      omega (arith, taken, told, heard, same, holds, zero, flown, back, none_back, pages, size, some)

  pub all_idle : AreIdle s.proxy.device.table s.contents
  all_idle = by (turn_idle last.before.sight.size last.now last.was (situation (device_contents last.before) last.host_was last.faults_were)
      (situation (device_contents last.over) s.contents s.faults) (s.proxy, turn.Turned no_turn) no_turn last.turn refl refl refl)
    where
      by : AreIdle s.proxy.device.table s.contents ⊎ LacksPages s.proxy.device (device_contents last.over) → AreIdle s.proxy.device.table s.contents
      by (inl idle) = idle
      by (inr lacks) = absurd (none_lacks lacks)

  pub lines_idle : AreLinesIdle s.proxy s.contents
  lines_idle = by (turn_lines last.before.sight.size last.now last.was (situation (device_contents last.before) last.host_was last.faults_were)
      (situation (device_contents last.over) s.contents s.faults) (s.proxy, turn.Turned no_turn) no_turn last.turn refl refl refl refl refl)
    where
      by : AreLinesIdle s.proxy s.contents ⊎ LacksPages s.proxy.device (device_contents last.over) → AreLinesIdle s.proxy s.contents
      by (inl idle) = idle
      by (inr lacks) = absurd (none_lacks lacks)
