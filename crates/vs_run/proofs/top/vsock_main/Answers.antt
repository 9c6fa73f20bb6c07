use Rattle.std.proofs.Common.{◌≡◌, Option, Some, map, string_bytes}
use Rattle.vs_peer.specs.Ends.{Lent}
use Rattle.vs_words.specs.Command.{Command, Hostile, command_of}
use Rattle.vs_run.{specs.Does.lent, proofs.Causes.{attack_written, device_failed, fault_written, host_kept, no_script_at_2, play_written, run_refused, run_written}}
use Rattle.vs_run.proofs.Statuses.{cause_at, is_known}
use Rattle.laws_hostile.proofs.Safe.{each_safe}
use Rattle.laws_play.proofs.Lawful.{each_script}
use Rattle.vs_run.proofs.top.vsock_main.Goals as goal

-- the command, and all that it is lent, before it and after it
abbrev said : (g : _) (c : goal.After-run g) → Option Command
said g c = command_of (map string_bytes c.args.words.now)

abbrev was : (g : _) (c : goal.After-run g) → Lent
was g c = lent (g.S.Source.contents c.args.script.now) (g.H.HostNet.contents c.args.host.now) (g.K.Sink.contents c.args.out.now)
    (g.S.Source.faults c.args.script.now) (g.H.HostNet.faults c.args.host.now) (g.K.Sink.faults c.args.out.now) (g.G.Gate.pauses c.args.gate.now)

abbrev is_now : (g : _) (c : goal.After-run g) → Lent
is_now g c = lent (g.S.Source.contents c.run.new.script) (g.H.HostNet.contents c.run.new.host) (g.K.Sink.contents c.run.new.out)
    (g.S.Source.faults c.run.new.script) (g.H.HostNet.faults c.run.new.host) (g.K.Sink.faults c.run.new.out) (g.G.Gate.pauses c.run.new.gate)

pub returns-clause-plays : goal.returns-clause-plays
returns-clause-plays g c = λ kind queue first text is few same told.
    play_written (said g c) (was g c) (is_now g c) c.run.result kind queue first text is c.run.ensures.does few same told

pub returns-clause-attacks : goal.returns-clause-attacks
returns-clause-attacks g c = λ text is few same told.
    attack_written (said g c) (was g c) (is_now g c) c.run.result text is c.run.ensures.does few same told

pub returns-clause-status_2 : goal.returns-clause-status_2
returns-clause-status_2 g c = λ two text told. no_script_at_2 (said g c) (was g c) (is_now g c) c.run.result text c.run.ensures.does two told

pub returns-clause-headline : goal.returns-clause-headline
returns-clause-headline g c = each_script

pub returns-clause-isolated : goal.returns-clause-isolated
returns-clause-isolated g c = λ text lines is. each_safe (map (λ l. l.1) lines)

pub returns-clause-status_1 : goal.returns-clause-status_1
returns-clause-status_1 g c = λ is. cause_at (said g c) (was g c) (is_now g c) c.run.result 1 c.run.ensures.does is

pub returns-clause-status_3 : goal.returns-clause-status_3
returns-clause-status_3 g c = λ is. cause_at (said g c) (was g c) (is_now g c) c.run.result 3 c.run.ensures.does is

pub returns-clause-status_4 : goal.returns-clause-status_4
returns-clause-status_4 g c = λ is. cause_at (said g c) (was g c) (is_now g c) c.run.result 4 c.run.ensures.does is

pub returns-clause-status_5 : goal.returns-clause-status_5
returns-clause-status_5 g c = λ is. cause_at (said g c) (was g c) (is_now g c) c.run.result 5 c.run.ensures.does is

pub returns-clause-status_6 : goal.returns-clause-status_6
returns-clause-status_6 g c = λ is. cause_at (said g c) (was g c) (is_now g c) c.run.result 6 c.run.ensures.does is

pub returns-clause-status_8 : goal.returns-clause-status_8
returns-clause-status_8 g c = λ is. cause_at (said g c) (was g c) (is_now g c) c.run.result 8 c.run.ensures.does is

pub returns-clause-statuses : goal.returns-clause-statuses
returns-clause-statuses g c =
    is_known (said g c) (was g c) (is_now g c) c.run.result c.run.ensures.does

pub returns-clause-runs : goal.returns-clause-runs
returns-clause-runs g c = λ base queue idle first text apps is few same told parsed.
    run_written (said g c) (was g c) (is_now g c) c.run.result base queue idle first text is c.run.ensures.does few same told apps parsed

pub returns-clause-refused_run : goal.returns-clause-refused_run
returns-clause-refused_run g c = λ base queue idle first text r is few same told parsed.
    let refused = run_refused (said g c) (was g c) (is_now g c) c.run.result base queue idle first text is c.run.ensures.does few same told r parsed in
    (refused.0, refused.1.0, refused.1.1)

pub returns-clause-host : goal.returns-clause-host
returns-clause-host g c = λ none. host_kept (said g c) (was g c) (is_now g c) c.run.result c.run.ensures.does none

pub returns-clause-fault : goal.returns-clause-fault
returns-clause-fault g c = λ none differs.
    let failed = fault_written (said g c) (was g c) (is_now g c) c.run.result c.run.ensures.does none differs in
    (failed.0, failed.1.0, failed.1.1)

pub returns-clause-status_7 : goal.returns-clause-status_7
returns-clause-status_7 g c = λ seven.
    let is : said g c ≡ Some Hostile = cause_at (said g c) (was g c) (is_now g c) c.run.result 7 c.run.ensures.does seven in (
      is,
      device_failed (command_of (map string_bytes c.args.words.now))
          (lent (g.S.Source.contents c.args.script.now) (g.H.HostNet.contents c.args.host.now) (g.K.Sink.contents c.args.out.now)
          (g.S.Source.faults c.args.script.now) (g.H.HostNet.faults c.args.host.now) (g.K.Sink.faults c.args.out.now) (g.G.Gate.pauses c.args.gate.now))
          (lent (g.S.Source.contents c.run.new.script) (g.H.HostNet.contents c.run.new.host) (g.K.Sink.contents c.run.new.out)
          (g.S.Source.faults c.run.new.script) (g.H.HostNet.faults c.run.new.host) (g.K.Sink.faults c.run.new.out) (g.G.Gate.pauses c.run.new.gate)) c.run.result c.run.ensures.does is seven,
    )
