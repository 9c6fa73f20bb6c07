-- Each list of lines of a hostile guest's script is safe.
use Rattle.std.proofs.Common.{[], List, refl}
use Rattle.vs_hostile.specs.{Answer.state_after, Run.{HostileState, beginning}}
use Rattle.laws_proxy.{proofs.Account.Carrying.carries, specs.Account.Counts.counts_shown}
use Rattle.laws_hostile.{specs.{Isolated.IsSafe, Recorded.calls_of}, proofs.{Failing.{reset_stays, turn_stays}, Lines.{beginning_holds, run_holds, run_isolated}}}
use Rattle.laws_hostile.proofs.Packets.{lines_counted, lines_judged}
use Rattle.vs_script.specs.Hostile.{Hostile}

pub each_safe : (lines : List Hostile) → IsSafe lines
each_safe lines =
    let last : HostileState = state_after lines beginning in
    record {
      streams = run_isolated lines;
      carried = carries (calls_of lines beginning []) last.proxy.device.table last.proxy.handshakes (run_holds lines).accounts;
      packets = lines_judged lines beginning [] beginning_holds;
      counts = lines_counted (counts_shown beginning.proxy.device) lines beginning [] beginning_holds refl;
      kept = λ ring f rings is. record {
        turn = turn_stays ring last f rings is;
        reset = λ cid. reset_stays ring last cid f rings is;
      };
    }
