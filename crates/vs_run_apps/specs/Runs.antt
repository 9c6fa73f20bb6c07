-- What a run of apps ends in.
use Rattle.std.specs.{Prelude.{◌≡◌, ℕ, length}, Option.ForSome}
use Rattle.vs_flow.specs.Connection.{Connection}
use Rattle.vs_limits.specs.declared.TheConstants.{FIRST_CID}
use Rattle.vs_driver_parts.specs.Connections.{table_shown as guest_shown}
use Rattle.vs_device_parts.specs.{State.counters_of, Turns.table_shown as device_shown}
use Rattle.vs_proxy_parts.specs.State.{ProxyState}
use Rattle.vs_ring_shared.specs.{Countings.met_between, declared.counters.Met.Met}
use Rattle.vs_apps_parts.specs.Scripts.{RunScript}
use Rattle.laws_apps.specs.{Ports.ArePortsFrom, Runs.IsRunOf}
use Rattle.laws_settled.specs.{Begun.{AreUnaccepted, IsBegun, IsUnlabelled, Start}, Settled.{IsSettled, IsSteady}}
use Rattle.vs_apps.specs.Guests.{GuestsState, run_in}
use Rattle.vs_settle.specs.Rounds.{LastRound}
use Rattle.vs_report.specs.declared.giving.Totals.{Totals}
use Rattle.vs_run_report.specs.Right.{IsRightReport}
use Rattle.laws_run.specs.{Complete.IsCompleteRun, Dry.{AreClientsDry, AreIdle, AreLinesIdle}, Places.ArePlaceWaits}
use Rattle.vs_run_apps.specs.Sides.{SideState, around}

-- What the report of a run counts.
abbrev pub totals_of : GuestsState → ProxyState → Totals
totals_of g p = record {
  guest_open = length (guest_shown g.driver);
  device_open = length (device_shown p.device);
  counters = counters_of p.device;
  broken = g.driver.broken;
}

-- Where the host exposes its streams, none of which had a label when the run began, the report is right, and the run is complete, under the base path
-- that it began with; and where no client had been accepted then, but such as are closed, nothing is there to be taken of any that has no label.
abbrev pub HasRightReport : RunScript → Start → GuestsState → SideState → Type 0
HasRightReport script start g s =
    ForSome start.contents IsUnlabelled → ForSome s.contents (λ h.
    (opened : ℕ → Connection) × IsRightReport script g.apps g.entries g.bytes (totals_of g s.proxy) opened g.end.log h start.faults s.faults
    × IsCompleteRun script g.apps g.entries g.bytes (totals_of g s.proxy) start.base opened h
    × ArePlaceWaits script g.apps g.entries g.bytes opened h × (ForSome start.contents AreUnaccepted → AreClientsDry s.proxy.device.faults h))

-- The journal is that of a run of the script, whose connects gave the guest ports from the first on, one after another; both ends are at rest; in the
-- last round nothing moved, and each app was done or waited; the stream of each connection that may read it, and has credit, has nothing to be taken,
-- and that of each connection with bytes pending takes none; nothing is there to be taken of any line that is being read; and so many packets and events
-- were put and got. The proxy is steady, and came from where the run began; so the report is right.
pub record HasRun (first : ℕ) (script : RunScript) (start : Start) (g : GuestsState) (s : SideState) (met : Met) : Type 0 where
  pub run : IsRunOf FIRST_CID script (run_in g)
  pub ports : ArePortsFrom first g.entries
  pub rest : IsSettled g.driver g.end s.proxy s.ring
  pub last : LastRound script g s.proxy s.ring s.contents s.faults
  pub idle : AreIdle s.proxy.device.table s.contents
  pub lines : AreLinesIdle s.proxy s.contents
  pub numbers : met ≡ met_between g.end.log s.ring.sight.log
  pub steady : IsSteady s.proxy (around s)
  pub begun : IsBegun start s.proxy (around s)
  pub right : HasRightReport script start g s
