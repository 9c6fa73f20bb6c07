-- What a load ends in.
use Rattle.std.specs.{List.All, Prelude.{◌≡◌, ℕ, false, List, [], codes, length, Option, Some}}
use Rattle.vs_limits.specs.declared.TheConstants.{FIRST_PORT}
use Rattle.vs_outside.specs.Host.{HostContents}
use Rattle.vs_ring_shared.specs.declared.counters.Met.{Met}
use Rattle.vs_apps_parts.specs.{Journals.calls_of, Scripts.RunScript}
use Rattle.laws_settled.specs.Begun.{Start, start_with}
use Rattle.vs_apps.specs.Guests.{GuestsState}
use Rattle.vs_run_report.specs.{Connections.opened_all, Load.load_script}
use Rattle.vs_run_apps.specs.{Runs.HasRun, Sides.SideState}
use Rattle.vs_load_parts.specs.Line.{CameBack, load_line}

-- What was received on each connection that the apps opened is a prefix of what was sent there.
abbrev pub AllCameBack : RunScript → GuestsState → Type 0
AllCameBack script g = All (CameBack (calls_of script g.bytes g.entries)) (opened_all (length script) g.entries)

-- A run of a script that began so was over, with a host that exposes this and of which so many calls failed, and this is the line of what its apps did.
pub record IsOver (conns : ℕ) (script : RunScript) (start : Start) (contents : Option HostContents) (faults : ℕ) (line : List ℕ) : Type 0 where
  pub guests : GuestsState
  pub side : SideState
  pub met : Met
  pub exposes : side.contents ≡ contents
  pub counts : side.faults ≡ faults
  pub ran : HasRun FIRST_PORT script start guests side met
  pub is : line ≡ load_line conns script guests.entries guests.bytes

-- The base path of its host.
abbrev pub load_base : List ℕ
load_base = codes "v.sock"

-- The load was over, with a host that had no stream when it began, and of which no call had failed, and that found memory for all that it was given.
pub record IsLoaded (number conns bytes : ℕ) (line : List ℕ) : Type 0 where
  pub first : HostContents
  pub empty : first.streams ≡ []
  pub host : HostContents
  pub faults : ℕ
  pub fed : host.starved ≡ false
  pub over : IsOver conns (load_script number conns bytes) (start_with load_base (Some first) 0) (Some host) faults line
