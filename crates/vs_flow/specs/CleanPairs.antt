-- Flows whose connections were closed cleanly, the oldest first.
use Rattle.std.specs.Prelude.{ℕ, ◌-◌, ◌+◌, Bool, true, false, ◌&&◌, ◌==◌, if◌then◌else◌, List, [], ◌∷◌, ◌++◌, length, drop, filter, find, Option}
use Rattle.vs_flow.specs.{Flow.is_host, declared.flow.Flow.Flow}
use Rattle.vs_limits.specs.declared.TheConstants.{CLEAN_PAIRS}

-- a flow is to this port of this peer, or from this guest port
abbrev pub goes_to : ℕ → ℕ → Flow → Bool
goes_to peer port f = f.peer == peer && f.host == port

abbrev pub comes_from : ℕ → Flow → Bool
comes_from guest f = f.guest == guest

-- with one more, of which at most so many stay
abbrev pub kept : ℕ → Flow → List Flow → List Flow
kept most f fs = drop (length fs + 1 - most) fs ++ f ∷ []

-- with one more where it's to be kept, of which at most `CLEAN_PAIRS` stay
abbrev pub kept_if : Bool → Flow → List Flow → List Flow
kept_if true f fs = kept CLEAN_PAIRS f fs
kept_if false f fs = fs

-- those with the host
abbrev pub of_host : List Flow → List Flow
of_host fs = filter is_host fs

-- the oldest that passes
abbrev pub oldest : (Flow → Bool) → List Flow → Option Flow
oldest test fs = find test fs

-- without that one
abbrev pub without_oldest : (Flow → Bool) → List Flow → List Flow
without_oldest test [] = []
without_oldest test (f ∷ fs) = if test f then fs else f ∷ without_oldest test fs
