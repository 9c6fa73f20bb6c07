-- A host in memory, and the accounts of its streams.
use Rattle.std.specs.{Prelude.{◌≡◌, ◌≢◌, ℕ, ◌++◌, true, false, List, [], Option, Some, None}, List.All}
use Rattle.vs_contents.specs.CallTree.{Leads}
use Rattle.vs_flow.specs.{Table.Table}
use Rattle.vs_outside.specs.Host.{HostContents, Stream, stream_at, waits}
use Rattle.vs_device_parts.specs.{Calls.DeviceTree, State.DeviceConnection}
use Rattle.vs_proxy_parts.specs.State.{Handshake}
use Rattle.laws_proxy.specs.Account.{Carried.Carries, Made.{Account, Made, Makes, account_of}, Tied.{AgreesWith, IsRead, IsWhole, reading_account}}

-- A stream that the proxy wasn't given yet is a client's, of which nothing was taken and to which nothing was given; another one is
-- what its account says.
abbrev pub ShowsIn : Stream → Option Account → Type 0
ShowsIn st None = (st.by_client ≡ true) × (st.label ≡ None) × (st.given ≡ []) × (st.taken ≡ [])
ShowsIn st (Some a) =
    (waits st.state ≡ false) × (st.by_client ≡ a.by_client) × (st.label ≡ a.label) × (st.given ≡ a.given)
    × (st.taken ≡ a.line ++ a.taken) × IsRead a.label a

abbrev pub ShowsAt : Option Stream → Option Account → Type 0
ShowsAt None a = a ≡ None
ShowsAt (Some st) a = ShowsIn st a

abbrev pub Shows : (ℕ → Option Account) → HostContents → Type 0
Shows at c = (id : ℕ) → ShowsAt (stream_at id c) (at id)

-- The calls made so far account for these connections and handshakes, and for the streams of a host that exposes its contents.
pub record AreAccounted (calls : List Made) (t : Table DeviceConnection) (hands : List Handshake) (host : Option HostContents) : Type 0 where
  pub accounts : AgreesWith calls t hands
  pub contents : HostContents
  pub exposed : host ≡ Some contents
  pub shows : Shows (account_of calls) contents
  -- So this is what they carried.
  pub carried : Carries calls t

-- A conversation that ended so made these calls, behind those made before, and they account for what it left.
pub record StayAccounted {A : Type 0} (tree : DeviceTree A) (calls : List Made) (x : A) (t : Table DeviceConnection)
    (hands : List Handshake) (host : Option HostContents) : Type 0 where
  pub later : List Made
  pub made : Leads Makes tree calls x later
  pub stay : AreAccounted later t hands host

-- A client's stream whose line is whole and asks for a connection: it has no label, and is that of none of these handshakes.
pub record IsAsking (stream : ℕ) (calls : List Made) (hands : List Handshake) : Type 0 where
  pub line : List ℕ
  pub waits : account_of calls stream ≡ Some (reading_account line)
  pub whole : IsWhole line
  pub apart : All (λ h. h.stream ≢ stream) hands
