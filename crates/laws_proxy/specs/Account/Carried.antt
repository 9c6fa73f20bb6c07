-- What the calls made so far carried, stream by stream and flow by flow.
use Rattle.std.specs.Prelude.{◌≡◌, ℕ, true, List, Contains, Some}
use Rattle.vs_flow.specs.{Table.Table, declared.flow.Flow.Flow}
use Rattle.vs_device_parts.specs.State.{DeviceConnection, DeviceEntry}
use Rattle.laws_proxy.specs.Account.{Made.{Account, Made, account_of, is_on, payload_put, payload_taken}, Tied.{IsGiven, IsRead, IsTied}}

pub record Carries (calls : List Made) (t : Table DeviceConnection) : Type 0 where
  -- What a stream was given is a prefix of its OK line and the payloads delivered on its own connection.
  pub given : (id : ℕ) (a : Account) → account_of calls id ≡ Some a → IsGiven a.label a
  -- What it was given and what its connection holds are all of them, while the connection gives all.
  pub held : (e : DeviceEntry) → Contains t.entries e → IsTied (account_of calls) e
  -- What was taken of a client's stream before it had a label is its line up to the LF, and no byte behind it.
  pub read : (id : ℕ) (a : Account) → account_of calls id ≡ Some a → IsRead a.label a
  -- The payload put on a flow is what was taken of the flow's streams since, each byte once and in order.
  pub put : (flow : Flow) → payload_put calls flow ≡ payload_taken calls flow
  -- At no time have two streams the connection of one flow.
  pub apart : (i j : ℕ) (a b : Account) (flow : Flow) → account_of calls i ≡ Some a → account_of calls j ≡ Some b → is_on flow a ≡ true
      → is_on flow b ≡ true → i ≡ j
