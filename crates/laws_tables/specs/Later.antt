-- A log with more entries, a flow that is shut, and a connection on which no more payload is put.
use Rattle.std.specs.{List.list_any, Prelude.{◌≡◌, ◌≤◌, ◌&&◌, Bool, not, false, true, length, ◌++◌}}
use Rattle.vs_conn.specs.End.{CanSend, ConnectionEnd}
use Rattle.vs_flow.specs.{Connection.Connection, Flow.same_flow, declared.flow.Flow.Flow}
use Rattle.laws_history.specs.{History.puts, Packets.{has, is_request, shuts_send}}
use Rattle.vs_page.specs.{Fair.{number_of, payload_put}, Log.{Log, Role, flow_got, history_of}}
use Rattle.laws_tables.specs.{Both.{Asks, Decides, Opens, Pays, Seat, Sends, Step, Takes}, Drains.put_on, Ends.{ends_of, is_new}, Steps.HasEnd}

abbrev pub IsLater : Log → Log → Type 0
IsLater old new = (newer : Log) × (new ≡ newer ++ old)

-- Of a connection up to the present one of its flow, where its end put the SHUTDOWN that says 'no more is sent': no more payload is put.
abbrev pub StaysShut : Role → Log → Log → Type 0
StaysShut role old new = (c : Connection) → has shuts_send (puts (history_of role c.flow old)) ≡ true → c.number ≤ number_of role c.flow old
    → payload_put role c new ≡ payload_put role c old

-- The end of a flow, where it has one, decided to send no more.
abbrev pub may_send_more : ConnectionEnd → Bool
may_send_more e = not e.own.send

abbrev pub IsShut : Flow → Seat → Type 0
IsShut f w = list_any may_send_more (ends_of f w.part.entries) ≡ false

-- What is asked of a step: this flow isn't asked for again, nor is a REQUEST taken on it; and where a flow has a connection its end is named,
-- which sends as it may.
abbrev pub AsksOther : Role → Flow → Step → Seat → Type 0
AsksOther role f (Opens g kind) w = same_flow f g ≡ false
AsksOther role f (Asks g kind) w = same_flow f g ≡ false
AsksOther role f (Sends g e payload) w = HasEnd g e w.part × CanSend e (length payload)
AsksOther role f (Pays g e what) w = HasEnd g e w.part
AsksOther role f (Decides g e what) w = HasEnd g e w.part
AsksOther role f (Takes p answer) w = is_request p ≡ true → same_flow f (flow_got role p) ≡ false
AsksOther role f step w = Unit {0}

-- The flow is shut after a step too, and no payload was put there.
pub record StillShut (role : Role) (f : Flow) (old new : Seat) : Type 0 where
  pub is : IsShut f new
  pub put : put_on role f new.log ≡ put_on role f old.log

-- A connection on which no more payload is put: a newer one of its flow began, or its end is none that may, its REQUEST put or got.
abbrev pub may_put : ConnectionEnd → Bool
may_put e = not (is_new e) && may_send_more e

pub record IsPast (role : Role) (c : Connection) (w : Seat) : Type 0 where
  pub past : c.number ≤ number_of role c.flow w.log
  pub shut : c.number ≡ number_of role c.flow w.log → list_any may_put (ends_of c.flow w.part.entries) ≡ false

-- So it still is, and no payload was put there.
pub record StillPast (role : Role) (c : Connection) (old new : Seat) : Type 0 where
  pub is : IsPast role c new
  pub put : payload_put role c new.log ≡ payload_put role c old.log
