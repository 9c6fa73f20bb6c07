-- The ends that a log leaves.
use Rattle.std.specs.Prelude.{◌≡◌, ℕ, ◌≤◌, Bool, true, false, Option, Some, None, ◌⊎◌, List, [], ◌∷◌}
use Rattle.vs_conn.specs.{End.{ConnectionEnd, asked}, Follows.Follows}
use Rattle.vs_flow.specs.declared.flow.Flow.{Flow}
use Rattle.vs_header.specs.Kind.{kind_number}
use Rattle.laws_history.specs.{Packets.{asked_kind, has, is_clean_rst}, Again.IsClean, History.{History, Side, Asker, gots, is_begun, of_asker, puts}}
use Rattle.vs_limits.specs.declared.TheConstants.{BUF_ALLOC}
use Rattle.vs_page.specs.{Fair.IsFairLog, Log.{Log, Role, Driver, Device, history_of, side_of}, Open.{Clean, cid_of, left_kind, phase_of}}
use Rattle.vs_replies.specs.declared.Reply.{Reply}
use Rattle.laws_tables.specs.{Ends.{AreDistinct, Ends, ends_of, is_among, is_new, replied}, Heard.{IsWithinCredit, heard_of, is_awaiting, is_fresh, own_port}}

-- An end that asks for a connection, and has put nothing.
pub record IsAsking (side : Side) (e : ConnectionEnd) : Type 0 where
  pub asker : side ≡ Asker
  pub asks : e ≡ asked e.kind BUF_ALLOC

-- On a flow that is neither open nor owed a reply the device may have one end that asks, where it waits for nothing on an older connection.
-- The driver has none: it puts its REQUEST as it asks.
abbrev pub IsBefore : Role → Side → History → List ConnectionEnd → Type 0
IsBefore Driver side h ends = ends ≡ []
IsBefore Device side h [] = Unit {0}
IsBefore Device side h (e ∷ more) = (more ≡ []) × IsAsking side e × (is_awaiting h ≡ false)

-- An open flow has one end, which follows what was heard and has the type of the connection.
abbrev pub IsHeld : ℕ → Side → History → List ConnectionEnd → Type 0
IsHeld kind side h ends = (e : ConnectionEnd) × (ends ≡ e ∷ []) × Follows side (puts h) (gots h) e × (kind_number e.kind ≡ kind)

-- The ends of a flow are those that what was heard leaves, where the log leaves a connection of this type open or none, and an RST is owed
-- to it as a reply or not. None is owed where a REQUEST may come.
abbrev pub IsLeftOn : Role → Side → History → Option ℕ → Bool → List ConnectionEnd → Type 0
IsLeftOn role side h (Some kind) false ends = IsHeld kind side h ends
IsLeftOn role side h None false ends = IsBefore role side h ends
IsLeftOn role side h (Some kind) true ends = (ends ≡ []) × (is_fresh h ≡ false)
IsLeftOn role side h None true ends = (ends ≡ []) × (is_fresh h ≡ false)

abbrev pub MatchesOn : Role → ℕ → Ends → Log → Flow → Type 0
MatchesOn role first part log f =
    IsLeftOn role (side_of role f) (heard_of role first f log) (left_kind role first f log) (is_among f (replied part.replies))
    (ends_of f part.entries)

-- Nothing was heard on a flow, it has no end, and isn't kept to be used again.
pub record IsUnused (role : Role) (first : ℕ) (part : Ends) (log : Log) (f : Flow) : Type 0 where
  pub silent : heard_of role first f log ≡ []
  pub no_end : ends_of f part.entries ≡ []
  pub not_kept : is_among f part.clean ≡ false

-- A flow that is kept to be used again: this end asks for it, it has no end, no reply is owed to it, and nothing is awaited on it.
pub record IsKept (role : Role) (first : ℕ) (part : Ends) (log : Log) (f : Flow) : Type 0 where
  pub asker : side_of role f ≡ Asker
  pub no_end : ends_of f part.entries ≡ []
  pub no_reply : is_among f (replied part.replies) ≡ false
  pub over : is_awaiting (heard_of role first f log) ≡ false

-- Each flow is as the log leaves it, flows whose port is still to be given are unused, those that are kept are over and stand once, and
-- the guest's CID is the one that the log tells, where it was this at first.
pub record MatchesFlows (role : Role) (first : ℕ) (part : Ends) (log : Log) : Type 0 where
  pub on : (f : Flow) → MatchesOn role first part log f
  pub unused : (f : Flow) → side_of role f ≡ Asker → part.next_port ≤ own_port role f → IsUnused role first part log f
  pub kept : (f : Flow) → is_among f part.clean ≡ true → IsKept role first part log f
  pub once : AreDistinct part.clean
  pub cid : part.cid ≡ cid_of first log

-- A REQUEST may be put after this: nothing passed, or the connection is over cleanly.
abbrev pub IsReady : History → Type 0
IsReady h = (h ≡ []) ⊎ IsClean (puts h) (gots h)

-- A reply may be put: it has the type of the present connection, which has begun, and on which this end put no marked RST.
pub record IsOwed (role : Role) (log : Log) (r : Reply) : Type 0 where
  pub begun : let h = history_of role r.flow log in is_begun (side_of role r.flow) (puts h) (gots h) ≡ true
  pub kind : let h = history_of role r.flow log in kind_number r.kind ≡ asked_kind (of_asker (side_of role r.flow) (puts h) (gots h))
  pub quiet : has is_clean_rst (puts (history_of role r.flow log)) ≡ false

abbrev pub AllOwed : Role → Log → List Reply → Type 0
AllOwed role log [] = Unit {0}
AllOwed role log (r ∷ rs) = IsOwed role log r × AllOwed role log rs

-- What a fair log gives besides: what was put on each flow is within the credit that was heard, flows that are kept are clean by the log,
-- so that no transport reset stands between REQUEST and marked RST, those on which an end is to ask are ready, and each reply may be put.
pub record IsFairlyLeft (role : Role) (first : ℕ) (part : Ends) (log : Log) : Type 0 where
  pub within : (f : Flow) → IsWithinCredit role first f log
  pub kept : (f : Flow) → is_among f part.clean ≡ true → phase_of role first f log ≡ Clean
  pub ready : (f : Flow) (e : ConnectionEnd) → ends_of f part.entries ≡ e ∷ [] → is_new e ≡ true → IsReady (history_of role f log)
  pub replies : AllOwed role log part.replies

-- An end of many connections matches its log: its flows do, and what a fair log gives besides.
pub record Matches (role : Role) (first : ℕ) (part : Ends) (log : Log) : Type 0 where
  pub flows : MatchesFlows role first part log
  pub fairly : IsFairLog role log → IsFairlyLeft role first part log
