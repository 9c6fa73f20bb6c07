-- What a packet that is got, and one that is paid, leave of an end as it was. States go forward alone.
use Rattle.std.proofs.{Common.{◌≡◌, Some, arith}, lemmas.Grind.common_steps}
use Rattle.vs_conn.specs.{End.{ConnectionEnd, end_after, owes_of, paid_of}, declared.end.{Owed.Owed, State.TheVariants.{Asked, Answering, Ended}}}
use Rattle.vs_header.specs.declared.Header.{Header}

-- A packet got.
pub got_kind : (e : ConnectionEnd) (h : Header) → (end_after e h).kind ≡ e.kind
got_kind e h = grind (arith, common_steps)

pub got_own : (e : ConnectionEnd) (h : Header) → (end_after e h).own ≡ e.own
got_own e h = grind (arith, common_steps)

pub got_over : (e : ConnectionEnd) (h : Header) → e.state ≡ Ended → (end_after e h).state ≡ Ended
got_over e h over = grind (arith, common_steps, over)

pub got_asked : (e : ConnectionEnd) (h : Header) → (end_after e h).state ≡ Asked → e.state ≡ Asked
got_asked e h is = grind (arith, common_steps, is)

pub got_answering : (e : ConnectionEnd) (h : Header) → (end_after e h).state ≡ Answering → e.state ≡ Answering
got_answering e h is = grind (arith, common_steps, is)

-- A packet paid.
pub paid_kind : (e : ConnectionEnd) (what : Owed) → (paid_of e what).kind ≡ e.kind
paid_kind e what = grind (arith, common_steps)

pub paid_own : (e : ConnectionEnd) (what : Owed) → (paid_of e what).own ≡ e.own
paid_own e what = grind (arith, common_steps)

pub paid_peer : (e : ConnectionEnd) (what : Owed) → (paid_of e what).peer ≡ e.peer
paid_peer e what = grind (arith, common_steps)

pub paid_message : (e : ConnectionEnd) (what : Owed) → (paid_of e what).message ≡ e.message
paid_message e what = grind (arith, common_steps)

pub paid_credit : (e : ConnectionEnd) (what : Owed) → (paid_of e what).credit ≡ e.credit
paid_credit e what = grind (arith, common_steps)

pub paid_over : (e : ConnectionEnd) (what : Owed) → owes_of e ≡ Some what → e.state ≡ Ended → (paid_of e what).state ≡ Ended
paid_over e what owes over = grind (arith, common_steps, owes, over)

pub paid_asked : (e : ConnectionEnd) (what : Owed) → (paid_of e what).state ≡ Asked → e.state ≡ Asked
paid_asked e what is = grind (arith, common_steps, is)

pub paid_answering : (e : ConnectionEnd) (what : Owed) → (paid_of e what).state ≡ Answering → e.state ≡ Answering
paid_answering e what is = grind (arith, common_steps, is)
