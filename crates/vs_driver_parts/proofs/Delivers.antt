-- What it takes that an end delivers a packet: an RW that fits its room.
use Rattle.std.proofs.{Common.{◌≡◌, ℕ, ◌≤◌, Bool, true, false, cond, Option, Some, None, refl, arith}, lemmas.Bool.Decides.nat_tests}
use Rattle.vs_conn.specs.{declared.end.{State.State, Verdict.Verdict, Why.{Why, TheVariants.BadKind}}, End.{ConnectionEnd, verdict_of, state_verdict, op_verdict, payload_verdict}}
use Rattle.vs_conn.specs.End.{response_verdict, live_verdict, is_of, is_reset}
use Rattle.vs_credit.specs.Credit.{room_of}
use Rattle.vs_header.specs.{Op.op_named, declared.{Header.Header, Op.Op}}
use Rattle.vs_conn.specs.declared.end.State.TheVariants as state
use Rattle.vs_conn.specs.declared.end.Verdict.TheVariants as verdict
use Rattle.vs_header.specs.declared.Op.TheVariants as op

-- an RW whose payload fits
pub record IsDelivered (e : ConnectionEnd) (h : Header) : Type 0 where
  pub rw : op_named h.op ≡ Some op.Rw
  pub room : h.len ≤ room_of e.credit

fits : (e : ConnectionEnd) (len : ℕ) → payload_verdict e len ≡ verdict.Deliver → len ≤ room_of e.credit
fits e len is = grind (arith, nat_tests, is)

by_live : (s : State) (v : Verdict) → live_verdict s v ≡ verdict.Deliver → v ≡ verdict.Deliver
by_live state.Live v is = is
by_live _ v is = cc

by_response : (s : State) → response_verdict s ≡ verdict.Deliver → ⊥
by_response state.Asked is = cc
by_response _ is = cc

by_peer : (s : State) → live_verdict s verdict.Peer ≡ verdict.Deliver → ⊥
by_peer s is = let e = by_live s verdict.Peer is in cc

by_op : (o : Option Op) (e : ConnectionEnd) (h : Header) → op_named h.op ≡ o → op_verdict o e h.len ≡ verdict.Deliver → IsDelivered e h
by_op (Some op.Rw) e h named is = record { rw = named; room = fits e h.len (by_live e.state _ is) }
by_op (Some op.Response) e h named is = absurd (by_response e.state is)
by_op (Some op.Invalid) e h named is = absurd (cc)
by_op (Some op.Request) e h named is = absurd (cc)
by_op (Some op.Rst) e h named is = absurd (cc)
by_op None e h named is = absurd (cc)
by_op _ e h named is = absurd (by_peer e.state is)

by_open : (stream reset : Bool) (why : Why) (e : ConnectionEnd) (h : Header)
    → cond stream (op_verdict (op_named h.op) e h.len) (cond reset verdict.Ignore (verdict.Rst why)) ≡ verdict.Deliver → IsDelivered e h
by_open true reset why e h is = by_op (op_named h.op) e h refl is
by_open false true why e h is = absurd (cc)
by_open false false why e h is = absurd (cc)

by_ended : (b : Bool) → cond b verdict.Peer verdict.Ignore ≡ verdict.Deliver → ⊥
by_ended true is = cc
by_ended false is = cc

by_state : (s : State) (e : ConnectionEnd) (h : Header) → state_verdict s e h ≡ verdict.Deliver → IsDelivered e h
by_state state.Ended e h is = absurd (by_ended _ is)
by_state _ e h is = by_open (is_of e.kind h) (is_reset h) BadKind e h is

pub delivers : (e : ConnectionEnd) (h : Header) → verdict_of e h ≡ verdict.Deliver → IsDelivered e h
delivers e h is = by_state e.state e h is

pub named_rw : (n : ℕ) → op_named n ≡ Some op.Rw → n ≡ 5
named_rw n is = grind (arith, is)
