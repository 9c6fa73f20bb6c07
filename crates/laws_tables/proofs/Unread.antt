-- What an end counts as unread, whatever it does.
use Rattle.std.proofs.Common.{◌≡◌, ℕ, ◌+◌, ◌-◌, ◌%◌, ◌^◌, ◌<◌, ◌≤◌, cond, Option, refl, sym, subst, arith}
use Rattle.std.proofs.lemmas.{Bool.Decides.nat_tests, Grind.common_steps}
use Rattle.vs_conn.specs.End.{ConnectionEnd, after_message, after_op, end_after, paid_of, verdict_of, with_shut}
use Rattle.vs_conn.{specs.declared.end.{Owed.Owed, Verdict.Verdict}, proofs.Frames.paid_credit}
use Rattle.vs_credit.specs.{Credit.{room_of, unread_of, with_forwarded, with_taken}, declared.Credit.Credit}
use Rattle.vs_header.specs.{Op.op_named, declared.{Header.Header, Op.Op}}
use Rattle.vs_limits.specs.declared.TheConstants.{BUF_ALLOC_MAX}
use Rattle.laws_tables.specs.Drains.{delivered}
use Rattle.vs_conn.specs.declared.end.Verdict.TheVariants as verdict

-- No more is unread than there is buffer space, which is at most the largest one.
pub record Counts (c : Credit) : Type 0 where
  pub within : unread_of c ≤ c.alloc
  pub alloc : c.alloc ≤ BUF_ALLOC_MAX
  pub rx : c.rx_cnt < 2 ^ 32
  pub fwd : c.fwd_cnt < 2 ^ 32

-- From one credit to another: so many bytes more are unread, and so many less.
pub record Moves (more less : ℕ) (c d : Credit) : Type 0 where
  pub counts : Counts d
  pub unread : unread_of d + less ≡ unread_of c + more

pub still : (c d : Credit) → Counts c → d.alloc ≡ c.alloc → d.rx_cnt ≡ c.rx_cnt → d.fwd_cnt ≡ c.fwd_cnt → Moves 0 0 c d
still c d k alloc rx fwd = grind (arith, common_steps)

more : (rx fwd n alloc : ℕ) → rx < 2 ^ 32 → fwd < 2 ^ 32 → alloc ≤ BUF_ALLOC_MAX → n ≤ alloc - (rx + 2 ^ 32 - fwd) % 2 ^ 32
    → (rx + 2 ^ 32 - fwd) % 2 ^ 32 ≤ alloc → ((rx + n) % 2 ^ 32 + 2 ^ 32 - fwd) % 2 ^ 32 ≡ (rx + 2 ^ 32 - fwd) % 2 ^ 32 + n
more rx fwd n alloc r f a le within = omega (arith, r, f, a, le, within)

pub forwards : (c : Credit) (n : ℕ) → Counts c → n ≤ unread_of c → Moves 0 n c (with_forwarded c n)
forwards c n k le = grind (arith, common_steps)

takes : (c : Credit) (n : ℕ) → Counts c → n ≤ room_of c → Moves n 0 c (with_taken c n)
takes c n k room = grind (arith, common_steps, more)

discards : (c : Credit) (n : ℕ) → Counts c → Moves 0 0 c (with_forwarded (with_taken c n) n)
discards c n k = grind (arith, common_steps)

-- A packet that is got; payload that is delivered fits its room.
delivers_room : (e : ConnectionEnd) (h : Header) → verdict_of e h ≡ verdict.Deliver → h.len ≤ room_of e.credit
delivers_room e h is = grind (arith, nat_tests, common_steps, is)

message : (o : Option Op) (e : ConnectionEnd) (h : Header) → Counts e.credit → Moves 0 0 e.credit (after_message o e h).credit
message o e h k = grind (arith, common_steps)

hears_by : (v : Verdict) (e : ConnectionEnd) (h : Header) → verdict_of e h ≡ v → Counts e.credit
    → Moves (delivered v h.len) 0 e.credit (after_op (op_named h.op) e h v).credit
hears_by v e h is k = grind (arith, common_steps, takes, delivers_room, discards, message)

pub hears : (e : ConnectionEnd) (h : Header) → Counts e.credit → Moves (delivered (verdict_of e h) h.len) 0 e.credit (end_after e h).credit
hears e h = hears_by (verdict_of e h) e h refl

-- What is owed is paid; directions are shut.
pub pays : (e : ConnectionEnd) (what : Owed) → Counts e.credit → Moves 0 0 e.credit (paid_of e what).credit
pays e what k = subst (Moves 0 0 e.credit) (sym (paid_credit e what)) (still e.credit e.credit k refl refl refl)

pub shuts : (e : ConnectionEnd) (bits : ℕ) → Counts e.credit
    → Moves 0 (cond (with_shut e bits).own.receive (unread_of e.credit) 0) e.credit (with_shut e bits).credit
shuts e bits k = grind (arith, common_steps)
