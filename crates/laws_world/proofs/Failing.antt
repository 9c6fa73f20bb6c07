-- Over list rings and a host in memory each call that failed is one that was to fail: a fault counted is one fewer to come.
use Rattle.std.proofs.lemmas.Grind.{common_steps}
use Rattle.std.proofs.Common.{◌≡◌, ℕ, ◌+◌, ◌-◌, ◌≤◌, ◌==◌, ◌||◌, nat_lt, Bool, true, false, cond, List, [], ◌∷◌, length, map, filter, Option, None, Result, refl, sym}
use Rattle.std.{proofs.{Common.{subst, arith}, lemmas.Bool.Decides.nat_tests}}
use Rattle.vs_outside.specs.Host.{HostContents, accept_answer, after_accept, after_dial, after_failed, after_read, after_write, accept_failed, called, dial_failed}
use Rattle.vs_outside.specs.Host.{read_failed, write_failed, dial_answer, fails_now, read_answer, write_answer}
use Rattle.vs_outside.specs.{Faults.{counted_down, fails_next}, declared.host_net.{Accepted.Accepted, Dialed.Dialed, StreamRead.StreamRead, StreamWrite.StreamWrite}}
use Rattle.vs_header.specs.declared.Header.{Header}
use Rattle.vs_ring_port.specs.{declared.{device_ring.{Chain.Chain, Next.Next}, failure.Failure.Failure}}
use Rattle.vs_flow.specs.declared.flow.Flow.{Flow}
use Rattle.vs_wrap.specs.Wrap.{counted}
use Rattle.vs_device_parts.specs.{Calls.{DeviceTree}, Receiving.written}
use Rattle.vs_contents.specs.CallTree.{Ask, Done, played}
use Rattle.vs_proxy_parts.specs.{State.ProxyState, Turns.{proxy_reset_of, turn_of}, declared.answers.Turn.Turn}
use Rattle.laws_device.proofs.Walk.{Fields.{AfterEventPage, AfterTx, Calls, Fields, TxCalls, after_rx, faulted, fields_turn}, Keeping.{Asking, Keeps}, Single.reset_keeps}
use Rattle.laws_world.specs.{Answers.{Around, answer_around}, Plays.{reset_line, turn_line}, World.{World, around}}
use Rattle.vs_outside.specs.declared.host_net.Accepted.TheVariants as accepted
use Rattle.vs_outside.specs.declared.host_net.Dialed.TheVariants as dialed
use Rattle.vs_outside.specs.declared.host_net.StreamRead.TheVariants as read
use Rattle.vs_outside.specs.declared.host_net.StreamWrite.TheVariants as write
use Rattle.vs_ring_port.specs.declared.device_ring.Next.TheVariants as next

-- A conversation over list rings and a host in memory: what holds at its end.
abbrev pub playing : Asking Around
playing = record {
  asks = λ call a P. let r = answer_around call a in P r.0 r.1;
  weaker = λ call a P R then asks. let r = answer_around call a in then r.0 r.1 asks;
}

pub keeps_played : {A : Type 0} (Q : A → Around → Type 0) (tree : DeviceTree A) (a : Around) → Keeps playing Q tree a
    → let r = played answer_around tree a in Q r.0 r.1
keeps_played Q (Done x) a keeps = keeps
keeps_played Q (Ask call next) a keeps = let r = answer_around call a in keeps_played Q (next r.0) r.1 keeps

-- One call more leaves one fewer that is to fail, where it failed.
shorter : (calls : List ℕ) → length (counted_down calls) + cond (fails_next calls) 1 0 ≤ length calls
shorter [] = omega arith
shorter (n ∷ calls) = by (n == 1) (nat_lt 1 n) (fails_next calls) (grind (arith, nat_tests)) (shorter calls)
  where
    rest : List ℕ
    rest = filter (λ n. nat_lt 1 n) calls

    by : (one more next : Bool) → (one ≡ true → more ≡ false) → length (counted_down calls) + cond next 1 0 ≤ length calls
        → length (map (λ n. n - 1) (cond more (n ∷ rest) rest)) + cond (one || next) 1 0 ≤ length (n ∷ calls)
    by true true next apart less = absurd (let no : true ≡ false = apart refl in cc)
    by true false true apart less = omega (arith, less)
    by true false false apart less = omega (arith, less)
    by false true next apart less = omega (arith, less)
    by false false next apart less = omega (arith, less)

module _ (m : ℕ) where
  -- Faults counted, and calls that are to fail.
  abbrev Within : ℕ → List ℕ → Type 0
  Within faults calls = faults + length calls ≤ m

  abbrev P : Option Chain → Fields → Around → Type 0
  P page n a = Within n.faults a.host.to_fail

  went : (faults : ℕ) (h : HostContents) → Within faults h.to_fail → Within faults (called h).to_fail
  went faults h at = grind (arith, common_steps, shorter)

  fails : (faults : ℕ) (h : HostContents) → Within faults h.to_fail → fails_now h ≡ true → Within (counted faults) (called h).to_fail
  fails faults h at is = grind (arith, common_steps, shorter)

  after_failed_is : (h : HostContents) → (after_failed h).to_fail ≡ (called h).to_fail
  after_failed_is h = grind (arith, common_steps)

  -- A call that failed was to fail.
  read_to_fail : (stream room : ℕ) (h : HostContents) → read_answer stream room h ≡ read.Failed → fails_now h ≡ true
  read_to_fail stream room h is = grind (arith, common_steps)

  write_to_fail : (stream n : ℕ) (h : HostContents) → write_answer stream n h ≡ write.Failed → fails_now h ≡ true
  write_to_fail stream n h is = grind (arith, common_steps)

  dial_to_fail : (path : List ℕ) (h : HostContents) → dial_answer path h ≡ dialed.Failed → fails_now h ≡ true
  dial_to_fail path h is = grind (arith, common_steps)

  accept_to_fail : (h : HostContents) → accept_answer h ≡ accepted.Failed → fails_now h ≡ true
  accept_to_fail h is = grind (arith, common_steps)

  abbrev on : HostContents → Around → Around
  on h a = record a { host = h }

  wrote : (n : Fields) (stream : ℕ) (bytes : List ℕ) (x : StreamWrite) (a : Around) → P None n a → write_answer stream (length bytes) a.host ≡ x
      → P None (faulted (write_failed x) n) (on (after_write stream bytes x a.host) a)
  wrote n stream bytes write.Failed a at is =
      subst (Within (counted n.faults)) (sym (after_failed_is a.host)) (fails n.faults a.host at (write_to_fail stream (length bytes) a.host is))
  wrote n stream bytes _ a at is = went n.faults a.host at

  have_read : (n : Fields) (stream room : ℕ) (x : StreamRead) (a : Around) → P None n a → read_answer stream room a.host ≡ x
      → P None (faulted (read_failed x) n) (on (after_read stream x a.host) a)
  have_read n stream room read.Failed a at is = fails n.faults a.host at (read_to_fail stream room a.host is)
  have_read n stream room _ a at is = went n.faults a.host at

  dials : (n : Fields) (path : List ℕ) (flow : Flow) (x : Dialed) (a : Around) → P None n a → dial_answer path a.host ≡ x
      → P None (faulted (dial_failed x) n) (on (after_dial flow x a.host) a)
  dials n path flow x a at is = grind (arith, common_steps, after_failed_is, fails, dial_to_fail, went)

  accepts : (n : Fields) (x : Accepted) (a : Around) → P None n a → accept_answer a.host ≡ x → P None (faulted (accept_failed x) n) (on (after_accept x a.host) a)
  accepts n accepted.Failed a at is = fails n.faults a.host at (accept_to_fail a.host is)
  accepts n _ a at is = went n.faults a.host at

  rx_page : (x : Next) (n : Fields) (a : Around) → P None n a → P None (after_rx x n) a
  rx_page x n a at = grind (arith, common_steps)

  event_page : (x : Next) (n : Fields) (a : Around) → P None n a → AfterEventPage playing P x n a
  event_page x n a at = grind (arith, common_steps)

  puts_packet : (chain : Chain) (h : Header) (payload : List ℕ) (n : Fields) (a : Around) → P None n a
      → Keeps playing (λ x b. P None n b) (written chain h payload) a
  puts_packet chain h [] n a at = at
  puts_packet chain h (x ∷ payload) n a at = at

  calls : Calls playing P
  calls = grind (arith, common_steps, accepts, have_read, wrote, rx_page, event_page, puts_packet)

  taken : (x : Next) (n : Fields) (a : Around) → P None n a → AfterTx playing P x n a
  taken x n a at = grind (arith, common_steps)

  tx_calls : TxCalls playing P
  tx_calls = grind (arith, common_steps, taken, dials)

  -- A turn and a transport reset.
  abbrev pub FailsWithin : World → Type 0
  FailsWithin w = w.proxy.device.faults + length w.host.to_fail ≤ m

  pub turn_fails : (now : ℕ) (w : World) → FailsWithin w → FailsWithin (turn_line now w).0
  turn_fails now w at =
      keeps_played (λ (x : ProxyState × Turn) b. Within x.0.device.faults b.host.to_fail)
      (turn_of w.rings.lists.size now w.proxy) (around w) (fields_turn playing P calls tx_calls w.rings.lists.size now w.proxy (around w) at)

  pub reset_fails : (cid : ℕ) (w : World) → FailsWithin w → FailsWithin (reset_line cid w).0
  reset_fails cid w at =
      keeps_played (λ (x : ProxyState × Result (Unit {0}) Failure) b. Within x.0.device.faults b.host.to_fail)
      (proxy_reset_of cid w.proxy) (around w) (reset_keeps playing P calls cid (λ n a at. at) w.proxy (around w) at)
