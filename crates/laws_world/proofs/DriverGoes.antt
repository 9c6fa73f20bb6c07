-- What the driver's conversations come to: steps of its seat, headers that fit, the account, and the payload that was put.
use Rattle.std.proofs.Common.{◌≡◌, ℕ, ◌≤◌, true, take, None, refl, arith}
use Rattle.vs_contents.specs.CallTree.{played}
use Rattle.vs_flow.specs.Connection.{Connection}
use Rattle.vs_limits.specs.declared.TheConstants.{HOST_CID}
use Rattle.vs_page.specs.Log.{Driver, Log}
use Rattle.vs_ring_port.specs.{Contents.RingContents, DriverCalls.driver_answer, EndLog.EndLog, Lists.Rings}
use Rattle.laws_tables.{specs.{Both.Seat, Ends.Ends}, proofs.Going.Goes}
use Rattle.vs_driver_parts.specs.{Playing.Plays, State.{DriverState}}
use Rattle.laws_driver.proofs.{Putting.{connect_puts, owed_puts, reply_puts, send_puts}, Carrying.{Carries, Fact}, Walking.poll_goes, Carried.Making.CarriesCall}
use Rattle.laws_driver.proofs.Carried.{Making.{account_after, at_first, call_goes, call_received, call_sent, further_as, further_journal, port_fits, sent_with}, Senders.sent_more}
use Rattle.laws_driver.{proofs.Carried.{Senders.{step_says, still_sent}, Polling.{IsFurther, poll_carries}, Sending.{poll_puts, puts_as}}, specs.Honest.slots_of}
use Rattle.laws_driver.specs.Carried.Calls.{Connect, GuestCall, Journal, LookAt, ReplyTo, Send, account_of, is_right, makes_call, with_call}
use Rattle.laws_driver.specs.Carried.{Received.Account, Senders.IsRightJournal}
use Rattle.laws_device.proofs.Seats.{PutsFit}
use Rattle.laws_world.proofs.{Names.{Names, NamesFrom, NamesMay, StaysNamed, WaitsApart, call_named, named_from, names_kept, names_may, step_named}}
use Rattle.laws_world.proofs.Keeping.{Sees, call_kept, poll_kept}

module _ (first : ℕ) (old : Seat) where
  abbrev pub Walks : Account → Fact → Fact → Fact
  Walks a names sent part s log = Goes Driver old (record { part = part; log = log }) × PutsFit log × IsFurther a (slots_of s) log × names part s log × sent part s log

  pub poll_walks : (a : Account) (s : DriverState) (base : Log) → Carries true true first (Walks a (named_from s (LookAt 0)) (puts_as base))
  poll_walks a start base =
      let goes = poll_goes true first old in
      let received = poll_carries first a in
      let names = poll_kept Names NamesMay names_kept (NamesFrom start (LookAt 0)) first in
      let sent = poll_puts first base in
      record {
        owed = λ what e s log fits stands owes m was fair x. (
          goes.owed what e s log fits stands owes m was fair x.0,
          ((owed_puts what e s fits stands owes).wire, x.1),
          received.owed what e s log fits stands owes m was fair x.2,
          names.owed what e s log fits stands owes m was fair x.3,
          sent.owed what e s log fits stands owes m was fair x.4,
        );
        reply = λ r rest s log fits is m fair x. (
          goes.reply r rest s log fits is m fair x.0,
          ((reply_puts r rest s fits is).wire, x.1),
          received.reply r rest s log fits is m fair x.2,
          names.reply r rest s log fits is m fair x.3,
          sent.reply r rest s log fits is m fair x.4,
        );
        got = λ p s log fits ports whole m was fair x. (
          goes.got p s log fits ports whole m was fair x.0,
          x.1,
          received.got p s log fits ports whole m was fair x.2,
          names.got p s log fits ports whole m was fair x.3,
          sent.got p s log fits ports whole m was fair x.4,
        );
        event = λ id s log x. (goes.event id s log x.0, x.1, received.event id s log x.2, names.event id s log x.3, sent.event id s log x.4);
        reset = λ cid s log less fits x. (
          goes.reset cid s log less fits x.0,
          x.1,
          received.reset cid s log less fits x.2,
          names.reset cid s log less fits x.3,
          sent.reset cid s log less fits x.4,
        );
      }

  module _ (a : Account) (s : DriverState) (base : Log) where
    abbrev pub Before : GuestCall → Fact
    Before call = Walks a (named_from s call) (at_first first s base)

    abbrev pub After : (call : GuestCall) → ReplyTo call → Fact
    After call reply = Walks (account_after call reply a) (named_from s call) (sent_with first s base call reply)

    names_call : (call : GuestCall) → CarriesCall first call (named_from s call) (λ reply. named_from s call)
    names_call call = call_kept Names NamesMay names_kept (NamesFrom s call) first call (names_may s call)

    pub call_walks : (call : GuestCall) → is_right call ≡ true → CarriesCall first call (Before call) (After call)
    call_walks (Connect port) right =
        let goes = call_goes first old (Connect port) right in
        let received = call_received first (Connect port) a in
        let names = names_call (Connect port) in
        let sent = call_sent first s base (Connect port) in
        record {
          refused = λ why t log x. (goes.refused why t log x.0, x.1, received.refused why t log x.2, names.refused why t log x.3, sent.refused why t log x.4);
          opens = λ t log fits free m was fair x. (
            goes.opens t log fits free m was fair x.0,
            ((connect_puts HOST_CID port t (omega arith) (port_fits port right) (λ hosts. refl) fits free).wire, x.1),
            received.opens t log fits free m was fair x.2,
            names.opens t log fits free m was fair x.3,
            sent.opens t log fits free m was fair x.4,
          );
        }
    call_walks (Send id bytes) right =
        let goes = call_goes first old (Send id bytes) right in
        let received = call_received first (Send id bytes) a in
        let names = names_call (Send id bytes) in
        let sent = call_sent first s base (Send id bytes) in
        record {
          stopped = λ why t log x. (goes.stopped why t log x.0, x.1, received.stopped why t log x.2, names.stopped why t log x.3, sent.stopped why t log x.4);
          unknown = λ t log none x. (goes.unknown t log none x.0, x.1, received.unknown t log none x.2, names.unknown t log none x.3, sent.unknown t log none x.4);
          empty = λ t log x. (goes.empty t log x.0, x.1, received.empty t log x.2, names.empty t log x.3, sent.empty t log x.4);
          full = λ n t log x. (goes.full n t log x.0, x.1, received.full n t log x.2, names.full n t log x.3, sent.full n t log x.4);
          wants = λ e t log fits stands m x. (
            goes.wants e t log fits stands m x.0,
            x.1,
            received.wants e t log fits stands m x.2,
            names.wants e t log fits stands m x.3,
            sent.wants e t log fits stands m x.4,
          );
          sends = λ e n t log fits stands known can few m was fair x. (
            goes.sends e n t log fits stands known can few m was fair x.0,
            ((send_puts e (take n bytes) t fits stands can few).wire, x.1),
            received.sends e n t log fits stands known can few m was fair x.2,
            names.sends e n t log fits stands known can few m was fair x.3,
            sent.sends e n t log fits stands known can few m was fair x.4,
          );
        }
    call_walks call right = λ t log fits m x. (
      call_goes first old call right t log fits m x.0,
      x.1,
      call_received first call a t log fits m x.2,
      names_call call t log fits m x.3,
      call_sent first s base call t log fits m x.4,
    )

-- What is left with a journal, of this driver and its journal, where ids had been given to these connections.
pub record Left (old : Seat) (was : ℕ → Connection) (from : DriverState) (before journal : Journal) (part : Ends) (s : DriverState) (log : Log) : Type 0 where
  pub goes : Goes Driver old (record { part = part; log = log })
  pub fits : PutsFit log
  pub opened : ℕ → Connection
  -- Ids keep their connections.
  pub on : (id : ℕ) → 1 ≤ (was id).number → opened id ≡ was id
  pub right : IsRightJournal 1 opened journal log (slots_of s)
  pub waiting : Sees WaitsApart s
  pub named : StaysNamed from before s journal

module _ (first : ℕ) (old : Seat) (opened : ℕ → Connection) (journal : Journal) (s : DriverState) (base : Log)
    (was : IsRightJournal 1 opened journal base (slots_of s)) where
  abbrev account : Account
  account = account_of 1 opened journal

  pub poll_left : (part : Ends) (t : DriverState) (log : Log) → Walks first old account (named_from s (LookAt 0)) (puts_as base) part t log
      → Left old opened s journal journal part t log
  poll_left part t log x = record {
    goes = x.0;
    fits = x.1;
    opened = x.2.0.opened;
    on = x.2.1.opened;
    right = record {
      received = further_as account x.2.0 _ log (slots_of t) x.2.1 (λ id. refl) x.2.2;
      sent = still_sent opened x.2.0.opened x.2.1.opened journal base log x.4 was.sent;
    };
    waiting = x.3 None tt;
    named = step_named s journal part t log x.3;
  }

  -- A call that was made.
  module _ (r : Rings × EndLog) where
    abbrev pub reply_of : (call : GuestCall) → ReplyTo call
    reply_of call = (played driver_answer (makes_call call s) r).0.1

    pub call_left : (call : GuestCall) (c d : RingContents) → Plays (makes_call call s) c (played driver_answer (makes_call call s) r).0 d
        → (part : Ends) (t : DriverState) (log : Log) → After first old account s base call (reply_of call) part t log
        → Left old opened s journal (with_call call s (reply_of call) journal) part t log
    call_left call c d plays part t log x = let now = further_journal 1 opened journal call s (reply_of call) (slots_of t) log x.2 in record {
      goes = x.0;
      fits = x.1;
      opened = now.0;
      on = now.1;
      right = record {
        received = now.2;
        sent = sent_more opened now.0 now.1 journal call s (reply_of call) base log x.4
            (step_says s c d account base was.received now.0 now.1 call _ plays) was.sent;
      };
      waiting = x.3 None tt;
      named = call_named call (reply_of call) s journal part t log x.3;
    }
