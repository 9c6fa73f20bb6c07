-- The rings stay the driver's over a call that leaves the pages.
use Rattle.std.proofs.Common.{◌≡◌, ℕ, Bool, List, ◌++◌, Result, Ok, Err, OnOk, OnErr, refl, sym, ap, ap₂, subst, ◌∙◌}
use Rattle.vs_contents.specs.CallTree.{Done}
use Rattle.vs_ring_port.specs.Contents.{RingContents}
use Rattle.vs_ring_list.specs.Ends.{Ends, driver_contents, flight_of, staged_of}
use Rattle.vs_driver_parts.specs.{Playing.{IsRingOf, SamePages}, State.DriverState, Listening.{listen_of, listening}, declared.answers.ListenError.ListenError}
use Rattle.laws_driver.specs.{Honest.IsHonestWith, Carried.Calls.{GuestCall, ReplyTo, whole_call}}
use Rattle.laws_world.specs.Over.{over_lists}
use Rattle.vs_play.specs.{Lines.reply_text, Ready.IsDriven, Told.Replies}
use Rattle.laws_driver.specs.Carried.Calls as call

ring_stays : (s t : DriverState) (e : Ends) → SamePages s t → IsRingOf e.lists.size (flight_of e) (staged_of e) s
    → IsRingOf e.lists.size (flight_of e) (staged_of e) t
ring_stays s t e same ring =
    let size : t.size ≡ s.size = same.0 in
    let tx : t.in_flight ≡ s.in_flight = same.1 in
    let staged : t.staged ≡ s.staged = same.2 in
    record {
      size = size ∙ ring.size;
      flight = rw tx ring.flight;
      staged = ring.staged;
      none = staged ∙ ring.none;
    }

pub driven_stays : (s t : DriverState) (e : Ends) → SamePages s t
    → ((hosts : Bool) (first : ℕ) (c : RingContents) → IsHonestWith hosts first s c → IsHonestWith hosts first t c) → IsDriven s e → IsDriven t e
driven_stays s t e same honest driven = record {
  ring = ring_stays s t e same driven.ring;
  honest = (driven.honest.0, driven.honest.1, honest driven.honest.0 driven.honest.1 (driver_contents e) driven.honest.2);
}

-- A call without the rings.
pub replies : (c : GuestCall) (s t : DriverState) (reply : ReplyTo c) (e : Ends) (text text' : List ℕ) → whole_call c s ≡ Done (t, reply)
    → IsDriven t e → text' ≡ text ++ reply_text c reply t → Replies c s t e e text text'
replies c s t reply e text text' made driven printed = record {
  answer = reply;
  played = ap (λ tree. over_lists tree e) made;
  printed = printed;
  driven = driven;
}

-- One whose answer and whose end are known.
pub replies_as : (c : GuestCall) (s t after : DriverState) (reply answer : ReplyTo c) (e : Ends) (text text' : List ℕ)
    → whole_call c s ≡ Done (after, answer) → t ≡ after → reply ≡ answer → SamePages s after
    → ((hosts : Bool) (first : ℕ) (c : RingContents) → IsHonestWith hosts first s c → IsHonestWith hosts first t c) → IsDriven s e → text' ≡ text ++ reply_text c reply t
    → Replies c s t e e text text'
replies_as c s t after reply answer e text text' whole ends says same honest driven printed =
    replies c s t reply e text text' (whole ∙ sym (ap₂ (λ (x : DriverState) (r : ReplyTo c). Done (x, r)) ends says))
    (driven_stays s t e (subst (SamePages s) (sym ends) same) honest driven) printed

-- A listen.
pub listen_made : (port : ℕ) (s t : DriverState) (r : Result (Unit {0}) ListenError) → r ≡ listen_of port s → OnOk r (t ≡ listening port s)
    → OnErr r (t ≡ s) → whole_call (call.Listen port) s ≡ Done (t, r)
listen_made port s t (Ok u) is ok err = rw (← is, ok) refl
listen_made port s t (Err why) is ok err = rw (← is, err) refl
