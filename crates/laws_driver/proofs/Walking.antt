-- What a walk over the driver's conversations comes to: steps of its seat, from the one that it began with.
use Rattle.std.proofs.Common.{◌≡◌, ℕ, ◌<◌, ◌^◌, true, List, ◌∷◌, take, refl, sym, Bool}
use Rattle.vs_limits.specs.declared.TheConstants.{HOST_CID}
use Rattle.laws_history.specs.declared.packet.Packet.{Packet}
use Rattle.vs_page.specs.{Log.{Driver, Log}, declared.log.LogEntry.TheVariants.PutPacket}
use Rattle.laws_tables.{specs.Both.{Seat, Takes, TakesEvent, TakesReset}, proofs.Going.{Goes, goes_on, goes_then}}
use Rattle.vs_driver_parts.specs.State.{DriverState}
use Rattle.laws_driver.proofs.{Calls.{CarriesConnect, CarriesSend}, Carrying.{Carries, Fact}, Changing.wanting_changes, Going.{at_log, seat}}
use Rattle.laws_driver.proofs.{Putting.{connect_puts, owed_puts, reply_puts, send_puts}, Resetting.resets, Ringing.Puts, Taking.gets_packet}

abbrev pub goes_from : Seat → Fact
goes_from w part slots log = Goes Driver w (record { part = part; log = log })

module _ (hosts : Bool) (first : ℕ) (w : Seat) where
  pub puts_goes : (p : Packet) (s : DriverState) (page : List ℕ) (t : DriverState) (log : Log) → Puts hosts p s page t → Goes Driver w (seat s log)
      → Goes Driver w (seat t (PutPacket p ∷ log))
  puts_goes p s page t log puts goes = goes_on Driver w (seat s log) (seat t (PutPacket p ∷ log)) puts.step (puts.may log) (puts.leads log) goes

  pub poll_goes : Carries true hosts first (goes_from w)
  poll_goes = record {
    owed = λ what e s log fits stands owes m was fair goes. puts_goes _ s _ _ log (owed_puts what e s fits stands owes) goes;
    reply = λ r rest s log fits is m fair goes. puts_goes _ s _ (record s { replies = rest }) log (reply_puts r rest s fits is) goes;
    got = λ p s log fits ports whole m was fair goes.
        let g = gets_packet hosts p s fits ports whole in
        goes_on Driver w (seat s log) _ (Takes p g.answer) tt (at_log _ _ _ (sym g.ends)) goes;
    event = λ id s log goes. goes_on Driver w (seat s log) _ (TakesEvent id) refl refl goes;
    reset = λ cid s log less fits goes. goes_on Driver w (seat s log) _ (TakesReset cid) refl (at_log _ _ _ (sym (resets cid s less fits).ends)) goes;
  }

  pub connect_goes : (peer to : ℕ) → peer < 2 ^ 64 → to < 2 ^ 32 → (hosts ≡ true → peer ≡ HOST_CID)
      → CarriesConnect true hosts first peer to (goes_from w) (λ answer. goes_from w)
  connect_goes peer to peer_fits to_fits all = record {
    refused = λ why s log goes. goes;
    opens = λ s log fits free m was fair goes. puts_goes _ s _ _ log (connect_puts peer to s peer_fits to_fits all fits free) goes;
  }

  pub send_goes : (id : ℕ) (bytes : List ℕ) → CarriesSend true hosts first id bytes (goes_from w) (λ answer. goes_from w)
  send_goes id bytes = record {
    stopped = λ why s log goes. goes;
    unknown = λ s log none goes. goes;
    empty = λ s log goes. goes;
    full = λ n s log goes. goes;
    wants = λ e s log fits stands m goes. goes_then Driver _ _ _ goes ((wanting_changes s e fits stands).goes first log m);
    sends = λ e n s log fits stands known can few m was fair goes. puts_goes _ s _ _ log (send_puts e (take n bytes) s fits stands can few) goes;
  }
