use Rattle.std.proofs.Common.{subst, sym}
use Rattle.vs_driver_parts.specs.Held.{HeldSlots}
use Rattle.laws_driver.{specs.Carried.Received.AreReceived, proofs.Carried.Changing.{accept_slots, close_received, grow_received, shutdown_received, unlisten_received}}
use Rattle.laws_driver.proofs.Carried.{Ending.{connect_ends, new_righted, poll_ends, send_ends}, Reading.recv_received}
use Rattle.laws_driver.proofs.payload.law_of_received.Goals as goal

pub returns-clause-new : goal.returns-clause-new
returns-clause-new c = λ size port id r d s fits fresh plays on l is. (new_righted size port id r d s fits fresh plays on l is).received

pub returns-clause-recv : goal.returns-clause-recv
returns-clause-recv c = λ first id n a s r honest account on l is. recv_received a l.entries id n s (honest on l is).fits.sound (account on l is)

pub returns-clause-send : goal.returns-clause-send
returns-clause-send c = λ first id bytes a s r d x honest account plays. send_ends first id bytes a s r d x honest account plays

pub returns-clause-connect : goal.returns-clause-connect
returns-clause-connect c = connect_ends

pub returns-clause-poll : goal.returns-clause-poll
returns-clause-poll c = poll_ends

pub returns-clause-shutdown : goal.returns-clause-shutdown
returns-clause-shutdown c = λ first id bits a s r honest account on l is.
    shutdown_received a l.entries s (account on l is) id bits (honest on l is).fits.sound

pub returns-clause-grow : goal.returns-clause-grow
returns-clause-grow c = λ first id alloc a s r honest account on l is.
    grow_received a l.entries s (account on l is) id alloc (honest on l is).fits.sound

pub returns-clause-close : goal.returns-clause-close
returns-clause-close c = λ first id a s r honest account on l is. close_received a l.entries s (account on l is) id (honest on l is).fits.sound

pub returns-clause-listen : goal.returns-clause-listen
returns-clause-listen c = λ first port a s r honest account. account

pub returns-clause-unlisten : goal.returns-clause-unlisten
returns-clause-unlisten c = λ first port a s r honest account on l is. unlisten_received a l.entries port s (honest on l is).fits (account on l is)

pub returns-clause-accept : goal.returns-clause-accept
returns-clause-accept c = λ first port a s r honest account on l is.
    subst (λ (slots : HeldSlots). AreReceived a l.entries slots) (sym (accept_slots port s)) (account on l is)
