use Rattle.vs_driver_parts.specs.{Connections.{after_close, after_grow, after_recv, after_shutdown, after_unlisten}, Listening.{after_accept, listening}}
use Rattle.laws_driver.proofs.{Ordering.still_told, Changing.{accept_changes, close_changes, grow_changes, listen_changes, recv_changes, shutdown_changes, unlisten_changes}}
use Rattle.laws_driver.proofs.told.law_of_other_told.Goals as goal

pub returns-clause-recv : goal.returns-clause-recv
returns-clause-recv c = λ first id n s r told. still_told first s (after_recv id n s) r (recv_changes id n s) told

pub returns-clause-shutdown : goal.returns-clause-shutdown
returns-clause-shutdown c = λ first id bits s r told. still_told first s (after_shutdown id bits s) r (shutdown_changes id bits s) told

pub returns-clause-grow : goal.returns-clause-grow
returns-clause-grow c = λ first id alloc s r told. still_told first s (after_grow id alloc s) r (grow_changes id alloc s) told

pub returns-clause-close : goal.returns-clause-close
returns-clause-close c = λ first id s r told. still_told first s (after_close id s) r (close_changes id s) told

pub returns-clause-listen : goal.returns-clause-listen
returns-clause-listen c = λ first port s r told. still_told first s (listening port s) r (listen_changes port s) told

pub returns-clause-unlisten : goal.returns-clause-unlisten
returns-clause-unlisten c = λ first port s r told. still_told first s (after_unlisten port s) r (unlisten_changes port s) told

pub returns-clause-accept : goal.returns-clause-accept
returns-clause-accept c = λ first port s r told. still_told first s (after_accept port s) r (accept_changes port s) told
