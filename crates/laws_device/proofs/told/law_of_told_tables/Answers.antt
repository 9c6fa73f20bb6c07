use Rattle.vs_page.specs.Log.{Device, side_of, whole_of}
use Rattle.laws_tables.proofs.Once.{once_ordered}
use Rattle.vs_device_parts.specs.{Receiving.{fill_rx_of, pay_event_of}, Transmitting.take_tx_of, Turns.reset_of}
use Rattle.laws_device.proofs.{Filling.fill_keeps, Ordering.{new_told, told, told_end, unsurely}, Shown.as_left_open, Transmitting.take_keeps, Turning.{pay_keeps, reset_keeps}}
use Rattle.std.proofs.Common.{[]}
use Rattle.laws_device.proofs.told.law_of_told_tables.Goals as goal

pub returns-clause-new : goal.returns-clause-new
returns-clause-new c = new_told

pub returns-clause-take_tx : goal.returns-clause-take_tx
returns-clause-take_tx c = λ first port s a b x holds runs. told_end first port (λ y. y.0) s (take_tx_of s) a b x holds (take_keeps told [] first port s (unsurely a)) runs

pub returns-clause-pay_event : goal.returns-clause-pay_event
returns-clause-pay_event c = λ first port s a b x holds runs. told_end first port (λ y. y.0) s (pay_event_of s) a b x holds (pay_keeps told [] first port s (unsurely a)) runs

pub returns-clause-fill_rx : goal.returns-clause-fill_rx
returns-clause-fill_rx c = λ first port s a b x holds runs. told_end first port (λ y. y.0) s (fill_rx_of s) a b x holds (fill_keeps told [] first port s (unsurely a)) runs

pub returns-clause-reset : goal.returns-clause-reset
returns-clause-reset c = λ first port cid s a b x fits holds runs.
    told_end first port (λ y. y.0) s (reset_of cid s) a b x holds (reset_keeps told [] first port cid fits s (unsurely a)) runs

pub returns-clause-table : goal.returns-clause-table
returns-clause-table c = λ first port s l told still ordered. as_left_open first port s l (told.left still ordered).matches

pub returns-clause-once : goal.returns-clause-once
returns-clause-once c = λ first port s l told still once.
    as_left_open first port s l (told.left still (λ f. once_ordered (side_of Device f) (whole_of Device f l.entries) (once f).0 (once f).1)).matches
