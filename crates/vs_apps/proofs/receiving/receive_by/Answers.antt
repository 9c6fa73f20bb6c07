use Rattle.std.proofs.{Common.{◌∙◌, length, take, refl}, lemmas.List.length-take-le}
use Rattle.vs_driver.proofs.RingPages.{ring_same}
use Rattle.laws_apps.proofs.Receives.{recv_as}
use Rattle.vs_apps.proofs.receiving.receive_by.Goals as goal

pub returns-clause-calls : goal.returns-clause-calls
returns-clause-calls c = λ script ring apps.
    let got = c.received-answer.result in
    recv_as script c.args.app c.args.id (length c.args.buffer.now) (length c.args.journal.now.bytes) c.args.driver.now c.received-answer.new.driver got.0
    c.args.journal.now.bytes c.note_received.new.self.bytes (
      take got.1 c.received-answer.new.buffer,
      length-take-le got.1 c.received-answer.new.buffer c.received-answer.ensures.within ∙ c.received-answer.ensures.count,
      c.note_received.ensures.bytes,
      c.received-answer.ensures.made,
    ) refl c.args.journal.now.entries c.note_received.new.self.entries c.note_received.result ring apps (c.note_received.ensures.told script)
    c.note_received.ensures.entries

pub returns-clause-ring : goal.returns-clause-ring
returns-clause-ring c = λ n flown staged. ring_same n flown staged _ _ c.received-answer.ensures.pages
