use Rattle.std.proofs.Common.{refl, sym}
use Rattle.vs_flow.specs.Table.{entry_under}
use Rattle.vs_device_parts.specs.Written.{writing}
use Rattle.vs_contents.proofs.Leads.{leads_of}
use Rattle.vs_device.proofs.{Pumping.{may_shut_write, may_shut_then, pumped, writes_some}, Skipped.nothing_pumped}
use Rattle.vs_device.proofs.device.Device.pump_slot.Goals as goal

pub shut_write-requires : goal.shut_write-requires
shut_write-requires g c =
    let h = writes_some (entry_under c.args.self.now.table c.args.slot) (sym c.if-has_to_write.ensures) in
    let may = may_shut_then c.args.slot (writing c.args.self.now c.args.wrote.now) h.entry h.is h.open_ _ _ _ c.requires.may.1
    (c.write_pending.ensures.calls h.entry h.is c.requires.may.0) in
    record { may = λ e found out. may_shut_write c.args.slot _ e found _ may out }

pub returns-then-has_to_write-clause-calls : goal.returns-then-has_to_write-clause-calls
returns-then-has_to_write-clause-calls g c = λ ring.
    let h = writes_some (entry_under c.args.self.now.table c.args.slot) (sym c.if-has_to_write.ensures) in
    pumped c.args.slot (writing c.args.self.now c.args.wrote.now) h.entry h.is h.open_ _ _ _ _ _ (c.write_pending.ensures.calls h.entry h.is ring)
    (c.shut_write.ensures.calls c.write_pending.new.wrote ring)

pub returns-else-has_to_write-clause-calls : goal.returns-else-has_to_write-clause-calls
returns-else-has_to_write-clause-calls g c = λ ring.
    leads_of _ _ _ _ _ _ (nothing_pumped c.args.slot (writing c.args.self.now c.args.wrote.now) c.if-has_to_write.ensures) (refl, refl)
