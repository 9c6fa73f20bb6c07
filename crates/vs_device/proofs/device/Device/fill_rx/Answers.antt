use Rattle.std.{specs.Prelude.{Result, Err, false}, proofs.Common.{◌≡◌, length, Option, Some, None, refl, sym, ap, rules}}
use Rattle.vs_contents.{specs.CallTree.{Done, bind, while_up_to}, proofs.{Leads.{leads_of, leads_bind}, Conditions.{may_first, may_rest, may_of}}}
use Rattle.vs_ring_port.specs.declared.failure.Failure.{Failure}
use Rattle.vs_device_parts.specs.{Calls.DeviceTree, Filling.serve_rest, Receiving.{Filling, filled_of, fill_rx_of, put_reply}, State.DeviceState, declared.answers.Filled.Filled}
use Rattle.vs_device.proofs.{Ordered.{fill_honest, fill_streams}, Accounted.fill_accounted}
use Rattle.vs_device.proofs.device.Device.fill_rx.Goals as goal

abbrev start : DeviceState → Filling
start s = record { state = s; put = 0; read = 0; over = false }

abbrev replies_first : DeviceState → DeviceTree Filling
replies_first s = while_up_to (length s.replies) put_reply (start s)

abbrev then_serve : Filling → DeviceTree (DeviceState × Result Filled Failure)
then_serve r = bind (serve_rest r) (λ q. Done (filled_of q))

abbrev fill_on : DeviceState → Option Failure → DeviceTree (DeviceState × Result Filled Failure)
fill_on s o = elim o [ Some f ↦ Done (s, Err f) | None ↦ bind (replies_first s) then_serve ]

filling_is : (s : DeviceState) → s.failed ≡ None → fill_rx_of s ≡ bind (replies_first s) then_serve
filling_is s none = ap (fill_on s) none

pub put_replies-requires-clause-may : goal.put_replies-requires-clause-may
put_replies-requires-clause-may g c =
    let none : c.args.self.now.failed ≡ None = rw (← c.self.view_is) (search rules) in
    (_, _, may_first _ _ _ _ _ (may_of _ _ _ _ _ (filling_is c.args.self.now none) c.requires.may))

pub serve-requires-clause-may : goal.serve-requires-clause-may
serve-requires-clause-may g c =
    let none : c.args.self.now.failed ≡ None = rw (← c.self.view_is) (search rules) in
    may_first _ _ _ _ _ (may_rest _ _ _ then_serve _ _ _ (may_of _ _ _ _ _ (filling_is c.args.self.now none) c.requires.may)
    (c.put_replies.ensures.calls _ _))

pub returns-clause-calls : goal.returns-clause-calls
returns-clause-calls g c =
    let none : c.args.self.now.failed ≡ None = rw (← c.self.view_is) (search rules) in
    let last = leads_bind _ _ (λ (x : Filling). Done (filled_of x)) _ _ _ _ (c.serve.new.self, c.filled.result) c.serve.ensures.calls (sym c.filled.ensures.exact, refl) in
    leads_of _ _ _ _ _ _ (filling_is c.args.self.now none) (leads_bind _ _ then_serve _ _ _ _ _ (c.put_replies.ensures.calls _ _) last)

pub returns-clause-streams : goal.returns-clause-streams
returns-clause-streams g c = fill_streams c.args.self.now _ _ _ (returns-clause-calls g c)

pub returns-clause-honest : goal.returns-clause-honest
returns-clause-honest g c = fill_honest c.args.self.now _ _ _ (returns-clause-calls g c)

pub returns-clause-bytes : goal.returns-clause-bytes
returns-clause-bytes g c = fill_accounted c.args.self.now _ _ _ (returns-clause-calls g c)
