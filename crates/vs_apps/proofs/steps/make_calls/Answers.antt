use Rattle.std.{proofs.Common.{ℕ, List, [], ◌∷◌, if◌then◌else◌, refl, ap, subst, sym}, specs.Prelude.nat_lt}
use Rattle.vs_script.specs.App.{instruction_view}
use Rattle.laws_driver.specs.Carried.Calls.{GuestCall}
use Rattle.vs_apps_parts.specs.{Scripts.{IsRight, recv_next}, declared.progress.TheConstants.SLICE}
use Rattle.laws_apps.proofs.Stepping.{both_made, data_of, made_for, made_same, one_made}
use Rattle.vs_script.specs.declared.app.Instruction.TheVariants as code
use Rattle.laws_driver.specs.Carried.Calls as call
use Rattle.vs_apps.proofs.steps.make_calls.Goals as goal

pub returns-in-Connect-clause-calls : goal.returns-in-Connect-clause-calls
returns-in-Connect-clause-calls g c = λ script apps found.
    made_for script c.args.app c.args.instruction.now (code.Connect c.in-Connect.port) c.args.progress _ _ _ _ _ c.in-Connect.is refl c.one.ensures
    (one_made script c.args.app _ c.ask.result _ _ (c.ask.ensures.calls script apps))

pub returns-in-Listen-clause-calls : goal.returns-in-Listen-clause-calls
returns-in-Listen-clause-calls g c = λ script apps found.
    made_for script c.args.app c.args.instruction.now (code.Listen c.in-Listen.port) c.args.progress _ _ _ _ _ c.in-Listen.is refl c.one-in-Listen.ensures
    (one_made script c.args.app _ c.listen.result _ _ (c.listen.ensures.calls script (g.R.DriverRing.contents c.args.ring.now) apps))

pub returns-in-Accept-clause-calls : goal.returns-in-Accept-clause-calls
returns-in-Accept-clause-calls g c = λ script apps found.
    made_for script c.args.app c.args.instruction.now (code.Accept c.in-Accept.port) c.args.progress _ _ _ _ _ c.in-Accept.is refl c.one-in-Accept.ensures
    (one_made script c.args.app _ c.accept.result _ _ (c.accept.ensures.calls script (g.R.DriverRing.contents c.args.ring.now) apps))

pub returns-in-Send-clause-calls : goal.returns-in-Send-clause-calls
returns-in-Send-clause-calls g c = λ script apps found.
    made_for script c.args.app c.args.instruction.now (code.Send c.in-Send.content) c.args.progress _ _ _ _ _ c.in-Send.is refl c.one-in-Send.ensures
    (one_made script c.args.app _ c.send_next.result _ _ (c.send_next.ensures.calls script apps
    (data_of script c.args.app c.args.progress.at c.args.instruction.now (code.Send c.in-Send.content) found c.in-Send.is)))

pub returns-in-Recv-clause-calls : goal.returns-in-Recv-clause-calls
returns-in-Recv-clause-calls g c = λ script apps found.
    made_for script c.args.app c.args.instruction.now (code.Recv c.in-Recv.len) c.args.progress _ _ _ _ _ c.in-Recv.is refl c.one-in-Recv.ensures
    (one_made script c.args.app _ c.recv_next.result _ _ (c.recv_next.ensures.calls script (g.R.DriverRing.contents c.args.ring.now) apps))

pub returns-in-Drain-clause-calls : goal.returns-in-Drain-clause-calls
returns-in-Drain-clause-calls g c = λ script apps found.
    made_for script c.args.app c.args.instruction.now code.Drain c.args.progress _ _ _ _ _ c.in-Drain.is (ap (λ (id : ℕ). let cs : List GuestCall = call.Recv id SLICE ∷ [] in cs) (sym c.id-id.ensures)) c.one-in-Drain.ensures
    (one_made script c.args.app _ c.recv.result _ _ (c.recv.ensures.calls script (g.R.DriverRing.contents c.args.ring.now) apps))

pub returns-in-Shutdown-clause-calls : goal.returns-in-Shutdown-clause-calls
returns-in-Shutdown-clause-calls g c = λ script apps found.
    made_for script c.args.app c.args.instruction.now (code.Shutdown c.in-Shutdown.bits) c.args.progress _ _ _ _ _ c.in-Shutdown.is (ap (λ (id : ℕ). let cs : List GuestCall = call.Shutdown id c.in-Shutdown.bits ∷ [] in cs) (sym c.id-id.ensures)) c.one-in-Shutdown.ensures
    (one_made script c.args.app _ c.shutdown.result _ _ (c.shutdown.ensures.calls script (g.R.DriverRing.contents c.args.ring.now) apps))

pub returns-in-Grow-clause-calls : goal.returns-in-Grow-clause-calls
returns-in-Grow-clause-calls g c = λ script apps found.
    made_for script c.args.app c.args.instruction.now (code.Grow c.in-Grow.alloc) c.args.progress _ _ _ _ _ c.in-Grow.is (ap (λ (id : ℕ). let cs : List GuestCall = call.Grow id c.in-Grow.alloc ∷ [] in cs) (sym c.id-id.ensures)) c.one-in-Grow.ensures
    (one_made script c.args.app _ c.grow.result _ _ (c.grow.ensures.calls script (g.R.DriverRing.contents c.args.ring.now) apps))

pub returns-in-Close-clause-calls : goal.returns-in-Close-clause-calls
returns-in-Close-clause-calls g c = λ script apps found.
    made_for script c.args.app c.args.instruction.now code.Close c.args.progress _ _ _ _ _ c.in-Close.is (ap (λ (id : ℕ). let cs : List GuestCall = call.Close id ∷ [] in cs) (sym c.id-id.ensures)) c.one-in-Close.ensures
    (one_made script c.args.app _ c.close.result _ _ (c.close.ensures.calls script (g.R.DriverRing.contents c.args.ring.now) apps))

pub returns-in-Exchange-clause-calls : goal.returns-in-Exchange-clause-calls
returns-in-Exchange-clause-calls g c = λ script apps found.
    made_for script c.args.app c.args.instruction.now (code.Exchange c.in-Exchange.content) c.args.progress _ _ _ _ _ c.in-Exchange.is refl refl
    (both_made script c.args.app _ _ _ _ _ _ _
    (c.send_left-first.ensures.calls script apps
    (data_of script c.args.app c.args.progress.at c.args.instruction.now (code.Exchange c.in-Exchange.content) found c.in-Exchange.is))
    (made_same script c.args.app _ _ _ _ _
    (ap (λ (n : ℕ). let cs : List GuestCall = if nat_lt c.args.progress.got n then recv_next n c.args.progress ∷ [] else [] in cs) c.len.ensures.size)
    (c.recv_left-second.ensures.calls script (g.R.DriverRing.contents c.send_left-first.new.ring) apps)))

pub shutdown-requires-clause-bits : goal.shutdown-requires-clause-bits
shutdown-requires-clause-bits g c = subst (λ (i : _). IsRight (instruction_view i)) c.in-Shutdown.is c.requires.right

pub returns-in-Listen-clause-ring : goal.returns-in-Listen-clause-ring
returns-in-Listen-clause-ring g c = c.listen.ensures.ring _ _ _ c.requires.ring

pub returns-in-Listen-clause-honest : goal.returns-in-Listen-clause-honest
returns-in-Listen-clause-honest g c = λ hosts first old. c.listen.ensures.honest hosts first (g.R.DriverRing.contents c.args.ring.now) old

pub returns-in-Accept-clause-ring : goal.returns-in-Accept-clause-ring
returns-in-Accept-clause-ring g c = c.accept.ensures.ring _ _ _ c.requires.ring

pub returns-in-Accept-clause-honest : goal.returns-in-Accept-clause-honest
returns-in-Accept-clause-honest g c = λ hosts first old. c.accept.ensures.honest hosts first (g.R.DriverRing.contents c.args.ring.now) old

pub returns-in-Recv-clause-ring : goal.returns-in-Recv-clause-ring
returns-in-Recv-clause-ring g c = c.recv_next.ensures.ring _ _ _ c.requires.ring

pub returns-in-Recv-clause-honest : goal.returns-in-Recv-clause-honest
returns-in-Recv-clause-honest g c = λ hosts first old. c.recv_next.ensures.honest hosts first (g.R.DriverRing.contents c.args.ring.now) old

pub returns-in-Drain-clause-ring : goal.returns-in-Drain-clause-ring
returns-in-Drain-clause-ring g c = c.recv.ensures.ring _ _ _ c.requires.ring

pub returns-in-Drain-clause-honest : goal.returns-in-Drain-clause-honest
returns-in-Drain-clause-honest g c = λ hosts first old. c.recv.ensures.honest hosts first (g.R.DriverRing.contents c.args.ring.now) old

pub returns-in-Shutdown-clause-ring : goal.returns-in-Shutdown-clause-ring
returns-in-Shutdown-clause-ring g c = c.shutdown.ensures.ring _ _ _ c.requires.ring

pub returns-in-Shutdown-clause-honest : goal.returns-in-Shutdown-clause-honest
returns-in-Shutdown-clause-honest g c = λ hosts first old. c.shutdown.ensures.honest hosts first (g.R.DriverRing.contents c.args.ring.now) old

pub returns-in-Grow-clause-ring : goal.returns-in-Grow-clause-ring
returns-in-Grow-clause-ring g c = c.grow.ensures.ring _ _ _ c.requires.ring

pub returns-in-Grow-clause-honest : goal.returns-in-Grow-clause-honest
returns-in-Grow-clause-honest g c = λ hosts first old. c.grow.ensures.honest hosts first (g.R.DriverRing.contents c.args.ring.now) old

pub returns-in-Close-clause-ring : goal.returns-in-Close-clause-ring
returns-in-Close-clause-ring g c = c.close.ensures.ring _ _ _ c.requires.ring

pub returns-in-Close-clause-honest : goal.returns-in-Close-clause-honest
returns-in-Close-clause-honest g c = λ hosts first old. c.close.ensures.honest hosts first (g.R.DriverRing.contents c.args.ring.now) old

pub returns-in-Exchange-clause-ring : goal.returns-in-Exchange-clause-ring
returns-in-Exchange-clause-ring g c = c.recv_left-second.ensures.ring _ _ _ c.send_left-first.ensures.ring

pub returns-in-Exchange-clause-honest : goal.returns-in-Exchange-clause-honest
returns-in-Exchange-clause-honest g c = λ hosts first old. c.recv_left-second.ensures.honest hosts first (g.R.DriverRing.contents c.send_left-first.new.ring)
    (c.send_left-first.ensures.honest hosts first old)
