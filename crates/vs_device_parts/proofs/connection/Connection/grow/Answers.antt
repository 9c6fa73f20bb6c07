-- What it takes that a buffer space is raised follows from the answer.
use Rattle.std.proofs.Common.{◌≡◌, ℕ, sym, subst}
use Rattle.vs_device_parts.{proofs.Growing.{MayGrow, may_grow}, specs.{Growing.grow_answer, State.DeviceConnection}}
use Rattle.vs_device_parts.proofs.connection.Connection.grow.Goals as goal
use Rattle.vs_device_parts.specs.declared.answers.Grown.TheVariants as rise

may : (alloc : ℕ) (c d : DeviceConnection) → c ≡ d → grow_answer d.end.state alloc d.end ≡ rise.Done → MayGrow c.end alloc
may alloc c d is done =
    may_grow c.end alloc (subst (λ (x : DeviceConnection). grow_answer x.end.state alloc x.end ≡ rise.Done) (sym is) done)

pub grow-requires-clause-live : goal.grow-requires-clause-live
grow-requires-clause-live c = (may c.args.alloc _ _ c.self.view_is c.requires).live

pub grow-requires-clause-rises : goal.grow-requires-clause-rises
grow-requires-clause-rises c = (may c.args.alloc _ _ c.self.view_is c.requires).rises

pub grow-requires-clause-most : goal.grow-requires-clause-most
grow-requires-clause-most c = (may c.args.alloc _ _ c.self.view_is c.requires).most
