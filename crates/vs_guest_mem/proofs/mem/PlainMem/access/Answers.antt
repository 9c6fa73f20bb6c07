use Rattle.std.proofs.{Common.{refl, arith}, lemmas.Grind.common_steps}
use Rattle.vs_guest_mem.{specs.Plain.memory_of, proofs.Sound.sound_access}
use Rattle.vs_guest_mem.proofs.mem.PlainMem.access.Goals as goal

pub invariant_of-self : goal.invariant_of-self
invariant_of-self c = sound_access (memory_of c.self.inside) _ c.self.invariant refl (grind (arith, common_steps)) c.pass.ensures
