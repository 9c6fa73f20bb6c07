use Rattle.std.proofs.Common.{arith}
use Rattle.laws_world.proofs.Opening.{run_well}
use Rattle.vs_core.proofs.laws.law_of_credit.Goals as goal

pub returns-clause-broken : goal.returns-clause-broken
returns-clause-broken c = λ how host es. (run_well how host es).broken

pub returns-clause-overrun : goal.returns-clause-overrun
returns-clause-overrun c = λ how host es. (run_well how host es).overrun

pub returns-clause-unread : goal.returns-clause-unread
returns-clause-unread c = λ how host es i d less. let held = ((run_well how host es).driver.entries i d less).buffer in (held.fits, held.space)

pub returns-clause-pending : goal.returns-clause-pending
returns-clause-pending c = λ how host es i d less.
    let fits = ((run_well how host es).device.fits.entries i d less).bytes in (omega (arith, fits.unread, fits.within), fits.alloc)
