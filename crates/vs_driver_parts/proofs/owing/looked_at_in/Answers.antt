use Rattle.std.proofs.Common.{◌≡◌, Some, None, subst, ◌∙◌}
use Rattle.vs_conn.specs.End.{owes_of}
use Rattle.vs_driver_parts.{specs.State.DriverConnection, proofs.Noting.noted_where_seen}
use Rattle.vs_driver_parts.specs.declared.owing.Owing.TheVariants.{Nobody}
use Rattle.vs_driver_parts.proofs.owing.looked_at_in.Goals as goal

pub returns-in-Some : goal.returns-in-Some
returns-in-Some c =
    noted_where_seen c.args.slot c.noted.result c.args.table.now c.get.ensures.sound c.requires.noted (λ x is off.
    let both : Some c.in-Some.connection.now ≡ Some x = c.in-Some.ensures.value ∙ is in
    let same : c.in-Some.connection.now ≡ x = cc in
    subst (λ (y : DriverConnection). owes_of y.end ≡ None) same (c.noted.ensures.none off))

pub returns-in-None : goal.returns-in-None
returns-in-None c =
    noted_where_seen c.args.slot Nobody c.args.table.now c.get.ensures.sound c.requires.noted (λ x is off.
    let none : None ≡ Some x = c.in-None.ensures.value ∙ is in
    absurd (cc))
