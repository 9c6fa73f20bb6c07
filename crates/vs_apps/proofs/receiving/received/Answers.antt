use Rattle.std.proofs.Common.{◌≤◌, length, sym, subst, arith}
use Rattle.vs_driver_parts.specs.{Connections.got_count, Playing.SamePages, declared.answers.Received.Received}
use Rattle.laws_driver.proofs.Carried.SamePages.{recv_stays}
use Rattle.laws_apps.proofs.Receives.{recv_few}
use Rattle.vs_apps.proofs.receiving.received.Goals as goal

pub returns-clause-count : goal.returns-clause-count
returns-clause-count c =
    let few : got_count c.recv-answer.result ≤ length c.args.buffer.now =
    subst (λ (r : Received). got_count r ≤ length c.args.buffer.now) (sym c.recv-answer.ensures.answer)
    (recv_few c.args.id (length c.args.buffer.now) c.args.driver.now) in
    grind (arith, few, c.count.ensures, c.min-n.ensures)

pub returns-clause-pages : goal.returns-clause-pages
returns-clause-pages c = subst (SamePages c.args.driver.now) (sym c.recv-answer.ensures.state) (recv_stays c.args.id (length c.args.buffer.now) c.args.driver.now)
