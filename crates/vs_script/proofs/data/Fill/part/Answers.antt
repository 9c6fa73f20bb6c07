use Rattle.std.proofs.Common.{◌+◌, ◌*◌, ◌-◌, ◌/◌, ◌%◌, take, drop, ap, arith}
use Rattle.vs_script.{specs.declared.data.TheConstants.SEVENS, proofs.Filling.in_run}
use Rattle.vs_script.proofs.data.Fill.part.Goals as goal

pub returns-clause-bytes : goal.returns-clause-bytes
returns-clause-bytes c =
    let first = (183 * c.from.result + 178 * (c.args.place / 251)) % 256 + c.args.place % 251 in
    in_run c.args.self.start c.args.self.n c.args.place c.min.result first (take (first + c.min.result - first) (drop first SEVENS))
    (omega (arith, c.requires, c.min.ensures)) (omega (arith, c.min.ensures))
    (ap (λ s. (183 * s + 178 * (c.args.place / 251)) % 256 + c.args.place % 251) c.from.ensures)
    (ap (λ n. take n (drop first SEVENS)) (omega arith))
