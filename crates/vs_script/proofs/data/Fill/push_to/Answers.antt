use Rattle.std.proofs.Common.{◌≡◌, ◌++◌, if◌then◌else◌, is_ok, length, take, drop, ap, subst, ◌∙◌, append_assoc, arith}
use Rattle.vs_script.{specs.Data.filled_bytes, proofs.Filling.{all_of_them, more_of_them}}
use Rattle.vs_script.proofs.data.Fill.push_to.Goals as goal

pub loop-done-preserved : goal.loop-done-preserved
loop-done-preserved c =
    let done = c.loop-done.done in
    let count = length c.part-part.result.now in
    let before = c.loop-done.out.items in
    let whole = filled_bytes c.args.self.n c.args.self.start in
    record {
      within = omega (arith, c.part-part.ensures.most, c.loop-done-test.true);
      pushed =
          subst (λ r. c.extend_from_slice.new.self.items ≡ (if is_ok r then before ++ c.part-part.result.now else before))
          c.in_ok-extend_from_slice.was c.extend_from_slice.ensures.items
          ∙ ap (λ xs. xs ++ c.part-part.result.now) c.loop-done.invariant.pushed
          ∙ append_assoc c.args.out.now.items (take done (drop c.args.from whole)) c.part-part.result.now
          ∙ ap (λ xs. c.args.out.now.items ++ (take done (drop c.args.from whole) ++ xs)) c.part-part.ensures.bytes
          ∙ ap (λ xs. c.args.out.now.items ++ xs) (more_of_them c.args.from done count whole);
    }

pub returns : goal.returns
returns c =
    c.loop-done.invariant.pushed
    ∙ ap (λ xs. c.args.out.now.items ++ xs)
    (all_of_them c.args.from c.args.most c.loop-done.done c.args.self.n c.args.self.start
    (omega (arith, c.loop-done-test.false, c.loop-done.invariant.within, c.count_from-count.ensures)))
