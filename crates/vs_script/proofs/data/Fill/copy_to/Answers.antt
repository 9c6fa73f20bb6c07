use Rattle.std.proofs.{Common.{◌≡◌, ◌≤◌, ◌+◌, ◌++◌, length, take, drop, ap, sym, ◌∙◌, arith, rules}, lemmas.{List.drop-drop, Slice.{drop-put_mid, take-put_mid}}}
use Rattle.vs_script.{specs.Data.filled_bytes, proofs.Filling.more_of_them}
use Rattle.vs_script.proofs.data.Fill.copy_to.Goals as goal

pub loop-done-preserved : goal.loop-done-preserved
loop-done-preserved c =
    let done = c.loop-done.done in
    let count = length c.part-part.result.now in
    let out = c.loop-done.out in
    let put = c.copy_from_slice.new.self in
    let whole = filled_bytes c.args.self.n c.args.self.start in
    let is : c.copy_from_slice.new.self ≡ c.part-part.result.now = search rules in
    let long : length c.copy_from_slice.new.self ≡ length c.part-part.result.now = ap length is in
    let inside : c.loop-done.done ≤ length c.loop-done.out =
    omega (arith, c.loop-done.invariant.long, c.count_from-count.ensures, c.loop-done-test.true) in
    record {
      within = omega (arith, c.part-part.ensures.most, c.loop-done-test.true);
      long = search rules;
      copied =
          take-put_mid done _ out put (done + count) (omega (arith, long)) inside ∙ ap (λ xs. xs ++ put) c.loop-done.invariant.copied
          ∙ ap (λ xs. take done (drop c.args.from whole) ++ xs) (is ∙ c.part-part.ensures.bytes)
          ∙ more_of_them c.args.from done count whole;
      rest =
          drop-put_mid done _ out put (done + count) (omega arith) inside (omega (arith, long))
          ∙ sym (drop-drop count done out) ∙ ap (drop count) c.loop-done.invariant.rest ∙ drop-drop count done c.args.out.now;
    }
