use Rattle.std.proofs.{Common.{◌≡◌, [], false, ◌+◌, ◌-◌, ◌++◌, length, take, drop, refl, ap, sym, ◌∙◌, arith}, Math.Seq.take-add, lemmas.List.{take_all, take_rest}}
use Rattle.vs_peer.proofs.{Pieces.rest_length, Streams.{relates_as, relates_then, still_moves}, Waits.{paused_before, paused_once}}
use Rattle.vs_peer.proofs.ask.ask.Goals as goal

pub write-requires-clause-some : goal.write-requires-clause-some
write-requires-clause-some g c = omega (arith, rest_length c.args.line.now c.loop.at, c.loop.invariant.within)

pub overflow_add-at : goal.overflow_add-at
overflow_add-at g c = omega (arith, rest_length c.args.line.now c.loop.at, c.in-Took.ensures.some.0)

pub returns-then-at-line-clause-asks : goal.returns-then-at-line-clause-asks
returns-then-at-line-clause-asks g c =
    let xs = c.args.line.now in
    let whole : take c.loop.at xs ≡ xs = take_all c.loop.at xs (omega arith) in
    relates_as c.args.id (take c.loop.at xs) xs [] [] false false _ _ c.loop.invariant.passes whole refl refl

pub loop-preserved-in-Took : goal.loop-preserved-in-Took
loop-preserved-in-Took g c =
    let id = c.args.id in
    let xs = c.args.line.now in
    let a = c.loop.at in
    let n = c.in-Took.n in
    let rest = take (length xs - a) (drop a xs) in
    let joined : take a xs ++ take n rest ≡ take (a + n) xs = ap (λ ys. take a xs ++ take n ys) (take_rest xs a) ∙ sym (take-add a n xs) in
    let both = relates_then id (take a xs) (take n rest) [] [] false false _ _ _ c.loop.invariant.passes c.in-Took.ensures.passes in
    record {
      within = omega (arith, rest_length xs a, c.in-Took.ensures.some.0, c.loop.invariant.within);
      was = c.in-Took.ensures.open;
      passes = relates_as id _ (take (a + n) xs) [] [] false false _ _ both joined refl refl;
      faults = c.in-Took.ensures.faults ∙ c.loop.invariant.faults;
      pauses = paused_before c.loop.waited 0 _ _ c.loop.invariant.pauses (omega arith);
    }

pub loop-preserved : goal.loop-preserved
loop-preserved g c = record {
  within = c.loop.invariant.within;
  was = c.in-Again.ensures.open;
  passes = still_moves c.args.id _ [] false _ _ _ c.loop.invariant.passes c.in-Again.ensures.passes.0;
  faults = c.in-Again.ensures.faults ∙ c.loop.invariant.faults;
  pauses = paused_once c.loop.waited _ _ _ _ c.loop.invariant.pauses c.gives_up.ensures.steps c.gives_up.ensures.pauses;
}

pub returns-then-gives_up-clause-asks : goal.returns-then-gives_up-clause-asks
returns-then-gives_up-clause-asks g c = (
  record {
    sent = c.loop.at;
    less = omega (arith, c.loop.invariant.within);
    passes = still_moves c.args.id _ [] false _ _ _ c.loop.invariant.passes c.in-Again.ensures.passes.0;
  },
  c.in-Again.ensures.passes.1,
)

pub returns-in-Closed-clause-asks : goal.returns-in-Closed-clause-asks
returns-in-Closed-clause-asks g c = (
  record {
    sent = c.loop.at;
    less = omega (arith, c.loop.invariant.within);
    passes = still_moves c.args.id _ [] false _ _ _ c.loop.invariant.passes c.in-Closed.ensures.passes.0;
  },
  c.in-Closed.ensures.passes.1,
)

pub returns-in-Failed-clause-asks : goal.returns-in-Failed-clause-asks
returns-in-Failed-clause-asks g c = record {
  sent = c.loop.at;
  less = omega (arith, c.loop.invariant.within);
  passes = still_moves c.args.id _ [] false _ _ _ c.loop.invariant.passes c.in-Failed.ensures.passes;
}
