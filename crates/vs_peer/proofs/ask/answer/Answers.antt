use Rattle.std.proofs.Common.{◌≡◌, [], false, length, refl, sym, ◌∙◌, inl, inr, arith}
use Rattle.vs_peer.proofs.{Answering.byte_came, Streams.still_moves, Waits.paused_before, Waits.paused_once}
use Rattle.vs_peer.proofs.ask.answer.Goals as goal

pub loop-preserved-in-More : goal.loop-preserved-in-More
loop-preserved-in-More g c =
    let i = c.loop.invariant in
    let one : length c.read.new.out ≡ 1 = c.read.auto.out ∙ i.one in
    record {
      one = one;
      more = sym c.in-More.ensures.step;
      undecided = c.in-More.ensures.more.0 refl;
      was = c.in-Got.ensures.open;
      passes = byte_came c.args.id _ _ _ c.read.new.out c.loop.line c.feed.new.self c.in-Got.field-0 one c.in-Got.ensures.some i.undecided
          c.feed.ensures.fed i.passes c.in-Got.ensures.passes;
      faults = c.in-Got.ensures.faults ∙ i.faults;
      pauses = paused_before c.loop.waited 0 _ _ i.pauses (omega arith);
    }

pub loop-preserved : goal.loop-preserved
loop-preserved g c = record {
  one = c.read.auto.out ∙ c.loop.invariant.one;
  more = c.loop.invariant.more;
  undecided = c.loop.invariant.undecided;
  was = c.in-Again.ensures.open;
  passes = still_moves c.args.id [] _ false _ _ _ c.loop.invariant.passes c.in-Again.ensures.passes.0;
  faults = c.in-Again.ensures.faults ∙ c.loop.invariant.faults;
  pauses = paused_once c.loop.waited _ _ _ _ c.loop.invariant.pauses c.gives_up.ensures.steps c.gives_up.ensures.pauses;
}

pub returns-in-Port-clause-answers : goal.returns-in-Port-clause-answers
returns-in-Port-clause-answers g c = record {
  line = c.feed.new.self;
  is = (c.in-Port.ensures.port c.in-Port.port).0 refl;
  passes = byte_came c.args.id _ _ _ c.read.new.out c.loop.line c.feed.new.self c.in-Got.field-0
      (c.read.auto.out ∙ c.loop.invariant.one) c.in-Got.ensures.some
      c.loop.invariant.undecided c.feed.ensures.fed c.loop.invariant.passes c.in-Got.ensures.passes;
}

pub returns-in-Bad-clause-answers : goal.returns-in-Bad-clause-answers
returns-in-Bad-clause-answers g c = inr (record {
  line = c.feed.new.self;
  bad = sym c.in-Bad.ensures.step;
  passes = byte_came c.args.id _ _ _ c.read.new.out c.loop.line c.feed.new.self c.in-Got.field-0
      (c.read.auto.out ∙ c.loop.invariant.one) c.in-Got.ensures.some
      c.loop.invariant.undecided c.feed.ensures.fed c.loop.invariant.passes c.in-Got.ensures.passes;
})

pub returns-then-gives_up-clause-answers : goal.returns-then-gives_up-clause-answers
returns-then-gives_up-clause-answers g c = (
  record {
    line = c.loop.line;
    more = c.loop.invariant.more;
    passes = still_moves c.args.id [] _ false _ _ _ c.loop.invariant.passes c.in-Again.ensures.passes.0;
  },
  c.in-Again.ensures.passes.1,
)

pub returns-in-End-clause-answers : goal.returns-in-End-clause-answers
returns-in-End-clause-answers g c = inl (
  record {
    line = c.loop.line;
    more = c.loop.invariant.more;
    passes = still_moves c.args.id [] _ false _ _ _ c.loop.invariant.passes c.in-End.ensures.passes.0;
  },
  c.in-End.ensures.passes.1,
)

pub returns-in-Failed-clause-answers : goal.returns-in-Failed-clause-answers
returns-in-Failed-clause-answers g c = record {
  line = c.loop.line;
  more = c.loop.invariant.more;
  passes = still_moves c.args.id [] _ false _ _ _ c.loop.invariant.passes c.in-Failed.ensures.passes;
}
