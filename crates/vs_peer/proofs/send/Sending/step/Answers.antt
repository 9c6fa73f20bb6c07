use Rattle.std.proofs.Common.{◌≡◌, [], true, false, ◌++◌, refl, sym, ap, rules, append-nil}
use Rattle.vs_peer.{specs.{Passing.Moves, Sending.{shuts, between}, declared.send.Side.Side}, proofs.Streams.{exposed_relates, relates_as, relates_then, shut_writes}}
use Rattle.vs_peer.specs.declared.send.Side.TheVariants as side
use Rattle.vs_peer.proofs.send.Sending.step.Goals as goal

pub returns-then-self-bytes-clause-passes : goal.returns-then-self-bytes-clause-passes
returns-then-self-bytes-clause-passes g c =
    let id = c.args.id in
    let was : c.write.new.self.side ≡ side.Open = search rules in
    let first : c.args.self.now.side ≡ side.Open = c.write.ensures.open_still was in
    let now : true ≡ shuts c.args.self.now.side side.Shut = ap (λ (x : Side). shuts x side.Shut) (sym first) in
    let then = exposed_relates _ _ (Moves id [] [] true) _ _ c.shut_write.ensures.exact (λ h is p. shut_writes id h) in
    let sent = between c.args.self.now c.write.new.self c.args.bytes.now in
    let both = relates_then id sent [] [] [] false true _ _ _ c.write.ensures.passes then in
    relates_as id (sent ++ []) sent [] [] true _ _ _ both (append-nil sent) refl now
