use Rattle.std.{proofs.{Common.{◌≡◌, ℕ, List, ◌+◌, ◌∷◌, [], ◌++◌, length, ap, sym, ◌∙◌, arith}, lemmas.List.length-append}, specs.List.range_with_len}
use Rattle.vs_outside.specs.{Host.{HostContents, Stream}, HostProgram.HostMemory}
use Rattle.vs_echo.{specs.contracts.echo_host.EchoHost.the_view, proofs.Echoes.{all_more, dials, ids_more}}
use Rattle.vs_echo.proofs.echo_host.EchoHost.add_dialed.Goals as goal

pub invariant_of-self-2 : goal.invariant_of-self-2
invariant_of-self-2 c =
    all_more c.self.inside.streams.items c.push.new.self.items c.in_ok-stream.stream c.self.invariant c.in_ok-stream.ensures.echo
    c.in_ok-push.ensures.items

pub returns-clause-ok : goal.returns-clause-ok
returns-clause-ok c =
    let m = the_view c.self.inside in
    let xs = c.self.inside.streams.items in
    let ys = c.push.new.self.items in
    let one : length ys ≡ length xs + 1 = ap (λ (zs : List Stream). length zs) c.in_ok-push.ensures.items ∙ length-append xs (c.in_ok-stream.stream ∷ []) in
    let is : c.len.result ≡ length ys = omega (arith, c.len.ensures, c.push.new.self.ok.0) in
    let ids : range_with_len 1 (length ys) ≡ range_with_len 1 (length xs) ++ c.len.result ∷ [] =
    ids_more (length xs) (length ys) one ∙ ap (λ (k : ℕ). range_with_len 1 (length xs) ++ k ∷ []) (sym is) in
    rw (← c.self.view_is)
    (ap (λ (x : HostContents). let y : HostMemory = record m { contents = x } in y)
    (dials m.contents ys (range_with_len 1 (length ys)) c.args.flow c.len.result c.in_ok-stream.stream c.in_ok-push.ensures.items
    c.in_ok-stream.ensures.is ids))
