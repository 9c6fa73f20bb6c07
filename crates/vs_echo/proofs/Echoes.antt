-- The ids of streams that echo, and calls that no stream changes.
use Rattle.std.proofs.Common.{◌≡◌, ℕ, zero, suc, ◌+◌, false, List, [], ◌∷◌, ◌++◌, length, set, ltb, None, Some, refl, sym, ap, ◌∙◌}
use Rattle.std.{proofs.{Common.arith, lemmas.{Bool.Decides.nat_tests, List.{length-set, Elements.{All-append, All-cons, All-nil}}}}, specs.List.{All, position_or_len}}
use Rattle.std.specs.List.{range_with_len}
use Rattle.vs_flow.specs.declared.flow.Flow.{Flow}
use Rattle.vs_outside.specs.{Faults.counted_down, Host.{accept_answer, after_start, called, start_answer, HostContents, Stream}}
use Rattle.vs_outside.specs.{Host.{dialed_stream, is_waiting, oldest_client}, declared.host_net.Started.TheVariants.Ready}
use Rattle.vs_outside.specs.HostProgram.{adds_dialed}
use Rattle.vs_echo.specs.Echo.{IsEcho}
use Rattle.vs_outside.specs.declared.host_net.Accepted.TheVariants as accepted

-- one stream more
pub all_more : (xs ys : List Stream) (s : Stream) → All IsEcho xs → IsEcho s → ys ≡ xs ++ s ∷ [] → All IsEcho ys
all_more xs ys s all one is = rw is (All-append IsEcho xs (s ∷ []) all (All-cons IsEcho s [] one (All-nil IsEcho)))

range_from : (a n : ℕ) → range_with_len a (n + 1) ≡ range_with_len a n ++ (a + n) ∷ []
range_from a zero = ap (λ k. k ∷ []) (omega arith)
range_from a (suc n) =
    let count : suc n + 1 ≡ suc (n + 1) = omega arith in
    ap (range_with_len a) count
    ∙ ap (λ (xs : List ℕ). a ∷ xs) (range_from (a + 1) n ∙ ap (λ (k : ℕ). range_with_len (a + 1) n ++ k ∷ []) (omega arith))

pub ids_more : (n m : ℕ) → m ≡ n + 1 → range_with_len 1 m ≡ range_with_len 1 n ++ m ∷ []
ids_more n m is =
    ap (range_with_len 1) is ∙ range_from 1 n ∙ ap (λ (k : ℕ). range_with_len 1 n ++ k ∷ []) (omega (arith, is))

-- a stream in its place: the ids are as before
pub same_ids : (c : HostContents) (i : ℕ) (s : Stream) →
    record c { streams = set c.streams i s; labelled = range_with_len 1 (length (set c.streams i s)) }
    ≡ record c { streams = set c.streams i s; labelled = range_with_len 1 (length c.streams) }
same_ids c i s =
    ap (λ (n : ℕ). let d : HostContents = record c { streams = set c.streams i s; labelled = range_with_len 1 n } in d) (length-set c.streams i s)

-- the host with one stream more
pub dials : (c : HostContents) (streams : List Stream) (ids : List ℕ) (flow : Flow) (id : ℕ) (s : Stream) → streams ≡ c.streams ++ s ∷ []
    → s ≡ dialed_stream flow c.prepared → ids ≡ c.labelled ++ id ∷ [] → record c { streams = streams; labelled = ids } ≡ adds_dialed flow id c
dials c streams ids flow id s all is more = rw (all, is, more) refl

-- no client waits
none_waits : (xs : List Stream) → All IsEcho xs → position_or_len is_waiting xs ≡ length xs
none_waits [] all = refl
none_waits (s ∷ xs) all =
    let rest = none_waits xs (λ k d within. all (suc k) d (omega (arith, within))) in
    rw (all 0 s (omega arith)).given_out (omega (arith, rest))

pub no_client : (c : HostContents) → All IsEcho c.streams → oldest_client c ≡ None
no_client c all =
    let past : ltb (length c.streams) (length c.streams) ≡ false = grind (arith, nat_tests) in
    rw (none_waits c.streams all, past) refl

-- Where no call is to fail: a start, an accept and a dial.
same_starts : (c : HostContents) → c.starts_to_fail ≡ [] → c ≡ after_start c
same_starts c none =
    ap (λ (x : List ℕ). let d : HostContents = record c { starts_to_fail = x } in d) none
    ∙ ap (λ (x : List ℕ). let d : HostContents = record c { starts_to_fail = counted_down x } in d) (sym none)

pub starts : (c : HostContents) → c.starts_to_fail ≡ [] → (Ready ≡ start_answer c) × (Some c ≡ Some (after_start c))
starts c none = (rw none refl, ap Some (same_starts c none))

same_calls : (c : HostContents) → c.to_fail ≡ [] → c ≡ called c
same_calls c none =
    ap (λ (x : List ℕ). let d : HostContents = record c { to_fail = x } in d) none
    ∙ ap (λ (x : List ℕ). let d : HostContents = record c { to_fail = counted_down x } in d) (sym none)

pub accepts : (c : HostContents) → c.to_fail ≡ [] → oldest_client c ≡ None
    → (accepted.None ≡ accept_answer c) × (Some c ≡ Some (called c))
accepts c none nobody = (rw (none, nobody) refl, ap Some (same_calls c none))
