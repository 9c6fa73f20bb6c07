-- What came back of a host whose streams give back what they are given.
use Rattle.std.proofs.Common.{◌≡◌, ℕ, zero, suc, ◌-◌, ◌==◌, Bool, true, false, cond, List, [], ◌∷◌, ◌++◌, length, Option, Some, None, refl, sym, ap, subst, ◌∙◌, append_assoc}
use Rattle.std.{proofs.lemmas.{List.Elements.{All-head, All-tail, All-weaker}, Option.same_Some}, specs.{List.All, Prelude.{option_and_then, slice_get}}}
use Rattle.std.specs.Option.{ForSome, option_map_or}
use Rattle.vs_flow.specs.Connection.{Connection}
use Rattle.vs_page.specs.{Fair.IsPrefixOf, Log.Log}
use Rattle.vs_outside.specs.{Host.{HostContents, Stream, stream_at}, HostBytes.{after_line, host_read, host_wrote, labelled_with, read_after_ok, stream_of, wrote_after_connect}}
use Rattle.vs_outside.proofs.Lines.{after_is_rest, rest_of}
use Rattle.vs_ring_shared.specs.declared.counters.Met.{Met}
use Rattle.vs_echo.specs.Echo.{IsEcho}
use Rattle.laws_settled.specs.Begun.{IsUnlabelled, Start, start_with}
use Rattle.vs_apps_parts.specs.{Journals.calls_of, Scripts.RunScript, declared.journal.Entry.Entry}
use Rattle.vs_apps.specs.Guests.{GuestsState}
use Rattle.vs_run_report.specs.{Connections.opened_all, Right.IsRightConnection}
use Rattle.vs_run_apps.specs.{Runs.HasRun, Sides.SideState}
use Rattle.vs_load_parts.specs.Line.{CameBack}
use Rattle.vs_load.specs.Loads.{AllCameBack}

front_of_front : (xs ys zs : List ℕ) → IsPrefixOf xs ys → IsPrefixOf ys zs → IsPrefixOf xs zs
front_of_front xs ys zs one two =
    (one.0 ++ two.0, two.1 ∙ ap (λ (l : List ℕ). l ++ two.0) one.1 ∙ append_assoc xs one.0 two.0)

-- The bytes after the first line, with more bytes behind.
rest_more : (xs ys : List ℕ) → IsPrefixOf (rest_of xs) (rest_of (xs ++ ys))
rest_more [] ys = (rest_of ys, refl)
rest_more (x ∷ xs) ys = by (x == 10) (rest_more xs ys)
  where
    by : (b : Bool) → IsPrefixOf (rest_of xs) (rest_of (xs ++ ys)) → IsPrefixOf (cond b xs (rest_of xs)) (cond b (xs ++ ys) (rest_of (xs ++ ys)))
    by true later = (ys, refl)
    by false later = later

after_more : (xs ys : List ℕ) → IsPrefixOf (after_line xs) (after_line (xs ++ ys))
after_more xs ys =
    let rest = rest_more xs ys in
    (rest.0, after_is_rest (xs ++ ys) ∙ rest.1 ∙ ap (λ (bytes : List ℕ). bytes ++ rest.0) (sym (after_is_rest xs)))

module _ (s : Stream) (is : IsEcho s) where
  wrote_read : IsPrefixOf (wrote_after_connect s) (read_after_ok s)
  wrote_read = by s.by_client
    where
      given : s.given ≡ s.taken ++ s.untaken
      given = sym is.back

      by : (b : Bool) → IsPrefixOf (cond b (after_line s.taken) s.taken) (cond b (after_line s.given) s.given)
      by true = subst (λ (g : List ℕ). IsPrefixOf (after_line s.taken) (after_line g)) is.back (after_more s.taken s.untaken)
      by false = (s.untaken, given)

-- A stream of the host.
at_place : (P : Stream → Type 0) (ss : List Stream) (i : ℕ) (s : Stream) → All P ss → slice_get ss i ≡ Some s → P s
at_place P [] i s all at = absurd cc
at_place P (x ∷ ss) zero s all at = subst P (same_Some x s at) (All-head P x ss all)
at_place P (x ∷ ss) (suc i) s all at = at_place P ss i s (All-tail P x ss all) at

module _ (h : HostContents) (echo : All IsEcho h.streams) where
  at_id : (id : ℕ) (s : Stream) → stream_at id h ≡ Some s → IsEcho s
  at_id id s at = by (id == 0) at
    where
      by : (b : Bool) → cond b None (slice_get h.streams (id - 1)) ≡ Some s → IsEcho s
      by true at = absurd cc
      by false at = at_place IsEcho h.streams (id - 1) s echo at

  back_by : (o : Option Stream) → ((s : Stream) → o ≡ Some s → IsEcho s)
      → IsPrefixOf (option_map_or wrote_after_connect o []) (option_map_or read_after_ok o [])
  back_by None are = ([], refl)
  back_by (Some s) are = wrote_read s (are s refl)

  of_id : (o : Option ℕ) (s : Stream) → option_and_then (λ id. stream_at id h) o ≡ Some s → IsEcho s
  of_id None s at = absurd cc
  of_id (Some id) s at = at_id id s at

  back_on : (k : Connection) → IsPrefixOf (host_wrote k h) (host_read k h)
  back_on k = back_by (stream_of k h) (of_id (slice_get (labelled_with k.flow h) (k.number - 1)))

came_back : (script : RunScript) (g : GuestsState) (opened : ℕ → Connection) (log : Log) (h : HostContents) → All IsEcho h.streams
    → All (IsRightConnection opened log (calls_of script g.bytes g.entries) h) (opened_all (length script) g.entries) → AllCameBack script g
came_back script g opened log h echo right =
    let journal = calls_of script g.bytes g.entries in
    All-weaker (IsRightConnection opened log journal h) (CameBack journal)
    (λ o is. front_of_front _ (host_wrote (opened o.id) h) _ is.to_guest
    (front_of_front (host_wrote (opened o.id) h) (host_read (opened o.id) h) _ (back_on h echo (opened o.id)) is.to_host))
    (opened_all (length script) g.entries) right

-- A run over such a host is right, so all came back.
pub all_came_back : (port : ℕ) (script : RunScript) (start : Start) (g : GuestsState) (s : SideState) (met : Met) (base : List ℕ) (first h : HostContents) (faults : ℕ)
    → HasRun port script start g s met → start ≡ start_with base (Some first) faults → IsUnlabelled first → s.contents ≡ Some h → All IsEcho h.streams
    → AllCameBack script g
all_came_back port script start g s met base first h faults run began unlabelled shows echo =
    let from : ForSome start.contents IsUnlabelled =
    subst (λ (x : Start). ForSome x.contents IsUnlabelled) (sym began) (λ c is. subst IsUnlabelled (same_Some first c is) unlabelled) in
    let right = run.right from h shows in
    came_back script g right.0 g.end.log h echo right.1.connections

-- The same of a script, entries and bytes that are those.
pub same_came_back : (own script : RunScript) (es fs : List Entry) (bs cs : List ℕ) → script ≡ own → fs ≡ es → cs ≡ bs
    → All (CameBack (calls_of own bs es)) (opened_all (length own) es) → All (CameBack (calls_of script cs fs)) (opened_all (length script) fs)
same_came_back own script es fs bs cs named noted given back =
    subst (λ (x : RunScript). All (CameBack (calls_of x cs fs)) (opened_all (length x) fs)) (sym named)
    (subst (λ (x : List Entry). All (CameBack (calls_of own cs x)) (opened_all (length own) x)) (sym noted)
    (subst (λ (x : List ℕ). All (CameBack (calls_of own x es)) (opened_all (length own) es)) (sym given) back))
