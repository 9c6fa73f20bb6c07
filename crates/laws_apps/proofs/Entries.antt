-- What an entry more, a wait more and bytes more do to what a journal tells.
use Rattle.std.proofs.Common.{arith}
use Rattle.std.proofs.lemmas.Grind.{common_steps}
use Rattle.std.proofs.Common.{◌≡◌, ℕ, zero, suc, ◌<◌, ◌≤◌, Bool, true, false, cond, List, [], ◌∷◌, ◌++◌, length, Option, Some, None, refl, sym, ap, ◌∙◌}
use Rattle.std.{proofs.{Common.{append_assoc, append-nil, slice_set, subst}}, specs.Prelude.slice_get}
use Rattle.laws_driver.specs.Carried.Calls.{Journal}
use Rattle.vs_apps_parts.specs.Journals.{AllStandIn, StandsIn, calls_of, calls_of_app, ends_at, entry_called, gathered, made_by}
use Rattle.vs_apps_parts.specs.{Journals.{times_in, wait_noted}, Scripts.{RunScript}, declared.journal.{Called.Called}}
use Rattle.vs_apps_parts.{specs.declared.journal.{Entry.Entry, WaitsFor.WaitsFor}, proofs.Entries.{stand_set, stand_snoc, wait_as}}
use Rattle.vs_flow.specs.Connection.{Connection}
use Rattle.laws_apps.{specs.{Accounts.TellFlows, Placed.{AreOwned, IsOwned, NamesFlow}}, proofs.Opening.{flows_set, flows_snoc}}
use Rattle.laws_apps.specs.Ports.{ArePortsFrom, IsPort, next_port, port_behind, port_of}

pub gathered_snoc : (made : Entry → Journal) (es : List Entry) (e : Entry) → gathered made (es ++ e ∷ []) ≡ made e ++ gathered made es
gathered_snoc made [] e = sym (append-nil (made e))
gathered_snoc made (x ∷ es) e = ap (λ (js : Journal). js ++ made x) (gathered_snoc made es e) ∙ append_assoc (made e) (gathered made es) (made x)

pub gathered_same : (n : ℕ) (a b : Entry → Journal) → ((e : Entry) → StandsIn n e → a e ≡ b e) → (es : List Entry) → AllStandIn n es
    → gathered a es ≡ gathered b es
gathered_same n a b same [] stand = refl
gathered_same n a b same (e ∷ es) stand =
    ap (λ (js : Journal). js ++ a e) (gathered_same n a b same es stand.1) ∙ ap (λ (js : Journal). gathered b es ++ js) (same e stand.0)

pub gathered_set : (made : Entry → Journal) (es : List Entry) (place : ℕ) (e new : Entry) → slice_get es place ≡ Some e → made new ≡ made e
    → gathered made (slice_set es place new) ≡ gathered made es
gathered_set made [] place e new at same = refl
gathered_set made (x ∷ es) zero e new at same =
    let is : x ≡ e = cc in ap (λ (js : Journal). gathered made es ++ js) (same ∙ ap made (sym is))
gathered_set made (x ∷ es) (suc place) e new at same = ap (λ (js : Journal). js ++ made x) (gathered_set made es place e new at same)

entry_stays : (script : RunScript) (bytes more : List ℕ) (e : Entry) → StandsIn (length bytes) e
    → made_by script (bytes ++ more) e ≡ made_by script bytes e
entry_stays script bytes more e stands = grind (arith, common_steps)

pub calls_stay : (script : RunScript) (bytes more : List ℕ) (es : List Entry) → AllStandIn (length bytes) es
    → calls_of script (bytes ++ more) es ≡ calls_of script bytes es
calls_stay script bytes more es stand =
    gathered_same (length bytes) (made_by script (bytes ++ more)) (made_by script bytes) (entry_stays script bytes more) es stand

pub app_calls_stay : (k : ℕ) (script : RunScript) (bytes more : List ℕ) (es : List Entry) → AllStandIn (length bytes) es
    → calls_of_app k script (bytes ++ more) es ≡ calls_of_app k script bytes es
app_calls_stay k script bytes more es stand = grind (arith, common_steps, gathered_same, entry_stays)

-- A wait tells of no call.
module _ (script : RunScript) (bytes : List ℕ) (k times : ℕ) (e : Entry) (is : times_in k e ≡ Some times) where
  wait_made : made_by script bytes e ≡ []
  wait_made = grind (arith, common_steps)

  wait_port : port_of e ≡ None
  wait_port = grind (arith, common_steps)

none_still : (b : Bool) (js : Journal) → js ≡ [] → cond b js [] ≡ []
none_still true js none = none
none_still false js none = refl

-- What each app's wait leaves: all calls, what stands in the journal's bytes, the flows that are told, whose each entry is, and the ports of connects.
pub record SameCalls (script : RunScript) (bytes : List ℕ) (k : ℕ) (old new : List Entry) : Type 0 where
  pub calls : calls_of script bytes new ≡ calls_of script bytes old
  pub app : (j : ℕ) → calls_of_app j script bytes new ≡ calls_of_app j script bytes old
  pub stands : (n : ℕ) → AllStandIn n old → AllStandIn n new
  pub flows : (opened : ℕ → Connection) → TellFlows opened old → TellFlows opened new
  pub owned : (n : ℕ) → k < n → AreOwned n old → AreOwned n new
  pub ports : (port : ℕ) → ArePortsFrom port old → ArePortsFrom port new
  pub behind : (port : ℕ) → port_behind port new ≡ port_behind port old

pub ports_snoc : (port : ℕ) (es : List Entry) (e : Entry) → ArePortsFrom port es → IsPort (port_behind port es) (port_of e) → ArePortsFrom port (es ++ e ∷ [])
ports_snoc port [] e are is = (is, tt)
ports_snoc port (x ∷ es) e are is = (are.0, ports_snoc (next_port port (port_of x)) es e are.1 is)

pub behind_snoc : (port : ℕ) (es : List Entry) (e : Entry) → port_behind port (es ++ e ∷ []) ≡ next_port (port_behind port es) (port_of e)
behind_snoc port [] e = refl
behind_snoc port (x ∷ es) e = behind_snoc (next_port port (port_of x)) es e

ports_set : (port : ℕ) (es : List Entry) (place : ℕ) (e new : Entry) → slice_get es place ≡ Some e → port_of new ≡ port_of e → ArePortsFrom port es
    → ArePortsFrom port (slice_set es place new)
ports_set port [] place e new at same are = are
ports_set port (x ∷ es) zero e new at same are =
    let is : x ≡ e = cc in
    let equal : port_of new ≡ port_of x = same ∙ ap port_of (sym is) in
    (subst (IsPort port) (sym equal) are.0, subst (λ (o : Option ℕ). ArePortsFrom (next_port port o) es) (sym equal) are.1)
ports_set port (x ∷ es) (suc place) e new at same are = (are.0, ports_set (next_port port (port_of x)) es place e new at same are.1)

behind_set : (port : ℕ) (es : List Entry) (place : ℕ) (e new : Entry) → slice_get es place ≡ Some e → port_of new ≡ port_of e
    → port_behind port (slice_set es place new) ≡ port_behind port es
behind_set port [] place e new at same = refl
behind_set port (x ∷ es) zero e new at same =
    let is : x ≡ e = cc in ap (λ (o : Option ℕ). port_behind (next_port port o) es) (same ∙ ap port_of (sym is))
behind_set port (x ∷ es) (suc place) e new at same = behind_set (next_port port (port_of x)) es place e new at same

owned_snoc : (n : ℕ) (es : List Entry) (e : Entry) → AreOwned n es → IsOwned n e → AreOwned n (es ++ e ∷ [])
owned_snoc n [] e are is = (is, tt)
owned_snoc n (x ∷ es) e are is = (are.0, owned_snoc n es e are.1 is)

owned_set : (n : ℕ) (new : Entry) (es : List Entry) (place : ℕ) → AreOwned n es → IsOwned n new → AreOwned n (slice_set es place new)
owned_set n new [] place are is = tt
owned_set n new (x ∷ es) zero are is = (is, are.1)
owned_set n new (x ∷ es) (suc place) are is = (are.0, owned_set n new es place are.1 is)

pub called_owned : (n : ℕ) (es : List Entry) (k : ℕ) (c : Called) → k < n → AreOwned n es → NamesFlow c → AreOwned n (es ++ entry_called k c ∷ [])
called_owned n es k c less are names = owned_snoc n es (entry_called k c) are (record { app = less; flow = names })

pub called_stand : (n : ℕ) (es : List Entry) (k : ℕ) (c : Called) → AllStandIn n es → ends_at c ≤ n → AllStandIn n (es ++ entry_called k c ∷ [])
called_stand n es k c are within = stand_snoc n es (entry_called k c) are within

pub wait_same : (script : RunScript) (bytes : List ℕ) (k : ℕ) (why : WaitsFor) (last : Option ℕ) (es : List Entry)
    → SameCalls script bytes k es (wait_noted k why last es)
wait_same script bytes k why last es = grind (arith, common_steps, wait_as, gathered_snoc, none_still, stand_snoc, flows_snoc, owned_snoc, ports_snoc, behind_snoc, gathered_set, wait_made, stand_set, flows_set, owned_set, ports_set, wait_port, behind_set)
