-- What was sent on a connection is what was sent on its id, since no two ids have one connection.
use Rattle.std.proofs.Common.{arith}
use Rattle.std.proofs.lemmas.Grind.{common_steps}
use Rattle.laws_tables.{specs.Drains.{is_same, only_on}}
use Rattle.std.proofs.{Common.{◌≡◌, ℕ, ◌≤◌, ◌==◌, ◌&&◌, Bool, true, cond, List, [], ◌∷◌, ◌++◌, Option, Some, None, refl, ap, ◌∙◌}}
use Rattle.std.proofs.lemmas.Bool.{eq-eqb}
use Rattle.vs_flow.specs.{Connection.Connection}
use Rattle.vs_page.{specs.Log.Log, proofs.Flows.{same_self}}
use Rattle.vs_driver_parts.specs.Held.{HeldSlots}
use Rattle.laws_driver.specs.Carried.{Calls.{Journal, bytes_sent, names}, Received.{Account, AreReceived}, Senders.{AreSenders, IsSender, sent_there, sent_to}}
use Rattle.vs_apps_parts.specs.Journals.{sent_as}

pub self_same : (c : Connection) → is_same c c ≡ true
self_same c = ap (λ (b : Bool). b && (c.number == c.number)) (same_self c.flow) ∙ eq-eqb c.number c.number refl

module _ (a : Account) (log : Log) (slots : HeldSlots) (account : AreReceived a log slots) (id : ℕ) (some : 1 ≤ (a.opened id).number) where
  on_id : (other : ℕ) (bytes : List ℕ) → IsSender a.opened (Some other) bytes → only_on (a.opened other) bytes (a.opened id) ≡ cond (id == other) bytes []
  on_id other bytes h = grind (arith, common_steps)

  named : (o : Option ℕ) (bytes : List ℕ) → IsSender a.opened o bytes → sent_there a.opened (a.opened id) o bytes ≡ cond (names id o) bytes []
  named None bytes sender = refl
  named (Some other) bytes sender = on_id other bytes sender

  pub sent_by_id : (journal : Journal) → AreSenders a.opened journal → sent_to a.opened (a.opened id) journal ≡ sent_as id journal
  sent_by_id [] are = refl
  sent_by_id (m ∷ older) are =
      let bytes = bytes_sent m.call m.reply in
      ap (λ (xs : List ℕ). xs ++ sent_there a.opened (a.opened id) m.id bytes) (sent_by_id older are.1)
      ∙ ap (λ (xs : List ℕ). sent_as id older ++ xs) (named m.id bytes are.0)
