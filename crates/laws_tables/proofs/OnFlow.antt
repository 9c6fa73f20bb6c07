-- Each step on the flow that it is about, over plain values.
use Rattle.std.proofs.{Common.{rules, ◌≡◌, ℕ, Bool, true, false, Option, Some, None, List, [], ◌∷◌, arith}, lemmas.Grind.common_steps}
use Rattle.vs_conn.specs.{End.ConnectionEnd, End.asked, Follows.Follows}
use Rattle.vs_header.specs.{Kind.kind_number, declared.Kind.Kind}
use Rattle.laws_history.specs.History.{History, Entry, Side, Asker, gots, puts}
use Rattle.vs_limits.specs.declared.TheConstants.{BUF_ALLOC}
use Rattle.vs_page.specs.Log.{Role, Device}
use Rattle.laws_tables.specs.{Ends.is_new, Heard.is_awaiting, Heard.is_fresh, Matches.IsAsking, Matches.IsLeftOn}

pub follows_old : (side : Side) (h : History) (e : ConnectionEnd) → Follows side (puts h) (gots h) e → is_new e ≡ false
follows_old = search rules

-- The one end of a flow that has begun follows what was heard, and the flow is open.
pub record IsOne (side : Side) (h : History) (kind : Option ℕ) (reply_owed : Bool) (e : ConnectionEnd) : Type 0 where
  pub follows : Follows side (puts h) (gots h) e
  pub kind_is : kind ≡ Some (kind_number e.kind)
  pub none_owed : reply_owed ≡ false

-- One that has not, asks.
pub record IsFirst (side : Side) (h : History) (kind : Option ℕ) (reply_owed : Bool) (e : ConnectionEnd) : Type 0 where
  pub asking : IsAsking side e
  pub none_awaited : is_awaiting h ≡ false
  pub kind_is : kind ≡ None
  pub none_owed : reply_owed ≡ false

pub end_follows : (role : Role) (side : Side) (h : History) (kind : Option ℕ) (reply_owed : Bool) (ends : List ConnectionEnd)
    (e : ConnectionEnd)
    → IsLeftOn role side h kind reply_owed ends → ends ≡ e ∷ [] → is_new e ≡ false → IsOne side h kind reply_owed e
end_follows = grind (arith, common_steps)

pub end_asks : (role : Role) (side : Side) (h : History) (kind : Option ℕ) (reply_owed : Bool) (ends : List ConnectionEnd)
    (e : ConnectionEnd)
    → IsLeftOn role side h kind reply_owed ends → ends ≡ e ∷ [] → is_new e ≡ true → IsFirst side h kind reply_owed e
end_asks = grind (arith, common_steps)

-- Where a REQUEST may come, the flow isn't open and nothing is owed.
pub fresh_closed : (role : Role) (side : Side) (h : History) (kind : Option ℕ) (reply_owed : Bool) (ends : List ConnectionEnd)
    → IsLeftOn role side h kind reply_owed ends → is_fresh h ≡ true → (kind ≡ None) × (reply_owed ≡ false)
fresh_closed = grind (arith, common_steps)

-- The end of a flow changed, and nothing passed.
pub changes_on : (role : Role) (side : Side) (h : History) (kind : Option ℕ) (reply_owed : Bool) (ends now : List ConnectionEnd)
    (e after : ConnectionEnd)
    → IsLeftOn role side h kind reply_owed ends → ends ≡ e ∷ [] → is_new e ≡ false → now ≡ after ∷ [] → after.kind ≡ e.kind
    → (Follows side (puts h) (gots h) e → Follows side (puts h) (gots h) after) → IsLeftOn role side h kind reply_owed now
changes_on = grind (arith, common_steps)

-- A packet passed on a flow that has an end, which has begun.
pub passes_on : (role : Role) (side : Side) (h : History) (entry : Entry) (kind now_kind : Option ℕ) (reply_owed : Bool)
    (ends now : List ConnectionEnd)
    (e after : ConnectionEnd) → IsLeftOn role side h kind reply_owed ends → ends ≡ e ∷ [] → is_new e ≡ false → now ≡ after ∷ []
    → (kind ≡ Some (kind_number e.kind) → now_kind ≡ Some (kind_number after.kind))
    → (Follows side (puts h) (gots h) e → Follows side (puts (entry ∷ h)) (gots (entry ∷ h)) after)
    → IsLeftOn role side (entry ∷ h) now_kind reply_owed now
passes_on = grind (arith, common_steps)

-- A REQUEST passed, and the connection begins.
pub begins_on : (role : Role) (side : Side) (entry : Entry) (now_kind : Option ℕ) (reply_owed : Bool) (now : List ConnectionEnd)
    (after : ConnectionEnd) → reply_owed ≡ false → now ≡ after ∷ [] → now_kind ≡ Some (kind_number after.kind)
    → Follows side (puts (entry ∷ [])) (gots (entry ∷ [])) after → IsLeftOn role side (entry ∷ []) now_kind reply_owed now
begins_on role side entry now_kind reply_owed now after none now_is kind_is follows = grind (arith, common_steps)

-- A flow that has no end, isn't open, and is owed nothing.
pub closed_on : (role : Role) (side : Side) (h : History) (kind : Option ℕ) (reply_owed : Bool) (now : List ConnectionEnd)
    → now ≡ [] → kind ≡ None → reply_owed ≡ false → IsLeftOn role side h kind reply_owed now
closed_on = grind (arith, common_steps)

-- A packet of a flow without an end was refused, so that a reply is owed.
pub refuses_on : (role : Role) (side : Side) (h : History) (kind : Option ℕ) (reply_owed : Bool) (ends : List ConnectionEnd)
    → ends ≡ [] → reply_owed ≡ true → is_fresh h ≡ false → IsLeftOn role side h kind reply_owed ends
refuses_on = grind (arith, common_steps)

-- No end is left, and the flow isn't open: after an RST that is ignored or put as a reply, and after a transport reset.
pub empties_on : (role : Role) (side : Side) (h : History) (kind : Option ℕ) (reply_owed : Bool) (ends : List ConnectionEnd)
    → ends ≡ [] → kind ≡ None → (reply_owed ≡ true → is_fresh h ≡ false) → IsLeftOn role side h kind reply_owed ends
empties_on = grind (arith, common_steps)

-- A packet of a flow without an end was ignored.
pub ignores_on : (role : Role) (side : Side) (h : History) (entry : Entry) (kind now_kind : Option ℕ) (reply_owed : Bool)
    (ends : List ConnectionEnd)
    → IsLeftOn role side h kind reply_owed ends → ends ≡ [] → (kind ≡ None → now_kind ≡ None) → is_fresh (entry ∷ h) ≡ false
    → IsLeftOn role side (entry ∷ h) now_kind reply_owed ends
ignores_on = grind (arith, common_steps)

-- The device's end asks, and nothing passed.
pub asks_on : (side : Side) (h : History) (of : Kind) (kind : Option ℕ) (reply_owed : Bool) (ends now : List ConnectionEnd)
    → IsLeftOn Device side h kind reply_owed ends → ends ≡ [] → reply_owed ≡ false → is_awaiting h ≡ false → side ≡ Asker
    → now ≡ asked of BUF_ALLOC ∷ [] → IsLeftOn Device side h kind reply_owed now
asks_on = grind (arith, common_steps)

-- A REQUEST that comes in order was dropped.
pub drops_on : (role : Role) (side : Side) (h : History) (kind : Option ℕ) (reply_owed : Bool) (ends : List ConnectionEnd)
    → IsLeftOn role side h kind reply_owed ends → is_fresh h ≡ true → IsLeftOn role side [] kind reply_owed ends
drops_on = grind (arith, common_steps)
