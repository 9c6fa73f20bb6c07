-- Contents that are exposed to contracts by some, and not by others.
use Rattle.std.specs.Prelude.{◌≡◌, Option, Some, None}

-- A call before which `old` was exposed and after which `new` is. Where contents are exposed, P holds of those before the call, and
-- the call changes them by f. What exposes nothing before a call exposes nothing after it.
abbrev pub Exposes : {T : Type 0} → Option T → Option T → (T → Type 0) → (T → T) → Type 0
Exposes None new P f = new ≡ None
Exposes (Some contents) new P f = P contents × (new ≡ Some (f contents))

-- The same where the contents after the call aren't a function of those before: R holds between them.
abbrev pub Relates : {T : Type 0} → Option T → Option T → (T → T → Type 0) → Type 0
Relates None new R = new ≡ None
Relates (Some before) None R = ⊥
Relates (Some before) (Some after) R = R before after
