use Rattle.std.{proofs.{Common.{◌≡◌, ℕ, Some, None, length, ◌<◌, sym, ap, subst, ◌∙◌, rules, arith}, lemmas.Option.slice_get_within}, specs.List.slice_get}
use Rattle.vs_flow.specs.Table.{entry_under, Table, IsTable}
use Rattle.vs_replies.specs.declared.Reply.{Reply}
use Rattle.vs_driver_parts.specs.{State.{DriverConnection, DriverEntry, DriverState}, Connections.after_leaving, Receiving.{with_reply, reset_reply}}
use Rattle.vs_driver_parts.proofs.{Packets.{leaving-replies, first_left, first_under, none_left}, Known.mapped}
use Rattle.vs_driver.proofs.driver.Driver.reset.Goals as goal

pub owe-requires : goal.owe-requires
owe-requires c =
    let s : DriverState = c.loop-slot.self in
    let t = c.self-in-loop-slot.inside.slots.table in
    let same : t ≡ s.table = ap (λ (x : DriverState). x.table) c.self-in-loop-slot.view_is in
    let pair : DriverEntry → ℕ × Reply = λ (x : DriverEntry). (x.slot, reset_reply x) in
    let both : ℕ × Reply = (c.in-Some.slot, c.in-Some.reply) in
    let m = mapped pair (slice_get t.entries 0) both c.in-Some.ensures.first in
    let first_is : slice_get s.table.entries 0 ≡ Some m.from = ap (λ (x : Table DriverConnection). slice_get x.entries 0) (sym same) ∙ m.some in
    let sound : IsTable s.table = let P : Table DriverConnection → Type 0 = λ x. IsTable x in subst P same c.in-Some.ensures.sound in
    let e : DriverEntry = m.from in
    let slot : e.slot ≡ c.in-Some.slot = ap (λ (x : ℕ × Reply). x.0) m.gives in
    let reply : reset_reply e ≡ c.in-Some.reply = ap (λ (x : ℕ × Reply). x.1) m.gives in
    let under : entry_under s.table c.in-Some.slot ≡ Some e = ap (λ (n : ℕ). entry_under s.table n) (sym slot) ∙ first_under s.table e sound first_is in
    let left : c.leave.new.self ≡ after_leaving e s = c.leave.ensures.state e under in
    let replies : length c.leave.new.self.replies ≡ length s.replies = ap (λ (x : DriverState). length x.replies) left ∙ ap length (leaving-replies e s) in
    record { room = omega (arith, replies, c.loop-slot.invariant.room, slice_get_within s.table.entries 0 e first_is) }

pub loop-slot-smaller : goal.loop-slot-smaller
loop-slot-smaller c =
    let s : DriverState = c.loop-slot.self in
    let t = c.self-in-loop-slot.inside.slots.table in
    let same : t ≡ s.table = ap (λ (x : DriverState). x.table) c.self-in-loop-slot.view_is in
    let pair : DriverEntry → ℕ × Reply = λ (x : DriverEntry). (x.slot, reset_reply x) in
    let both : ℕ × Reply = (c.in-Some.slot, c.in-Some.reply) in
    let m = mapped pair (slice_get t.entries 0) both c.in-Some.ensures.first in
    let first_is : slice_get s.table.entries 0 ≡ Some m.from = ap (λ (x : Table DriverConnection). slice_get x.entries 0) (sym same) ∙ m.some in
    let sound : IsTable s.table = let P : Table DriverConnection → Type 0 = λ x. IsTable x in subst P same c.in-Some.ensures.sound in
    let e : DriverEntry = m.from in
    let slot : e.slot ≡ c.in-Some.slot = ap (λ (x : ℕ × Reply). x.0) m.gives in
    let reply : reset_reply e ≡ c.in-Some.reply = ap (λ (x : ℕ × Reply). x.1) m.gives in
    let under : entry_under s.table c.in-Some.slot ≡ Some e = ap (λ (n : ℕ). entry_under s.table n) (sym slot) ∙ first_under s.table e sound first_is in
    let left : c.leave.new.self ≡ after_leaving e s = c.leave.ensures.state e under in
    let new : c.owe.new.self ≡ with_reply (reset_reply e) (after_leaving e s) =
    c.owe.ensures.state ∙ (ap (λ (r : Reply). with_reply r c.leave.new.self) (sym reply) ∙ ap (λ (x : DriverState). with_reply (reset_reply e) x) left) in
    let first = first_left s c.owe.new.self e sound first_is new in
    let fewer : length c.owe.new.self.table.entries < length s.table.entries = omega (arith, first.fewer) in
    fewer

pub loop-slot-preserved : goal.loop-slot-preserved
loop-slot-preserved c =
    let s : DriverState = c.loop-slot.self in
    let t = c.self-in-loop-slot.inside.slots.table in
    let same : t ≡ s.table = ap (λ (x : DriverState). x.table) c.self-in-loop-slot.view_is in
    let pair : DriverEntry → ℕ × Reply = λ (x : DriverEntry). (x.slot, reset_reply x) in
    let both : ℕ × Reply = (c.in-Some.slot, c.in-Some.reply) in
    let m = mapped pair (slice_get t.entries 0) both c.in-Some.ensures.first in
    let first_is : slice_get s.table.entries 0 ≡ Some m.from = ap (λ (x : Table DriverConnection). slice_get x.entries 0) (sym same) ∙ m.some in
    let sound : IsTable s.table = let P : Table DriverConnection → Type 0 = λ x. IsTable x in subst P same c.in-Some.ensures.sound in
    let e : DriverEntry = m.from in
    let slot : e.slot ≡ c.in-Some.slot = ap (λ (x : ℕ × Reply). x.0) m.gives in
    let reply : reset_reply e ≡ c.in-Some.reply = ap (λ (x : ℕ × Reply). x.1) m.gives in
    let under : entry_under s.table c.in-Some.slot ≡ Some e = ap (λ (n : ℕ). entry_under s.table n) (sym slot) ∙ first_under s.table e sound first_is in
    let left : c.leave.new.self ≡ after_leaving e s = c.leave.ensures.state e under in
    let new : c.owe.new.self ≡ with_reply (reset_reply e) (after_leaving e s) =
    c.owe.ensures.state ∙ (ap (λ (r : Reply). with_reply r c.leave.new.self) (sym reply) ∙ ap (λ (x : DriverState). with_reply (reset_reply e) x) left) in
    let first = first_left s c.owe.new.self e sound first_is new in
    record { same = first.same ∙ c.loop-slot.invariant.same; room = omega (arith, first.fewer, first.replies, c.loop-slot.invariant.room); pages = (c.owe.ensures.pages.0 ∙ (c.leave.ensures.pages.0 ∙ c.loop-slot.invariant.pages.0), c.owe.ensures.pages.1 ∙ (c.leave.ensures.pages.1 ∙ c.loop-slot.invariant.pages.1), c.owe.ensures.pages.2 ∙ (c.leave.ensures.pages.2 ∙ c.loop-slot.invariant.pages.2)) }

pub returns-clause-state : goal.returns-clause-state
returns-clause-state c =
    let s : DriverState = c.loop-slot.self in
    let t = c.self-in-loop-slot.inside.slots.table in
    let same : t ≡ s.table = ap (λ (x : DriverState). x.table) c.self-in-loop-slot.view_is in
    let none_there : slice_get t.entries 0 ≡ None = search rules in
    let none : slice_get s.table.entries 0 ≡ None = ap (λ (x : Table DriverConnection). slice_get x.entries 0) (sym same) ∙ none_there in
    none_left s none ∙ c.loop-slot.invariant.same
