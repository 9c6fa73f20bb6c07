use Rattle.std.proofs.{Common.{◌≡◌, ℕ, List, length, Some, true, false, sym, ap, ◌∙◌, rules, arith, ◌&&◌, not, [], ◌∷◌, ◌++◌}, lemmas.List.Elements.All-push}
use Rattle.vs_flow.specs.{CleanPairs.kept_if, Table.{Table, entry_under, without}, Flow.host_asks, declared.flow.Flow.Flow}
use Rattle.vs_driver_parts.specs.{Room.IsSpare, State.{DriverConnection, GoneConnection}, Connections.is_let_go, Held.HeldSlots}
use Rattle.vs_driver_parts.{specs.contracts.slots.Slots.the_view, proofs.{Ids.{IsUnder, under}, Numbers.{numbers_without, numbers_left}, SlotChanges.{left_free, left_kept}}}
use Rattle.vs_driver_parts.proofs.{Noting.noted_without, SlotChanges.one_fewer, Clean.{flow_there, left_clean}}
use Rattle.vs_driver_parts.proofs.slots.Slots.leave.Goals as goal

pub invariant_of-self-then-let_go : goal.invariant_of-self-then-let_go
invariant_of-self-then-let_go c =
    let s = c.self.inside in
    let kept = c.self.invariant in
    let u : IsUnder s.table c.args.slot c.in-Some-remove.connection = under s.table c.args.slot c.in-Some-remove.connection (sym c.in-Some-remove.ensures.value) in
    let table : c.remove.new.self ≡ without s.table c.args.slot = c.in-Some-remove.ensures.removed in
    let entries = ap (λ (t : Table DriverConnection). length t.entries) table in
    record {
      numbers = rw table (numbers_without s.first_id s.next_port s.next_id s.table s.gone.items kept.numbers c.args.slot);
      clean = rw (table, c.keep_own.ensures) (left_clean s c.args.slot u.entry c.in-Some.flow c.args.cleanly kept u.found c.in-Some.ensures.flow);
      last_port = kept.last_port;
      last_id = kept.last_id;
      table = c.in-Some-remove.ensures.sound;
      table_room = ap (λ (t : Table DriverConnection). t.room) table ∙ kept.table_room;
      gone_room = kept.gone_room;
      buffers = omega (arith, kept.buffers, entries, one_fewer s.table c.args.slot u.entry kept.table u.found, c.push_reserved.ensures.len);
      buffer_room = omega (arith, kept.buffer_room, c.push_reserved.ensures.capacity);
      spare = rw c.push_reserved.ensures.items (All-push IsSpare s.spare.items c.clear.new.self kept.spare (search rules));
      noted = rw table (noted_without s.owes s.table c.args.slot kept.noted);
    }

pub returns-then-let_go : goal.returns-then-let_go
returns-then-let_go c = λ e found.
    let s = c.self.inside in
    let table : c.remove.new.self ≡ without s.table c.args.slot = c.in-Some-remove.ensures.removed in
    let go : is_let_go c.in-Some-remove.connection ≡ true = search rules in
    let there : entry_under s.table c.args.slot ≡ Some e = rw (← c.self.view_is) at found in
    rw (← c.self.view_is) (ap (λ (t : Table DriverConnection). let h : HeldSlots = the_view s in record h { table = t; clean = c.keep_own.new.clean }) table
    ∙ (ap (λ (fs : List Flow). let h : HeldSlots = the_view s in record h { table = without s.table c.args.slot; clean = fs }) (c.keep_own.ensures
    ∙ ap (λ (f : Flow). kept_if (c.args.cleanly && not (host_asks f)) f s.clean) (flow_there s.table c.args.slot e c.in-Some.flow there c.in-Some.ensures.flow))
    ∙ ap (λ (h : HeldSlots). record h { clean = kept_if (c.args.cleanly && not (host_asks e.flow)) e.flow s.clean })
    (left_free (the_view s) c.args.slot e c.in-Some-remove.connection there c.in-Some-remove.ensures.value go)))

pub invariant_of-self-2 : goal.invariant_of-self-2
invariant_of-self-2 c =
    let s = c.self.inside in
    let kept = c.self.invariant in
    let u : IsUnder s.table c.args.slot c.in-Some-remove.connection = under s.table c.args.slot c.in-Some-remove.connection (sym c.in-Some-remove.ensures.value) in
    let table : c.remove.new.self ≡ without s.table c.args.slot = c.in-Some-remove.ensures.removed in
    let entries = ap (λ (t : Table DriverConnection). length t.entries) table in
    let id : c.new.result.id ≡ c.in-Some-remove.connection.id = search rules in
    let value = ap (λ (x : DriverConnection). x.id) u.value in
    let there : entry_under s.table u.entry.slot ≡ Some u.entry = ap (λ (n : ℕ). entry_under s.table n) u.slot_is ∙ u.found in
    record {
      numbers = rw (table, ← u.slot_is, c.push_reserved-2.ensures.items)
          (numbers_left s.first_id s.next_port s.next_id s.table s.gone.items kept.numbers u.entry c.new.result kept.table there (id ∙ sym value));
      clean = rw (table, c.keep_own.ensures) (left_clean s c.args.slot u.entry c.in-Some.flow c.args.cleanly kept u.found c.in-Some.ensures.flow);
      last_port = kept.last_port;
      last_id = kept.last_id;
      table = c.in-Some-remove.ensures.sound;
      table_room = ap (λ (t : Table DriverConnection). t.room) table ∙ kept.table_room;
      gone_room = omega (arith, kept.gone_room, c.push_reserved-2.ensures.capacity);
      buffers = omega (arith, kept.buffers, entries, one_fewer s.table c.args.slot u.entry kept.table u.found, c.push_reserved-2.ensures.len);
      buffer_room = kept.buffer_room;
      spare = kept.spare;
      noted = rw table (noted_without s.owes s.table c.args.slot kept.noted);
    }

pub returns : goal.returns
returns c = λ e found.
    let s = c.self.inside in
    let table : c.remove.new.self ≡ without s.table c.args.slot = c.in-Some-remove.ensures.removed in
    let stays : is_let_go c.in-Some-remove.connection ≡ false = search rules in
    let there : entry_under s.table c.args.slot ≡ Some e = rw (← c.self.view_is) at found in
    let new : c.new.result ≡ record { id = c.in-Some-remove.connection.id; flow = c.in-Some.flow; end = c.in-Some-remove.connection.end; unread = c.in-Some-remove.connection.unread } = search rules in
    rw (← c.self.view_is) (ap (λ (t : Table DriverConnection). let h : HeldSlots = the_view s in
    record h { table = t; gone = c.push_reserved-2.new.self.items; clean = c.keep_own.new.clean }) table
    ∙ (ap (λ (gone : List GoneConnection). let h : HeldSlots = the_view s in
    record h { table = without s.table c.args.slot; gone = gone; clean = c.keep_own.new.clean }) c.push_reserved-2.ensures.items
    ∙ (ap (λ (fs : List Flow). let h : HeldSlots = the_view s in
    record h { table = without s.table c.args.slot; gone = s.gone.items ++ c.new.result ∷ []; clean = fs }) (c.keep_own.ensures
    ∙ ap (λ (f : Flow). kept_if (c.args.cleanly && not (host_asks f)) f s.clean) (flow_there s.table c.args.slot e c.in-Some.flow there c.in-Some.ensures.flow))
    ∙ ap (λ (h : HeldSlots). record h { clean = kept_if (c.args.cleanly && not (host_asks e.flow)) e.flow s.clean })
    (left_kept (the_view s) c.args.slot e c.in-Some-remove.connection there c.in-Some-remove.ensures.value c.in-Some.flow c.new.result stays c.in-Some.ensures.flow new))))
