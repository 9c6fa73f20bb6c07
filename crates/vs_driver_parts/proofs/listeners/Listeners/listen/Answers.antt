use Rattle.std.proofs.{Common.{◌≡◌, ◌∙◌, ap, arith, length, length-append, [], ◌∷◌, is_some, false, nat_le, ◌+◌}, lemmas.{Bool.Decides.nat_tests, List.length-map}}
use Rattle.vs_limits.specs.declared.TheConstants.{LISTENERS}
use Rattle.vs_driver_parts.{specs.{Listening.{listener_on, with_port}, ListenerFields.{listener_of, listeners_of}}, proofs.ListenerChanges.listened}
use Rattle.vs_driver_parts.proofs.listeners.Listeners.listen.Goals as goal

grown : (c : goal.After-unwrap) → listeners_of c.insert.new.self.entries ≡ with_port c.args.port (listeners_of c.self.inside.ports.entries)
grown c =
    let new : is_some (listener_on c.args.port (listeners_of c.self.inside.ports.entries)) ≡ false = rw (← c.self.view_is) at c.requires.new in
    ap listeners_of (rw c.unwrap.ensures at c.insert.ensures.entries) ∙ listened c.args.port c.new.result c.self.inside.ports.entries c.new.ensures new

pub invariant_of-self : goal.invariant_of-self
invariant_of-self c =
    let room : nat_le LISTENERS (length (listeners_of c.self.inside.ports.entries)) ≡ false = rw (← c.self.view_is) at c.requires.room in
    let old = length-map c.self.inside.ports.entries listener_of in
    let long : length c.insert.new.self.entries ≡ length c.self.inside.ports.entries + 1 = omega (
      arith,
      old,
      length-map c.insert.new.self.entries listener_of,
      ap length (grown c),
      length-append (listeners_of c.self.inside.ports.entries) (record { port = c.args.port; waiting = [] } ∷ []),
    ) in
    record {
      within = grind (arith, nat_tests, room, old, long);
      room = omega (arith, long, c.insert.ensures.spare, c.self.invariant.room);
      empty = c.self.invariant.empty;
      room_there = c.self.invariant.room_there;
    }

pub returns : goal.returns
returns c = rw (← c.self.view_is) (grown c)
