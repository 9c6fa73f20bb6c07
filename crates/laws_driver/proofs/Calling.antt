-- Calls on the connection of an id: what holds of the driver after one, where it held before and holds of what changes.
use Rattle.std.proofs.{Common.{◌≡◌, ℕ, Some, arith}, lemmas.Grind.common_steps}
use Rattle.vs_conn.specs.End.{grown}
use Rattle.vs_driver_parts.specs.State.{DriverEntry, DriverState, GoneConnection, entry_known_as}
use Rattle.vs_driver_parts.specs.Connections.{after_close, after_grow, after_read, after_recv, after_shut, after_shutdown, all_gone_after_read, entry_closed, entry_grow_answer}
use Rattle.vs_driver_parts.specs.{Connections.{with_connection, without_gone}, Listening.{with_waiting, without_id}}
use Rattle.vs_driver_parts.specs.declared.answers.Grown.TheVariants as rise

module _ (P : DriverState → Type 0) (id : ℕ) (s : DriverState) (same : P s) where
  pub recv_to : (n : ℕ) → ((e : DriverEntry) → entry_known_as id s ≡ Some e → P (with_connection e.slot (after_read n e.value) s))
      → P (record s { gone = all_gone_after_read id n s.gone }) → P (after_recv id n s)
  recv_to n reads gone = grind (arith, common_steps)

  pub shutdown_to : (bits : ℕ) → ((e : DriverEntry) → entry_known_as id s ≡ Some e → P (with_connection e.slot (after_shut bits e.value) s))
      → P (after_shutdown id bits s)
  shutdown_to bits shuts = grind (arith, common_steps)

  pub grow_to : (alloc : ℕ) → ((e : DriverEntry) → entry_known_as id s ≡ Some e → entry_grow_answer alloc e ≡ rise.Done
      → P (with_connection e.slot (record e.value { end = grown e.value.end alloc }) s)) → P (after_grow id alloc s)
  grow_to alloc grows = grind (arith, common_steps)

  pub close_to : ((e : DriverEntry) → entry_known_as id s ≡ Some e → P (entry_closed e s))
      → ((g : GoneConnection) → P (record s { gone = without_gone id s.gone; listeners = with_waiting g.flow.guest (without_id id) s.listeners }))
      → P (after_close id s)
  close_to closes forgets = grind (arith, common_steps)
