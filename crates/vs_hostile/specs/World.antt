-- The guest's memory as the program holds it.
use Rattle.vs_hostile.specs.{Run.GuestState, Run.Nothing, Run.HasMemory, Run.HasRings, declared.world.Guest.Guest}
use Rattle.vs_hostile.specs.declared.world.Guest.TheVariants as guest

abbrev pub guest_view : Guest → GuestState
guest_view guest.Nothing = Nothing
guest_view (guest.Memory span) = HasMemory span
guest_view (guest.Rings ring) = HasRings ring
