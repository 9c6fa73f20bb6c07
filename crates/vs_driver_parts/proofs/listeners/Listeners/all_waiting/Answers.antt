use Rattle.std.proofs.{Common.rules, lemmas.List.Elements.same_from_all_zip}
use Rattle.vs_driver_parts.proofs.ListenerChanges.{found}
use Rattle.vs_driver_parts.proofs.listeners.Listeners.all_waiting.Goals as goal

pub returns-in-Some : goal.returns-in-Some
returns-in-Some c = search (rules, same_from_all_zip, found)
