use Rattle.laws_world.{specs.Events.{Reset, is_guest_cid, reset_made}, proofs.GuestLines.{leads_one, possible_is}}
use Rattle.vs_core.proofs.laws.law_of_resets.Goals as goal

pub returns : goal.returns
returns c = λ cid w right. leads_one (Reset cid) w _ (possible_is (is_guest_cid cid) (reset_made cid) w right)
