use Rattle.std.proofs.Common.{◌≡◌, ℕ, List, Option, ◌++◌, take, drop, sym, ap, subst, ◌∙◌}
use Rattle.vs_contents.{specs.CallTree.{bind, for_each}, proofs.{Leads.{leads_of, leads_bind}, Conditions.{may_first, may_rest, may_of}}}
use Rattle.vs_flow.specs.Table.{slots}
use Rattle.vs_device_parts.specs.{Calls.Allows, Filling.{filling_of, serve_all}, Playing.CanMake, Receiving.{Filling, serve_slot, round_from}, State.DeviceState}
use Rattle.vs_device.proofs.{Trees.each_both, device.Device.serve_all.Goals.After-split_at}
use Rattle.vs_device.proofs.device.Device.serve_all.Goals as goal

-- the round is those above the slot that last put a packet, and then the others
parted : (last : Option ℕ) (xs ys zs above others : List ℕ) (n : ℕ) → round_from last ys ≡ drop n ys ++ take n ys → ys ≡ xs → zs ≡ xs
    → others ≡ take n zs → above ≡ drop n zs → round_from last xs ≡ above ++ others
parted last xs ys zs above others n round is again front back =
    rw (front, back, again) (subst (λ (l : List ℕ). round_from last l ≡ drop n l ++ take n l) is round)

both : (r : Filling) (above others : List ℕ) → round_from r.state.last_put (slots r.state.table) ≡ above ++ others
    → serve_all r ≡ bind (for_each serve_slot above r) (for_each serve_slot others)
both r above others round = rw (round, serve_all) (each_both serve_slot others above r)

module _ (g : _) (c : After-split_at g) where
  abbrev above : List ℕ
  above = c.split_at.result.1.now

  abbrev others : List ℕ
  others = c.split_at.result.0.now

  abbrev start : Filling
  start = filling_of c.args.self.now c.args.fill.now

  whole : serve_all start ≡ bind (for_each serve_slot above start) (for_each serve_slot others)
  whole =
      both start above others (sym (ap (λ (s : DeviceState). round_from s.last_put (slots s.table)) c.self.view_is)
      ∙ parted c.self.inside.last_put (slots c.self.inside.slots) _ _ above others c.first_from-first.result c.first_from-first.ensures.round
      (c.as_slice.ensures.value ∙ c.all-slots.ensures.all) (c.as_slice-2.ensures.value ∙ c.all-slots.ensures.all) c.split_at.ensures.front c.split_at.ensures.back)

pub serve_part-requires-clause-may : goal.serve_part-requires-clause-may
serve_part-requires-clause-may g c =
    let k = (goal.at.serve_part-requires-clause-may g c).After-split_at in
    may_first CanMake Allows (for_each serve_slot (above g k) (start g k)) (for_each serve_slot (others g k)) _
    (may_of CanMake Allows _ _ _ (whole g k) c.requires.may)

pub serve_part-requires-2-clause-may : goal.serve_part-requires-2-clause-may
serve_part-requires-2-clause-may g c =
    let k = (goal.at.serve_part-requires-2-clause-may g c).After-split_at in
    may_rest CanMake Allows (for_each serve_slot (above g k) (start g k)) (for_each serve_slot (others g k)) _ _ _
    (may_of CanMake Allows _ _ _ (whole g k) c.requires.may) c.serve_part.ensures.calls

pub returns-clause-calls : goal.returns-clause-calls
returns-clause-calls g c =
    let k = (goal.at.returns-clause-calls g c).After-split_at in
    rw c.watch_owed.ensures (leads_of Allows _ _ _ _ _ (whole g k)
    (leads_bind Allows (for_each serve_slot (above g k) (start g k)) (for_each serve_slot (others g k)) _ _ _ _ _ c.serve_part.ensures.calls c.serve_part-2.ensures.calls))
