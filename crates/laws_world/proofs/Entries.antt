-- The flows of a table that lead to the host.
use Rattle.std.{proofs.{Common.{◌≡◌, [], ◌∷◌, Option, Some, None, refl, sym, ap, ◌∙◌}, lemmas.List.Elements.All-contains}, specs.List.All}
use Rattle.vs_conn.specs.End.{ConnectionEnd}
use Rattle.vs_flow.{specs.{declared.{flow.Flow.Flow, table.Entry.Entry}, Table.{Table, entry_of}, Flow.same_flow}, proofs.Entries.same_flow_true}
use Rattle.vs_limits.specs.declared.TheConstants.{HOST_CID}
use Rattle.laws_tables.{specs.Ends.{ends_of, entries_of}, proofs.Slots.{found_by, no_entry}}

-- A flow that has an end is one with the host.
pub host_of : {T : Type 0} (end_of : T → ConnectionEnd) (t : Table T) (f : Flow) (e : ConnectionEnd) → All (λ x. x.flow.peer ≡ HOST_CID) t.entries
    → ends_of f (entries_of end_of t) ≡ e ∷ [] → f.peer ≡ HOST_CID
host_of {T} end_of t f e all has = by (entry_of t f) refl
  where
    by : (o : Option (Entry T)) → entry_of t f ≡ o → f.peer ≡ HOST_CID
    by None none = let both : [] ≡ e ∷ [] = sym (no_entry end_of t f none) ∙ has in absurd cc
    by (Some x) found =
        let there = found_by (λ (y : Entry T). same_flow f y.flow) t.entries x found in
        ap (λ (g : Flow). g.peer) (same_flow_true f x.flow there.1) ∙ All-contains (λ (y : Entry T). y.flow.peer ≡ HOST_CID) t.entries x all there.0
