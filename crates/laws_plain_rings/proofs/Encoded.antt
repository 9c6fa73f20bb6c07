-- Descriptors and used elements hold what was written into them.
use Rattle.std.proofs.lemmas.Grind.{common_steps}
use Rattle.std.proofs.Common.{◌≡◌, ◌^◌, ◌<◌, arith}
use Rattle.vs_layout.specs.{Entry.{desc_bytes, desc_of, used_elem_bytes, used_elem_of}, declared.entry.{Desc.Desc, UsedElem.UsedElem}}

-- a descriptor's bytes hold it
pub desc_back : (d : Desc) → d.addr < 2 ^ 64 → d.len < 2 ^ 32 → d.flags < 2 ^ 16 → d.next < 2 ^ 16 → desc_of (desc_bytes d) ≡ d
desc_back d addr len flags next = grind (arith, common_steps)

-- an element's bytes hold it
pub elem_back : (e : UsedElem) → e.id < 2 ^ 32 → e.len < 2 ^ 32 → used_elem_of (used_elem_bytes e) ≡ e
elem_back e id len = grind (arith, common_steps)
