-- A device that speaks with the guest for the host alone.
use Rattle.std.specs.{Prelude.{◌≡◌, true, List, [], ◌∷◌}, List.All, Option.ForSome}
use Rattle.vs_flow.specs.declared.flow.Flow.{Flow}
use Rattle.vs_limits.specs.declared.TheConstants.{HOST_CID}
use Rattle.vs_page.specs.Log.{Log, packets_put}
use Rattle.vs_ring_port.specs.Contents.{RingContents}
use Rattle.laws_tables.specs.Ends.{Ends, flows_of, replied}
use Rattle.laws_device.specs.Honest.{ends_of_state}
use Rattle.vs_proxy_parts.specs.State.{ProxyState}

-- All flows are with the host.
abbrev pub AreWithHost : List Flow → Type 0
AreWithHost [] = Unit {0}
AreWithHost (f ∷ fs) = (f.peer ≡ HOST_CID) × AreWithHost fs

-- The flows of its connections and of the replies that it owes are; and all packets that it put come from the host.
pub record IsHosts (part : Ends) (log : Log) : Type 0 where
  pub entries : AreWithHost (flows_of part.entries)
  pub replies : AreWithHost (replied part.replies)
  pub puts : All (λ p. p.header.src_cid ≡ HOST_CID) (packets_put log)

-- The same where an honest ring tells the log.
abbrev pub IsHostsWith : ProxyState → RingContents → Type 0
IsHostsWith s c = c.honest ≡ true → ForSome c.log (λ l. IsHosts (ends_of_state s.next_port s.device) l.entries)
