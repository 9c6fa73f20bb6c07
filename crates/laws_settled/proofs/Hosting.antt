-- Each step of the device keeps its flows and its packets with the host, where it asks for no other flow.
use Rattle.std.proofs.{Common.{◌≡◌, ℕ, Bool, true, false, cond, List, [], ◌∷◌, ◌++◌, refl, ap, subst, ◌∙◌, arith}, lemmas.{Grind.common_steps, List.Elements.All-cons}}
use Rattle.std.specs.List.{All}
use Rattle.vs_conn.specs.{End.{ConnectionEnd}, declared.end.Owed.Owed}
use Rattle.vs_flow.specs.{Flow.same_flow, declared.flow.Flow.Flow}
use Rattle.vs_header.specs.declared.{Header.Header, Kind.Kind}
use Rattle.laws_history.specs.{Packets.{is_request, is_rst}, declared.packet.Packet.Packet}
use Rattle.vs_limits.specs.declared.TheConstants.{HOST_CID}
use Rattle.vs_page.{specs.{Log.{Device, Log, flow_got, packets_put}, Open.is_dropped}, proofs.Flows.same_is}
use Rattle.vs_replies.specs.declared.Reply.{Reply}
use Rattle.laws_tables.specs.Both.{Asks, Decides, MakesReset, Opens, Pays, PutsEvent, Replies, Seat, Sends, Step, Takes, TakesEvent, TakesReset, after, after_packet}
use Rattle.laws_tables.specs.{Both.answered, Ends.{Ends, FlowEnd, ends_of, flows_of, replaced, replied, without_flow}, Steps.{owed_on, paid, payload_on}}
use Rattle.laws_tables.specs.Steps.{reply_on, request_on, taken, with_clean}
use Rattle.laws_device.proofs.Seats.{IsAsked}
use Rattle.laws_tables.proofs.Going.{MayDo}
use Rattle.laws_settled.specs.Hosts.{AreWithHost, IsHosts}
use Rattle.vs_conn.specs.declared.end.Owed.TheVariants as owed

abbrev pub WithHost : Flow → Type 0
WithHost f = f.peer ≡ HOST_CID

abbrev ComesFromHost : Packet → Type 0
ComesFromHost p = p.header.src_cid ≡ HOST_CID

-- Flows of entries.
own_host : (f : Flow) (xs : List FlowEnd) (e : ConnectionEnd) → ends_of f xs ≡ e ∷ [] → AreWithHost (flows_of xs) → WithHost f
own_host f [] e is all = absurd cc
own_host f (x ∷ xs) e is all = by (same_flow f x.flow) refl is (λ there. own_host f xs e there all.1)
  where
    by : (b : Bool) → same_flow f x.flow ≡ b → cond b (x.end ∷ ends_of f xs) (ends_of f xs) ≡ e ∷ [] → (ends_of f xs ≡ e ∷ [] → WithHost f)
        → WithHost f
    by true same has rest = ap (λ (g : Flow). g.peer) (same_is f x.flow same) ∙ all.0
    by false other has rest = rest has

added : (f : Flow) (e : ConnectionEnd) (xs : List FlowEnd) → AreWithHost (flows_of xs) → WithHost f
    → AreWithHost (flows_of (xs ++ record { flow = f; end = e } ∷ []))
added f e [] all host = (host, tt)
added f e (x ∷ xs) all host = (all.0, added f e xs all.1 host)

replaced_still : (f : Flow) (e : ConnectionEnd) (xs : List FlowEnd) → AreWithHost (flows_of xs) → AreWithHost (flows_of (replaced f e xs))
replaced_still f e [] all = tt
replaced_still f e (x ∷ xs) all = (by (same_flow f x.flow), replaced_still f e xs all.1)
  where
    by : (b : Bool) → WithHost (cond b (record x { end = e }) x).flow
    by true = all.0
    by false = all.0

without_still : (f : Flow) (xs : List FlowEnd) → AreWithHost (flows_of xs) → AreWithHost (flows_of (without_flow f xs))
without_still f [] all = tt
without_still f (x ∷ xs) all = by (same_flow f x.flow) (without_still f xs all.1)
  where
    by : (b : Bool) → AreWithHost (flows_of (without_flow f xs))
        → AreWithHost (flows_of (cond b (without_flow f xs) (x ∷ without_flow f xs)))
    by true rest = rest
    by false rest = (all.0, rest)

owed_more : (f : Flow) (kind : Kind) (rs : List Reply) → AreWithHost (replied rs) → WithHost f
    → AreWithHost (replied (rs ++ record { flow = f; kind = kind } ∷ []))
owed_more f kind [] all host = (host, tt)
owed_more f kind (r ∷ rs) all host = (all.0, owed_more f kind rs all.1 host)

puts_more : (p : Packet) (log : Log) → All ComesFromHost (packets_put log) → ComesFromHost p → All ComesFromHost (p ∷ packets_put log)
puts_more p log all from = All-cons ComesFromHost p (packets_put log) from all

-- The device drops what doesn't go to the host.
goes_to_host : (c : ℕ) (h : Header) → is_dropped Device c h ≡ false → h.dst_cid ≡ HOST_CID
goes_to_host c h kept = grind (arith, common_steps)

-- A packet that it got.
module _ (part : Ends) (log : Log) (is : IsHosts part log) (p : Packet) (host : WithHost (flow_got Device p)) where
  abbrev f : Flow
  f = flow_got Device p

  abbrev Still : Ends → Type 0
  Still new = AreWithHost (flows_of new.entries) × AreWithHost (replied new.replies)

  accepts : (request answer : Bool) → Still (answered request answer p f part)
  accepts request answer = grind (arith, common_steps, added, owed_more)

  keeps_clean : (b : Bool) (new : Ends) → Still new → Still (with_clean b f new)
  keeps_clean true new still = still
  keeps_clean false new still = still

  hears : (e : ConnectionEnd) → Still (taken Device f e p part)
  hears e = grind (arith, common_steps, keeps_clean, without_still, replaced_still)

  comes : (ends : List ConnectionEnd) (answer : Bool) → Still (after_packet Device ends p f answer part)
  comes [] answer = by (is_rst p) (accepts (is_request p) answer)
    where
      by : (b : Bool) → Still (answered (is_request p) answer p f part) → Still (cond b part (answered (is_request p) answer p f part))
      by true other = (is.entries, is.replies)
      by false other = other
  comes (e ∷ more) answer = hears e

module _ (w : Seat) (is : IsHosts w.part w.log) where
  heard : (p : Packet) (answer : Bool) (b : Bool) → is_dropped Device w.part.cid p.header ≡ b
      → let new = cond b w.part (after_packet Device (ends_of (flow_got Device p) w.part.entries) p (flow_got Device p) answer w.part) in
      AreWithHost (flows_of new.entries) × AreWithHost (replied new.replies)
  heard p answer true dropped = (is.entries, is.replies)
  heard p answer false kept = comes w.part w.log is p (goes_to_host w.part.cid p.header kept) (ends_of (flow_got Device p) w.part.entries) answer

  owes : (f : Flow) (e : ConnectionEnd) (what : Owed) → AreWithHost (flows_of (paid f e what w.part).entries) × AreWithHost (replied (paid f e what w.part).replies)
  owes f e owed.Rst = (without_still f w.part.entries is.entries, is.replies)
  owes f e what = (replaced_still f _ w.part.entries is.entries, is.replies)

  pub step_hosts : (step : Step) → MayDo Device step w → IsAsked WithHost step → IsHosts (after Device step w).part (after Device step w).log
  step_hosts (Opens f kind) may host = record {
    entries = added f _ w.part.entries is.entries host;
    replies = is.replies;
    puts = puts_more (request_on Device w.part.cid f kind) w.log is.puts host;
  }
  step_hosts (Asks f kind) may host = record { entries = added f _ w.part.entries is.entries host; replies = is.replies; puts = is.puts }
  step_hosts (Sends f e payload) may asked = record {
    entries = replaced_still f _ w.part.entries is.entries;
    replies = is.replies;
    puts = puts_more (payload_on Device w.part.cid f e payload) w.log is.puts (own_host f w.part.entries e may.0 is.entries);
  }
  step_hosts (Pays f e what) may asked = record {
    entries = (owes f e what).0;
    replies = (owes f e what).1;
    puts = puts_more (owed_on Device w.part.cid f e what) w.log is.puts (own_host f w.part.entries e may.0 is.entries);
  }
  step_hosts (Replies r rest) may asked =
      let all = subst (λ (rs : List Reply). AreWithHost (replied rs)) may is.replies in
      record { entries = is.entries; replies = all.1; puts = puts_more (reply_on Device w.part.cid r) w.log is.puts all.0 }
  step_hosts (Decides f e what) may asked =
      record { entries = replaced_still f _ w.part.entries is.entries; replies = is.replies; puts = is.puts }
  step_hosts (Takes p answer) may asked =
      let still = heard p answer (is_dropped Device w.part.cid p.header) refl in record { entries = still.0; replies = still.1; puts = is.puts }
  step_hosts (PutsEvent id) may asked = record { entries = is.entries; replies = is.replies; puts = is.puts }
  step_hosts (TakesEvent id) may asked = record { entries = is.entries; replies = is.replies; puts = is.puts }
  step_hosts (MakesReset cid) may asked = record { entries = tt; replies = tt; puts = is.puts }
  step_hosts (TakesReset cid) may asked = absurd (let no = may in cc)
