-- The headers of an end's packets fit their fields.
use Rattle.std.proofs.{Common.{ℕ, ◌<◌, ◌^◌, arith}, lemmas.Grind.common_steps}
use Rattle.vs_header.specs.declared.{Kind.Kind, Op.Op}
use Rattle.vs_page.specs.Held.{FitsWire}
use Rattle.vs_conn.specs.{End.ConnectionEnd, Headers.{header_from, reset_header}, declared.route.Route.Route}

pub record FitsRoute (r : Route) : Type 0 where
  pub src_cid : r.src_cid < 2 ^ 64
  pub dst_cid : r.dst_cid < 2 ^ 64
  pub src_port : r.src_port < 2 ^ 32
  pub dst_port : r.dst_port < 2 ^ 32

module _ (r : Route) (route : FitsRoute r) where
  pub header_fits : (e : ConnectionEnd) (o : Op) (flags len : ℕ) → e.credit.alloc < 2 ^ 32 → e.credit.fwd_cnt < 2 ^ 32 → flags < 2 ^ 32
      → len < 2 ^ 32 → FitsWire (header_from e r o flags len)
  header_fits e o flags len alloc fwd flag length_fits = grind (arith, common_steps)

  pub reset_fits : (k : Kind) → FitsWire (reset_header k r)
  reset_fits k = grind (arith, common_steps)
