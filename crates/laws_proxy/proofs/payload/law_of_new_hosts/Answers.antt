use Rattle.std.proofs.Common.{◌≡◌, ℕ, zero, suc, ◌-◌, ◌==◌, Bool, true, false, cond, List, [], slice_get, Option, None, refl, sym, ap, subst, ◌∙◌}
use Rattle.vs_outside.specs.Host.{HostContents, Stream, stream_at}
use Rattle.laws_proxy.specs.Account.Told.{ShowsAt}
use Rattle.laws_proxy.proofs.payload.law_of_new_hosts.Goals as goal

nothing_at : (k : ℕ) → ◌≡◌ {A = Option Stream} (slice_get [] k) None
nothing_at zero = refl
nothing_at (suc k) = refl

no_stream : (host : HostContents) (id : ℕ) → host.streams ≡ [] → stream_at id host ≡ None
no_stream host id none = by (id == 0)
  where
    by : (b : Bool) → cond b None (slice_get host.streams (id - 1)) ≡ None
    by true = refl
    by false = ap (λ (xs : List Stream). slice_get xs (id - 1)) none ∙ nothing_at (id - 1)

pub returns : goal.returns
returns c = record {
  shows = λ host none id. subst (λ (o : Option Stream). ShowsAt o None) (sym (no_stream host id none)) refl;
}
