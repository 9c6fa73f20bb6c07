-- A connection's pending bytes are unread ones of its end, whatever the end does.
use Rattle.std.proofs.lemmas.Grind.{common_steps}
use Rattle.std.proofs.Common.{ℕ, ◌+◌, ◌-◌, ◌≤◌, cond, refl, arith}
use Rattle.vs_conn.specs.{End.{ConnectionEnd, end_after, paid_of, verdict_of, with_shut}, declared.end.Owed.Owed}
use Rattle.vs_credit.specs.{Credit.{with_forwarded, with_sent}, declared.Credit.Credit}
use Rattle.vs_header.specs.declared.Header.{Header}
use Rattle.laws_tables.{specs.Drains.delivered, proofs.Unread.{Counts, Moves, forwards, hears, pays, still}}
use Rattle.laws_device.specs.Honest.{HoldsBytes}

pub counts : (c : Credit) (u : ℕ) → HoldsBytes c u → Counts c
counts c u fits = record { within = fits.within; alloc = fits.alloc; rx = fits.rx; fwd = fits.fwd }

-- No more bytes are pending than the end counts.
moved : (more less : ℕ) (c d : Credit) (u v : ℕ) → HoldsBytes c u → Moves more less c d → v + less ≤ u + more → HoldsBytes d v
moved more less c d u v fits m few = grind (arith, common_steps)

same : (c d : Credit) (u v : ℕ) → HoldsBytes c u → Moves 0 0 c d → v ≤ u → HoldsBytes d v
same c d u v fits m few = moved 0 0 c d u v fits m (omega (arith, few))

pub fewer : (c : Credit) (u v : ℕ) → HoldsBytes c u → v ≤ u → HoldsBytes c v
fewer c u v fits few = same c c u v fits (still c c (counts c u fits) refl refl refl) few

pub fits_forwarded : (c : Credit) (n u : ℕ) → HoldsBytes c u → n ≤ u → HoldsBytes (with_forwarded c n) (u - n)
fits_forwarded c n u fits le =
    moved 0 n c (with_forwarded c n) u (u - n) fits (forwards c n (counts c u fits) (omega (arith, fits.unread, le))) (omega (arith, le))

pub fits_sent : (c : Credit) (n u : ℕ) → HoldsBytes c u → HoldsBytes (with_sent c n) u
fits_sent c n u fits = same c (with_sent c n) u u fits (still c (with_sent c n) (counts c u fits) refl refl refl) (omega arith)

pub fits_shut : (e : ConnectionEnd) (bits u : ℕ) → HoldsBytes e.credit u
    → HoldsBytes (with_shut e bits).credit (cond (with_shut e bits).own.receive 0 u)
fits_shut e bits u fits = grind (arith, common_steps)

pub fits_paid : (e : ConnectionEnd) (what : Owed) (u : ℕ) → HoldsBytes e.credit u → HoldsBytes (paid_of e what).credit u
fits_paid e what u fits = same e.credit _ u u fits (pays e what (counts e.credit u fits)) (omega arith)

pub fits_after : (e : ConnectionEnd) (h : Header) (u : ℕ) → HoldsBytes e.credit u
    → HoldsBytes (end_after e h).credit (u + delivered (verdict_of e h) h.len)
fits_after e h u fits =
    moved (delivered (verdict_of e h) h.len) 0 e.credit (end_after e h).credit u _ fits (hears e h (counts e.credit u fits)) (omega arith)
