-- The packets that the tests pass may be put.
use Rattle.std.proofs.Common.{ℕ, ◌∷◌, refl, sym, arith}
use Rattle.vs_header.specs.{Op.op_number, declared.Op.TheVariants.Rst}
use Rattle.vs_page.{specs.{Fair.IsFairLog, Log.{Driver, Log}, declared.log.LogEntry.TheVariants.PutPacket}, proofs.Entries.one_put}
use Rattle.tests_rings.specs.Senders.{Asked, bare, numbered}

pub fair_reset : (log : Log) (number : ℕ) → IsFairLog Driver log → Asked log
    → IsFairLog Driver (PutPacket (bare (numbered (op_number Rst) number)) ∷ log)
fair_reset log number fair a =
    (one_put Driver log (bare (numbered (op_number Rst) number))).1 (
      fair,
      record {
        opens = λ no. absurd cc;
        goes_on = λ e. record {
          formed = record { kind = refl; len = refl; payload = λ e. refl; fwd_cnt = omega arith };
          timely = a.asked;
          begun = λ e. a.asked;
          kind = λ e. sym a.kind;
          marked = λ no. absurd cc;
          quiet = a.quiet;
          honest = λ no. absurd cc;
        };
      },
    )

pub still_asked : (log : Log) (number : ℕ) → Asked log → Asked (PutPacket (bare (numbered (op_number Rst) number)) ∷ log)
still_asked log number a = record { asked = a.asked; kind = rw a.asked a.kind; quiet = a.quiet }
