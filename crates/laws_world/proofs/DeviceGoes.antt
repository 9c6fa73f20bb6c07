-- What the device's conversations come to: steps of the two ends, where the device got just what the driver put first, and headers that fit.
use Rattle.std.proofs.Common.{true, ℕ, refl, subst}
use Rattle.vs_page.specs.{Log.{Device, HasGotAll, flow_got}, declared.log.LogEntry.TheVariants.GotPacket}
use Rattle.laws_tables.{specs.Both.{Both, IsSound, Seat}, proofs.{Fair.got_formed, Voices.{AreVoiced, voices_run}}}
use Rattle.laws_device.specs.Carried.Streamed.{changing}
use Rattle.laws_device.proofs.{Seats.{Carried, PutsFit}, Carried.Cids.dropped_empty}
use Rattle.laws_world.{proofs.Runs.{and_then, got_before, keeps_sound, log_before, step_runs}, specs.{Sides.Runs, World.first_cid}}

-- The CIDs of packets stay as the two ends go on.
pub cids_kept : (first : ℕ) (b c : Both) → Runs b c → IsSound first b → AreVoiced first b → AreVoiced first c
cids_kept first b c r s cids = subst (AreVoiced first) r.ends (voices_run first r.steps b s r.may cids)

module _ (fresh : Type 0) (b : Both) (sound : IsSound first_cid b) (cids : AreVoiced first_cid b) where
  abbrev beside : Seat → Both
  beside w = record { driver = b.driver; device = w }

  abbrev Walks : Seat → Type 0
  Walks w = PutsFit w.log × (HasGotAll w.log b.driver.log → Runs b (beside w))

  abbrev pub carried : Carried
  carried = record {
    ok = fresh;
    since = changing;
    others = λ held. Unit {0};
    asks = λ f. Unit {0};
    of_host = λ f host. tt;
    holds = Walks;
    step = λ step w may asked fits was. (
      fits was.0,
      λ got. and_then b (beside w) _ (was.1 (got_before Device b.driver.log step w got)) (step_runs Device step (beside w) may got),
    );
    plain = λ first log. HasGotAll log b.driver.log;
    before = λ first entry log got. log_before b.driver.log entry log got;
    fairly = true;
    sure = λ first log got. refl;
    idle = λ first p w was m fair got dropped e has given.
        let runs = was.1 (log_before b.driver.log (GotPacket p) w.log got) in
        dropped_empty first_cid (beside w) (keeps_sound first_cid b (beside w) runs sound) (cids_kept first_cid b (beside w) runs sound cids) p got.packets
        dropped (λ other. (got_formed Device p w.log (fair (flow_got Device p))).payload other) e has given;
  }
