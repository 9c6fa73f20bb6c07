-- The bytes of a run that is at rest: it is one of driver and device over two rings that tell their logs, and a host that exposes its streams.
use Rattle.std.proofs.Common.{◌≡◌, ℕ, ◌≤◌, List, [], Some, refl, subst}
use Rattle.vs_flow.specs.Connection.{Connection}
use Rattle.vs_limits.specs.declared.TheConstants.{FIRST_CID}
use Rattle.vs_outside.specs.Host.{HostContents}
use Rattle.vs_ring_port.specs.EndLog.{EndLog}
use Rattle.vs_driver_parts.specs.State.{DriverState}
use Rattle.vs_device_parts.specs.Playing.{situation}
use Rattle.vs_ring_shared.specs.Sights.{DeviceSight, Sight, device_contents, device_log, driver_contents, driver_log}
use Rattle.vs_proxy_parts.specs.State.{ProxyState}
use Rattle.laws_driver.specs.{Carried.{Calls.{Journal, account_of, received_by}, Senders.IsRightJournal}, Honest.slots_of}
use Rattle.laws_rest.{specs.Bytes.{AreTold, BothEnds, CarryBytes}, proofs.BothEnds.carry_told}
use Rattle.laws_proxy.specs.Honest.{IsProxyStreamed}
use Rattle.laws_settled.specs.Settled.{IsSettled, ends_at_rest}
use Rattle.vs_apps_parts.specs.{Journals.sent_as, declared.journal.Entry.Entry}
use Rattle.laws_apps.{specs.Accounts.IsAccount, proofs.Naming.sent_by_id}
use Rattle.laws_run.proofs.Wrote.{heard}

module _ (d : DriverState) (driver : Sight) (p : ProxyState) (device : DeviceSight) (settled : IsSettled d driver p device) where
  ends : BothEnds (ends_at_rest d driver p device)
  ends = record { fair = settled.at_rest.fair; got = λ role. ([], settled.at_rest.got role) }

  -- What was sent and received on an id that was given to a connection.
  module _ (h : HostContents) (faults : ℕ) (streams : IsProxyStreamed FIRST_CID p (situation (device_contents device) (Some h) faults))
      (opened : ℕ → Connection) (journal : Journal) (entries : List Entry) (account : IsAccount 1 opened journal entries driver.log (slots_of d)) where
    told : AreTold FIRST_CID d (driver_contents driver) p (situation (device_contents device) (Some h) faults) (driver_log driver) (device_log device) h
    told = record {
      driver_honest = refl;
      device_honest = refl;
      driver_log = refl;
      device_log = refl;
      host = refl;
      heard = heard d driver p device settled;
      ends = ends;
    }

    pub carried : (id : ℕ) → 1 ≤ (opened id).number → CarryBytes (opened id) (sent_as id journal) (received_by id journal) h
    carried id some =
        subst (λ (bytes : List ℕ). CarryBytes (opened id) bytes (received_by id journal) h)
        (sent_by_id (account_of 1 opened journal) driver.log (slots_of d) account.right.received id some journal account.right.sent.senders)
        (carry_told FIRST_CID d (driver_contents driver) p (situation (device_contents device) (Some h) faults) (driver_log driver) (device_log device) h
        1 opened journal id told
        (λ on l is. let same : driver_log driver ≡ l = cc in
        subst (λ (k : EndLog). IsRightJournal 1 opened journal k.entries (slots_of d)) same account.right)
        streams some)
