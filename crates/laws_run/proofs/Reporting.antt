-- From what a run ends in to a right report.
use Rattle.std.{proofs.Common.{◌≡◌, ℕ, ◌<◌, ◌≤◌, List, Some, length, refl, sym, ap, subst, ◌∙◌}, specs.List.All}
use Rattle.vs_flow.specs.{Connection.Connection, declared.flow.Flow.Flow}
use Rattle.vs_limits.specs.declared.TheConstants.{FIRST_CID}
use Rattle.vs_outside.specs.{Faults.one_more, Host.HostContents}
use Rattle.vs_page.specs.{Fair.number_of, Log.Driver}
use Rattle.vs_ring_shared.specs.Sights.{DeviceSight, Sight, device_contents, device_log, driver_contents, driver_log}
use Rattle.vs_driver_parts.specs.State.{DriverState}
use Rattle.vs_device_parts.specs.Playing.{situation}
use Rattle.vs_proxy_parts.specs.State.{ProxyState}
use Rattle.laws_driver.specs.{Honest.slots_of, Carried.Calls.Journal}
use Rattle.laws_proxy.specs.Honest.{IsProxyStreamed}
use Rattle.laws_settled.specs.Settled.{IsSettled, IsSteady}
use Rattle.vs_apps_parts.specs.{Journals.calls_of, Scripts.{RunScript, acts_of}, declared.{journal.Entry.Entry, progress.AppState.AppState}}
use Rattle.laws_apps.specs.{Accounts.IsAccount, Runs.{IsRunOf, Run}, Calls.run_with, Rounds.AllStand}
use Rattle.vs_report.specs.declared.giving.Totals.{Totals}
use Rattle.vs_run_report.specs.{Connections.opened_all, Report.ended_at, Right.{IsRightConnection, IsRightEnding, IsRightReport}, declared.connection.Opened.Opened}
use Rattle.laws_run.proofs.{Bytes.carried, Endings.all_right, Opening.all_opened}

module _ (script : RunScript) (driver : DriverState) (end : Sight) (apps : List AppState) (entries : List Entry) (bytes : List ℕ) (p : ProxyState)
    (e : DeviceSight) (h : HostContents) (faults : ℕ)
    (run : IsRunOf FIRST_CID script (run_with driver (driver_contents end) apps entries bytes)) (settled : IsSettled driver end p e)
    (steady : IsSteady p (situation (device_contents e) (Some h) faults)) where
  pub none_lost : (driver.broken ≡ 0) × (p.device.overrun ≡ 0)
  none_lost = (
    (run.kept.honest refl (driver_log end) refl).none_refused refl,
    ((steady.order.ring.1.1 (device_log e) refl).1 refl).none_overrun,
  )

  -- Nothing after the last round changed an app or an entry.
  module _ (old stood : Run) (all : AllStand script (length script) old stood) (same_apps : apps ≡ stood.apps) (same_entries : entries ≡ stood.entries)
      (streams : IsProxyStreamed FIRST_CID p (situation (device_contents e) (Some h) faults)) where
    ended : (k : ℕ) → k < length script → IsRightEnding (acts_of k script) (ended_at script apps entries k)
    ended k less =
        let as_many : length stood.apps ≡ length script = ap (λ (xs : List AppState). length xs) (sym same_apps) ∙ run.apps in
        subst (λ (xs : List AppState). IsRightEnding (acts_of k script) (ended_at script xs entries k)) (sym same_apps)
        (subst (λ (es : List Entry). IsRightEnding (acts_of k script) (ended_at script stood.apps es k)) (sym same_entries)
        (all_right script old stood as_many all k less))

    abbrev pub journal : Journal
    journal = calls_of script bytes entries

    abbrev pub Account : (ℕ → Connection) → Type 0
    Account opened = IsAccount 1 opened journal entries end.log (slots_of driver)

    right_one : (opened : ℕ → Connection) → Account opened → (o : Opened) → (1 ≤ (opened o.id).number) × ((opened o.id).flow ≡ o.flow)
        → IsRightConnection opened end.log journal h o
    right_one opened account o has =
        let c = carried driver end p e settled h faults streams opened journal entries account o.id has.0 in
        record {
          some = has.0;
          passed = subst (λ (f : Flow). (opened o.id).number ≤ number_of Driver f end.log) has.1 (account.right.received.passed o.id);
          flow = has.1;
          to_host = c.to_host;
          to_guest = c.to_guest;
        }

    right_all : (opened : ℕ → Connection) → Account opened → All (IsRightConnection opened end.log journal h) (opened_all (length script) entries)
    right_all opened account i d less =
        right_one opened account _ (all_opened opened (length script) entries account.flows i d less)

    pub right_with : (opened : ℕ → Connection) → Account opened → (t : Totals) (before after : ℕ) → t.broken ≡ driver.broken
        → t.counters.overrun ≡ p.device.overrun → t.counters.dropped ≡ 0 → (1 ≤ t.counters.faults → one_more before ≤ after)
        → IsRightReport script apps entries bytes t opened end.log h before after
    right_with opened account t before after broken overrun dropped counted = record {
      played = run.follows;
      ended = ended;
      rising = account.right.received.rising;
      connections = right_all opened account;
      totals = record { dropped = dropped; overrun = overrun ∙ none_lost.1; broken = broken ∙ none_lost.0; faults = counted };
    }

    pub accounted : (opened : ℕ → Connection) × Account opened
    accounted = run.kept.accounted refl (driver_log end) refl

    pub right_report : (opened : ℕ → Connection) × ((t : Totals) (before after : ℕ) → t.broken ≡ driver.broken
        → t.counters.overrun ≡ p.device.overrun → t.counters.dropped ≡ 0 → (1 ≤ t.counters.faults → one_more before ≤ after)
        → IsRightReport script apps entries bytes t opened end.log h before after)
    right_report = (accounted.0, right_with accounted.0 accounted.1)
