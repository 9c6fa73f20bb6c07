use Rattle.std.proofs.Common.{◌≡◌, ◌≤◌, true, length}
use Rattle.tests_rings.proofs.stores.publish_pages.Given as goal

-- as many pages are staged as were tried, or fewer where one found no descriptor; no store was made
abbrev pub invariant-loop : goal.invariant-loop
invariant-loop g l = record {
  few : length l.driver.rx.staged ≤ l.counter;
  each : l.all ≡ true → length l.driver.rx.staged ≡ l.counter;
  stores : l.driver.rx.stores ≡ l.fn.driver.rx.stores;
}
