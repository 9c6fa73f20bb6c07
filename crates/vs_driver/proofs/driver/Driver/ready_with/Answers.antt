use Rattle.std.proofs.Common.{◌≡◌, ◌==◌, length, min, true, false, rules}
use Rattle.vs_page.specs.declared.page.TheConstants.{PAYLOAD_MAX}
use Rattle.vs_driver.proofs.Sending.{lacks_credit, needs_page, sends_none}
use Rattle.vs_driver.proofs.driver.Driver.ready_with.Goals as goal

pub returns-then-len-eq0-clause-ready : goal.returns-then-len-eq0-clause-ready
returns-then-len-eq0-clause-ready c = λ e is.
    let none : (length c.args.bytes.now == 0) ≡ true = search rules in
    sends_none e c.args.credit c.args.bytes.now c.args.self.now none

pub returns-then-credit-eq0-clause-ready : goal.returns-then-credit-eq0-clause-ready
returns-then-credit-eq0-clause-ready c = λ e is.
    let some : (length c.args.bytes.now == 0) ≡ false = search rules in
    let none : (c.args.credit == 0) ≡ true = search rules in
    lacks_credit e c.args.credit c.args.bytes.now c.args.self.now c.no_credit.new.self c.no_credit.result some none
    (c.no_credit.ensures.answer e is) (c.no_credit.ensures.state e is)

pub returns-clause-ready : goal.returns-clause-ready
returns-clause-ready c = λ e is.
    let some : (length c.args.bytes.now == 0) ≡ false = search rules in
    let has : (c.args.credit == 0) ≡ false = search rules in
    let upto : c.min-most.result ≡ min (min c.args.credit PAYLOAD_MAX) (length c.args.bytes.now) = search rules in
    needs_page e c.args.credit c.args.bytes.now c.args.self.now c.args.slot c.min-most.result some has (c.requires.credit e is) is upto
