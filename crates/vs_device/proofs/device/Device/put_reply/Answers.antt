use Rattle.std.{proofs.Common.{◌≡◌, true, false, Some, List, drop, sym, ap, subst, ◌∙◌}, specs.List.slice_get}
use Rattle.vs_contents.proofs.Leads.{leads_to}
use Rattle.vs_header.specs.declared.Header.{Header}
use Rattle.vs_replies.specs.{Owed.OwedReplies, declared.Reply.Reply}
use Rattle.vs_device_parts.specs.{Calls.Allows, Filling.{filling_of, put_header}, Playing.{situation, MayRun, Runs}, Receiving.{Filling, put_reply, reply_header}}
use Rattle.vs_device_parts.specs.State.{DeviceState}
use Rattle.vs_device.{specs.contracts.device.Device.the_view, proofs.Putting.{reply_put, reply_waits, may_reply}}
use Rattle.vs_device.proofs.device.Device.put_reply.Goals as goal

pub put_header-requires-clause-may : goal.put_header-requires-clause-may
put_header-requires-clause-may g c =
    let host = c.requires.may.0 in
    let faults = c.requires.may.1 in
    let s : DeviceState = c.args.self.now in
    let r : Filling = filling_of s c.args.fill.now in
    let reply : Reply = c.in-Some.reply in
    let from = situation (g.R.DeviceRing.contents c.args.ring.now) host faults in
    let first : Some reply ≡ slice_get s.replies 0 = c.in-Some.ensures ∙ ap (λ (x : DeviceState). slice_get x.replies 0) c.self.view_is in
    let head : c.reply_header-header.result ≡ reply_header reply s = c.reply_header-header.ensures ∙ ap (λ (x : DeviceState). reply_header reply x) c.self.view_is in
    let P : Header → Type 0 = λ h. MayRun (put_header h r) from in
    (host, faults, subst P (sym head) (may_reply r reply first from c.requires.may.2))

pub returns-then-not-put_header-clause-calls : goal.returns-then-not-put_header-clause-calls
returns-then-not-put_header-clause-calls g c = λ host faults.
    let s : DeviceState = c.args.self.now in
    let r : Filling = filling_of s c.args.fill.now in
    let q : Filling = filling_of c.put_header.new.self c.put_header.new.fill in
    let reply : Reply = c.in-Some.reply in
    let from = situation (g.R.DeviceRing.contents c.args.ring.now) host faults in
    let to = situation (g.R.DeviceRing.contents c.put_header.new.ring) host faults in
    let first : Some reply ≡ slice_get s.replies 0 = c.in-Some.ensures ∙ ap (λ (x : DeviceState). slice_get x.replies 0) c.self.view_is in
    let head : c.reply_header-header.result ≡ reply_header reply s = c.reply_header-header.ensures ∙ ap (λ (x : DeviceState). reply_header reply x) c.self.view_is in
    let P : Header → Type 0 = λ h. Runs (put_header h r) from (q, false) to in
    reply_waits r reply first q from to (subst P head (c.if-not-put_header.ensures.calls host faults)) c.if-not-put_header.ensures.over

pub returns-clause-calls : goal.returns-clause-calls
returns-clause-calls g c = λ host faults.
    let d = c.self-2.inside in
    let s : DeviceState = c.args.self.now in
    let r : Filling = filling_of s c.args.fill.now in
    let p : Filling = filling_of c.put_header.new.self c.put_header.new.fill in
    let reply : Reply = c.in-Some.reply in
    let from = situation (g.R.DeviceRing.contents c.args.ring.now) host faults in
    let to = situation (g.R.DeviceRing.contents c.put_header.new.ring) host faults in
    let first : Some reply ≡ slice_get s.replies 0 = c.in-Some.ensures ∙ ap (λ (x : DeviceState). slice_get x.replies 0) c.self.view_is in
    let head : c.reply_header-header.result ≡ reply_header reply s = c.reply_header-header.ensures ∙ ap (λ (x : DeviceState). reply_header reply x) c.self.view_is in
    let P : Header → Type 0 = λ h. Runs (put_header h r) from (p, true) to in
    let put = reply_put r reply first p from to (subst P head (c.if-not-put_header.ensures.calls host faults)) c.if-not-put_header.ensures.over in
    let others : drop 1 c.put_header.new.self.replies ≡ drop 1 s.replies = ap (λ (x : DeviceState). drop 1 x.replies) c.put_header.ensures.others in
    let state : the_view (record d { replies = c.paid.new.self }) ≡ record c.put_header.new.self { replies = drop 1 s.replies } =
    ap (λ (o : OwedReplies). the_view (record d { replies = o })) c.paid.ensures ∙ ap (λ (x : DeviceState). record x { replies = drop 1 x.replies }) c.self-2.view_is
    ∙ ap (λ (xs : List Reply). record c.put_header.new.self { replies = xs }) others in
    leads_to Allows (put_reply r) from to _ _ (ap (λ (x : DeviceState). (record p { state = x }, true)) (sym state)) put
