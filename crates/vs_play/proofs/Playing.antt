-- What a line does on one end of the rings, the host or the moment is a line of the play.
use Rattle.std.proofs.Common.{◌≡◌, ℕ, ◌+◌, min, List, ◌++◌, length, Option, Result, Ok, Err, OnOk, refl, sym, ap, ap₂, subst, ◌∙◌}
use Rattle.vs_ring_list.specs.Ends.{Ends, empty_ends}
use Rattle.vs_driver_parts.specs.{Conversations.{DriverTree, new_of}, State.DriverState}
use Rattle.vs_ring_port.specs.declared.device_ring.Chain.{Chain}
use Rattle.vs_device_parts.specs.{Calls.{DeviceTree, Situation}, Playing.IsItsRing, declared.answers.Grown.Grown}
use Rattle.vs_outside.specs.{Host.HostContents, HostProgram.after_client}
use Rattle.vs_proxy_parts.specs.{State.ProxyState, Turns.{new_proxy, proxy_reset_of, turn_of}, Growing.{after_label_grow, label_at, label_grow_of}}
use Rattle.laws_proxy.specs.Order.{IsInOrder}
use Rattle.vs_report.{specs.{DeviceLines.{growth_text, reset_text, turn_text}, HostLines.{client_text, host_played, ok_text}}, proofs.HostPrograms.{client_opens, host_opens}}
use Rattle.vs_script.specs.{Play.{Event, Around, play_view}, declared.{outside.OutsideLine.OutsideLine, play.PlayLine.PlayLine}, Outside.{Client, Host, Grow, OfHost, Outside}}
use Rattle.vs_script.specs.Outside.{Reset, Tick, Turn}
use Rattle.laws_world.{specs.{Over.{over_both, over_lists}, World.{first_cid, opened_host}}, proofs.StayOpen.StayOpen}
use Rattle.vs_play.specs.{Answer.{base_path, opened_play}, Lines.event_played, Told.{Answers, Drives, Serves}, Ready.{IsDriven, IsOpened, IsReady, IsServed, PlayState, Plays}}
use Rattle.vs_play.{specs.Ready.{shown, world_in}, proofs.{Devices.served_new, Served.{served_host, served_rings}}}
use Rattle.vs_script.specs.Outside as outside
use Rattle.vs_script.specs.Play as script
use Rattle.vs_script.specs.declared.play.PlayLine.TheVariants as lines

-- The play once its driver made a call.
abbrev pub with_driver : PlayState → DriverState → Ends → PlayState
with_driver p s e = record p { driver = s; rings = e }

-- What a conversation of the driver's leaves.
pub device_stays : {A : Type 0} (tree : DriverTree A) (v w : Ends) (x : A) → over_lists tree v ≡ (x, w) → w.device ≡ v.device
device_stays {A} tree v w x played = sym (ap (λ (r : A × Ends). r.1.device) played)

-- What a line leads to, without the journal, and what it prints.
abbrev line_shown : Event → PlayState → PlayState × List ℕ
line_shown said p = let r = event_played said (world_in p) in (shown r.0, r.1)

is_shown : (said : Event) (p new : PlayState) (text text' said_so : List ℕ) → line_shown said p ≡ (new, said_so) → text' ≡ text ++ said_so
    → IsReady new → Plays said p new text text'
is_shown said p new text text' said_so is printed ready = record {
  world = sym (ap (λ (r : PlayState × List ℕ). r.0) is);
  printed = printed ∙ ap (λ t. text ++ t) (sym (ap (λ (r : PlayState × List ℕ). r.1) is));
  ready = ready;
}

-- A conversation of the driver's over the rings.
answers_play : {A : Type 0} (said : Event) (tree : DriverTree (DriverState × A)) (text_of : A → DriverState → List ℕ) (p : PlayState)
    (s : DriverState) (w : Ends) (text text' : List ℕ)
    → line_shown said p ≡ (let r = over_lists tree p.rings in (with_driver p r.0.0 r.1, text_of r.0.1 r.0.0))
    → IsReady p → Answers tree text_of s p.rings w text text' → Plays said p (with_driver p s w) text text'
answers_play {A} said tree text_of p s w text text' means ready a =
    let seen : (DriverState × A) × Ends → PlayState × List ℕ = λ r. (with_driver p r.0.0 r.1, text_of r.0.1 r.0.0) in
    is_shown said p (with_driver p s w) text text' (text_of a.answer s) (means ∙ ap seen a.played) a.printed (record {
      driven = a.driven;
      served = served_rings p.proxy p.rings w p.host (device_stays tree p.rings w (s, a.answer) a.played) ready.served;
    })

-- A line on the driver.
module _ (p : PlayState) (s : DriverState) (w : Ends) (text text' : List ℕ) (ready : IsReady p) where
  pub drives_play : (said : Event) → ((line : Outside) → said ≡ Around line → ⊥) → Drives said p.driver s p.rings w text text'
      → Plays said p (with_driver p s w) text text'
  drives_play (script.Connect port) guest h = answers_play (script.Connect port) _ _ p s w text text' refl ready h
  drives_play (script.Listen port) guest h = answers_play (script.Listen port) _ _ p s w text text' refl ready h
  drives_play (script.Unlisten port) guest h = answers_play (script.Unlisten port) _ _ p s w text text' refl ready h
  drives_play (script.Accept port) guest h = answers_play (script.Accept port) _ _ p s w text text' refl ready h
  drives_play (script.Send id content) guest h = answers_play (script.Send id content) _ _ p s w text text' refl ready h
  drives_play (script.Recv id len) guest h = answers_play (script.Recv id len) _ _ p s w text text' refl ready h
  drives_play (script.Shutdown id bits) guest h = answers_play (script.Shutdown id bits) _ _ p s w text text' refl ready h
  drives_play (script.Grow id alloc) guest h = answers_play (script.Grow id alloc) _ _ p s w text text' refl ready h
  drives_play (script.Close id) guest h = answers_play (script.Close id) _ _ p s w text text' refl ready h
  drives_play (script.State id) guest h = answers_play (script.State id) _ _ p s w text text' refl ready h
  drives_play script.Poll guest h = answers_play script.Poll _ _ p s w text text' refl ready h
  drives_play (Around line) guest h = absurd (guest line refl)

pub no_outside : (line : PlayLine) → ((x : OutsideLine) → line ≡ lines.Outside x → ⊥) → (x : Outside) → play_view line ≡ Around x → ⊥
no_outside (lines.Outside x) never y is = never x refl
no_outside (lines.Connect port) never y is = cc (is)
no_outside (lines.Listen port) never y is = cc (is)
no_outside (lines.Unlisten port) never y is = cc (is)
no_outside (lines.Accept port) never y is = cc (is)
no_outside (lines.Send id content) never y is = cc (is)
no_outside (lines.Recv id len) never y is = cc (is)
no_outside (lines.Shutdown id bits) never y is = cc (is)
no_outside (lines.Grow id alloc) never y is = cc (is)
no_outside (lines.Close id) never y is = cc (is)
no_outside (lines.State id) never y is = cc (is)
no_outside lines.Poll never y is = cc (is)

-- A conversation of the proxy's over the rings and the host.
abbrev pub with_device : PlayState → ProxyState → Ends → HostContents → PlayState
with_device p s e h = record p { proxy = s; rings = e; host = h }

serves_play : {A : Type 0} (said : Event) (tree : DeviceTree (ProxyState × A)) (text_of : A → List ℕ) (p : PlayState) (s : ProxyState) (w : Ends)
    (h : HostContents) (text text' : List ℕ)
    → line_shown said p ≡ (let r = over_both tree p.rings p.host in (with_device p r.0.0 r.1.0 r.1.1, text_of r.0.1))
    → IsReady p → Serves tree text_of s p.rings w p.host h text text' → Plays said p (with_device p s w h) text text'
serves_play {A} said tree text_of p s w h text text' means ready a =
    let seen : (ProxyState × A) × (Ends × HostContents) → PlayState × List ℕ = λ r. (with_device p r.0.0 r.1.0 r.1.1, text_of r.0.1) in
    is_shown said p (with_device p s w h) text text' (text_of a.answer) (means ∙ ap seen a.played) a.printed (record {
      driven = a.driven p.driver ready.driven;
      served = a.served;
    })

-- The clock tells the moment, and stays.
pub turn_plays : (p : PlayState) (now moment : ℕ) (s : ProxyState) (w : Ends) (h : HostContents) (text text' : List ℕ) → now ≡ p.moment
    → moment ≡ p.moment → IsReady p → Serves (turn_of p.rings.lists.size now p.proxy) turn_text s p.rings w p.host h text text'
    → Plays (Around Turn) p (record (with_device p s w h) { moment = moment }) text text'
turn_plays p now moment s w h text text' at still ready serves =
    subst (λ (m : ℕ). Plays (Around Turn) p (record (with_device p s w h) { moment = m }) text text') (sym still)
    (serves_play (Around Turn) _ turn_text p s w h text text' refl ready
    (subst (λ (n : ℕ). Serves (turn_of p.rings.lists.size n p.proxy) turn_text s p.rings w p.host h text text') at serves))

pub reset_plays : (cid : ℕ) (p : PlayState) (s : ProxyState) (w : Ends) (h : HostContents) (text text' : List ℕ) → IsReady p
    → Serves (proxy_reset_of cid p.proxy) reset_text s p.rings w p.host h text text' → Plays (Around (Reset cid)) p (with_device p s w h) text text'
reset_plays cid p s w h text text' ready serves = serves_play (Around (Reset cid)) _ reset_text p s w h text text' refl ready serves

-- The buffer space of a stream's connection is raised.
pub grow_plays : (stream alloc : ℕ) (p : PlayState) (s : ProxyState) (answer : Option Grown) (text text' : List ℕ)
    → answer ≡ label_grow_of (label_at stream p.host) alloc p.proxy → s ≡ after_label_grow (label_at stream p.host) alloc p.proxy
    → ((held : List Chain) → IsItsRing held p.proxy.device → IsItsRing held s.device)
    → ((first : ℕ) (a : Situation) → IsInOrder first p.proxy a → IsInOrder first s a) → IsReady p → text' ≡ text ++ growth_text answer
    → Plays (Around (Grow stream alloc)) p (record p { proxy = s }) text text'
grow_plays stream alloc p s answer text text' is grown ring order ready printed =
    is_shown (Around (Grow stream alloc)) p (record p { proxy = s }) text text' (growth_text answer)
    (ap₂ (λ (x : ProxyState) (a : Option Grown). (record p { proxy = x }, growth_text a)) (sym grown) (sym is)) printed (record {
      driven = ready.driven;
      served = record { chains = ring _ ready.served.chains; order = order _ _ ready.served.order };
    })

-- Time passes.
pub tick_plays : (ms : ℕ) (p : PlayState) (moment : ℕ) (text text' : List ℕ) → moment ≡ min 18446744073709551615 (p.moment + ms)
    → IsReady p → text' ≡ text ++ ok_text
    → Plays (Around (Tick ms)) p (record p { moment = moment }) text text'
tick_plays ms p moment text text' is ready printed = record {
  world = ap (λ x. record p { moment = x }) is;
  printed = printed;
  ready = record { driven = ready.driven; served = ready.served };
}

-- What the host's programs do.
with_host : (said : Event) (p : PlayState) (new : HostContents × List ℕ) (h : HostContents) (text text' : List ℕ)
    → line_shown said p ≡ (record p { host = new.0 }, new.1) → StayOpen p.host new.0 → IsReady p → h ≡ new.0 → text' ≡ text ++ new.1
    → Plays said p (record p { host = h }) text text'
with_host said p new h text text' means opens ready is printed =
    subst (λ (x : HostContents). Plays said p (record p { host = x }) text text') (sym is)
    (is_shown said p (record p { host = new.0 }) text text' new.1 means printed (record {
      driven = ready.driven;
      served = served_host p.proxy p.rings p.host new.0 opens ready.served;
    }))

host_shown : (line : Host) (p : PlayState)
    → line_shown (Around (OfHost line)) p ≡ (record p { host = (host_played line p.host).0 }, (host_played line p.host).1)
host_shown (outside.HostListen port) p = refl
host_shown (outside.HostUnlisten port) p = refl
host_shown (outside.HostWrite stream content) p = refl
host_shown (outside.HostAllow stream n) p = refl
host_shown (outside.HostEnd stream) p = refl
host_shown (outside.HostClosed stream) p = refl
host_shown (outside.HostFail n) p = refl

pub host_plays : (line : Host) (p : PlayState) (h : HostContents) (text text' : List ℕ) → IsReady p → h ≡ (host_played line p.host).0
    → text' ≡ text ++ (host_played line p.host).1 → Plays (Around (OfHost line)) p (record p { host = h }) text text'
host_plays line p h text text' ready is printed =
    with_host (Around (OfHost line)) p (host_played line p.host) h text text' (host_shown line p) (host_opens line p.host) ready is printed

pub client_plays : (p : PlayState) (h : HostContents) (text text' : List ℕ) → IsReady p → h ≡ after_client p.host
    → text' ≡ text ++ client_text (length p.host.streams + 1) → Plays (Around Client) p (record p { host = h }) text text'
client_plays p h text text' ready is printed =
    with_host (Around Client) p (after_client p.host, client_text (length p.host.streams + 1)) h text text' refl (client_opens p.host) ready is printed

-- Both clauses of a call that ended well.
pub on_ok_both : {E P Q R : Type 0} (r : Result (Unit {0}) E) → (P → Q → R) → OnOk r P → OnOk r Q → OnOk r R
on_ok_both (Ok u) f p q = f p q
on_ok_both (Err e) f p q = tt

-- A play just begun, of these parts.
abbrev pub begun : DriverState → ProxyState → Ends → HostContents → PlayState
begun s x w h = record { driver = s; proxy = x; rings = w; host = h; moment = 0 }

own_size : (n : ℕ) (v : Ends) → v ≡ empty_ends n → v ≡ empty_ends v.lists.size
own_size n v empty = subst (λ e. e ≡ empty_ends e.lists.size) (sym empty) refl

begun_same : (n first : ℕ) (v w : Ends) (s : DriverState) (x : ProxyState) (h : HostContents) → v ≡ empty_ends n
    → over_lists (new_of v.lists.size first 1) v ≡ (s, w) → x ≡ new_proxy first_cid base_path → h ≡ opened_host base_path
    → begun s x w h ≡ shown (opened_play n first)
begun_same n first v w s x h empty played made host =
    let there : over_lists (new_of n first 1) (empty_ends n) ≡ (s, w) = subst (λ e. over_lists (new_of e.lists.size first 1) e ≡ (s, w)) empty played in
    let start : ProxyState → HostContents → DriverState × Ends → PlayState = λ y g r. begun r.0 y r.1 g in
    ap (start x h) (sym there)
    ∙ (ap (λ y. start y h (over_lists (new_of n first 1) (empty_ends n))) made
    ∙ ap (λ g. start (new_proxy first_cid base_path) g (over_lists (new_of n first 1) (empty_ends n))) host)

begun_ready : (n first : ℕ) (v w : Ends) (s : DriverState) (x : ProxyState) (h : HostContents) → v ≡ empty_ends n
    → over_lists (new_of v.lists.size first 1) v ≡ (s, w) → x ≡ new_proxy first_cid base_path → IsDriven s w → IsReady (begun s x w h)
begun_ready n first v w s x h empty played made driven = record {
  driven = driven;
  served =
      subst (λ y. IsServed y w h) (sym made)
      (served_rings (new_proxy first_cid base_path) v w h (device_stays (new_of v.lists.size first 1) v w s played)
      (subst (λ e. IsServed (new_proxy first_cid base_path) e h) (sym empty) (served_new n h)));
}

pub opens : (n first : ℕ) (v w : Ends) (s : DriverState) (x : ProxyState) (h : HostContents) (p : PlayState) → v ≡ empty_ends n
    → over_lists (new_of v.lists.size first 1) v ≡ (s, w) → x ≡ new_proxy first_cid base_path → h ≡ opened_host base_path → IsDriven s w
    → p ≡ begun s x w h → IsOpened v.lists.size first p
opens n first v w s x h p empty played made host driven is = subst (IsOpened v.lists.size first) (sym is) (record {
  world = begun_same v.lists.size first v w s x h (own_size n v empty) played made host;
  ready = begun_ready n first v w s x h empty played made driven;
})
