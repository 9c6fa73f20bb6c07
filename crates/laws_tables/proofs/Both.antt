-- Each step at either seat keeps both sound.
use Rattle.std.proofs.{lemmas.Grind.common_steps, Common.{arith, ◌≡◌, ℕ, Bool, true, false, if◌then◌else◌, is_some, List, [], ◌∷◌, refl, sym, ap, ◌∙◌}}
use Rattle.vs_conn.{proofs.Steps.{abort_follows, ask_follows, forward_follows, grow_follows, shut_follows}, specs.{End.{ConnectionEnd, is_refused, verdict_of}, Follows.Follows}}
use Rattle.vs_conn.specs.Follows.{IsTaken}
use Rattle.laws_history.specs.{Packets.{is_request, is_rst}, History.{Side, gots, puts}, declared.packet.Packet.Packet}
use Rattle.vs_header.specs.Kind.{kind_named}
use Rattle.vs_page.specs.{Log.{Driver, Device, HasGotAll, IsNextPacket, Log, Role, flow_got, other_role, side_of, whole_of}, declared.log.LogEntry.TheVariants.{GotPacket, Mark}}
use Rattle.vs_page.{specs.{declared.log.LogEntry.TheVariants.PutPacket, Fair.IsFairLog, Open.is_dropped}, proofs.Entries.next_fair}
use Rattle.vs_limits.specs.declared.TheConstants.{HOST_CID}
use Rattle.laws_tables.specs.Both.{Aborts, Asks, Both, Decides, Decision, Forwards, Grows, Happening, IsSound, MakesReset, MayDecide, MayHappen, MayRun, MayStep, MayStepAll, Opens}
use Rattle.laws_tables.specs.Both.{Pays, PutsEvent, Replies, Seat, Sends, Shuts, Step, Takes, TakesEvent, TakesReset, WantsCredit, after, after_all, after_packet}
use Rattle.laws_tables.specs.{Both.{answered, at, decided, happens, run, start, with_seat}, Steps.{HasEnd, is_overrun, owed_on, payload_on, reply_on, request_on}, Ends.Ends}
use Rattle.laws_tables.{specs.{Ends.{answer_kind, ends_of}, Heard.{IsInOrder, IsOrderedLog, heard_of}, Matches.Matches}, proofs.Keeps.{accepts, asks, changes, drops, has_room}}
use Rattle.laws_tables.proofs.Keeps.{ignores, makes_reset, named_kind, opens, opens_fair, pays, pays_fair, puts_event, refuses, replies, replies_fair, sends, sends_fair}
use Rattle.laws_tables.proofs.{Keeps.{takes, takes_event, takes_reset}, Fair.{fair_ordered, got_formed, got_is_taken, got_not_refused, heard_all}}
use Rattle.laws_tables.proofs.{Fair.{older_ordered, ordered_in_order}, Tables.only_end}

-- One seat by itself.
record IsKept (role : Role) (first : ℕ) (w : Seat) : Type 0 where
  matches : Matches role first w.part w.log
  fair : IsFairLog role w.log

-- What the other seat got of this one.
pub tie_back : (role : Role) (first : ℕ) (b : Both) → IsSound first b → HasGotAll (at (other_role role) b).log (at role b).log
tie_back Driver first b s = s.ties Device
tie_back Device first b s = s.ties Driver

sound_with : (role : Role) (first : ℕ) (w : Seat) (b : Both) → IsKept role first w → HasGotAll w.log (at (other_role role) b).log
    → HasGotAll (at (other_role role) b).log w.log → IsSound first b → IsSound first (with_seat role w b)
sound_with role first w b k here there s = grind (arith, common_steps)

-- A step that puts a packet.
put_keeps : (role : Role) (first : ℕ) (p : Packet) (part : Ends) (b : Both)
    → IsKept role first (record { part = part; log = PutPacket p ∷ (at role b).log })
    → IsSound first b → IsSound first (with_seat role (record { part = part; log = PutPacket p ∷ (at role b).log }) b)
put_keeps role first p part b k s =
    let here = s.ties role in
    let there = tie_back role first b s in
    sound_with role first (record { part = part; log = PutPacket p ∷ (at role b).log }) b k
    (record { packets = here.packets; events = here.events })
    (record { packets = (p ∷ there.packets.0, ap (λ ps. p ∷ ps) there.packets.1); events = there.events }) s

-- One that adds nothing to the log.
still_keeps : (role : Role) (first : ℕ) (part : Ends) (b : Both) → IsKept role first (record { part = part; log = (at role b).log })
    → IsSound first b → IsSound first (with_seat role (record { part = part; log = (at role b).log }) b)
still_keeps role first part b k s =
    sound_with role first (record { part = part; log = (at role b).log }) b k (s.ties role) (tie_back role first b s) s

-- A decision.
decided_follows : (side : Side) (put got : List Packet) (e : ConnectionEnd) (what : Decision) → MayDecide e what → Follows side put got e
    → Follows side put got (decided e what)
decided_follows side put got e (Forwards n) may follows = forward_follows side put got e n follows may
decided_follows side put got e (Shuts bits) may follows = shut_follows side put got e bits follows
decided_follows side put got e Aborts may follows = abort_follows side put got e follows
decided_follows side put got e WantsCredit may follows = ask_follows side put got e follows
decided_follows side put got e (Grows alloc) may follows = grow_follows side put got e alloc follows may.0 may.1 may.2

pub decided_kind : (e : ConnectionEnd) (what : Decision) → (decided e what).kind ≡ e.kind
decided_kind = grind (arith, common_steps)

-- A packet that is taken, in order. It is accepted only with a known type.
abbrev IsKnownIf : Bool → Packet → Type 0
IsKnownIf answer p = answer ≡ true → is_some (kind_named p.header.kind) ≡ true

answer_keeps : (role : Role) (first : ℕ) (p : Packet) (answer : Bool) (part : Ends) (log : Log) (asks : Bool)
    → let f = flow_got role p in
    is_request p ≡ asks → Matches role first part log → is_dropped role part.cid p.header ≡ false → ends_of f part.entries ≡ []
    → is_rst p ≡ false → IsKnownIf answer p
    → IsInOrder (side_of role f) (heard_of role first f log) p → IsTaken p
    → Matches role first (answered asks answer p f part) (GotPacket p ∷ log)
answer_keeps role first p true part log true is m kept none plain known order fits =
    accepts role first (answer_kind p.header.kind) p part log m kept none order fits is (sym (named_kind p.header.kind (known refl)))
answer_keeps role first p false part log true is m kept none plain known order fits = refuses role first p part log m kept none plain order
answer_keeps role first p answer part log false is m kept none plain known order fits =
    refuses role first p part log m kept none plain order

unknown_keeps : (role : Role) (first : ℕ) (p : Packet) (answer : Bool) (part : Ends) (log : Log) (rst : Bool)
    → let f = flow_got role p in
    is_rst p ≡ rst → Matches role first part log → is_dropped role part.cid p.header ≡ false → ends_of f part.entries ≡ [] → IsKnownIf answer p
    → IsInOrder (side_of role f) (heard_of role first f log) p → IsTaken p
    → Matches role first (if rst then part else answered (is_request p) answer p f part) (GotPacket p ∷ log)
unknown_keeps role first p answer part log true is m kept none known order fits = ignores role first p part log m kept none is order
unknown_keeps role first p answer part log false is m kept none known order fits =
    answer_keeps role first p answer part log (is_request p) refl m kept none is known order fits

heard_keeps : (role : Role) (first : ℕ) (p : Packet) (answer : Bool) (part : Ends) (log : Log) (ends : List ConnectionEnd)
    → let f = flow_got role p in
    ends_of f part.entries ≡ ends → Matches role first part log → is_dropped role part.cid p.header ≡ false → IsKnownIf answer p
    → IsInOrder (side_of role f) (heard_of role first f log) p → IsTaken p
    → Matches role first (after_packet role ends p f answer part) (GotPacket p ∷ log)
heard_keeps role first p answer part log [] are m kept known order fits =
    unknown_keeps role first p answer part log (is_rst p) refl m kept are known order fits
heard_keeps role first p answer part log (e ∷ more) are m kept known order fits =
    let none = only_end role first part log (flow_got role p) e more m.flows are in
    takes role first p e part log m kept (are ∙ ap (λ es. e ∷ es) none) order fits

taking_keeps : (role : Role) (first : ℕ) (p : Packet) (answer : Bool) (part : Ends) (log : Log) (dropped : Bool)
    → let f = flow_got role p in
    is_dropped role part.cid p.header ≡ dropped → Matches role first part log → IsKnownIf answer p
    → IsInOrder (side_of role f) (heard_of role first f log) p → IsTaken p
    → Matches role first (if dropped then part else after_packet role (ends_of f part.entries) p f answer part) (GotPacket p ∷ log)
taking_keeps role first p answer part log true is m known order fits = drops role first p part log m is (λ asks. order)
taking_keeps role first p answer part log false is m known order fits =
    heard_keeps role first p answer part log (ends_of (flow_got role p) part.entries) refl m is known order fits

-- Each step of one seat keeps it matching its log, over which packets come in order.
pub seat_keeps : (role : Role) (first : ℕ) (step : Step) (w : Seat) → MayStep role step w → Matches role first w.part w.log
    → let v = after role step w in IsOrderedLog role v.log → Matches role first v.part v.log
seat_keeps role first (Opens f kind) w may m order = opens role first w.part.cid f kind w.part w.log m may
seat_keeps Device first (Asks f kind) w may m order = asks first f kind w.part w.log m may.1
seat_keeps Driver first (Asks f kind) w may m order = let no = may.0 in absurd cc
seat_keeps role first (Sends f e payload) w may m order = sends role first w.part.cid f e payload w.part w.log m may.0 may.1 may.2
seat_keeps role first (Pays f e what) w may m order = pays role first w.part.cid f e what w.part w.log m may.0 may.1
seat_keeps role first (Replies r rest) w may m order = replies role first w.part.cid r rest w.part w.log m may
seat_keeps role first (Decides f e what) w may m order =
    let h = heard_of role first f w.log in
    changes role first f e (decided e what) w.part w.log m may.0 may.1 (decided_kind e what)
    (λ follows. decided_follows (side_of role f) (puts h) (gots h) e what may.2 follows)
seat_keeps role first (Takes p answer) w may m order =
    taking_keeps role first p answer w.part w.log (is_dropped role w.part.cid p.header) refl m may.1
    (ordered_in_order role first p w.log order) may.0
seat_keeps role first (PutsEvent id) w may m order = puts_event role first id w.part w.log m
seat_keeps role first (TakesEvent id) w may m order = takes_event role first id w.part w.log m
seat_keeps role first (MakesReset cid) w may m order = makes_reset role first cid w.part w.log m
seat_keeps Driver first (TakesReset cid) w may m order = takes_reset first cid w.part w.log m
seat_keeps Device first (TakesReset cid) w may m order = absurd cc

step_ordered : (role : Role) (step : Step) (w : Seat) → IsOrderedLog role (after role step w).log → IsOrderedLog role w.log
step_ordered role (Opens f kind) w o = older_ordered role (PutPacket (request_on role w.part.cid f kind)) w.log o
step_ordered role (Sends f e payload) w o = older_ordered role (PutPacket (payload_on role w.part.cid f e payload)) w.log o
step_ordered role (Pays f e what) w o = older_ordered role (PutPacket (owed_on role w.part.cid f e what)) w.log o
step_ordered role (Replies r rest) w o = older_ordered role (PutPacket (reply_on role w.part.cid r)) w.log o
step_ordered role (Takes p answer) w o = older_ordered role (GotPacket p) w.log o
step_ordered role _ w o = o

all_ordered : (role : Role) (steps : List Step) (w : Seat) → IsOrderedLog role (after_all role steps w).log → IsOrderedLog role w.log
all_ordered role [] w o = o
all_ordered role (step ∷ steps) w o = step_ordered role step w (all_ordered role steps (after role step w) o)

pub all_keep : (role : Role) (first : ℕ) (steps : List Step) (w : Seat) → MayStepAll role steps w → Matches role first w.part w.log
    → let v = after_all role steps w in IsOrderedLog role v.log → Matches role first v.part v.log
all_keep role first [] w may m order = m
all_keep role first (step ∷ steps) w may m order =
    let v = after role step w in
    all_keep role first steps v may.1 (seat_keeps role first step w may.0 m (all_ordered role steps v order)) order

-- So where the log is fair.
kept : (role : Role) (first : ℕ) (step : Step) (b : Both) → IsSound first b → MayStep role step (at role b)
    → IsFairLog role (after role step (at role b)).log → IsKept role first (after role step (at role b))
kept role first step b s may fair =
    let log = (after role step (at role b)).log in record {
      matches =
          seat_keeps role first step (at role b) may (s.matches role) (λ f. fair_ordered (side_of role f) (whole_of role f log) (fair f));
      fair = fair;
    }

-- The next packet that the other seat put keeps the log fair.
pub next_is_fair : (role : Role) (first : ℕ) (p : Packet) (b : Both) → IsSound first b
    → IsNextPacket (at role b).log (at (other_role role) b).log p
    → IsFairLog role (GotPacket p ∷ (at role b).log)
next_is_fair role first p b s next =
    next_fair role (at role b).log (at (other_role role) b).log p (s.fair role) (s.fair (other_role role)) (tie_back role first b s) next

take_sound : (role : Role) (first : ℕ) (p : Packet) (answer : Bool) (b : Both) → IsSound first b
    → IsNextPacket (at role b).log (at (other_role role) b).log p → IsSound first (happens role (Takes p answer) b)
take_sound role first p answer b s next =
    let w = at role b in
    let f = flow_got role p in
    let fair = next_is_fair role first p b s next in
    let there = tie_back role first b s in
    sound_with role first (after role (Takes p answer) w) b
    (kept role first (Takes p answer) b s (got_is_taken role p w.log (fair f), λ on. (got_formed role p w.log (fair f)).kind) fair)
    (record { packets = next; events = (s.ties role).events }) (record { packets = there.packets; events = there.events }) s

-- A step on resets.
mark_keeps : (role : Role) (first cid : ℕ) (part : Ends) (b : Both)
    → IsKept role first (record { part = part; log = Mark cid ∷ (at role b).log }) → IsSound first b
    → IsSound first (with_seat role (record { part = part; log = Mark cid ∷ (at role b).log }) b)
mark_keeps role first cid part b k s =
    let here = s.ties role in
    let there = tie_back role first b s in
    sound_with role first (record { part = part; log = Mark cid ∷ (at role b).log }) b k
    (record { packets = here.packets; events = here.events }) (record { packets = there.packets; events = there.events }) s

pub step_keeps : (role : Role) (first : ℕ) (step : Step) (b : Both) → IsSound first b → MayHappen role step b
    → IsSound first (happens role step b)
step_keeps role first (Opens f kind) b s may =
    let w = at role b in
    put_keeps role first (request_on role w.part.cid f kind) _ b (kept role first (Opens f kind) b s may
    (opens_fair role first w.part.cid f kind w.part w.log (s.matches role) (s.fair role) may)) s
step_keeps role first (Asks f kind) b s may = still_keeps role first _ b (kept role first (Asks f kind) b s may (s.fair role)) s
step_keeps role first (Sends f e payload) b s may =
    let w = at role b in
    put_keeps role first (payload_on role w.part.cid f e payload) _ b (kept role first (Sends f e payload) b s may
    (sends_fair role first w.part.cid f e payload w.part w.log (s.matches role) (s.fair role) may.0 may.1 may.2)) s
step_keeps role first (Pays f e what) b s may =
    let w = at role b in
    put_keeps role first (owed_on role w.part.cid f e what) _ b (kept role first (Pays f e what) b s may
    (pays_fair role first w.part.cid f e what w.part w.log (s.matches role) (s.fair role) may.0 may.1)) s
step_keeps role first (Replies r rest) b s may =
    let w = at role b in
    put_keeps role first (reply_on role w.part.cid r) _ b (kept role first (Replies r rest) b s may
    (replies_fair role first w.part.cid r rest w.part w.log (s.matches role) (s.fair role) may)) s
step_keeps role first (Decides f e what) b s may = still_keeps role first _ b (kept role first (Decides f e what) b s may (s.fair role)) s
step_keeps role first (Takes p answer) b s may = take_sound role first p answer b s may
step_keeps role first (PutsEvent id) b s may =
    let here = s.ties role in
    let there = tie_back role first b s in
    sound_with role first (after role (PutsEvent id) (at role b)) b (kept role first (PutsEvent id) b s may (s.fair role))
    (record { packets = here.packets; events = here.events })
    (record { packets = there.packets; events = (id ∷ there.events.0, ap (λ ids. id ∷ ids) there.events.1) }) s
step_keeps role first (TakesEvent id) b s may =
    let there = tie_back role first b s in
    sound_with role first (after role (TakesEvent id) (at role b)) b (kept role first (TakesEvent id) b s may.0 (s.fair role))
    (record { packets = (s.ties role).packets; events = may.1 }) (record { packets = there.packets; events = there.events }) s
step_keeps role first (MakesReset cid) b s may = mark_keeps role first cid _ b (kept role first (MakesReset cid) b s may (s.fair role)) s
step_keeps role first (TakesReset cid) b s may = mark_keeps role first cid _ b (kept role first (TakesReset cid) b s may (s.fair role)) s

pub run_keeps : (first : ℕ) (xs : List Happening) (b : Both) → IsSound first b → MayRun xs b → IsSound first (run xs b)
run_keeps first [] b s may = s
run_keeps first (x ∷ xs) b s may = run_keeps first xs (happens x.role x.step b) (step_keeps x.role first x.step b s may.0) may.1

pub start_sound : (first guest_port host_port : ℕ) → IsSound first (start first guest_port host_port)
start_sound first guest_port host_port = grind (arith, common_steps)

-- What a sound pair says of the next packet.
pub driver_accepts : (first : ℕ) (p : Packet) (e : ConnectionEnd) (b : Both) → IsSound first b → IsNextPacket b.driver.log b.device.log p
    → HasEnd (flow_got Driver p) e b.driver.part → p.header.src_cid ≡ HOST_CID → is_refused (verdict_of e p.header) ≡ false
driver_accepts first p e b s next has host =
    let f = flow_got Driver p in
    got_not_refused Driver first p e b.driver.part b.driver.log (s.matches Driver).flows has (next_is_fair Driver first p b s next f)
    (heard_all first f b.driver.log host)

pub device_has_room : (first : ℕ) (p : Packet) (e : ConnectionEnd) (b : Both) → IsSound first b → IsNextPacket b.device.log b.driver.log p
    → HasEnd (flow_got Device p) e b.device.part → is_overrun (verdict_of e p.header) ≡ false
device_has_room first p e b s next has =
    has_room Device first p e b.device.part b.device.log (s.matches Device) has (next_is_fair Device first p b s next)
