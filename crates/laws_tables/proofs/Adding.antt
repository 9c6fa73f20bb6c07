-- What a packet adds to the payload of connections, where the log is fair with it: only the present connection of its flow gets any.
use Rattle.std.proofs.Common.{◌≡◌, ℕ, ◌+◌, ◌==◌, ◌&&◌, Bool, true, false, cond, List, [], ◌∷◌, ◌++◌, length, refl, sym, ap, subst, ◌∙◌, arith, length-append}
use Rattle.std.proofs.lemmas.{Bool.Decides.nat_tests, Grind.common_steps}
use Rattle.vs_flow.specs.{Connection.Connection, Flow.same_flow, declared.flow.Flow.Flow}
use Rattle.laws_history.specs.{declared.packet.Packet.Packet, Packets.{is_clean_rst, is_request}, Again.count, History.{Answerer, Asker, Got, History, Put, Side, gots, peer, puts}}
use Rattle.vs_page.specs.{Fair.{IsFairLog, asked_by, current, instance_from, number_of, payload_got, payload_of, payload_put}, Log.{Log, Role, and_then, flow_got, flow_put}}
use Rattle.vs_page.{specs.{Log.{history_of, side_of, whole_of}, declared.log.LogEntry.TheVariants.{GotPacket, PutPacket}}, proofs.{Flows.{same_is, same_self}, Present.present_got}}
use Rattle.vs_page.proofs.Present.{present_put}
use Rattle.laws_tables.{specs.Drains.only_on, proofs.Logs.nothing_more}

-- The number of the connection that a packet behind these is of.
abbrev index : Side → Packet → List Packet → ℕ
index Asker p ps = count is_request (p ∷ ps)
index Answerer p ps = count is_clean_rst ps + 1

with_one : (side : Side) (k : ℕ) (p : Packet) (ps : List Packet)
    → instance_from side k (p ∷ ps) ≡ cond (index side p ps == k) (p ∷ instance_from side k ps) (instance_from side k ps)
with_one side k p ps = grind (arith, common_steps)

no_bytes : (xs ys : List ℕ) → xs ≡ xs ++ ys → ys ≡ []
no_bytes xs [] is = refl
no_bytes xs (y ∷ ys) is = let longer = length-append xs (y ∷ ys) in let same = ap length is in absurd (omega (arith, longer, same))

no_more : (b : Bool) (xs bytes : List ℕ) → bytes ≡ [] → xs ≡ xs ++ cond b bytes []
no_more b xs bytes none = grind (arith, common_steps)

payload_with : (b : Bool) (p : Packet) (ps : List Packet) → payload_of (cond b (p ∷ ps) ps) ≡ payload_of ps ++ cond b p.payload []
payload_with b p ps = grind (arith, common_steps)

turned : (a b : ℕ) → (a == b) ≡ (b == a)
turned a b = grind (arith, nat_tests)

-- Where the present connection gets all of the packet's payload, no other gets any.
adds_by : (side : Side) (p : Packet) (ps : List Packet) (now : ℕ) (bytes : List ℕ) → payload_of (instance_from side now ps) ≡ bytes
    → payload_of (instance_from side now (p ∷ ps)) ≡ bytes ++ p.payload → (k : ℕ)
    → payload_of (instance_from side k (p ∷ ps)) ≡ payload_of (instance_from side k ps) ++ cond (k == now) p.payload []
adds_by side p ps now bytes was is k = grind (arith, common_steps, with_one, payload_with, turned, no_bytes, no_more)

-- The number of the present connection stays, but at a REQUEST.
pub asked_still : (side : Side) (p : Packet) (put got : List Packet) → is_request p ≡ false → asked_by side (p ∷ put) got ≡ asked_by side put got
asked_still side p put got plain = grind (arith, common_steps)

pub asked_after : (side : Side) (p : Packet) (put got : List Packet) → is_request p ≡ false → asked_by side put (p ∷ got) ≡ asked_by side put got
asked_after side p put got plain = grind (arith, common_steps)

module _ (role : Role) (p : Packet) (log : Log) (plain : is_request p ≡ false) (was : IsFairLog role log) where
  -- A packet that is put.
  module _ (fair : IsFairLog role (PutPacket p ∷ log)) where
    abbrev at : Flow
    at = flow_put role p

    abbrev side : Side
    side = side_of role at

    abbrev all : History
    all = whole_of role at log

    put_now : payload_of (instance_from side (asked_by side (puts all) (gots all)) (p ∷ puts all)) ≡ payload_of (puts (history_of role at log)) ++ p.payload
    put_now =
        let P : Bool → Type 0 = λ b. let w : History = cond b (Put p ∷ all) all in
        payload_of (instance_from side (asked_by side (puts w) (gots w)) (puts w))
        ≡ payload_of (puts (cond b (and_then (Put p) (history_of role at log)) (history_of role at log))) in
        let Q : Bool → Type 0 = λ b. payload_of (instance_from side (asked_by side (p ∷ puts all) (gots all)) (p ∷ puts all))
        ≡ payload_of (puts (cond b (Put p ∷ []) (Put p ∷ history_of role at log))) in
        let R : ℕ → Type 0 = λ k. payload_of (instance_from side k (p ∷ puts all)) ≡ payload_of (puts (history_of role at log)) ++ p.payload in
        subst R (asked_still side p (puts all) (gots all) plain) (subst Q plain (subst P (same_self at) (present_put role at (PutPacket p ∷ log) (fair at))))

    pub put_adds : (c : Connection) → payload_put role c (PutPacket p ∷ log) ≡ payload_put role c log ++ only_on (current role at log) p.payload c
    put_adds c = by (same_flow c.flow at) refl
      where
        by : (b : Bool) → same_flow c.flow at ≡ b
            → payload_of (instance_from (side_of role c.flow) c.number (puts (cond b (Put p ∷ whole_of role c.flow log) (whole_of role c.flow log))))
            ≡ payload_put role c log ++ cond (b && (c.number == number_of role at log)) p.payload []
        by true is = subst (λ (f : Flow). payload_of (instance_from (side_of role f) c.number (p ∷ puts (whole_of role f log)))
            ≡ payload_of (instance_from (side_of role f) c.number (puts (whole_of role f log))) ++ cond (c.number == number_of role at log) p.payload [])
            (sym (same_is c.flow at is))
            (adds_by side p (puts all) (asked_by side (puts all) (gots all)) (payload_of (puts (history_of role at log)))
            (present_put role at log (was at)) put_now c.number)
        by false is = nothing_more (payload_put role c log)

  -- One that is got.
  module _ (fair : IsFairLog role (GotPacket p ∷ log)) where
    abbrev from : Flow
    from = flow_got role p

    abbrev own : Side
    own = side_of role from

    abbrev passed : History
    passed = whole_of role from log

    got_now : payload_of (instance_from (peer own) (asked_by own (puts passed) (gots passed)) (p ∷ gots passed))
        ≡ payload_of (gots (history_of role from log)) ++ p.payload
    got_now =
        let P : Bool → Type 0 = λ b. let w : History = cond b (Got p ∷ passed) passed in
        payload_of (instance_from (peer own) (asked_by own (puts w) (gots w)) (gots w))
        ≡ payload_of (gots (cond b (and_then (Got p) (history_of role from log)) (history_of role from log))) in
        let Q : Bool → Type 0 = λ b. payload_of (instance_from (peer own) (asked_by own (puts passed) (p ∷ gots passed)) (p ∷ gots passed))
        ≡ payload_of (gots (cond b (Got p ∷ []) (Got p ∷ history_of role from log))) in
        let R : ℕ → Type 0 = λ k. payload_of (instance_from (peer own) k (p ∷ gots passed)) ≡ payload_of (gots (history_of role from log)) ++ p.payload in
        subst R (asked_after own p (puts passed) (gots passed) plain)
        (subst Q plain (subst P (same_self from) (present_got role from (GotPacket p ∷ log) (fair from))))

    pub got_adds : (c : Connection) → payload_got role c (GotPacket p ∷ log) ≡ payload_got role c log ++ only_on (current role from log) p.payload c
    got_adds c = by (same_flow c.flow from) refl
      where
        by : (b : Bool) → same_flow c.flow from ≡ b
            → payload_of (instance_from (peer (side_of role c.flow)) c.number (gots (cond b (Got p ∷ whole_of role c.flow log) (whole_of role c.flow log))))
            ≡ payload_got role c log ++ cond (b && (c.number == number_of role from log)) p.payload []
        by true is = subst (λ (f : Flow). payload_of (instance_from (peer (side_of role f)) c.number (p ∷ gots (whole_of role f log)))
            ≡ payload_of (instance_from (peer (side_of role f)) c.number (gots (whole_of role f log))) ++ cond (c.number == number_of role from log) p.payload [])
            (sym (same_is c.flow from is))
            (adds_by (peer own) p (gots passed) (asked_by own (puts passed) (gots passed)) (payload_of (gots (history_of role from log)))
            (present_got role from log (was from)) got_now c.number)
        by false is = nothing_more (payload_got role c log)

-- A packet without payload adds none.
pub put_nothing : (role : Role) (p : Packet) (log : Log) → p.payload ≡ [] → (c : Connection) → payload_put role c log ≡ payload_put role c (PutPacket p ∷ log)
put_nothing role p log none c = grind (arith, common_steps)

pub got_nothing : (role : Role) (p : Packet) (log : Log) → p.payload ≡ [] → (c : Connection) → payload_got role c log ≡ payload_got role c (GotPacket p ∷ log)
got_nothing role p log none c = grind (arith, common_steps)

-- What was put isn't changed by a packet that is got, nor what was got by one that is put.
pub put_over_got : (role : Role) (p : Packet) (log : Log) (c : Connection) → payload_put role c (GotPacket p ∷ log) ≡ payload_put role c log
put_over_got role p log c = grind (arith, common_steps)

pub got_over_put : (role : Role) (p : Packet) (log : Log) (c : Connection) → payload_got role c (PutPacket p ∷ log) ≡ payload_got role c log
got_over_put role p log c = grind (arith, common_steps)

-- The number of a flow's present connection stays at all packets but REQUESTs.
number_put_by : (side : Side) (p : Packet) (w : History) (b : Bool) → is_request p ≡ false
    → let v : History = cond b (Put p ∷ w) w in asked_by side (puts v) (gots v) ≡ asked_by side (puts w) (gots w)
number_put_by side p w b plain = grind (arith, common_steps)

number_got_by : (side : Side) (p : Packet) (w : History) (b : Bool) → is_request p ≡ false
    → let v : History = cond b (Got p ∷ w) w in asked_by side (puts v) (gots v) ≡ asked_by side (puts w) (gots w)
number_got_by side p w b plain = grind (arith, common_steps)

pub number_put : (role : Role) (p : Packet) (log : Log) (f : Flow) → is_request p ≡ false → number_of role f (PutPacket p ∷ log) ≡ number_of role f log
number_put role p log f plain = number_put_by (side_of role f) p (whole_of role f log) (same_flow f (flow_put role p)) plain

pub number_got : (role : Role) (p : Packet) (log : Log) (f : Flow) → is_request p ≡ false → number_of role f (GotPacket p ∷ log) ≡ number_of role f log
number_got role p log f plain = number_got_by (side_of role f) p (whole_of role f log) (same_flow f (flow_got role p)) plain
