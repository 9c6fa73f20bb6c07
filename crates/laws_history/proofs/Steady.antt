-- What packets say without the plain RSTs among them.
use Rattle.std.proofs.{Common.{◌≡◌, Bool, true, false, ◌||◌, if◌then◌else◌, List, [], ◌∷◌, refl, sym, ap, ◌∙◌, arith, ◌⊎◌}, lemmas.Grind.common_steps}
use Rattle.vs_header.specs.Op.{op_named}
use Rattle.laws_history.specs.{declared.packet.Packet.Packet, Again.{IsClean, MayPutNow}, Beside.{is_plain_rst, steady}, History.{Answerer, Asker, IsHonest, IsTimely, MayPut, Side, is_begun, of_asker}}
use Rattle.laws_history.specs.Packets.{IsFormed, asked_kind, bytes, has, is_clean_rst, is_request, is_response, is_rst, message_of, shuts_receive, shuts_send, size, tells, told_alloc, told_forwarded}

-- A test that no plain RST passes says the same without them.
has_step : (test : Packet → Bool) (p : Packet) (ps : List Packet) (b : Bool) → is_plain_rst p ≡ b → (b ≡ true → test p ≡ false)
    → has test (steady ps) ≡ has test ps → has test (steady (p ∷ ps)) ≡ has test (p ∷ ps)
has_step test p ps true is never rest = rw is (rw (never refl) rest)
has_step test p ps false is never rest = rw is (ap (λ b. test p || b) rest)

pub has_steady : (test : Packet → Bool) → ((p : Packet) → is_plain_rst p ≡ true → test p ≡ false) → (ps : List Packet)
    → has test (steady ps) ≡ has test ps
has_steady test never [] = refl
has_steady test never (p ∷ ps) = has_step test p ps (is_plain_rst p) refl (never p) (has_steady test never ps)

pub no_request : (p : Packet) → is_plain_rst p ≡ true → is_request p ≡ false
no_request = grind (arith, common_steps)

no_response : (p : Packet) → is_plain_rst p ≡ true → is_response p ≡ false
no_response = grind (arith, common_steps)

pub no_mark : (p : Packet) → is_plain_rst p ≡ true → is_clean_rst p ≡ false
no_mark = grind (arith, common_steps)

no_receive : (p : Packet) → is_plain_rst p ≡ true → shuts_receive p ≡ false
no_receive = grind (arith, common_steps)

no_send : (p : Packet) → is_plain_rst p ≡ true → shuts_send p ≡ false
no_send = grind (arith, common_steps)

no_credit : (p : Packet) → is_plain_rst p ≡ true → tells p ≡ false
no_credit = grind (arith, common_steps)

-- So do they, of all that the rules read.
pub record Alike (ps qs : List Packet) : Type 0 where
  pub request : has is_request qs ≡ has is_request ps
  pub response : has is_response qs ≡ has is_response ps
  pub clean : has is_clean_rst qs ≡ has is_clean_rst ps
  pub receive : has shuts_receive qs ≡ has shuts_receive ps
  pub send : has shuts_send qs ≡ has shuts_send ps
  pub credit : has tells qs ≡ has tells ps
  pub reset : has is_rst ps ≡ false → has is_rst qs ≡ false
  pub forwarded : told_forwarded qs ≡ told_forwarded ps
  pub alloc : told_alloc qs ≡ told_alloc ps
  pub message : message_of qs ≡ message_of ps
  pub kind : asked_kind qs ≡ asked_kind ps
  pub payload : bytes qs ≡ bytes ps

reset_steady : (ps : List Packet) → has is_rst ps ≡ false → has is_rst (steady ps) ≡ false
reset_steady [] none = refl
reset_steady (p ∷ ps) none =
    let rest : has is_rst ps ≡ false → has is_rst (steady ps) ≡ false = reset_steady ps in grind (arith, common_steps)

forwarded_steady : (ps : List Packet) → told_forwarded (steady ps) ≡ told_forwarded ps
forwarded_steady [] = refl
forwarded_steady (p ∷ ps) = let rest = forwarded_steady ps in grind (arith, common_steps)

pub alloc_steady : (ps : List Packet) → told_alloc (steady ps) ≡ told_alloc ps
alloc_steady [] = refl
alloc_steady (p ∷ ps) = let rest = alloc_steady ps in grind (arith, common_steps)

message_steady : (ps : List Packet) → message_of (steady ps) ≡ message_of ps
message_steady [] = refl
message_steady (p ∷ ps) = let rest = message_steady ps in grind (arith, common_steps)

none_asked : (ps : List Packet) → has is_request ps ≡ false → asked_kind ps ≡ 0
none_asked [] none = refl
none_asked (p ∷ ps) none = grind (arith, common_steps, none)

pub kind_stays : (p : Packet) (ps : List Packet) → is_request p ≡ false → asked_kind (p ∷ ps) ≡ asked_kind ps
kind_stays p ps other = by (has is_request ps) refl
  where
    by : (b : Bool) → has is_request ps ≡ b → asked_kind (p ∷ ps) ≡ asked_kind ps
    by true is = rw is refl
    by false is = rw is (rw other (sym (none_asked ps is)))

kind_by : (p : Packet) (ps : List Packet) (b : Bool) → is_plain_rst p ≡ b → asked_kind (steady ps) ≡ asked_kind ps
    → asked_kind (steady (p ∷ ps)) ≡ asked_kind (p ∷ ps)
kind_by p ps true is rest = rw is (rest ∙ sym (kind_stays p ps (no_request p is)))
kind_by p ps false is rest =
    let same = has_steady is_request no_request ps in
    rw is (ap (λ b. if b then asked_kind (steady ps) else if is_request p then p.header.kind else 0) same
    ∙ ap (λ n. if has is_request ps then n else if is_request p then p.header.kind else 0) rest)

pub kind_steady : (ps : List Packet) → asked_kind (steady ps) ≡ asked_kind ps
kind_steady [] = refl
kind_steady (p ∷ ps) = kind_by p ps (is_plain_rst p) refl (kind_steady ps)

abbrev pub AllFormed : List Packet → Type 0
AllFormed [] = Unit {0}
AllFormed (p ∷ ps) = IsFormed p × AllFormed ps

no_bytes : (p : Packet) → is_plain_rst p ≡ true → IsFormed p → size p ≡ 0
no_bytes = grind (arith, common_steps)

bytes_steady : (ps : List Packet) → AllFormed ps → bytes (steady ps) ≡ bytes ps
bytes_steady [] formed = refl
bytes_steady (p ∷ ps) formed = let rest = bytes_steady ps formed.1 in let none = no_bytes p in grind (arith, common_steps, formed.0)

pub alike : (ps : List Packet) → AllFormed ps → Alike ps (steady ps)
alike ps formed = record {
  request = has_steady is_request no_request ps;
  response = has_steady is_response no_response ps;
  clean = has_steady is_clean_rst no_mark ps;
  receive = has_steady shuts_receive no_receive ps;
  send = has_steady shuts_send no_send ps;
  credit = has_steady tells no_credit ps;
  reset = reset_steady ps;
  forwarded = forwarded_steady ps;
  alloc = alloc_steady ps;
  message = message_steady ps;
  kind = kind_steady ps;
  payload = bytes_steady ps formed;
}

-- What may be put by these rules may be put by the same without plain RSTs.
honest_alike : (put got put' got' : List Packet) (p : Packet) → Alike put put' → Alike got got' → IsHonest put got p → IsHonest put' got' p
honest_alike put got put' got' p a b h = grind (arith, common_steps)

begun_alike : (side : Side) (put got put' got' : List Packet) → Alike put put' → Alike got got' → is_begun side put' got' ≡ is_begun side put got
begun_alike Asker put got put' got' a b = a.request
begun_alike Answerer put got put' got' a b = b.request

asker_alike : (side : Side) (put got put' got' : List Packet) → Alike put put' → Alike got got'
    → asked_kind (of_asker side put' got') ≡ asked_kind (of_asker side put got)
asker_alike Asker put got put' got' a b = a.kind
asker_alike Answerer put got put' got' a b = b.kind

timely_alike : (side : Side) (put got put' got' : List Packet) (p : Packet) → Alike put put' → Alike got got'
    → IsTimely side put got (op_named p.header.op) → IsTimely side put' got' (op_named p.header.op)
timely_alike = grind (arith, common_steps)

may_alike : (side : Side) (put got put' got' : List Packet) (p : Packet) → Alike put put' → Alike got got' → MayPut side put got p
    → MayPut side put' got' p
may_alike side put got put' got' p a b m = grind (arith, common_steps)

opens_alike : (put got put' got' : List Packet) → Alike put put' → Alike got got' → (put ≡ [] → put' ≡ []) → (got ≡ [] → got' ≡ [])
    → ((put ≡ []) × (got ≡ [])) ⊎ IsClean put got → ((put' ≡ []) × (got' ≡ [])) ⊎ IsClean put' got'
opens_alike x0 x1 x2 x3 x4 x5 x6 x7 x8 = grind (arith, common_steps)

-- The same of the present connection.
pub may_steady : (side : Side) (put got : List Packet) (p : Packet) → AllFormed put → AllFormed got → MayPutNow side put got p
    → MayPutNow side (steady put) (steady got) p
may_steady side put got p formed_put formed_got m =
    let a = alike put formed_put in
    let b = alike got formed_got in
    record {
      opens = λ e. (let o = m.opens e in (
        opens_alike put got (steady put) (steady got) a b (λ is. ap steady is) (λ is. ap steady is) o.0,
        o.1,
      ));
      goes_on = λ e. may_alike side put got (steady put) (steady got) p a b (m.goes_on e);
    }

pub now_formed : (side : Side) (put got : List Packet) (p : Packet) → MayPutNow side put got p → IsFormed p
now_formed side put got p m = grind (arith, common_steps)
