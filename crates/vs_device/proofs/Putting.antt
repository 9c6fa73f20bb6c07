-- Packets put on the receive queue: what a packet comes to that was put, or wasn't for want of a chain.
use Rattle.std.{proofs.Common.{◌≡◌, ℕ, ◌+◌, Bool, true, false, not, List, [], ◌∷◌, drop, Option, Some, None, refl, sym, ap, subst, ◌∙◌}, specs.List.slice_get}
use Rattle.vs_contents.{specs.CallTree.{Done, bind}, proofs.{Leads.{leads_of, leads_bind}, Conditions.{may_first, may_rest, may_of}}}
use Rattle.vs_header.specs.declared.Header.{Header}
use Rattle.vs_replies.specs.declared.Reply.{Reply}
use Rattle.vs_ring_port.specs.declared.device_ring.Chain.{Chain}
use Rattle.vs_conn.specs.{End.owes_of, Headers.owed_header, declared.end.Owed.Owed}
use Rattle.vs_flow.specs.Table.{entry_under}
use Rattle.vs_device_parts.specs.{Calls.{DeviceTree, Situation, Allows}, Connections.route_to_guest, Filling.put_header, Playing.{CanMake, MayRun, Runs}, Receiving.{Filling, hold}}
use Rattle.vs_device_parts.specs.{Receiving.{written, put_on, put_packet, reply_header, put_reply, put_reply_of, put_owed, after_paying}, State.{DeviceState, DeviceEntry}}
use Rattle.vs_device.proofs.Trees.{bind_same, bind_assoc}

-- what follows the packet that was put
abbrev finish : (DeviceState → DeviceTree DeviceState) → Filling × Bool → DeviceTree Filling
finish f x = elim x.1 [ true ↦ bind (f x.0.state) (λ s. Done (record x.0 { state = s })) | false ↦ Done x.0 ]

abbrev header_on : Header → Option Chain → Filling → DeviceTree (Filling × Bool)
header_on h None q = Done (q, false)
header_on h (Some chain) q = bind (put_on chain h [] q) (λ p. Done (p, true))

abbrev packet_on : Header → (DeviceState → DeviceTree DeviceState) → Option Chain → Filling → DeviceTree Filling
packet_on h f None q = Done q
packet_on h f (Some chain) q = bind (put_on chain h [] q) (λ p. bind (f p.state) (λ s. Done (record p { state = s })))

finished : (h : Header) (f : DeviceState → DeviceTree DeviceState) (o : Option Chain) (q : Filling) → bind (header_on h o q) (finish f) ≡ packet_on h f o q
finished h f None q = refl
finished h f (Some chain) q = bind_assoc (put_on chain h [] q) (λ p. Done (p, true)) (finish f)

header_opened : (h : Header) (o : Option Chain) (q : Filling)
    → (elim o [ None ↦ Done (q, false) | Some chain ↦ bind (put_on chain h [] q) (λ p. Done (p, true)) ]) ≡ header_on h o q
header_opened h None q = refl
header_opened h (Some chain) q = refl

packet_opened : (h : Header) (f : DeviceState → DeviceTree DeviceState) (o : Option Chain) (q : Filling)
    → (elim o [ None ↦ Done q | Some chain ↦ bind (put_on chain h [] q) (λ p. bind (f p.state) (λ s. Done (record p { state = s }))) ]) ≡ packet_on h f o q
packet_opened h f None q = refl
packet_opened h f (Some chain) q = refl

header_is : (h : Header) (r : Filling) → put_header h r ≡ bind (hold r) (λ q. header_on h q.state.chain q)
header_is h r = bind_same (hold r) _ _ (λ (q : Filling). header_opened h q.state.chain q)

-- a packet without payload is put into the chain that is held then, or waits for one
abbrev pub after_put : Filling → Filling
after_put q = record q { state = record q.state { chain = None }; put = q.put + 1 }

module _ (h : Header) (r q : Filling) (c m : Situation) (holds : Runs (hold r) c q m) where
  pub header_put : (chain : Chain) (t : Situation) → q.state.chain ≡ Some chain → Runs (written chain h []) m tt t → Runs (put_header h r) c (after_put q, true) t
  header_put chain t is writes =
      let next : Filling → DeviceTree (Filling × Bool) = λ x. header_on h x.state.chain x in
      let last : Filling → DeviceTree (Filling × Bool) = λ p. Done (p, true) in
      let put : Runs (put_on chain h [] q) m (after_put q) t = leads_bind Allows (written chain h []) (λ _. Done (after_put q)) m t t tt (after_put q) writes (refl, refl) in
      let P : Option Chain → Type 0 = λ o. Runs (header_on h o q) m (after_put q, true) t in
      let rest : Runs (next q) m (after_put q, true) t = subst P (sym is) (leads_bind Allows (put_on chain h [] q) last m t t (after_put q) (after_put q, true) put (refl, refl)) in
      leads_of Allows _ _ c t (after_put q, true) (header_is h r) (leads_bind Allows (hold r) next c m t q (after_put q, true) holds rest)

  pub header_waits : q.state.chain ≡ None → Runs (put_header h r) c (q, false) m
  header_waits is =
      let next : Filling → DeviceTree (Filling × Bool) = λ x. header_on h x.state.chain x in
      let P : Option Chain → Type 0 = λ o. Runs (header_on h o q) m (q, false) m in
      leads_of Allows _ _ c m (q, false) (header_is h r) (leads_bind Allows (hold r) next c m m q (q, false) holds (subst P (sym is) (refl, refl)))

  pub may_write : (chain : Chain) → q.state.chain ≡ Some chain → MayRun (put_header h r) c → MayRun (written chain h []) m
  may_write chain is may =
      let next : Filling → DeviceTree (Filling × Bool) = λ x. header_on h x.state.chain x in
      let last : Filling → DeviceTree (Filling × Bool) = λ p. Done (p, true) in
      let P : Option Chain → Type 0 = λ o. MayRun (header_on h o q) m in
      let rest : MayRun (header_on h (Some chain) q) m = subst P is (may_rest CanMake Allows (hold r) next c m q (may_of CanMake Allows _ _ c (header_is h r) may) holds) in
      may_first CanMake Allows (written chain h []) (λ _. Done (after_put q)) m (may_first CanMake Allows (put_on chain h [] q) last m rest)

packet_is : (h : Header) (f : DeviceState → DeviceTree DeviceState) (r : Filling) → put_packet h f r ≡ bind (put_header h r) (finish f)
packet_is h f r =
    let header = bind_same (hold r) _ _ (λ (q : Filling). header_opened h q.state.chain q) in
    let packet = bind_same (hold r) _ _ (λ (q : Filling). packet_opened h f q.state.chain q) in
    packet ∙ sym (ap (λ (t : DeviceTree (Filling × Bool)). bind t (finish f)) header ∙ bind_assoc (hold r) (λ q. header_on h q.state.chain q) (finish f)
    ∙ bind_same (hold r) (λ q. bind (header_on h q.state.chain q) (finish f)) (λ q. packet_on h f q.state.chain q) (λ q. finished h f q.state.chain q))

module _ (h : Header) (f : DeviceState → DeviceTree DeviceState) (r : Filling) where
  packet_put : (p : Filling) (s : DeviceState) (c m t : Situation) → Runs (put_header h r) c (p, true) m → Runs (f p.state) m s t → Runs (put_packet h f r) c (record p { state = s }) t
  packet_put p s c m t first rest =
      let end : Runs (finish f (p, true)) m (record p { state = s }) t =
      leads_bind Allows (f p.state) (λ (u : DeviceState). Done (record p { state = u })) m t t s (record p { state = s }) rest (refl, refl) in
      leads_of Allows _ _ c t (record p { state = s }) (packet_is h f r) (leads_bind Allows (put_header h r) (finish f) c m t (p, true) (record p { state = s }) first end)

  packet_not : (q : Filling) (c m : Situation) → Runs (put_header h r) c (q, false) m → Runs (put_packet h f r) c q m
  packet_not q c m first = leads_of Allows _ _ c m q (packet_is h f r) (leads_bind Allows (put_header h r) (finish f) c m m (q, false) q first (refl, refl))

  may_header : (c : Situation) → MayRun (put_packet h f r) c → MayRun (put_header h r) c
  may_header c may = may_first CanMake Allows (put_header h r) (finish f) c (may_of CanMake Allows _ _ c (packet_is h f r) may)

  may_after : (p : Filling) (c m : Situation) → MayRun (put_packet h f r) c → Runs (put_header h r) c (p, true) m → MayRun (f p.state) m
  may_after p c m may first =
      may_first CanMake Allows (f p.state) (λ (u : DeviceState). Done (record p { state = u })) m
      (may_rest CanMake Allows (put_header h r) (finish f) c m (p, true) (may_of CanMake Allows _ _ c (packet_is h f r) may) first)

-- where it goes on, a chain was there
abbrev gone_on : Filling → DeviceTree (Filling × Bool)
gone_on q = Done (q, not q.over)

module _ (h : Header) (f : DeviceState → DeviceTree DeviceState) (r : Filling) where
  goes_on : (p : Filling) (s : DeviceState) (c m t : Situation) → Runs (put_header h r) c (p, true) m → p.over ≡ false → Runs (f p.state) m s t
      → Runs (bind (put_packet h f r) gone_on) c (record p { state = s }, true) t
  goes_on p s c m t first over rest =
      let q : Filling = record p { state = s } in
      leads_bind Allows (put_packet h f r) gone_on c t t q (q, true) (packet_put h f r p s c m t first rest) (ap (λ (b : Bool). (q, not b)) over, refl)

  stops : (q : Filling) (c m : Situation) → Runs (put_header h r) c (q, false) m → q.over ≡ true → Runs (bind (put_packet h f r) gone_on) c (q, false) m
  stops q c m first over = leads_bind Allows (put_packet h f r) gone_on c m m q (q, false) (packet_not h f r q c m first) (ap (λ (b : Bool). (q, not b)) over, refl)

-- the oldest owed reply
head_of : (xs : List Reply) (x : Reply) → Some x ≡ slice_get xs 0 → xs ≡ x ∷ drop 1 xs
head_of [] x is = absurd (cc)
head_of (y ∷ ys) x is = let same : x ≡ y = cc in ap (λ (z : Reply). z ∷ ys) (sym same)

module _ (r : Filling) (reply : Reply) (first : Some reply ≡ slice_get r.state.replies 0) where
  abbrev h : Header
  h = reply_header reply r.state

  abbrev without_first : DeviceState → DeviceTree DeviceState
  without_first s = Done (record s { replies = drop 1 r.state.replies })

  replies_are : put_reply r ≡ bind (put_packet h without_first r) gone_on
  replies_are = ap (λ (xs : List Reply). put_reply_of xs r) (head_of r.state.replies reply first)

  pub reply_put : (p : Filling) (c m : Situation) → Runs (put_header h r) c (p, true) m → p.over ≡ false
      → Runs (put_reply r) c (record p { state = record p.state { replies = drop 1 r.state.replies } }, true) m
  reply_put p c m put over =
      let s : DeviceState = record p.state { replies = drop 1 r.state.replies } in
      leads_of Allows _ _ c m (record p { state = s }, true) replies_are (goes_on h without_first r p s c m m put over (refl, refl))

  pub reply_waits : (q : Filling) (c m : Situation) → Runs (put_header h r) c (q, false) m → q.over ≡ true → Runs (put_reply r) c (q, false) m
  reply_waits q c m put over = leads_of Allows _ _ c m (q, false) replies_are (stops h without_first r q c m put over)

  pub may_reply : (c : Situation) → MayRun (put_reply r) c → MayRun (put_header h r) c
  may_reply c may = may_header h without_first r c (may_first CanMake Allows (put_packet h without_first r) gone_on c (may_of CanMake Allows _ _ c replies_are may))

-- the packet that a connection owes
module _ (r : Filling) (slot : ℕ) (e : DeviceEntry) (what : Owed) (found : entry_under r.state.table slot ≡ Some e) (owes : owes_of e.value.end ≡ Some what) where
  abbrev owed : Header
  owed = owed_header e.value.end (route_to_guest r.state.cid e.flow) what

  owed_is : put_owed slot r ≡ bind (put_packet owed (after_paying what e) r) gone_on
  owed_is = rw (found, owes, put_owed) refl

  pub owed_put : (p : Filling) (s : DeviceState) (c m t : Situation) → Runs (put_header owed r) c (p, true) m → p.over ≡ false → Runs (after_paying what e p.state) m s t
      → Runs (put_owed slot r) c (record p { state = s }, true) t
  owed_put p s c m t put over rest = leads_of Allows _ _ c t (record p { state = s }, true) owed_is (goes_on owed (after_paying what e) r p s c m t put over rest)

  pub owed_waits : (q : Filling) (c m : Situation) → Runs (put_header owed r) c (q, false) m → q.over ≡ true → Runs (put_owed slot r) c (q, false) m
  owed_waits q c m put over = leads_of Allows _ _ c m (q, false) owed_is (stops owed (after_paying what e) r q c m put over)

  pub may_owed : (c : Situation) → MayRun (put_owed slot r) c → MayRun (put_header owed r) c
  may_owed c may = may_header owed (after_paying what e) r c (may_first CanMake Allows (put_packet owed (after_paying what e) r) gone_on c (may_of CanMake Allows _ _ c owed_is may))

  pub may_pay : (p : Filling) (c m : Situation) → MayRun (put_owed slot r) c → Runs (put_header owed r) c (p, true) m → MayRun (after_paying what e p.state) m
  may_pay p c m may put =
      may_after owed (after_paying what e) r p c m (may_first CanMake Allows (put_packet owed (after_paying what e) r) gone_on c (may_of CanMake Allows _ _ c owed_is may)) put
