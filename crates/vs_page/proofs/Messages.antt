-- The messages of longer lists of packets begin by those of shorter ones.
use Rattle.std.proofs.{Common.{◌≡◌, ◌&&◌, ℕ, Bool, true, false, if◌then◌else◌, not, List, [], ◌∷◌, ◌++◌, refl, sym, ap, ◌∙◌, subst, append_assoc}, lemmas.List.append-nil}
use Rattle.vs_flow.specs.{Flow.host_asks, Connection.Connection}
use Rattle.vs_header.specs.declared.Kind.{Kind, TheVariants.{Seqpacket, Stream}}
use Rattle.laws_history.specs.{Packets.{bytes, ends_message}, History.{Side, gots, peer, puts}, declared.packet.Packet.Packet}
use Rattle.vs_page.specs.{Messages.{AreFirstOf, MessageEnd, ends_got, ends_of, ends_put, ends_record, form, is_nothing, unfinished, whole_by}, Fair.{IsPrefixOf, instance_from}}
use Rattle.vs_page.{specs.Log.{HasGotAll, Log, Role, flow_got, other_role, side_of, whole_of}, proofs.{Entries.{got_on, on_flow}, Flows.opposite_by, Payload.gots-append}}
use Rattle.vs_page.proofs.{Payload.{instance-append, puts-append}, PayloadLogs.history-append}

more_ends : (b : Bool) (e : MessageEnd) (whole front : List MessageEnd) → AreFirstOf front whole
    → AreFirstOf front (if b then whole ++ e ∷ [] else whole)
more_ends true e whole front rest =
    (rest.0 ++ e ∷ [], ap (λ (es : List MessageEnd). es ++ e ∷ []) rest.1 ∙ append_assoc front rest.0 (e ∷ []))
more_ends false e whole front rest = rest

ends_more : (more ps : List Packet) → AreFirstOf (ends_of ps) (ends_of (more ++ ps))
ends_more [] ps = ([], sym (append-nil (ends_of ps)))
ends_more (p ∷ more) ps =
    more_ends (ends_message p && not (is_nothing (unfinished Seqpacket (more ++ ps) ++ p.payload)))
    (record { at = bytes (p ∷ (more ++ ps)); is_record = ends_record p }) (ends_of (more ++ ps)) (ends_of ps) (ends_more more ps)

ends_from : (side : Side) (k : ℕ) (all more ps : List Packet) → all ≡ more ++ ps
    → AreFirstOf (ends_of (instance_from side k ps)) (ends_of (instance_from side k all))
ends_from side k all more ps is =
    let split = instance-append side k more ps in
    subst (λ (qs : List Packet). AreFirstOf (ends_of (instance_from side k ps)) (ends_of qs))
    (sym (ap (instance_from side k) is ∙ split.1)) (ends_more split.0 (instance_from side k ps))

pub ends_prefix : (role : Role) (mine other : Log) (c : Connection) → HasGotAll mine other
    → AreFirstOf (ends_got role c mine) (ends_put (other_role role) c other)
ends_prefix role mine other c got =
    let front = on_flow (flow_got role) c.flow got.packets.0 in
    subst (λ side. AreFirstOf (ends_got role c mine)
    (ends_of (instance_from side c.number (puts (whole_of (other_role role) c.flow other)))))
    (sym (opposite_by role (host_asks c.flow)))
    (ends_from (peer (side_of role c.flow)) c.number _ front _ (got_on role c.flow mine other got.packets.0 got.packets.1))

pub ends_put_stay : (role : Role) (newer log : Log) (c : Connection) → AreFirstOf (ends_put role c log) (ends_put role c (newer ++ log))
ends_put_stay role newer log c =
    ends_from (side_of role c.flow) c.number _ (puts (whole_of role c.flow newer)) (puts (whole_of role c.flow log))
    (ap puts (history-append role c.flow newer log) ∙ puts-append (whole_of role c.flow newer) (whole_of role c.flow log))

pub ends_got_stay : (role : Role) (newer log : Log) (c : Connection) → AreFirstOf (ends_got role c log) (ends_got role c (newer ++ log))
ends_got_stay role newer log c =
    ends_from (peer (side_of role c.flow)) c.number _ (gots (whole_of role c.flow newer)) (gots (whole_of role c.flow log))
    (ap gots (history-append role c.flow newer log) ∙ gots-append (whole_of role c.flow newer) (whole_of role c.flow log))

-- What packets are on the host's stream.
pub form_more : (kind : Kind) (p : Packet) (ps : List Packet) → form kind (p ∷ ps) ≡ form kind ps ++ whole_by kind (unfinished kind ps) p
form_more Stream p ps = refl
form_more Seqpacket p ps = refl

pub form_prefix : (kind : Kind) (more ps : List Packet) → IsPrefixOf (form kind ps) (form kind (more ++ ps))
form_prefix kind [] ps = ([], sym (append-nil (form kind ps)))
form_prefix kind (p ∷ more) ps =
    let rest = form_prefix kind more ps in
    let added = whole_by kind (unfinished kind (more ++ ps)) p in (
      rest.0 ++ added,
      form_more kind p (more ++ ps) ∙ ap (λ (xs : List ℕ). xs ++ added) rest.1 ∙ append_assoc (form kind ps) rest.0 added,
    )
