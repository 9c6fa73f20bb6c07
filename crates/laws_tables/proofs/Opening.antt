-- What a packet does to the type of the open connection.
use Rattle.std.proofs.{Common.{◌≡◌, ℕ, true, false, ◌&&◌, Option, Some, None, refl, arith}, lemmas.Grind.common_steps}
use Rattle.vs_conn.specs.End.{is_of}
use Rattle.vs_header.specs.{Kind.kind_number, declared.Kind.Kind}
use Rattle.laws_history.specs.{Packets.is_request, Packets.is_rst, declared.packet.Packet.Packet}
use Rattle.vs_page.specs.Open.{kind_got, kind_put}

pub kind_stays : (p : Packet) (before : Option ℕ) → is_request p ≡ false → is_rst p ≡ false → kind_put p before ≡ before
kind_stays p before other plain = rw other (rw plain refl)

pub got_opens : (p : Packet) (before : Option ℕ) → is_request p ≡ true → kind_got p before ≡ Some p.header.kind
got_opens p before asks = rw asks refl

pub rst_asks_none : (p : Packet) → is_rst p ≡ true → is_request p ≡ false
rst_asks_none = grind (arith, common_steps)

pub rst_of : (kind : Kind) (p : Packet) → (is_rst p && is_of kind p.header) ≡ true → (is_rst p ≡ true) × (is_of kind p.header ≡ true)
rst_of = grind (arith, common_steps)

pub got_closes : (kind : Kind) (p : Packet) → (is_rst p && is_of kind p.header) ≡ true → kind_got p (Some (kind_number kind)) ≡ None
got_closes = grind (arith, common_steps)

pub got_stays : (kind : Kind) (p : Packet) → is_request p ≡ false → (is_rst p && is_of kind p.header) ≡ false
    → kind_got p (Some (kind_number kind)) ≡ Some (kind_number kind)
got_stays = grind (arith, common_steps)

pub got_none : (p : Packet) → is_rst p ≡ true → kind_got p None ≡ None
got_none p rst = rw (rst_asks_none p rst) (rw rst refl)
