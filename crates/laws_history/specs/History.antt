-- What passed at one end of a connection, and when that is fair. Histories run newest first.
use Rattle.std.specs.Prelude.{◌≡◌, ◌+◌, ◌≤◌, Bool, true, false, ◌&&◌, List, [], ◌∷◌, ◌++◌, Option, Some, None}
use Rattle.vs_header.specs.{Op.op_named, declared.Op.{Op, TheVariants.{Invalid, Request, Response, Rst}}}
use Rattle.laws_history.specs.{declared.packet.Packet.Packet, Packets.{asked_kind, has_both, tells, is_clean_rst, is_piece, is_request, is_response, is_rst, is_rw, message_of}}
use Rattle.laws_history.specs.Packets.{shuts_receive, shuts_send, has, size, bytes, forwarded_by, told_alloc, allowance, IsFormed}
use Rattle.vs_limits.specs.declared.TheConstants.{BUF_ALLOC, BUF_ALLOC_MAX, MESSAGE_MAX}

-- An end put a packet, or got one.
pub data Entry : Type 0 where
  Put : Packet → Entry
  Got : Packet → Entry

abbrev pub History : Type 0
History = List Entry

abbrev pub puts : History → List Packet
puts [] = []
puts (Put p ∷ h) = p ∷ puts h
puts (Got p ∷ h) = puts h

abbrev pub gots : History → List Packet
gots [] = []
gots (Put p ∷ h) = gots h
gots (Got p ∷ h) = p ∷ gots h

-- The end that asks for the connection, and the one that answers.
pub data Side : Type 0 where
  Asker : Side
  Answerer : Side

abbrev pub peer : Side → Side
peer Asker = Answerer
peer Answerer = Asker

-- The REQUEST was put or got, at an end of this side that put and got these.
abbrev pub is_begun : Side → List Packet → List Packet → Bool
is_begun Asker put got = has is_request put
is_begun Answerer put got = has is_request got

-- The RESPONSE was put or got.
abbrev pub is_answered : Side → List Packet → List Packet → Bool
is_answered Asker put got = has is_response got
is_answered Answerer put got = has is_response put

-- The asker begins by one REQUEST. The answerer answers it by one RESPONSE. RST may follow the REQUEST, and all else the RESPONSE.
abbrev pub IsTimely : Side → List Packet → List Packet → Option Op → Type 0
IsTimely side put got None = ⊥
IsTimely side put got (Some Invalid) = ⊥
IsTimely side put got (Some Request) = (side ≡ Asker) × (has is_request put ≡ false)
IsTimely side put got (Some Response) = (side ≡ Answerer) × (is_begun side put got ≡ true) × (has is_response put ≡ false)
IsTimely side put got (Some Rst) = is_begun side put got ≡ true
IsTimely side put got (Some _) = is_answered side put got ≡ true

-- What a packet other than RST keeps to, at an end that put and got these.
pub record IsHonest (put got : List Packet) (p : Packet) : Type 0 where
  -- The payload put, this packet's included, is within the credit that the newest packet got gives.
  pub fits : bytes put + size p ≤ allowance got
  -- A message has at most MESSAGE_MAX bytes.
  pub message : is_piece p ≡ true → message_of put + size p ≤ MESSAGE_MAX
  -- What it says was forwarded is at most the payload got.
  pub forwarded_got : forwarded_by put p ≤ bytes got
  -- The buffer space begins at BUF_ALLOC, never falls, and is at most BUF_ALLOC_MAX.
  pub alloc_first : has tells put ≡ false → p.header.buf_alloc ≡ BUF_ALLOC
  pub alloc_rises : told_alloc put ≤ p.header.buf_alloc
  pub alloc_most : p.header.buf_alloc ≤ BUF_ALLOC_MAX
  -- No payload follows the SHUTDOWN that says 'no more is sent', nothing at all the SHUTDOWNs that say this and 'no more is received'.
  pub not_shut : is_rw p ≡ true → has shuts_send put ≡ false
  pub not_closed : (has shuts_receive put && has shuts_send put) ≡ false
  -- Nothing follows an RST.
  pub not_reset : has is_rst put ≡ false

-- The packets of the side that asks.
abbrev pub of_asker : Side → List Packet → List Packet → List Packet
of_asker Asker put got = put
of_asker Answerer put got = got

-- An end of this side that put and got these may put this packet.
pub record MayPut (side : Side) (put got : List Packet) (p : Packet) : Type 0 where
  pub formed : IsFormed p
  pub timely : IsTimely side put got (op_named p.header.op)
  -- Only a REQUEST begins a connection, and all else has its type.
  pub begun : is_request p ≡ false → is_begun side put got ≡ true
  pub kind : is_request p ≡ false → p.header.kind ≡ asked_kind (of_asker side put got)
  -- An RST has the mark only after both bits were got. Nothing follows a marked RST.
  pub marked : is_clean_rst p ≡ true → has_both got ≡ true
  pub quiet : has is_clean_rst put ≡ false
  pub honest : is_rst p ≡ false → IsHonest put got p

-- An entry is allowed by what stands before it. A packet got is one that the peer may put who put all that was got, and got all that
-- was put.
abbrev pub Allows : Side → History → Entry → Type 0
Allows side before (Put p) = MayPut side (puts before) (gots before) p
Allows side before (Got p) = MayPut (peer side) (gots before) (puts before) p

-- Each entry is allowed by what stands before it.
abbrev pub IsFair : Side → History → Type 0
IsFair side [] = Unit {0}
IsFair side (entry ∷ before) = Allows side before entry × IsFair side before

-- The asker put this REQUEST, or the answerer got it.
abbrev pub IsOpening : Side → Entry → Type 0
IsOpening Asker (Put p) = is_request p ≡ true
IsOpening Asker (Got p) = ⊥
IsOpening Answerer (Put p) = ⊥
IsOpening Answerer (Got p) = is_request p ≡ true

-- All that this end got is what the other put first.
abbrev pub HasGot : History → History → Type 0
HasGot mine other = (rest : List Packet) × (puts other ≡ rest ++ gots mine)

-- The next packet that this end gets of what the other put.
abbrev pub IsNext : History → History → Packet → Type 0
IsNext mine other p = (rest : List Packet) × (puts other ≡ rest ++ p ∷ gots mine)
