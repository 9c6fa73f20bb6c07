-- Lines of a hostile guest: what it writes into the device's memory, and the turns that the device takes.
use Rattle.std.specs.Prelude.{ℕ, ◌+◌, ◌%◌, ◌==◌, ◌&&◌, ◌||◌, nat_le, nat_lt, if◌then◌else◌, Bool, List, [], ◌∷◌, codes, bytes_eq, Option, Some, None, Result, Ok, Err}
use Rattle.std.specs.List.{list_any}
use Rattle.vs_header.specs.declared.{Header.Header, TheConstants.HEADER_LEN}
use Rattle.vs_layout.specs.{Layout.queue_areas_of, Span.span_end, declared.{entry.Desc.Desc, span.Span.Span}}
use Rattle.vs_ring_port.specs.declared.queue.Queue.{Queue, TheVariants.{Rx, Tx, Event}}
use Rattle.vs_script.specs.{Data.{Content, content_of, size_of}, Field.{Field, after, held, word, keyword, number, number16, number32, number64, content, only, named, tested}}
use Rattle.vs_script.specs.{Outside.{Outside, outside_view, outside_line}, declared.{fault.Why.{Why, TheVariants.{BadWord, BadNumber}}, outside.TheConstants.MAX_FILL}}
use Rattle.vs_script.specs.declared.hostile.{HostileLine.HostileLine, Stage.{Stage, TheVariants.{NoMemory, NoRings, Ready}}, TheConstants.{BASE_ALIGN, MAX_BASE, MIN_MEMORY}}
use Rattle.vs_script.specs.declared.hostile.TheConstants.{MAX_MEMORY, MAX_BEFORE, MAX_LOOK}
use Rattle.vs_script.specs.declared.hostile.HostileLine.TheVariants as code

-- What a hostile guest does, or what happens around it.
pub data Hostile : Type 0 where
  Memory : (memory : Span) → Hostile
  Rings : (n : ℕ) → Hostile
  Write : (addr : ℕ) → (bytes : Content) → Hostile
  WriteDesc : (q : Queue) → (i : ℕ) → (desc : Desc) → Hostile
  Give : (q : Queue) → (at : ℕ) → (head : ℕ) → Hostile
  Index : (q : Queue) → (value : ℕ) → Hostile
  Packet : (addr : ℕ) → (fields : Header) → (bytes : Content) → Hostile
  Before : (access : ℕ) → (addr : ℕ) → (bytes : Content) → Hostile
  Look : (addr : ℕ) → (len : ℕ) → Hostile
  Around : Outside → Hostile

-- The same, as the program holds it.
abbrev pub hostile_view : HostileLine → Hostile
hostile_view (code.Memory memory) = Memory memory
hostile_view (code.Rings n) = Rings n
hostile_view (code.Write addr bytes) = Write addr (content_of bytes)
hostile_view (code.Desc q i desc) = WriteDesc q i desc
hostile_view (code.Give q at head) = Give q at head
hostile_view (code.Index q value) = Index q value
hostile_view (code.Packet addr fields bytes) = Packet addr fields (content_of bytes)
hostile_view (code.Before access addr bytes) = Before access addr (content_of bytes)
hostile_view (code.Look addr len) = Look addr len
hostile_view (code.Outside line) = Around (outside_view line)

-- A line that passes a test of its numbers.
abbrev pub passing : {X : Type 0} → (X → Bool) → Result X Why → Result X Why
passing test (Ok x) = if test x then Ok x else Err BadNumber
passing test (Err why) = Err why

-- BASE: a multiple of 16 up to 2^62.
abbrev pub base : Field ℕ
base words = tested (λ at. at % BASE_ALIGN == 0) (number 0 MAX_BASE words)

-- memory BASE SIZE
abbrev pub memory_line : List (List ℕ) → Result Hostile Why
memory_line words =
    after (keyword (codes "memory") words) (λ _ rest. after (base rest) (λ at behind.
    named (λ len. Memory (record { at = at; len = len })) (only (number MIN_MEMORY MAX_MEMORY) behind)))

-- N of `rings`: 8 to 256, a power of two.
abbrev pub queue_size : Field ℕ
queue_size words = tested (λ n. list_any (λ m. n == m) (8 ∷ 16 ∷ 32 ∷ 64 ∷ 128 ∷ 256 ∷ [])) (number 8 256 words)

-- Whether three rings of n entries from the memory's lowest address on lie in it.
abbrev pub rings_fit : Span → ℕ → Bool
rings_fit memory n = nat_le memory.at MAX_BASE && nat_le (queue_areas_of memory.at n).event.end (span_end memory)

-- rings N, over this memory
abbrev pub rings_line : Span → List (List ℕ) → Result Hostile Why
rings_line memory words =
    after (keyword (codes "rings") words) (λ _ rest. named Rings (passing (rings_fit memory) (only queue_size rest)))

-- Q: rx, tx or event.
abbrev pub queue_named : List ℕ → Option Queue
queue_named w =
    if bytes_eq w (codes "rx") then Some Rx
    else if bytes_eq w (codes "tx") then Some Tx
    else if bytes_eq w (codes "event") then Some Event
    else None

abbrev pub queue : Field Queue
queue words = after (word words) (λ w rest. held BadWord (queue_named w) rest)

-- I or PLACE: a place of a queue of n entries.
abbrev pub place : ℕ → Field ℕ
place n words = tested (λ at. nat_lt at n) (number16 words)

-- write ADDR DATA, behind its name
abbrev pub write_line : List (List ℕ) → Result Hostile Why
write_line words = after (number64 words) (λ addr rest. named (Write addr) (only (content MAX_FILL) rest))

-- ADDR LEN FLAGS NEXT of a descriptor
abbrev pub descriptor : Field Desc
descriptor words =
    after (number64 words) (λ addr w1. after (number32 w1) (λ len w2. after (number16 w2) (λ flags w3. after (number16 w3) (λ next w4.
    Ok (record { addr = addr; len = len; flags = flags; next = next }, w4)))))

-- desc Q I ADDR LEN FLAGS NEXT, behind its name
abbrev pub desc_line : ℕ → List (List ℕ) → Result Hostile Why
desc_line n words =
    after (queue words) (λ q w1. after (place n w1) (λ i w2. named (WriteDesc q i) (only descriptor w2)))

-- give Q PLACE HEAD, behind its name
abbrev pub give_line : ℕ → List (List ℕ) → Result Hostile Why
give_line n words =
    after (queue words) (λ q w1. after (place n w1) (λ at w2. named (Give q at) (only number16 w2)))

-- index Q V, behind its name
abbrev pub index_line : List (List ℕ) → Result Hostile Why
index_line words = after (queue words) (λ q rest. named (Index q) (only number16 rest))

-- SRC DST SPORT DPORT LEN TYPE OP FLAGS ALLOC FWD: the fields of a header, each as wide as there.
abbrev pub header : Field Header
header words =
    after (number64 words) (λ src_cid w1. after (number64 w1) (λ dst_cid w2. after (number32 w2) (λ src_port w3.
    after (number32 w3) (λ dst_port w4. after (number32 w4) (λ len w5. after (number16 w5) (λ kind w6.
    after (number16 w6) (λ op w7. after (number32 w7) (λ flags w8. after (number32 w8) (λ buf_alloc w9.
    after (number32 w9) (λ fwd_cnt w10.
    Ok (
      record {
        src_cid = src_cid;
        dst_cid = dst_cid;
        src_port = src_port;
        dst_port = dst_port;
        len = len;
        kind = kind;
        op = op;
        flags = flags;
        buf_alloc = buf_alloc;
        fwd_cnt = fwd_cnt;
      },
      w10,
    )))))))))))

-- packet ADDR and the fields of a header, then DATA, behind its name
abbrev pub packet_line : List (List ℕ) → Result Hostile Why
packet_line words =
    after (number64 words) (λ addr w1. after (header w1) (λ fields w2. named (Packet addr fields) (only (content MAX_FILL) w2)))

-- before N ADDR DATA, behind its name
abbrev pub before_line : List (List ℕ) → Result Hostile Why
before_line words =
    after (number 1 MAX_BEFORE words) (λ access w1. after (number64 w1) (λ addr w2. named (Before access addr) (only (content MAX_FILL) w2)))

-- look ADDR N, behind its name
abbrev pub look_line : List (List ℕ) → Result Hostile Why
look_line words = after (number64 words) (λ addr rest. named (Look addr) (only (number 1 MAX_LOOK) rest))

-- The lines behind `memory` and `rings`, by their name, where queues have n entries.
abbrev pub guest_line : ℕ → List ℕ → List (List ℕ) → Result Hostile Why
guest_line n name words =
    if bytes_eq name (codes "write") then write_line words
    else if bytes_eq name (codes "desc") then desc_line n words
    else if bytes_eq name (codes "give") then give_line n words
    else if bytes_eq name (codes "index") then index_line words
    else if bytes_eq name (codes "packet") then packet_line words
    else if bytes_eq name (codes "before") then before_line words
    else if bytes_eq name (codes "look") then look_line words
    else named Around (outside_line name words)

-- The bytes of the memory that a line names by their address.
abbrev pub touched : Hostile → Span
touched (Write addr bytes) = record { at = addr; len = size_of bytes }
touched (Packet addr fields bytes) = record { at = addr; len = HEADER_LEN + size_of bytes }
touched (Before access addr bytes) = record { at = addr; len = size_of bytes }
touched (Look addr len) = record { at = addr; len = len }
touched _ = record { at = 0; len = 0 }

-- Whether bytes lie in the memory. No bytes lie anywhere.
abbrev pub is_inside : Span → Span → Bool
is_inside memory bytes = bytes.len == 0 || (nat_le memory.at bytes.at && nat_le (span_end bytes) (span_end memory))

-- A line behind `memory` and `rings`: its bytes lie in the memory.
abbrev pub inside_line : Span → ℕ → List (List ℕ) → Result Hostile Why
inside_line memory n words =
    passing (λ line. is_inside memory (touched line)) (after (word words) (guest_line n))

-- What the words of a line say behind lines that have set up so much.
abbrev pub hostile_line : Stage → List (List ℕ) → Result Hostile Why
hostile_line NoMemory words = memory_line words
hostile_line (NoRings memory) words = rings_line memory words
hostile_line (Ready memory n) words = inside_line memory n words
