-- Lines on what surrounds the guest's driver: the device, the moment, and the programs of the host.
use Rattle.std.specs.Prelude.{ℕ, if◌then◌else◌, List, codes, bytes_eq, Result, Err}
use Rattle.vs_script.specs.declared.{fault.Why.{Why, TheVariants.BadWord}, outside.{HostLine.HostLine, TheConstants.{MAX_FILL, MAX_GROW, MAX_TICK, MAX_ALLOW, MAX_FAIL}}}
use Rattle.vs_script.specs.{declared.outside.OutsideLine.OutsideLine, Data.{Content, content_of}, Field.{after, ending, word, number, port, id, content, only, named}}
use Rattle.vs_limits.specs.declared.TheConstants.{GUEST_CID_MIN, GUEST_CID_MAX}
use Rattle.vs_script.specs.declared.outside.HostLine.TheVariants as host
use Rattle.vs_script.specs.declared.outside.OutsideLine.TheVariants as outside

-- What programs of the host do.
pub data Host : Type 0 where
  HostListen : (port : ℕ) → Host
  HostUnlisten : (port : ℕ) → Host
  HostWrite : (stream : ℕ) → (bytes : Content) → Host
  HostAllow : (stream : ℕ) → (n : ℕ) → Host
  HostEnd : (stream : ℕ) → Host
  HostClosed : (stream : ℕ) → Host
  HostFail : (n : ℕ) → Host

-- The device's turn, a transport reset, time that passes, a client that connects, a connection's buffer space that the device raises, or what
-- programs of the host do.
pub data Outside : Type 0 where
  Turn : Outside
  Reset : (cid : ℕ) → Outside
  Tick : (ms : ℕ) → Outside
  Client : Outside
  Grow : (stream : ℕ) → (alloc : ℕ) → Outside
  OfHost : Host → Outside

-- The same, as the program holds them.
abbrev pub host_view : HostLine → Host
host_view (host.Listen port) = HostListen port
host_view (host.Unlisten port) = HostUnlisten port
host_view (host.Write stream bytes) = HostWrite stream (content_of bytes)
host_view (host.Allow stream n) = HostAllow stream n
host_view (host.End stream) = HostEnd stream
host_view (host.Closed stream) = HostClosed stream
host_view (host.Fail n) = HostFail n

abbrev pub outside_view : OutsideLine → Outside
outside_view outside.Turn = Turn
outside_view (outside.Reset cid) = Reset cid
outside_view (outside.Tick ms) = Tick ms
outside_view outside.Client = Client
outside_view (outside.Grow stream alloc) = Grow stream alloc
outside_view (outside.Host line) = OfHost (host_view line)

-- host write H DATA, behind `write`
abbrev pub host_write : List (List ℕ) → Result Host Why
host_write words = after (id words) (λ stream rest. after (content MAX_FILL rest) (λ bytes behind. ending (HostWrite stream bytes) behind))

-- host allow H N, behind `allow`
abbrev pub host_allow : List (List ℕ) → Result Host Why
host_allow words = after (id words) (λ stream rest. named (HostAllow stream) (only (number 0 MAX_ALLOW) rest))

-- The lines that begin with `host` and aren't on ports, by the word behind it.
abbrev pub stream_line : List ℕ → List (List ℕ) → Result Host Why
stream_line act words =
    if bytes_eq act (codes "write") then host_write words
    else if bytes_eq act (codes "allow") then host_allow words
    else if bytes_eq act (codes "end") then named HostEnd (only id words)
    else if bytes_eq act (codes "closed") then named HostClosed (only id words)
    else if bytes_eq act (codes "fail") then named HostFail (only (number 1 MAX_FAIL) words)
    else Err BadWord

-- The lines that begin with `host` and tell of a program, by the word behind it.
abbrev pub host_line : List ℕ → List (List ℕ) → Result Host Why
host_line act words =
    if bytes_eq act (codes "listen") then named HostListen (only port words)
    else if bytes_eq act (codes "unlisten") then named HostUnlisten (only port words)
    else stream_line act words

-- grow H N, and the lines on programs, behind `host`.
abbrev pub around_host : List ℕ → List (List ℕ) → Result Outside Why
around_host act words =
    if bytes_eq act (codes "grow") then after (id words) (λ stream rest. named (Grow stream) (only (number 1 MAX_GROW) rest))
    else named OfHost (host_line act words)

-- turn, reset CID, tick MS, client, and the lines of the host, by their name.
abbrev pub outside_line : List ℕ → List (List ℕ) → Result Outside Why
outside_line name words =
    if bytes_eq name (codes "turn") then ending Turn words
    else if bytes_eq name (codes "reset") then named Reset (only (number GUEST_CID_MIN GUEST_CID_MAX) words)
    else if bytes_eq name (codes "tick") then named Tick (only (number 0 MAX_TICK) words)
    else if bytes_eq name (codes "client") then ending Client words
    else if bytes_eq name (codes "host") then after (word words) around_host
    else Err BadWord
