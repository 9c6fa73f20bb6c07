-- The command that words ask for.
use Rattle.std.specs.Prelude.{◌≡◌, ◌⊎◌, ℕ, ◌≤◌, ◌&&◌, nat_le, if◌then◌else◌, List, [], ◌∷◌, length, codes, bytes_eq, drop, Option, Some, None, option_map, option_and_then}
use Rattle.vs_limits.specs.declared.TheConstants.{FIRST_PORT, LAST_PORT}
use Rattle.vs_uds.specs.declared.path.TheConstants.{BASE_MAX}
use Rattle.vs_words.specs.{Numbers.number_in, Options.{Given, options_of, value_of}, declared.command.Rings.Rings}
use Rattle.vs_words.specs.declared.command.Command as code
use Rattle.vs_words.specs.declared.command.Command.TheVariants as variant
use Rattle.vs_words.specs.declared.command.Rings.TheVariants as rings

pub data Command : Type 0 where
  -- a play over rings of that kind, with so many pages of each queue, whose guest gives ports from the first one on
  Play : (kind : Rings) → (queue first : ℕ) → Command
  -- a run of apps: the base path of the host's sockets, how many pages each queue has, after how many steps in a row an app gives up, and
  -- the guest's first port
  Run : (base : List ℕ) → (queue idle first : ℕ) → Command
  -- a hostile guest's run
  Hostile : Command
  -- a load: the number that its bytes begin from, how many apps there are, how many bytes each exchanges, and the pages of each queue
  Load : (number : ℕ) → (conns : ℕ) → (bytes : ℕ) → (queue : ℕ) → Command
  -- a client: the base path that it dials, the port that it asks for, and for how many steps in a row it waits
  Peer : (base : List ℕ) → (port : ℕ) → (idle : ℕ) → Command

-- The same, as the program holds it.
abbrev pub command_view : code.Command → Command
command_view (variant.Play kind queue first) = Play kind queue first
command_view (variant.Run base queue idle first) = Run base.now queue idle first
command_view variant.Hostile = Hostile
command_view (variant.Load number conns bytes queue) = Load number conns bytes queue
command_view (variant.Peer base port idle) = Peer base.now port idle

-- `--rings KIND`, of which lists are the default
abbrev pub rings_named : List ℕ → Option Rings
rings_named word =
    if bytes_eq word (codes "list") then Some rings.List
    else if bytes_eq word (codes "plain") then Some rings.Plain
    else if bytes_eq word (codes "shared") then Some rings.Shared
    else None

abbrev pub rings_of : Option (List ℕ) → Option Rings
rings_of None = Some rings.List
rings_of (Some word) = rings_named word

-- `--queue N`, a power of two from 8 to 256; 64 is the default
abbrev pub queue_named : List ℕ → Option ℕ
queue_named word =
    if bytes_eq word (codes "8") then Some 8
    else if bytes_eq word (codes "16") then Some 16
    else if bytes_eq word (codes "32") then Some 32
    else if bytes_eq word (codes "64") then Some 64
    else if bytes_eq word (codes "128") then Some 128
    else if bytes_eq word (codes "256") then Some 256
    else None

abbrev pub IsQueueSize : ℕ → Type 0
IsQueueSize n = (n ≡ 8) ⊎ (n ≡ 16) ⊎ (n ≡ 32) ⊎ (n ≡ 64) ⊎ (n ≡ 128) ⊎ (n ≡ 256)

-- A base path has 1 to 90 bytes.
abbrev pub IsBase : List ℕ → Type 0
IsBase base = (1 ≤ length base) × (length base ≤ BASE_MAX)

-- A guest's ports have numbers of their own.
abbrev pub IsFirst : ℕ → Type 0
IsFirst port = (FIRST_PORT ≤ port) × (port ≤ LAST_PORT)

-- What a command takes is in its range: the size of a queue, the length of a base path, the guest's first port, how many apps and bytes a
-- load has.
abbrev pub IsInRange : code.Command → Type 0
IsInRange (variant.Play kind queue first) = IsQueueSize queue × IsFirst first
IsInRange (variant.Run base queue idle first) = IsBase base.now × IsQueueSize queue × IsFirst first
IsInRange (variant.Load number conns bytes queue) = (1 ≤ conns) × (conns ≤ 64) × (bytes ≤ 1000000) × IsQueueSize queue
IsInRange _ = Unit {0}

abbrev pub queue_of : Option (List ℕ) → Option ℕ
queue_of None = Some 64
queue_of (Some word) = queue_named word

-- `--base PATH`, of 1 to 90 bytes
abbrev pub base_of : Option (List ℕ) → Option (List ℕ)
base_of None = None
base_of (Some word) = if nat_le 1 (length word) && nat_le (length word) BASE_MAX then Some word else None

-- A number that has to be given, from low to high
abbrev pub number_of : ℕ → ℕ → Option (List ℕ) → Option ℕ
number_of low high None = None
number_of low high (Some word) = number_in low high word

-- `--idle N`, 1 to 1,000,000; 10,000 is the default
abbrev pub idle_of : Option (List ℕ) → Option ℕ
idle_of None = Some 10000
idle_of (Some word) = number_in 1 1000000 word

-- `--first PORT`, of the guest's own; the lowest is the default
abbrev pub first_of : Option (List ℕ) → Option ℕ
first_of None = Some FIRST_PORT
first_of (Some word) = number_in FIRST_PORT LAST_PORT word

-- A command of its parts, where all are there.
abbrev pub play_of : Option Rings → Option ℕ → Option ℕ → Option Command
play_of (Some kind) (Some queue) (Some first) = Some (Play kind queue first)
play_of (Some kind) (Some queue) None = None
play_of (Some kind) None first = None
play_of None queue first = None

abbrev pub run_of : Option (List ℕ) → Option ℕ → Option ℕ → Option ℕ → Option Command
run_of (Some base) (Some queue) (Some idle) (Some first) = Some (Run base queue idle first)
run_of (Some base) (Some queue) (Some idle) None = None
run_of (Some base) (Some queue) None first = None
run_of (Some base) None idle first = None
run_of None queue idle first = None

abbrev pub load_of : Option ℕ → Option ℕ → Option ℕ → Option ℕ → Option Command
load_of (Some number) (Some conns) (Some bytes) (Some queue) = Some (Load number conns bytes queue)
load_of (Some number) (Some conns) (Some bytes) None = None
load_of (Some number) (Some conns) None queue = None
load_of (Some number) None bytes queue = None
load_of None conns bytes queue = None

abbrev pub peer_of : Option (List ℕ) → Option ℕ → Option ℕ → Option Command
peer_of (Some base) (Some port) (Some idle) = Some (Peer base port idle)
peer_of (Some base) (Some port) None = None
peer_of (Some base) None idle = None
peer_of None port idle = None

-- The command of options.
abbrev pub play_with : List Given → Option Command
play_with options =
    play_of (rings_of (value_of (codes "rings") options)) (queue_of (value_of (codes "queue") options))
    (first_of (value_of (codes "first") options))

abbrev pub run_with : List Given → Option Command
run_with options =
    run_of (base_of (value_of (codes "base") options)) (queue_of (value_of (codes "queue") options))
    (idle_of (value_of (codes "idle") options)) (first_of (value_of (codes "first") options))

abbrev pub load_with : List Given → Option Command
load_with options =
    load_of (number_of 0 4294967295 (value_of (codes "number") options)) (number_of 1 64 (value_of (codes "conns") options))
    (number_of 0 1000000 (value_of (codes "bytes") options)) (queue_of (value_of (codes "queue") options))

abbrev pub peer_with : List Given → Option Command
peer_with options =
    peer_of (base_of (value_of (codes "base") options)) (number_of 0 4294967295 (value_of (codes "port") options))
    (idle_of (value_of (codes "idle") options))

-- The command of words, of which the first is its name.
abbrev pub play_words : List (List ℕ) → Option Command
play_words words = option_and_then play_with (options_of (codes "rings" ∷ codes "queue" ∷ codes "first" ∷ []) (drop 1 words))

abbrev pub run_words : List (List ℕ) → Option Command
run_words words =
    option_and_then run_with (options_of (codes "base" ∷ codes "queue" ∷ codes "idle" ∷ codes "first" ∷ []) (drop 1 words))

abbrev pub hostile_words : List (List ℕ) → Option Command
hostile_words words = option_map (λ options. Hostile) (options_of [] (drop 1 words))

abbrev pub load_words : List (List ℕ) → Option Command
load_words words =
    option_and_then load_with (options_of (codes "number" ∷ codes "conns" ∷ codes "bytes" ∷ codes "queue" ∷ []) (drop 1 words))

abbrev pub peer_words : List (List ℕ) → Option Command
peer_words words = option_and_then peer_with (options_of (codes "base" ∷ codes "port" ∷ codes "idle" ∷ []) (drop 1 words))

-- The command of words, of which the first is the program's name.
abbrev pub named_command : List ℕ → List (List ℕ) → Option Command
named_command name words =
    if bytes_eq name (codes "play") then play_words words
    else if bytes_eq name (codes "run") then run_words words
    else if bytes_eq name (codes "hostile") then hostile_words words
    else if bytes_eq name (codes "load") then load_words words
    else if bytes_eq name (codes "peer") then peer_words words
    else None

abbrev pub command_of : List (List ℕ) → Option Command
command_of [] = None
command_of (program ∷ []) = None
command_of (program ∷ name ∷ words) = named_command name (name ∷ words)
