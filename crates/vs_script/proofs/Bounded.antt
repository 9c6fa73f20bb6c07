-- Each line of a play that is read is within the bounds of its fields.
use Rattle.std.proofs.Common.{◌≡◌, ◌≤◌, ◌&&◌, if◌then◌else◌, ℕ, nat_le, nat_lt, Bool, true, false, List, [], ◌∷◌, ◌++◌, map, length, Option, Some, None, Result, Ok, Err, codes}
use Rattle.std.proofs.{Common.{bytes_eq, refl, subst, arith}, lemmas.Bool.Decides.nat_tests}
use Rattle.vs_limits.specs.declared.TheConstants.{GUEST_CID_MIN, GUEST_CID_MAX}
use Rattle.vs_script.specs.{Bounds.{AreBounded, IsBounded}, Text.{is_empty, words_of}, Outside.{Outside, around_host, host_line, outside_line}, Play.{Event, named_line, play_line}}
use Rattle.vs_script.specs.declared.{fault.{Refused.Refused, Why.{Why, TheVariants.BadNumber}}, outside.TheConstants.MAX_FILL, words.TheConstants.MAX_BITS}
use Rattle.vs_script.specs.{declared.script.TheConstants.{MAX_SCRIPT, MAX_LINE, MAX_EVENTS}, Field.{Read, after, held, ending, word, is_numeral, number_in, number, id, content}}
use Rattle.vs_script.specs.{Field.{only, named}, Script.{Saying, Plays, Runs, Attacks, chained, pushed, add_event, add_run, add_hostile, add_words, add_lines, lines_from}}
use Rattle.vs_script.specs.Script.{add_line, unless_refused, parse_of}
use Rattle.vs_script.specs.Outside as outside
use Rattle.vs_script.specs.Play as script
use Rattle.vs_script.specs.declared.script.Command.TheVariants as command

-- What is read has a property, where nothing is at fault.
abbrev Holds : {X E : Type 0} → (X → Type 0) → Result X E → Type 0
Holds P (Ok x) = P x
Holds P (Err e) = Unit {0}

abbrev HoldsIn : {X : Type 0} → (X → Type 0) → Option X → Type 0
HoldsIn P (Some x) = P x
HoldsIn P None = Unit {0}

holds_if : {X E : Type 0} (P : X → Type 0) (b : Bool) (x y : Result X E) → Holds P x → Holds P y → Holds P (if b then x else y)
holds_if P true x y a b = a
holds_if P false x y a b = b

holds_after : {X Y : Type 0} (Q : X → Type 0) (P : Y → Type 0) (r : Read X) (f : X → List (List ℕ) → Result Y Why)
    → Holds (λ found. Q found.0) r → ((x : X) (rest : List (List ℕ)) → Q x → Holds P (f x rest)) → Holds P (after r f)
holds_after Q P (Ok found) f h next = next found.0 found.1 h
holds_after Q P (Err why) f h next = tt

any : {X E : Type 0} (r : Result X E) → Holds (λ x. Unit {0}) r
any (Ok x) = tt
any (Err e) = tt

-- Of a field nothing is asked.
holds_behind : {X Y : Type 0} (P : Y → Type 0) (r : Read X) (f : X → List (List ℕ) → Result Y Why)
    → ((x : X) (rest : List (List ℕ)) → Holds P (f x rest)) → Holds P (after r f)
holds_behind P r f next = holds_after (λ x. Unit {0}) P r f (any r) (λ x rest h. next x rest)

holds_ending : {X : Type 0} (P : X → Type 0) (x : X) (words : List (List ℕ)) → P x → Holds P (ending x words)
holds_ending P x words h = holds_if P (is_empty words) (Ok x) _ h tt

holds_named : {X Y : Type 0} (Q : X → Type 0) (P : Y → Type 0) (f : X → Y) (r : Result X Why) → Holds Q r → ((x : X) → Q x → P (f x)) → Holds P (named f r)
holds_named Q P f (Ok x) h each = each x h
holds_named Q P f (Err why) h each = tt

holds_always : {X Y : Type 0} (P : Y → Type 0) (f : X → Y) (r : Result X Why) → ((x : X) → P (f x)) → Holds P (named f r)
holds_always P f r each = holds_named (λ x. Unit {0}) P f r (any r) (λ x h. each x)

-- A number from low to high, and that alone.
abbrev IsFrom : ℕ → ℕ → ℕ → Type 0
IsFrom low high n = (low ≤ n) × (n ≤ high)

within_if : (low high n : ℕ) (b : Bool) → (nat_le low n && nat_le n high) ≡ b → HoldsIn (IsFrom low high) (if b then Some n else None)
within_if low high n true is = (grind (arith, nat_tests), grind (arith, nat_tests))
within_if low high n false is = tt

in_if : (P : ℕ → Type 0) (b : Bool) (o : Option ℕ) → HoldsIn P o → HoldsIn P (if b then o else None)
in_if P true o h = h
in_if P false o h = tt

holds_held : (P : ℕ → Type 0) (o : Option ℕ) (rest : List (List ℕ)) → HoldsIn P o → Holds (λ found. P found.0) (held BadNumber o rest)
holds_held P (Some n) rest h = h
holds_held P None rest h = tt

holds_number : (low high : ℕ) (words : List (List ℕ)) → Holds (λ found. IsFrom low high found.0) (number low high words)
holds_number low high words =
    holds_behind (λ found. IsFrom low high found.0) (word words) _
    (λ w rest. holds_held (IsFrom low high) (number_in low high w) rest (in_if (IsFrom low high) (is_numeral w) _ (within_if low high _ _ refl)))

number_alone : {Y : Type 0} (low high : ℕ) (P : Y → Type 0) (f : ℕ → Y) (words : List (List ℕ)) → ((n : ℕ) → IsFrom low high n → P (f n))
    → Holds P (named f (only (number low high) words))
number_alone low high P f words each =
    holds_named (IsFrom low high) P f (only (number low high) words)
    (holds_after (IsFrom low high) (IsFrom low high) (number low high words) ending (holds_number low high words)
    (λ n rest is. holds_ending (IsFrom low high) n rest is)) each

-- The lines on what surrounds the driver.
abbrev IsBoundedAround : Outside → Type 0
IsBoundedAround line = IsBounded (script.Around line)

host_bounded : (act : List ℕ) (words : List (List ℕ)) → Holds IsBoundedAround (around_host act words)
host_bounded act words =
    holds_if IsBoundedAround (bytes_eq act (codes "grow")) _ _
    (holds_behind IsBoundedAround (id words) _ (λ stream rest. holds_always IsBoundedAround (outside.Grow stream) _ (λ alloc. tt)))
    (holds_always IsBoundedAround outside.OfHost (host_line act words) (λ line. tt))

outside_bounded : (name : List ℕ) (words : List (List ℕ)) → Holds IsBoundedAround (outside_line name words)
outside_bounded name words =
    holds_if IsBoundedAround (bytes_eq name (codes "turn")) _ _ (holds_ending IsBoundedAround outside.Turn words tt)
    (holds_if IsBoundedAround (bytes_eq name (codes "reset")) _ _ (number_alone GUEST_CID_MIN GUEST_CID_MAX IsBoundedAround outside.Reset words (λ cid is. is))
    (holds_if IsBoundedAround (bytes_eq name (codes "tick")) _ _ (holds_always IsBoundedAround outside.Tick _ (λ ms. tt))
    (holds_if IsBoundedAround (bytes_eq name (codes "client")) _ _ (holds_ending IsBoundedAround outside.Client words tt)
    (holds_if IsBoundedAround (bytes_eq name (codes "host")) _ _
    (holds_behind IsBoundedAround (word words) around_host host_bounded) tt))))

line_bounded : (name : List ℕ) (words : List (List ℕ)) → Holds IsBounded (named_line name words)
line_bounded name words =
    holds_if IsBounded (bytes_eq name (codes "connect")) _ _ (number_alone 0 4294967295 IsBounded script.Connect words (λ port is. is.1))
    (holds_if IsBounded (bytes_eq name (codes "listen")) _ _ (holds_always IsBounded script.Listen _ (λ x. tt))
    (holds_if IsBounded (bytes_eq name (codes "unlisten")) _ _ (holds_always IsBounded script.Unlisten _ (λ x. tt))
    (holds_if IsBounded (bytes_eq name (codes "accept")) _ _ (holds_always IsBounded script.Accept _ (λ x. tt))
    (holds_if IsBounded (bytes_eq name (codes "send")) _ _
    (holds_behind IsBounded (id words) _ (λ c rest. holds_behind IsBounded (content MAX_FILL rest) _ (λ bytes behind. holds_ending IsBounded (script.Send c bytes) behind tt)))
    (holds_if IsBounded (bytes_eq name (codes "recv")) _ _
    (holds_behind IsBounded (id words) _ (λ c rest. number_alone 1 65536 IsBounded (script.Recv c) rest (λ n is. is)))
    (holds_if IsBounded (bytes_eq name (codes "shutdown")) _ _
    (holds_behind IsBounded (id words) _ (λ c rest. number_alone 1 MAX_BITS IsBounded (script.Shutdown c) rest (λ b is. is)))
    (holds_if IsBounded (bytes_eq name (codes "grow")) _ _ (holds_behind IsBounded (id words) _ (λ c rest. holds_always IsBounded (script.Grow c) _ (λ x. tt)))
    (holds_if IsBounded (bytes_eq name (codes "close")) _ _ (holds_always IsBounded script.Close _ (λ x. tt))
    (holds_if IsBounded (bytes_eq name (codes "state")) _ _ (holds_always IsBounded script.State _ (λ x. tt))
    (holds_if IsBounded (bytes_eq name (codes "poll")) _ _ (holds_ending IsBounded script.Poll words tt)
    (holds_named IsBoundedAround IsBounded script.Around (outside_line name words) (outside_bounded name words) (λ line is. is))))))))))))

-- All lines.
abbrev lines_in : List (ℕ × Event) → List Event
lines_in lines = map (λ l. l.1) lines

all_more : (lines : List (ℕ × Event)) (n : ℕ) (e : Event) → AreBounded (lines_in lines) → IsBounded e → AreBounded (lines_in (lines ++ (n, e) ∷ []))
all_more [] n e all may = (may, tt)
all_more (l ∷ lines) n e all may = (all.0, all_more lines n e all.1 may)

abbrev IsBoundedPlay : Saying → Type 0
IsBoundedPlay (Plays lines) = AreBounded (lines_in lines)
IsBoundedPlay _ = Unit {0}

all_pushed : (lines : List (ℕ × Event)) (n : ℕ) (r : Result Event Why) → AreBounded (lines_in lines) → Holds IsBounded r
    → Holds (λ more. AreBounded (lines_in more)) (chained r (λ event. pushed MAX_EVENTS lines (n, event)))
all_pushed lines n (Ok e) all may =
    holds_if (λ more. AreBounded (lines_in more)) (nat_lt (length lines) MAX_EVENTS) _ _ (all_more lines n e all may) tt
all_pushed lines n (Err why) all may = tt

all_words : (saying : Saying) (n : ℕ) (words : List (List ℕ)) → IsBoundedPlay saying → Holds IsBoundedPlay (add_words saying n words)
all_words (Plays lines) n words all =
    holds_named (λ more. AreBounded (lines_in more)) IsBoundedPlay Plays (add_event lines n words)
    (all_pushed lines n (play_line words) all (holds_behind IsBounded (word words) named_line line_bounded)) (λ more is. is)
all_words (Runs apps) n words all = holds_always IsBoundedPlay Runs (add_run apps words) (λ more. tt)
all_words (Attacks lines) n words all = holds_always IsBoundedPlay Attacks (add_hostile lines n words) (λ more. tt)

all_next : (n : ℕ) (r : Result Saying Why) (f : Saying → Result Saying Refused) → Holds IsBoundedPlay r
    → ((more : Saying) → IsBoundedPlay more → Holds IsBoundedPlay (f more)) → Holds IsBoundedPlay (unless_refused n r f)
all_next n (Ok saying) f all next = next saying all
all_next n (Err why) f all next = tt

all_lines : (lines : List (ℕ × List ℕ)) (saying : Saying) → IsBoundedPlay saying → Holds IsBoundedPlay (add_lines saying lines)
all_lines [] saying all = all
all_lines (line ∷ lines) saying all =
    all_next line.0 (add_line saying line.0 line.1) (λ more. add_lines more lines)
    (holds_if IsBoundedPlay (nat_le (length line.1) MAX_LINE) _ _ (all_words saying line.0 (words_of line.1) all) tt)
    (all_lines lines)

-- Each line of a script that is read for a play.
pub all_bounded : (bytes : List ℕ) (lines : List (ℕ × Event)) → parse_of command.Play bytes ≡ Ok (Plays lines) → AreBounded (map (λ l. l.1) lines)
all_bounded bytes lines is = subst (Holds IsBoundedPlay) is
    (holds_if IsBoundedPlay (nat_le (length bytes) MAX_SCRIPT) _ _ (all_lines (lines_from 1 bytes) (Plays []) tt) tt)
