-- The apps of each script that is read for a run are right.
use Rattle.std.proofs.Common.{◌≡◌, ◌&&◌, if◌then◌else◌, ℕ, nat_le, nat_lt, Bool, true, false, List, [], ◌∷◌, length, Some, None, Result, Ok, Err, codes, bytes_eq, refl, subst}
use Rattle.std.{proofs.{Common.arith, lemmas.{Bool.Decides.nat_tests, List.Elements.{All-append, All-cons, All-head, All-nil, All-tail}}}, specs.{List.All, Str.Parse.digits_value}}
use Rattle.vs_script.specs.App.{Act, RunStep, Begin, Do, Connect, Listen, Accept, Send, Recv, Drain, Exchange, Shutdown, Grow, Close, connection_instruction, instruction_line}
use Rattle.vs_script.specs.{App.{run_line, run_line_named}, Text.{is_empty, words_of}, declared.fault.{Refused.Refused, Why.{Why, TheVariants.BadNumber}}}
use Rattle.vs_script.specs.{declared.{words.TheConstants.MAX_BITS, script.TheConstants.{MAX_INSTRUCTIONS, MAX_LINE, MAX_SCRIPT}}, Field.{Read, after, ending, held}}
use Rattle.vs_script.specs.{Field.{is_numeral, named, number_in, within, word}, Script.{Saying, Plays, Runs, Attacks, add_act, add_line, add_lines, add_run, add_step, add_words}}
use Rattle.vs_script.specs.Script.{chained, lines_from, parse_of, pushed, unless_refused}
use Rattle.vs_apps_parts.specs.Scripts.{AreRight, IsRight, RunScript}
use Rattle.vs_script.specs.declared.script.Command.TheVariants as command
use Rattle.std.proofs.lemmas.Grind.{common_steps}

-- What is read has a property, where nothing is at fault.
abbrev Holds : {X E : Type 0} → (X → Type 0) → Result X E → Type 0
Holds P (Ok x) = P x
Holds P (Err e) = Unit {0}

holds_if : {X E : Type 0} (P : X → Type 0) (b : Bool) (x y : Result X E) → Holds P x → Holds P y → Holds P (if b then x else y)
holds_if P true x y a b = a
holds_if P false x y a b = b

holds_ending : {X : Type 0} (P : X → Type 0) (x : X) (words : List (List ℕ)) → P x → Holds P (ending x words)
holds_ending P x words h = holds_if P (is_empty words) (Ok x) _ h tt

holds_named : {X Y : Type 0} (Q : X → Type 0) (P : Y → Type 0) (f : X → Y) (r : Result X Why) → Holds Q r → ((x : X) → Q x → P (f x))
    → Holds P (named f r)
holds_named Q P f (Ok x) h each = each x h
holds_named Q P f (Err why) h each = tt

holds_always : {X Y : Type 0} (P : Y → Type 0) (f : X → Y) (r : Result X Why) → ((x : X) → P (f x)) → Holds P (named f r)
holds_always P f (Ok x) each = each x
holds_always P f (Err why) each = tt

-- The bits of a shutdown.
bits_ending : (n : ℕ) (words : List (List ℕ)) → IsRight (Shutdown n) → Holds IsRight (named Shutdown (ending n words))
bits_ending n words is = holds_named (λ b. IsRight (Shutdown b)) IsRight Shutdown (ending n words) (holds_ending (λ b. IsRight (Shutdown b)) n words is) (λ b may. may)

bits_within : (n : ℕ) (b : Bool) → (nat_le 1 n && nat_le n MAX_BITS) ≡ b → (words : List (List ℕ))
    → Holds IsRight (named Shutdown (after (held BadNumber (if b then Some n else None) words) ending))
bits_within n true is words = bits_ending n words (grind (arith, nat_tests), grind (arith, nat_tests))
bits_within n false is words = tt

bits_of : (b : Bool) (n : ℕ) (words : List (List ℕ))
    → Holds IsRight (named Shutdown (after (held BadNumber (if b then within 1 MAX_BITS n else None) words) ending))
bits_of true n words = bits_within n (nat_le 1 n && nat_le n MAX_BITS) refl words
bits_of false n words = tt

bits_read : (r : Read (List ℕ))
    → Holds IsRight (named Shutdown (after (after r (λ w rest. held BadNumber (number_in 1 MAX_BITS w) rest)) ending))
bits_read (Ok found) = bits_of (is_numeral found.0) (digits_value 10 found.0) found.1
bits_read (Err why) = tt

-- Each instruction.
connection_right : (name : List ℕ) (words : List (List ℕ)) → Holds IsRight (connection_instruction name words)
connection_right name words =
    holds_if IsRight (bytes_eq name (codes "send")) _ _ (holds_always IsRight Send _ (λ c. tt))
    (holds_if IsRight (bytes_eq name (codes "recv")) _ _ (holds_always IsRight Recv _ (λ n. tt))
    (holds_if IsRight (bytes_eq name (codes "drain")) _ _ (holds_ending IsRight Drain words tt)
    (holds_if IsRight (bytes_eq name (codes "exchange")) _ _ (holds_always IsRight Exchange _ (λ c. tt))
    (holds_if IsRight (bytes_eq name (codes "shutdown")) _ _ (bits_read (word words))
    (holds_if IsRight (bytes_eq name (codes "grow")) _ _ (holds_always IsRight Grow _ (λ n. tt))
    (holds_if IsRight (bytes_eq name (codes "close")) _ _ (holds_ending IsRight Close words tt) tt))))))

instruction_right : (name : List ℕ) (words : List (List ℕ)) → Holds IsRight (instruction_line name words)
instruction_right name words =
    holds_if IsRight (bytes_eq name (codes "connect")) _ _ (holds_always IsRight Connect _ (λ p. tt))
    (holds_if IsRight (bytes_eq name (codes "listen")) _ _ (holds_always IsRight Listen _ (λ p. tt))
    (holds_if IsRight (bytes_eq name (codes "accept")) _ _ (holds_always IsRight Accept _ (λ p. tt)) (connection_right name words)))

-- Each line.
abbrev IsRightStep : RunStep → Type 0
IsRightStep Begin = Unit {0}
IsRightStep (Do act) = IsRight act

named_right : (begun : Bool) (name : List ℕ) (words : List (List ℕ)) → Holds IsRightStep (run_line_named begun name words)
named_right begun name words =
    holds_if IsRightStep (bytes_eq name (codes "app")) _ _ (holds_ending IsRightStep Begin words tt)
    (holds_if IsRightStep begun _ _ (holds_named IsRight IsRightStep Do (instruction_line name words) (instruction_right name words) (λ act is. is)) tt)

line_right : (begun : Bool) (r : Read (List ℕ)) → Holds IsRightStep (after r (run_line_named begun))
line_right begun (Ok found) = named_right begun found.0 found.1
line_right begun (Err why) = tt

only_one : {X : Type 0} (P : X → Type 0) (x : X) → P x → All P (x ∷ [])
only_one P x is = All-cons P x [] is (All-nil P)

-- All apps, with one more, or with an instruction more.
pushed_right : {X : Type 0} (P : X → Type 0) (most : ℕ) (xs : List X) (x : X) → All P xs → P x → Holds (All P) (pushed most xs x)
pushed_right P most xs x all may = holds_if (All P) (nat_lt (length xs) most) _ _ (All-append P xs (x ∷ []) all (only_one P x may)) tt

act_right : (apps : RunScript) (act : Act) → AreRight apps → IsRight act → Holds AreRight (add_act apps act)
act_right [] act all may = tt
act_right (app ∷ []) act all may =
    holds_named (All IsRight) AreRight (λ more. more ∷ []) (pushed MAX_INSTRUCTIONS app act)
    (pushed_right IsRight MAX_INSTRUCTIONS app act (All-head (All IsRight) app [] all) may) (only_one (All IsRight))
act_right (app ∷ next ∷ apps) act all may =
    holds_named AreRight AreRight (λ more. app ∷ more) (add_act (next ∷ apps) act)
    (act_right (next ∷ apps) act (All-tail (All IsRight) app (next ∷ apps) all) may)
    (λ more is. All-cons (All IsRight) app more (All-head (All IsRight) app (next ∷ apps) all) is)

step_right : (apps : RunScript) (r : Result RunStep Why) → AreRight apps → Holds IsRightStep r → Holds AreRight (chained r (add_step apps))
step_right apps r = grind (arith, common_steps, pushed_right, act_right)

-- All that a text says.
abbrev IsRightSaying : Saying → Type 0
IsRightSaying (Plays lines) = Unit {0}
IsRightSaying (Runs apps) = AreRight apps
IsRightSaying (Attacks lines) = Unit {0}

words_right : (saying : Saying) (n : ℕ) (words : List (List ℕ)) → IsRightSaying saying → Holds IsRightSaying (add_words saying n words)
words_right (Plays lines) n words all = holds_always IsRightSaying Plays _ (λ more. tt)
words_right (Runs apps) n words all =
    holds_named AreRight IsRightSaying Runs (add_run apps words) (step_right apps (run_line _ words) all (line_right _ (word words))) (λ more is. is)
words_right (Attacks lines) n words all = holds_always IsRightSaying Attacks _ (λ more. tt)

next_right : (n : ℕ) (r : Result Saying Why) (f : Saying → Result Saying Refused) → Holds IsRightSaying r
    → ((more : Saying) → IsRightSaying more → Holds IsRightSaying (f more)) → Holds IsRightSaying (unless_refused n r f)
next_right n (Ok saying) f all next = next saying all
next_right n (Err why) f all next = tt

lines_right : (lines : List (ℕ × List ℕ)) (saying : Saying) → IsRightSaying saying → Holds IsRightSaying (add_lines saying lines)
lines_right [] saying all = all
lines_right (line ∷ lines) saying all =
    next_right line.0 (add_line saying line.0 line.1) (λ more. add_lines more lines)
    (holds_if IsRightSaying (nat_le (length line.1) MAX_LINE) _ _ (words_right saying line.0 (words_of line.1) all) tt)
    (lines_right lines)

pub read_right : (text : List ℕ) (script : RunScript) → parse_of command.Run text ≡ Ok (Runs script) → AreRight script
read_right text script is = subst (Holds IsRightSaying) is
    (holds_if IsRightSaying (nat_le (length text) MAX_SCRIPT) _ _ (lines_right (lines_from 1 text) (Runs []) (All-nil (All IsRight))) tt)
