-- What the entries of a journal add to how much was sent on a connection.
use Rattle.std.proofs.Common.{◌≡◌, ℕ, ◌+◌, ◌-◌, ◌==◌, ◌^◌, min, if◌then◌else◌, Bool, true, false, List, [], ◌∷◌, ◌++◌, length, take, drop, refl, sym, ap, ◌∙◌, arith, append_assoc}
use Rattle.std.proofs.{Common.append-nil, lemmas.List.{length-append, length-drop, length-take, FromFn.length-map-range_with_len}}
use Rattle.vs_script.specs.Data.{Content, Fill, Given, bytes_of, filled, size_of}
use Rattle.laws_driver.specs.Carried.{Calls.{Journal, bytes_sent, names}, Sent.took}
use Rattle.vs_apps_parts.specs.{Journals.{calls_of, data_at, gathered, made_by, made_of, sent_as}, Scripts.{RunScript, acts_of, slice_of}, declared.journal.Called.Called}
use Rattle.vs_apps_parts.specs.declared.journal.{Deed.Deed, Entry.Entry}
use Rattle.vs_driver_parts.specs.declared.answers.Sent.{Sent}
use Rattle.vs_run_report.specs.{Connections.capped, Sums.{amount_on, sent_by, sent_in, took_number}}
use Rattle.vs_apps_parts.specs.declared.journal.Called.TheVariants as called
use Rattle.vs_apps_parts.specs.declared.journal.Deed.TheVariants as deed
use Rattle.vs_driver_parts.specs.declared.answers.Sent.TheVariants as sent

pub size_is : (c : Content) → size_of c ≡ length (bytes_of c)
size_is (Given bytes) = refl
size_is (Fill n start) = sym (length-map-range_with_len (λ i. filled start i) 0 n)

-- One call.
took_length : (bytes : List ℕ) (n : ℕ) → length bytes ≡ n → (answer : Sent) → length (took bytes answer) ≡ took_number n answer
took_length bytes n is (sent.Took m) = length-take m bytes ∙ ap (λ (k : ℕ). min m k) is
took_length bytes n is sent.Unknown = refl
took_length bytes n is sent.NotOpen = refl
took_length bytes n is sent.Reset = refl
took_length bytes n is sent.ShutDown = refl
took_length bytes n is (sent.NoCredit tx alloc fwd) = refl
took_length bytes n is (sent.NoDescriptor in_flight) = refl

slice_length : (from len : ℕ) (whole : List ℕ) → length (slice_of from len whole) ≡ min len (length whole - from)
slice_length from len whole = length-take len (drop from whole) ∙ ap (λ (k : ℕ). min len k) (length-drop from whole)

none_either : (b : Bool) (bytes : List ℕ) → bytes ≡ [] → (if b then bytes else []) ≡ []
none_either true bytes none = none
none_either false bytes none = refl

module _ (id : ℕ) (script : RunScript) (bytes : List ℕ) (app : ℕ) where
  if_sent : (b : Bool) (from len : ℕ) (whole : List ℕ) (answer : Sent)
      → length (if b then took (slice_of from len whole) answer else []) ≡ (if b then took_number (min len (length whole - from)) answer else 0)
  if_sent true from len whole answer = took_length (slice_of from len whole) _ (slice_length from len whole) answer
  if_sent false from len whole answer = refl

  sent_called : (c : Called) → length (let m = made_of script bytes app c in if names id m.id then bytes_sent m.call m.reply else [])
      ≡ amount_on id (sent_in script app c)
  sent_called (called.Connect port answer flow) = refl
  sent_called (called.Listen port answer) = refl
  sent_called (called.Accept port answer flow) = refl
  sent_called (called.Send other at from len answer) = if_sent (id == other) from len (data_at at (acts_of app script)) answer
  sent_called (called.Recv other len from answer) = ap (λ (xs : List ℕ). length xs) (none_either (id == other) [] refl)
  sent_called (called.Shutdown other bits answer) = ap (λ (xs : List ℕ). length xs) (none_either (id == other) [] refl)
  sent_called (called.Grow other alloc answer) = ap (λ (xs : List ℕ). length xs) (none_either (id == other) [] refl)
  sent_called (called.Close other answer) = ap (λ (xs : List ℕ). length xs) (none_either (id == other) [] refl)
  sent_called (called.LookAt other answer) = ap (λ (xs : List ℕ). length xs) (none_either (id == other) [] refl)

  sent_with : (older : Journal) (d : Deed)
      → length (sent_as id (made_by script bytes (record { app = app; deed = d }) ++ older))
      ≡ length (sent_as id older) + amount_on id (sent_by script (record { app = app; deed = d }))
  sent_with older (deed.Called c) =
      length-append (sent_as id older) (let m = made_of script bytes app c in if names id m.id then bytes_sent m.call m.reply else [])
      ∙ ap (λ (n : ℕ). length (sent_as id older) + n) (sent_called c)
  sent_with older (deed.Waited times why) = omega arith

-- One entry more.
gathered_more : (made : Entry → Journal) (es : List Entry) (e : Entry) → gathered made (es ++ e ∷ []) ≡ made e ++ gathered made es
gathered_more made [] e = sym (append-nil (made e))
gathered_more made (x ∷ es) e =
    ap (λ (j : Journal). j ++ made x) (gathered_more made es e) ∙ append_assoc (made e) (gathered made es) (made x)

calls_next : (script : RunScript) (bytes : List ℕ) (es : List Entry) (i : ℕ) (e : Entry) → take (i + 1) es ≡ take i es ++ e ∷ []
    → calls_of script bytes (take (i + 1) es) ≡ made_by script bytes e ++ calls_of script bytes (take i es)
calls_next script bytes es i e at = ap (calls_of script bytes) at ∙ gathered_more (made_by script bytes) (take i es) e

capped_more : (n m : ℕ) → min (min n (2 ^ 64 - 1) + m) (2 ^ 64 - 1) ≡ min (n + m) (2 ^ 64 - 1)
capped_more n m = omega arith

module _ (id : ℕ) (script : RunScript) (bytes : List ℕ) (es : List Entry) (i : ℕ) (e : Entry) (at : take (i + 1) es ≡ take i es ++ e ∷ []) where
  length_next : length (sent_as id (calls_of script bytes (take i es))) + amount_on id (sent_by script e)
      ≡ length (sent_as id (calls_of script bytes (take (i + 1) es)))
  length_next =
      sym (ap (λ (j : Journal). length (sent_as id j)) (calls_next script bytes es i e at)
      ∙ sent_with id script bytes e.app (calls_of script bytes (take i es)) e.deed)

  pub sent_next : (n m sum : ℕ) → n ≡ capped (length (sent_as id (calls_of script bytes (take i es)))) → m ≡ amount_on id (sent_by script e)
      → sum ≡ min (n + m) (2 ^ 64 - 1) → sum ≡ capped (length (sent_as id (calls_of script bytes (take (i + 1) es))))
  sent_next n m sum before more is =
      let older = calls_of script bytes (take i es) in
      is ∙ ap (λ (k : ℕ). min (k + m) (2 ^ 64 - 1)) before ∙ ap (λ (k : ℕ). min (capped (length (sent_as id older)) + k) (2 ^ 64 - 1)) more
      ∙ capped_more (length (sent_as id older)) (amount_on id (sent_by script e)) ∙ ap capped length_next

  pub each_next : (old new : ℕ) → old ≡ capped (length (sent_as id (calls_of script bytes (take i es))))
      → ((n : ℕ) → old ≡ capped n → new ≡ capped (n + amount_on id (sent_by script e)))
      → new ≡ capped (length (sent_as id (calls_of script bytes (take (i + 1) es))))
  each_next old new before adds = adds (length (sent_as id (calls_of script bytes (take i es)))) before ∙ ap capped length_next
