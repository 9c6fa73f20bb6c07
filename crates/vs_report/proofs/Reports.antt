-- How the lines of a report add up.
use Rattle.std.proofs.{Common.{◌≡◌, ◌<◌, arith, ℕ, ◌+◌, List, [], ◌∷◌, ◌++◌, length, take, drop, get_or, Option, Result, Ok, Err, sym, ap, ◌∙◌, Some, subst}, lemmas.List.take_more}
use Rattle.std.proofs.lemmas.List.{length-take-le, take-append-drop}
use Rattle.vs_outside.specs.Host.{Stream}
use Rattle.vs_report.specs.{Gives.GivesLines, Report.{guest_open_text, device_open_text, counts_text, stream_text, stream_texts, report}, declared.giving.GiveError.GiveError}
use Rattle.vs_report.{specs.declared.giving.Totals.Totals, proofs.LinesGiven.{gives_next, gives_less}}

texts_append : (n : ℕ) (xs ys : List Stream) → stream_texts n (xs ++ ys) ≡ stream_texts n xs ++ stream_texts (n + length xs) ys
texts_append n [] ys = ap (λ k. stream_texts k ys) (omega arith)
texts_append n (x ∷ xs) ys = ap (λ ts. stream_text n x ∷ ts) (texts_append (n + 1) xs ys ∙ ap (λ k. stream_texts (n + 1) xs ++ stream_texts k ys) (omega arith))

-- up to a place, and the stream there
texts_more : (xs : List Stream) (i : ℕ) (s : Stream) → i < length xs → s ≡ get_or xs i s → stream_texts 1 (take (i + 1) xs) ≡ stream_texts 1 (take i xs) ++ stream_text (i + 1) s ∷ []
texts_more xs i s within at =
    ap (stream_texts 1) (take_more xs i s within ∙ ap (λ t. take i xs ++ t ∷ []) (sym at))
    ∙ (texts_append 1 (take i xs) (s ∷ [])
    ∙ ap (λ k. stream_texts 1 (take i xs) ++ stream_text k s ∷ []) (ap (λ k. 1 + k) (length-take-le i xs (omega (arith, within))) ∙ omega arith))

texts_rest : (xs : List Stream) (i : ℕ) → stream_texts 1 xs ≡ stream_texts 1 (take i xs) ++ stream_texts (1 + length (take i xs)) (drop i xs)
texts_rest xs i = ap (stream_texts 1) (sym (take-append-drop i xs)) ∙ texts_append 1 (take i xs) (drop i xs)

pub stream_given : (xs : List Stream) (i : ℕ) (s : Stream) (old mid new : Option (List ℕ)) (f m g : ℕ) → i < length xs → s ≡ get_or xs i s
    → GivesLines old mid f m (stream_texts 1 (take i xs)) (Ok tt) → GivesLines mid new m g (stream_text (i + 1) s ∷ []) (Ok tt)
    → GivesLines old new f g (stream_texts 1 (take (i + 1) xs)) (Ok tt)
stream_given xs i s old mid new f m g within at before given =
    subst (λ ts. GivesLines old new f g ts (Ok tt)) (sym (texts_more xs i s within at)) (gives_next old mid new f m g (stream_texts 1 (take i xs)) (stream_text (i + 1) s ∷ []) (Ok tt) before given)

pub streams_until : (xs : List Stream) (i : ℕ) (s : Stream) (old mid new : Option (List ℕ)) (f m g : ℕ) (e : GiveError) (r : Result (Unit {0}) GiveError) → r ≡ Err e → i < length xs → s ≡ get_or xs i s
    → GivesLines old mid f m (stream_texts 1 (take i xs)) (Ok tt) → GivesLines mid new m g (stream_text (i + 1) s ∷ []) (Err e)
    → GivesLines old new f g (stream_texts 1 xs) r
streams_until xs i s old mid new f m g e r failed within at before given =
    subst (λ x. GivesLines old new f g (stream_texts 1 xs) x) (sym failed)
    (subst (λ ts. GivesLines old new f g ts (Err e)) (sym (texts_rest xs (i + 1)))
    (gives_less old new f g (stream_texts 1 (take (i + 1) xs)) (stream_texts (1 + length (take (i + 1) xs)) (drop (i + 1) xs)) e
    (subst (λ ts. GivesLines old new f g ts (Err e)) (sym (texts_more xs i s within at)) (gives_next old mid new f m g (stream_texts 1 (take i xs)) (stream_text (i + 1) s ∷ []) (Err e) before given))))

-- The report of a play, line by line.
module _ (t : Totals) (ss : List Stream) (old new : Option (List ℕ)) (f g : ℕ) where
  ends_as : (e r : Result (Unit {0}) GiveError) → r ≡ e → GivesLines old new f g (report t ss) e → GivesLines old new f g (report t ss) r
  ends_as e r same given = subst (λ x. GivesLines old new f g (report t ss) x) (sym same) given

  -- it ends at its first line, at its second, or in its streams
  pub report_until_guest : (e : GiveError) (r : Result (Unit {0}) GiveError) → r ≡ Err e → GivesLines old new f g (guest_open_text t.guest_open ∷ []) (Err e) → GivesLines old new f g (report t ss) r
  report_until_guest e r failed one = ends_as (Err e) r failed (gives_less old new f g (guest_open_text t.guest_open ∷ []) (device_open_text t.device_open ∷ (stream_texts 1 ss ++ counts_text t.counters (Some t.broken) ∷ [])) e one)

  pub report_until_device : (mid : Option (List ℕ)) (m : ℕ) (e : GiveError) (r : Result (Unit {0}) GiveError) → r ≡ Err e
      → GivesLines old mid f m (guest_open_text t.guest_open ∷ []) (Ok tt) → GivesLines mid new m g (device_open_text t.device_open ∷ []) (Err e) → GivesLines old new f g (report t ss) r
  report_until_device mid m e r failed one two = ends_as (Err e) r failed
      (gives_next old mid new f m g (guest_open_text t.guest_open ∷ []) (device_open_text t.device_open ∷ (stream_texts 1 ss ++ counts_text t.counters (Some t.broken) ∷ [])) (Err e) one
      (gives_less mid new m g (device_open_text t.device_open ∷ []) (stream_texts 1 ss ++ counts_text t.counters (Some t.broken) ∷ []) e two))

  pub report_until_streams : (mid low : Option (List ℕ)) (m n : ℕ) (e : GiveError) (r : Result (Unit {0}) GiveError) → r ≡ Err e
      → GivesLines old mid f m (guest_open_text t.guest_open ∷ []) (Ok tt) → GivesLines mid low m n (device_open_text t.device_open ∷ []) (Ok tt)
      → GivesLines low new n g (stream_texts 1 ss) (Err e) → GivesLines old new f g (report t ss) r
  report_until_streams mid low m n e r failed one two three = ends_as (Err e) r failed
      (gives_next old mid new f m g (guest_open_text t.guest_open ∷ []) (device_open_text t.device_open ∷ (stream_texts 1 ss ++ counts_text t.counters (Some t.broken) ∷ [])) (Err e) one
      (gives_next mid low new m n g (device_open_text t.device_open ∷ []) (stream_texts 1 ss ++ counts_text t.counters (Some t.broken) ∷ []) (Err e) two
      (gives_less low new n g (stream_texts 1 ss) (counts_text t.counters (Some t.broken) ∷ []) e three)))

  -- it ends with its last line
  pub report_given : (mid low end : Option (List ℕ)) (m n k : ℕ) (r : Result (Unit {0}) GiveError)
      → GivesLines old mid f m (guest_open_text t.guest_open ∷ []) (Ok tt) → GivesLines mid low m n (device_open_text t.device_open ∷ []) (Ok tt)
      → GivesLines low end n k (stream_texts 1 ss) (Ok tt) → GivesLines end new k g (counts_text t.counters (Some t.broken) ∷ []) r → GivesLines old new f g (report t ss) r
  report_given mid low end m n k r one two three four =
      (gives_next old mid new f m g (guest_open_text t.guest_open ∷ []) (device_open_text t.device_open ∷ (stream_texts 1 ss ++ counts_text t.counters (Some t.broken) ∷ [])) r one
      (gives_next mid low new m n g (device_open_text t.device_open ∷ []) (stream_texts 1 ss ++ counts_text t.counters (Some t.broken) ∷ []) r two
      (gives_next low end new n k g (stream_texts 1 ss) (counts_text t.counters (Some t.broken) ∷ []) r three four)))
