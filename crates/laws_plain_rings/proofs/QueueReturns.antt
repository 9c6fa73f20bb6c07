-- One queue whose lists lie in its memory, as pages are taken, returned and reaped.
use Rattle.std.proofs.lemmas.Grind.{common_steps}
use Rattle.std.proofs.{Common.{◌≡◌, ℕ, zero, suc, ◌+◌, ◌%◌, ◌^◌, ◌<◌, ◌≤◌, List, [], ◌∷◌, ◌++◌, length, None, refl, sym, ap, ◌∙◌, subst, arith}}
use Rattle.std.{proofs.lemmas.{List.length-set, Nat.mod_below}, specs.Prelude.set}
use Rattle.vs_ring_port.specs.{Lists.Lists, declared.queue.Queue.Queue}
use Rattle.vs_ring_plain.specs.declared.turns.Turns.{Turns}
use Rattle.vs_plain_driver.specs.Queue.{DriverQueueState}
use Rattle.laws_plain_rings.proofs.{Counting.{times-cons, times-push, times-self}, Modulo.{apart, further, mod_small, wraps}, Rows.{IsSameAt, back_index, back_kept, back_push}}
use Rattle.laws_plain_rings.{proofs.{Rows.{out_index, out_kept}, QueueSteps.{back_count, push_length}, Spots.{Elem, UsedIdx, Untouched}}, specs.Queue.{AreBack, AreOut, HasPage}}
use Rattle.laws_plain_rings.specs.{Queue.{IsQueueTied, times}, Shown.Shown}

module _ {queue : Queue} {n at : ℕ} (nonzero : 0 < n) (divides : 2 ^ 16 % n ≡ 0) {s : Shown} {q : DriverQueueState} {t : Turns}
    {heads : List ℕ} {staged : List (List ℕ)} {l : Lists} where
  -- the page that was returned first is reaped
  module _ {page : List ℕ} {pages : List (List ℕ)} {id : ℕ} {ids out : List ℕ} (back_is : l.back ≡ page ∷ pages)
      (tie : IsQueueTied queue n at s q t heads staged l out (id ∷ ids)) where
    abbrev pub reaped_then : DriverQueueState
    reaped_then = record q { pages = set q.pages id None; free = q.free ++ id ∷ []; reaped = (q.reaped + 1) % 2 ^ 16 }

    pub row : AreBack n s q.reaped (page ∷ pages) (id ∷ ids)
    row = subst (λ (ps : List (List ℕ)). AreBack n s q.reaped ps (id ∷ ids)) back_is tie.back_is

    tie_reaped_pages : (j : ℕ) → 0 < times j out + times j heads + times j ids → (j < n) × HasPage (set q.pages id None) j
    tie_reaped_pages j some = grind (arith, common_steps)

    pub id_has : (id < n) × HasPage q.pages id
    id_has = tie.pages id (omega (arith, times-cons id id ids, times-self id))

    pub tie_reaped : IsQueueTied queue n at s reaped_then t heads staged (record l { back = pages }) out ids
    tie_reaped = record {
      once = λ j. omega (arith, tie.once j, times-push j id q.free, times-cons j id ids);
      all = omega (arith, tie.all, push_length q.free id);
      sized = length-set q.pages id None ∙ tie.sized;
      free = free;
      pages = tie_reaped_pages;
      staged_count = tie.staged_count;
      avail = tie.avail;
      published = tie.published;
      taken = tie.taken;
      used = tie.used;
      returned = omega (arith, tie.returned, ap length back_is);
      small = omega arith;
      place = tie.place;
      given_out = tie.given_out;
      back_is = back_index n s (q.reaped + 1) ((q.reaped + 1) % 2 ^ 16) pages ids (sym (wraps n (q.reaped + 1) divides)) row.1;
      words = tie.words;
    }
      where
        free : (j : ℕ) → 0 < times j (q.free ++ id ∷ []) → j < n
        free j some = by (times j q.free) refl
          where
            by : (k : ℕ) → times j q.free ≡ k → j < n
            by zero none = (tie.pages j (omega (arith, some, none, times-push j id q.free, times-cons j id ids))).0
            by (suc k) more = tie.free j (omega (arith, more))

  -- the page that was given first is taken
  module _ {page : List ℕ} {pages : List (List ℕ)} {id : ℕ} {ids back : List ℕ} (given_is : l.given ≡ page ∷ pages)
      (tie : IsQueueTied queue n at s q t heads staged l (id ∷ ids) back) where
    pub given_row : AreOut queue n at s t.taken (page ∷ (pages ++ staged)) (id ∷ ids)
    given_row = subst (λ (ps : List (List ℕ)). AreOut queue n at s t.taken (ps ++ staged) (id ∷ ids)) given_is tie.given_out

    pub id_held : (id < n) × HasPage q.pages id
    id_held = tie.pages id (omega (arith, times-cons id id ids, times-self id))

    pub tie_taken : IsQueueTied queue n at s q (record t { taken = (t.taken + 1) % 2 ^ 16 }) (id ∷ heads) staged
        (record l { given = pages; place = (l.place + 1) % n }) ids back
    tie_taken = record {
      once = λ j. omega (arith, tie.once j, times-cons j id ids, times-cons j id heads);
      all = omega (arith, tie.all);
      sized = tie.sized;
      free = tie.free;
      pages = λ j some. tie.pages j (omega (arith, some, times-cons j id ids, times-cons j id heads));
      staged_count = tie.staged_count;
      avail = tie.avail;
      published = omega (arith, tie.published, ap length given_is);
      taken = omega (arith, tie.taken);
      used = tie.used;
      returned = tie.returned;
      small = tie.small;
      place = next_place;
      given_out = out_index queue n at s (t.taken + 1) ((t.taken + 1) % 2 ^ 16) (pages ++ staged) ids (sym (wraps n (t.taken + 1)
          divides)) given_row.1;
      back_is = tie.back_is;
      words = tie.words;
    }
      where
        twice : (t.taken % n) % n ≡ t.taken % n
        twice = mod_small (t.taken % n) n (mod_below t.taken n nonzero)

        next_place : (l.place + 1) % n ≡ (t.taken + 1) % 2 ^ 16 % n
        next_place =
            ap (λ x. (x + 1) % n) tie.place ∙ further n (t.taken % n) t.taken 1 twice ∙ sym (wraps n (t.taken + 1) divides)

  -- a chain is returned
  module _ (page : List ℕ) {id : ℕ} {less_heads out back : List ℕ} (tie : IsQueueTied queue n at s q t heads staged l out back)
      (counted : (j : ℕ) → times j heads ≡ times j (id ∷ []) + times j less_heads) (one_less : length heads ≡ 1 + length less_heads) where
    pub tie_returned : (new : Shown) → Untouched n (Elem (t.used % n) ∷ UsedIdx ∷ []) s new → new.elem (t.used % n)
        ≡ record { id = id; len = length page }
        → new.used ≡ (t.used + 1) % 2 ^ 16 → new.page id (length page) ≡ page → length page ≤ 4096
        → IsQueueTied queue n at new q (record t { used = (t.used + 1) % 2 ^ 16 }) less_heads staged (record l {
          back = l.back ++ page
              ∷ [];
        }) out
        (back ++ id ∷ [])
    tie_returned new u elem used bytes fits = record {
      once = λ j. omega (arith, tie.once j, counted j, times-push j id back);
      all = omega (arith, tie.all, one_less, push_length back id);
      sized = tie.sized;
      free = tie.free;
      pages = λ j some. tie.pages j (omega (arith, some, counted j, times-push j id back));
      staged_count = tie.staged_count;
      avail = u.avail (tt, (tt, tt)) ∙ tie.avail;
      published = tie.published;
      taken = omega (arith, tie.taken, one_less);
      used = used;
      returned = omega (arith, tie.returned, push_length l.back page);
      small = tie.small;
      place = tie.place;
      given_out = out_kept queue n at s new t.taken (l.given ++ staged) out tie.given_out (λ i less. u.entry _ (mod_below _ n nonzero)
          (tt, (tt, tt)))
          (λ j some. same_at j (omega (arith, some)));
      back_is = back_push n new q.reaped l.back back page id
          (back_kept n s new q.reaped l.back back tie.back_is elems (λ j some. same_at j (omega (arith, some))))
          (record {
            elem = ap new.elem (sym returns_behind) ∙ elem;
            bytes = bytes;
            fits = fits;
          });
      words = λ w. u.word w (tt, (tt, tt)) ∙ tie.words w;
    }
      where
        returns_behind : t.used % n ≡ (q.reaped + length l.back) % n
        returns_behind = ap (λ x. x % n) tie.returned ∙ wraps n (q.reaped + length l.back) divides

        same_at : (j : ℕ) → 0 < times j out + times j back → IsSameAt s new j
        same_at j some =
            let below = (tie.pages j (omega (arith, some))).0 in record {
              desc = u.desc j below (tt, (tt, tt));
              page = λ c few. u.page j c below few (tt, (tt, tt));
            }

        elems : (i : ℕ) → i < length l.back → new.elem ((q.reaped + i) % n) ≡ s.elem ((q.reaped + i) % n)
        elems i less = u.elem _ (mod_below _ n nonzero) (
          (λ same.
              apart n (q.reaped + i) (q.reaped + length l.back) (omega (arith, less))
              (omega (arith, tie.all, one_less, back_count tie))
              (sym same ∙ returns_behind)),
          (tt, tt),
        )
