-- What each call makes of one queue whose lists lie in its memory.
use Rattle.std.proofs.{lemmas.{Bool.Decides.eqb_tells, List.{get_or-set_same, get_or-set_other, length-set}, Nat.mod_below}, Common.{◌≡◌, ◌⊎◌, inl, inr, ℕ, ◌+◌, ◌*◌, ◌%◌, ◌^◌}}
use Rattle.std.proofs.Common.{◌<◌, ◌≤◌, true, false, List, [], ◌∷◌, ◌++◌, length, Some, None, refl, sym, ap, ◌∙◌, subst, arith, length-append, append_assoc, append-nil}
use Rattle.std.specs.Prelude.{◌==◌, set, slice_index_or}
use Rattle.vs_ring_port.specs.{DriverCalls.HoldsPacket, Lists.Lists, declared.queue.Queue.{Queue, TheVariants.Tx}}
use Rattle.vs_ring_plain.specs.declared.turns.Turns.{Turns}
use Rattle.vs_plain_driver.specs.Queue.{DriverQueueState, desc_for, published_queue}
use Rattle.laws_plain_rings.{specs.{Queue.{AreOut, HasPage, IsQueueTied, times}, Shown.{Shown, Word}}, proofs.Rows.{IsSameAt, back_kept, back_length, out_kept, out_length}}
use Rattle.laws_plain_rings.proofs.{Rows.out_push, Counting.{times-cons, times-other, times-push, times-self}, Modulo.{apart, wraps_further}, Spots.{AvailIdx, Describing, Entry}}
use Rattle.laws_plain_rings.proofs.Spots.{PageOf, Untouched}

pub push_length : {A : Type 0} (xs : List A) (x : A) → length (xs ++ x ∷ []) ≡ length xs + 1
push_length xs x = length-append xs (x ∷ [])

module _ {queue : Queue} {n at : ℕ} {s : Shown} {q : DriverQueueState} {t : Turns} {heads : List ℕ} {staged : List (List ℕ)} {l : Lists}
    {out back : List ℕ} (tie : IsQueueTied queue n at s q t heads staged l out back) where
  pub out_count : length out ≡ length l.given + length staged
  out_count = out_length queue n at s t.taken (l.given ++ staged) out tie.given_out ∙ length-append l.given staged

  pub back_count : length back ≡ length l.back
  back_count = back_length n s q.reaped l.back back tie.back_is

  module _ (nonzero : 0 < n) (divides : 2 ^ 16 % n ≡ 0) where
    -- other bytes where none of the lists lies
    pub tie_seen : (new : Shown) → new.avail ≡ s.avail → new.used ≡ s.used → ((k : ℕ) → k < n → new.entry k ≡ s.entry k)
        → ((k : ℕ) → k < n → new.elem k ≡ s.elem k) → ((w : Word) → new.word n w ≡ s.word n w)
        → ((id : ℕ) → 0 < times id out + times id back → IsSameAt s new id)
        → IsQueueTied queue n at new q t heads staged l out back
    tie_seen new avail used entry elem word same = record {
      once = tie.once;
      all = tie.all;
      sized = tie.sized;
      free = tie.free;
      pages = tie.pages;
      staged_count = tie.staged_count;
      avail = avail ∙ tie.avail;
      published = tie.published;
      taken = tie.taken;
      used = used ∙ tie.used;
      returned = tie.returned;
      small = tie.small;
      place = tie.place;
      given_out = out_kept queue n at s new t.taken (l.given ++ staged) out tie.given_out (λ i less. entry _ (mod_below _ n nonzero))
          (λ j some. same j (omega (arith, some)));
      back_is = back_kept n s new q.reaped l.back back tie.back_is (λ i less. elem _ (mod_below _ n nonzero)) (λ j some. same j (omega
          (arith, some)));
      words = λ w. word w ∙ tie.words w;
    }

    -- nothing of the queue is written
    pub tie_same : (new : Shown) → Untouched n [] s new → IsQueueTied queue n at new q t heads staged l out back
    tie_same new u = tie_seen new (u.avail tt) (u.used tt) (λ k is. u.entry k is tt) (λ k is. u.elem k is tt) (λ w. u.word w tt) (λ id some.
        let below = (tie.pages id (omega (arith, some))).0 in record {
          desc = u.desc id below tt;
          page = λ c few. u.page id c below few tt;
        })

    -- a page that the device holds is written
    pub tie_written : (new : Shown) (id : ℕ) → 0 < times id heads → Untouched n (PageOf id ∷ []) s new
        → IsQueueTied queue n at new q t heads staged l out back
    tie_written new id held u =
        tie_seen new (u.avail (tt, tt)) (u.used (tt, tt)) (λ k is. u.entry k is (tt, tt)) (λ k is. u.elem k is (tt, tt))
        (λ w. u.word w (tt, tt)) (λ j some.
        let below = (tie.pages j (omega (arith, some))).0 in record {
          desc = u.desc j below (tt, tt);
          page = λ c few. u.page j c below few (other j some, tt);
        })
      where
        other : (j : ℕ) → 0 < times j out + times j back → id ≡ j → ⊥
        other j some same = omega (arith, some, held, tie.once j, ap (λ (x : ℕ). times x heads) same)

    -- a page is staged
    module _ (page : List ℕ) (id : ℕ) (rest : List ℕ) (free : q.free ≡ id ∷ rest) where
      abbrev pub enter_at : ℕ
      enter_at = (q.published + q.staged) % n

      enters_behind : enter_at ≡ (t.taken + length (l.given ++ staged)) % n
      enters_behind =
          ap (λ x. (x + q.staged) % n) tie.published ∙ wraps_further n (t.taken + length l.given) q.staged divides
          ∙ ap (λ x. x % n) (omega (arith, tie.staged_count, length-append l.given staged))

      free_count : length q.free ≡ 1 + length rest
      free_count = ap length free ∙ omega arith

      free_times : (j : ℕ) → times j q.free ≡ times j (id ∷ []) + times j rest
      free_times j = ap (times j) free ∙ times-cons j id rest

      none_else : times id out + times id heads + times id back ≡ 0
      none_else = omega (arith, tie.once id, free_times id, times-self id)

      pub id_below : id < n
      id_below = tie.free id (omega (arith, free_times id, times-self id))

      pub not_id : (j : ℕ) → 0 < times j out + times j heads + times j back → id ≡ j → ⊥
      not_id j some same = omega (arith, some, none_else, ap (λ (x : ℕ). times x out + times x heads + times x back) same)

      abbrev pub staged_then : DriverQueueState
      staged_then = record q { pages = set q.pages id (Some page); free = rest; staged = q.staged + 1 }

      has_pages : (j : ℕ) → 0 < times j (out ++ id ∷ []) + times j heads + times j back → (j < n) × HasPage (set q.pages id (Some page)) j
      has_pages j some = by (eqb_tells id j)
        where
          by : (((id == j) ≡ true) × (id ≡ j)) ⊎ (((id == j) ≡ false) × (id ≡ j → ⊥)) → (j < n) × HasPage (set q.pages id (Some page)) j
          by (inl (test, same)) = (
            omega (arith, same, id_below),
            (
              page,
              subst (λ (x : ℕ). slice_index_or (set q.pages id (Some page)) x None ≡ Some page) same
                  (get_or-set_same q.pages id (Some page) None (omega (arith, id_below, tie.sized))),
            ),
          )
          by (inr (test, other)) =
              let before = tie.pages j (omega (arith, some, times-push j id out, times-other j id other)) in (
                before.0,
                (before.1.0, get_or-set_other q.pages id j (Some page) None (λ same. other (sym same)) ∙ before.1.1),
              )

      pub tie_staged : (new : Shown) → Untouched n (PageOf id ∷ Describing id ∷ Entry enter_at ∷ []) s new → new.entry enter_at ≡ id
          → new.desc id ≡ desc_for queue (at + 4096 * id) (length page) → new.page id (length page) ≡ page → length page ≤ 4096
          → (queue ≡ Tx → 44 ≤ length page) → (queue ≡ Tx → HoldsPacket page)
          → IsQueueTied queue n at new staged_then t heads (staged ++ page ∷ []) l (out ++ id ∷ []) back
      tie_staged new u entry desc bytes fits header packet = record {
        once = λ j. omega (arith, tie.once j, free_times j, times-push j id out);
        all = omega (arith, tie.all, free_count, push_length out id);
        sized = length-set q.pages id (Some page) ∙ tie.sized;
        free = λ j some. tie.free j (omega (arith, some, free_times j));
        pages = has_pages;
        staged_count = omega (arith, tie.staged_count, push_length staged page);
        avail = u.avail (tt, (tt, (tt, tt))) ∙ tie.avail;
        published = tie.published;
        taken = tie.taken;
        used = u.used (tt, (tt, (tt, tt))) ∙ tie.used;
        returned = tie.returned;
        small = tie.small;
        place = tie.place;
        given_out = subst (λ (pages : List (List ℕ)). AreOut queue n at new t.taken pages (out ++ id ∷ [])) (append_assoc l.given staged
            (page ∷ []))
            (out_push queue n at new t.taken (l.given ++ staged) out page id
            (out_kept queue n at s new t.taken (l.given ++ staged) out tie.given_out entries (λ j some. same_at j (omega (arith, some))))
            (record {
              entry = ap new.entry (sym enters_behind) ∙ entry;
              desc = desc;
              bytes = bytes;
              fits = fits;
              header = header;
              packet = packet;
            }));
        back_is = back_kept n s new q.reaped l.back back tie.back_is (λ i less. u.elem _ (mod_below _ n nonzero) (tt, (tt, (tt, tt))))
            (λ j some. same_at j (omega (arith, some)));
        words = λ w. u.word w (tt, (tt, (tt, tt))) ∙ tie.words w;
      }
        where
          entries : (i : ℕ) → i < length (l.given ++ staged) → new.entry ((t.taken + i) % n) ≡ s.entry ((t.taken + i) % n)
          entries i less = u.entry _ (mod_below _ n nonzero) (
            tt,
            (
              tt,
              (
                (λ same.
                    apart n (t.taken + i) (t.taken + length (l.given ++ staged)) (omega (arith, less))
                    (omega (arith, length-append l.given staged, out_count, tie.all, free_count))
                    (sym same ∙ enters_behind)),
                tt,
              ),
            ),
          )

          same_at : (j : ℕ) → 0 < times j out + times j heads + times j back → IsSameAt s new j
          same_at j some =
              let below = (tie.pages j some).0 in record {
                desc = u.desc j below (tt, (not_id j some, (tt, tt)));
                page = λ c few. u.page j c below few (not_id j some, (tt, (tt, tt)));
              }

    -- those staged are published
    pub tie_published : (new : Shown) → Untouched n (AvailIdx ∷ []) s new → new.avail ≡ (q.published + q.staged) % 2 ^ 16
        → IsQueueTied queue n at new (published_queue q) t heads [] (record l { given = l.given ++ staged }) out back
    tie_published new u avail = record {
      once = tie.once;
      all = tie.all;
      sized = tie.sized;
      free = tie.free;
      pages = tie.pages;
      staged_count = refl;
      avail = avail;
      published = omega (arith, tie.published, tie.staged_count, length-append l.given staged);
      taken = tie.taken;
      used = u.used (tt, tt) ∙ tie.used;
      returned = tie.returned;
      small = tie.small;
      place = tie.place;
      given_out = subst (λ (pages : List (List ℕ)). AreOut queue n at new t.taken pages out) (sym (append-nil (l.given ++ staged)))
          (out_kept queue n at s new t.taken (l.given ++ staged) out tie.given_out (λ i less. u.entry _ (mod_below _ n nonzero) (tt, tt))
          (λ j some. same_at j (omega (arith, some))));
      back_is = back_kept n s new q.reaped l.back back tie.back_is (λ i less. u.elem _ (mod_below _ n nonzero) (tt, tt))
          (λ j some. same_at j (omega (arith, some)));
      words = λ w. u.word w (tt, tt) ∙ tie.words w;
    }
      where
        same_at : (j : ℕ) → 0 < times j out + times j heads + times j back → IsSameAt s new j
        same_at j some =
            let below = (tie.pages j some).0 in record { desc = u.desc j below (tt, tt); page = λ c few. u.page j c below few (tt, tt) }
