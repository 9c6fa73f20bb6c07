-- How giving lines to a sink adds up.
use Rattle.std.proofs.Common.{◌≡◌, arith, ℕ, ◌+◌, true, List, [], ◌∷◌, ◌++◌, length, take, Option, Some, None, Result, Ok, Err, refl, sym, ap, ◌∙◌, subst, append_assoc, append-nil}
use Rattle.std.proofs.{Common.OnOk, Math.Seq.take-append-add, lemmas.List.{length-append, take-append-le}}
use Rattle.vs_outside.specs.Faults.{CountsFault}
use Rattle.vs_peer.{specs.Pieces.{Emits, EmitsSome}, proofs.Pieces.emits_append}
use Rattle.vs_report.specs.{Gives.{EmitsLines, GivesLines, joined}, declared.giving.GiveError.GiveError}
use Rattle.vs_report.specs.declared.giving.GiveError.TheVariants as fault

pub joined_append : (xs ys : List (List ℕ)) → joined (xs ++ ys) ≡ joined xs ++ joined ys
joined_append [] ys = refl
joined_append (x ∷ xs) ys = ap (λ zs. x ++ zs) (joined_append xs ys) ∙ sym (append_assoc x (joined xs) (joined ys))

-- a part of some bytes is a part of those and more
pub some_more : (old new : Option (List ℕ)) (xs ys : List ℕ) → EmitsSome old new xs → EmitsSome old new (xs ++ ys)
some_more None new xs ys h = h
some_more (Some held) new xs ys h =
    (h.0, omega (arith, h.1, length-append xs ys), h.2 ∙ ap (λ zs. Some (held ++ zs)) (sym (take-append-le h.0 xs ys (omega (arith, h.1)))))

-- some bytes, and then a part of more
pub some_append : (old mid new : Option (List ℕ)) (xs ys : List ℕ) → Emits old mid xs → EmitsSome mid new ys → EmitsSome old new (xs ++ ys)
some_append None mid new xs ys e h = subst (λ m. EmitsSome m new ys) e h
some_append (Some held) mid new xs ys e h =
    let k = subst (λ m. EmitsSome m new ys) e h in
    (length xs + k.0, omega (arith, k.1, length-append xs ys), k.2 ∙ ap (λ zs. Some zs) (append_assoc held xs (take k.0 ys) ∙ ap (λ zs. held ++ zs) (sym (take-append-add xs ys k.0))))

-- some lines whole are some of those and more
lines_more : (old new : Option (List ℕ)) (xs ys : List (List ℕ)) → EmitsLines old new xs → EmitsLines old new (xs ++ ys)
lines_more None new xs ys h = h
lines_more (Some held) new xs ys h = (h.0, h.1, h.2 ++ ys, sym (append_assoc h.0 (h.1 ∷ h.2) ys) ∙ ap (λ zs. zs ++ ys) h.3, h.4)

-- lines, and then some more whole
lines_append : (old mid new : Option (List ℕ)) (xs ys : List (List ℕ)) → Emits old mid (joined xs) → EmitsLines mid new ys → EmitsLines old new (xs ++ ys)
lines_append None mid new xs ys e h = subst (λ m. EmitsLines m new ys) e h
lines_append (Some held) mid new xs ys e h =
    let k = subst (λ m. EmitsLines m new ys) e h in
    (xs ++ k.0, k.1, k.2, append_assoc xs k.0 (k.1 ∷ k.2) ∙ ap (λ zs. xs ++ zs) k.3, k.4 ∙ ap (λ zs. Some zs) (append_assoc held (joined xs) (joined k.0) ∙ ap (λ zs. held ++ zs) (sym (joined_append xs k.0))))

no_lines : (old : Option (List ℕ)) (x : List ℕ) (xs : List (List ℕ)) → EmitsLines old old (x ∷ xs)
no_lines None x xs = refl
no_lines (Some held) x xs = ([], x, xs, refl, ap (λ ys. Some ys) (sym (append-nil held)))

-- none of some lines, where there is no memory for the first
pub gives_nothing : (old : Option (List ℕ)) (f : ℕ) (x : List ℕ) (xs : List (List ℕ)) → GivesLines old old f f (x ∷ xs) (Err fault.OutOfMemory)
gives_nothing old f x xs = (no_lines old x xs, refl)

-- the same of a result that says so
pub nothing_given : (old : Option (List ℕ)) (f : ℕ) (x : List ℕ) (xs : List (List ℕ)) (r : Result (Unit {0}) GiveError) → r ≡ Err fault.OutOfMemory
    → GivesLines old old f f (x ∷ xs) r
nothing_given old f x xs r e = rw e (gives_nothing old f x xs)

-- all of the first lines, and then the next ones, however that ends
pub gives_next : (old mid new : Option (List ℕ)) (f m g : ℕ) (xs ys : List (List ℕ)) (r : Result (Unit {0}) GiveError) → GivesLines old mid f m xs (Ok tt) → GivesLines mid new m g ys r → GivesLines old new f g (xs ++ ys) r
gives_next old mid new f m g xs ys (Ok u) a b = (subst (λ zs. Emits old new zs) (sym (joined_append xs ys)) (emits_append old mid new (joined xs) (joined ys) a.0 b.0), b.1 ∙ a.1)
gives_next old mid new f m g xs ys (Err fault.OutOfMemory) a b = (lines_append old mid new xs ys a.0 b.0, b.1 ∙ a.1)
gives_next old mid new f m g xs ys (Err fault.Sink) a b = (subst (λ zs. EmitsSome old new zs) (sym (joined_append xs ys)) (some_append old mid new (joined xs) (joined ys) a.0 b.0), subst (λ k. CountsFault true k g) a.1 b.1)

-- what ended before all of the first lines were given ended before all of them and more
pub gives_less : (old new : Option (List ℕ)) (f g : ℕ) (xs ys : List (List ℕ)) (e : GiveError) → GivesLines old new f g xs (Err e) → GivesLines old new f g (xs ++ ys) (Err e)
gives_less old new f g xs ys fault.OutOfMemory a = (lines_more old new xs ys a.0, a.1)
gives_less old new f g xs ys fault.Sink a = (subst (λ zs. EmitsSome old new zs) (sym (joined_append xs ys)) (some_more old new (joined xs) (joined ys) a.0), a.1)

-- none of some lines, of which one stands behind others
pub nothing_behind : (old : Option (List ℕ)) (f : ℕ) (xs : List (List ℕ)) (y : List ℕ) (ys : List (List ℕ)) (r : Result (Unit {0}) GiveError)
    → r ≡ Err fault.OutOfMemory → GivesLines old old f f (xs ++ y ∷ ys) r
nothing_behind old f [] y ys r e = nothing_given old f y ys r e
nothing_behind old f (x ∷ xs) y ys r e = nothing_given old f x (xs ++ y ∷ ys) r e

-- What is known of a line that was given, and of one that wasn't.
pub at_any_end : {P : Type 0} (r : Result (Unit {0}) GiveError) → P → OnOk r P
at_any_end (Ok u) h = h
at_any_end (Err e) h = tt

pub at_no_end : (P : Type 0) (r : Result (Unit {0}) GiveError) (e : GiveError) → r ≡ Err e → OnOk r P
at_no_end P r e is = subst (λ x. OnOk x P) (sym is) tt

pub given_as : (old new : Option (List ℕ)) (f g : ℕ) (r : Result (Unit {0}) GiveError) (none said text : List ℕ) → none ≡ [] → text ≡ none ++ said
    → GivesLines old new f g (text ∷ []) r → GivesLines old new f g (said ∷ []) r
given_as old new f g r none said text empty is given =
    subst (λ (t : List ℕ). GivesLines old new f g (t ∷ []) r) (is ∙ ap (λ (t : List ℕ). t ++ said) empty) given
