-- The apps of a load, one after another.
use Rattle.std.proofs.{Common.{◌≡◌, ℕ, ◌+◌, ◌*◌, ◌%◌, get_or, List, [], ◌∷◌, ◌++◌, map, sym, ap, ◌∙◌, arith}, lemmas.List.{map-append, FromFn.map-range_with_len_more}}
use Rattle.std.{proofs.lemmas.List.Elements.{All-cons, All-map, All-nil}, specs.List.{All, range_with_len}}
use Rattle.vs_script.specs.{App.{Act, Close, Connect, Exchange, app_view}, Data.Fill, declared.app.App.App}
use Rattle.vs_apps_parts.specs.Scripts.{AreRight, IsRight, script_of}
use Rattle.vs_run_report.specs.{Load.{load_app, load_script}, declared.load.TheConstants.LOAD_PORT}

pub apps_next : (number bytes c : ℕ) (old new : List App) (app : App) → script_of old ≡ map (load_app number bytes) (range_with_len 0 c)
    → app_view app ≡ load_app number bytes c → new ≡ old ++ app ∷ []
    → script_of new ≡ map (load_app number bytes) (range_with_len 0 (c + 1))
apps_next number bytes c old new app before is all =
    ap script_of all ∙ map-append app_view old (app ∷ []) ∙ ap (λ (xs : List (List Act)). xs ++ app_view app ∷ []) before
    ∙ ap (λ (x : List Act). map (load_app number bytes) (range_with_len 0 c) ++ x ∷ []) is
    ∙ sym (map-range_with_len_more (load_app number bytes) 0 c c (omega arith))

right_app : (number bytes c : ℕ) → All IsRight (load_app number bytes c)
right_app number bytes c =
    let x : Act = Exchange (Fill bytes ((number + 31 * c) % 256)) in
    All-cons IsRight (Connect LOAD_PORT) (x ∷ Close ∷ []) tt (All-cons IsRight x (Close ∷ []) tt (All-cons IsRight Close [] tt (All-nil IsRight)))

pub right_load : (number conns bytes : ℕ) → AreRight (load_script number conns bytes)
right_load number conns bytes =
    All-map (λ acts. All IsRight acts) (load_app number bytes) (range_with_len 0 conns) (λ k d within. right_app number bytes (get_or (range_with_len 0 conns) k d))
