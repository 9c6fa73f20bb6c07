-- Worked scripts.
use Rattle.std.specs.Prelude.{ℕ, List, [], ◌∷◌, codes, Result, Err}
use Rattle.vs_ring_port.specs.declared.queue.Queue.TheVariants.{Tx}
use Rattle.vs_script.specs.{Data.{Given, Fill}, Outside.{Turn, OfHost, HostListen, HostWrite}, Script.{Saying, Plays, Runs, Attacks}, declared.fault.{Refused.Refused, Why.Why}}
use Rattle.vs_script.specs.Play as play
use Rattle.vs_script.specs.App as app
use Rattle.vs_script.specs.Hostile as hostile

-- A guest that sends what it is given and what it fills.
abbrev pub greeting : List ℕ
greeting = codes "# a greeting\nhost listen 52\n  connect 0052\n\nsend 1 68656C6c6f\nsend 1 fill 3 250\nhost write 1 -"

abbrev pub greeting_says : Saying
greeting_says =
    Plays (
    (2, play.Around (OfHost (HostListen 52))) ∷ (3, play.Connect 52) ∷ (5, play.Send 1 (Given (codes "hello")))
    ∷ (6, play.Send 1 (Fill 3 250)) ∷ (7, play.Around (OfHost (HostWrite 1 (Given [])))) ∷ [])

-- Two apps.
abbrev pub two_apps : List ℕ
two_apps = codes "app\nconnect 52\nexchange fill 1000000 0\nclose\napp\nlisten 70\n"

abbrev pub two_apps_say : Saying
two_apps_say = Runs ((app.Connect 52 ∷ app.Exchange (Fill 1000000 0) ∷ app.Close ∷ []) ∷ (app.Listen 70 ∷ []) ∷ [])

-- A hostile guest that changes a descriptor in the middle of a turn.
abbrev pub attack : List ℕ
attack = codes "memory 4096 65536\nrings 8\ndesc tx 7 8192 44 1 0\nbefore 3 8192 fF\nturn\n"

abbrev pub attack_says : Saying
attack_says =
    Attacks (
    (1, hostile.Memory (record { at = 4096; len = 65536 })) ∷ (2, hostile.Rings 8)
    ∷ (3, hostile.WriteDesc Tx 7 (record { addr = 8192; len = 44; flags = 1; next = 0 }))
    ∷ (4, hostile.Before 3 8192 (Given (255 ∷ []))) ∷ (5, hostile.Around Turn) ∷ [])

-- A script refused at a line.
abbrev pub refused_at : ℕ → Why → Result Saying Refused
refused_at line why = Err (record { line = line; why = why })
