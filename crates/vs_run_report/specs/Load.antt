-- The apps of a load, and the line that it prints.
use Rattle.std.specs.{Prelude.{ℕ, ◌+◌, ◌*◌, ◌%◌, ◌==◌, if◌then◌else◌, List, [], ◌∷◌, ◌++◌, map, codes, decimal}, List.range_with_len}
use Rattle.vs_script.specs.{App.Act, App.Close, App.Connect, App.Exchange, Data.Fill}
use Rattle.vs_apps_parts.specs.Scripts.{RunScript}
use Rattle.vs_run_report.specs.declared.load.TheConstants.{LOAD_PORT}

-- App c, counted from 0, exchanges so many bytes, of which byte i is (number + 31c + 7i + i/251) mod 256.
abbrev pub load_app : ℕ → ℕ → ℕ → List Act
load_app number bytes c = Connect LOAD_PORT ∷ Exchange (Fill bytes ((number + 31 * c) % 256)) ∷ Close ∷ []

abbrev pub load_script : (number conns bytes : ℕ) → RunScript
load_script number conns bytes = map (load_app number bytes) (range_with_len 0 conns)

-- How many places of two lists of bytes hold the same byte.
abbrev pub matches : List ℕ → List ℕ → ℕ
matches [] others = 0
matches (byte ∷ bytes) [] = 0
matches (byte ∷ bytes) (other ∷ others) = (if byte == other then 1 else 0) + matches bytes others

-- conns N bytes N matched N: the apps, the bytes that they sent in all, and the places where the byte that came back is the one sent
abbrev pub load_text : (conns bytes matched : ℕ) → List ℕ
load_text conns bytes matched =
    codes "conns " ++ decimal conns ++ codes " bytes " ++ decimal bytes ++ codes " matched " ++ decimal matched ++ codes "\n"

-- That of a load whose bytes all came back.
abbrev pub all_matched : (conns bytes : ℕ) → List ℕ
all_matched conns bytes = load_text conns (conns * bytes) (conns * bytes)
