-- Scripts that can be played.
use Rattle.std.specs.List.{AllByRecursion}
use Rattle.vs_play.specs.{Answer.events_in, Ready.IsPlayable}
use Rattle.vs_script.specs.Script.{Saying, Plays}

-- Each line may be played, where a script is one of a play.
abbrev pub IsPlayed : Saying → Type 0
IsPlayed (Plays lines) = AllByRecursion IsPlayable (events_in lines)
IsPlayed _ = Unit {0}
