use Rattle.std.proofs.Common.{◌≡◌, map, take}
use Rattle.clap.specs.Words.{app_of}
use Rattle.vs_words.specs.Reading.{app_with}
use Rattle.vs_words.proofs.options.command_with.Given as goal

-- the command with the options so far
abbrev pub invariant-loop-option : goal.invariant-loop-option
invariant-loop-option l = app_of l.command ≡ app_with l.name (map (λ n. n.now) (take l.option-index l.names))
