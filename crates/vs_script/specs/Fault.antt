-- What a script is refused for.
use Rattle.std.specs.Prelude.{ℕ, List, ◌++◌, codes, decimal}
use Rattle.vs_script.specs.declared.fault.{Why.{Why, TheVariants.{TooLong, BadWord, BadNumber, BadHex, TooMany}}, Refused.Refused, LineFault.LineFault, ParseFault.ParseFault}
use Rattle.vs_script.specs.declared.fault.LineFault.TheVariants as line_fault
use Rattle.vs_script.specs.declared.fault.ParseFault.TheVariants as parse_fault

-- The word that is printed.
abbrev pub why_text : Why → List ℕ
why_text TooLong = codes "TooLong"
why_text BadWord = codes "BadWord"
why_text BadNumber = codes "BadNumber"
why_text BadHex = codes "BadHex"
why_text TooMany = codes "TooMany"

-- line L WHY
abbrev pub refused_text : Refused → List ℕ
refused_text refused = codes "line " ++ decimal refused.line ++ codes " " ++ why_text refused.why

-- The fault of a script, by that of its line of this number.
abbrev pub fault_at : ℕ → LineFault → ParseFault
fault_at line (line_fault.Refused why) = parse_fault.Refused (record { line = line; why = why })
fault_at line line_fault.OutOfMemory = parse_fault.OutOfMemory
