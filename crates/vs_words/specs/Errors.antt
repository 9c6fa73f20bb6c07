-- Why words ask for nothing, by the error of their parse.
use Rattle.clap.specs.declared.error.kind.ErrorKind.{ErrorKind}
use Rattle.clap.specs.declared.error.kind.ErrorKind.TheVariants as kind
use Rattle.vs_words.specs.declared.error.WordsError.{WordsError, TheVariants.Usage, TheVariants.OutOfMemory}

abbrev pub error_of : ErrorKind → WordsError
error_of kind.OutOfMemory = OutOfMemory
error_of _ = Usage
