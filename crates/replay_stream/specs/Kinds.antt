-- How the kinds of a base block are named in a line.
use Rattle.std.specs.Prelude.{ℕ, List, codes}
use Rattle.base_block.specs.declared.FileType.{FileType}
use Rattle.base_block.specs.declared.FileType.TheVariants.{Primary, TransactionLog, TransactionLogNewFormat, UnknownType}
use Rattle.base_block.specs.declared.FileFormat.{FileFormat}
use Rattle.base_block.specs.declared.FileFormat.TheVariants.{DirectMemoryLoad, UnknownFormat}

abbrev pub type_name : FileType → List ℕ
type_name Primary = codes "primary"
type_name TransactionLog = codes "log"
type_name TransactionLogNewFormat = codes "newlog"
type_name UnknownType = codes "unknown"

abbrev pub format_name : FileFormat → List ℕ
format_name DirectMemoryLoad = codes "direct"
format_name UnknownFormat = codes "unknown"
