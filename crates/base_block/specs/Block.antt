-- Document 01, "Base block".
use Rattle.std.specs.Prelude.{ℕ, List, cond, length, take, drop, ltb, eqb, ℤ}
use Rattle.words.specs.Words.{word32, word64, signed}
use Rattle.words.specs.Refusals.{SHORT, BAD_SIGN}
use Rattle.words.specs.Paper.{Paper, checked, handed, handed_at}
use Rattle.base_block.specs.Checksum.{sum_of}
use Rattle.base_block.specs.declared.FileType.{FileType}
use Rattle.base_block.specs.declared.FileType.TheVariants.{Primary, TransactionLog, TransactionLogNewFormat, UnknownType}
use Rattle.base_block.specs.declared.FileFormat.{FileFormat}
use Rattle.base_block.specs.declared.FileFormat.TheVariants.{DirectMemoryLoad, UnknownFormat}
use Rattle.base_block.specs.declared.BaseBlock.{BaseBlock}

-- "Type 0 is primary, 1 log, 6 new log, every other number unknown"
unfoldable pub type_of : ℕ → FileType
type_of x = cond (eqb x 0) Primary (cond (eqb x 1) TransactionLog (cond (eqb x 6) TransactionLogNewFormat UnknownType))

-- "format 1 is direct load, others unknown"
unfoldable pub format_of : ℕ → FileFormat
format_of x = cond (eqb x 1) DirectMemoryLoad UnknownFormat

-- the fields of the first 512 bytes, which a hive and a log both have, and of the extension, which a hive has (the Rust's
-- `BaseBlockBase` and `BaseBlockExtended`)
pub record First : Type 0 where
  pub primary_sequence_number : ℕ
  pub secondary_sequence_number : ℕ
  pub last_modification_time : ℕ
  pub major_version : ℕ
  pub minor_version : ℕ
  pub file_type : FileType
  pub file_type_raw : ℕ
  pub format : FileFormat
  pub format_raw : ℕ
  pub root_cell_offset : ℤ
  pub hive_bins_data_size : ℕ
  pub clustering_factor : ℕ
  pub checksum : ℕ
  pub computed_checksum : ℕ

pub record Extension : Type 0 where
  pub flags : ℕ
  pub signature : ℕ
  pub last_reorganized_time : ℕ
  pub boot_type : ℕ
  pub boot_recover : ℕ

-- ""regf" 0; primary and secondary sequence 4, 8; time 12 (8 bytes); major, minor 20, 24; type 28; format 32; root offset 36
-- (signed); bins size 40; clustering 44; filename 48 (64 bytes); unnamed 112 (396 bytes); checksum 508"
-- "The raw number is given beside the kind." "it reports stored and computed"
unfoldable pub first_of : List ℕ → First
first_of s =
    record {
      primary_sequence_number = word32 s 4;
      secondary_sequence_number = word32 s 8;
      last_modification_time = word64 s 12;
      major_version = word32 s 20;
      minor_version = word32 s 24;
      file_type = type_of (word32 s 28);
      file_type_raw = word32 s 28;
      format = format_of (word32 s 32);
      format_raw = word32 s 32;
      root_cell_offset = signed (word32 s 36);
      hive_bins_data_size = word32 s 40;
      clustering_factor = word32 s 44;
      checksum = word32 s 508;
      computed_checksum = sum_of s;
    }

-- "The extension at 512: two 16-byte ids, flags, a 16-byte id, signature, time (8 bytes), 3,512 bytes, boot type 4088, boot
-- recover 4092"
unfoldable pub extension_of : List ℕ → Extension
extension_of s =
    record {
      flags = word32 s 544;
      signature = word32 s 564;
      last_reorganized_time = word64 s 568;
      boot_type = word32 s 4088;
      boot_recover = word32 s 4092;
    }

-- the fields of both
abbrev pub joined : First → Extension → BaseBlock
joined f x =
    record {
      primary_sequence_number = f.primary_sequence_number;
      secondary_sequence_number = f.secondary_sequence_number;
      last_modification_time = f.last_modification_time;
      major_version = f.major_version;
      minor_version = f.minor_version;
      file_type = f.file_type;
      file_type_raw = f.file_type_raw;
      format = f.format;
      format_raw = f.format_raw;
      root_cell_offset = f.root_cell_offset;
      hive_bins_data_size = f.hive_bins_data_size;
      clustering_factor = f.clustering_factor;
      checksum = f.checksum;
      computed_checksum = f.computed_checksum;
      flags = x.flags;
      signature = x.signature;
      last_reorganized_time = x.last_reorganized_time;
      boot_type = x.boot_type;
      boot_recover = x.boot_recover;
    }

unfoldable pub fields_of : List ℕ → BaseBlock
fields_of s = joined (first_of s) (extension_of s)

-- the word of the bytes "regf"
abbrev pub regf : ℕ
regf = 0x6667_6572

-- "Length is checked before signature": SHORT under a least length, BAD SIGN where the first bytes are not "regf"
unfoldable pub head_fault : ℕ → List ℕ → ℕ
head_fault least s = cond (ltb (length s) least) SHORT (cond (eqb (word32 s 0) regf) 0 BAD_SIGN)

-- SHORT "under .. 4,096 for a base block"
abbrev pub fault_of : List ℕ → ℕ
fault_of s = head_fault 4096 s

unfoldable pub block_of : List ℕ → Paper BaseBlock
block_of s = checked (fault_of s) 0 (fields_of s)

-- the n bytes at i of an image that holds a base block
unfoldable pub part_of : List ℕ → ℕ → ℕ → List ℕ
part_of s i n = handed (fault_of s) (take n (drop i s))

-- and where they start
unfoldable pub part_at : List ℕ → ℕ → ℕ
part_at s i = handed_at (fault_of s) i
