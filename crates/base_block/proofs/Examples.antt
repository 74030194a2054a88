-- Document 01's examples of the checksum and those of docs/CHECKSUM.md, proved of the definitions by computing them. Assumes nothing.
use mathlib.Core.Path.{◌≡◌, refl}
use Prim.Native.Nat.{ℕ}
use mathlib.Core.List.{List, [], ◌∷◌}
use lib.ListN.{replicate}
use Rattle.words.specs.Words.{little, word32}
use Rattle.words.specs.Refusals.{SHORT}
use Rattle.words.specs.Paper.{success, refused, by}
use Rattle.base_block.specs.Checksum.{xor_of, mended, sum_of, checksum_of}
use Rattle.base_block.specs.Columns.{column_of, row_of}

pub record Examples : Type 0 where
  pub zeros : checksum_of (replicate 508 0) ≡ success 1
  pub ones : checksum_of (255 ∷ 255 ∷ 255 ∷ 255 ∷ replicate 504 0) ≡ success 0xFFFF_FFFE
  pub short : checksum_of (replicate 507 0) ≡ refused (by SHORT 0)

pub examples : Examples
unfolding checksum_of sum_of mended xor_of little
examples = record { zeros = refl; ones = refl; short = refl }

-- ---- by columns, as docs/CHECKSUM.md follows them

-- twelve bytes, three rows
abbrev pub twelve : List ℕ
twelve = 0x72 ∷ 0x65 ∷ 0x67 ∷ 0x66 ∷ 0x0F ∷ 0x00 ∷ 0x00 ∷ 0x01 ∷ 0x20 ∷ 0x10 ∷ 0x00 ∷ 0x80 ∷ []

-- bytes 0 to 507 of the header in document 01's listing
abbrev pub header : List ℕ
header =
    0x72 ∷ 0x65 ∷ 0x67 ∷ 0x66 ∷ 0x01 ∷ 0x00 ∷ 0x00 ∷ 0x00 ∷ 0x01 ∷ 0x00 ∷ 0x00 ∷ 0x00 ∷ 0x00 ∷ 0x00 ∷ 0x00 ∷ 0x00 ∷
    0x00 ∷ 0x00 ∷ 0x00 ∷ 0x00 ∷ 0x01 ∷ 0x00 ∷ 0x00 ∷ 0x00 ∷ 0x05 ∷ 0x00 ∷ 0x00 ∷ 0x00 ∷ 0x00 ∷ 0x00 ∷ 0x00 ∷ 0x00 ∷
    0x01 ∷ 0x00 ∷ 0x00 ∷ 0x00 ∷ 0x20 ∷ 0x00 ∷ 0x00 ∷ 0x00 ∷ 0x00 ∷ 0x10 ∷ 0x00 ∷ 0x00 ∷ 0x01 ∷ 0x00 ∷ 0x00 ∷ 0x00 ∷
    replicate 460 0

pub record Followed : Type 0 where
  pub twelve_row : row_of twelve 3 ≡ 0x5D ∷ 0x75 ∷ 0x67 ∷ 0xE7 ∷ []
  pub twelve_joined : word32 (row_of twelve 3) 0 ≡ 0xE767_755D
  pub twelve_words : xor_of twelve 3 ≡ 0xE767_755D
  pub header_row : row_of header 127 ≡ 0x56 ∷ 0x75 ∷ 0x67 ∷ 0x66 ∷ []
  pub header-joined : word32 (row_of header 127) 0 ≡ 0x6667_7556
  pub header-sum : checksum_of header ≡ success 0x6667_7556

pub followed : Followed
unfolding checksum_of sum_of mended xor_of little column_of
followed = record { twelve_row = refl; twelve_joined = refl; twelve_words = refl; header_row = refl; header-joined = refl; header-sum = refl }
