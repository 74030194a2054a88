-- One subkey list in an image, from document 01, "The subkey walk".
use Rattle.std.specs.Prelude.{ℕ, ◌+◌, ◌-◌, ◌*◌, ◌≤◌, ◌≡◌, List, cond, ltb, eqb, length}
use Rattle.words.specs.Words.{byte_at, word16}
use Rattle.words.specs.Refusals.{OUTSIDE, BAD_SIGN, CUT_SHORT}
use Rattle.words.specs.Paper.{Paper, success, refused, by, told, paper_of}
use Rattle.std.specs.declared.option.Option.{Option}
use Rattle.std.specs.declared.option.Option.TheVariants.{Some, None}
use Rattle.sub_key_list.specs.declared.Kind.{Kind}
use Rattle.sub_key_list.specs.declared.Kind.TheVariants.{Lf, Lh, Li, Ri}
use Rattle.sub_key_list.specs.declared.SubKeyList.{SubKeyList}
use Rattle.sub_key_list.specs.declared.SubKeyList.TheVariants.{Leaf, Index}
use Rattle.std.specs.declared.result.Result.{Result}
use Rattle.words.specs.declared.Refusal.{Refusal}

-- ---- the kinds: "bytes 4 and 5 .. `ri`, `lf`, `lh` or `li`"; each is the word of its two letters

abbrev pub LF : ℕ
LF = 0x666c

abbrev pub LH : ℕ
LH = 0x686c

abbrev pub LI : ℕ
LI = 0x696c

abbrev pub RI : ℕ
RI = 0x6972

-- "entries .. of 8 bytes (`lf`, `lh`: offset, hint) or 4 (`li`, `ri`)"; 0 for any other kind
unfoldable pub entry_size : ℕ → ℕ
entry_size kind =
    cond (eqb kind LF) 8
    (cond (eqb kind LH) 8
    (cond (eqb kind LI) 4
    (cond (eqb kind RI) 4 0)))

-- the code's name for each
abbrev pub word_of : Kind → ℕ
word_of Lf = LF
word_of Lh = LH
word_of Li = LI
word_of Ri = RI

-- the name that a word has; every other word is of an unknown kind
abbrev pub KindOf : Option Kind → ℕ → Type 0
KindOf (Some k) word = word_of k ≡ word
KindOf None word = entry_size word ≡ 0

-- ---- a list, by its kind

pub data Listed : Type 0 where
  -- `lf`, `lh` or `li`: the kind, the bytes an entry, and the number of entries
  leaf : ℕ → ℕ → ℕ → Listed
  -- `ri`: the number of entries
  index : ℕ → Listed

-- a list of a known kind, with its count
unfoldable pub of_kind : ℕ → ℕ → Listed
of_kind kind count = cond (eqb kind RI) (index count) (leaf kind (entry_size kind) count)

-- "Count: 16 bits at 6"
abbrev pub kind_at : List ℕ → ℕ → ℕ
kind_at s p = word16 s (p + 4)

abbrev pub count_at : List ℕ → ℕ → ℕ
count_at s p = word16 s (p + 6)

-- the list at a position: "2, then 8 if under 8 bytes are left, 4 if bytes 4 and 5 aren't `ri`, `lf`, `lh` or `li`, 8 if its
-- entries pass the image .. The size word isn't used." A refusal tells "the position of the list".
unfoldable pub list_at : List ℕ → ℕ → Paper Listed
list_at s p =
    cond (ltb (length s) p) (refused (by OUTSIDE p))
    (cond (ltb (length s - p) 8) (refused (by CUT_SHORT p))
    (cond (eqb (entry_size (kind_at s p)) 0) (refused (by BAD_SIGN p))
    (cond (ltb (length s - p - 8) (entry_size (kind_at s p) * count_at s p)) (refused (by CUT_SHORT p))
    (success (of_kind (kind_at s p) (count_at s p))))))

-- two images of one length that agree from byte 4 of the list at `p` on: the size word, its bytes 0 to 3, may differ
pub record SameBehind (s t : List ℕ) (p : ℕ) : Type 0 where
  pub length : length s ≡ length t
  pub bytes : (i : ℕ) → p + 4 ≤ i → byte_at s i ≡ byte_at t i

-- what document 01 says of the code's answer
abbrev pub listed_of : SubKeyList → Listed
listed_of (Leaf l) = leaf (word_of l.kind) l.entry_size l.count
listed_of (Index l) = index l.count

-- and which kind a list is
abbrev pub kind_of : SubKeyList → Kind
kind_of (Leaf l) = l.kind
kind_of (Index l) = Ri

abbrev pub list_paper : Result SubKeyList Refusal → Paper Listed
list_paper = paper_of listed_of told
