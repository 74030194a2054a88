-- Where the parts of a record that is not refused start. Assumes nothing.
use mathlib.Core.Path.{◌≡◌, ap, ◌∙◌}
use mathlib.Core.List.{List}
use Prim.Native.Nat.{ℕ, ◌+◌, min}
use native.Mathlib.Omega.{arith}
use lib.ListN.{length, take, drop, length-take}
use denote.Ref.{Bor}
use Rattle.words.specs.Words.{word16}
use Rattle.words.specs.Parts.{Part, start_of, Lies}
use Rattle.words.proofs.Parts.{retold, within, lies_from, lies_part, lies_cut, lies_within, lies_handed}
use Rattle.cell_key_node.specs.Key.{key_fault, key_name, key_name_at, key_slack, key_slack_at}
use Rattle.cell_key_node.specs.Records.{size_of, fault_at}
use Rattle.cell_key_node.proofs.Checks.{exactly_when}

-- of a record at a position that no check refuses, from the calls that read it: `cell` is what of the image stands from there on
module _
    {image cell : Bor (List ℕ)}
    (position fixed sign name_at : ℕ)
    (p : Part image cell (start_of image.now position) (drop position image.now))
    (f : fault_at image.now position fixed sign name_at ≡ 0)
  where
    abbrev it : List ℕ
    it = drop position image.now

    -- the name stands after the fixed part
    pub name_placed :
        {r : Bor (List ℕ)} {n : ℕ}
        → n ≡ word16 cell.now name_at
        → Part cell r (start_of cell.now fixed) (take n (drop fixed cell.now))
        → Part image r (position + fixed) (take (word16 it name_at) (drop fixed it))
    name_placed e q =
        let h = (exactly_when image.now position fixed sign name_at 0).0 f in
        let l : length cell.now ≡ length it = ap length p.bytes in
        retold (omega arith) (rw (e, p.bytes)) (within p q)

    -- the slack stands after the name, to the end that the record's size says
    pub slack_placed :
        {whole r : Bor (List ℕ)} {size n : ℕ}
        → size ≡ size_of cell.now
        → n ≡ word16 cell.now name_at
        → Part cell whole (start_of cell.now 0) (take size cell.now)
        → Part whole r (start_of whole.now (fixed + n)) (drop (fixed + n) whole.now)
        → Part image r (position + (fixed + word16 it name_at)) (drop (fixed + word16 it name_at) (take (size_of it) it))
    slack_placed {whole = whole} s e w q =
        let h = (exactly_when image.now position fixed sign name_at 0).0 f in
        let b : whole.now ≡ take (size_of it) it = w.bytes ∙ rw (s, p.bytes) in
        let l : length whole.now ≡ min (size_of it) (length it) = ap length b ∙ length-take (size_of it) it in
        let n : _ ≡ word16 it name_at = rw p.bytes at e in
        retold (omega arith) (rw (n, b)) (within p (within w q))

-- ---- the bytes that are said of a name and of a slack are those that stand at its place

pub name_lies :
    (image : List ℕ) (position fixed sign name_at n : ℕ)
    → fault_at image position fixed sign name_at ≡ 0
    → Lies image (position + fixed) (take n (drop fixed (drop position image)))
name_lies image position fixed sign name_at n f =
    let h = (exactly_when image position fixed sign name_at 0).0 f in
    lies_within (lies_from image position h.0) (lies_part (drop position image) fixed n h.1.0)

pub key_name_lies : (image : List ℕ) (position : ℕ) → Lies image (key_name_at image position) (key_name image position)
unfolding key_name key_name_at key_fault
key_name_lies image position = lies_handed image _ _ _ (name_lies image position 80 0x6B6E 76 (word16 (drop position image) 76))

pub key_slack_lies : (image : List ℕ) (position : ℕ) → Lies image (key_slack_at image position) (key_slack image position)
unfolding key_slack key_slack_at key_fault
key_slack_lies image position =
    lies_handed image _ _ _
    (λ f.
    let h = (exactly_when image position 80 0x6B6E 76 0).0 f in
    lies_within (lies_from image position h.0) (lies_cut (drop position image) (80 + word16 (drop position image) 76) (size_of (drop position image)) (omega arith) (omega arith)))
