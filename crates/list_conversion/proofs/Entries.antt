-- The list's count, the hashes of its keys, and the loop that judges them. Assumes nothing.
use Prim.{Unit, tt}
use mathlib.Core.Path.{◌≡◌, refl, sym, ap, subst, ◌∙◌}
use mathlib.Core.Bool.{Bool, true, false, cond}
use mathlib.Core.List.{List, [], ◌∷◌, ◌++◌, map, map-append}
use Prim.Native.Nat.{ℕ, zero, suc, ◌+◌, ◌*◌, ◌/◌, ◌%◌, ◌≤◌, ◌<◌}
use native.Mathlib.Nat.{mod-lt, not-suc-le-zero}
use native.Mathlib.Numerals.{add-one}
use native.Mathlib.Omega.{arith}
use lib.Dec.{leb, eqb}
use lib.ListN.{length, get_or, drop, drop_of_length-le}
use lib.Seq.{drop-cons}
use borrow.Author.Tests.{le-leb, lt-leb, eq-eqb, ne_eqb, eqb-true}
use Rattle.words.specs.Paper.{Told, Paper, success, refused, by, on_success, then_by}
use Rattle.words.specs.Refusals.{OUTSIDE, BAD_SIGN, BAD_NAME}
use Rattle.words.proofs.Papers.{refused-success, same-success, by_success_of, on-success, on_success_of, on-refused, on_refused_of}
use Rattle.sub_key_list.specs.Lists.{LH, LI, entry_size, Listed, leaf, index, list_at}
use Rattle.cell_key_node.specs.Key.{key_at, key_name}
use Rattle.cell_key_node.specs.ValueList.{up_to}
use Rattle.cell_key_node.specs.declared.KeyNode.{KeyNode}
use Rattle.cell_key_node.proofs.Fill.{up_length, up_at}
use Rattle.name_hash.specs.Characters.{upper_of, character_of}
use Rattle.name_hash.specs.Hash.{name_hash_of}
use Rattle.name_hash.specs.Hash as nameHash
use Rattle.list_conversion.specs.Entries.{only_kind, count_of, offset_in, key_hash, entry, hashed, lh_entries, li_entries, judged_of, lh_count, or_zero, hash_of, lh_entry}
use Rattle.list_conversion.proofs.Lists.{leaf_read}

-- ---- how many entries, by what the list is

module _ (kind : ℕ) (s : List ℕ) (p : ℕ) where
  pub count-refused : {t : Told} → refused t ≡ list_at s p → refused t ≡ count_of kind s p
  unfolding count_of only_kind
  count-refused e = rw (← e)

  pub count_index : {n : ℕ} → success (index n) ≡ list_at s p → refused (by BAD_SIGN p) ≡ count_of kind s p
  unfolding count_of only_kind
  count_index e = rw (← e)

  module _ {k size n : ℕ} (e : success (leaf k size n) ≡ list_at s p) where
    pub count_other : (k ≡ kind → ⊥) → refused (by BAD_SIGN p) ≡ count_of kind s p
    unfolding count_of only_kind
    count_other h = simp (← e, ne_eqb _ _ h)

    pub count_known : k ≡ kind → success n ≡ count_of kind s p
    unfolding count_of only_kind
    count_known h = simp (← e, eq-eqb _ _ h)

-- and back: the list that was counted
pub count_of_list : (kind : ℕ) (s : List ℕ) (p : ℕ) {n : ℕ} → count_of kind s p ≡ success n → list_at s p ≡ success (leaf kind (entry_size kind) n)
unfolding count_of only_kind
count_of_list kind s p {n} e = go (list_at s p) refl e
  where
    known : (b : Bool) {k m : ℕ} → eqb k kind ≡ b → cond b (success m) (refused (by BAD_SIGN p)) ≡ success n → (k ≡ kind) × (m ≡ n)
    known true q f = (eqb-true _ _ q, same-success f)
    known false q f = absurd (refused-success f)

    go : (a : Paper Listed) → list_at s p ≡ a → only_kind kind p a ≡ success n → list_at s p ≡ success (leaf kind (entry_size kind) n)
    go (success (leaf k size m)) q f =
        let r = known (eqb k kind) refl f in
        let z : entry_size k ≡ size = (leaf_read s p q).size_is in
        q ∙ (λ i. success (leaf (r.0 i) (sym z i) (r.1 i))) ∙ ap (λ (u : ℕ). success (leaf kind (entry_size u) n)) r.0
    go (success (index m)) q f = absurd (refused-success f)
    go (refused t) q f = absurd (refused-success f)

-- ---- the hash of the key record at a place

module _ (image : List ℕ) (place : ℕ) where
  pub hash_outside : 4294967296 ≤ place → refused (by OUTSIDE place) ≡ key_hash image place
  unfolding key_hash
  hash_outside h = simp (le-leb _ _ h)

  module _ (h : place < 4294967296) where
    pub hash_unread : {t : Told} → refused t ≡ key_at image place 0 → refused t ≡ key_hash image place
    unfolding key_hash then_by
    hash_unread e = simp (lt-leb _ _ h, ← e)

    pub hash_read : {k : KeyNode} {name : List ℕ} {a : Paper ℕ} → success k ≡ key_at image place 0 → name ≡ key_name image place
        → a ≡ name_hash_of k.key_node_flag_bits name → a ≡ key_hash image place
    unfolding key_hash then_by
    hash_read e n q = q ∙ simp (lt-leb _ _ h, ← e, ← n)

-- a hash has 32 bits
hash_small : (upper f : ℕ → ℕ) (n : ℕ) → nameHash.hash_of upper f n < 4294967296
unfolding nameHash.hash_of
hash_small upper f zero = omega arith
hash_small upper f (suc n) = mod-lt (nameHash.hash_of upper f n * 37 + upper (f n)) {m = 4294967296} (omega arith)

name_small : (flags : ℕ) (name : List ℕ) {h : ℕ} → name_hash_of flags name ≡ success h → h < 4294967296
unfolding name_hash_of
name_small flags name {h} e = go (eqb (flags / 32 % 2) 1) (eqb (length name % 2) 1) e
  where
    below : {x : ℕ} → x < 4294967296 → success x ≡ success h → h < 4294967296
    below l q = subst (λ (u : ℕ). u < 4294967296) (same-success q) l

    go : (a b : Bool)
        → cond a (success (nameHash.hash_of upper_of (character_of false name) (length name)))
        (cond b (refused (by BAD_NAME 0)) (success (nameHash.hash_of upper_of (character_of true name) (length name / 2)))) ≡ success h
        → h < 4294967296
    go true b q = below (hash_small upper_of (character_of false name) (length name)) q
    go false true q = absurd (refused-success q)
    go false false q = below (hash_small upper_of (character_of true name) (length name / 2)) q

pub key_hash_small : (image : List ℕ) (place : ℕ) {h : ℕ} → key_hash image place ≡ success h → h < 4294967296
unfolding key_hash
key_hash_small image place {h} e = go (leb 4294967296 place) e
  where
    go : (b : Bool)
        → cond b (refused (by OUTSIDE place))
        (then_by (key_at image place 0) (λ (k : KeyNode). name_hash_of k.key_node_flag_bits (key_name image place))) ≡ success h
        → h < 4294967296
    go true q = absurd (refused-success q)
    go false q =
        let r = by_success_of (λ (k : KeyNode). name_hash_of k.key_node_flag_bits (key_name image place)) (key_at image place 0) q in
        name_small r.0.key_node_flag_bits (key_name image place) r.2

-- ---- the entries of an `lh` list, one by one

same_verdict : (e : ℕ) (a : Paper (List ℕ)) → ◌≡◌ {A = Paper (Unit {0})} (on_success (λ es. tt) (on_success (λ (es : List ℕ). e ∷ es) a)) (on_success (λ es. tt) a)
unfolding on_success
same_verdict e (success es) = refl
same_verdict e (refused t) = refl

module _ (image : List ℕ) (base : ℕ) where
  pub judged_hash : (o : ℕ) (os : List ℕ) {h : ℕ} → key_hash image (o + base) ≡ success h → judged_of image base (o ∷ os) ≡ judged_of image base os
  unfolding hashed then_by on_success
  judged_hash o os {h} e = rw e (same_verdict (entry o h) (hashed image base os))

  pub judged-refused : (o : ℕ) (os : List ℕ) {t : Told} → key_hash image (o + base) ≡ refused t → judged_of image base (o ∷ os) ≡ refused t
  unfolding hashed then_by on_success
  judged-refused o os e = rw e

  -- from entry i on, of the offsets f 0, f 1, .. before f n
  module _ (f : ℕ → ℕ) (n : ℕ) where
    abbrev pub rest : ℕ → List ℕ
    rest i = drop i (up_to f n)

    rest_here : (i : ℕ) → i < n → rest i ≡ f i ∷ rest (i + 1)
    rest_here i h =
        let k : i < length (up_to f n) = rw (up_length f n) h in
        rw (drop-cons (up_to f n) i 0 k, up_at f n i h, add-one)

    module _ (i : ℕ) (h : i < n) {place : ℕ} (e : place ≡ f i + base) where
      pub judging_on : {v : ℕ} → success v ≡ key_hash image place → judged_of image base (rest i) ≡ judged_of image base (rest (i + 1))
      judging_on q = ap (judged_of image base) (rest_here i h) ∙ judged_hash (f i) (rest (i + 1)) (sym (q ∙ ap (key_hash image) e))

      pub judging_refused : {t : Told} → refused t ≡ key_hash image place → judged_of image base (rest i) ≡ refused t
      judging_refused q = ap (judged_of image base) (rest_here i h) ∙ judged-refused (f i) (rest (i + 1)) (sym (q ∙ ap (key_hash image) e))

    pub judging_end : (i : ℕ) → n ≤ i → judged_of image base (rest i) ≡ success tt
    unfolding hashed on_success
    judging_end i h =
        let k : length (up_to f n) ≤ i = rw (up_length f n) h in
        ap (judged_of image base) (drop_of_length-le (up_to f n) k)

-- ---- judged whole, the entries are those that are written

map_up : (g f : ℕ → ℕ) (n : ℕ) → map g (up_to f n) ≡ up_to (λ i. g (f i)) n
unfolding up_to
map_up g f zero = refl
map_up g f (suc n) = map-append g (up_to f n) (f n ∷ []) ∙ ap (λ (r : List ℕ). r ++ (g (f n) ∷ [])) (map_up g f n)

module _ (image : List ℕ) (base : ℕ) where
  -- where every key has a hash, each offset is written with its own
  pub hashed_all : (os : List ℕ) → judged_of image base os ≡ success tt → hashed image base os ≡ success (map (λ o. entry o (hash_of image base o)) os)
  unfolding hashed then_by on_success
  hashed_all [] e = refl
  hashed_all (o ∷ os) e = go (key_hash image (o + base)) refl (hashed_all os)
    where
      go : (a : Paper ℕ) → key_hash image (o + base) ≡ a
          → (judged_of image base os ≡ success tt → hashed image base os ≡ success (map (λ x. entry x (hash_of image base x)) os))
          → hashed image base (o ∷ os) ≡ success (map (λ x. entry x (hash_of image base x)) (o ∷ os))
      go (success h) q more = rw (q, more (sym (judged_hash image base o os q) ∙ e))
      go (refused t) q more = absurd (refused-success (sym (judged-refused image base o os q) ∙ e))

  pub hashed_up : (f : ℕ → ℕ) (n : ℕ) → judged_of image base (up_to f n) ≡ success tt
      → hashed image base (up_to f n) ≡ success (up_to (λ i. entry (f i) (hash_of image base (f i))) n)
  hashed_up f n e = hashed_all (up_to f n) e ∙ ap success (map_up (λ o. entry o (hash_of image base o)) f n)

  -- and each key has that hash
  pub hashed-each : (os : List ℕ) → judged_of image base os ≡ success tt → (i : ℕ) → i < length os
      → key_hash image (get_or os i 0 + base) ≡ success (hash_of image base (get_or os i 0))
  hashed-each [] e i l = absurd (not-suc-le-zero l)
  hashed-each (o ∷ os) e i l = go (key_hash image (o + base)) refl i l (hashed-each os)
    where
      go : (a : Paper ℕ) → key_hash image (o + base) ≡ a → (i : ℕ) → i < length (o ∷ os)
          → (judged_of image base os ≡ success tt → (i : ℕ) → i < length os → key_hash image (get_or os i 0 + base) ≡ success (hash_of image base (get_or os i 0)))
          → key_hash image (get_or (o ∷ os) i 0 + base) ≡ success (hash_of image base (get_or (o ∷ os) i 0))
      go (refused t) q i l more = absurd (refused-success (sym (judged-refused image base o os q) ∙ e))
      go (success h) q zero l more = q ∙ ap (λ (a : Paper ℕ). success (or_zero a)) (sym q)
      go (success h) q (suc i) l more = more (sym (judged_hash image base o os q) ∙ e) i (omega arith)

  -- where each has one, all is judged whole
  pub judged_all : (os : List ℕ) → ((i : ℕ) → i < length os → (h : ℕ) × (key_hash image (get_or os i 0 + base) ≡ success h)) → judged_of image base os ≡ success tt
  unfolding hashed on_success
  judged_all [] h = refl
  judged_all (o ∷ os) h = judged_hash image base o os (h 0 (omega arith)).1 ∙ judged_all os (λ i l. h (suc i) (omega arith))

-- ---- what was written, by its entries

pub lh-counted : (s : List ℕ) (p : ℕ) (image : List ℕ) (base : ℕ) {n : ℕ} → count_of LI s p ≡ success n
    → lh_entries s p image base ≡ hashed image base (up_to (offset_in (drop p s) 4) n)
unfolding lh_entries then_by
lh-counted s p image base e = rw e

pub record LhOf (s : List ℕ) (p : ℕ) (image : List ℕ) (base : ℕ) (es : List ℕ) : Type 0 where
  pub count : ℕ
  pub list : list_at s p ≡ success (leaf LI 4 count)
  pub entries : es ≡ up_to (lh_entry image base (drop p s)) count
  pub hashes : (i : ℕ) → i < count → key_hash image (offset_in (drop p s) 4 i + base) ≡ success (hash_of image base (offset_in (drop p s) 4 i))

pub lh_of : (s : List ℕ) (p : ℕ) (image : List ℕ) (base : ℕ) {es : List ℕ} → lh_entries s p image base ≡ success es → LhOf s p image base es
unfolding lh_entries entry_size
lh_of s p image base e =
    let r = by_success_of (λ n. hashed image base (up_to (offset_in (drop p s) 4) n)) (count_of LI s p) e in
    let n : ℕ = r.0 in
    let f : ℕ → ℕ = offset_in (drop p s) 4 in
    let j : judged_of image base (up_to f n) ≡ success tt = on-success (λ (es : List ℕ). tt {0}) r.2 in
    record {
      count = n;
      list = count_of_list LI s p r.1;
      entries = same-success (sym r.2 ∙ hashed_up image base f n j);
      hashes = λ i l. subst (λ (o : ℕ). key_hash image (o + base) ≡ success (hash_of image base o)) (up_at f n i l) (hashed-each image base (up_to f n) j i (rw (up_length f n) l));
    }

pub li-counted : (s : List ℕ) (p : ℕ) {n : ℕ} → count_of LH s p ≡ success n → li_entries s p ≡ success (up_to (offset_in (drop p s) 8) n)
unfolding li_entries on_success
li-counted s p e = rw e

pub record LiOf (s : List ℕ) (p : ℕ) (es : List ℕ) : Type 0 where
  pub count : ℕ
  pub list : list_at s p ≡ success (leaf LH 8 count)
  pub entries : es ≡ up_to (offset_in (drop p s) 8) count

pub li_of : (s : List ℕ) (p : ℕ) {es : List ℕ} → li_entries s p ≡ success es → LiOf s p es
unfolding li_entries entry_size
li_of s p e =
    let r = on_success_of (λ n. up_to (offset_in (drop p s) 8) n) (count_of LH s p) e in
    record { count = r.0; list = count_of_list LH s p r.1; entries = sym r.2 }

-- ---- what is written, by what the code has found

module _ (s : List ℕ) (p : ℕ) (image : List ℕ) (base : ℕ) where
  pub judge_uncounted : {t : Told} → refused t ≡ count_of LI s p → refused t ≡ lh_count s p image base
  unfolding lh_entries then_by on_success
  judge_uncounted e = rw (← e)

  module _ {n : ℕ} (e : success n ≡ count_of LI s p) {l : List ℕ} (b : l ≡ drop p s) where
    judged : {v : Paper (Unit {0})} → v ≡ judged_of image base (up_to (offset_in l 4) n) → judged_of image base (up_to (offset_in (drop p s) 4) n) ≡ v
    judged j = sym (j ∙ ap (λ (k : List ℕ). judged_of image base (up_to (offset_in k 4) n)) b)

    pub judge-refused : {t : Told} → refused t ≡ judged_of image base (up_to (offset_in l 4) n) → refused t ≡ lh_count s p image base
    judge-refused q =
        sym (on-refused _ (lh-counted s p image base (sym e) ∙ on_refused_of (λ (es : List ℕ). tt {0}) (hashed image base (up_to (offset_in (drop p s) 4) n)) (judged q)))

    pub judge-whole : success tt ≡ judged_of image base (up_to (offset_in l 4) n) → success n ≡ lh_count s p image base
    judge-whole q =
        ap success (sym (up_length (lh_entry image base (drop p s)) n))
        ∙ sym (on-success _ (lh-counted s p image base (sym e) ∙ hashed_up image base (offset_in (drop p s) 4) n (judged q)))

-- ---- judged, its entries are known from their number

pub lh_laid : (s : List ℕ) (p : ℕ) (image : List ℕ) (base : ℕ) → on_success (up_to (lh_entry image base (drop p s))) (lh_count s p image base) ≡ lh_entries s p image base
unfolding on_success
lh_laid s p image base = go (lh_entries s p image base) refl
  where
    go : (a : Paper (List ℕ)) → lh_entries s p image base ≡ a
        → on_success (up_to (lh_entry image base (drop p s))) (on_success (λ (es : List ℕ). length es) a) ≡ a
    go (success es) e =
        let o = lh_of s p image base e in
        let k : length es ≡ o.count = ap length o.entries ∙ up_length (lh_entry image base (drop p s)) o.count in
        ap success (ap (up_to (lh_entry image base (drop p s))) k ∙ sym o.entries)
    go (refused t) e = refl
