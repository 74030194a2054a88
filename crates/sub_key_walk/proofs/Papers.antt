-- What document 01 says of the walk's answer tells the answers apart. Assumes nothing.
use mathlib.Core.Path.{◌≡◌, ap}
use mathlib.Core.List.{List}
use Prim.Native.Nat.{ℕ}
use Rattle.words.specs.Paper.{Told, Paper, success}
use Rattle.words.specs.Buffers.{Answered}
use Rattle.words.proofs.Papers as papers
use Rattle.words.proofs.Papers.{same_reason}
use Rattle.words.proofs.Buffers.{determined}
use Rattle.sub_key_walk.specs.Answers.{walk_told, walk_paper, WalkAnswered}
use Rattle.sub_key_walk.specs.declared.Counts.{Counts}
use Rattle.sub_key_walk.specs.declared.WalkRefusal.{WalkRefusal}
use Rattle.sub_key_list.specs.Leaves.{Leaf}
use Rattle.sub_key_walk.specs.Strict.{StrictAnswered}
use Rattle.sub_key_walk.specs.Leaf.{leaf_paper, LeafAnsweredAs}
use Rattle.std.specs.Prelude.{Ok}
use Rattle.std.specs.declared.result.Result.{Result}
use Rattle.sub_key_walk.specs.declared.LeafRead.{LeafRead}

-- a refusal of the walk is told apart by what it tells
pub same-fault : (f g : WalkRefusal) → walk_told f ≡ walk_told g → f ≡ g
same-fault f g e = λ i. record { reason = same_reason (ap (λ (t : Told). t.number) e) i; position = (e i).position; lists = (e i).lists; places = (e i).places; entries = (e i).entries; dropped = (e i).dropped }

pub paper_injective : (a b : Result Counts WalkRefusal) → walk_paper a ≡ walk_paper b → a ≡ b
paper_injective = papers.paper_injective (λ v w e. e) same-fault

-- two answers and two buffers that are allowed for one input are equal, whichever way the lists are read
walk_determined : (right : Paper Counts) (ks old : List ℕ) (r r' : (Result Counts WalkRefusal)) (new new' : List ℕ) → Answered (walk_paper r) right ks old new
    → Answered (walk_paper r') right ks old new' → (r ≡ r') × (new ≡ new')
walk_determined right ks old r r' new new' x y = let e = determined x y in (paper_injective r r' e.0, e.1)

pub answers_determined : (s : List ℕ) (base count list budget : ℕ) {old : List ℕ} {r r' : (Result Counts WalkRefusal)} {new new' : List ℕ}
    → WalkAnswered s base count list budget old r new → WalkAnswered s base count list budget old r' new' → (r ≡ r') × (new ≡ new')
answers_determined s base count list budget {r = r} {r' = r'} x y = walk_determined _ _ _ r r' _ _ x y

pub strict_answers_determined : (s : List ℕ) (base count list budget minor : ℕ) {old : List ℕ} {r r' : (Result Counts WalkRefusal)} {new new' : List ℕ}
    → StrictAnswered s base count list budget minor old r new → StrictAnswered s base count list budget minor old r' new' → (r ≡ r') × (new ≡ new')
strict_answers_determined s base count list budget minor {r = r} {r' = r'} x y = walk_determined _ _ _ r r' _ _ x y

-- an answer that succeeds by document 01 is a success of the code
pub paper_read : (r : (Result Counts WalkRefusal)) (t : Counts) → walk_paper r ≡ success t → r ≡ Ok t
paper_read r t e = paper_injective r (Ok t) e

-- ---- one leaf list

pub leaf_paper_injective : (a b : Result LeafRead WalkRefusal) → leaf_paper a ≡ leaf_paper b → a ≡ b
leaf_paper_injective = papers.paper_injective (λ v w e. e) same-fault

pub leaf_answers_determined : (a : Paper Leaf) {old : List ℕ} {r r' : (Result LeafRead WalkRefusal)} {new new' : List ℕ}
    → LeafAnsweredAs a old r new → LeafAnsweredAs a old r' new' → (r ≡ r') × (new ≡ new')
leaf_answers_determined a {r = r} {r' = r'} x y = let e = determined x y in (leaf_paper_injective r r' e.0, e.1)
