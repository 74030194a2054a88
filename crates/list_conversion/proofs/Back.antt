-- When the way back succeeds. Assumes nothing.
use mathlib.Core.Path.{◌≡◌, sym, ap, subst, ◌∙◌}
use mathlib.Core.List.{List}
use Prim.Native.Nat.{ℕ, ◌+◌, ◌≤◌, ◌<◌}
use native.Mathlib.Omega.{arith}
use lib.ListN.{length}
use Rattle.words.specs.Paper.{success}
use Rattle.sub_key_list.specs.Lists.{LH, LI, leaf, list_at}
use Rattle.list_conversion.specs.Cells.{cell_size}
use Rattle.list_conversion.specs.Entries.{key_hash}
use Rattle.list_conversion.specs.Written.{offset_at, BackToLi, BackToLh}
use Rattle.list_conversion.proofs.Lists.{leaf_read}
use Rattle.list_conversion.proofs.Written.{wrote_lh, wrote_li}
use Rattle.list_conversion.proofs.Exactly.{exactly_lh, exactly_li}
use Rattle.list_conversion.proofs.Trips.{lent_list, lent_offset}

-- a list has one count
one-count : (t : List ℕ) (q : ℕ) {kind size n m : ℕ} → list_at t q ≡ success (leaf kind size n) → list_at t q ≡ success (leaf kind size m) → n ≡ m
one-count t q a b = sym (leaf_read t q a).count_is ∙ (leaf_read t q b).count_is

pub back_to_li : BackToLi
back_to_li s b p image base old new n x t q e old' r new' x' =
    let one = wrote_lh s b p image base old new n x in
    let c : ℕ = one.0 in
    let l : list_at t q ≡ success (leaf LH 8 c) = lent_list LI 4 LH 8 s p old new n c one.1 t q e (omega arith) (omega arith) in
    let w = exactly_li t q old' r new' x' in (
      c,
      one.1.list,
      ((λ u. let y = w.0 u in subst (λ (k : ℕ). cell_size 4 k ≤ length old') (one-count t q y.1 l) y.2), λ h. w.1 (c, l, h)),
    )

pub back_to_lh : BackToLh
back_to_lh s b p old new n x t q e image base old' r new' x' =
    let one = wrote_li s b p old new n x in
    let c : ℕ = one.0 in
    let l : list_at t q ≡ success (leaf LI 4 c) = lent_list LH 8 LI 4 s p old new n c one.1 t q e (omega arith) (omega arith) in
    let o : (i : ℕ) → i < c → offset_at t q 4 i ≡ offset_at s p 8 i = lent_offset LH 8 LI 4 s p old new n c one.1 t q e (omega arith) in
    let w = exactly_lh t q image base old' r new' x' in (
      c,
      one.1.list,
      (
        (λ u.
            let y = w.0 u in
            let k : y.0 ≡ c = one-count t q y.1 l in (
              (λ i m. let h = y.2 i (omega arith) in (h.0, ap (λ (v : ℕ). key_hash image (v + base)) (sym (o i m)) ∙ h.1)),
              subst (λ (v : ℕ). cell_size 8 v ≤ length old') k y.3,
            )),
        λ h.
            w.1 (
              c,
              l,
              (λ i m. let g = h.0 i m in (g.0, ap (λ (v : ℕ). key_hash image (v + base)) (o i m) ∙ g.1)),
              h.1,
            ),
      ),
    )
