-- The order of elimination names each unknown once.
use Rattle.std.proofs.Common.{◌≡◌, ℕ, suc, ◌+◌, ◌-◌, ◌≤◌, List, [], ◌∷◌, ◌++◌, ap, sym, ◌∙◌, subst, arith}
use Rattle.std.specs.List.{range_with_len}
use Rattle.std.specs.List.Sorted.{IsPermutation}
use Rattle.std.proofs.lemmas.List.Sorted.{IsPermutation-append_right, IsPermutation-cons, IsPermutation-middle, IsPermutation-refl, IsPermutation-sym, IsPermutation-trans}
use Rattle.list_lemmas.proofs.Ranges.{range_split}
use Rattle.fm_elim.specs.Answers.{NamesEachOnce}
use Rattle.owner_partition.specs.declared.anchor.Dist.{Dist}
use Rattle.owner_partition.specs.declared.anchor.Dist.TheVariants.{Block, Cyclic}
use Rattle.plan_maker.specs.Orders.{elimination_order, owners_from, rounds_from, unknowns_of}

pub range-more : (n : ℕ) → range_with_len 1 (n + 1) ≡ range_with_len 1 n ++ (n + 1) ∷ []
range-more n = let e : 1 + n ≡ n + 1 = omega arith in range_split 1 n 1 ∙ ap (λ k. range_with_len 1 n ++ k ∷ []) e

-- the unknowns of owners, from this one on
owners-once : (q : ℕ) (dists : List Dist) → IsPermutation (range_with_len q (unknowns_of dists)) (owners_from q dists ++ rounds_from q dists)
owners-once q [] = IsPermutation-refl []
owners-once q (Block b ∷ dists) =
    let more : 1 + unknowns_of dists ≡ suc (unknowns_of dists) = omega arith in
    subst (λ n. IsPermutation (range_with_len q n) (q ∷ (owners_from (q + 1) dists ++ rounds_from (q + 1) dists))) (sym more)
    (IsPermutation-cons q (range_with_len (q + 1) (unknowns_of dists)) (owners_from (q + 1) dists ++ rounds_from (q + 1) dists) (owners-once (q + 1) dists))
owners-once q (Cyclic ∷ dists) =
    let more : 2 + unknowns_of dists ≡ suc (suc (unknowns_of dists)) = omega arith in
    let two : q + 1 + 1 ≡ q + 2 = omega arith in
    let one : q + 1 ≡ suc q = omega arith in
    let os = owners_from (q + 2) dists in
    let rs = rounds_from (q + 2) dists in
    let rest = subst (λ n. IsPermutation (range_with_len n (unknowns_of dists)) (os ++ rs)) (sym two) (owners-once (q + 2) dists) in
    let next : IsPermutation ((q + 1) ∷ range_with_len (q + 1 + 1) (unknowns_of dists)) (suc q ∷ (os ++ rs)) =
    subst (λ n. IsPermutation (n ∷ range_with_len (q + 1 + 1) (unknowns_of dists)) (suc q ∷ (os ++ rs))) (sym one) (IsPermutation-cons (suc q) (range_with_len (q + 1 + 1) (unknowns_of dists)) (os ++ rs) rest) in
    let moved : IsPermutation (suc q ∷ (os ++ rs)) (os ++ (suc q ∷ rs)) = IsPermutation-sym (os ++ (suc q ∷ rs)) (suc q ∷ (os ++ rs)) (IsPermutation-middle os (suc q) rs) in
    let both = IsPermutation-trans ((q + 1) ∷ range_with_len (q + 1 + 1) (unknowns_of dists)) (suc q ∷ (os ++ rs)) (os ++ (suc q ∷ rs)) next moved in
    subst (λ n. IsPermutation (range_with_len q n) (q ∷ (os ++ (suc q ∷ rs)))) (sym more)
    (IsPermutation-cons q ((q + 1) ∷ range_with_len (q + 1 + 1) (unknowns_of dists)) (os ++ (suc q ∷ rs)) both)

pub order_once : (unknowns : ℕ) (dists : List Dist) → unknowns_of dists ≤ unknowns → NamesEachOnce unknowns (elimination_order unknowns dists)
order_once unknowns dists few =
    let others = unknowns - unknowns_of dists in
    let split : unknowns ≡ others + unknowns_of dists = omega (arith, few) in
    let at : 1 + others ≡ suc others = omega arith in
    let owners = subst (λ q. IsPermutation (range_with_len q (unknowns_of dists)) (owners_from (suc others) dists ++ rounds_from (suc others) dists)) (sym at) (owners-once (suc others) dists) in
    let whole = IsPermutation-append_right (range_with_len 1 others) (range_with_len (1 + others) (unknowns_of dists)) (owners_from (suc others) dists ++ rounds_from (suc others) dists) owners in
    let range : range_with_len 1 unknowns ≡ range_with_len 1 others ++ range_with_len (1 + others) (unknowns_of dists) = ap (range_with_len 1) split ∙ range_split 1 others (unknowns_of dists) in
    subst (λ xs. IsPermutation xs (elimination_order unknowns dists)) (sym range) whole
