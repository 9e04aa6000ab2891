use Rattle.std.proofs.Common.{◌≡◌, List, ℕ, ℤ, [], ◌∷◌, length, arith, refl, ◌+ℤ◌, FitsSigned, w64, rules}
use Rattle.std.proofs.lemmas.Int.{to_z-of_z}
use Rattle.f77_program.proofs.Summed.{next-left, next-right, next-both, next-left_alone, next-right_alone}
use Rattle.f77_program.proofs.sums.next_pair.Goals as goal

none : (pairs : List (ℕ × ℤ)) → length pairs ≡ 0 → pairs ≡ []
none [] h = refl
none (p ∷ pairs) h = absurd (omega arith)

pub returns-in_default-split_first : goal.returns-in_default-split_first
returns-in_default-split_first c =
    next-left_alone c.args.left.now c.args.right.now c.in-Some.lefts.now c.in-Some.first.now c.in-Some.ensures.cases.0 (none c.args.right.now c.in_default-split_first.ensures.cases) c.requires.left

pub returns-then-first-second : goal.returns-then-first-second
returns-then-first-second c =
    next-left c.args.left.now c.args.right.now c.in-Some.lefts.now c.in-Some-split_first-2.rights.now c.in-Some.first.now c.in-Some-split_first-2.second.now c.in-Some.ensures.cases.0 c.in-Some-split_first-2.ensures.cases.0 c.requires.left c.requires.right c.if-first-second.true

pub returns-then-second-first : goal.returns-then-second-first
returns-then-second-first c =
    next-right c.args.left.now c.args.right.now c.in-Some.lefts.now c.in-Some-split_first-2.rights.now c.in-Some.first.now c.in-Some-split_first-2.second.now c.in-Some.ensures.cases.0 c.in-Some-split_first-2.ensures.cases.0 c.requires.left c.requires.right c.if-second-first.true

pub returns-in-Some-split_first : goal.returns-in-Some-split_first
returns-in-Some-split_first c =
    next-right_alone c.args.left.now c.args.right.now c.in-Some-split_first.rights.now c.in-Some-split_first.second.now (none c.args.left.now c.in_default.ensures.cases) c.in-Some-split_first.ensures.cases.0 c.requires.right

pub returns-else-second-first : goal.returns-else-second-first
returns-else-second-first c =
    let p = c.in-Some.first.now in
    let q = c.in-Some-split_first-2.second.now in
    let both = next-both c.args.left.now c.args.right.now c.in-Some.lefts.now c.in-Some-split_first-2.rights.now p q c.in-Some.ensures.cases.0 c.in-Some-split_first-2.ensures.cases.0 c.requires.left c.requires.right (omega arith) in
    let f : FitsSigned w64 p.1 = search rules in
    let g : FitsSigned w64 q.1 = search rules in
    let r : FitsSigned w64 c.small_sum.result = search rules in
    let sum : c.small_sum.result ≡ p.1 +ℤ q.1 = rw (to_z-of_z w64 p.1 f, to_z-of_z w64 q.1 g) at c.small_sum.ensures in
    rw (to_z-of_z w64 c.small_sum.result r) (rw sum both)
