use Rattle.std.proofs.Common.{rules, ◌≡◌, ◌≢◌, ℕ, ◌+◌, ◌-◌, ◌*◌, ◌^◌, ◌<◌, IsTrue, ℤ, pos, ◌+ℤ◌, List, length, map, get_or, set, w64, FitsSigned, ap, sym, ◌∙◌, subst, arith, to_z-of_z}
use mir.Syntax.{w128}
use Rattle.std.specs.List.{range_with_len}
use Rattle.std.proofs.Math.ListN.{drop_of_length-le}
use Rattle.std.proofs.lemmas.Int.{fits_signed_from_abs}
use Rattle.std.proofs.lemmas.List.{get_or_default, length-set}
use Rattle.farkas_cert.specs.Combination.{is_narrow}
use Rattle.nest_rows.specs.Constraints.{coefficient}
use Rattle.nest_rows.proofs.Counting.{AreCounted, AreNear, counted-all, counted-at, counted-past, near-narrow}
use Rattle.nest_rows.proofs.SmallTerms.{near-more, small-at}
use Rattle.nest_systems.proofs.rows.count_terms.Goals.{then-number-ge1+then-number-sums, else-number-ge1, else-number-ge1-via-then-number-ge1+else-number-sums, else-number-ge1-via-else-number-ge1}
use Rattle.nest_systems.proofs.rows.count_terms.Goals as goal

-- what the loop keeps
abbrev Kept : List ℤ → List (ℕ × ℤ) → ℕ → List ℤ → Type 0
Kept given terms k sums = record { long : length sums ≡ length given; counted : AreCounted terms (k + 1) sums; near : AreNear (k + 1) sums }

pub loop-unknown-preserved : goal.loop-unknown-preserved
loop-unknown-preserved c =
    let terms = c.args.terms.now in
    let k = c.loop-unknown.unknown-index in
    let old = c.loop-unknown.sums in
    let d = get_or terms k (0, pos 0) in
    let lt = c.loop-unknown-test.true in
    let counted = c.loop-unknown.invariant.counted in
    let near = c.loop-unknown.invariant.near in
    let past : ((i : ℕ) → i < length old → d.0 ≢ i + 1) → c.if-number-ge1.sums ≡ old → Kept c.args.sums.now terms k c.if-number-ge1.sums = λ h same.
    let next = counted-past terms k lt old h counted near in
    subst (Kept c.args.sums.now terms k) (sym same) (record { long = c.loop-unknown.invariant.long; counted = next.0; near = next.1 }) in
    elim c.if-number-ge1.branch [
      | then-number-ge1+then-number-sums w ↦
          let place = d.0 - 1 in
          let at : d.0 ≡ place + 1 = omega (arith, w.if-number-ge1.true) in
          let within : place < length old = omega (arith, w.if-number-ge1.true, w.if-number-sums.true) in
          let term : FitsSigned w64 d.1 = search rules in
          let before : FitsSigned w128 (get_or old place (pos 0)) = search rules in
          let few : length terms * 16 < 2 ^ 63 = search rules in
          let close = near-more (get_or old place (pos 0)) d.1 k (near place within) (small-at terms k (0, pos 0) lt c.requires.small) in
          let fits : FitsSigned w128 (get_or old place (pos 0) +ℤ d.1) = fits_signed_from_abs w128 (get_or old place (pos 0) +ℤ d.1) (omega (arith, close, few, lt)) in
          let value : w.from.result ≡ d.1 = simp to_z-of_z at w.from.ensures in
          let result : FitsSigned w128 w.from.result = search rules in
          let sum : FitsSigned w128 (get_or old place (pos 0) +ℤ w.from.result) = subst (λ z. FitsSigned w128 (get_or old place (pos 0) +ℤ z)) (sym value) fits in
          let set_so : c.if-number-ge1.sums ≡ set old place (get_or old place (pos 0) +ℤ w.from.result) = simp to_z-of_z at w.sums-is in
          let next = counted-at terms k lt old place at within c.requires.small counted near in
          subst (Kept c.args.sums.now terms k) (sym (set_so ∙ ap (λ z. set old place (get_or old place (pos 0) +ℤ z)) value)) (record { long = length-set old place (get_or old place (pos 0) +ℤ d.1) ∙ c.loop-unknown.invariant.long; counted = next.0; near = next.1 })
      | else-number-ge1 w ↦ elim w.else-number-ge1.branch [
        | else-number-ge1-via-then-number-ge1+else-number-sums v ↦ past (λ i low same. omega (arith, low, same, v.if-number-sums.false)) w.sums-is
        | else-number-ge1-via-else-number-ge1 v ↦ past (λ i low same. omega (arith, same, v.if-number-ge1.false)) w.sums-is
      ]
    ]

pub returns-clause-counted : goal.returns-clause-counted
returns-clause-counted c =
    let terms = c.args.terms.now in
    let all = counted-all terms c.loop-unknown.unknown-index c.loop-unknown.sums (drop_of_length-le terms c.loop-unknown-test.false) c.loop-unknown.invariant.counted in
    all ∙ ap (λ n. map (coefficient terms) (range_with_len 1 n)) c.loop-unknown.invariant.long

pub returns-clause-narrow : goal.returns-clause-narrow
returns-clause-narrow c = λ k d lt.
    let few : length c.args.terms.now * 16 < 2 ^ 63 = search rules in
    subst (λ z. IsTrue (is_narrow z)) (sym (get_or_default c.loop-unknown.sums k d (pos 0) lt)) (near-narrow (get_or c.loop-unknown.sums k (pos 0)) c.loop-unknown.unknown-index (length c.args.terms.now) (c.loop-unknown.invariant.near k lt) c.loop-unknown.auto.unknown-index-end few)
