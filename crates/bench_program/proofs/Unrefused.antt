-- `bench` is never refused its own source.
use Rattle.std.proofs.Common.{◌≡◌, ℕ, ◌+◌, ◌≤◌, pos, List, [], Option, Some, None, refl, sym, ap, ◌∙◌, arith}
use Rattle.std.specs.Fmt as fmt
use Rattle.f77_forms.specs.Characters.{decimal}
use Rattle.range_check.specs.Outside.{outside_of}
use Rattle.range_check.specs.declared.outside.OutOfRange.{OutOfRange}
use Rattle.range_check.proofs.Lists.{some_in_range}
use Rattle.spmd_answer.specs.Bench.{bench_source}
use Rattle.std.specs.Option.{option_map, option_or}
use Rattle.nest_tree.specs.Limits.{first_limit}
use Rattle.nest_tree.specs.Tree.{Tree}
use Rattle.plan_input.specs.declared.error.InputError.{InputError}
use Rattle.plan_input.specs.declared.error.InputError.TheVariants.{Limit, Range}
use Rattle.spmd_answer.specs.Due.{due_of_refusal, due_of_error}
use Rattle.spmd_answer.specs.declared.source.Behind.TheVariants.{Comments}
use Rattle.bench_program.proofs.Listed.{AreDigits, source, source-ends, source-entries, source-faultless}
use Rattle.bench_program.proofs.Faultless.{program-is, statements-faultless, tree}
use Rattle.bench_program.proofs.Limited.{no_limit_passed}
use Rattle.bench_program.proofs.Inside.{all_inside}
use Rattle.bench_program.proofs.Sized.{sizes-digits, value-is}

-- no subscript is out of range
none_outside : (points sweeps : ℕ) → 1 ≤ points → outside_of (tree points sweeps (pos (points + 1))) ≡ None
none_outside points sweeps some = by_case (outside_of (tree points sweeps (pos (points + 1)))) refl
  where
    by_case : (o : Option OutOfRange) → o ≡ outside_of (tree points sweeps (pos (points + 1))) → outside_of (tree points sweeps (pos (points + 1))) ≡ None
    by_case None e = sym e
    by_case (Some o) e = absurd (some_in_range (tree points sweeps (pos (points + 1))) o e (all_inside points sweeps some))

-- the first limit that a program passes, or else its first subscript out of range
abbrev error_of_tree : Tree → Option InputError
error_of_tree t = option_or (option_map Limit (first_limit t)) (option_map Range (outside_of t))

none_of_tree : (points sweeps : ℕ) → 1 ≤ points → points ≤ 500000 → sweeps ≤ 1000000 → error_of_tree (tree points sweeps (pos (points + 1))) ≡ None
none_of_tree points sweeps some few fewer = rw (no_limit_passed points sweeps few fewer, none_outside points sweeps some) refl

-- whatever digits stand for the sizes
none_of_digits : (ds es : List ℕ) → AreDigits ds → AreDigits es → 1 ≤ decimal ds → decimal ds ≤ 500000 → decimal es ≤ 1000000 → due_of_refusal Comments (source ds es) [] ≡ None
none_of_digits ds es a b some few fewer =
    rw (source-faultless ds es a b, source-ends ds es a b, source-entries ds es a b, statements-faultless ds es few a b)
    (ap (λ t. option_map (due_of_error Comments) (error_of_tree t)) (program-is ds es few a b) ∙ ap (option_map (due_of_error Comments)) (none_of_tree (decimal ds) (decimal es) some few fewer))

pub never_refused : (points sweeps : ℕ) → 1 ≤ points → points ≤ 500000 → sweeps ≤ 1000000 → due_of_refusal Comments (bench_source points sweeps) [] ≡ None
never_refused points sweeps some few fewer =
    let low = value-is points (omega (arith, few)) in
    let count = value-is sweeps fewer in
    none_of_digits (fmt.decimal points) (fmt.decimal sweeps) (sizes-digits points (omega (arith, few))) (sizes-digits sweeps fewer) (omega (arith, some, low)) (omega (arith, few, low)) (omega (arith, fewer, count))
