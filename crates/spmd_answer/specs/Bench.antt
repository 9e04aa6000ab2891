-- The program that `bench` runs, and what it writes of its plan.
use Rattle.std.specs.Prelude.{ℕ, List, ◌++◌, ◌∷◌, [], length, filter, codes}
use Rattle.std.specs.Fmt.{decimal}
use Rattle.std.specs.Str.{bytes_eq}
use Rattle.sync_plan.specs.declared.plan.Kind.{Kind}
use Rattle.sync_plan.specs.Kinds.{all_words, kind_word}
use Rattle.sync_plan.specs.declared.plan.Plan.{Plan}
use Rattle.plan_text.specs.PlanText.{text_of}

-- the lines of the program: sweeps over points, each the half of its neighbours' sum
abbrev pub bench_lines : ℕ → ℕ → List (List ℕ)
bench_lines points sweeps =
    codes "      PROGRAM BENCH"
    ∷ codes "      INTEGER N, M"
    ∷ (codes "      PARAMETER (N=" ++ (decimal points
    ++ (codes ", M=" ++ (decimal sweeps ++ codes ")"))))
    ∷ codes "      INTEGER A(0:N+1), B(0:N+1)"
    ∷ codes "      DO 10 I = 0, N+1"
    ∷ codes "   10 A(I) = 7*I - I*I"
    ∷ codes "      DO 40 IT = 1, M"
    ∷ codes "      DO 20 I = 1, N"
    ∷ codes "   20 B(I) = (A(I-1)+A(I+1))/2"
    ∷ codes "      DO 30 I = 1, N"
    ∷ codes "   30 A(I) = B(I)"
    ∷ codes "   40 CONTINUE"
    ∷ codes "      PRINT *, A(1), A(N)"
    ∷ codes "      END"
    ∷ []

abbrev pub bench_source : ℕ → ℕ → List ℕ
bench_source points sweeps = text_of (bench_lines points sweeps)

-- how many waits are called so
abbrev pub waits_called : List ℕ → List Kind → ℕ
waits_called word kinds = length (filter (λ k. bytes_eq (kind_word k) word) kinds)

-- what a wait is called, and how many are
abbrev pub count_of : List ℕ → List Kind → List ℕ
count_of word kinds = word ++ 32 ∷ decimal (waits_called word kinds)

-- the same of these words, each with a blank in front but the first, which has this there
abbrev pub counts_behind : List ℕ → List (List ℕ) → List Kind → List ℕ
counts_behind before [] kinds = []
counts_behind before (word ∷ words) kinds =
    before ++ (count_of word kinds ++ counts_behind (codes " ") words kinds)

-- the sizes and the workers, and how many waits of each kind the plan has
abbrev pub bench_head : ℕ → ℕ → ℕ → Plan → List ℕ
bench_head workers points sweeps plan = text_of (
    (codes "BENCH N " ++ (decimal points ++ (codes " M "
    ++ (decimal sweeps ++ (codes " WORKERS " ++ decimal workers)))))
    ∷ counts_behind [] all_words plan.kinds
    ∷ [])
