-- Sums over the accesses of a text, and over static phases with their numbers.
use Rattle.std.specs.Prelude.{ℕ, suc, ◌+◌, Bool, false, true, List, [], ◌∷◌, sum_by, if◌then◌else◌}
use Rattle.nest_tree.specs.declared.tree.Access.{Access}
use Rattle.nest_tree.specs.Tree.{Work, Statement, Statements, do_loop, work, continue, done, next}
use Rattle.nest_walk.specs.Tables.{loaded_in_work, stores_in}
use Rattle.owner_partition.specs.Cuts.{Cutting}
use Rattle.comm_system.specs.References.{StaticPhase, variable_of}
use Rattle.comm_system.specs.Shown.{is_among, privates_in}

-- what the accesses of a piece of work weigh, each by its variable and whether it stores
abbrev pub work_sum : (ℕ → Bool → ℕ) → Work → ℕ
work_sum f w = sum_by (λ l. f (variable_of l) false) (loaded_in_work w)
    + sum_by (λ (a : Access). f a.variable true) (stores_in w)

-- what those of a statement weigh, and those of some
abbrev mutual
  pub access_sum : (ℕ → Bool → ℕ) → Statement → ℕ
  access_sum f (do_loop head body) = access_sums f body
  access_sum f (work w) = work_sum f w
  access_sum f (continue line) = 0

  pub access_sums : (ℕ → Bool → ℕ) → Statements → ℕ
  access_sums f done = 0
  access_sums f (next s rest) = access_sum f s + access_sums f rest

-- of some scalars accesses weigh nothing
abbrev pub without : List ℕ → (ℕ → Bool → ℕ) → ℕ → Bool → ℕ
without scalars f v stores = if is_among scalars v then 0 else f v stores

-- what the accesses of a phase weigh that others see under a cut: of a private scalar one store
abbrev pub shown_sum : Cutting → (ℕ → Bool → ℕ) → Statement → ℕ
shown_sum cut f s =
    access_sum (without (privates_in cut s) f) s + sum_by (λ v. f v true) (privates_in cut s)

-- what static phases weigh, each with its number, the first of which is n
abbrev pub sum_from : (ℕ → StaticPhase → ℕ) → ℕ → List StaticPhase → ℕ
sum_from f n [] = 0
sum_from f n (p ∷ rest) = f n p + sum_from f (suc n) rest
