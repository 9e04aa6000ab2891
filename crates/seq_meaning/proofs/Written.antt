-- Loops' values by number, where the innermost loop comes to another trip.
use Rattle.std.proofs.Common.{◌≡◌, ℕ, ◌-◌, ◌<◌, ℤ, true, List, [], ◌∷◌, length, set, refl, arith}
use Rattle.std.specs.List.{list_all}
use Rattle.std.proofs.lemmas.Bool.{and_parts}
use Rattle.std.proofs.lemmas.List.{set-set}
use Rattle.nest_tree.specs.WellFormed.{is_number_of}
use Rattle.nest_walk.specs.ByNumber.{with_rounds}
use Rattle.nest_walk.specs.Paths.{Round}
use Rattle.nest_walk.specs.Strips.{at_value}

-- the number of the innermost loop
abbrev pub innermost : List Round → ℕ
innermost [] = 0
innermost (r ∷ rounds) = r.number

pub innermost_is : (rounds : List Round) (n : ℕ) → 0 < length rounds → ((r : Round) (rest : List Round) → rounds ≡ r ∷ rest → n ≡ r.number) → n ≡ innermost rounds
innermost_is [] n some h = absurd (omega arith)
innermost_is (r ∷ rounds) n some h = h r rounds refl

pub innermost_at : (rounds : List Round) (v : ℤ) → innermost (at_value rounds v) ≡ innermost rounds
innermost_at [] v = refl
innermost_at (r ∷ rounds) v = refl

pub innermost_numbered : (count : ℕ) (rounds : List Round) → 0 < length rounds → list_all (λ (r : Round). is_number_of count r.number) rounds ≡ true → is_number_of count (innermost rounds) ≡ true
innermost_numbered count [] some h = absurd (omega arith)
innermost_numbered count (r ∷ rounds) some h = (and_parts (is_number_of count r.number) (list_all (λ (q : Round). is_number_of count q.number) rounds) h).0

-- its value is written again
pub written_again : (loops : List ℤ) (rounds : List Round) (v : ℤ) → 0 < length rounds → set (with_rounds loops rounds) (innermost rounds - 1) v ≡ with_rounds loops (at_value rounds v)
written_again loops [] v some = absurd (omega arith)
written_again loops (r ∷ rounds) v some = set-set (with_rounds loops rounds) (r.number - 1) r.value v
