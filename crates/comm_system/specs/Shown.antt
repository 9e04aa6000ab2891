-- The own scalars of a phase under a cut, and which accesses others see: of a private scalar its first alone, the store in the loop's last trip.
use Rattle.std.specs.Prelude.{ℕ, ◌==◌, Bool, false, not, ◌&&◌, ◌||◌, List, [], ◌∷◌, ◌++◌, length, Option, Some, None, if◌then◌else◌}
use Rattle.std.specs.List.{filter, list_any}
use Rattle.nest_tree.specs.Tree.{Statement, do_loop, work, continue}
use Rattle.own_scalars.specs.OwnScalars.{is_sum}
use Rattle.owner_partition.specs.Cuts.{Cutting, privates_of}
use Rattle.owner_partition.specs.Marks.{is_sum_mark, mark_of}
use Rattle.conflict_rules.specs.References.{Reference, StaticPhase, references_of, variable_of}

-- the private scalars of a phase, and whether a variable is a sum scalar of it
abbrev pub privates_in : Cutting → Statement → List ℕ
privates_in cut (do_loop head body) = privates_of cut.privates head.number
privates_in cut (work w) = []
privates_in cut (continue line) = []

abbrev pub is_summed : Cutting → Statement → ℕ → Bool
is_summed cut (do_loop head body) v = is_sum_mark (mark_of cut.marks head.number) && is_sum v body
is_summed cut (work w) v = false
is_summed cut (continue line) v = false

abbrev pub is_among : List ℕ → ℕ → Bool
is_among vs v = list_any (λ w. w == v) vs

-- an access is that of a private scalar of a phase, and of an own scalar
abbrev pub is_private_in : Cutting → StaticPhase → Reference → Bool
is_private_in cut s r = is_among (privates_in cut s.what) (variable_of r.what)

-- an access of a private scalar is made, as others see it, in the last trip of the phase's loop alone: how many loops stand outside that one
abbrev pub last_in : Cutting → StaticPhase → Reference → Option ℕ
last_in cut s r = if is_private_in cut s r then Some (length s.outer) else None

abbrev pub is_own_in : Cutting → StaticPhase → Reference → Bool
is_own_in cut s r = is_private_in cut s r || is_summed cut s.what (variable_of r.what)

-- of these accesses those that others see, where those of the private scalars that were taken are left out
abbrev pub shown_among : (privates taken : List ℕ) → List Reference → List Reference
shown_among privates taken [] = []
shown_among privates taken (r ∷ rest) =
    if is_among privates (variable_of r.what)
    then (if is_among taken (variable_of r.what)
    then shown_among privates taken rest
    else r ∷ shown_among privates (taken ++ variable_of r.what ∷ []) rest)
    else r ∷ shown_among privates taken rest

-- those of a phase, in text order; and those of other scalars than its own
abbrev pub shown_of : Cutting → StaticPhase → List Reference
shown_of cut s = shown_among (privates_in cut s.what) [] (references_of s)

abbrev pub shared_of : Cutting → StaticPhase → List Reference
shared_of cut s = filter (λ r. not (is_own_in cut s r)) (references_of s)
