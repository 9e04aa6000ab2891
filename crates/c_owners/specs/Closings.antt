-- What is written of a processor's own cells: in front of its trips, and behind them.
use Rattle.std.specs.Prelude.{ℕ, ◌==◌, ℤ, pos, Bool, not, List, ◌++◌, length, Some, codes, unsigned_abs}
use Rattle.std.specs.Fmt.{signed_decimal}
use Rattle.std.specs.Int.{int_rem_euclid}
use Rattle.std.specs.Ordering.{int_eq}
use Rattle.nest_tree.specs.Tree.{Head, Tree}
use Rattle.owner_partition.specs.declared.anchor.Anchor.{Anchor}
use Rattle.owner_partition.specs.declared.anchor.Dist.{Dist}
use Rattle.owner_partition.specs.declared.anchor.Dist.TheVariants.{Block, Cyclic}
use Rattle.owner_partition.specs.OwnInstances.{coefficient_of}
use Rattle.c_expressions.specs.Names.{variable_name}
use Rattle.c_statements.specs.Layout.{compared}
use Rattle.c_statements.specs.Pieces.{form_text}
use Rattle.c_statements.specs.Texts.{chosen, code, each_of, indent, wanted, ◌⨾◌}
use Rattle.c_owners.specs.Owners.{OwnerText}

-- ---- in front: the cells begin with 0, and nothing is assigned yet

-- a variable's name between two texts
abbrev pub named : Tree → List ℕ → ℕ → List ℕ → List ℕ → Type 0
named tree front n behind = code (front ++ (variable_name tree n ++ behind))

abbrev pub total_begins : Tree → ℕ → List ℕ → Type 0
total_begins tree n = indent ⨾ named tree (codes "word s_") n (codes " = 0; int ") ⨾ named tree
    (codes "a_") n (codes " = 0;\n")

abbrev pub own_begins : Tree → ℕ → List ℕ → Type 0
own_begins tree n = indent ⨾ named tree (codes "word o_") n (codes " = 0;\n")

abbrev pub cells_text : Tree → List ℕ → List ℕ → List ℕ → Type 0
cells_text tree privates sums =
    each_of (total_begins tree) sums ⨾ each_of (own_begins tree) privates

-- a loop has a trip
abbrev pub has_trips_text : Tree → Head → List ℕ → Type 0
has_trips_text tree head =
    form_text tree head.m1 ⨾ code (compared head.step) ⨾ form_text tree head.m2

-- ---- behind: the owner of the last trip gives its private scalars to all

-- the value of the loop in its last trip, where it has one
abbrev pub last_by_steps : Tree → Head → List ℕ → Type 0
last_by_steps tree head = code (codes "last_trip(") ⨾ form_text tree head.m1 ⨾ code (codes ", ") ⨾
    form_text tree head.m2 ⨾ code (codes ", " ++ (signed_decimal head.step ++ codes ")"))

abbrev pub last_trip_text : Tree → Head → List ℕ → Type 0
last_trip_text tree head =
    chosen (unsigned_abs head.step == 1) (form_text tree head.m2) (last_by_steps tree head)

-- the owner of the last trip follows from the loop's value there
abbrev pub rise_in : ℕ → Dist → ℤ → ℤ
rise_in workers (Block length) rise = rise
rise_in workers Cyclic rise = int_rem_euclid rise (pos workers)

abbrev pub follows_loop : ℕ → Anchor → ℕ → Bool
follows_loop workers a n =
    not (int_eq (rise_in workers a.dist (coefficient_of a.form.loops n)) (pos 0))

-- const number z = LAST;
abbrev pub last_line : Tree → Head → List ℕ → Type 0
last_line tree head =
    indent ⨾ code (codes "const number z = ") ⨾ last_trip_text tree head ⨾ code (codes ";\n")

abbrev pub given_text : Tree → ℕ → List ℕ → Type 0
given_text tree n = named tree (codes "v_") n (codes " = ") ⨾ named tree (codes "o_") n (codes "; ")

-- if (M1 <= M2 && p == OWNER) { v_T = o_T; }
abbrev pub given_line : Tree → ℕ → Anchor → Head → List ℕ → List ℕ → Type 0
given_line tree workers a head privates =
    indent ⨾ code (codes "if (") ⨾ has_trips_text tree head ⨾ code (codes " && p == ") ⨾ OwnerText
    tree workers a (Some head.number)
    ⨾ code (codes ") { ") ⨾ each_of (given_text tree) privates ⨾ code
    (codes "} // the last trip is its own\n")

abbrev pub given_lines : Tree → ℕ → Anchor → Head → List ℕ → List ℕ → Type 0
given_lines tree workers a head privates = wanted (follows_loop workers a head.number)
    (last_line tree head) ⨾ given_line tree workers a head privates

abbrev pub privates_text : Tree → ℕ → Anchor → Head → List ℕ → List ℕ → Type 0
privates_text tree workers a head privates =
    wanted (not (length privates == 0)) (given_lines tree workers a head privates)

-- ---- and whoever has assigned a sum adds its total: if (a_S) add(&v_S, s_S);

abbrev pub total_text : Tree → ℕ → List ℕ → Type 0
total_text tree n = indent ⨾ named tree (codes "if (a_") n (codes ") add(&") ⨾ named tree
    (codes "v_") n (codes ", ") ⨾ named tree (codes "s_") n (codes ");\n")

abbrev pub closings_text : Tree → ℕ → Anchor → Head → List ℕ → List ℕ → List ℕ → Type 0
closings_text tree workers a head privates sums =
    privates_text tree workers a head privates ⨾ each_of (total_text tree) sums
