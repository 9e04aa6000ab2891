-- The shape of a plan: the first of its fields that is wrong for a program.
use Rattle.std.specs.Prelude.{ℕ, Bool, true, false, not, ◌&&◌, ◌||◌, ◌==◌, nat_le, nat_lt, List, [], ◌∷◌, length, Option, Some, None, if◌then◌else◌}
use Rattle.std.specs.List.{list_all}
use Rattle.std.specs.Option.{option_map_or}
use Rattle.nest_tree.specs.Form.{is_small, rises_above}
use Rattle.nest_tree.specs.Tree.{Statement, Statements, do_loop, work, continue, done, next, Tree}
use Rattle.nest_tree.specs.WellFormed.{is_number_of, loops_of, names_only}
use Rattle.nest_walk.specs.Texts.{Placed, placed}
use Rattle.own_scalars.specs.OwnScalars.{is_private, sum_scalars}
use Rattle.owner_partition.specs.declared.anchor.Anchor.{Anchor}
use Rattle.owner_partition.specs.Cuts.{Cutting, privates_of}
use Rattle.owner_partition.specs.declared.cut.Mark.{Mark}
use Rattle.owner_partition.specs.declared.cut.Mark.TheVariants.{Outer, Doall, Sum, Single, Inner}
use Rattle.owner_partition.specs.Marks.{enters_outer, is_closed}
pub use Rattle.owner_partition.specs.Marks.{is_doall, is_sum_mark, mark_of, marked}
pub use Rattle.owner_partition.specs.Owners.{has_places}
use Rattle.sync_plan.specs.declared.plan.ConditionRow.{ConditionRow}
use Rattle.sync_plan.specs.declared.plan.Conditions.{Conditions}
use Rattle.sync_plan.specs.declared.plan.Conditions.TheVariants.{Values, Rows}
use Rattle.sync_plan.specs.declared.plan.Kind.{Kind}
use Rattle.sync_plan.specs.declared.plan.Plan.{Plan}
use Rattle.sync_plan.specs.declared.plan.Version.{Version}
use Rattle.sync_plan.specs.declared.plan.Version.TheVariants.{One, Two, Three, Four, Five}
use Rattle.sync_plan.specs.Kinds.{anchor_in}

-- a loop inside a phase is Inner, and no other loop is
abbrev pub fits_mark : Bool → Mark → Bool
fits_mark inside Outer = not inside
fits_mark inside Doall = not inside
fits_mark inside Sum = not inside
fits_mark inside Single = not inside
fits_mark inside Inner = inside

-- each loop of these statements has a mark that it may have, where they stand inside a phase or not
abbrev mutual
  pub is_marked_well : List Mark → Bool → Statement → Bool
  is_marked_well marks inside (do_loop head body) =
      fits_mark inside (mark_of marks head.number)
      && are_marked_well marks (inside || is_closed (mark_of marks head.number)) body
  is_marked_well marks inside (work w) = true
  is_marked_well marks inside (continue line) = true

  pub are_marked_well : List Mark → Bool → Statements → Bool
  are_marked_well marks inside done = true
  are_marked_well marks inside (next s rest) =
      is_marked_well marks inside s && are_marked_well marks inside rest

-- the static phases in text order, each with the numbers of the Outer loops round it, the innermost first
abbrev pub static_phases : Tree → List Mark → List Placed
static_phases tree marks = placed tree (enters_outer marks)

-- the loops that a phase's form may name: its Outer loops and, where its trips are dealt, its own loop
abbrev pub own_loops : List Mark → Statement → List ℕ → List ℕ
own_loops marks (do_loop head body) around =
    if is_doall (mark_of marks head.number) then head.number ∷ around else around
own_loops marks (work w) around = around
own_loops marks (continue line) around = around

-- an anchor names only these loops, and named constants that are there, and its block has a length
abbrev pub is_good_anchor : ℕ → List ℕ → Anchor → Bool
is_good_anchor constants loops a = names_only constants loops a.form && has_places a.dist

abbrev pub is_good_kind : ℕ → List ℕ → Kind → Bool
is_good_kind constants loops kind =
    option_map_or (is_good_anchor constants loops) (anchor_in kind) true

-- the anchors of the static phases, and those of the kinds in front of them
abbrev pub are_good_anchors : ℕ → List Mark → List Placed → List Anchor → Bool
are_good_anchors constants marks [] anchors = true
are_good_anchors constants marks (s ∷ rest) [] = true
are_good_anchors constants marks (s ∷ rest) (a ∷ anchors) =
    is_good_anchor constants (own_loops marks s.what s.around) a
    && are_good_anchors constants marks rest anchors

abbrev pub are_good_kinds : ℕ → List Placed → List Kind → Bool
are_good_kinds constants [] kinds = true
are_good_kinds constants (s ∷ rest) [] = true
are_good_kinds constants (s ∷ rest) (k ∷ kinds) =
    is_good_kind constants s.around k && are_good_kinds constants rest kinds

-- a row of conditions names a named constant, and only ones that are there, by rising numbers, with numbers within plus or minus 2147483647
abbrev pub is_good_row : ℕ → ConditionRow → Bool
is_good_row constants row =
    nat_lt 0 (length row.coefs) && rises_above 0 row.coefs
    && list_all (λ p. is_number_of constants p.0) row.coefs && is_small row.bound

-- a version that has rows of conditions
abbrev pub has_rows : Version → Bool
has_rows One = false
has_rows Two = false
has_rows Three = true
has_rows Four = true
has_rows Five = true

abbrev pub are_good_conditions : ℕ → Version → Conditions → Bool
are_good_conditions constants version Values = true
are_good_conditions constants version (Rows rows) =
    has_rows version && list_all (is_good_row constants) rows

-- a version that has Sum loops
abbrev pub has_sums : Version → Bool
has_sums One = false
has_sums Two = false
has_sums Three = false
has_sums Four = true
has_sums Five = true

-- a version that has private scalars
abbrev pub has_privates : Version → Bool
has_privates One = false
has_privates Two = false
has_privates Three = false
has_privates Four = false
has_privates Five = true

-- numbers rise above least
abbrev pub do_rise : ℕ → List ℕ → Bool
do_rise least [] = true
do_rise least (v ∷ vs) = nat_lt least v && do_rise v vs

-- a loop with this mark and body has 1 to 16 sum scalars, in a version that has such loops, where its mark is Sum
abbrev pub is_good_sum : Version → Mark → Statements → Bool
is_good_sum version mark body = not (is_sum_mark mark)
    || (has_sums version && nat_le 1 (length (sum_scalars body))
    && nat_le (length (sum_scalars body)) 16)

-- a loop with this mark and body has no private scalar; or its trips are dealt, the version has private scalars, there are at most 16, they rise from 1, and each may be private
abbrev pub are_good_privates : Version → Mark → Statements → List ℕ → Bool
are_good_privates version mark body vs =
    length vs == 0 || (has_privates version && is_doall mark && nat_le (length vs) 16
    && do_rise 0 vs && list_all (λ v. is_private v body) vs)

-- each loop of these statements has good sums, or good private scalars
abbrev mutual
  pub has_good_sums : Version → List Mark → Statement → Bool
  has_good_sums version marks (do_loop head body) =
      is_good_sum version (mark_of marks head.number) body && have_good_sums version marks body
  has_good_sums version marks (work w) = true
  has_good_sums version marks (continue line) = true

  pub have_good_sums : Version → List Mark → Statements → Bool
  have_good_sums version marks done = true
  have_good_sums version marks (next s rest) =
      has_good_sums version marks s && have_good_sums version marks rest

abbrev mutual
  pub has_good_privates : Version → Cutting → Statement → Bool
  has_good_privates version cut (do_loop head body) =
      are_good_privates version (mark_of cut.marks head.number) body
      (privates_of cut.privates head.number) && have_good_privates version cut body
  has_good_privates version cut (work w) = true
  has_good_privates version cut (continue line) = true

  pub have_good_privates : Version → Cutting → Statements → Bool
  have_good_privates version cut done = true
  have_good_privates version cut (next s rest) =
      has_good_privates version cut s && have_good_privates version cut rest

-- there are as many lists of private scalars as loops, and they are good
abbrev pub is_privately_good : Version → Cutting → Statements → Bool
is_privately_good version cut items =
    length cut.privates == loops_of items && have_good_privates version cut items

-- the first field that is wrong: 1 the workers aren't 1 to 64; 2 the marks aren't as many as the loops; 3 a mark where it may not stand; 4 the anchors or the kinds aren't as many as the static phases; 5 an anchor of a phase; 6 an anchor of a kind; 8 the conditions; 9 the sum scalars of a Sum loop; 10 the private scalars (field 7 counts certificates, which a check of the whole plan does)
abbrev pub wrong_field : Tree → Plan → Option ℕ
wrong_field tree plan =
    let constants = length tree.params in
    let text = static_phases tree plan.cut.marks in
    if not (nat_le 1 plan.workers && nat_le plan.workers 64) then Some 1
    else if not (length plan.cut.marks == loops_of tree.items) then Some 2
    else if not (are_marked_well plan.cut.marks false tree.items) then Some 3
    else if not (length plan.anchors == length text && length plan.kinds == length text) then Some 4
    else if not (are_good_anchors constants plan.cut.marks text plan.anchors) then Some 5
    else if not (are_good_kinds constants text plan.kinds) then Some 6
    else if not (are_good_conditions constants plan.version plan.conditions) then Some 8
    else if not (have_good_sums plan.version plan.cut.marks tree.items) then Some 9
    else if not (is_privately_good plan.version plan.cut tree.items) then Some 10
    else None
