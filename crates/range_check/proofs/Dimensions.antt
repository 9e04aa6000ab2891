-- The subscripts of an access, one dimension after another.
use Rattle.std.proofs.Common.{◌≡◌, ℕ, ◌+◌, ◌-◌, ◌<◌, ◌≤◌, ℤ, pos, true, None, List, length, map, drop, get_or, ap, sym, ◌∙◌, arith}
use Rattle.std.specs.List.{list_all}
use Rattle.std.specs.Option.{option_or}
use Rattle.std.proofs.lemmas.Bool.{and_parts}
use Rattle.std.proofs.lemmas.List.{drop_all, get_or-map, get_or_default, length-map}
use Rattle.std.proofs.lemmas.List.Sums.{AllPass-from_list_all}
use Rattle.nest_tree.specs.Form.{Form, form_value, is_form}
use Rattle.nest_tree.specs.Layout.{bounds_of}
use Rattle.nest_tree.specs.Tree.{Tree, param_values}
use Rattle.nest_tree.specs.Values.{wrapped}
use Rattle.nest_tree.specs.View.{tree_of}
use Rattle.nest_tree.specs.WellFormed.{IsWellFormed, is_good_access, is_number_of, loops_of, scope_of}
use Rattle.nest_tree.specs.declared.tree.Access.{Access}
use Rattle.nest_tree.specs.declared.tree.Parameter.{Parameter}
use Rattle.nest_tree.specs.declared.program.Program.{Program}
use Rattle.nest_tree.specs.declared.tree.Variable.{Variable}
use Rattle.nest_tree.proofs.Cells.{declared-numbered}
use Rattle.nest_tree.specs.View.{declaration_of}
use Rattle.nest_tree.proofs.Places.{good_declaration}
use Rattle.nest_model.specs.Accesses.{subscript_values}
use Rattle.nest_walk.specs.Cursors.{loops_in}
use Rattle.nest_walk.specs.Paths.{Round, form_among}
use Rattle.nest_walk.specs.Places.{IsThere, numbers_of}
use Rattle.nest_walk.specs.RoundsOf.{rounds_of}
use Rattle.nest_walk.specs.Walkable.{is_small_at}
use Rattle.nest_walk.specs.declared.path.Path.{Path}
use Rattle.nest_walk.proofs.CursorMoves.{values_are}
use Rattle.nest_walk.proofs.FormValues.{exact}
use Rattle.nest_walk.proofs.GoodAccesses.{good_access-forms, good_access-there}
use Rattle.range_check.specs.Outside.{first_outside, is_sound_access, subscript_outside}
use Rattle.range_check.proofs.Lists.{outside-more}

-- what is known of a sound access
pub record SoundAccess (tree : Tree) (loops : List ℤ) (a : Access) : Type 0 where
  pub there : IsThere tree a
  pub forms : list_all is_form a.subscripts ≡ true
  pub small : list_all (is_small_at (param_values tree) loops) a.subscripts ≡ true

pub sound_access : (tree : Tree) (around : List ℕ) (loops : List ℤ) (a : Access) → is_sound_access tree around loops a ≡ true → SoundAccess tree loops a
sound_access tree around loops a sound =
    let parts = and_parts (is_good_access (scope_of tree) around a) (list_all (is_small_at (param_values tree) loops) a.subscripts) sound in
    record { there = good_access-there tree around a parts.0; forms = good_access-forms (scope_of tree) around a parts.0; small = parts.1 }

-- how many dimensions there are
pub record Dimensions (a : Access) (bounds : List (ℤ × ℤ)) : Type 0 where
  pub as_many : length bounds ≡ length a.subscripts
  pub few : length bounds ≤ 3

module _ (p : Program) (a : Access) (path : Path) (v : Variable) (bounds : List (ℤ × ℤ)) (formed : IsWellFormed (tree_of p)) (sound : is_sound_access (tree_of p) (numbers_of (rounds_of path)) (loops_in (tree_of p) (rounds_of path)) a ≡ true)
    (v_is : v ≡ get_or p.variables.items (a.variable - 1) v) (bounds_are : bounds ≡ v.bounds.items) where
  declared_bounds : bounds ≡ bounds_of (tree_of p) a.variable
  declared_bounds =
      let s = sound_access (tree_of p) (numbers_of (rounds_of path)) (loops_in (tree_of p) (rounds_of path)) a sound in
      bounds_are ∙ sym (declared-numbered p a.variable v formed s.there.low s.there.high v_is).bounds

  pub dimensions : Dimensions a bounds
  dimensions =
      let s = sound_access (tree_of p) (numbers_of (rounds_of path)) (loops_in (tree_of p) (rounds_of path)) a sound in
      let d = declared-numbered p a.variable v formed s.there.low s.there.high v_is in
      record {
        as_many = ap (λ (bs : List (ℤ × ℤ)). length bs) declared_bounds ∙ sym s.there.as_many;
        few = omega (arith, ap (λ (bs : List (ℤ × ℤ)). length bs) bounds_are, (good_declaration (declaration_of v) d.good).1);
      }

  pub all_dimensions : (line : ℕ) (d : ℕ) → length bounds ≤ d → first_outside line (d + 1) (drop d (bounds_of (tree_of p) a.variable)) (drop d (subscript_values (tree_of p) (loops_in (tree_of p) (rounds_of path)) a.subscripts)) ≡ None
  all_dimensions line d h =
      ap (λ bs. first_outside line (d + 1) bs (drop d (subscript_values (tree_of p) (loops_in (tree_of p) (rounds_of path)) a.subscripts)))
      (drop_all d (bounds_of (tree_of p) a.variable) (omega (arith, h, ap (λ (bs : List (ℤ × ℤ)). length bs) declared_bounds)))

  pub dimension_step : (line d : ℕ) (subscripts : List Form) (f : Form) (params : List Parameter) (value : ℤ) → list_all (λ (r : Round). is_number_of (loops_of (tree_of p).items) r.number) (rounds_of path) ≡ true →
      subscripts ≡ a.subscripts → d < length bounds → f ≡ get_or subscripts d f → params ≡ p.params.items → value ≡ wrapped (form_among f (rounds_of path) (map (λ (q : Parameter). q.value) params)) →
      first_outside line (d + 1) (drop d (bounds_of (tree_of p) a.variable)) (drop d (subscript_values (tree_of p) (loops_in (tree_of p) (rounds_of path)) a.subscripts))
      ≡ option_or (subscript_outside line (d + 1) (get_or bounds d (pos 0, pos 0)) value) (first_outside line (d + 1 + 1) (drop (d + 1) (bounds_of (tree_of p) a.variable)) (drop (d + 1) (subscript_values (tree_of p) (loops_in (tree_of p) (rounds_of path)) a.subscripts)))
  dimension_step line d subscripts f params value numbered same lt f_is params_are value_is =
      let tree = tree_of p in
      let loops = loops_in tree (rounds_of path) in
      let s = sound_access tree (numbers_of (rounds_of path)) loops a sound in
      let values = subscript_values tree loops a.subscripts in
      let many = dimensions.as_many in
      let lt' : d < length a.subscripts = omega (arith, lt, many) in
      let f_at : f ≡ get_or a.subscripts d f = f_is ∙ ap (λ fs. get_or fs d f) same in
      let form = ap is_form f_at ∙ AllPass-from_list_all is_form a.subscripts s.forms d f lt' in
      let small = ap (is_small_at (param_values tree) loops) f_at ∙ AllPass-from_list_all (is_small_at (param_values tree) loops) a.subscripts s.small d f lt' in
      let given = ap (λ ps. map (λ (q : Parameter). q.value) ps) params_are ∙ sym (values_are p.params.items) in
      let value_at = exact (loops_of tree.items) (rounds_of path) f (param_values tree) value numbered form small (value_is ∙ ap (λ ps. wrapped (form_among f (rounds_of path) ps)) given) in
      let in_values : value ≡ get_or values d value =
      value_at ∙ ap (λ g. form_value g loops (param_values tree)) f_at ∙ sym (get_or-map (λ (g : Form). form_value g loops (param_values tree)) a.subscripts d f value lt') in
      let short : d < length values = omega (arith, lt', length-map a.subscripts (λ (g : Form). form_value g loops (param_values tree))) in
      let b = get_or bounds d (pos 0, pos 0) in
      let inside : d < length (bounds_of tree a.variable) = omega (arith, lt, ap (λ (bs : List (ℤ × ℤ)). length bs) declared_bounds) in
      let b_is : b ≡ get_or (bounds_of tree a.variable) d b = ap (λ bs. get_or bs d (pos 0, pos 0)) declared_bounds ∙ get_or_default (bounds_of tree a.variable) d (pos 0, pos 0) b inside in
      outside-more line d (bounds_of tree a.variable) values b value inside short b_is in_values
