-- The instances of a strip, one after another.
use Rattle.std.proofs.Common.{◌≡◌, IsTrue, true, List, [], ◌∷◌, ◌++◌, refl, sym, ◌∙◌, subst, append_assoc}
use Rattle.std.specs.List.{flat_map}
use Rattle.nest_tree.specs.Tree.{Tree, param_values}
use Rattle.nest_tree.specs.View.{statement_of}
use Rattle.nest_model.specs.Instances.{Instance}
use Rattle.nest_model.specs.Ranges.{is_instance_inside}
use Rattle.nest_model.specs.Visits.{every, instances_at}
use Rattle.nest_walk.specs.Cursors.{is_reached, visit_at}
use Rattle.nest_walk.specs.Paths.{Round}
use Rattle.nest_walk.specs.Places.{numbers_of}
use Rattle.nest_walk.specs.Texts.{StandFrom, placed_in, works}
use Rattle.nest_walk.specs.declared.cursor.Stop.{Stop}
use Rattle.spmd_model.specs.Deeds.{Deed, instance_deeds}
use Rattle.instance_runs.specs.Executors.{Begins}

-- the next trip's instance begins, and those of the later trips stand behind it
pub trip_begins : (tree run walked : Tree) (rounds read : List Round) (stop at_stop : Stop) (i : Instance) (later : List Instance) (now rest : List Deed) → run ≡ tree → walked ≡ tree → read ≡ rounds → stop ≡ at_stop →
    instances_at (param_values walked) (visit_at walked rounds at_stop) ≡ i ∷ [] → IsTrue (is_reached walked rounds at_stop) → StandFrom (works walked) at_stop.first (placed_in every (numbers_of rounds) (statement_of at_stop.item.now)) →
    is_instance_inside tree i ≡ true → now ≡ flat_map (instance_deeds tree) (i ∷ later) ++ rest → (b : Begins run read stop now) × (b.rest ≡ flat_map (instance_deeds tree) later ++ rest)
trip_begins tree run walked rounds read stop at_stop i later now rest run_is walked_is path at is reached text inside left =
    let behind = flat_map (instance_deeds tree) later ++ rest in
    let here : (b : Begins tree rounds at_stop now) × (b.rest ≡ behind) = (
      record {
        at = record {
          instance = i;
          is = subst (λ w. instances_at (param_values w) (visit_at w rounds at_stop) ≡ i ∷ []) walked_is is;
          reached = subst (λ w. IsTrue (is_reached w rounds at_stop)) walked_is reached;
          text = subst (λ w. StandFrom (works w) at_stop.first (placed_in every (numbers_of rounds) (statement_of at_stop.item.now))) walked_is text;
        };
        inside = inside;
        rest = behind;
        is = left ∙ append_assoc (instance_deeds tree i) (flat_map (instance_deeds tree) later) rest;
      },
      refl,
    ) in
    subst (λ (t : Tree). (b : Begins t read stop now) × (b.rest ≡ behind)) (sym run_is)
    (subst (λ (rs : List Round). (b : Begins tree rs stop now) × (b.rest ≡ behind)) (sym path) (subst (λ (s : Stop). (b : Begins tree rounds s now) × (b.rest ≡ behind)) (sym at) here))
