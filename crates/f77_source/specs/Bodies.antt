-- The tree of the statements so far, as the reader keeps it.
use Rattle.std.specs.Prelude.{ℕ, ◌==◌, Bool, false, List, [], ◌∷◌, ◌++◌, map}
use Rattle.nest_tree.specs.Tree as tree
use Rattle.nest_tree.specs.Tree.{Statement}
use Rattle.nest_tree.specs.View.{statement_of}
use Rattle.f77_scene.specs.Trees as trees
use Rattle.f77_scene.specs.Trees.{in_a_row}
use Rattle.f77_source.specs.declared.body.Begun.{Begun}
use Rattle.f77_source.specs.declared.body.Body.{Body}

abbrev pub begun_of : Begun → trees.Begun
begun_of b = record {
  label = b.label;
  head = record {
    number = b.number;
    m1 = b.m1;
    m2 = b.m2;
    step = b.step;
    line = b.line;
  };
  front = map statement_of b.front.items;
}

abbrev pub body_of : Body → trees.Body
body_of b = record { begun = map begun_of b.begun.items; items = map statement_of b.items.items }

-- ---- the private functions over again

-- what stands in the body round a loop that ends, where these stand in its own
abbrev pub ended : trees.Begun → List Statement → List Statement
ended b items = b.front ++ tree.do_loop b.head (in_a_row items) ∷ []

-- the innermost of open loops ends with this label
abbrev pub ends_first : ℕ → List trees.Begun → Bool
ends_first label [] = false
ends_first label (b ∷ begun) = b.label == label
