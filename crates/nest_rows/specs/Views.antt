-- The loops round a place as plain data.
use Rattle.std.specs.Prelude.{List, [], ◌∷◌, ◌++◌, map, ◌≡◌}
use Rattle.nest_tree.specs.declared.tree.Item.{Item}
use Rattle.nest_tree.specs.Tree.{Head}
use Rattle.nest_tree.specs.Tree.{work}
use Rattle.nest_tree.specs.View.{head_of, statement_of}
use Rattle.nest_rows.specs.declared.nested.Nested.{Nested as Held}
use Rattle.nest_rows.specs.Nested.{Nested}
use Rattle.nest_rows.specs.declared.terms.Around.{Around}

abbrev pub heads_of : List Around → List Head
heads_of around = map (λ (a : Around). head_of a.nest.now) around

-- what is held is this piece of work with these loops round it
abbrev pub IsView : Nested → Held → Type 0
IsView n held = (statement_of held.item.now ≡ work n.what) × (heads_of held.around.items ≡ n.around)

-- one more, with this statement and these loops round it
pub record HasOneMore (item : Item) (around : List Around) (old new : List Held) : Type 0 where
  pub held : Held
  pub what : held.item.now ≡ item
  pub loops : held.around.items ≡ around
  pub behind : new ≡ old ++ held ∷ []
