-- What stands in the items of a PRINT.
use Rattle.std.specs.Prelude.{List, []}
use Rattle.f77_forms.specs.Form.{ExpressionForm, PrintedForm, value, constant}
use Rattle.f77_scene.specs.Scene.{Scene}
use Rattle.f77_scene.specs.Tests.{subscripts_in}

-- the subscripts in an item; a whole array has none
abbrev pub item_subscripts : Scene → PrintedForm → List ExpressionForm
item_subscripts s (value e) = subscripts_in s e
item_subscripts s (constant characters) = []
