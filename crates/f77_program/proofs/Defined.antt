-- The definitions of a PARAMETER statement, one more.
use Rattle.std.proofs.Common.{◌≡◌, List, [], ◌∷◌, ◌++◌, refl, ap}
use Rattle.f77_forms.specs.Form.{DefinitionForm}
use Rattle.f77_scene.specs.Scene.{Scene, Given}
use Rattle.f77_scene.specs.Statements.{with_constant, with_constants, definition_spots}

pub with_constants-more : (given : Given) (s : Scene) (ds : List DefinitionForm) (d : DefinitionForm) → with_constants given s (ds ++ d ∷ []) ≡ with_constant given (with_constants given s ds) d
with_constants-more given s [] d = refl
with_constants-more given s (e ∷ ds) d = with_constants-more given (with_constant given s e) ds d

pub definition_spots-more : (given : Given) (s : Scene) (ds : List DefinitionForm) (d : DefinitionForm) → definition_spots given s (ds ++ d ∷ []) ≡ definition_spots given s ds ++ (with_constants given s ds, d.value) ∷ []
definition_spots-more given s [] d = refl
definition_spots-more given s (e ∷ ds) d = ap (λ spots. (s, e.value) ∷ spots) (definition_spots-more given (with_constant given s e) ds d)
