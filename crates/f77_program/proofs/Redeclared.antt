-- Names of declarators.
use Rattle.std.proofs.Common.{◌≡◌, Bool, true, false, nat_lt, List, [], ◌∷◌, length, refl, ap}
use Rattle.f77_forms.specs.Form.{DeclaratorForm}
use Rattle.f77_scene.specs.Statements.{declarator_names, bounded}
use Rattle.f77_program.specs.Bases.{names_declared}

pub declared-all : (ds : List DeclaratorForm) → names_declared false ds ≡ declarator_names ds
declared-all [] = refl
declared-all (d ∷ ds) = ap (λ ns. d.name ∷ ns) (declared-all ds)

pub declared-bounded : (ds : List DeclaratorForm) → names_declared true ds ≡ declarator_names (bounded ds)
declared-bounded [] = refl
declared-bounded (d ∷ ds) = by_test (nat_lt 0 (length d.bounds)) refl (declared-bounded ds)
  where
    by_test : (b : Bool) → nat_lt 0 (length d.bounds) ≡ b → names_declared true ds ≡ declarator_names (bounded ds) → names_declared true (d ∷ ds) ≡ declarator_names (bounded (d ∷ ds))
    by_test true e rest = rw e (ap (λ ns. d.name ∷ ns) rest)
    by_test false e rest = rw e rest
