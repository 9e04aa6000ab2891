use Rattle.std.proofs.Common.{◌≡◌, ◌⊎◌, ℕ, ℤ, List, Option, None, Some, inl, inr, refl}
use Rattle.nest_tree.specs.Tree.{Tree}
use Rattle.f77_scene.specs.Fault.{Refusal}
use Rattle.f77_scene.specs.Reading.{Reads, first_fault, program_of}
use Rattle.f77_scene.proofs.laws.program_or_fault.Goals as goal

pub returns-clause-either : goal.returns-clause-either
returns-clause-either c = λ bytes settings. by_case bytes settings (first_fault bytes settings) refl
  where
    by_case : (bytes : List ℕ) (settings : List (List ℕ × ℤ)) (o : Option Refusal) → first_fault bytes settings ≡ o → ((program : Tree) × Reads bytes settings program) ⊎ ((refusal : Refusal) × (first_fault bytes settings ≡ Some refusal))
    by_case bytes settings None h = inl (program_of bytes settings, record { faultless = h; stands = refl })
    by_case bytes settings (Some refusal) h = inr (refusal, h)
