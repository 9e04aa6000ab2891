-- A plan from the parts that its text has.
use Rattle.std.specs.Prelude.{ℕ, List, [], ◌∷◌}
use Rattle.farkas_cert.specs.declared.certificate.Certificate.{Certificate}
use Rattle.owner_partition.specs.declared.anchor.Anchor.{Anchor}
use Rattle.owner_partition.specs.declared.cut.Mark.{Mark}
use Rattle.sync_plan.specs.declared.plan.Conditions.{Conditions}
use Rattle.sync_plan.specs.declared.plan.Kind.{Kind}
use Rattle.sync_plan.specs.declared.plan.Plan.{Plan}
use Rattle.sync_plan.specs.declared.plan.Version.{Version}

-- both lists of pairs
abbrev pub firsts : {X Y : Type 0} → List (X × Y) → List X
firsts [] = []
firsts (p ∷ ps) = p.0 ∷ firsts ps

abbrev pub seconds : {X Y : Type 0} → List (X × Y) → List Y
seconds [] = []
seconds (p ∷ ps) = p.1 ∷ seconds ps

abbrev pub plan_of : Version → ℕ → Conditions → List (Mark × List ℕ) → List (Kind × Anchor)
    → List Certificate → Plan
plan_of v w c ls ps cs = record {
  version = v;
  conditions = c;
  workers = w;
  cut = record { marks = firsts ls; privates = seconds ls };
  anchors = seconds ps;
  kinds = firsts ps;
  certificates = cs;
}
