-- The plan with a barrier in front of each phase.
use Rattle.std.specs.Prelude.{ℕ, List, length, nat_lt, replicate, if◌then◌else◌}
use Rattle.std.specs.List.{list_any}
use Rattle.farkas_cert.specs.declared.certificate.Certificate.{Certificate}
use Rattle.owner_partition.specs.declared.anchor.Anchor.{Anchor}
use Rattle.owner_partition.specs.Cuts.{Cutting}
use Rattle.owner_partition.specs.Marks.{is_sum_mark}
use Rattle.sync_plan.specs.declared.plan.Conditions.TheVariants.{Values}
use Rattle.sync_plan.specs.declared.plan.Kind.TheVariants.{Barrier}
use Rattle.sync_plan.specs.declared.plan.Plan.{Plan}
use Rattle.sync_plan.specs.declared.plan.Version.{Version}
use Rattle.sync_plan.specs.declared.plan.Version.TheVariants.{Two, Four, Five}

-- the least version from two on that holds a cut
abbrev pub least_version : Cutting → Version
least_version cut =
    if list_any (λ vs. nat_lt 0 (length vs)) cut.privates then Five
    else if list_any is_sum_mark cut.marks then Four
    else Two

-- the plan of this cut, these anchors, so many workers and these certificates, with as many kinds as anchors, each a barrier; in the least version from two on that holds it
abbrev pub barrier_plan : Cutting → List Anchor → ℕ → List Certificate → Plan
barrier_plan cut anchors workers certificates = record {
  version = least_version cut;
  conditions = Values;
  workers = workers;
  cut = cut;
  anchors = anchors;
  kinds = replicate (length anchors) Barrier;
  certificates = certificates;
}
