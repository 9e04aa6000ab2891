use Rattle.std.proofs.Common.{◌≡◌, Bool, Some, true, subst, List}
use Rattle.std.specs.List.{slice_get}
use Rattle.nest_tree.specs.View.{tree_of}
use Rattle.nest_rows.specs.Nested.{nested_works}
use Rattle.range_check.proofs.CertifiedLists.{certified-at}
use Rattle.range_check.proofs.check.check_ranges.Goals as goal

pub check_others-requires-in-Ok : goal.check_others-requires-in-Ok
check_others-requires-in-Ok c =
    let tree = tree_of c.args.program.now in
    record {
      certified = λ k n set at.
          certified-at tree (nested_works tree) c.in-Ok.certified.items k n c.in-Ok.ensures (subst (λ (bs : List Bool). slice_get bs k ≡ Some true) c.as_slice.ensures.value set) at;
    }
