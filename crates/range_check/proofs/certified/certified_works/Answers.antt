use Rattle.std.proofs.Common.{◌<◌, ◌≤◌, IsTrue, List, length, sym, subst, arith}
use Rattle.std.specs.List.{AllZip}
use Rattle.std.proofs.lemmas.List.{take_all}
use Rattle.nest_tree.specs.View.{tree_of}
use Rattle.nest_rows.specs.Nested.{Nested, nested_works}
use Rattle.nest_rows.specs.Views.{IsView}
use Rattle.range_check.specs.Certified.{AreCertified}
use Rattle.range_check.proofs.CertifiedLists.{one_work_more}
use Rattle.range_check.proofs.Standing.{as_long, good_at, view_at}
use Rattle.range_check.proofs.certified.certified_works.Goals as goal

pub is_work_certified-requires : goal.is_work_certified-requires
is_work_certified-requires c =
    let tree = tree_of c.args.program.now in
    let views = subst (AllZip IsView (nested_works tree)) (sym c.deref-nested-items.ensures.value) c.in_ok-works.ensures in
    let v = view_at (nested_works tree) c.deref-nested-items.result.now c.loop-nested.nested-index c.nested-item.result views c.loop-nested-test.true c.nested-item.is in
    record { seen = (v.nested, v.view, good_at tree c.args.program.now.formed c.loop-nested.nested-index v.nested v.at) }

pub loop-nested-preserved : goal.loop-nested-preserved
loop-nested-preserved c =
    let tree = tree_of c.args.program.now in
    let all = nested_works tree in
    let k = c.loop-nested.nested-index in
    let views = subst (AllZip IsView all) (sym c.deref-nested-items.ensures.value) c.in_ok-works.ensures in
    let v = view_at all c.deref-nested-items.result.now k c.nested-item.result views c.loop-nested-test.true c.nested-item.is in
    let lt : k < length all = omega (arith, c.loop-nested-test.true, as_long all c.deref-nested-items.result.now views) in
    one_work_more (λ n b. IsTrue b → AreCertified tree n) all k v.nested c.loop-nested.certified.items c.push_flag.new.flags.items c.in_ok-is_certified.is_certified lt v.at c.loop-nested.invariant (c.in_ok-is_certified.ensures v.nested v.view) c.in_ok-push_flag.ensures

pub returns : goal.returns
returns c =
    let tree = tree_of c.args.program.now in
    let all = nested_works tree in
    let views = subst (AllZip IsView all) (sym c.deref-nested-items.ensures.value) c.in_ok-works.ensures in
    let le : length all ≤ c.loop-nested.nested-index = omega (arith, c.loop-nested-test.false, as_long all c.deref-nested-items.result.now views) in
    subst (λ (ns : List Nested). AllZip (λ n b. IsTrue b → AreCertified tree n) ns c.loop-nested.certified.items) (take_all c.loop-nested.nested-index all le) c.loop-nested.invariant
