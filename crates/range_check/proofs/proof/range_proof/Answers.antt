use Rattle.std.proofs.Common.{◌≡◌, ◌⊎◌, ◌<◌, ◌≤◌, length, IfNone, IfOk, IfSome, subst, arith}
use Rattle.list_lemmas.proofs.Gets.{one_element}
use Rattle.nest_tree.specs.View.{tree_of}
use Rattle.range_check.specs.RangeSystems.{AreProof, IsKeptAs, above, below}
use Rattle.range_check.specs.Sites.{Site, site_of}
use Rattle.range_check.proofs.Standing.{found_site, later_site, no_site}
use Rattle.range_check.proofs.proof.range_proof.Goals as goal

pub dimension_proof-requires-clause-seen : goal.dimension_proof-requires-clause-seen
dimension_proof-requires-clause-seen c =
    let lt : c.loop-nested.before < length c.in_ok-found.found.items = omega (arith, c.if-before-len.true, c.len.ensures, c.in_ok-found.found.ok.0) in
    let f = found_site (tree_of c.args.program.now) c.args.program.now.formed c.in_ok-works.works.items c.deref-nested-items.result.now c.loop-nested.nested-index c.loop-nested.before c.args.access c.nested-item.result c.in_ok-found.found.items c.index.result.now
    c.in_ok-works.ensures c.deref-nested-items.ensures.value c.loop-nested-test.true c.nested-item.is c.in_ok-found.ensures lt c.index.ensures c.loop-nested.invariant in
    (f.nested, f.view)

pub dimension_proof-requires-clause-steps : goal.dimension_proof-requires-clause-steps
dimension_proof-requires-clause-steps c =
    let lt : c.loop-nested.before < length c.in_ok-found.found.items = omega (arith, c.if-before-len.true, c.len.ensures, c.in_ok-found.found.ok.0) in
    (found_site (tree_of c.args.program.now) c.args.program.now.formed c.in_ok-works.works.items c.deref-nested-items.result.now c.loop-nested.nested-index c.loop-nested.before c.args.access c.nested-item.result c.in_ok-found.found.items c.index.result.now
    c.in_ok-works.ensures c.deref-nested-items.ensures.value c.loop-nested-test.true c.nested-item.is c.in_ok-found.ensures lt c.index.ensures c.loop-nested.invariant).steps

pub dimension_proof-requires-clause-there : goal.dimension_proof-requires-clause-there
dimension_proof-requires-clause-there c =
    let lt : c.loop-nested.before < length c.in_ok-found.found.items = omega (arith, c.if-before-len.true, c.len.ensures, c.in_ok-found.found.ok.0) in
    (found_site (tree_of c.args.program.now) c.args.program.now.formed c.in_ok-works.works.items c.deref-nested-items.result.now c.loop-nested.nested-index c.loop-nested.before c.args.access c.nested-item.result c.in_ok-found.found.items c.index.result.now
    c.in_ok-works.ensures c.deref-nested-items.ensures.value c.loop-nested-test.true c.nested-item.is c.in_ok-found.ensures lt c.index.ensures c.loop-nested.invariant).there

pub dimension_proof-requires-clause-low : goal.dimension_proof-requires-clause-low
dimension_proof-requires-clause-low c =
    let lt : c.loop-nested.before < length c.in_ok-found.found.items = omega (arith, c.if-before-len.true, c.len.ensures, c.in_ok-found.found.ok.0) in
    let f = found_site (tree_of c.args.program.now) c.args.program.now.formed c.in_ok-works.works.items c.deref-nested-items.result.now c.loop-nested.nested-index c.loop-nested.before c.args.access c.nested-item.result c.in_ok-found.found.items c.index.result.now
    c.in_ok-works.ensures c.deref-nested-items.ensures.value c.loop-nested-test.true c.nested-item.is c.in_ok-found.ensures lt c.index.ensures c.loop-nested.invariant in
    (c.requires.dimension (site_of f.nested c.index.result.now.access.now) f.site).0

pub dimension_proof-requires-clause-high : goal.dimension_proof-requires-clause-high
dimension_proof-requires-clause-high c =
    let lt : c.loop-nested.before < length c.in_ok-found.found.items = omega (arith, c.if-before-len.true, c.len.ensures, c.in_ok-found.found.ok.0) in
    let f = found_site (tree_of c.args.program.now) c.args.program.now.formed c.in_ok-works.works.items c.deref-nested-items.result.now c.loop-nested.nested-index c.loop-nested.before c.args.access c.nested-item.result c.in_ok-found.found.items c.index.result.now
    c.in_ok-works.ensures c.deref-nested-items.ensures.value c.loop-nested-test.true c.nested-item.is c.in_ok-found.ensures lt c.index.ensures c.loop-nested.invariant in
    (c.requires.dimension (site_of f.nested c.index.result.now.access.now) f.site).1

pub returns-then-before-len-clause-good : goal.returns-then-before-len-clause-good
returns-then-before-len-clause-good c = λ s is.
    let tree = tree_of c.args.program.now in
    let lt : c.loop-nested.before < length c.in_ok-found.found.items = omega (arith, c.if-before-len.true, c.len.ensures, c.in_ok-found.found.ok.0) in
    let f = found_site tree c.args.program.now.formed c.in_ok-works.works.items c.deref-nested-items.result.now c.loop-nested.nested-index c.loop-nested.before c.args.access c.nested-item.result c.in_ok-found.found.items c.index.result.now
    c.in_ok-works.ensures c.deref-nested-items.ensures.value c.loop-nested-test.true c.nested-item.is c.in_ok-found.ensures lt c.index.ensures c.loop-nested.invariant in
    let same = one_element _ (site_of f.nested c.index.result.now.access.now) s f.site is in
    subst (λ (t : Site). IfOk c.dimension_proof.result (λ o. IfSome o (AreProof tree t c.args.dimension))) same (c.dimension_proof.ensures.good f.nested f.view)

pub returns-then-before-len-clause-kept : goal.returns-then-before-len-clause-kept
returns-then-before-len-clause-kept c = λ s is.
    let tree = tree_of c.args.program.now in
    let lt : c.loop-nested.before < length c.in_ok-found.found.items = omega (arith, c.if-before-len.true, c.len.ensures, c.in_ok-found.found.ok.0) in
    let f = found_site tree c.args.program.now.formed c.in_ok-works.works.items c.deref-nested-items.result.now c.loop-nested.nested-index c.loop-nested.before c.args.access c.nested-item.result c.in_ok-found.found.items c.index.result.now
    c.in_ok-works.ensures c.deref-nested-items.ensures.value c.loop-nested-test.true c.nested-item.is c.in_ok-found.ensures lt c.index.ensures c.loop-nested.invariant in
    let same = one_element _ (site_of f.nested c.index.result.now.access.now) s f.site is in
    subst (λ (t : Site). IfOk c.dimension_proof.result (λ o. IfNone o (IsKeptAs (below tree t c.args.dimension) (length t.around) ⊎ IsKeptAs (above tree t c.args.dimension) (length t.around)))) same (c.dimension_proof.ensures.kept c.whole-effort.ensures f.nested f.view)

pub loop-nested-preserved : goal.loop-nested-preserved
loop-nested-preserved c =
    let tree = tree_of c.args.program.now in
    let le : length c.in_ok-found.found.items ≤ c.loop-nested.before = omega (arith, c.if-before-len.false, c.len.ensures, c.in_ok-found.found.ok.0) in
    let count : c.len-before.result ≡ length c.in_ok-found.found.items = omega (arith, c.len-before.ensures, c.in_ok-found.found.ok.0) in
    rw count (later_site tree c.in_ok-works.works.items c.deref-nested-items.result.now c.loop-nested.nested-index c.loop-nested.before c.args.access c.nested-item.result c.in_ok-found.found.items
    c.in_ok-works.ensures c.deref-nested-items.ensures.value c.loop-nested-test.true c.nested-item.is c.in_ok-found.ensures le c.loop-nested.invariant)

pub unreachable-requires : goal.unreachable-requires
unreachable-requires c =
    no_site (tree_of c.args.program.now) c.in_ok-works.works.items c.deref-nested-items.result.now c.loop-nested.nested-index c.loop-nested.before c.args.access c.in_ok-works.ensures c.deref-nested-items.ensures.value c.loop-nested-test.false c.requires.number c.requires.access c.loop-nested.invariant
