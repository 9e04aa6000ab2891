use Rattle.std.proofs.Common.{◌<◌, List, length, get_or, map, ap, ◌∙◌, subst, arith}
use Rattle.std.specs.List.{AllByRecursion}
use Rattle.std.proofs.lemmas.List.{take_all}
use Rattle.nest_tree.specs.View.{tree_of}
use Rattle.nest_tree.specs.declared.tree.Access.{Access}
use Rattle.range_check.specs.Certified.{IsCertified}
use Rattle.range_check.specs.declared.accesses.Found.{Found}
use Rattle.range_check.specs.Seen.{accesses_seen}
use Rattle.range_check.specs.Sites.{site_of}
use Rattle.range_check.proofs.CertifiedLists.{one_access_more}
use Rattle.range_check.proofs.Standing.{access_there, held_steps, seen_at}
use Rattle.std.proofs.lemmas.List.{length-map}
use Rattle.range_check.proofs.certified.is_work_certified.Goals as goal

pub is_access_certified-requires-clause-steps : goal.is_access_certified-requires-clause-steps
is_access_certified-requires-clause-steps c = held_steps (tree_of c.args.program.now) c.requires.seen.0 c.args.nested.now c.requires.seen.2 c.requires.seen.1

pub is_access_certified-requires-clause-there : goal.is_access_certified-requires-clause-there
is_access_certified-requires-clause-there c =
    let n = c.requires.seen.0 in
    let found = c.in_ok-found.found.items in
    let k = c.loop-one.one-index in
    let x = c.one-item.result in
    let lt : k < length found = omega (arith, c.loop-one-test.true, ap (λ (xs : List Found). length xs) c.deref-one-items.ensures.value) in
    let is = c.one-item.is ∙ ap (λ xs. get_or xs k x) c.deref-one-items.ensures.value in
    let short : k < length (accesses_seen found) = omega (arith, lt, length-map found (λ (f : Found). f.access.now)) in
    access_there (tree_of c.args.program.now) n c.requires.seen.2 (accesses_seen found) k x.access.now (c.in_ok-found.ensures n.what c.requires.seen.1.0) short (seen_at found k x lt is)

pub loop-one-preserved : goal.loop-one-preserved
loop-one-preserved c = λ n view.
    one_access_more (tree_of c.args.program.now) n c.deref-one-items.result.now c.loop-one.one-index c.one-item.result c.loop-one-test.true c.one-item.is (c.loop-one.invariant n view) (c.in_ok-is_access_certified.ensures n view c.if-not-branch.false)

pub returns : goal.returns
returns c = λ n view _.
    let tree = tree_of c.args.program.now in
    let all = take_all c.loop-one.one-index c.deref-one-items.result.now c.loop-one-test.false ∙ c.deref-one-items.ensures.value in
    let seen = ap accesses_seen all ∙ c.in_ok-found.ensures n.what view.0 in
    subst (λ (xs : List Access). AllByRecursion (IsCertified tree) (map (site_of n) xs)) seen (c.loop-one.invariant n view)
