use Rattle.std.proofs.Common.{◌≡◌, ◌+◌, ◌≤◌, ◌<◌, ⊎_elim, subst, rules, arith, length, ap, List}
use Rattle.std.proofs.lemmas.Bool.{cases_lt}
use Rattle.nest_tree.specs.Form.{Form}
use Rattle.nest_tree.specs.View.{tree_of}
use Rattle.range_check.specs.RangeSystems.{HasProof}
use Rattle.range_check.specs.Sites.{site_of}
use Rattle.range_check.proofs.CertifiedLists.{few_subscripts, some_proof}
use Rattle.range_check.proofs.certified.is_access_certified.Goals as goal

pub overflow_cast-index-end : goal.overflow_cast-index-end
overflow_cast-index-end c =
    let few = few_subscripts (tree_of c.args.program.now) c.args.access.now c.args.program.now.formed c.requires.there in
    let short : length c.as_slice.result.now ≤ 3 = omega (arith, few, ap (λ (fs : List Form). length fs) c.as_slice.ensures) in
    search (rules, short)

pub loop-index-preserved : goal.loop-index-preserved
loop-index-preserved c = λ n view d low high.
    let tree = tree_of c.args.program.now in
    let site = site_of n c.args.access.now in
    let k = c.loop-index.index in
    let here = some_proof tree site (k + 1) c.in_ok-dimension_proof.field-0 (c.if-is_none.ensures) (c.in_ok-dimension_proof.ensures.good n view) in
    ⊎_elim (λ (h : k < d). let same : k + 1 ≡ d = omega (arith, h, high) in subst (HasProof tree site) same here) (λ (h : d ≤ k). c.loop-index.invariant n view d low h) (cases_lt k d)
