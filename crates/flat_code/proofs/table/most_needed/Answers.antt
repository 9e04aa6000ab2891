use Rattle.std.proofs.Common.{◌≤◌, take, get_or, subst, arith}
use Rattle.std.specs.List.{All}
use Rattle.std.proofs.lemmas.List.{take_all}
use Rattle.std.proofs.lemmas.List.Elements.{All-more}
use Rattle.flat_code.specs.Codes.{registers_of}
use Rattle.flat_code.proofs.table.most_needed.Goals as goal

pub loop-code-preserved : goal.loop-code-preserved
loop-code-preserved c =
    let codes = c.args.codes.now in
    let i = c.loop-code.code-index in
    let needed = c.in_ok-registers_needed.ensures in
    let grown : c.loop-code.most ≤ c.at_least-most.result = omega (arith, c.at_least-most.ensures.same) in
    let enough : registers_of c.code-item.result ≤ c.at_least-most.result = omega (arith, c.at_least-most.ensures.least, needed) in
    All-more (λ code. registers_of code ≤ c.at_least-most.result) codes i c.code-item.result c.loop-code-test.true
    (λ k d at. let before : registers_of (get_or (take i codes) k d) ≤ c.loop-code.most = c.loop-code.invariant k d at in omega (arith, before, grown)) (subst (λ code. registers_of code ≤ c.at_least-most.result) c.code-item.is enough)

pub returns : goal.returns
returns c = subst (All (λ code. registers_of code ≤ c.loop-code.most)) (take_all c.loop-code.code-index c.args.codes.now c.loop-code-test.false) c.loop-code.invariant
