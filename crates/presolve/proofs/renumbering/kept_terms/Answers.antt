use Rattle.std.proofs.Common.{◌≡◌, ◌+◌, FitsSigned, take, get_or, pos, rules, sym, subst}
use Rattle.std.specs.Int.{w128}
use Rattle.std.proofs.lemmas.Int.{to_z-of_z}
use Rattle.presolve.specs.Renamed.{renamed_terms}
use Rattle.presolve.specs.Rows.{NamesKept, kept_number}
use Rattle.presolve.proofs.Renaming.{terms_more}
use Rattle.presolve.proofs.renumbering.kept_terms.Goals as goal

pub loop-term-preserved : goal.loop-term-preserved
loop-term-preserved c =
    let terms = c.args.terms.now in
    let i = c.loop-term.term-index in
    let item = get_or terms i (0, pos 0) in
    let fits : FitsSigned w128 item.1 = search rules in
    let pushed = c.in_ok-push-in-Some.ensures.items in
    λ rising. subst (λ m. (m ≡ renamed_terms (kept_number c.args.count c.args.numbers.now) (take (i + 1) terms)) × NamesKept c.args.count c.args.numbers.now (take (i + 1) terms)) (sym pushed) (terms_more c.args.count c.args.numbers.now terms i c.in-Some.number _ (0, pos 0) c.loop-term.made.items c.loop-term-test.true (to_z-of_z w128 item.1 fits) (c.loop-term.invariant rising) (c.in-Some.ensures.kept rising))
