use Rattle.std.proofs.Common.{rules, ◌≡◌, ◌*◌, ◌^◌, ◌*ℤ◌, [], drop, get_or, pos, false, FitsSigned, OnOk, string_bytes, unsigned_abs, w64, ◌∙◌, subst}
use Rattle.std.proofs.lemmas.Int.{to_z-of_z}
use Rattle.std.proofs.lemmas.List.{drop_all}
use Rattle.std.proofs.lemmas.Result.{on_ok_weaker}
use Rattle.c_expressions.specs.Names.{term_name}
use Rattle.c_expressions.specs.Sums.{GoesOn}
use Rattle.c_expressions.specs.declared.sum.Term.TheVariants.{Loop}
use Rattle.c_expressions.proofs.Multiples.{PlainSoFar, plain_all, plain_next, plain_none, terms_narrow}
use Rattle.c_expressions.proofs.sums.put_plain.Goals as goal

pub loop-term-init : goal.loop-term-init
loop-term-init c = plain_none (string_bytes c.args.out.now) c.terms-term-items.result.now

pub loop-term-preserved : goal.loop-term-preserved
loop-term-preserved c =
    let items = c.terms-term-items.result.now in
    let item = get_or items c.loop-term.term-index (Loop 0, pos 0) in
    let fits : FitsSigned w64 item.1 = search rules in
    let more = subst (λ z. GoesOn (string_bytes c.loop-term.out) c.loop-term.is_first (string_bytes c.put_part.new.out) c.in_ok-is_first.is_first (λ v. z *ℤ v (term_name item.0)) (unsigned_abs z * 2 ^ 32))
    (to_z-of_z w64 item.1 fits) c.in_ok-is_first.ensures in
    plain_next _ _ _ _ _ items c.loop-term.term-index (Loop 0, pos 0) (terms_narrow c.args.sum.now items c.terms-term-items.ensures c.requires) c.loop-term-test.true c.loop-term.invariant more

pub returns : goal.returns
returns c =
    let fits : FitsSigned w64 c.constant.result = search rules in
    let items = c.terms-term-items.result.now in
    let rest = drop c.loop-term.term-index items in
    let none : rest ≡ [] = drop_all c.loop-term.term-index items c.loop-term-test.false in
    let so_far = subst (λ ts. PlainSoFar (string_bytes c.args.out.now) (string_bytes c.loop-term.out) c.loop-term.is_first ts rest) c.terms-term-items.ensures c.loop-term.invariant in
    let more = subst (λ z. OnOk c.put_constant.result (GoesOn (string_bytes c.loop-term.out) c.loop-term.is_first (string_bytes c.put_constant.new.out) false (λ v. z) (unsigned_abs z)))
    (to_z-of_z w64 c.constant.result fits ∙ c.constant.ensures) c.put_constant.ensures in
    on_ok_weaker c.put_constant.result (λ g. plain_all c.args.sum.now _ _ _ _ rest c.requires none so_far g) more
