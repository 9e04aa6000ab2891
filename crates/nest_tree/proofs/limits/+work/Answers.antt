use Rattle.std.proofs.Common.{◌≡◌, ◌*◌, ◌-◌, map, length, get_or, set, pos, Err, Some, None, w64, FitsSigned, to_z-of_z, ap, sym, ◌∙◌, rules}
use Rattle.std.specs.Result.{result_err}
use Rattle.nest_tree.specs.declared.tree.Item.{the_lemmas}
use Rattle.nest_tree.specs.declared.tree.Parameter.{Parameter}
use Rattle.nest_tree.specs.Given.{is_all_given}
use Rattle.nest_tree.specs.Intervals.{with_ends}
use Rattle.nest_tree.specs.Limits.{capped, wide_in, wide_of, work_of}
use Rattle.nest_tree.specs.View.{head_of, statement_of, statements_from}
use Rattle.nest_tree.proofs.Rows.{statement_of-Loop}
use Rattle.nest_tree.proofs.Works.{empty-work, loop-wide, loop-work, set-back}
use Rattle.nest_tree.proofs.limits.+work.Goals as goal

pub item_work-nest_work-requires : goal.item_work-nest_work-requires
item_work-nest_work-requires t c =
    let e = ap statement_of c.in-Loop.is ∙ statement_of-Loop c.in-Loop.nest in
    (search (rules, the_lemmas), (sym (ap (is_all_given (length c.args.ends.now) (length c.args.constants.now)) e) ∙ c.requires.given, c.requires.width))

pub item_work-returns-in-Loop-clause-wide : goal.item_work-returns-in-Loop-clause-wide
item_work-returns-in-Loop-clause-wide t c =
    let e = ap statement_of c.in-Loop.is ∙ statement_of-Loop c.in-Loop.nest in
    c.nest_work.ensures.wide ∙ sym (ap (wide_in (map (λ (p : Parameter). p.value) c.args.constants.now) c.args.ends.now) e)

pub item_work-returns-in-Loop-clause-work : goal.item_work-returns-in-Loop-clause-work
item_work-returns-in-Loop-clause-work t c =
    let e = ap statement_of c.in-Loop.is ∙ statement_of-Loop c.in-Loop.nest in
    rw e c.nest_work.ensures.work

pub nest_work-returns-then-interval-clause-work : goal.nest_work-returns-then-interval-clause-work
nest_work-returns-then-interval-clause-work t c =
    let values = map (λ (p : Parameter). p.value) c.args.constants.now in
    let f : FitsSigned w64 c.in_ok-interval.interval.0 = search rules in
    let g : FitsSigned w64 c.in_ok-interval.interval.1 = search rules in
    let empty = simp to_z-of_z at c.if-interval.true in
    empty-work values c.args.ends.now (head_of c.args.nest.now) (statements_from c.args.nest.now.items.items) c.in_ok-interval.interval c.args.width c.in_ok-interval.ensures.interval empty c.requires.width

pub nest_work-returns-in_err-body-clause-wide : goal.nest_work-returns-in_err-body-clause-wide
nest_work-returns-in_err-body-clause-wide t c =
    let values = map (λ (p : Parameter). p.value) c.args.constants.now in
    let f : FitsSigned w64 c.in_ok-interval.interval.0 = search rules in
    let g : FitsSigned w64 c.in_ok-interval.interval.1 = search rules in
    let some = simp to_z-of_z at c.if-interval.false in
    let same : c.from_residual-in_err-body.result ≡ Err c.in_err-body.field-0.0 = search rules in
    let inside = c.in_err-body.ensures.wide ∙ ap (λ xs. wide_of values (with_ends c.args.ends.now c.args.nest.now.number c.in_ok-interval.interval) (statements_from xs)) c.deref.ensures.value in
    ap result_err same ∙ loop-wide values c.args.ends.now (head_of c.args.nest.now) (statements_from c.args.nest.now.items.items) c.in_ok-interval.interval (Some c.in_err-body.field-0.0) c.in_ok-interval.ensures.wide c.in_ok-interval.ensures.interval some inside

pub nest_work-returns-clause-wide : goal.nest_work-returns-clause-wide
nest_work-returns-clause-wide t c =
    let values = map (λ (p : Parameter). p.value) c.args.constants.now in
    let f : FitsSigned w64 c.in_ok-interval.interval.0 = search rules in
    let g : FitsSigned w64 c.in_ok-interval.interval.1 = search rules in
    let some = simp to_z-of_z at c.if-interval.false in
    let inside = c.in_ok-body.ensures.wide ∙ ap (λ xs. wide_of values (with_ends c.args.ends.now c.args.nest.now.number c.in_ok-interval.interval) (statements_from xs)) c.deref.ensures.value in
    loop-wide values c.args.ends.now (head_of c.args.nest.now) (statements_from c.args.nest.now.items.items) c.in_ok-interval.interval None c.in_ok-interval.ensures.wide c.in_ok-interval.ensures.interval some inside

pub nest_work-returns-clause-work : goal.nest_work-returns-clause-work
nest_work-returns-clause-work t c =
    let values = map (λ (p : Parameter). p.value) c.args.constants.now in
    let inner = with_ends c.args.ends.now c.args.nest.now.number c.in_ok-interval.interval in
    let narrowed = c.min-inside.ensures ∙ ap (λ n. capped (c.args.width * n)) (c.from.ensures ∙ c.extent.ensures.extent) in
    let work = c.in_ok-body.ensures.work ∙ ap (λ xs. capped (work_of values inner c.min-inside.result (statements_from xs))) c.deref.ensures.value in
    loop-work values c.args.ends.now (head_of c.args.nest.now) (statements_from c.args.nest.now.items.items) c.in_ok-interval.interval c.args.width c.min-inside.result c.in_ok-body.body c.capped_sum.result c.in_ok-interval.ensures.interval narrowed work c.capped_sum.ensures

pub nest_work-returns-clause-kept : goal.nest_work-returns-clause-kept
nest_work-returns-clause-kept t c =
    ap (λ es. set es (c.args.nest.now.number - 1) (get_or c.args.ends.now (c.args.nest.now.number - 1) (pos 0, pos 0))) c.in_ok-body.ensures.kept ∙ set-back c.args.ends.now (c.args.nest.now.number - 1) c.in_ok-interval.interval (pos 0, pos 0)
