use Rattle.std.proofs.Common.{sym, ◌∙◌}
use Rattle.std.proofs.lemmas.Result.{IfOk-weaker}
use Rattle.nest_tree.specs.View.{tree_of}
use Rattle.comm_system.specs.Signatures.{signature_of}
use Rattle.plan_maker.specs.Caches.{HasAnswered, boundaries_seen}
use Rattle.plan_maker.specs.Searches.{HasTried}
use Rattle.plan_maker.proofs.Ready.{grows_not, tried_asked, tried_untouched}
use Rattle.plan_maker.proofs.TakenKinds.{touched_seen}
use Rattle.plan_maker.proofs.cache.SlotCache.try_kinds.Goals as goal

pub returns-then-is_touched : goal.returns-then-is_touched
returns-then-is_touched c =
    let p = c.args.problem in
    let trial = c.args.trial in
    let old = c.args.self.now in
    let new = c.ask.new.self in
    let touched = touched_seen trial.phase old.boundaries.items ∙ sym c.is_touched.ensures ∙ c.if-is_touched.true in
    IfOk-weaker c.ask.result (HasAnswered (tree_of p.program.now) p.plan.now (signature_of p.plan.now.version trial.kinds.now (boundaries_seen old)) old new) (HasTried p trial old new)
    (λ o h. record { cache = h.cache; grown = h.grown; tried = λ others same ready. tried_asked p trial.phase trial.kinds.now others old new o h.grown h.cache touched ready h.answer }) c.ask.ensures

pub returns-else-is_touched : goal.returns-else-is_touched
returns-else-is_touched c =
    let p = c.args.problem in
    let trial = c.args.trial in
    let c' = c.args.self.now in
    let untouched = touched_seen trial.phase c'.boundaries.items ∙ sym c.is_touched.ensures ∙ c.if-is_touched.false in
    record { cache = c.requires.cache; grown = grows_not c'; tried = λ others same ready. tried_untouched p trial.phase trial.kinds.now others c' same untouched ready }
