use Rattle.std.proofs.Common.{◌+◌, [], map, take, ap, sym, ◌∙◌, subst, inl, inr, refl}
use Rattle.std.specs.Prelude.{slice_index_or}
use Rattle.std.specs.List.{AllZip}
use Rattle.std.proofs.lemmas.Option.{slice_get-get_or}
use Rattle.nest_tree.specs.View.{tree_of}
use Rattle.nest_tree.specs.WellFormed.{scope_of}
use Rattle.nest_tree.proofs.Cells.{well_formed_parts}
use Rattle.plan_maker.specs.Asked.{IsCause}
use Rattle.plan_maker.specs.Bars.{IsLoopReason, attempt}
use Rattle.plan_maker.specs.Cut.{alone_asked}
use Rattle.plan_maker.specs.Loops.{IsDealtVerdict, IsSureVerdict}
use Rattle.maker_marks.specs.declared.tries.Tried.TheVariants.{Doall}
use Rattle.maker_marks.specs.Tries.{IsMadeOf, nest_body, tried_privates}
use Rattle.plan_maker.proofs.Attempts.{body_there, fails_more, fails_so, first_of, first_verdict, sure_more}
use Rattle.plan_maker.proofs.CutFits.{found_within}
use Rattle.plan_maker.proofs.TriedCuts.{try_made}
use Rattle.plan_maker.proofs.loops.judge_tries.Goals as goal

pub judge_try-requires-clause-some : goal.judge_try-requires-clause-some
judge_try-requires-clause-some c =
    let tree = tree_of c.args.program.now in
    let nest = c.args.nest.now in
    (found_within (scope_of tree) [] 1 nest.number tree.items (nest_body nest) (well_formed_parts tree c.args.program.now.formed).statements c.requires.body).0

pub judge_try-requires-clause-made : goal.judge_try-requires-clause-made
judge_try-requires-clause-made c =
    let tree = tree_of c.args.program.now in
    let nest = c.args.nest.now in
    let ts = c.as_slice-tried-items.result.now in
    let k = c.loop-tried.tried-index in
    let t = slice_index_or ts k Doall in
    let made = try_made tree nest.number (nest_body nest) ts k t c.args.program.now.formed c.requires.body (c.as_slice-tried-items.ensures.value ∙ c.in_ok-tries.ensures) (slice_get-get_or ts k _ c.loop-tried-test.true) c.requires.silent in
    subst (IsMadeOf t c.in_ok-privates.privates) (sym (body_there tree nest.number (nest_body nest) c.requires.body)) (subst (λ vs. IsMadeOf t vs (nest_body nest)) (sym c.in_ok-privates.ensures) made)

pub judge_sure-requires-clause-made : goal.judge_sure-requires-clause-made
judge_sure-requires-clause-made c =
    let tree = tree_of c.args.program.now in
    let nest = c.args.nest.now in
    let ts = c.as_slice-tried-items.result.now in
    let k = c.loop-tried.tried-index in
    let t = slice_index_or ts k Doall in
    try_made tree nest.number (nest_body nest) ts k t c.args.program.now.formed c.requires.body (c.as_slice-tried-items.ensures.value ∙ c.in_ok-tries.ensures) (slice_get-get_or ts k _ c.loop-tried-test.true) c.requires.silent

pub returns-in-Refuted : goal.returns-in-Refuted
returns-in-Refuted c =
    let tree = tree_of c.args.program.now in
    let nest = c.args.nest.now in
    let n = nest.number in
    let ts = c.as_slice-tried-items.result.now in
    let k = c.loop-tried.tried-index in
    let t = slice_index_or ts k Doall in
    let vs = c.in_ok-privates.privates in
    let own = c.in_ok-privates.ensures ∙ ap (tried_privates t) (sym (body_there tree n (nest_body nest) c.requires.body)) in
    let h = subst (IsDealtVerdict tree n t vs) c.in-Refuted.is c.in_ok-dealt.ensures in
    let first = first_of tree n (nest_body nest) ts k t vs c.loop-tried.reasons.items c.requires.body (c.as_slice-tried-items.ensures.value ∙ c.in_ok-tries.ensures) (slice_get-get_or ts k _ c.loop-tried-test.true) c.requires.silent (inl own) c.loop-tried.invariant.barred c.loop-tried.invariant.sure in
    first_verdict tree n t vs c.in-Refuted.dealt first h.0 h.1 h.2

pub returns-in-Some : goal.returns-in-Some
returns-in-Some c =
    let tree = tree_of c.args.program.now in
    let nest = c.args.nest.now in
    let n = nest.number in
    let ts = c.as_slice-tried-items.result.now in
    let k = c.loop-tried.tried-index in
    let t = slice_index_or ts k Doall in
    let vs = c.in_ok-privates.privates in
    let cause = c.in-Kept.cause in
    let own = c.in_ok-privates.ensures ∙ ap (tried_privates t) (sym (body_there tree n (nest_body nest) c.requires.body)) in
    let kept = subst (λ ws. IsCause (alone_asked tree n t ws) cause) own (subst (IsDealtVerdict tree n t vs) c.in-Kept.is c.in_ok-dealt.ensures) in
    let h = subst (IsSureVerdict tree n t) c.in-Some.is c.in_ok-dealt-2.ensures in
    let sure = c.in-Some.dealt.privates in
    let first = first_of tree n (nest_body nest) ts k t sure c.loop-tried.reasons.items c.requires.body (c.as_slice-tried-items.ensures.value ∙ c.in_ok-tries.ensures) (slice_get-get_or ts k _ c.loop-tried-test.true) c.requires.silent
    (inr (h.1, h.2, fails_so tree n t cause c.requires.silent kept)) c.loop-tried.invariant.barred c.loop-tried.invariant.sure in
    first_verdict tree n t sure c.in-Some.dealt first h.0 refl h.3

pub loop-tried-preserved : goal.loop-tried-preserved
loop-tried-preserved c =
    let tree = tree_of c.args.program.now in
    let nest = c.args.nest.now in
    let n = nest.number in
    let ts = c.as_slice-tried-items.result.now in
    let k = c.loop-tried.tried-index in
    let t = slice_index_or ts k Doall in
    let vs = c.in_ok-privates.privates in
    let cause = c.in-Kept.cause in
    let at = slice_get-get_or ts k _ c.loop-tried-test.true in
    let own = c.in_ok-privates.ensures ∙ ap (tried_privates t) (sym (body_there tree n (nest_body nest) c.requires.body)) in
    let kept = subst (λ ws. IsCause (alone_asked tree n t ws) cause) own (subst (IsDealtVerdict tree n t vs) c.in-Kept.is c.in_ok-dealt.ensures) in
    record {
      barred = subst (λ rs. AllZip (IsLoopReason tree) (map (attempt n) (take (k + 1) ts)) rs) (sym c.in_ok-push-in-Kept.ensures.items)
          (fails_more tree n ts k t c.loop-tried.reasons.items cause at c.requires.silent c.loop-tried.invariant.barred kept);
      sure = sure_more tree n ts k t at c.loop-tried.invariant.sure (subst (IsSureVerdict tree n t) c.in_default.is c.in_ok-dealt-2.ensures);
    }
