use Rattle.std.proofs.Common.{◌≡◌, ◌+◌, ◌<◌, ◌++◌, length, map, min, nat_lt, take, ap, sym, ◌∙◌, arith}
use Rattle.std.specs.List.{list_all}
use Rattle.std.proofs.lemmas.List.{length-map}
use Rattle.list_lemmas.proofs.Each.{passes_at}
use Rattle.nest_tree.specs.View.{tree_of}
use Rattle.plan_checker.proofs.Certified.{fit_shape}
use Rattle.comm_system.specs.PhaseViews.{phase_seen}
use Rattle.comm_system.specs.References.{phases_of}
use Rattle.comm_system.specs.Signatures.{has_places_in}
use Rattle.maker_candidates.specs.Candidates.{candidates_in}
use Rattle.maker_candidates.proofs.Lists.{candidates_long}
use Rattle.plan_maker.proofs.Fresh.{all_have}
use Rattle.sync_plan.specs.Kinds.{strength}
use Rattle.reason_witness.specs.Reasons.{kind_question, weaker_questions, weaker_than}
use Rattle.reason_witness.proofs.Questions.{all_filtered, weaker_all, weaker_more}
use Rattle.reason_witness.proofs.asked.given_phases.Goals as goal

-- a place is that of a phase
place-few : (c : goal.In_ok-weaker) → c.loop-place.place < 1048576
place-few c =
    let plan = c.args.plan.now in
    let phases = phases_of (tree_of c.args.program.now) plan.cut.marks in
    let many = ap length (c.as_slice-candidates.ensures.value ∙ c.in_ok-candidates.ensures) ∙ candidates_long (tree_of c.args.program.now) plan.cut.marks plan.workers plan.anchors phases 1 phases ∙ ap length (sym c.requires.phases) ∙ length-map c.args.phases.now phase_seen in
    omega (arith, many, c.requires.few, c.loop-place-test.true, c.min-place-end.ensures)

pub overflow_cast-place : goal.overflow_cast-place
overflow_cast-place c = omega (arith, place-few c)

pub overflow_add-place : goal.overflow_add-place
overflow_add-place c = omega (arith, place-few c)

pub push_weaker-requires : goal.push_weaker-requires
push_weaker-requires c =
    let tree = tree_of c.args.program.now in
    let plan = c.args.plan.now in
    let all = c.as_slice-candidates.result.now in
    let kind = c.kind_in-kind.result.now in
    let here = c.candidates_at.result.now in
    let have = ap (list_all (λ ks. list_all has_places_in ks)) (c.as_slice-candidates.ensures.value ∙ c.in_ok-candidates.ensures) ∙ all_have tree plan (fit_shape tree plan c.requires.fits) in
    ap (list_all has_places_in) c.in_ok-weaker.ensures ∙ all_filtered has_places_in (λ k. nat_lt (strength k) (strength kind)) here (passes_at (λ ks. list_all has_places_in ks) all c.loop-place.place here have c.candidates_at.ensures)

pub loop-place-preserved : goal.loop-place-preserved
loop-place-preserved c =
    let all = c.as_slice-candidates.result.now in
    let kinds = c.as_slice-kinds.result.now in
    let i = c.loop-place.place in
    let kind = c.kind_in-kind.result.now in
    let here = c.candidates_at.result.now in
    let before = weaker_questions 1 (take i all) (take i kinds) in
    let number : i + 1 ≡ 1 + i = omega arith in
    c.in_ok-push_weaker.ensures
    ∙ ap (λ qs. qs ++ map (kind_question (i + 1)) c.in_ok-weaker.weaker.items) c.loop-place.invariant
    ∙ ap (λ ks. before ++ map (kind_question (i + 1)) ks) c.in_ok-weaker.ensures
    ∙ ap (λ n. before ++ map (kind_question n) (weaker_than kind here)) number
    ∙ sym (weaker_more 1 i all kinds here kind c.candidates_at.ensures c.kind_in-kind.ensures)

pub returns : goal.returns
returns c =
    let all = c.as_slice-candidates.result.now in
    let kinds = c.as_slice-kinds.result.now in
    let place : c.loop-place.place ≡ min (length all) (length kinds) = omega (arith, c.loop-place-test.false, c.loop-place.auto.place-end, c.min-place-end.ensures) in
    c.loop-place.invariant ∙ weaker_all 1 c.loop-place.place all kinds place
    ∙ ap (λ cs. weaker_questions 1 cs kinds) (c.as_slice-candidates.ensures.value ∙ c.in_ok-candidates.ensures)
    ∙ ap (weaker_questions 1 (candidates_in (tree_of c.args.program.now) c.args.plan.now)) c.as_slice-kinds.ensures
