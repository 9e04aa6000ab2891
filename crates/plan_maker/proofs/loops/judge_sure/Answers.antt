use Rattle.std.proofs.Common.{◌≡◌, ◌==◌, List, [], ℕ, true, false, length, ap, sym, ◌∙◌, subst, inl, inr}
use Rattle.std.proofs.lemmas.Bool.{eqb-true}
use Rattle.std.proofs.lemmas.Bool.Decides.{Decides-eqb}
use Rattle.std.proofs.lemmas.List.{nil_from_length}
use Rattle.std.proofs.lemmas.Slice.Eq.{slice_eq-Decides}
use Rattle.nest_tree.specs.View.{tree_of}
use Rattle.nest_tree.specs.WellFormed.{scope_of}
use Rattle.nest_tree.proofs.Cells.{well_formed_parts}
use Rattle.maker_marks.specs.Tries.{IsMadeOf, body_of, nest_body, tried_privates}
use Rattle.plan_maker.specs.Asked.{IsCause}
use Rattle.plan_maker.specs.Bars.{AreSure, IsUnmade}
use Rattle.plan_maker.specs.Cut.{alone_asked}
use Rattle.plan_maker.specs.Loops.{IsDealtVerdict}
use Rattle.plan_maker.proofs.Attempts.{body_there}
use Rattle.plan_maker.proofs.CutFits.{found_within}
use Rattle.plan_maker.proofs.TriedCuts.{none_without, private_is, sure_made}
use Rattle.plan_maker.proofs.loops.judge_sure.Goals.{else-eq, then-eq, then-is_doall-via-else-is_doall+then-eq-2, then-is_doall-via-then-is_doall}
use Rattle.plan_maker.proofs.loops.judge_sure.Goals as goal

pub returns-then-is_empty : goal.returns-then-is_empty
returns-then-is_empty c =
    let tree = tree_of c.args.program.now in
    let nest = c.args.nest.now in
    let found = c.as_slice.result.now in
    let none = nil_from_length found (eqb-true (length found) 0 (sym c.is_empty.ensures ∙ c.if-is_empty.true)) in
    inl (ap (tried_privates c.args.tried) (body_there tree nest.number (nest_body nest) c.requires.body) ∙ sym c.in_ok-all.ensures ∙ sym c.as_slice.ensures ∙ none)

pub judge_try-requires-clause-some : goal.judge_try-requires-clause-some
judge_try-requires-clause-some c =
    let tree = tree_of c.args.program.now in
    let nest = c.args.nest.now in
    (found_within (scope_of tree) [] 1 nest.number tree.items (nest_body nest) (well_formed_parts tree c.args.program.now.formed).statements c.requires.body).0

pub judge_try-requires-clause-made : goal.judge_try-requires-clause-made
judge_try-requires-clause-made c =
    let tree = tree_of c.args.program.now in
    let nest = c.args.nest.now in
    let t = c.args.tried in
    let sure = c.in_ok-sure.sure.items in
    let some = ap (λ (xs : List ℕ). length xs == 0) (sym c.as_slice.ensures) ∙ sym c.is_empty.ensures ∙ c.if-is_empty.false in
    let made = sure_made tree nest.number t sure (nest_body nest) c.args.program.now.formed c.requires.body c.requires.made c.in_ok-sure.ensures (none_without t c.in_ok-all.all sure (nest_body nest) c.in_ok-all.ensures some) in
    subst (λ vs. IsMadeOf t vs (body_of tree nest.number)) (sym c.from_vec-sure.ensures) made

pub returns-then-is_doall : goal.returns-then-is_doall
returns-then-is_doall c =
    let tree = tree_of c.args.program.now in
    let nest = c.args.nest.now in
    let t = c.args.tried in
    let sure = c.in_ok-sure.sure.items in
    let here = ap (tried_privates t) (body_there tree nest.number (nest_body nest) c.requires.body) in
    let unmade : IsUnmade tree nest.number t sure = elim c.then-is_doall.branch [
      | then-is_doall-via-then-is_doall w ↦ elim c.if-eq.branch [
        | then-eq v ↦ inr (nil_from_length sure (sym c.in_ok-sure.sure.ok.0 ∙ eqb-true c.in_ok-sure.sure.len 0 (sym v.is_empty-is_doall.ensures ∙ sym v.is_doall-is ∙ w.if-is_doall.true)), private_is t (sym c.eq.ensures ∙ v.if-eq.true))
        | else-eq v ↦ absurd (let no : false ≡ true = sym v.if-eq.false ∙ sym v.is_doall-is ∙ w.if-is_doall.true in cc)
      ]
      | then-is_doall-via-else-is_doall+then-eq-2 w ↦
          let same = (slice_eq-Decides Decides-eqb _ _ _ w.eq-else-is_doall.ensures).0 w.if-eq-2.true in
          inl (sym w.as_slice-else-is_doall.ensures.value ∙ same ∙ w.as_slice-else-is_doall-2.ensures ∙ c.in_ok-all.ensures ∙ sym here)
    ] in
    inr (sure, c.in_ok-sure.ensures, inl unmade)

pub returns-in-Refuted : goal.returns-in-Refuted
returns-in-Refuted c =
    let tree = tree_of c.args.program.now in
    let nest = c.args.nest.now in
    let t = c.args.tried in
    let dealt = c.in-Refuted.dealt in
    let h = subst (IsDealtVerdict tree nest.number t c.from_vec-sure.result) c.in-Refuted.is c.in_ok-dealt.ensures in
    let own = h.1 ∙ c.from_vec-sure.ensures in
    let some = ap (λ (xs : List ℕ). length xs == 0) (sym c.as_slice.ensures) ∙ sym c.is_empty.ensures ∙ c.if-is_empty.false in
    (h.0, none_without t c.in_ok-all.all dealt.privates (nest_body nest) c.in_ok-all.ensures some, subst (AreSure tree nest.number) (sym own) c.in_ok-sure.ensures, h.2)

pub returns : goal.returns
returns c =
    let tree = tree_of c.args.program.now in
    let nest = c.args.nest.now in
    let t = c.args.tried in
    let sure = c.in_ok-sure.sure.items in
    let kept = subst (IsDealtVerdict tree nest.number t c.from_vec-sure.result) c.in-Kept.is c.in_ok-dealt.ensures in
    let cause = c.in-Kept.field-0 in
    inr (sure, c.in_ok-sure.ensures, inr (cause, subst (λ vs. IsCause (alone_asked tree nest.number t vs) cause) c.from_vec-sure.ensures kept))
