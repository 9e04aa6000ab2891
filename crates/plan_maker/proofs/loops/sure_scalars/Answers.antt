use Rattle.std.proofs.Common.{◌≡◌, ◌+◌, ◌<◌, ◌≤◌, true, false, [], length, ap, sym, ◌∙◌, subst, arith}
use Rattle.std.proofs.lemmas.List.{length-map}
use Rattle.nest_tree.specs.Prints.{have_print}
use Rattle.nest_tree.specs.View.{declaration_of, statements_from, tree_of}
use Rattle.nest_tree.specs.WellFormed.{scope_of}
use Rattle.nest_tree.proofs.Cells.{well_formed_parts}
use Rattle.own_scalars.specs.OwnScalars.{is_private}
use Rattle.maker_marks.specs.Tries.{nest_body}
use Rattle.plan_maker.specs.Cut.{path_asked}
use Rattle.plan_maker.specs.Judged.{IsSettled}
use Rattle.plan_maker.proofs.Attempts.{body_there}
use Rattle.plan_maker.proofs.CutFits.{found_within}
use Rattle.plan_maker.proofs.SureScalars.{AreSureBelow, alone_made, sure_all, sure_full, sure_left, sure_none, sure_other, sure_taken, variables_few}
use Rattle.plan_maker.proofs.TriedCuts.{body_good}
use Rattle.plan_maker.proofs.loops.sure_scalars.Goals as goal
use Rattle.plan_maker.proofs.loops.sure_scalars.Goals.{then-len-lt-MOST_OWN+then-is_private+in_ok-is_sure+then-branch+in_ok-push, else-len-lt-MOST_OWN, else-len-lt-MOST_OWN-via-then-len-lt-MOST_OWN+then-is_private+in_ok-is_sure+else-branch, else-len-lt-MOST_OWN-via-then-len-lt-MOST_OWN+else-is_private, else-len-lt-MOST_OWN-via-else-len-lt-MOST_OWN}

pub loop-place-init : goal.loop-place-init
loop-place-init c =
    let tree = tree_of c.args.program.now in
    let nest = c.args.nest.now in
    let none = sure_none tree nest.number (nest_body nest) (body_good tree nest.number (nest_body nest) c.args.program.now.formed c.requires.body) in
    subst (AreSureBelow tree nest.number (nest_body nest) 1) (sym c.new-sure.ensures.items) none

pub overflow_cast-scalar : goal.overflow_cast-scalar
overflow_cast-scalar c =
    let variables = c.args.program.now.variables in
    omega (arith, variables_few (tree_of c.args.program.now) c.args.program.now.formed c.args.program.now.limits, c.loop-place-test.true, c.len-place-end.ensures, length-map variables.items declaration_of, variables.ok.0)

pub overflow_add-scalar : goal.overflow_add-scalar
overflow_add-scalar c =
    let variables = c.args.program.now.variables in
    omega (arith, variables_few (tree_of c.args.program.now) c.args.program.now.formed c.args.program.now.limits, c.loop-place-test.true, c.len-place-end.ensures, length-map variables.items declaration_of, variables.ok.0)

pub is_sure-requires-clause-some : goal.is_sure-requires-clause-some
is_sure-requires-clause-some c =
    let tree = tree_of c.args.program.now in
    let nest = c.args.nest.now in
    (found_within (scope_of tree) [] 1 nest.number tree.items (nest_body nest) (well_formed_parts tree c.args.program.now.formed).statements c.requires.body).0

pub is_sure-requires-clause-made : goal.is_sure-requires-clause-made
is_sure-requires-clause-made c =
    let tree = tree_of c.args.program.now in
    let nest = c.args.nest.now in
    let v = c.loop-place.place + 1 in
    let here = body_there tree nest.number (nest_body nest) c.requires.body in
    let is : is_private v (nest_body nest) ≡ true = ap (λ xs. is_private v (statements_from xs)) (sym c.deref.ensures.value) ∙ sym c.is_private.ensures ∙ c.if-is_private.true in
    alone_made tree nest.number v (nest_body nest) here (sym (ap have_print here) ∙ c.requires.silent) (omega arith) is

pub loop-place-preserved : goal.loop-place-preserved
loop-place-preserved c =
    let tree = tree_of c.args.program.now in
    let nest = c.args.nest.now in
    let n = nest.number in
    let body = nest_body nest in
    let v = c.loop-place.place + 1 in
    let vs = c.loop-place.sure.items in
    let old = c.loop-place.invariant in
    elim c.if-len-lt-MOST_OWN.branch [
      | then-len-lt-MOST_OWN+then-is_private+in_ok-is_sure+then-branch+in_ok-push w ↦
          let is : is_private v body ≡ true = ap (λ xs. is_private v (statements_from xs)) (sym w.deref.ensures.value) ∙ sym w.is_private.ensures ∙ w.if-is_private.true in
          let room : length vs < 16 = omega (arith, w.if-len-lt-MOST_OWN.true, c.len.ensures, c.loop-place.sure.ok.0) in
          let refuted = subst (IsSettled (path_asked tree n v)) w.if-branch.true w.in_ok-is_sure.ensures in
          rw w.sure-is (subst (AreSureBelow tree n body (v + 1)) (sym w.in_ok-push.ensures.items) (sure_taken tree n body v vs old is room refuted))
      | else-len-lt-MOST_OWN w ↦
          rw w.sure-is (elim w.else-len-lt-MOST_OWN.branch [
            | else-len-lt-MOST_OWN-via-then-len-lt-MOST_OWN+then-is_private+in_ok-is_sure+else-branch u ↦
                let is : is_private v body ≡ true = ap (λ xs. is_private v (statements_from xs)) (sym u.deref.ensures.value) ∙ sym u.is_private.ensures ∙ u.if-is_private.true in
                let cause = subst (IsSettled (path_asked tree n v)) u.if-branch.false u.in_ok-is_sure.ensures in
                sure_left tree n body v vs old is cause
            | else-len-lt-MOST_OWN-via-then-len-lt-MOST_OWN+else-is_private u ↦
                let isnt : is_private v body ≡ false = ap (λ xs. is_private v (statements_from xs)) (sym u.deref.ensures.value) ∙ sym u.is_private.ensures ∙ u.if-is_private.false in
                sure_other tree n body v vs old isnt
            | else-len-lt-MOST_OWN-via-else-len-lt-MOST_OWN u ↦
                let full : 16 ≤ length vs = omega (arith, u.if-len-lt-MOST_OWN.false, c.len.ensures, c.loop-place.sure.ok.0) in
                sure_full tree n body v vs old full
          ])
    ]

pub returns : goal.returns
returns c =
    let tree = tree_of c.args.program.now in
    let nest = c.args.nest.now in
    let vs = c.loop-place.sure.items in
    let variables = c.args.program.now.variables in
    let end : c.loop-place.place + 1 ≡ length tree.variables + 1 = omega (arith, c.loop-place-test.false, c.loop-place.auto.place-end, c.len-place-end.ensures, length-map variables.items declaration_of, variables.ok.0) in
    sure_all tree nest.number (nest_body nest) vs c.args.program.now.formed c.requires.body (subst (λ m. AreSureBelow tree nest.number (nest_body nest) m vs) end c.loop-place.invariant)
