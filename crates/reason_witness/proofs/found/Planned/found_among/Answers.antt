use Rattle.std.proofs.Common.{◌≡◌, [], ◌∷◌, ◌++◌, false, map, sym, take, true, ap, ◌∙◌, subst}
use Rattle.std.specs.List.{Contains, flat_map}
use Rattle.std.specs.Option.{is_some}
use Rattle.std.proofs.lemmas.Grind.{flat_map-append}
use Rattle.std.proofs.lemmas.List.{append-nil, map_more, take_all}
use Rattle.list_lemmas.proofs.Elements.{Contains-map as in_map, Contains-flat_map as in_flat_map}
use Rattle.nest_tree.specs.View.{tree_of}
use Rattle.comm_system.specs.GroupViews.{group_seen}
use Rattle.comm_system.specs.Subjects.{obligations_in}
use Rattle.comm_system.proofs.Lists.{contains_nothing}
use Rattle.reason_witness.specs.Findings.{AreCertified}
use Rattle.reason_witness.proofs.Searched.{certified_append, found_more, searched_none}
use Rattle.reason_witness.proofs.found.Planned.found_among.Goals as goal

pub loop-group-init : goal.loop-group-init
loop-group-init c = λ yes o there wanted_is. absurd (contains_nothing o there)

pub returns-then-is_some : goal.returns-then-is_some
returns-then-is_some c =
    let groups = c.args.groups.now in
    let g = c.group-item.result in
    let f = obligations_in (tree_of c.args.self.now.program.now) c.args.self.now.plan.now in
    let there : Contains groups g = (c.loop-group.group-index, c.loop-group-test.true, sym c.group-item.is) in
    let some : is_some c.in_ok-found.found ≡ true = sym c.is_some.ensures ∙ c.if-is_some.true in
    let whole = c.args.self.now.is_whole in
    found_more whole whole (f (group_seen g)) (flat_map f (map group_seen groups)) c.args.wanted.now c.in_ok-found.found some (λ o among. in_flat_map f (map group_seen groups) (group_seen g) o (in_map group_seen groups g there) among) c.in_ok-found.ensures

pub loop-group-preserved : goal.loop-group-preserved
loop-group-preserved c =
    let groups = c.args.groups.now in
    let i = c.loop-group.group-index in
    let g = c.group-item.result in
    let f = obligations_in (tree_of c.args.self.now.program.now) c.args.self.now.plan.now in
    let before = map group_seen (take i groups) in
    let none : is_some c.in_ok-found.found ≡ false = sym c.is_some.ensures ∙ c.if-is_some.false in
    let mapped = map_more group_seen groups i g c.loop-group-test.true ∙ ap (λ x. before ++ group_seen x ∷ []) (sym c.group-item.is) in
    let split = ap (flat_map f) mapped ∙ flat_map-append f before (group_seen g ∷ []) ∙ ap (λ os. flat_map f before ++ os) (append-nil (f (group_seen g))) in
    λ yes. subst (λ os. AreCertified os c.args.wanted.now) (sym split)
    (certified_append c.args.wanted.now (flat_map f before) (f (group_seen g)) (c.loop-group.invariant yes) (searched_none c.args.self.now.is_whole (f (group_seen g)) c.args.wanted.now c.in_ok-found.found none c.in_ok-found.ensures yes))

pub returns : goal.returns
returns c =
    let groups = c.args.groups.now in
    let f = obligations_in (tree_of c.args.self.now.program.now) c.args.self.now.plan.now in
    λ yes. subst (λ gs. AreCertified (flat_map f (map group_seen gs)) c.args.wanted.now) (take_all c.loop-group.group-index groups c.loop-group-test.false) (c.loop-group.invariant yes)
