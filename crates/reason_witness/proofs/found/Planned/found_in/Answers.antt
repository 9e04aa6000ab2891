use Rattle.std.proofs.Common.{◌≡◌, [], ◌∷◌, false, length, refl, sym, true, ◌∙◌, subst}
use Rattle.std.specs.List.{Contains}
use Rattle.std.specs.Option.{is_some}
use Rattle.std.proofs.lemmas.Iterator.Adapters.{YieldsList-from_vec}
use Rattle.std.proofs.lemmas.Iterator.Consumers.{YieldsList-end, YieldsList-turn}
use Rattle.std.proofs.lemmas.List.{map-id}
use Rattle.nest_tree.specs.View.{tree_of}
use Rattle.comm_system.specs.GroupViews.{group_seen}
use Rattle.comm_system.specs.Subjects.{obligations_in}
use Rattle.comm_system.proofs.Lists.{contains_nothing}
use Rattle.list_lemmas.proofs.Elements.{Contains-one}
use Rattle.reason_witness.specs.Findings.{AreCertified}
use Rattle.reason_witness.proofs.Searched.{certified_push, found_more, searched_none}
use Rattle.reason_witness.proofs.found.Planned.found_in.Goals as goal

pub loop-obligation-init : goal.loop-obligation-init
loop-obligation-init c = λ o there wanted_is. absurd (contains_nothing o there)

pub returns-then-is_some : goal.returns-then-is_some
returns-then-is_some c =
    let all = c.in_ok-all.all in
    let those = obligations_in (tree_of c.args.self.now.program.now) c.args.self.now.plan.now (group_seen c.args.group.now) in
    let o = c.in-Some.obligation in
    let done = c.loop-obligation.yielded in
    let into = c.into_iter-obligation-iterator.ensures.into_iter_gives in
    let road = YieldsList-from_vec {s = c.into_iter-obligation-iterator.result} all.items into.0 (into.1 ∙ all.ok.0) in
    let turn = YieldsList-turn road done c.loop-obligation.obligation-iterator c.loop-obligation.yielded_by c.next.result c.next.new.self o c.in-Some.is c.next.ensures.steps in
    let listed : Contains all.items o = (length done, turn.0, sym turn.1) in
    let there = subst (λ os. Contains os o) c.in_ok-all.ensures listed in
    let some : is_some c.in_ok-found.found ≡ true = sym c.is_some.ensures ∙ c.if-is_some.true in
    found_more true c.args.self.now.is_whole (o ∷ []) those c.args.wanted.now c.in_ok-found.found some (λ p one. subst (Contains those) (Contains-one o p one) there) c.in_ok-found.ensures

pub loop-obligation-preserved : goal.loop-obligation-preserved
loop-obligation-preserved c =
    let o = c.in-Some.obligation in
    let none : is_some c.in_ok-found.found ≡ false = sym c.is_some.ensures ∙ c.if-is_some.false in
    certified_push c.args.wanted.now c.loop-obligation.yielded o c.loop-obligation.invariant (searched_none true (o ∷ []) c.args.wanted.now c.in_ok-found.found none c.in_ok-found.ensures refl)

pub returns : goal.returns
returns c =
    let all = c.in_ok-all.all in
    let done = c.loop-obligation.yielded in
    let into = c.into_iter-obligation-iterator.ensures.into_iter_gives in
    let road = YieldsList-from_vec {s = c.into_iter-obligation-iterator.result} all.items into.0 (into.1 ∙ all.ok.0) in
    let finish = YieldsList-end road done c.loop-obligation.obligation-iterator c.loop-obligation.yielded_by c.next.result c.next.new.self c.in-None.is c.next.ensures.steps in
    λ yes. subst (λ os. AreCertified os c.args.wanted.now) (sym (map-id done) ∙ finish.0 ∙ c.in_ok-all.ensures) c.loop-obligation.invariant
