use Rattle.std.proofs.Common.{◌≡◌, ◌≤◌, ◌⊎◌, rules, map, ap, inl, inr, sym, subst, arith}
use Rattle.std.specs.List.{Contains, flat_map}
use Rattle.nest_tree.specs.View.{tree_of}
use Rattle.comm_system.specs.GroupViews.{group_seen, listed_seen}
use Rattle.comm_system.specs.Obligations.{obligations_of}
use Rattle.comm_system.specs.Subjects.{obligations_in}
use Rattle.comm_system.specs.declared.obligation.Obligation.{Obligation}
use Rattle.reason_witness.specs.Findings.{IsWanted}
use Rattle.reason_witness.specs.declared.found.Wanted.{Wanted}
use Rattle.reason_witness.proofs.Searched.{listed_in, reached, searched_more_ok}
use Rattle.reason_witness.proofs.found.Planned.found_once.Goals as goal
use Rattle.reason_witness.proofs.found.Planned.found_once.Goals.{in-Number, in-First, in-First-2}

pub returns : goal.returns
returns c =
    let tree = tree_of c.args.self.now.program.now in
    let plan = c.args.self.now.plan.now in
    let wanted = c.args.wanted.now in
    let f = obligations_in tree plan in
    let most = c.match-wanted.most in
    let listed = listed_seen c.in_ok-groups.groups in
    let those = flat_map f (map group_seen c.as_slice-2.result.now) in
    let same : those ≡ flat_map f listed.groups = ap (λ gs. flat_map f (map group_seen gs)) c.as_slice-2.ensures.value in
    let near : (o : Obligation) → IsWanted wanted o → (o.number ≤ most) ⊎ (listed.next ≤ most) = λ o wanted_is. elim c.match-wanted.branch [
      | in-Number w ↦ let number : o.number ≡ w.in-Number.number = subst (λ (x : Wanted). IsWanted x o) w.in-Number.is wanted_is in inl (omega (arith, number, w.most-is))
      | in-First w ↦ let within : c.in_ok-groups.groups.next ≤ 18446744073709551615 = search rules in inr (omega (arith, within, w.most-is))
      | in-First-2 w ↦ let within : c.in_ok-groups.groups.next ≤ 18446744073709551615 = search rules in inr (omega (arith, within, w.most-is))
    ] in
    searched_more_ok c.args.self.now.is_whole those (obligations_of tree plan) wanted c.found_among.result (λ o among. listed_in tree plan most listed c.in_ok-groups.ensures o (subst (λ os. Contains os o) same among))
    (λ o there wanted_is. subst (λ os. Contains os o) (sym same) (reached tree plan most listed c.in_ok-groups.ensures o there (near o wanted_is))) c.found_among.ensures
