use Rattle.std.proofs.Common.{◌≡◌, take, sym, rules, subst}
use Rattle.std.specs.List.{flat_map}
use Rattle.std.proofs.lemmas.List.{take_all}
use Rattle.nest_walk.proofs.TableParts.{pieces_taken}
use Rattle.nest_rows.specs.declared.constraint.Constraint.{Constraint}
use Rattle.nest_systems.specs.Kept.{HasTaken, unknowns_in}
use Rattle.nest_systems.proofs.KeptConstants.{taken-both, taken-none}
use Rattle.nest_systems.proofs.kept.take_all_named.Goals as goal

pub loop-constraint-init : goal.loop-constraint-init
loop-constraint-init c = taken-none c.args.constants c.args.kept.now.items

pub loop-constraint-preserved : goal.loop-constraint-preserved
loop-constraint-preserved c =
    let f = λ (x : Constraint). unknowns_in x.terms in
    let cs = c.args.constraints.now in
    let k = c.loop-constraint.constraint-index in
    let x = c.constraint-item.result in
    let old = c.args.kept.now.items in
    let new = c.take_named.new.kept.items in
    let terms : c.as_slice.result.now ≡ x.terms = search rules in
    let both = taken-both c.args.constants (flat_map f (take k cs)) (f x) old c.loop-constraint.kept.items new c.loop-constraint.invariant (subst (λ ts. HasTaken c.args.constants (unknowns_in ts) c.loop-constraint.kept.items new) terms c.in_ok-take_named.ensures) in
    subst (λ xs. HasTaken c.args.constants xs old new) (sym (pieces_taken f cs k x c.loop-constraint-test.true c.constraint-item.is)) both

pub returns : goal.returns
returns c =
    let f = λ (x : Constraint). unknowns_in x.terms in
    subst (λ xs. HasTaken c.args.constants (flat_map f xs) c.args.kept.now.items c.loop-constraint.kept.items) (take_all c.loop-constraint.constraint-index c.args.constraints.now c.loop-constraint-test.false) c.loop-constraint.invariant
