use Rattle.std.proofs.Common.{◌∷◌, [], take, get_or, sym, subst}
use Rattle.std.proofs.lemmas.List.{take_all, take_more}
use Rattle.nest_systems.specs.Kept.{HasTaken}
use Rattle.nest_systems.proofs.KeptConstants.{taken-both, taken-none}
use Rattle.nest_systems.proofs.kept.take_constants.Goals as goal

pub loop-unknown-init : goal.loop-unknown-init
loop-unknown-init c = taken-none c.args.constants c.args.kept.now.items

pub loop-unknown-preserved : goal.loop-unknown-preserved
loop-unknown-preserved c =
    let us = c.args.unknowns.now in
    let k = c.loop-unknown.unknown-index in
    let u = get_or us k 0 in
    let old = c.args.kept.now.items in
    let both = taken-both c.args.constants (take k us) (u ∷ []) old c.loop-unknown.kept.items c.take_constant.new.kept.items c.loop-unknown.invariant c.in_ok-take_constant.ensures in
    subst (λ xs. HasTaken c.args.constants xs old c.take_constant.new.kept.items) (sym (take_more us k 0 c.loop-unknown-test.true)) both

pub returns : goal.returns
returns c =
    let us = c.args.unknowns.now in
    subst (λ xs. HasTaken c.args.constants xs c.args.kept.now.items c.loop-unknown.kept.items) (take_all c.loop-unknown.unknown-index us c.loop-unknown-test.false) c.loop-unknown.invariant
