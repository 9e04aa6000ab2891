use Rattle.std.proofs.Common.{◌∷◌, [], ℕ, ℤ, pos, take, get_or, ap, sym, ◌∙◌, subst}
use Rattle.std.proofs.lemmas.List.{map-append, take_all, take_more}
use Rattle.nest_systems.specs.Kept.{HasTaken, unknowns_in}
use Rattle.nest_systems.proofs.KeptConstants.{taken-both, taken-none}
use Rattle.nest_systems.proofs.kept.take_named.Goals as goal

pub loop-unknown-init : goal.loop-unknown-init
loop-unknown-init c = taken-none c.args.constants c.args.kept.now.items

pub loop-unknown-preserved : goal.loop-unknown-preserved
loop-unknown-preserved c =
    let ts = c.args.terms.now in
    let k = c.loop-unknown.unknown-index in
    let t = get_or ts k (0, pos 0) in
    let old = c.args.kept.now.items in
    let both = taken-both c.args.constants (unknowns_in (take k ts)) (t.0 ∷ []) old c.loop-unknown.kept.items c.take_constant.new.kept.items c.loop-unknown.invariant c.in_ok-take_constant.ensures in
    subst (λ xs. HasTaken c.args.constants xs old c.take_constant.new.kept.items) (sym (ap unknowns_in (take_more ts k (0, pos 0) c.loop-unknown-test.true) ∙ map-append (λ (t : ℕ × ℤ). t.0) (take k ts) (t ∷ []))) both

pub returns : goal.returns
returns c =
    let ts = c.args.terms.now in
    subst (λ xs. HasTaken c.args.constants (unknowns_in xs) c.args.kept.now.items c.loop-unknown.kept.items) (take_all c.loop-unknown.unknown-index ts c.loop-unknown-test.false) c.loop-unknown.invariant
