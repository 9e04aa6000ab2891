use Rattle.std.proofs.Common.{rules, ap, sym, ◌∙◌, ◌-◌, pos, get_or, w64, FitsSigned, if◌then◌else◌}
use Rattle.std.proofs.lemmas.Bool.{eq-eqb, ne_eqb}
use Rattle.std.proofs.lemmas.Int.{to_z-of_z}
use Rattle.nest_walk.specs.Paths.{rounds_to, value_among}
use Rattle.nest_walk.proofs.PathLists.{value_among-last}
use Rattle.nest_walk.proofs.path.Path.value_of.Goals as goal

pub returns-then-self-depth : goal.returns-then-self-depth
returns-then-self-depth c =
    let p = c.args.self.now in
    let k = c.loop-depth.depth in
    let value = get_or p.values (k - 1) (pos 0) in
    let fits : FitsSigned w64 value = search rules in
    let last = value_among-last p.numbers p.values k c.args.number c.loop-depth-test.true in
    let found = eq-eqb (get_or p.numbers (k - 1) 0) c.args.number c.if-self-depth.true in
    to_z-of_z w64 value fits ∙ sym (ap (λ b. if b then value else value_among (rounds_to p.numbers p.values (k - 1)) c.args.number) found) ∙ sym last ∙ c.loop-depth.invariant

pub loop-depth-preserved : goal.loop-depth-preserved
loop-depth-preserved c =
    let p = c.args.self.now in
    let k = c.loop-depth.depth in
    let last = value_among-last p.numbers p.values k c.args.number c.loop-depth-test.true in
    let other = ne_eqb (get_or p.numbers (k - 1) 0) c.args.number c.if-self-depth.false in
    sym (ap (λ b. if b then get_or p.values (k - 1) (pos 0) else value_among (rounds_to p.numbers p.values (k - 1)) c.args.number) other) ∙ sym last ∙ c.loop-depth.invariant
