use Rattle.std.proofs.Common.{◌≡◌, length, arith, sym, ◌∙◌}
use Rattle.f77_lines.proofs.Cuts.{first_kept-none}
use Rattle.f77_lines.proofs.behind.first_kept.Goals as goal

pub returns : goal.returns
returns c =
    let none : length c.loop-rest.rest.now ≡ 0 = grind arith in
    let e = first_kept-none c.loop-rest.number c.loop-rest.rest.now none in
    sym e ∙ c.loop-rest.invariant.first
