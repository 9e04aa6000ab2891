use Rattle.std.proofs.Common.{◌≡◌, ℕ, Vec, Global, None, length, ap, sym, arith}
use Rattle.std.proofs.lemmas.List.{length-map}
use Rattle.f77_program.specs.Numbered.{numbered}
use Rattle.f77_source.proofs.Variables.{number_among-missing}
use Rattle.f77_source.proofs.tree.variable_number.Goals as goal

pub returns-in-None : goal.returns-in-None
returns-in-None c =
    let missing : numbered c.args.variables.now c.args.name.now ≡ None = sym c.in-None.ensures.number in
    omega (arith, number_among-missing c.args.variables.now c.args.name.now missing, ap length c.as_slice.ensures, length-map c.as_slice.result.now (λ (n : Vec ℕ Global). n.items))
