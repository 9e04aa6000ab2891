use Rattle.std.proofs.Common.{rules, ◌≡◌, ◌<◌, ◌+ℤ◌, ◌*ℤ◌, pos, FitsSigned, to_z, of_z, w64, ap, ◌∙◌, arith}
use Rattle.std.specs.Int.{int_rem_euclid}
use Rattle.std.proofs.lemmas.Int.{to_z-of_z}
use Rattle.nest_tree.specs.Form.{dot}
use Rattle.nest_tree.specs.Tree.{param_values}
use Rattle.nest_tree.specs.View.{tree_of}
use Rattle.c_owners.specs.Owners.{loops_in}
use Rattle.c_owners.proofs.Likeness.{adds_alike, constant_alike, nothing_alike, parts_alike}
use Rattle.c_owners.proofs.layout.Layout.residues.Goals as goal

pub returns : goal.returns
returns c =
    let workers = c.args.self.now.workers in
    let spot = c.args.spot.now in
    let values = param_values (tree_of c.args.self.now.program.now) in
    let some : 0 < workers = omega (arith, c.args.self.now.some) in
    let fk : FitsSigned w64 spot.constant = search rules in
    let fr : FitsSigned w64 c.residue.result = search rules in
    let constant : to_z w64 (of_z w64 c.residue.result) ≡ int_rem_euclid spot.constant (pos workers) = to_z-of_z w64 c.residue.result fr ∙ c.residue.ensures ∙ ap (λ z. int_rem_euclid z (pos workers)) (to_z-of_z w64 spot.constant fk) in
    let first = adds_alike workers c.new-sum.result c.add.new.self (λ v. pos 0) (λ v. to_z w64 (of_z w64 c.residue.result) *ℤ pos 1) (λ v. spot.constant) (nothing_alike workers c.new-sum.result c.new-sum.ensures) c.add.ensures
    (λ v. constant_alike workers (to_z w64 (of_z w64 c.residue.result)) spot.constant some constant) in
    let params = c.add_residues.ensures (λ v. pos 0 +ℤ spot.constant) first in
    let loops = c.in_ok-add_term_residues.ensures (λ v. pos 0 +ℤ spot.constant +ℤ dot spot.params.now values) params in
    parts_alike workers c.add_term_residues.new.sum spot.constant (λ v. dot spot.params.now values) (λ v. loops_in spot.last v spot.loops.now) loops
