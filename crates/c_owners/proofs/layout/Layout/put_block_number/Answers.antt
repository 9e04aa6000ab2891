use Rattle.std.proofs.Common.{rules, ◌≡◌, pos, FitsSigned, string_bytes, to_z, of_z, w64, ap, subst, ◌∙◌}
use Rattle.std.specs.Int.{int_div_euclid}
use Rattle.std.proofs.lemmas.Int.{to_z-of_z}
use Rattle.std.proofs.lemmas.Result.{on_ok_weaker}
use Rattle.nest_tree.specs.View.{tree_of}
use Rattle.c_expressions.specs.Grammar.{Appends, unary}
use Rattle.c_expressions.specs.Numbers.{literal_of}
use Rattle.c_owners.specs.Owners.{spot_at}
use Rattle.c_owners.proofs.Owning.{block_number_written}
use Rattle.c_owners.proofs.layout.Layout.put_block_number.Goals as goal

pub returns : goal.returns
returns c =
    let place = c.args.place.now in
    let workers = c.args.self.now.workers in
    let all = spot_at (tree_of c.args.self.now.program.now) c.args.spot.now.constant c.args.spot.now.loops.now c.args.spot.now.params.now c.args.spot.now.last in
    let fits : FitsSigned w64 c.block_number.result = search rules in
    let fk : FitsSigned w64 c.constant.result = search rules in
    let value : to_z w64 (of_z w64 c.block_number.result) ≡ int_div_euclid place.constant (pos c.args.length) =
    to_z-of_z w64 c.block_number.result fits ∙ c.block_number.ensures ∙ ap (λ z. int_div_euclid z (pos c.args.length)) (to_z-of_z w64 c.constant.result fk ∙ c.constant.ensures) in
    on_ok_weaker c.put_literal.result
    (λ x. block_number_written workers c.args.length all place c.requires.sum c.requires.plain c.requires.constant (subst (λ z. Appends (string_bytes c.args.out.now) (string_bytes c.put_literal.new.out) unary (literal_of z)) value x))
    c.put_literal.ensures
