use Rattle.std.proofs.Common.{◌≡◌, Some, None, true, FitsSigned, w64, ap, sym, ◌∙◌, rules}
use Rattle.std.proofs.lemmas.Int.{to_z-of_z}
use Rattle.nest_tree.specs.Form.{is_small}
use Rattle.f77_program.specs.declared.linear.Linear.TheVariants.{Past, Within}
use Rattle.f77_program.specs.Linear.{first_past}
use Rattle.f77_program.proofs.Limited.{limited-loops, limited-params, limited-within, is_form}
use Rattle.f77_program.proofs.linear.limited.Goals as goal

pub returns-in-Some : goal.returns-in-Some
returns-in-Some c =
    let small : is_small c.args.constant ≡ true = search rules in
    let found : first_past c.args.loops ≡ Some c.in-Some.number = search rules in
    let f : FitsSigned w64 c.in-Some.number = search rules in
    ap Past (to_z-of_z w64 c.in-Some.number f) ∙ sym (limited-loops c.args.constant c.args.loops c.args.params c.in-Some.number small found)

pub returns-in-Some-first_past : goal.returns-in-Some-first_past
returns-in-Some-first_past c =
    let small : is_small c.args.constant ≡ true = search rules in
    let none : first_past c.args.loops ≡ None = search rules in
    let found : first_past c.args.params ≡ Some c.in-Some-first_past.number = search rules in
    let f : FitsSigned w64 c.in-Some-first_past.number = search rules in
    ap Past (to_z-of_z w64 c.in-Some-first_past.number f) ∙ sym (limited-params c.args.constant c.args.loops c.args.params c.in-Some-first_past.number small none found)

pub new-requires : goal.new-requires
new-requires c =
    let small : is_small c.args.constant ≡ true = search rules in
    let none : first_past c.args.loops ≡ None = search rules in
    let neither : first_past c.args.params ≡ None = search rules in
    rw (to_z-of_z w64 c.args.constant c.ranges.constant) (is_form c.args.constant c.args.loops c.args.params small c.requires.loops c.requires.params none neither)

pub returns : goal.returns
returns c =
    let small : is_small c.args.constant ≡ true = search rules in
    let none : first_past c.args.loops ≡ None = search rules in
    let neither : first_past c.args.params ≡ None = search rules in
    let made = rw (to_z-of_z w64 c.args.constant c.ranges.constant) at c.new.ensures in
    ap Within made ∙ sym (limited-within c.args.constant c.args.loops c.args.params small none neither)
