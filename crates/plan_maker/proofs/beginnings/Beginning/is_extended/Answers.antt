use Rattle.std.proofs.Common.{◌≡◌, ◌+◌, ◌-◌, ◌≤◌, ◌++◌, List, drop, length, take, ap, sym, ◌∙◌, subst, arith, rules}
use Rattle.std.specs.List.{All}
use Rattle.std.proofs.Math.Seq.{take-length}
use Rattle.std.proofs.lemmas.List.{length-drop}
use Rattle.farkas_cert.specs.declared.system.Row.{Row}
use Rattle.fm_elim.proofs.Sizes.{le_from_test}
use Rattle.fm_elim.specs.Advances.{most_of}
use Rattle.plan_maker.specs.Beginnings.{IsWithout}
use Rattle.plan_maker.proofs.Extended.{extends}
use Rattle.plan_maker.proofs.beginnings.Beginning.is_extended.Goals as goal

pub returns-then-are_without : goal.returns-then-are_without
returns-then-are_without c h =
    let level = c.args.self.now.level in
    let given = c.args.self.now.rows.now in
    let whole = c.args.system.now in
    let order = c.args.order.now in
    let gone = c.args.self.now.gone in
    let m = length given.rows in
    let behind : take (length whole.rows - m) (drop m whole.rows) ≡ drop m whole.rows = ap (λ k. take k (drop m whole.rows)) (sym (length-drop m whole.rows)) ∙ take-length (drop m whole.rows) in
    let vars : whole.vars ≡ given.vars = search rules in
    let rows : whole.rows ≡ given.rows ++ drop m whole.rows = search rules in
    let low : gone ≤ length order = omega (arith, c.if-self-order.false) in
    let same_order : order ≡ c.args.self.now.order.now = search rules in
    let none : All (IsWithout (take gone order)) (take (length whole.rows - m) (drop m whole.rows)) = search rules in
    let few = le_from_test _ 20000 (sym c.has_room_for.ensures ∙ h) in
    let size =
    ap (λ (xs : List Row). length (take (length xs - length c.rows-first.result.now) (drop (length c.rows-first.result.now) xs))) c.rows-rows.ensures.rows
    ∙ ap (λ (ys : List Row). length (take (length whole.rows - length ys) (drop (length ys) whole.rows))) c.rows-first.ensures.rows
    ∙ ap length behind in
    extends level given whole order gone c.requires.system (c.requires.order ∙ sym same_order) c.requires.gone vars rows low (subst (All (IsWithout (take gone order))) behind none) (subst (λ n. most_of level + n ≤ 20000) size few)
