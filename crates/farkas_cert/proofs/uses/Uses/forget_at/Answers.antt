use Rattle.std.proofs.Common.{◌≡◌, ◌<◌, length, sym, ◌∙◌, arith}
use Rattle.std.proofs.lemmas.List.{get_or_read}
use Rattle.farkas_cert.specs.declared.system.Row.{Row}
use Rattle.farkas_cert.proofs.LastUses.{row_forgotten}
use Rattle.farkas_cert.proofs.uses.Uses.forget_at.Goals as goal

pub returns-then-index-number : goal.returns-then-index-number
returns-then-index-number c =
    let self = c.args.self.now in
    let made = c.args.made.now.items in
    let place = c.args.place in
    let other : Row = record { coefs = c.none.result; bound = c.index_mut.result.now.bound } in
    let number : c.len-number.result ≡ length made = omega (arith, c.len-number.ensures, c.args.made.now.ok.0) in
    let within : place < length made = omega (arith, number, c.if-place-number.false) in
    let left : length made < length self.taken.now = omega (arith, number, c.if-number-self.false) in
    let there : place < length self.last.items = omega (arith, within, left, self.each.0) in
    let is = sym (get_or_read self.last.items place c.index.result.now there c.index.ensures 0) ∙ c.if-index-number.true ∙ number in
    row_forgotten self.count self.taken.now self.last.items made place other self.each within left is
