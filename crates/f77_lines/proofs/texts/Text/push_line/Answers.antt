use Rattle.f77_lines.proofs.Characters.{line-pushed}
use Rattle.f77_lines.proofs.texts.Text.push_line.Goals as goal

pub returns-clause-characters : goal.returns-clause-characters
returns-clause-characters c =
    let old = c.args.self.now in
    let one = c.push_all.new.self in
    line-pushed old.characters.items one.characters.items c.fill.new.self.characters.items c.args.columns.now c.body_of-body.result.now old.quoted one.quoted c.saturating_sub.result
    c.body_of-body.ensures c.in_ok-push_all.ensures.characters c.in_ok-push_all.ensures.quoted c.saturating_sub.ensures c.in_ok-fill.ensures.characters
