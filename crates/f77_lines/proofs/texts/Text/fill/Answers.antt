use Rattle.std.proofs.lemmas.List.{append-nil}
use Rattle.f77_lines.proofs.Characters.{text_from-blanks, blanks-filled}
use Rattle.f77_lines.proofs.texts.Text.fill.Goals as goal

pub returns-else-self-clause-characters : goal.returns-else-self-clause-characters
returns-else-self-clause-characters c =
    rw (text_from-blanks c.args.self.now.quoted c.args.count c.if-self.false, append-nil)

pub returns-in_ok-resize-clause-characters : goal.returns-in_ok-resize-clause-characters
returns-in_ok-resize-clause-characters c =
    let old = c.args.self.now.characters in
    blanks-filled old.items c.resize.new.self.items c.args.self.now.quoted old.len c.args.count old.ok.0 c.if-self.true (rw c.len-length.ensures at c.in_ok-resize.ensures.items)
