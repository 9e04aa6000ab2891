use Rattle.std.proofs.Common.{◌≡◌, ◌++◌, length, ◌<◌, arith}
use Rattle.f77_lines.specs.Columns.{kind_of, columns_of, body_of, lines_of}
use Rattle.f77_lines.specs.Walk.{first_of}
use Rattle.f77_lines.specs.declared.row.Kind.TheVariants.{Initial, Continuation}
use Rattle.f77_lines.specs.Statements.{continued}
use Rattle.f77_lines.proofs.Cuts.{continued-initial, continued-more, continued-none}
use Rattle.f77_lines.proofs.Characters.{text-pushed, text-ended}
use Rattle.f77_lines.proofs.texts.statement_text.Goals as goal

pub returns-in-Initial : goal.returns-in-Initial
returns-in-Initial c =
    let some : 0 < length c.loop-rest.rest.now = grind arith in
    let kind : kind_of (columns_of (first_of c.loop-rest.rest.now)) ≡ Initial = cc in
    text-ended _ _ _ _ c.loop-rest.invariant (continued-initial _ some kind)

pub loop-rest-preserved-in_ok-push_line-in-Continuation : goal.loop-rest-preserved-in_ok-push_line-in-Continuation
loop-rest-preserved-in_ok-push_line-in-Continuation c =
    let some : 0 < length c.loop-rest.rest.now = grind arith in
    let kind : kind_of (columns_of (first_of c.loop-rest.rest.now)) ≡ Continuation = cc in
    let more : continued (lines_of c.loop-rest.rest.now) ≡ body_of c.columns_of-continuing.result.now ++ continued (lines_of c.first_line.result.1.now) = let e = continued-more _ some kind in cc in
    let pushed = c.in_ok-push_line-in-Continuation.ensures in
    let front = c.loop-rest.text in
    let new = c.push_line-in-Continuation.new.self in
    text-pushed front.characters.items new.characters.items front.quoted new.quoted (body_of c.columns_of-continuing.result.now) (continued (lines_of c.first_line.result.1.now)) _
    (rw more at c.loop-rest.invariant) pushed.characters pushed.quoted

pub returns : goal.returns
returns c =
    let none : length c.loop-rest.rest.now ≡ 0 = grind arith in
    text-ended _ _ _ _ c.loop-rest.invariant (continued-none _ none)
