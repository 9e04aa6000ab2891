use Rattle.std.proofs.Common.{length, ◌++◌, ap, arith}
use Rattle.turns.specs.Turns.{beginnings, turns_by}
use Rattle.turns.specs.TurnsLeft.{rounds_left, standing, turns_plan, turns_processor, turns_tree}
use Rattle.turns.proofs.Steps.{moved}
use Rattle.turns.proofs.turns.Turns.look.Goals as goal

pub returns-clause-sound : goal.returns-clause-sound
returns-clause-sound c =
    let s = c.args.self.now in
    let same = ap (λ ts. length (beginnings ts)) c.peek.ensures.left in
    moved s c.peek.new.self s.pending c.requires.sound c.peek.ensures.sound c.peek.ensures.program c.peek.ensures.plan c.peek.ensures.processor c.requires.sound.own.among
    (λ w. let few = c.requires.sound.few_barriers w in omega (arith, same, few))
    (λ w. (c.requires.sound.unwatched w).none)

pub returns-clause-left : goal.returns-clause-left
returns-clause-left c =
    let s = c.args.self.now in
    ap (λ ts. rounds_left (turns_plan s).workers (turns_processor s) s.first s.step s.steps ++ turns_by s.style (turns_tree s) (turns_plan s) (turns_processor s) (standing s) ts) c.peek.ensures.left
