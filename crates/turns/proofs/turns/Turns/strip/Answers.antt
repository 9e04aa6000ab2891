use Rattle.std.proofs.Common.{arith}
use Rattle.turns.specs.TurnsLeft.{turns_plan, turns_tree}
use Rattle.sync_plan.specs.Own.{own_loop}
use Rattle.turns.proofs.Calls.{strip_begins, strip_shown, strip_sound}
use Rattle.turns.proofs.turns.Turns.strip.Goals as goal

pub returns-clause-sound : goal.returns-clause-sound
returns-clause-sound c =
    let e = c.strip.ensures in
    strip_sound c.args.self.now c.strip.new.self c.strip.result e.left c.requires e.sound e.program e.plan e.processor

pub returns-clause-left : goal.returns-clause-left
returns-clause-left c =
    let s = c.args.self.now in
    let none = c.is_empty.ensures (turns_tree s) (own_loop (turns_tree s) (turns_plan s) s.place) c.requires.own.cells c.if-not-is_empty.false in
    strip_shown s c.strip.new.self c.strip.result c.strip.ensures.left (omega (arith, c.requires.within, c.if-self.false)) (record { privates = none.0; sums = none.1 })

pub returns-clause-begins : goal.returns-clause-begins
returns-clause-begins c = strip_begins c.args.self.now c.strip.new.self c.strip.result c.strip.ensures.left

pub returns-clause-plain : goal.returns-clause-plain
returns-clause-plain c = c.strip.ensures.left
