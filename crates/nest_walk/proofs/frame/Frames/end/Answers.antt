use Rattle.std.proofs.Common.{◌≡◌, suc, ◌+◌, ◌∷◌, replicate, ap, sym, ◌∙◌, arith}
use Rattle.nest_walk.specs.Frames.{ended, levels_to}
use Rattle.nest_walk.proofs.Levels.{levels_to-put}
use Rattle.nest_walk.proofs.frame.Frames.end.Goals as goal

pub loop-level-preserved : goal.loop-level-preserved
loop-level-preserved c =
    let k = c.loop-level.level in
    let next : k + 1 ≡ suc k = omega arith in
    ap (levels_to c.put.new.self.all) next
    ∙ ap (λ frames. levels_to frames (suc k)) c.put.ensures.all
    ∙ levels_to-put c.loop-level.self.all k c.ended-frame.result c.put.ensures.room
    ∙ ap (λ l. l ∷ levels_to c.loop-level.self.all k) c.ended-frame.ensures
    ∙ ap (λ ls. ended c.args.end ∷ ls) c.loop-level.invariant
    ∙ sym (ap (λ n. replicate n (ended c.args.end)) next)
