use Rattle.std.proofs.Common.{◌≡◌, ◌++◌, pos, FitsSigned, w64, to_z-of_z, ap, ◌∙◌}
use Rattle.thread_code.specs.Code.{reduced_pairs, times_pairs}
use Rattle.thread_code.proofs.Made.{reduced-both}
use Rattle.thread_code.proofs.making.Maker.start_pairs.Goals as goal

pub returns : goal.returns
returns c =
    let workers = c.args.self.now.plan.now.workers in
    let later = reduced_pairs workers (times_pairs c.args.factor c.args.first.now) in
    let f : FitsSigned w64 c.args.factor = c.ranges.factor in
    let second : c.push_remainders-2.new.found ≡ c.push_remainders.new.found ++ later = simp to_z-of_z at c.in_ok-push_remainders-2.ensures in
    second
    ∙ ap (λ ps. ps ++ later) (c.in_ok-push_remainders.ensures ∙ ap (λ ps. ps ++ reduced_pairs workers (times_pairs (pos 1) c.args.own.now)) c.new-pairs.ensures)
    ∙ reduced-both workers c.args.factor c.args.own.now c.args.first.now
