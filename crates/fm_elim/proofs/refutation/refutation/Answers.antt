use Rattle.std.proofs.Common.{◌∙◌, ap, length, arith}
use Rattle.fm_elim.proofs.Opposites.{sum_logged, sum_ends}
use Rattle.fm_elim.proofs.refutation.refutation.Goals as goal

pub certificate_of-requires-in-Some-clash-clause-log : goal.certificate_of-requires-in-Some-clash-clause-log
certificate_of-requires-in-Some-clash-clause-log c =
    sum_logged c.args.system.now c.args.log.now.items c.requires.log c.args.level.now.rows.items c.requires.held c.in-Some-clash.first c.in-Some-clash.last c.in-Some-clash.ensures.found c.as_slice-in-Some-clash.result.now (c.as_slice-in-Some-clash.ensures.value ∙ c.in_ok-number.ensures.log)

pub certificate_of-requires-in-Some-clash-clause-number : goal.certificate_of-requires-in-Some-clash-clause-number
certificate_of-requires-in-Some-clash-clause-number c =
    let same = c.as_slice-in-Some-clash.ensures.value in
    sum_ends c.args.system.now c.args.log.now.items c.requires.log c.args.level.now.rows.items c.requires.held c.in-Some-clash.first c.in-Some-clash.last c.in-Some-clash.ensures.found c.as_slice-in-Some-clash.result.now c.in_ok-number.number (same ∙ c.in_ok-number.ensures.log) (omega (arith, c.in_ok-number.ensures.number, ap length same))
