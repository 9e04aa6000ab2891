use Rattle.plan_text.proofs.Chain.{all_counted, all_read, stop0, stop1, stop2, stop3, stop4, stop5, stop6}
use Rattle.plan_text.proofs.Plans.{plan_of-shown}
use Rattle.plan_text.proofs.read.read_parts.Goals as goal

pub returns-in-Err-clause-refused : goal.returns-in-Err-clause-refused
returns-in-Err-clause-refused c = stop0 c.args.lines.now.rest.now c.args.lines.now.taken
    c.in-Err.refusal c.in-Err.ensures.refused

pub returns-in-Err-read_count_32-clause-refused : goal.returns-in-Err-read_count_32-clause-refused
returns-in-Err-read_count_32-clause-refused c = stop1 c.args.lines.now.rest.now c.args.lines.now.taken
    c.in-Ok.version c.read_version.new.lines.rest.now c.read_version.new.lines.taken c.in-Ok.ensures.ok c.in-Ok.ensures.taken
    c.in-Err-read_count_32.refusal c.in-Err-read_count_32.ensures.refused

pub returns-in-Err-read_conditions-clause-refused : goal.returns-in-Err-read_conditions-clause-refused
returns-in-Err-read_conditions-clause-refused c = stop2 c.args.lines.now.rest.now c.args.lines.now.taken
    c.in-Ok.version c.read_version.new.lines.rest.now c.read_version.new.lines.taken c.in-Ok.ensures.ok c.in-Ok.ensures.taken
    c.in-Ok-read_count_32.workers c.in-Ok-read_count_32.ensures.fits c.read_count_32.new.lines.rest.now c.read_count_32.new.lines.taken c.in-Ok-read_count_32.ensures.ok c.in-Ok-read_count_32.ensures.taken
    c.in-Err-read_conditions.refusal c.in-Err-read_conditions.ensures.refused

pub returns-in-Err-read_cut-clause-refused : goal.returns-in-Err-read_cut-clause-refused
returns-in-Err-read_cut-clause-refused c = stop3 c.args.lines.now.rest.now c.args.lines.now.taken
    c.in-Ok.version c.read_version.new.lines.rest.now c.read_version.new.lines.taken c.in-Ok.ensures.ok c.in-Ok.ensures.taken
    c.in-Ok-read_count_32.workers c.in-Ok-read_count_32.ensures.fits c.read_count_32.new.lines.rest.now c.read_count_32.new.lines.taken c.in-Ok-read_count_32.ensures.ok c.in-Ok-read_count_32.ensures.taken
    c.in-Ok-read_conditions.conditions c.in-Ok-read_conditions.ensures.shown c.read_conditions.new.lines.rest.now c.read_conditions.new.lines.taken c.in-Ok-read_conditions.ensures.ok c.in-Ok-read_conditions.ensures.taken
    c.in-Err-read_cut.refusal c.in-Err-read_cut.ensures.refused

pub returns-in-Err-read_kinds-clause-refused : goal.returns-in-Err-read_kinds-clause-refused
returns-in-Err-read_kinds-clause-refused c = stop4 c.args.lines.now.rest.now c.args.lines.now.taken
    c.in-Ok.version c.read_version.new.lines.rest.now c.read_version.new.lines.taken c.in-Ok.ensures.ok c.in-Ok.ensures.taken
    c.in-Ok-read_count_32.workers c.in-Ok-read_count_32.ensures.fits c.read_count_32.new.lines.rest.now c.read_count_32.new.lines.taken c.in-Ok-read_count_32.ensures.ok c.in-Ok-read_count_32.ensures.taken
    c.in-Ok-read_conditions.conditions c.in-Ok-read_conditions.ensures.shown c.read_conditions.new.lines.rest.now c.read_conditions.new.lines.taken c.in-Ok-read_conditions.ensures.ok c.in-Ok-read_conditions.ensures.taken
    c.in-Ok-read_cut.loops.items c.in-Ok-read_cut.ensures.shown c.read_cut.new.lines.rest.now c.read_cut.new.lines.taken c.in-Ok-read_cut.ensures.ok c.in-Ok-read_cut.ensures.taken
    c.in-Err-read_kinds.refusal c.in-Err-read_kinds.ensures.refused

pub returns-in-Err-read_proofs-clause-refused : goal.returns-in-Err-read_proofs-clause-refused
returns-in-Err-read_proofs-clause-refused c = stop5 c.args.lines.now.rest.now c.args.lines.now.taken
    c.in-Ok.version c.read_version.new.lines.rest.now c.read_version.new.lines.taken c.in-Ok.ensures.ok c.in-Ok.ensures.taken
    c.in-Ok-read_count_32.workers c.in-Ok-read_count_32.ensures.fits c.read_count_32.new.lines.rest.now c.read_count_32.new.lines.taken c.in-Ok-read_count_32.ensures.ok c.in-Ok-read_count_32.ensures.taken
    c.in-Ok-read_conditions.conditions c.in-Ok-read_conditions.ensures.shown c.read_conditions.new.lines.rest.now c.read_conditions.new.lines.taken c.in-Ok-read_conditions.ensures.ok c.in-Ok-read_conditions.ensures.taken
    c.in-Ok-read_cut.loops.items c.in-Ok-read_cut.ensures.shown c.read_cut.new.lines.rest.now c.read_cut.new.lines.taken c.in-Ok-read_cut.ensures.ok c.in-Ok-read_cut.ensures.taken
    c.in-Ok-read_kinds.phases.items c.in-Ok-read_kinds.ensures.shown c.read_kinds.new.lines.rest.now c.read_kinds.new.lines.taken c.in-Ok-read_kinds.ensures.ok c.in-Ok-read_kinds.ensures.taken
    c.in-Err-read_proofs.refusal c.in-Err-read_proofs.ensures.refused

pub returns-in-Err-read_end-clause-refused : goal.returns-in-Err-read_end-clause-refused
returns-in-Err-read_end-clause-refused c = stop6 c.args.lines.now.rest.now c.args.lines.now.taken
    c.in-Ok.version c.read_version.new.lines.rest.now c.read_version.new.lines.taken c.in-Ok.ensures.ok c.in-Ok.ensures.taken
    c.in-Ok-read_count_32.workers c.in-Ok-read_count_32.ensures.fits c.read_count_32.new.lines.rest.now c.read_count_32.new.lines.taken c.in-Ok-read_count_32.ensures.ok c.in-Ok-read_count_32.ensures.taken
    c.in-Ok-read_conditions.conditions c.in-Ok-read_conditions.ensures.shown c.read_conditions.new.lines.rest.now c.read_conditions.new.lines.taken c.in-Ok-read_conditions.ensures.ok c.in-Ok-read_conditions.ensures.taken
    c.in-Ok-read_cut.loops.items c.in-Ok-read_cut.ensures.shown c.read_cut.new.lines.rest.now c.read_cut.new.lines.taken c.in-Ok-read_cut.ensures.ok c.in-Ok-read_cut.ensures.taken
    c.in-Ok-read_kinds.phases.items c.in-Ok-read_kinds.ensures.shown c.read_kinds.new.lines.rest.now c.read_kinds.new.lines.taken c.in-Ok-read_kinds.ensures.ok c.in-Ok-read_kinds.ensures.taken
    c.in-Ok-read_proofs.certificates.items c.in-Ok-read_proofs.ensures.shown c.read_proofs.new.lines.rest.now c.read_proofs.new.lines.taken c.in-Ok-read_proofs.ensures.ok c.in-Ok-read_proofs.ensures.taken
    c.in-Err-read_end.refusal c.in-Err-read_end.ensures.refused

pub returns-in-Ok-read_end-clause-ok : goal.returns-in-Ok-read_end-clause-ok
returns-in-Ok-read_end-clause-ok c = all_read c.in-Ok.version c.in-Ok-read_count_32.workers c.in-Ok-read_conditions.conditions c.in-Ok-read_cut.loops.items c.in-Ok-read_kinds.phases.items c.in-Ok-read_proofs.certificates.items
    c.args.lines.now.rest.now c.read_version.new.lines.rest.now c.read_count_32.new.lines.rest.now c.read_conditions.new.lines.rest.now c.read_cut.new.lines.rest.now c.read_kinds.new.lines.rest.now c.read_proofs.new.lines.rest.now c.read_end.new.lines.rest.now
    c.in-Ok.ensures.ok c.in-Ok-read_count_32.ensures.ok c.in-Ok-read_conditions.ensures.ok c.in-Ok-read_cut.ensures.ok c.in-Ok-read_kinds.ensures.ok c.in-Ok-read_proofs.ensures.ok c.in-Ok-read_end.ensures.ok

pub returns-in-Ok-read_end-clause-taken : goal.returns-in-Ok-read_end-clause-taken
returns-in-Ok-read_end-clause-taken c = all_counted c.in-Ok.version c.in-Ok-read_count_32.workers c.in-Ok-read_conditions.conditions c.in-Ok-read_cut.loops.items c.in-Ok-read_kinds.phases.items c.in-Ok-read_proofs.certificates.items
    c.args.lines.now.taken c.read_version.new.lines.taken c.read_count_32.new.lines.taken c.read_conditions.new.lines.taken c.read_cut.new.lines.taken c.read_kinds.new.lines.taken c.read_proofs.new.lines.taken c.read_end.new.lines.taken
    c.in-Ok.ensures.taken c.in-Ok-read_count_32.ensures.taken c.in-Ok-read_conditions.ensures.taken c.in-Ok-read_cut.ensures.taken c.in-Ok-read_kinds.ensures.taken c.in-Ok-read_proofs.ensures.taken c.in-Ok-read_end.ensures.taken

pub returns-in-Ok-read_end-clause-shown : goal.returns-in-Ok-read_end-clause-shown
returns-in-Ok-read_end-clause-shown c = plan_of-shown c.in-Ok.version c.in-Ok-read_count_32.workers c.in-Ok-read_conditions.conditions c.in-Ok-read_cut.loops.items c.in-Ok-read_kinds.phases.items c.in-Ok-read_proofs.certificates.items
    c.in-Ok-read_count_32.ensures.fits c.in-Ok-read_conditions.ensures.shown c.in-Ok-read_cut.ensures.shown c.in-Ok-read_kinds.ensures.shown c.in-Ok-read_proofs.ensures.shown
