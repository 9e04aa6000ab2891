use Rattle.std.proofs.Common.{◌≡◌, List, length, map, ap, ap₂, sym, ◌∙◌, subst}
use Rattle.nest_tree.specs.View.{tree_of}
use Rattle.owner_partition.specs.declared.cut.Mark.{Mark}
use Rattle.plan_maker.specs.Asked.{AreRefuted}
use Rattle.maker_marks.specs.Cut.{cut_of}
use Rattle.plan_maker.specs.Loops.{AreOpenBarred, loops_asked, loops_paths_asked, own_in, tried_in}
use Rattle.maker_marks.specs.Privates.{own_at}
use Rattle.maker_marks.specs.Marks.{marks_of}
use Rattle.maker_marks.specs.Tries.{tried_at}
use Rattle.plan_maker.proofs.LoopTrips.{paths_laid, trips_laid}
use Rattle.plan_maker.proofs.Made.{reasoned}
use Rattle.plan_maker.proofs.Marked.{marks_count, open_are_barred}
use Rattle.plan_maker.proofs.maker.make_cut.Goals as goal
use Rattle.plan_maker.proofs.maker.make_cut.Goals.{In_ok-cut}

-- the cut is that of the verdicts
cut-is : (c : In_ok-cut) → c.in_ok-cut.cut ≡ cut_of (tried_at (map tried_in c.in_ok-verdicts.verdicts.items)) (own_at (map own_in c.in_ok-verdicts.verdicts.items)) (tree_of c.args.program.now)
cut-is c = c.in_ok-cut.ensures ∙ ap₂ (λ ts vs. cut_of (tried_at ts) (own_at vs) (tree_of c.args.program.now)) (c.as_slice-3.ensures.value ∙ c.in_ok-tries.ensures ∙ ap (map tried_in) c.as_slice.ensures.value) (c.as_slice-4.ensures.value ∙ c.in_ok-privates.ensures ∙ ap (map own_in) c.as_slice-2.ensures.value)

marks-are : (c : In_ok-cut) → c.in_ok-cut.cut.marks ≡ marks_of (tried_at (map tried_in c.in_ok-verdicts.verdicts.items)) (tree_of c.args.program.now).items
marks-are c = ap (λ u. u.marks) (cut-is c)

pub loop_reasons-requires-clause-long : goal.loop_reasons-requires-clause-long
loop_reasons-requires-clause-long c =
    let a = (goal.at.loop_reasons-requires-clause-long c).In_ok-cut in
    let tree = tree_of c.args.program.now in
    ap length c.as_slice-6.ensures.value ∙ c.in_ok-verdicts.ensures.long ∙ sym (ap length (c.as_slice-5.ensures ∙ marks-are a) ∙ marks_count (tried_at (map tried_in c.in_ok-verdicts.verdicts.items)) tree.items)

pub loop_reasons-requires-clause-barred : goal.loop_reasons-requires-clause-barred
loop_reasons-requires-clause-barred c =
    let a = (goal.at.loop_reasons-requires-clause-barred c).In_ok-cut in
    let tree = tree_of c.args.program.now in
    let vs = c.in_ok-verdicts.verdicts.items in
    subst (AreOpenBarred c.as_slice-5.result.now) (sym c.as_slice-6.ensures.value) (open_are_barred tree vs c.as_slice-5.result.now c.args.program.now.formed (c.as_slice-5.ensures ∙ marks-are a))

pub returns-clause-reasoned : goal.returns-clause-reasoned
returns-clause-reasoned c =
    let a = (goal.at.returns-clause-reasoned c).In_ok-cut in
    let tree = tree_of c.args.program.now in
    reasoned tree c.in_ok-verdicts.verdicts.items c.in_ok-cut.cut c.in_ok-verdicts.ensures.long c.in_ok-verdicts.ensures.verdicts (cut-is a)

pub loop_certificates-requires : goal.loop_certificates-requires
loop_certificates-requires c =
    let a = (goal.at.loop_certificates-requires c).In_ok-cut in
    let tree = tree_of c.args.program.now in
    c.in_ok-verdicts.ensures.long ∙ sym (ap length (c.as_slice-7.ensures ∙ marks-are a) ∙ marks_count (tried_at (map tried_in c.in_ok-verdicts.verdicts.items)) tree.items)

pub returns-clause-trips : goal.returns-clause-trips
returns-clause-trips c =
    let a = (goal.at.returns-clause-trips c).In_ok-cut in
    let tree = tree_of c.args.program.now in
    let vs = c.in_ok-verdicts.verdicts.items in
    let dealt = tried_at (map tried_in vs) in
    let owned = own_at (map own_in vs) in
    let cut = c.in_ok-cut.cut in
    let certificates = c.in_ok-certificates.certificates.trips.items in
    let here = subst (λ (marks : List Mark). AreRefuted (loops_asked tree dealt owned 1 marks) certificates) c.as_slice-7.ensures (c.in_ok-certificates.ensures.trips tree c.in_ok-verdicts.ensures.verdicts) in
    subst (λ qs. AreRefuted qs certificates) (sym (trips_laid tree dealt owned cut c.args.program.now.formed (cut-is a))) here

pub returns-clause-paths : goal.returns-clause-paths
returns-clause-paths c =
    let a = (goal.at.returns-clause-paths c).In_ok-cut in
    let tree = tree_of c.args.program.now in
    let vs = c.in_ok-verdicts.verdicts.items in
    let dealt = tried_at (map tried_in vs) in
    let owned = own_at (map own_in vs) in
    let cut = c.in_ok-cut.cut in
    let certificates = c.in_ok-certificates.certificates.paths.items in
    let here = subst (λ (marks : List Mark). AreRefuted (loops_paths_asked tree dealt owned 1 marks) certificates) c.as_slice-7.ensures (c.in_ok-certificates.ensures.paths tree c.in_ok-verdicts.ensures.verdicts) in
    subst (λ qs. AreRefuted qs certificates) (sym (paths_laid tree dealt owned cut c.args.program.now.formed (cut-is a))) here
