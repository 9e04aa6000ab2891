use Rattle.std.proofs.Common.{List, ℕ, Some, ap, sym, ◌∙◌}
use Rattle.std.specs.Option.{option_copied}
use Rattle.nest_tree.specs.View.{head_of, statement_of, statements_from}
use Rattle.nest_tree.proofs.Rows.{statement_of-Loop}
use Rattle.thread_code.specs.Code.{Finding, finding_by, share_by, trips_of}
use Rattle.thread_code.specs.Tables.{table_of}
use Rattle.thread_code.specs.View.{finding_view}
use Rattle.owner_partition.specs.Cuts.{privates_of}
use Rattle.owner_partition.specs.declared.anchor.Anchor.{Anchor}
use Rattle.thread_code.proofs.making.Maker.part.Goals as goal

pub returns-in_ok-copy-in-Loop : goal.returns-in_ok-copy-in-Loop
returns-in_ok-copy-in-Loop c =
    let table = table_of c.args.self.now.turnings.now in
    let plan = c.args.self.now.plan.now in
    let nest = c.in-Loop.nest in
    let head = head_of nest in
    let body = statements_from nest.items.items in
    let anchor = c.in-Some.anchor.now in
    let finding = finding_view c.in_ok-trips-in-Loop.trips in
    let privates = c.in_ok-privates-in-Loop.privates.items in
    let sums = c.in_ok-sums-in-Loop.sums.items in
    ap (λ (a : Anchor). trips_of a finding head body privates sums) c.in_ok-copy-in-Loop.ensures
    ∙ ap (λ (f : Finding). trips_of anchor f head body privates sums) c.in_ok-trips-in-Loop.ensures
    ∙ ap (λ (vs : List ℕ). trips_of anchor (finding_by table plan.workers anchor head) head body vs sums) c.in_ok-privates-in-Loop.ensures
    ∙ ap (λ (vs : List ℕ). trips_of anchor (finding_by table plan.workers anchor head) head body (privates_of plan.cut.privates nest.number) vs) c.in_ok-sums-in-Loop.ensures
    ∙ sym (ap (share_by table plan (Some anchor)) (ap statement_of c.in-Loop.is ∙ statement_of-Loop nest))
    ∙ sym (ap (λ o. share_by table plan (option_copied o) (statement_of c.args.item.now)) c.in-Some.is)
