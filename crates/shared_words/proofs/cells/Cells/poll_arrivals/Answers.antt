use Rattle.std.proofs.Common.{List, ℕ, ◌-◌, ◌*◌, sym, ◌∙◌, ap, subst, arith}
use Rattle.spmd_model.specs.Timelines.{counter}
use Rattle.spmd_model.specs.Acts.{await}
use Rattle.shared_words.specs.declared.view.View.{View}
use Rattle.shared_words.specs.Words.{word_count, arrival_word}
use Rattle.shared_words.specs.Homes.{Home, IsSeatOf, cell_view, misses_of, plan_given, position_of, protocol_at, role_in, seen_of, style_given, through, tree_given}
use Rattle.shared_words.specs.Calls.{PollTells, all_arrivals, arrivals_up_to}
use Rattle.shared_words.proofs.Keeps.{row_allowed}
use Rattle.shared_words.proofs.Calls.{stands, same, same_table, its_gathers, its_laws, its_next, its_worker, row_seat, through_here, before_here}
use Rattle.shared_words.specs.declared.poll.Poll.{Poll}
use Rattle.shared_words.proofs.cells.Cells.poll_arrivals.Goals.{then-seat-arrived, else-seat-arrived}
use Rattle.shared_words.proofs.cells.Cells.poll_arrivals.Goals as goal

pub load-arrived-requires : goal.load-arrived-requires
load-arrived-requires c =
    let s = c.seat.inside in
    let k = stands s.seat.table_id s.seat.me.0 s.processor s.all c.args.seat.now _ c.seat.invariant.0 c.seat.view_is (c.requires.own ∙ sym c.self.view_is) in
    let next = its_next k (await counter c.requires.next.0 (c.args.e - 1)) c.requires.next.1 in
    let joint = its_gathers k (c.args.e - 1) ∙ c.requires.next.2 in
    let word = c.self.invariant.arrived ∙ ap arrival_word (sym (same k)) in
    let wide = c.self.invariant.words ∙ ap word_count (sym (same k)) in (
      same_table k,
      omega (arith, word, wide),
      row_allowed c.self.inside.table.shared.key c.self.inside.table.shared.table_id.slots s.seat.id s.seat.me (its_laws k c.self.invariant.laws) s.processor (position_of (role_in s.seat.me.0)) (misses_of (role_in s.seat.me.0)) (seen_of (role_in s.seat.me.0)) c.seat.invariant.0.role c.requires.next.0 (c.args.e - 1) _ next joint word,
    )

pub invariant_of-seat : goal.invariant_of-seat
invariant_of-seat c =
    let s = c.seat.inside in
    let k = stands s.seat.table_id s.seat.me.0 s.processor s.all c.args.seat.now _ c.seat.invariant.0 c.seat.view_is (c.requires.own ∙ sym c.self.view_is) in
    let new = c.load-arrived.ensures.2.0 in (
      subst (λ (x : View). IsSeatOf x s.processor s.all) (sym (ap (λ (x : View × List (ℕ × ℕ)). x.0) new)) (row_seat s.seat.me.0 s.processor s.all c.seat.invariant.0 c.load-arrived.result),
      ap (λ (x : View × List (ℕ × ℕ)). x.1) new ∙ c.seat.invariant.1,
    )

pub returns-clause-wanted : goal.returns-clause-wanted
returns-clause-wanted c =
    let s = c.seat.inside in let now = c.args.seat.now in
    let k = stands s.seat.table_id s.seat.me.0 s.processor s.all now _ c.seat.invariant.0 c.seat.view_is (c.requires.own ∙ sym c.self.view_is) in
    let style = style_given now.home.given in let tree = tree_given now.home.given in let plan = plan_given now.home.given in
    let count = c.arrivals_in_styles.ensures.awaits style tree plan now.processor now.position c.requires.next.0 (c.args.e - 1) (its_worker k) c.requires.next.1 c.requires.next.2 in
    ap (λ n. (protocol_at now.home).workers * n) count ∙ ap (λ (h : Home). arrivals_up_to h c.args.e) c.requires.own

pub returns-clause-tells : goal.returns-clause-tells
returns-clause-tells c =
    let s = c.seat.inside in let now = c.args.seat.now in
    let k = stands s.seat.table_id s.seat.me.0 s.processor s.all now _ c.seat.invariant.0 c.seat.view_is (c.requires.own ∙ sym c.self.view_is) in
    let told = c.load-arrived.ensures in let found = c.load-arrived.result in
    let new = ap (λ (x : View × List (ℕ × ℕ)). x.0) told.2.0 in
    let tells : Poll → Type 0 = λ r. PollTells now (through now) (all_arrivals now) r (cell_view c.load-arrived.new.seat.table_id c.load-arrived.new.seat.me.0) in
    elim c.if-seat-arrived.branch [
      | then-seat-arrived w ↦ subst tells (sym w.result-is) (through_here k found told.0 new w.if-seat-arrived.true)
      | else-seat-arrived w ↦ subst tells (sym w.result-is) (before_here k found told.0 new told.2.1 w.if-seat-arrived.false)
    ]
