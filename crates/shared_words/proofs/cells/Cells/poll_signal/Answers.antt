use Rattle.std.proofs.Common.{List, ℕ, refl, sym, ◌∙◌, ap, subst, arith}
use Rattle.spmd_model.specs.Timelines.{signal}
use Rattle.spmd_model.specs.Acts.{await}
use Rattle.shared_words.specs.declared.view.View.{View}
use Rattle.shared_words.specs.Words.{word_count, word_of}
use Rattle.shared_words.specs.Homes.{IsSeatOf, cell_view, gone, protocol_at, misses_of, position_of, role_in, seen_of}
use Rattle.shared_words.proofs.Keeps.{poll_allowed}
use Rattle.shared_words.proofs.Calls.{stands, same, same_table, its_laws, its_next, awaited_inside, poll_seat, passed_here, stayed_here}
use Rattle.shared_words.specs.declared.poll.Poll.{Poll}
use Rattle.shared_words.specs.Calls.{PollTells}
use Rattle.shared_words.proofs.cells.Cells.poll_signal.Goals.{then-number-found, else-number-found}
use Rattle.shared_words.proofs.cells.Cells.poll_signal.Goals as goal

pub load-found-requires : goal.load-found-requires
load-found-requires c =
    let s = c.seat.inside in
    let k = stands s.seat.table_id s.seat.me.0 s.processor s.all c.args.seat.now _ c.seat.invariant.0 c.seat.view_is (c.requires.own ∙ sym c.self.view_is) in
    let next = its_next k (await signal c.args.q c.args.number) c.requires.next in
    let word = c.signal_word-word.ensures ∙ ap (λ h. word_of (protocol_at h) signal c.args.q) (sym c.self.view_is) ∙ ap (λ m. word_of m signal c.args.q) (sym (same k)) in
    let below = awaited_inside k (its_laws k c.self.invariant.laws) signal c.args.q c.args.number next in
    let wide = c.self.invariant.words ∙ ap word_count (sym (same k)) in (
      same_table k,
      omega (arith, word, wide, below),
      poll_allowed c.self.inside.table.shared.key c.self.inside.table.shared.table_id.slots s.seat.id s.seat.me (its_laws k c.self.invariant.laws) s.processor (position_of (role_in s.seat.me.0)) (misses_of (role_in s.seat.me.0)) (seen_of (role_in s.seat.me.0)) c.seat.invariant.0.role signal c.args.q c.args.number _ next refl word,
    )

pub invariant_of-seat : goal.invariant_of-seat
invariant_of-seat c =
    let s = c.seat.inside in
    let k = stands s.seat.table_id s.seat.me.0 s.processor s.all c.args.seat.now _ c.seat.invariant.0 c.seat.view_is (c.requires.own ∙ sym c.self.view_is) in
    let new = c.load-found.ensures.2.0 in (
      subst (λ (x : View). IsSeatOf x s.processor s.all) (sym (ap (λ (x : View × List (ℕ × ℕ)). x.0) new)) (poll_seat s.seat.me.0 s.processor s.all c.seat.invariant.0 signal c.args.q c.args.number c.load-found.result (its_next k (await signal c.args.q c.args.number) c.requires.next)),
      ap (λ (x : View × List (ℕ × ℕ)). x.1) new ∙ c.seat.invariant.1,
    )

pub returns : goal.returns
returns c =
    let s = c.seat.inside in let now = c.args.seat.now in
    let k = stands s.seat.table_id s.seat.me.0 s.processor s.all now _ c.seat.invariant.0 c.seat.view_is (c.requires.own ∙ sym c.self.view_is) in
    let next = its_next k (await signal c.args.q c.args.number) c.requires.next in
    let told = c.load-found.ensures in let found = c.load-found.result in
    let new = ap (λ (x : View × List (ℕ × ℕ)). x.0) told.2.0 in
    let tells : Poll → Type 0 = λ r. PollTells now (gone now) c.args.number r (cell_view c.load-found.new.seat.table_id c.load-found.new.seat.me.0) in
    elim c.if-number-found.branch [
      | then-number-found w ↦ subst tells (sym w.result-is) (passed_here k signal c.args.q c.args.number found next told.0 new w.if-number-found.true)
      | else-number-found w ↦ let stayed = stayed_here k signal c.args.q c.args.number found next told.0 new told.2.1 w.if-number-found.false in subst tells (sym w.result-is) (w.if-number-found.false, stayed.0, stayed.1)
    ]
