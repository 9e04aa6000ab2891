use Rattle.std.proofs.Common.{List, ℕ, refl, sym, ◌∙◌, ap, subst, arith}
use Rattle.spmd_model.specs.Timelines.{signal}
use Rattle.spmd_model.specs.Acts.{post}
use Rattle.shared_words.specs.declared.view.View.{View}
use Rattle.shared_words.specs.Words.{word_count, word_of}
use Rattle.shared_words.specs.Homes.{IsSeatOf, protocol_at, misses_of, position_of, role_in, seen_of}
use Rattle.shared_words.proofs.Keeps.{post_allowed}
use Rattle.shared_words.proofs.Calls.{stands, same, same_table, its_laws, its_next, gone_seat, gone_here}
use Rattle.shared_words.proofs.cells.Cells.signal.Goals as goal

pub store-requires : goal.store-requires
store-requires c =
    let s = c.seat.inside in
    let k = stands s.seat.table_id s.seat.me.0 s.processor s.all c.args.seat.now _ c.seat.invariant.0 c.seat.view_is (c.requires.own ∙ sym c.self.view_is) in
    let next = its_next k (post signal c.args.number) c.requires.next in
    let word = c.signal_word-word.ensures ∙ ap (λ h. word_of (protocol_at h) signal s.processor) (sym c.self.view_is) ∙ ap (λ m. word_of m signal s.processor) (sym (same k)) in
    let below = c.seat.invariant.0.worker in
    let wide = c.self.invariant.words ∙ ap word_count (sym (same k)) in (
      same_table k,
      omega (arith, word, wide, below),
      post_allowed c.self.inside.table.shared.key c.self.inside.table.shared.table_id.slots s.seat.id s.seat.me (its_laws k c.self.invariant.laws) s.processor (position_of (role_in s.seat.me.0)) (misses_of (role_in s.seat.me.0)) (seen_of (role_in s.seat.me.0)) c.seat.invariant.0.role signal c.args.number _ next refl word,
    )

pub invariant_of-seat : goal.invariant_of-seat
invariant_of-seat c =
    let s = c.seat.inside in
    let k = stands s.seat.table_id s.seat.me.0 s.processor s.all c.args.seat.now _ c.seat.invariant.0 c.seat.view_is (c.requires.own ∙ sym c.self.view_is) in
    let new = c.store.ensures.2.0 in (
      subst (λ (x : View). IsSeatOf x s.processor s.all) (sym (ap (λ (x : View × List (ℕ × ℕ)). x.0) new)) (gone_seat s.seat.me.0 s.processor s.all s.all (post signal c.args.number) c.seat.invariant.0 (its_next k (post signal c.args.number) c.requires.next) (λ n is. is)),
      ap (λ (x : View × List (ℕ × ℕ)). x.1) new ∙ c.seat.invariant.1,
    )

pub returns : goal.returns
returns c =
    let s = c.seat.inside in
    let k = stands s.seat.table_id s.seat.me.0 s.processor s.all c.args.seat.now _ c.seat.invariant.0 c.seat.view_is (c.requires.own ∙ sym c.self.view_is) in
    record { goes = gone_here k c.store.ensures.0 (ap (λ (x : View × List (ℕ × ℕ)). x.0) c.store.ensures.2.0) }
