use Rattle.std.proofs.Common.{List, ℕ, sym, ◌∙◌, ap, subst, arith}
use Rattle.spmd_model.specs.Acts.{add}
use Rattle.shared_words.specs.declared.view.View.{View}
use Rattle.shared_words.specs.Words.{word_count}
use Rattle.shared_words.specs.Homes.{IsSeatOf, misses_of, position_of, role_in, seen_of}
use Rattle.shared_words.proofs.Keeps.{add_allowed}
use Rattle.shared_words.proofs.Calls.{stands, same, same_table, add_inside, its_laws, its_next, gone_seat, gone_here, added_here}
use Rattle.std.specs.Int.{w64, cast_unsigned}
use Rattle.std.proofs.lemmas.Int.{to_z-of_z}
use Rattle.shared_words.proofs.cells.Cells.add.Goals as goal

pub fetch_add-requires : goal.fetch_add-requires
fetch_add-requires c =
    let s = c.seat.inside in
    let k = stands s.seat.table_id s.seat.me.0 s.processor s.all c.args.seat.now _ c.seat.invariant.0 c.seat.view_is (c.requires.own ∙ sym c.self.view_is) in
    let next = its_next k (add c.requires.next.0 c.args.cell) c.requires.next.1 in
    let inside = add_inside k (its_laws k c.self.invariant.laws) c.requires.next.0 c.args.cell next in
    let wide = c.self.invariant.words ∙ ap word_count (sym (same k)) in (
      same_table k,
      omega (arith, inside, wide),
      add_allowed c.self.inside.table.shared.key c.self.inside.table.shared.table_id.slots s.seat.id s.seat.me (its_laws k c.self.invariant.laws) s.processor (position_of (role_in s.seat.me.0)) (misses_of (role_in s.seat.me.0)) (seen_of (role_in s.seat.me.0)) c.seat.invariant.0.role c.requires.next.0 c.args.cell _ next inside
          (added_here k c.args.amount _ c.ranges.amount c.requires.amount (c.cast_unsigned.ensures ∙ ap (cast_unsigned w64) (to_z-of_z w64 c.args.amount c.ranges.amount))),
    )

pub invariant_of-seat : goal.invariant_of-seat
invariant_of-seat c =
    let s = c.seat.inside in
    let k = stands s.seat.table_id s.seat.me.0 s.processor s.all c.args.seat.now _ c.seat.invariant.0 c.seat.view_is (c.requires.own ∙ sym c.self.view_is) in
    let new = c.fetch_add.ensures.2.0 in (
      subst (λ (x : View). IsSeatOf x s.processor s.all) (sym (ap (λ (x : View × List (ℕ × ℕ)). x.0) new)) (gone_seat s.seat.me.0 s.processor s.all s.all (add c.requires.next.0 c.args.cell) c.seat.invariant.0 (its_next k (add c.requires.next.0 c.args.cell) c.requires.next.1) (λ n is. is)),
      ap (λ (x : View × List (ℕ × ℕ)). x.1) new ∙ c.seat.invariant.1,
    )

pub returns : goal.returns
returns c =
    let s = c.seat.inside in
    let k = stands s.seat.table_id s.seat.me.0 s.processor s.all c.args.seat.now _ c.seat.invariant.0 c.seat.view_is (c.requires.own ∙ sym c.self.view_is) in
    record { goes = gone_here k c.fetch_add.ensures.0 (ap (λ (x : View × List (ℕ × ℕ)). x.0) c.fetch_add.ensures.2.0) }
