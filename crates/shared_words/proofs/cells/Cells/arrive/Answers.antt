use Rattle.std.proofs.Common.{cond, List, ℕ, ◌+◌, ◌*◌, ◌≡◌, sym, ◌∙◌, ap, subst, arith}
use Rattle.spmd_model.specs.Timelines.{counter}
use Rattle.spmd_model.specs.Acts.{post}
use Rattle.shared_words.specs.declared.view.View.{View}
use Rattle.shared_words.specs.Words.{word_count, arrival_word}
use Rattle.shared_words.specs.Homes.{IsSeatOf, protocol_in, misses_of, position_of, role_in, seen_of}
use Rattle.shared_words.proofs.Keeps.{arrive_allowed}
use Rattle.shared_words.proofs.Calls.{stands, same, same_table, its_gathers, its_laws, its_next, gone_seat, gone_here}
use Rattle.std.specs.Prelude.{◌-◌}
use Rattle.shared_words.proofs.cells.Cells.arrive.Goals as goal

-- an arrival more, and one of each processor
one_more : (a w n plus : ℕ) → a ≡ w * n → plus ≡ w → a + plus ≡ w * (n + 1)
one_more a w n plus is same = grind arith

pub fetch_add-requires : goal.fetch_add-requires
fetch_add-requires c =
    let s = c.seat.inside in
    let k = stands s.seat.table_id s.seat.me.0 s.processor s.all c.args.seat.now _ c.seat.invariant.0 c.seat.view_is (c.requires.own ∙ sym c.self.view_is) in
    let next = its_next k (post counter (c.args.e - 1)) c.requires.next.0 in
    let joint = its_gathers k (c.args.e - 1) ∙ c.requires.next.1 in
    let word = c.self.invariant.arrived ∙ ap arrival_word (sym (same k)) in
    let wide = c.self.invariant.words ∙ ap word_count (sym (same k)) in (
      same_table k,
      omega (arith, word, wide),
      arrive_allowed c.self.inside.table.shared.key c.self.inside.table.shared.table_id.slots s.seat.id s.seat.me (its_laws k c.self.invariant.laws) s.processor (position_of (role_in s.seat.me.0)) (misses_of (role_in s.seat.me.0)) (seen_of (role_in s.seat.me.0)) c.seat.invariant.0.role (c.args.e - 1) _ next joint word,
    )

pub invariant_of-seat : goal.invariant_of-seat
invariant_of-seat c =
    let s = c.seat.inside in
    let k = stands s.seat.table_id s.seat.me.0 s.processor s.all c.args.seat.now _ c.seat.invariant.0 c.seat.view_is (c.requires.own ∙ sym c.self.view_is) in
    let new = c.fetch_add.ensures.2.0 in (
      subst (λ (x : View). IsSeatOf x s.processor (s.all + c.from.result)) (sym (ap (λ (x : View × List (ℕ × ℕ)). x.0) new)) (gone_seat s.seat.me.0 s.processor s.all (s.all + c.from.result) (post counter (c.args.e - 1)) c.seat.invariant.0 (its_next k (post counter (c.args.e - 1)) c.requires.next.0) (λ n is. one_more _ _ n _ is (c.from.ensures ∙ ap (λ m. m.workers) (sym (same k))) ∙ sym (ap (λ b. (protocol_in s.seat.me.0).workers * cond b (n + 1) n) (its_gathers k (c.args.e - 1) ∙ c.requires.next.1)))),
      ap (λ (x : View × List (ℕ × ℕ)). x.1) new ∙ c.seat.invariant.1,
    )

pub returns : goal.returns
returns c =
    let s = c.seat.inside in
    let k = stands s.seat.table_id s.seat.me.0 s.processor s.all c.args.seat.now _ c.seat.invariant.0 c.seat.view_is (c.requires.own ∙ sym c.self.view_is) in
    record { goes = gone_here k c.fetch_add.ensures.0 (ap (λ (x : View × List (ℕ × ℕ)). x.0) c.fetch_add.ensures.2.0) }
