use Rattle.std.proofs.Common.{rules, List, [], vec_len, ◌≡◌, ℕ, ℤ, ◌<◌, sym, ◌∙◌, ap, subst, arith}
use Rattle.std.specs.Prelude.{slice_get}
use Rattle.shared_words.specs.declared.view.View.{View}
use Rattle.atomic_table.specs.Seated.{TableId}
use Rattle.spmd_model.specs.Laws.{Laws}
use Rattle.spmd_model.specs.Protocols.{Protocol}
use Rattle.shared_words.specs.Calls.{AreAllEnded}
use Rattle.shared_words.specs.Ends.{HasEnded, IsLast}
use Rattle.shared_words.specs.Homes.{Home, MainView, main_view, protocol_at, given_in, plan_given, role_in, stages_of}
use Rattle.shared_words.proofs.Seating.{over_allowed, last_words}
use Rattle.shared_words.proofs.cells.Cells.close.Goals as goal

-- what contracts see of the main seat says so of its own view
all_ended : (table : TableId) (v : View) (now : MainView) (memory : List ℤ) → main_view table v ≡ now → AreAllEnded now → HasEnded (record { given = given_in v; stages = stages_of (role_in v); memory = memory })
all_ended table v now memory is ended = λ p lt. ap (λ (x : MainView). slice_get x.stages p) is ∙ ended p (subst (λ (m : Protocol). p < m.workers) (ap protocol_at (ap (λ (x : MainView). x.home) is)) lt)

pub split_seat-over-requires : goal.split_seat-over-requires
split_seat-over-requires c =
    let s = c.main.inside in let v = s.seat.me.0 in let wide = c.self.invariant.words in
    let own = ap (λ (x : MainView). x.home) c.main.view_is ∙ c.requires.own ∙ sym c.self.view_is in (
      ap (λ (h : Home). h.table) own,
      omega (arith, wide),
      over_allowed c.self.inside.table.shared.key s.seat.id v (stages_of (role_in v)) c.main.invariant.0
          (all_ended _ v _ [] c.main.view_is c.requires.ended),
    )

pub free-requires : goal.free-requires
free-requires c = let none = c.close_with-words.ensures.counts.1 in let slots = c.self.invariant.slots in λ k lt. absurd (omega (arith, none, slots, lt))

pub invariant_of-result-2 : goal.invariant_of-result-2
invariant_of-result-2 c =
    let s = c.main.inside in let v = s.seat.me.0 in
    let own = ap (λ (x : MainView). x.home) c.main.view_is ∙ c.requires.own ∙ sym c.self.view_is in
    let same = ap (λ (x : View × List (ℕ × ℕ)). x.0) c.split_seat-over.ensures.2 in
    let count : vec_len c.in-Ok.memory ≡ c.self.inside.cells = search rules in
    let last = last_words c.self.inside.table.shared.key _ _ _ v _ (stages_of (role_in v)) c.read_words.new.into.items _ c.main.invariant.0 (ap (λ (x : View × List (ℕ × ℕ)). x.0) c.split_seat-over.ensures.4) (subst Laws (ap protocol_at (sym own)) c.self.invariant.laws) c.close_with-words.ensures.values.2
    c.read_words.ensures (count ∙ c.self.invariant.cells ∙ ap (λ (h : Home). (protocol_at h).cells) (sym own)) in (
      ap (λ (h : Home). (plan_given h.given).workers) (sym own) ∙ ap (λ (x : View). (plan_given (given_in x)).workers) (sym same),
      subst (λ (x : View). HasEnded (record { given = given_in x; stages = stages_of (role_in x); memory = c.read_words.new.into.items })) (sym same) (all_ended _ v _ c.read_words.new.into.items c.main.view_is c.requires.ended),
      subst (λ (x : View). IsLast (record { given = given_in x; stages = stages_of (role_in x); memory = c.read_words.new.into.items })) (sym same) last,
    )

pub returns-clause-ended : goal.returns-clause-ended
returns-clause-ended c =
    let v = c.main.inside.seat.me.0 in
    let same = ap (λ (x : View × List (ℕ × ℕ)). x.0) c.split_seat-over.ensures.2 in
    subst (λ (x : View). HasEnded (record { given = given_in x; stages = stages_of (role_in x); memory = c.read_words.new.into.items })) (sym same) (all_ended _ v _ c.read_words.new.into.items c.main.view_is c.requires.ended)

pub returns-clause-last : goal.returns-clause-last
returns-clause-last c =
    let s = c.main.inside in let v = s.seat.me.0 in
    let own = ap (λ (x : MainView). x.home) c.main.view_is ∙ c.requires.own ∙ sym c.self.view_is in
    let same = ap (λ (x : View × List (ℕ × ℕ)). x.0) c.split_seat-over.ensures.2 in
    let count : vec_len c.in-Ok.memory ≡ c.self.inside.cells = search rules in
    let last = last_words c.self.inside.table.shared.key _ _ _ v _ (stages_of (role_in v)) c.read_words.new.into.items _ c.main.invariant.0 (ap (λ (x : View × List (ℕ × ℕ)). x.0) c.split_seat-over.ensures.4) (subst Laws (ap protocol_at (sym own)) c.self.invariant.laws) c.close_with-words.ensures.values.2
    c.read_words.ensures (count ∙ c.self.invariant.cells ∙ ap (λ (h : Home). (protocol_at h).cells) (sym own)) in
    subst (λ (x : View). IsLast (record { given = given_in x; stages = stages_of (role_in x); memory = c.read_words.new.into.items })) (sym same) last
