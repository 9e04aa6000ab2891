-- Each step of a processor's seat, on the words and on the seats.
use Rattle.std.proofs.Common.{◌≡◌, ℕ, ◌+◌, ◌*◌, ◌^◌, ◌<◌, ◌≤◌, true, false, List, set, Some, sym, ◌∙◌, ap, subst, inl, inr, arith}
use Rattle.std.specs.Prelude.{slice_index}
use Rattle.std.proofs.lemmas.Bool.{cases_eq}
use Rattle.spmd_model.specs.Cells.{plus}
use Rattle.spmd_model.specs.Timelines.{Word, counter}
use Rattle.spmd_model.specs.Acts.{Act, post, await, load, store, add}
use Rattle.spmd_model.specs.Protocols.{Protocol, act_at, arrivals_at, is_arrival}
use Rattle.spmd_model.specs.Laws.{Laws}
use Rattle.spmd_model.specs.Lawful.{put}
use Rattle.spmd_model.proofs.Places.{put_moves}
use Rattle.shared_words.specs.declared.roles.Role.{Role}
use Rattle.shared_words.specs.Places.{behind, behind_row, total}
use Rattle.shared_words.specs.Words.{AreShown, word_value, word_of, arrival_word}
use Rattle.shared_words.specs.Shown.{AreOne}
use Rattle.shared_words.specs.Steps.{ComesTo, GoesOn, IsSeatAt}
use Rattle.shared_words.proofs.Totals.{total_most}
use Rattle.shared_words.proofs.WordSteps.{load_gives, by_load, by_store, by_add, by_post, by_poll, by_arrive, by_row}
use Rattle.shared_words.proofs.Seats.{moves_on}

-- the same places
same_places : (m : Protocol) (words : List ℕ) (at : ℕ → ℕ) (p n : ℕ) → at p ≡ n → AreShown m words at → AreShown m words (put at p n)
same_places m words at p n e shown = subst (λ (f : ℕ → ℕ). AreShown m words f) (λ i q. same q i) shown
  where
    same : (q : ℕ) → at q ≡ put at p n q
    same q = elim (cases_eq q p) [
      | inl is ↦ ap at is ∙ e ∙ sym (ap (put at p n) is ∙ (put_moves at p n).here)
      | inr ne ↦ sym ((put_moves at p n).others q ne)
    ]

module _ (m : Protocol) (laws : Laws m) (words : List ℕ) (roles : List Role) (r : AreOne m words roles) (id p n misses seen : ℕ) (there : IsSeatAt roles id p n misses seen) where
  here : (p < m.workers) × (r.at p ≡ n)
  here = let said = r.seated.says id _ there in (said.0, said.3)

  next_here : (a : Act) → act_at m p n ≡ Some a → act_at m p (r.at p) ≡ Some a
  next_here a next = ap (act_at m p) here.1 ∙ next

  comes : (after : List ℕ) (k misses' seen' : ℕ) → AreShown m after (put r.at p k) → ComesTo r after id p k misses' seen'
  comes after k misses' seen' shown = record { one = record { at = put r.at p k; shown = shown; seated = moves_on m roles r.at id p n misses seen k misses' seen' r.seated there }; moves = put_moves r.at p k }

  goes : (after : List ℕ) → AreShown m after (put r.at p (behind m p (r.at p))) → GoesOn r after id p n
  goes after shown = comes after (behind m p n) 0 0 (subst (λ k. AreShown m after (put r.at p (behind m p k))) here.1 shown)

  pub load_step : (place c : ℕ) → act_at m p n ≡ Some (load place c) → c < m.cells → GoesOn r words id p n × (word_value (slice_index words c) ≡ m.loaded_at p n)
  load_step place c next inside = (
    goes words (by_load m laws words r.at p place c here.0 r.shown (next_here (load place c) next)),
    load_gives m laws words r.at p place c here.0 inside r.shown (next_here (load place c) next) ∙ ap (m.loaded_at p) here.1,
  )

  pub store_step : (place c word : ℕ) → act_at m p n ≡ Some (store place c) → c < m.cells → word_value word ≡ m.stored_at p n → GoesOn r (set words c word) id p n
  store_step place c word next inside is = goes (set words c word) (by_store m laws words r.at p place c word here.0 inside r.shown (next_here (store place c) next) (is ∙ ap (m.stored_at p) (sym here.1)))

  pub add_step : (place c word : ℕ) → act_at m p n ≡ Some (add place c) → c < m.cells → word_value word ≡ plus (word_value (slice_index words c)) (m.stored_at p n) → GoesOn r (set words c word) id p n
  add_step place c word next inside is =
      goes (set words c word) (by_add m laws words r.at p place c word here.0 inside r.shown (next_here (add place c) next) (is ∙ ap (λ k. plus (word_value (slice_index words c)) (m.stored_at p k)) (sym here.1)))

  pub post_step : (w : Word) (k : ℕ) → act_at m p n ≡ Some (post w k) → is_arrival m.gathers w k ≡ false → GoesOn r (set words (word_of m w p) k) id p n
  post_step w k next plain = goes (set words (word_of m w p) k) (by_post m laws words r.at w p k here.0 r.shown (next_here (post w k) next) plain)

  pub poll_step : (w : Word) (q wanted : ℕ) → act_at m p n ≡ Some (await w q wanted) → is_arrival m.gathers w wanted ≡ false → wanted ≤ slice_index words (word_of m w q) → GoesOn r words id p n
  poll_step w q wanted next plain come = goes words (by_poll m laws words r.at w p q wanted here.0 r.shown (next_here (await w q wanted) next) plain come)

  pub miss_step : (found : ℕ) → ComesTo r words id p n (misses + 1) found
  miss_step found = comes words n (misses + 1) found (same_places m words r.at p n here.1 r.shown)

  pub arrive_step : (k : ℕ) → act_at m p n ≡ Some (post counter k) → m.gathers k ≡ true → GoesOn r (set words (arrival_word m) (slice_index words (arrival_word m) + 1)) id p n × (slice_index words (arrival_word m) + 1 < 2 ^ 64)
  arrive_step k next joint =
      let f : ℕ → ℕ = λ q. arrivals_at m q (r.at q) in
      let most : total f m.workers ≤ m.workers * 2 ^ 40 = total_most f m.workers (2 ^ 40) (λ q _. laws.few_arrivals q (r.at q)) in
      let sum : slice_index words (arrival_word m) ≡ total f m.workers = r.shown.gathered.sum in let few : m.workers ≤ 64 = laws.few_workers in (
        goes (set words (arrival_word m) (slice_index words (arrival_word m) + 1)) (by_arrive m laws words r.at p k here.0 r.shown (next_here (post counter k) next) joint),
        omega arith,
      )

  pub row_step : m.workers * arrivals_at m p n ≤ slice_index words (arrival_word m) → ComesTo r words id p (behind_row m p n) 0 0
  row_step come =
      comes words (behind_row m p n) 0 0
      (subst (λ j. AreShown m words (put r.at p (behind_row m p j))) here.1 (by_row m laws words r.at p here.0 r.shown (subst (λ j. m.workers * arrivals_at m p j ≤ slice_index words (arrival_word m)) (sym here.1) come)))
