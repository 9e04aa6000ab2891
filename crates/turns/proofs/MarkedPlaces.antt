-- The first place that is marked.
use Rattle.std.proofs.Common.{◌≡◌, ℕ, zero, suc, ◌+◌, ◌-◌, ◌<◌, Bool, true, false, cond, List, [], ◌∷◌, ◌++◌, length, refl, ap, sym, ◌∙◌, arith, drop, replicate, set}
use Rattle.std.specs.Prelude.{slice_index_or, slice_set}
use Rattle.std.specs.List.{filter, range_with_len}
use Rattle.std.proofs.lemmas.List.{get_or-set_other, get_or-set_same}
use Rattle.std.proofs.lemmas.List.Elements.{filter-append}
use Rattle.list_lemmas.proofs.Ranges.{range_split}
use Rattle.sync_plan.proofs.ProcessorSets.{filter_none, filter_range}
use Rattle.turns.specs.Turns.{places_pending}

-- the places before this one are not marked
abbrev pub NoneBefore : List Bool → ℕ → Type 0
NoneBefore bs k = (j : ℕ) → j < k → slice_index_or bs j false ≡ false

module _ (k : ℕ) (small : k < 32) where
  split : (f : ℕ → Bool) → ((j : ℕ) → j < k → f j ≡ false) → filter f (range_with_len 0 32) ≡ cond (f k) (k ∷ filter f (range_with_len (k + 1) (31 - k))) (filter f (range_with_len (k + 1) (31 - k)))
  split f none =
      let parts : 32 ≡ k + suc (31 - k) = omega (arith, small) in
      let here : 0 + k ≡ k = omega arith in
      ap (λ n. filter f (range_with_len 0 n)) parts ∙ ap (filter f) (range_split 0 k (suc (31 - k))) ∙ filter-append f (range_with_len 0 k) (range_with_len (0 + k) (suc (31 - k)))
      ∙ ap (λ l. l ++ filter f (range_with_len (0 + k) (suc (31 - k)))) (filter_none f 0 k (λ j ge lt. none j (omega (arith, lt))))
      ∙ ap (λ a. filter f (range_with_len a (suc (31 - k)))) here

  pub first_is : (bs : List Bool) → length bs ≡ 32 → NoneBefore bs k → slice_index_or bs k false ≡ true → places_pending bs ≡ k ∷ places_pending (slice_set bs k false)
  first_is bs long none yes_it_is =
      let f : ℕ → Bool = λ j. slice_index_or bs j false in
      let g : ℕ → Bool = λ j. slice_index_or (slice_set bs k false) j false in
      let rest = filter f (range_with_len (k + 1) (31 - k)) in
      let same : rest ≡ filter g (range_with_len (k + 1) (31 - k)) = filter_range f g (k + 1) (31 - k) (λ j ge lt. sym (get_or-set_other bs k j false false (λ e. absurd (omega (arith, e, ge))))) in
      let here : g k ≡ false = get_or-set_same bs k false false (omega (arith, long, small)) in
      split f none ∙ ap (λ b. cond b (k ∷ rest) rest) yes_it_is ∙ ap (λ l. k ∷ l) same
      ∙ sym (ap (λ l. k ∷ l) (split g (λ j lt. get_or-set_other bs k j false false (λ e. absurd (omega (arith, e, lt))) ∙ none j lt) ∙ ap (λ b. cond b (k ∷ filter g (range_with_len (k + 1) (31 - k))) (filter g (range_with_len (k + 1) (31 - k)))) here))

pub none_is : (bs : List Bool) → NoneBefore bs 32 → places_pending bs ≡ []
none_is bs none = filter_none (λ j. slice_index_or bs j false) 0 32 (λ j ge lt. none j (omega (arith, lt)))

-- ---- the first so many marked

all_but_one : (n : ℕ) (bs : List Bool) → n < length bs → set (replicate n true ++ drop n bs) n true ≡ replicate (suc n) true ++ drop (suc n) bs
all_but_one zero [] lt = absurd (omega (arith, lt))
all_but_one zero (b ∷ bs) lt = refl
all_but_one (suc n) [] lt = absurd (omega (arith, lt))
all_but_one (suc n) (b ∷ bs) lt = ap (λ l. true ∷ l) (all_but_one n bs (omega (arith, lt)))

pub all_marked : (n : ℕ) (bs : List Bool) → n < length bs → set (replicate n true ++ drop n bs) n true ≡ replicate (n + 1) true ++ drop (n + 1) bs
all_marked n bs lt =
    let next : suc n ≡ n + 1 = omega arith in
    all_but_one n bs lt ∙ ap (λ k. replicate k true ++ drop k bs) next
