-- Choices that are weaker than what is taken, phase by phase.
use Rattle.std.proofs.Common.{◌≡◌, ℕ, zero, suc, ◌+◌, ◌<◌, ◌≤◌, Bool, true, false, refl, List, [], ◌∷◌, ◌++◌, take, length, get_or, append_assoc, ap, sym, ◌∙◌, arith}
use Rattle.std.proofs.lemmas.List.{append-nil}
use Rattle.std.proofs.lemmas.List.FromFn.{map-range_with_len_more}
use Rattle.plan_maker.specs.Candidates.{weaker_at, weaker_from}

pub weaker_next : (t n : ℕ) → weaker_at t (n + 1) ≡ weaker_at t n ++ record { phase = t; place = n } ∷ []
weaker_next t n = map-range_with_len_more (λ i. record { phase = t; place = i }) 0 n n (omega arith)

pub weaker_more : (t : ℕ) (taken : List ℕ) (k : ℕ) → k < length taken → weaker_from t (take (k + 1) taken) ≡ weaker_from t (take k taken) ++ weaker_at (t + k) (get_or taken k 0)
weaker_more t [] k lt = absurd (omega (arith, lt))
weaker_more t (n ∷ taken) zero lt = let e : t ≡ t + 0 = omega arith in append-nil (weaker_at t n) ∙ ap (λ j. weaker_at j n) e
weaker_more t (n ∷ taken) (suc k) lt =
    let e : suc k + 1 ≡ suc (k + 1) = omega arith in
    let at : suc t + k ≡ t + suc k = omega arith in
    ap (λ j. weaker_from t (take j (n ∷ taken))) e
    ∙ ap (λ cs. weaker_at t n ++ cs) (weaker_more (suc t) taken k (omega (arith, lt)) ∙ ap (λ j. weaker_from (suc t) (take k taken) ++ weaker_at j (get_or taken k 0)) at)
    ∙ sym (append_assoc (weaker_at t n) (weaker_from (suc t) (take k taken)) (weaker_at (t + suc k) (get_or taken k 0)))

-- what changes nothing, or makes a sum less, makes it no more
pub no_more : (b : Bool) (new old : ℕ) → (b ≡ true → new < old) → (b ≡ false → new ≡ old) → new ≤ old
no_more true new old less same = omega (arith, less refl)
no_more false new old less same = omega (arith, same refl)
