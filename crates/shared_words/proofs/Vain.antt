-- A poll that found too little.
use Rattle.std.proofs.Common.{◌≡◌, ℕ, zero, suc, ◌*◌, ◌<◌, ◌≤◌, ◌∙◌, ap, inl, inr, arith}
use Rattle.std.specs.Prelude.{length}
use Rattle.std.proofs.lemmas.Bool.{cases_eq}
use Rattle.std.proofs.lemmas.Option.{slice_get_within}
use Rattle.spmd_model.specs.Timelines.{Word, counter}
use Rattle.spmd_model.specs.Lawful.{IsPosted}
use Rattle.spmd_model.specs.Protocols.{Protocol, arrivals_at}
use Rattle.spmd_model.specs.Laws.{Laws}
use Rattle.shared_words.specs.Places.{total}
use Rattle.shared_words.specs.Vain.{IsWithin, PollsInVain, RowsInVain}
use Rattle.shared_words.proofs.Places.{over_passed}

-- where all are as many as b, the sum is n times b at least
total_least : (f : ℕ → ℕ) (n b : ℕ) → ((q : ℕ) → q < n → b ≤ f q) → n * b ≤ total f n
total_least f zero b least = omega arith
total_least f (suc n) b least = let rest : n * b ≤ total f n = total_least f n b (λ q lt. least q (omega (arith, lt))) in let last : b ≤ f n = least n (omega arith) in omega (arith, rest, last, Rattle.std.proofs.Common.suc-mul n b)

module _ (m : Protocol) where
  -- a post that is done stays so
  posted_on : (w : Word) (q n k l : ℕ) → k ≤ l → IsPosted (m.acts q) w n k → IsPosted (m.acts q) w n l
  posted_on w q n k l le done = (done.0, omega (arith, done.1, le), done.2)

  pub in_vain : Laws m → PollsInVain m
  in_vain laws w at known p n on wanted lt reached next plain low = (
    w,
    on,
    wanted,
    next,
    λ all.
        let below = (laws.posted w p n on wanted 0 lt next).0 in
        let done = posted_on w on wanted (known on) (at on) (reached on below) (all n on next) in
        let shown = laws.shows w on wanted (at on) plain done in
        omega (arith, shown, low),
  )

  pub row_in_vain : Laws m → RowsInVain m
  row_in_vain laws at known p n on wanted lt here reached next joint low = (
    counter,
    on,
    wanted,
    next,
    λ all.
        let enough : (q : ℕ) → q < m.workers → arrivals_at m p n ≤ arrivals_at m q (at q) = λ q lq. elim (cases_eq q p) [
          | inl e ↦ (let same : arrivals_at m q (at q) ≡ arrivals_at m p n = ap (λ x. arrivals_at m x (at x)) e ∙ ap (arrivals_at m p) here in omega (arith, same))
          | inr ne ↦ (let a = laws.awaits_all p q n on wanted lt lq ne next joint in laws.arrived p q n on wanted (at q) lt lq next joint (posted_on counter q wanted (known q) (at q) (reached q lq) (all a.0 q a.1)))
        ] in
        let least = total_least (λ q. arrivals_at m q (at q)) m.workers (arrivals_at m p n) enough in
        omega (arith, least, low),
  )

  pub within : IsWithin m
  within p n le = over_passed m p n (λ k. k ≤ length (m.acts p)) (λ k a at quiet le. let inside = slice_get_within (m.acts p) k a at in omega (arith, inside)) le
