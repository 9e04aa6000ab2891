-- Whoever has come behind all rounds of a barrier knows that every processor has come to it.
use Rattle.std.proofs.Common.{◌≡◌, ◌≢◌, ℕ, zero, suc, ◌+◌, ◌-◌, ◌*◌, ◌^◌, ◌%◌, ◌<◌, ◌≤◌, ◌⊎◌, ℤ, List, [], ◌∷◌, Some, refl, ap, sym, subst, ◌∙◌, inl, inr, ⊎_elim, arith}
use Rattle.std.specs.Prelude.{if◌then◌else◌, nat_le, slice_get}
use Rattle.std.specs.List.{Contains}
use Rattle.std.proofs.lemmas.Bool.{cases_Bool, cases_lt, leb-false, leb-true}
use Rattle.std.proofs.Math.Nat.{add-mod-mod, add-mod_right, mod-add-mod}
use Rattle.std.proofs.Math.Pow.{pow_mono}
use Rattle.spmd_model.specs.Timelines.{Machine}
use Rattle.spmd_model.specs.Ordered.{Hop, IsChain, IsSound, awaited_in, number_in}
use Rattle.spmd_model.specs.Lawful.{IsLawful, acts_in_front}
use Rattle.spmd_model.proofs.ActLists.{in_front-rises}
use Rattle.spmd_model.proofs.Chains.{chain_back, chain_posted, waited_in}
use Rattle.spmd_model.specs.Rounds.{AreEnough, AreRounds, awaited_in_round, round_boundary, rounds_from, rounds_of}

mod_small : (n k : ℕ) → n < k → n % k ≡ n
mod_small n k lt = grind arith

mod_less : (n k : ℕ) → 0 < k → n % k < k
mod_less n k some = grind arith

-- the one that stands so far behind q has q so far before it
back : (workers r q : ℕ) → q < workers → 2 ^ r ≤ workers → awaited_in_round workers r ((q + 2 ^ r) % workers) ≡ q
back workers r q lt far = ⊎_elim
    (λ inside.
    let same : (q + 2 ^ r) % workers ≡ q + 2 ^ r = mod_small (q + 2 ^ r) workers inside in
    let difference : q + 2 ^ r + workers - 2 ^ r ≡ q + workers = omega arith in
    ap (λ x. (x + workers - 2 ^ r) % workers) same ∙ ap (λ x. x % workers) difference ∙ add-mod_right q workers ∙ mod_small q workers lt)
    (λ past.
    let rest = q + 2 ^ r - workers in
    let whole : rest + workers ≡ q + 2 ^ r = omega (arith, past) in
    let less : rest < workers = omega (arith, lt, far, whole) in
    let same : (q + 2 ^ r) % workers ≡ rest = ap (λ x. x % workers) (sym whole) ∙ add-mod_right rest workers ∙ mod_small rest workers less in
    let difference : rest + workers - 2 ^ r ≡ q = omega (arith, whole) in
    ap (λ x. (x + workers - 2 ^ r) % workers) same ∙ ap (λ x. x % workers) difference ∙ mod_small q workers lt) (cases_lt (q + 2 ^ r) workers)

halves : (e : ℕ) → (h : ℕ) × ((e ≡ h + h) ⊎ (e ≡ h + h + 1))
halves zero = (0, inl refl)
halves (suc e) = elim (halves e).1 [
  | inl even ↦ ((halves e).0, inr (omega (arith, even)))
  | inr odd ↦ ((halves e).0 + 1, inl (omega (arith, odd)))
]

half_of : (k h : ℕ) → h + h < 2 ^ suc k → h < 2 ^ k
half_of k h less = let twice : 2 ^ suc k ≡ 2 ^ k + 2 ^ k = grind arith in omega (arith, twice, less)

module _ (m : Machine) (place first rounds u : ℕ) (there : AreRounds m place first rounds) (some : 0 < first) (behind : place + rounds ≤ u) where
  -- where processor p stands e times 2 ^ r behind q, the rounds from r on lead from q to p
  from_round : (k r q p t e : ℕ) → r + k ≡ rounds → 2 ^ (r + k) ≤ m.workers + m.workers → t < place + r → q < m.workers → e < 2 ^ k → (q + 2 ^ r * e) % m.workers ≡ p → (hops : List Hop) × IsChain m q t hops p u
  from_round zero r q p t e count few here lt less is =
      let none : 2 ^ r * e ≡ 0 = by e less in
      let same : q + 2 ^ r * e ≡ q = omega (arith, none) in
      ([], (sym (mod_small q m.workers lt) ∙ ap (λ x. x % m.workers) (sym same) ∙ is, omega (arith, here, count, behind)))
    where
      by : (e : ℕ) → e < 2 ^ 0 → 2 ^ r * e ≡ 0
      by zero less = omega arith
      by (suc e) less = absurd (omega (arith, less))
  from_round (suc k) r q p t e count few here lt less is =
      elim (halves e).1 [
        | inl even ↦
            let h = (halves e).0 in
            from_round k (suc r) q p t h (omega (arith, count)) (subst (λ n. 2 ^ n ≤ m.workers + m.workers) shift few) (omega (arith, here)) lt (half h (omega (arith, even)))
            (ap (λ x. (q + x) % m.workers) (doubled h e even) ∙ is)
        | inr odd ↦
            let h = (halves e).0 in
            let next = (q + 2 ^ r) % m.workers in
            let near : 2 ^ r ≤ m.workers = near_enough few in
            let rest = from_round k (suc r) next p (place + r) h (omega (arith, count)) (subst (λ n. 2 ^ n ≤ m.workers + m.workers) shift few) (omega arith) (mod_less (q + 2 ^ r) m.workers (omega (arith, lt))) (half h (omega (arith, odd)))
            (mod-add-mod (q + 2 ^ r) m.workers (2 ^ suc r * h) ∙ ap (λ x. x % m.workers) (odd_sum h odd) ∙ is) in
            let here_is = there r (omega (arith, count)) in
            let hop : Hop = record { place = place + r; processor = next } in (
              hop ∷ rest.0,
              (
                omega (arith, here),
                mod_less (q + 2 ^ r) m.workers (omega (arith, lt)),
                subst (λ o. 0 < number_in o) (sym here_is) (omega (arith, some)),
                subst (λ o. Contains (awaited_in o next) q) (sym here_is) (0, omega arith, back m.workers r q lt near),
                rest.1,
              ),
            )
      ]
    where
      shift : r + suc k ≡ suc r + k
      shift = omega arith

      power : 2 ^ suc r ≡ 2 ^ r + 2 ^ r
      power = grind arith

      half : (h : ℕ) → h + h < 2 ^ suc k → h < 2 ^ k
      half h less' = half_of k h less'

      doubled : (h e : ℕ) → e ≡ h + h → 2 ^ suc r * h ≡ 2 ^ r * e
      doubled h e even = ap (λ x. x * h) power ∙ distribute (2 ^ r) h ∙ ap (λ x. 2 ^ r * x) (sym even)
        where
          distribute : (x h : ℕ) → (x + x) * h ≡ x * (h + h)
          distribute x h = grind arith

      odd_sum : (h : ℕ) → e ≡ h + h + 1 → q + 2 ^ r + 2 ^ suc r * h ≡ q + 2 ^ r * e
      odd_sum h odd = ap (λ x. q + 2 ^ r + x * h) power ∙ distribute (2 ^ r) h ∙ ap (λ x. q + 2 ^ r * x) (sym odd)
        where
          distribute : (x h : ℕ) → q + x + (x + x) * h ≡ q + x * (h + h + 1)
          distribute x h = grind arith

      near_enough : 2 ^ (r + suc k) ≤ m.workers + m.workers → 2 ^ r ≤ m.workers
      near_enough few' =
          let more : 2 ^ suc r ≤ 2 ^ (r + suc k) = pow_mono (omega arith) in
          omega (arith, power, more, few')

  -- from every processor to every other
  pub rounds_lead : (q p t : ℕ) → 2 ^ rounds ≤ m.workers + m.workers → m.workers ≤ 2 ^ rounds → t < place → q < m.workers → p < m.workers → (hops : List Hop) × IsChain m q t hops p u
  rounds_lead q p t few enough here lt lt' =
      let far = (p + m.workers - q) % m.workers in
      let below : far < m.workers = mod_less (p + m.workers - q) m.workers (omega (arith, lt)) in
      let one : 2 ^ 0 * far ≡ far = grind arith in
      let sum : q + (p + m.workers - q) ≡ p + m.workers = omega (arith, lt) in
      from_round rounds 0 q p t far (omega arith) (subst (λ n. 2 ^ n ≤ m.workers + m.workers) zero_first few) (omega (arith, here)) lt (omega (arith, below, enough))
      (ap (λ x. (q + x) % m.workers) one ∙ add-far q ∙ ap (λ x. x % m.workers) sum ∙ add-mod_right p m.workers ∙ mod_small p m.workers lt')
    where
      zero_first : rounds ≡ 0 + rounds
      zero_first = omega arith

      add-far : (q : ℕ) → (q + (p + m.workers - q) % m.workers) % m.workers ≡ (q + (p + m.workers - q)) % m.workers
      add-far q = add-mod-mod q (p + m.workers - q) m.workers

-- the chain from the place in front of the first round: whoever is behind all rounds knows that every other processor has done its post in the first
all_posted : (m : Machine) (cells : List ℤ) (at : ℕ → ℕ) (place first rounds q p : ℕ) → IsSound m → IsLawful m cells at → AreRounds m (suc place) first rounds → 0 < first → 2 ^ rounds ≤ m.workers + m.workers → m.workers ≤ 2 ^ rounds → q < m.workers → p < m.workers → q ≢ p →
    acts_in_front m p (suc place + rounds) ≤ at p → acts_in_front m q (suc place) < at q
all_posted m cells at place first rounds q p sound law there some few enough lt lt' apart come =
    let chain = rounds_lead m (suc place) first rounds (suc place + rounds) there some (omega arith) q p place few enough (omega arith) lt lt' in
    by chain.0 chain.1
  where
    by : (hops : List Hop) → IsChain m q place hops p (suc place + rounds) → acts_in_front m q (suc place) < at q
    by [] c = absurd (apart c.0)
    by (h ∷ hops) c =
        let posted = chain_posted m cells at q place h hops p (suc place + rounds) sound law c come in
        let rise = in_front-rises m q (suc place) h.place (omega (arith, posted.0)) in
        omega (arith, rise, posted.1)

-- the same of rounds that stand first on the timeline
all_posted_first : (m : Machine) (cells : List ℤ) (at : ℕ → ℕ) (first rounds q p : ℕ) → IsSound m → IsLawful m cells at → AreRounds m 0 first rounds → 0 < first → 2 ^ rounds ≤ m.workers + m.workers → m.workers ≤ 2 ^ rounds → q < m.workers → p < m.workers → q ≢ p →
    acts_in_front m p (0 + rounds) ≤ at p → acts_in_front m q 0 < at q
all_posted_first m cells at first zero q p sound law there some few enough lt lt' apart come = absurd (omega (arith, enough, lt, lt', apart))
all_posted_first m cells at first (suc k) q p sound law there some few enough lt lt' apart come =
    elim (halves far).1 [
      | inl even ↦
          let h = (halves far).0 in
          let chain = from_round m 0 first (suc k) (0 + suc k) there some (omega arith) k 1 q p 0 h (omega arith) (subst (λ n. 2 ^ n ≤ m.workers + m.workers) shift few) (omega arith) lt (half_of k h (omega (arith, even, small)))
          (ap (λ x. (q + x) % m.workers) (twice h ∙ sym even) ∙ sum) in
          later chain.0 chain.1
      | inr odd ↦
          let h = (halves far).0 in
          let next = (q + 2 ^ 0) % m.workers in
          let two_at_least : 2 ^ 0 ≤ m.workers = omega (arith, lt) in
          let chain = from_round m 0 first (suc k) (0 + suc k) there some (omega arith) k 1 next p 0 h (omega arith) (subst (λ n. 2 ^ n ≤ m.workers + m.workers) shift few) (omega arith) (mod_less (q + 2 ^ 0) m.workers (omega (arith, lt))) (half_of k h (omega (arith, odd, small)))
          (mod-add-mod (q + 2 ^ 0) m.workers (2 ^ 1 * h) ∙ ap (λ x. x % m.workers) (odd_sum h odd) ∙ sum) in
          let past = chain_back m cells at next 0 chain.0 p (0 + suc k) sound law chain.1 come in
          let here : slice_get m.timeline 0 ≡ Some (round_boundary m.workers first 0) = there 0 (omega arith) in
          waited_in m cells at next q 0 (Some (round_boundary m.workers first 0)) sound law (mod_less (q + 2 ^ 0) m.workers (omega (arith, lt))) here (omega (arith, some)) (0, omega arith, back m.workers 0 q lt two_at_least) past
    ]
  where
    far : ℕ
    far = (p + m.workers - q) % m.workers

    small : (p + m.workers - q) % m.workers < 2 ^ suc k
    small = let below : (p + m.workers - q) % m.workers < m.workers = mod_less (p + m.workers - q) m.workers (omega (arith, lt)) in omega (arith, below, enough)

    shift : suc k ≡ 1 + k
    shift = omega arith

    sum : (q + (p + m.workers - q) % m.workers) % m.workers ≡ p
    sum = let whole : q + (p + m.workers - q) ≡ p + m.workers = omega (arith, lt) in
        add-mod-mod q (p + m.workers - q) m.workers ∙ ap (λ x. x % m.workers) whole ∙ add-mod_right p m.workers ∙ mod_small p m.workers lt'

    twice : (h : ℕ) → 2 ^ 1 * h ≡ h + h
    twice h = grind arith

    odd_sum : (h : ℕ) → (p + m.workers - q) % m.workers ≡ h + h + 1 → q + 2 ^ 0 + 2 ^ 1 * h ≡ q + (p + m.workers - q) % m.workers
    odd_sum h odd = let double = twice h in omega (arith, double, odd)

    later : (hops : List Hop) → IsChain m q 0 hops p (0 + suc k) → acts_in_front m q 0 < at q
    later [] c = absurd (apart c.0)
    later (h ∷ hops) c =
        let posted = chain_posted m cells at q 0 h hops p (0 + suc k) sound law c come in
        let rise = in_front-rises m q 0 h.place (omega arith) in
        omega (arith, rise, posted.1)

pub posted_by_all : (m : Machine) (cells : List ℤ) (at : ℕ → ℕ) (place first rounds q p : ℕ) → IsSound m → IsLawful m cells at → AreRounds m place first rounds → AreEnough m.workers rounds → 0 < first → q < m.workers → p < m.workers → q ≢ p →
    acts_in_front m p (place + rounds) ≤ at p → acts_in_front m q place < at q
posted_by_all m cells at zero first rounds q p sound law there enough some lt lt' apart come = all_posted_first m cells at first rounds q p sound law there some enough.least enough.reach lt lt' apart come
posted_by_all m cells at (suc place) first rounds q p sound law there enough some lt lt' apart come = all_posted m cells at place first rounds q p sound law there some enough.least enough.reach lt lt' apart come

-- ---- the least number of rounds that reach all is enough

enough_from : (more workers r : ℕ) → workers ≤ 2 ^ (r + more) → 2 ^ r ≤ workers + workers → AreEnough workers (rounds_from more workers r)
enough_from zero workers r reach least = let none : r + 0 ≡ r = omega arith in record { reach = subst (λ n. workers ≤ 2 ^ n) none reach; least = least }
enough_from (suc more) workers r reach least = elim (cases_Bool (nat_le workers (2 ^ r))) [
  | inl there ↦ subst (AreEnough workers) (sym (ap (λ b. if b then r else rounds_from more workers (suc r)) there)) (record { reach = leb-true workers (2 ^ r) there; least = least })
  | inr past ↦
      let twice : 2 ^ suc r ≡ 2 ^ r + 2 ^ r = grind arith in
      let less = leb-false workers (2 ^ r) past in
      let shift : r + suc more ≡ suc r + more = omega arith in
      subst (AreEnough workers) (sym (ap (λ b. if b then r else rounds_from more workers (suc r)) past))
      (enough_from more workers (suc r) (subst (λ n. workers ≤ 2 ^ n) shift reach) (omega (arith, twice, less)))
]

pub rounds_enough : (workers : ℕ) → 1 ≤ workers → workers ≤ 64 → AreEnough workers (rounds_of workers)
rounds_enough workers some few =
    let most : 2 ^ (0 + 6) ≡ 64 = refl in
    let one : 2 ^ 0 ≡ 1 = refl in
    enough_from 6 workers 0 (omega (arith, most, few)) (omega (arith, one, some))
