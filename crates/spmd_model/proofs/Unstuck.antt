-- No state is stuck: of the awaits that stand next, the one with the least number isn't in vain.
use Rattle.std.proofs.Common.{◌≡◌, ℕ, zero, suc, ◌+◌, ◌<◌, ◌≤◌, ◌⊎◌, true, nat_le, length, get_or, Option, Some, None, refl, ap, sym, subst, ◌∙◌, inl, inr, ⊎_elim, arith}
use Rattle.std.specs.Prelude.{slice_get, slice_index, Bool, List}
use Rattle.std.proofs.lemmas.Bool.{cases_Bool, cases_eq, cases_lt, leb-false}
use Rattle.std.proofs.lemmas.Option.{slice_get-get_or, slice_get_within}
use Rattle.spmd_model.specs.Timelines.{Machine, Word, counter, boundary}
use Rattle.spmd_model.specs.Acts.{Act, post, await, load, store, add, print, act_at, acts_of, moment_acts}
use Rattle.spmd_model.specs.States.{State, is_possible, next_act, words_of}
use Rattle.spmd_model.specs.Runs.{IsEnded}
use Rattle.spmd_model.specs.Ordered.{IsSound}
use Rattle.spmd_model.specs.Lawful.{acts_in_front}
use Rattle.spmd_model.specs.Reached.{CanGo, HasCome}
use Rattle.spmd_model.proofs.ActLists.{Found, act_of_moment, found, in_front-rises}
use Rattle.spmd_model.proofs.MomentActs.{IsAwaitIn, IsPostIn, post_first, tells}
use Rattle.spmd_model.proofs.Keeps.{stands}
use Rattle.spmd_model.proofs.Counters.{counter_reaches}
use Rattle.spmd_model.proofs.Chains.{post_moment}

-- where a processor's next act is an await at a boundary that isn't in front of this one, or it has none left, its post there is done
pub passed_post : (m : Machine) (w : Word) (q k l t n : ℕ) (posts : ℕ → Bool) (awaits : ℕ → List ℕ) → IsSound m → slice_get m.timeline t ≡ Some (boundary w n posts awaits) → l ≡ acts_in_front m q t → act_at m q l ≡ Some (post w n) →
    ((act_at m q k ≡ None) ⊎ ((v : Word) × (o : ℕ) × (i : ℕ) × (e : act_at m q k ≡ Some (await v o i)) × (t ≤ (found m q k (await v o i) e).place))) → l < k
passed_post m w q k l t n posts awaits sound at first e (inl none) = ⊎_elim (λ lt. lt) (λ le. let clash = inside k le in absurd (cc)) (cases_lt l k)
  where
    inside : (j : ℕ) → j ≤ l → Some (get_or (acts_of m q) j (post w n)) ≡ act_at m q j
    inside j le = sym (slice_get-get_or (acts_of m q) j (post w n) (omega (arith, slice_get_within (acts_of m q) l (post w n) e, le)))
passed_post m w q k l t n posts awaits sound at first e (inr (v, o, i, g, le)) =
    let h = found m q k (await v o i) g in
    let b : IsAwaitIn v q o i h.moment = tells q h.place h.index h.moment (await v o i) h.is in
    ⊎_elim
    (λ less.
    let rise = in_front-rises m q (suc t) h.place (omega (arith, less)) in
    let f = found m q l (post w n) e in
    let here = stands m q l (post w n) f in
    let place : f.place ≡ t = post_moment m w q l t n posts awaits sound at e in
    let to : l < acts_in_front m q (suc t) = subst (λ x. l < acts_in_front m q (suc x)) place here.to in
    omega (arith, rise, to, h.number))
    (λ more. let same : h.place ≡ t = omega (arith, le, more) in ⊎_elim (λ none. absurd (clash h b same none)) (λ some. let number : acts_in_front m q h.place ≡ acts_in_front m q t = ap (acts_in_front m q) same in omega (arith, first, h.number, number, some)) (cases_eq h.index 0))
    (cases_lt t h.place)
  where
    -- in one boundary the post stands in front of each await
    clash : (h : Found m q k (await v o i)) → IsAwaitIn v q o i h.moment → h.place ≡ t → h.index ≡ 0 → ⊥
    clash h b same none =
        let f = found m q l (post w n) e in
        let a : IsPostIn w q f.index n f.moment = tells q f.place f.index f.moment (post w n) f.is in
        let place : f.place ≡ t = post_moment m w q l t n posts awaits sound at e in
        let moments : Some f.moment ≡ Some h.moment = sym f.at ∙ ap (slice_get m.timeline) (place ∙ sym same) ∙ h.at in
        let one : f.moment ≡ h.moment = cc in
        let there : slice_get (moment_acts q t h.moment) 0 ≡ Some (post w n) = subst (λ x. slice_get (moment_acts q x h.moment) 0 ≡ Some (post w n)) place (subst (λ x. slice_get (moment_acts q f.place x) 0 ≡ Some (post w n)) one (subst (λ j. slice_get (moment_acts q f.place f.moment) j ≡ Some (post w n)) a.first f.is)) in
        let too : slice_get (moment_acts q t h.moment) 0 ≡ Some (await v o i) = subst (λ x. slice_get (moment_acts q x h.moment) 0 ≡ Some (await v o i)) same (subst (λ j. slice_get (moment_acts q h.place h.moment) j ≡ Some (await v o i)) none h.is) in
        let both : Some (post w n) ≡ Some (await v o i) = sym there ∙ too in
        cc

can_go : (m : Machine) (s : State) (p : ℕ) (act : Act) → p < m.workers → next_act m s p ≡ Some act → is_possible s act ≡ true → CanGo m s
can_go m s p act lt next possible = record { processor = p; below = lt; act = act; next = next; possible = possible }

-- of the awaits that stand next, the one at the foremost boundary waits for a processor that has its post there behind it, or whose next act is possible, or awaits at a boundary in front of that
unstuck : (m : Machine) (s : State) → IsSound m → HasCome m s → (fuel : ℕ) (w : Word) (p on n : ℕ) → p < m.workers → (next : next_act m s p ≡ Some (await w on n)) → (found m p (slice_index s.positions p) (await w on n) next).place < fuel → CanGo m s
unstuck m s sound come zero w p on n lt next less = absurd (omega (arith, less))
unstuck m s sound come (suc fuel) w p on n lt next less =
    let f = found m p (slice_index s.positions p) (await w on n) next in
    let a : IsAwaitIn w p on n f.moment = tells p f.place f.index f.moment (await w on n) f.is in
    let there : slice_get m.timeline f.place ≡ Some (boundary w n a.posts a.awaits) = f.at ∙ ap Some a.moment in
    let does = sound.awaited w f.place n p on a.posts a.awaits there lt a.awaited in
    let l = acts_in_front m on f.place + 0 in
    let post_is : act_at m on l ≡ Some (post w n) = act_of_moment m on f.place 0 (boundary w n a.posts a.awaits) (post w n) there (post_first w on f.place n a.posts a.awaits does.1) in
    elim (cases_Bool (nat_le n (slice_index (words_of s w) on))) [
      | inl possible ↦ can_go m s p (await w on n) lt next possible
      | inr waiting ↦
          waits (next_act m s on) refl does.0
          (λ stops. let done = passed_post m w on (slice_index s.positions on) l f.place n a.posts a.awaits sound there (omega arith) post_is stops in
          let enough = counter_reaches m w on (slice_index s.positions on) l n sound post_is done in
          absurd (omega (arith, enough, come.counters w on does.0, leb-false n (slice_index (words_of s w) on) waiting)))
          f.place
          (λ v o i e less'. unstuck m s sound come fuel v on o i does.0 e (omega (arith, less, less')))
    ]
  where
    waits : (act : Option Act) → next_act m s on ≡ act → on < m.workers →
        (((act_at m on (slice_index s.positions on) ≡ None) ⊎ ((v : Word) × (o : ℕ) × (i : ℕ) × (e : act_at m on (slice_index s.positions on) ≡ Some (await v o i)) × ((found m p (slice_index s.positions p) (await w on n) next).place ≤ (found m on (slice_index s.positions on) (await v o i) e).place))) → CanGo m s) →
        (t : ℕ) → ((v : Word) (o i : ℕ) → (e : next_act m s on ≡ Some (await v o i)) → (found m on (slice_index s.positions on) (await v o i) e).place < (found m p (slice_index s.positions p) (await w on n) next).place → CanGo m s) → CanGo m s
    waits None e below stopped t further = stopped (inl e)
    waits (Some (post v k)) e below stopped t further = can_go m s on (post v k) below e refl
    waits (Some (await v o i)) e below stopped t further =
        ⊎_elim (λ less. further v o i e less) (λ more. stopped (inr (v, o, i, e, more))) (cases_lt (found m on (slice_index s.positions on) (await v o i) e).place (found m p (slice_index s.positions p) (await w on n) next).place)
    waits (Some (load x c)) e below stopped t further = can_go m s on (load x c) below e refl
    waits (Some (store x c)) e below stopped t further = can_go m s on (store x c) below e refl
    waits (Some (add x c)) e below stopped t further = can_go m s on (add x c) below e refl
    waits (Some (print x)) e below stopped t further = can_go m s on (print x) below e refl

goes_on : (m : Machine) (s : State) → IsSound m → HasCome m s → (p : ℕ) (act : Act) → p < m.workers → next_act m s p ≡ Some act → CanGo m s
goes_on m s sound come p (post w n) lt next = can_go m s p (post w n) lt next refl
goes_on m s sound come p (await w on n) lt next = unstuck m s sound come (suc (found m p (slice_index s.positions p) (await w on n) next).place) w p on n lt next (omega arith)
goes_on m s sound come p (load t c) lt next = can_go m s p (load t c) lt next refl
goes_on m s sound come p (store t c) lt next = can_go m s p (store t c) lt next refl
goes_on m s sound come p (add t c) lt next = can_go m s p (add t c) lt next refl
goes_on m s sound come p (print t) lt next = can_go m s p (print t) lt next refl

-- the processors below n have ended, or one of all can go on
ended_below : (m : Machine) (s : State) → IsSound m → HasCome m s → (n : ℕ) → n ≤ m.workers → ((p : ℕ) → p < n → slice_index s.positions p ≡ length (acts_of m p)) ⊎ CanGo m s
ended_below m s sound come zero le = inl (λ p lt. absurd (omega (arith, lt)))
ended_below m s sound come (suc n) le = elim (ended_below m s sound come n (omega (arith, le))) [
  | inl ended ↦ elim (cases_eq (slice_index s.positions n) (length (acts_of m n))) [
    | inl here ↦ inl (λ p lt. elim (cases_eq p n) [
      | inl e ↦ subst (λ (k : ℕ). slice_index s.positions k ≡ length (acts_of m k)) (sym e) here
      | inr ne ↦ ended p (omega (arith, lt, ne))
    ])
    | inr ne ↦ let inside : slice_index s.positions n < length (acts_of m n) = omega (arith, ne, come.within n (omega (arith, le))) in
        inr (goes_on m s sound come n (get_or (acts_of m n) (slice_index s.positions n) (post counter 0)) (omega (arith, le)) (slice_get-get_or (acts_of m n) (slice_index s.positions n) (post counter 0) inside))
  ]
  | inr go ↦ inr go
]

pub ended_or_goes : (m : Machine) (s : State) → IsSound m → HasCome m s → IsEnded m s ⊎ CanGo m s
ended_or_goes m s sound come = ended_below m s sound come m.workers (omega arith)
