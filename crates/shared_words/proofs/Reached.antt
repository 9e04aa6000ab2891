-- Lawful places are come to by some schedule: of the processors that are behind their places, one can go on.
use Rattle.std.proofs.Common.{◌≡◌, ℕ, zero, suc, ◌+◌, ◌-◌, ◌<◌, ◌≤◌, ◌⊎◌, ℤ, pos, nat_le, List, [], ◌∷◌, ◌++◌, map, replicate, get_or, Option, Some, None, refl, ap, sym, subst, ◌∙◌, inl, inr, ⊎_elim, arith, if◌then◌else◌, zero-add, Bool, ◌&&◌}
use Rattle.std.specs.Prelude.{All, slice_get}
use Rattle.std.specs.List.{range_with_len}
use Rattle.std.proofs.lemmas.Bool.{cases_eq, cases_lt}
use Rattle.std.proofs.lemmas.List.{ext_get_or}
use Rattle.std.proofs.lemmas.List.Elements.{All-append, All-cons, All-nil}
use Rattle.std.proofs.lemmas.List.Sums.{fold-append}
use Rattle.std.proofs.lemmas.Option.{slice_get-get_or}
use Rattle.spmd_model.specs.Cells.{changed}
use Rattle.spmd_model.specs.Timelines.{Job, Machine, Moment, Word, counter, signal, boundary, job}
use Rattle.spmd_model.specs.Acts.{Act, post, await, load, store, add, print, act_at, acts_of}
use Rattle.spmd_model.specs.States.{first_state}
use Rattle.spmd_model.specs.Runs.{run_of, stepped}
use Rattle.spmd_model.specs.Sequential.{registers_at, stored_at, value_at}
use Rattle.spmd_model.specs.Ordered.{IsOrderedMachine, IsSound}
use Rattle.spmd_model.specs.Lawful.{IsLawful, acts_in_front, counter_at, is_done, last_value_from, last_value_where, printed_at, stores_to, put}
use Rattle.spmd_model.specs.Reached.{IsPossibleAt, memory_by, state_at}
use Rattle.spmd_model.proofs.ActLaws as law
use Rattle.spmd_model.proofs.ActLists.{act_of_moment, found}
use Rattle.spmd_model.proofs.MomentActs.{IsAwaitIn, post_first, tells}
use Rattle.spmd_model.proofs.StateAt.{first_at, stays_lawful, steps_to, same_state}
use Rattle.spmd_model.proofs.Unstuck.{passed_post}
use Rattle.spmd_model.proofs.LastValues.{stands_later}
use Rattle.spmd_model.proofs.Places.{put_moves}
use Rattle.shared_words.specs.Places.{total}
use Rattle.shared_words.proofs.Totals.{total_put}

-- ---- states at places that are alike

mapped_same : {X : Type 0} (f g : ℕ → X) (a n : ℕ) → ((q : ℕ) → a ≤ q → q < a + n → f q ≡ g q) → map f (range_with_len a n) ≡ map g (range_with_len a n)
mapped_same f g a zero same = refl
mapped_same f g a (suc n) same = ap (λ y. y ∷ map f (range_with_len (a + 1) n)) (same a (omega arith) (omega arith)) ∙ ap (λ l. g a ∷ l) (mapped_same f g (a + 1) n (λ q low high. same q (omega arith) (omega arith)))

-- what a cell holds, where the same jobs are done

abbrev StandsFrom : Machine → ℕ → List Moment → Type 0
StandsFrom m place xs = (k : ℕ) (x : Moment) → slice_get xs k ≡ Some x → slice_get m.timeline (place + k) ≡ Some x

same_value : (m : Machine) (cell : ℕ) (d e : ℕ → Job → Bool) (place : ℕ) (xs : List Moment) (v : ℤ) → ((u : ℕ) (k : Job) → slice_get m.timeline u ≡ Some (job k) → d u k ≡ e u k) → StandsFrom m place xs → last_value_from m d cell place xs v ≡ last_value_from m e cell place xs v
same_value m cell d e place [] v h stands = refl
same_value m cell d e place (boundary w n posts awaits ∷ rest) v h stands = same_value m cell d e (suc place) rest v h (stands_later m place (boundary w n posts awaits) rest stands)
same_value m cell d e place (job j ∷ rest) v h stands =
    let here : place ≡ place + 0 = omega arith in
    let same : d place j ≡ e place j = h place j (ap (slice_get m.timeline) here ∙ stands 0 (job j) refl) in
    ap (λ b. last_value_from m d cell (suc place) rest (if stores_to j.store cell && b then changed j.adds v (value_at m place) else v)) same
    ∙ same_value m cell d e (suc place) rest (if stores_to j.store cell && e place j then changed j.adds v (value_at m place) else v) h (stands_later m place (job j) rest stands)

same_last : (m : Machine) (cell : ℕ) (d e : ℕ → Job → Bool) → ((u : ℕ) (k : Job) → slice_get m.timeline u ≡ Some (job k) → d u k ≡ e u k) → last_value_where m d cell ≡ last_value_where m e cell
same_last m cell d e h = same_value m cell d e 0 m.timeline (pos 0) h (λ k x at. ap (slice_get m.timeline) (zero-add k) ∙ at)

module _ (m : Machine) (sound : IsSound m) (a : ℕ → ℕ) (cells : List ℤ) (l : IsLawful m cells a) where
  -- a processor that is behind its place and whose next act is possible
  abbrev Forward : (ℕ → ℕ) → Type 0
  Forward b = (p : ℕ) × (act : Act) × (p < m.workers) × (b p < a p) × (act_at m p (b p) ≡ Some act) × IsPossibleAt (acts_of m) b act

  forward : (b : ℕ → ℕ) (p : ℕ) (act : Act) → p < m.workers → b p < a p → act_at m p (b p) ≡ Some act → IsPossibleAt (acts_of m) b act → Forward b
  forward b p act lt less next possible = (p, act, lt, less, next, possible)

  -- of the awaits that stand next, the one at the foremost boundary waits for a processor that has its post there behind it, or whose next act is possible, or awaits at a boundary in front of that
  unstuck : (b : ℕ → ℕ) (fuel : ℕ) (w : Word) (p on n : ℕ) → p < m.workers → b p < a p → (next : act_at m p (b p) ≡ Some (await w on n)) → (found m p (b p) (await w on n) next).place < fuel → Forward b
  unstuck b zero w p on n lt less next within = absurd (omega (arith, within))
  unstuck b (suc fuel) w p on n lt less next within =
      let f = found m p (b p) (await w on n) next in
      let x : IsAwaitIn w p on n f.moment = tells p f.place f.index f.moment (await w on n) f.is in
      let there : slice_get m.timeline f.place ≡ Some (boundary w n x.posts x.awaits) = f.at ∙ ap Some x.moment in
      let does = sound.awaited w f.place n p on x.posts x.awaits there lt x.awaited in
      let k = acts_in_front m on f.place + 0 in
      let post_is : act_at m on k ≡ Some (post w n) = act_of_moment m on f.place 0 (boundary w n x.posts x.awaits) (post w n) there (post_first w on f.place n x.posts x.awaits does.1) in
      ⊎_elim
      (λ none. forward b p (await w on n) lt less next (inl none))
      (λ posted. ⊎_elim
      (λ done. forward b p (await w on n) lt less next (inr (posted.0, done, posted.2)))
      (λ ahead.
      waits (act_at m on (b on)) refl does.0 (omega (arith, ahead, posted.1))
      (λ stops. forward b p (await w on n) lt less next (inr (k, passed_post m w on (b on) k f.place n x.posts x.awaits sound there (omega arith) post_is stops, post_is)))
      (λ v o i e less'. unstuck b fuel v on o i does.0 (omega (arith, ahead, posted.1)) e (omega (arith, within, less'))))
      (cases_lt posted.0 (b on)))
      (l.awaited w p (b p) on n lt less next)
    where
      waits : (act : Option Act) → act_at m on (b on) ≡ act → on < m.workers → b on < a on →
          (((act_at m on (b on) ≡ None) ⊎ ((v : Word) × (o : ℕ) × (i : ℕ) × (e : act_at m on (b on) ≡ Some (await v o i)) × ((found m p (b p) (await w on n) next).place ≤ (found m on (b on) (await v o i) e).place))) → Forward b) →
          ((v : Word) (o i : ℕ) → (e : act_at m on (b on) ≡ Some (await v o i)) → (found m on (b on) (await v o i) e).place < (found m p (b p) (await w on n) next).place → Forward b) → Forward b
      waits None e below behind stopped further = stopped (inl e)
      waits (Some (post v k)) e below behind stopped further = forward b on (post v k) below behind e tt
      waits (Some (await v o i)) e below behind stopped further =
          ⊎_elim (λ front. further v o i e front) (λ more. stopped (inr (v, o, i, e, more))) (cases_lt (found m on (b on) (await v o i) e).place (found m p (b p) (await w on n) next).place)
      waits (Some (load x c)) e below behind stopped further = forward b on (load x c) below behind e tt
      waits (Some (store x c)) e below behind stopped further = forward b on (store x c) below behind e tt
      waits (Some (add x c)) e below behind stopped further = forward b on (add x c) below behind e tt
      waits (Some (print x)) e below behind stopped further = forward b on (print x) below behind e tt

  goes_on : (b : ℕ → ℕ) (p : ℕ) (act : Act) → p < m.workers → b p < a p → act_at m p (b p) ≡ Some act → Forward b
  goes_on b p (post w n) lt less next = forward b p (post w n) lt less next tt
  goes_on b p (await w on n) lt less next = unstuck b (suc (found m p (b p) (await w on n) next).place) w p on n lt less next (omega arith)
  goes_on b p (load t c) lt less next = forward b p (load t c) lt less next tt
  goes_on b p (store t c) lt less next = forward b p (store t c) lt less next tt
  goes_on b p (add t c) lt less next = forward b p (add t c) lt less next tt
  goes_on b p (print t) lt less next = forward b p (print t) lt less next tt

  -- the processors below n are at their places, or one of all can go on towards its place
  there_or_on : (b : ℕ → ℕ) → ((q : ℕ) → q < m.workers → b q ≤ a q) → (n : ℕ) → n ≤ m.workers → ((p : ℕ) → p < n → b p ≡ a p) ⊎ Forward b
  there_or_on b low zero le = inl (λ p lt. absurd (omega (arith, lt)))
  there_or_on b low (suc n) le = elim (there_or_on b low n (omega (arith, le))) [
    | inl there ↦ elim (cases_eq (b n) (a n)) [
      | inl here ↦ inl (λ p lt. elim (cases_eq p n) [
        | inl e ↦ subst (λ (k : ℕ). b k ≡ a k) (sym e) here
        | inr ne ↦ there p (omega (arith, lt, ne))
      ])
      | inr ne ↦
          let inside : n < m.workers = omega (arith, le) in
          let less : b n < a n = omega (arith, ne, low n inside) in
          inr (goes_on b n (get_or (acts_of m n) (b n) (post counter 0)) inside less (slice_get-get_or (acts_of m n) (b n) (post counter 0) (omega (arith, less, l.within n inside))))
    ]
    | inr on ↦ inr on
  ]

  module _ (ordered : IsOrderedMachine m) where
    -- a schedule leads to these places
    abbrev Leads : (ℕ → ℕ) → Type 0
    Leads b = (schedule : List ℕ) × (memory : List ℤ) × All (λ p. p < m.workers) schedule × (run_of m schedule ≡ state_at m memory b) × IsLawful m memory b

    abbrev Arrives : Type 0
    Arrives = (b : ℕ → ℕ) × Leads b × ((p : ℕ) → p < m.workers → b p ≡ a p)

    abbrev left : (ℕ → ℕ) → ℕ → ℕ
    left b q = a q - b q

    one_on : (b : ℕ → ℕ) → Leads b → (f : Forward b) → Leads (put b f.0 (b f.0 + 1))
    one_on b leads f =
        let p = f.0 in
        let act = f.1 in
        let moves = put_moves b p (b p + 1) in
        let more : run_of m (leads.0 ++ p ∷ []) ≡ stepped m (run_of m leads.0) p = fold-append (stepped m) (first_state m) leads.0 (p ∷ []) in (
          leads.0 ++ p ∷ [],
          memory_by leads.1 (stored_at m p (b p)) act,
          All-append (λ q. q < m.workers) leads.0 (p ∷ []) leads.2 (All-cons (λ q. q < m.workers) p [] f.2 (All-nil (λ q. q < m.workers))),
          more ∙ ap (λ s. stepped m s p) leads.3 ∙ steps_to m leads.1 b (put b p (b p + 1)) p f.2 moves sound ordered leads.4 act f.4 f.5,
          stays_lawful m leads.1 b (put b p (b p + 1)) p f.2 moves sound ordered leads.4 act f.4 f.5,
        )

    still_low : (b : ℕ → ℕ) → ((q : ℕ) → q < m.workers → b q ≤ a q) → (f : Forward b) → (q : ℕ) → q < m.workers → put b f.0 (b f.0 + 1) q ≤ a q
    still_low b low f q lt =
        let p = f.0 in
        let moves = put_moves b p (b p + 1) in
        elim (cases_eq q p) [
          | inl e ↦ let here : put b p (b p + 1) q ≡ b p + 1 = ap (put b p (b p + 1)) e ∙ moves.here in let place : a q ≡ a p = ap a e in omega (arith, here, place, f.3)
          | inr ne ↦ omega (arith, moves.others q ne, low q lt)
        ]

    nearer : (b : ℕ → ℕ) → (f : Forward b) → total (left (put b f.0 (b f.0 + 1))) m.workers + 1 ≡ total (left b) m.workers
    nearer b f =
        let p = f.0 in
        let moves = put_moves b p (b p + 1) in
        let put_one = total_put (left b) (left (put b p (b p + 1))) m.workers p f.2 (λ q ne. ap (λ n. a q - n) (moves.others q ne)) in
        omega (arith, put_one, moves.here, f.3)

    arrive : (fuel : ℕ) (b : ℕ → ℕ) → Leads b → ((q : ℕ) → q < m.workers → b q ≤ a q) → total (left b) m.workers < fuel → Arrives
    arrive zero b leads low within = absurd (omega (arith, within))
    arrive (suc fuel) b leads low within = elim (there_or_on b low m.workers (omega arith)) [
      | inl there ↦ (b, leads, there)
      | inr on ↦ arrive fuel (put b on.0 (b on.0 + 1)) (one_on b leads on) (still_low b low on) (omega (arith, within, nearer b on))
    ]

    at_first : Leads (λ q. 0)
    at_first = ([], replicate m.cells (pos 0), All-nil (λ q. q < m.workers), first_at m, law.first m (λ q. 0) sound (λ p lt. refl))

    -- memory is that of the places
    same_memory : (b : ℕ → ℕ) (memory : List ℤ) → IsLawful m memory b → ((p : ℕ) → p < m.workers → b p ≡ a p) → memory ≡ cells
    same_memory b memory lawful same = ext_get_or (pos 0) memory cells (lawful.size ∙ sym l.size) (λ c lt.
        let inside : c < m.cells = omega (arith, lt, lawful.size) in
        lawful.holds c inside ∙ same_last m c (is_done m b) (is_done m a) (λ u k at. ap (nat_le (acts_in_front m k.owner (suc u))) (same k.owner (sound.owned u k at))) ∙ sym (l.holds c inside))

    -- lawful places are those behind some schedule
    pub reached : 0 < m.workers → (schedule : List ℕ) × All (λ p. p < m.workers) schedule × (run_of m schedule ≡ state_at m cells a)
    reached some =
        let came = arrive (suc (total (left (λ q. 0)) m.workers)) (λ q. 0) at_first (λ q lt. omega arith) (omega arith) in
        let b = came.0 in
        let same = came.2 in (
          came.1.0,
          came.1.2,
          came.1.3 ∙ same_state
              (mapped_same b a 0 m.workers (λ q low high. same q (omega (arith, high))))
              (mapped_same (λ q. registers_at m q (b q)) (λ q. registers_at m q (a q)) 0 m.workers (λ q low high. ap (registers_at m q) (same q (omega (arith, high)))))
              (mapped_same (λ q. counter_at m counter q (b q)) (λ q. counter_at m counter q (a q)) 0 m.workers (λ q low high. ap (counter_at m counter q) (same q (omega (arith, high)))))
              (mapped_same (λ q. counter_at m signal q (b q)) (λ q. counter_at m signal q (a q)) 0 m.workers (λ q low high. ap (counter_at m signal q) (same q (omega (arith, high)))))
              (same_memory b came.1.1 came.1.4 same)
              (ap (printed_at m 0) (same 0 some)),
        )
