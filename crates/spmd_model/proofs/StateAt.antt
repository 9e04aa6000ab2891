-- Lawful memory is a state of the machine, and each act is one step of it.
use Rattle.std.proofs.Common.{◌≡◌, ◌≢◌, ℕ, zero, suc, ◌+◌, ◌<◌, ℤ, pos, true, cond, List, [], ◌∷◌, ◌++◌, map, set, replicate, Some, None, refl, ap, sym, subst, ◌∙◌, ⊎_elim, arith}
use Rattle.std.specs.Prelude.{slice_get, slice_index, slice_index_or, slice_set}
use Rattle.std.specs.List.{range_with_len}
use Rattle.std.proofs.lemmas.Bool.{cases_eq, le-leb}
use Rattle.std.proofs.lemmas.List.{append-nil}
use Rattle.nest_model.specs.Memory.{cell_value}
use Rattle.spmd_model.specs.Cells.{plus}
use Rattle.spmd_model.specs.Timelines.{Machine, Word, counter, signal}
use Rattle.spmd_model.specs.Acts.{Act, post, await, load, store, add, print, act_at, acts_of}
use Rattle.spmd_model.specs.States.{State, acted, assigned_by, first_state, is_possible, line_by, moved, next_act, registers_of, words_of}
use Rattle.spmd_model.specs.Runs.{stepped, stepped_by}
use Rattle.spmd_model.specs.Sequential.{registers_at, registers_behind, stored_at, stored_by}
use Rattle.spmd_model.specs.Ordered.{IsOrderedMachine, IsSound}
use Rattle.spmd_model.specs.Lawful.{IsLawful, Moves, act_line, counter_at, printed_at}
use Rattle.spmd_model.specs.Reached.{IsPossibleAt, memory_by, processors, state_at}
use Rattle.spmd_model.proofs.ActLists.{found}
use Rattle.spmd_model.proofs.MomentActs.{IsLastIn, tells}
use Rattle.spmd_model.proofs.Registers.{print_whole}
use Rattle.spmd_model.proofs.Counters.{awaited_post, counter_reaches}
use Rattle.spmd_model.proofs.Runs.{counter_more, printed_more, registers_more}
use Rattle.spmd_model.proofs.ActLaws as law

-- ---- lists by processor

mapped_at : {X : Type 0} (f : ℕ → X) (a n p : ℕ) (d : X) → p < n → slice_index_or (map f (range_with_len a n)) p d ≡ f (a + p)
mapped_at f a zero p d lt = absurd (omega (arith, lt))
mapped_at f a (suc n) zero d lt = let here : a ≡ a + 0 = omega arith in ap f here
mapped_at f a (suc n) (suc p) d lt = let next : a + 1 + p ≡ a + suc p = omega arith in mapped_at f (a + 1) n p d (omega (arith, lt)) ∙ ap f next

same_mapped : {X : Type 0} (f g : ℕ → X) (xs : List ℕ) → ((q : ℕ) → f q ≡ g q) → map f xs ≡ map g xs
same_mapped f g [] same = refl
same_mapped f g (x ∷ xs) same = ap (λ y. y ∷ map f xs) (same x) ∙ ap (λ l. g x ∷ l) (same_mapped f g xs same)

-- one more place of one element
set_mapped : {X : Type 0} (f g : ℕ → X) (a n p : ℕ) (v : X) → p < n → g (a + p) ≡ v → ((q : ℕ) → q ≢ a + p → f q ≡ g q) → set (map f (range_with_len a n)) p v ≡ map g (range_with_len a n)
set_mapped f g a zero p v lt here others = absurd (omega (arith, lt))
set_mapped f g a (suc n) zero v lt here others =
    let first : a + 0 ≡ a = omega arith in
    ap (λ l. v ∷ l) (rest_same (a + 1) n (omega arith)) ∙ ap (λ y. y ∷ map g (range_with_len (a + 1) n)) (sym here ∙ ap g first)
  where
    rest_same : (b k : ℕ) → a < b → map f (range_with_len b k) ≡ map g (range_with_len b k)
    rest_same b zero less = refl
    rest_same b (suc k) less = ap (λ y. y ∷ map f (range_with_len (b + 1) k)) (others b (λ e. omega (arith, e, less))) ∙ ap (λ l. g b ∷ l) (rest_same (b + 1) k (omega (arith, less)))
set_mapped f g a (suc n) (suc p) v lt here others =
    let next : a + suc p ≡ a + 1 + p = omega arith in
    ap (λ y. y ∷ set (map f (range_with_len (a + 1) n)) p v) (others a (λ e. omega (arith, e)))
    ∙ ap (λ l. g a ∷ l) (set_mapped f g (a + 1) n p v (omega (arith, lt)) (ap g (sym next) ∙ here) (λ q ne. others q (λ e. ne (e ∙ next))))

-- ---- where nothing is done

repeated : {X : Type 0} (f : ℕ → X) (x : X) (a n : ℕ) → ((q : ℕ) → f q ≡ x) → replicate n x ≡ map f (range_with_len a n)
repeated f x a zero same = refl
repeated f x a (suc n) same = ap (λ y. y ∷ replicate n x) (sym (same a)) ∙ ap (λ l. f a ∷ l) (repeated f x (a + 1) n same)

pub same_state : {a a' : List ℕ} {b b' : List (List ℤ)} {c c' d d' : List ℕ} {m m' : List ℤ} {o o' : List ℕ} → a ≡ a' → b ≡ b' → c ≡ c' → d ≡ d' → m ≡ m' → o ≡ o' →
    (let left : State = record { positions = a; registers = b; counters = c; signals = d; memory = m; output = o } in let right : State = record { positions = a'; registers = b'; counters = c'; signals = d'; memory = m'; output = o' } in left ≡ right)
same_state a b c d m o = cc

pub first_at : (m : Machine) → first_state m ≡ state_at m (replicate m.cells (pos 0)) (λ p. 0)
first_at m = same_state
    (repeated (λ q. 0) 0 0 m.workers (λ q. refl)) (repeated (λ q. registers_at m q 0) [] 0 m.workers (λ q. refl)) (repeated (λ q. counter_at m counter q 0) 0 0 m.workers (λ q. refl)) (repeated (λ q. counter_at m signal q 0) 0 0 m.workers (λ q. refl)) refl refl

-- ---- a step

module _ (m : Machine) (memory : List ℤ) (at after : ℕ → ℕ) (p : ℕ) (lt : p < m.workers) (moves : Moves at after p (at p + 1)) where
  abbrev here : State
  here = state_at m memory at

  -- what is listed by processor, behind an act of p
  changes : {X : Type 0} (f : ℕ → ℕ → X) (v : X) → f p (at p + 1) ≡ v → set (map (λ q. f q (at q)) (processors m)) p v ≡ map (λ q. f q (after q)) (processors m)
  changes f v is =
      let first : p ≡ 0 + p = omega arith in
      set_mapped (λ q. f q (at q)) (λ q. f q (after q)) 0 m.workers p v lt (ap (λ q. f q (after q)) (sym first) ∙ ap (f p) moves.here ∙ is) (λ q ne. ap (f q) (sym (moves.others q (λ e. ne (e ∙ first)))))

  stays : {X : Type 0} (f : ℕ → ℕ → X) → f p (at p + 1) ≡ f p (at p) → map (λ q. f q (at q)) (processors m) ≡ map (λ q. f q (after q)) (processors m)
  stays f is = same_mapped (λ q. f q (at q)) (λ q. f q (after q)) (processors m) (λ q. ⊎_elim (λ same. subst (λ k. f k (at k) ≡ f k (after k)) (sym same) (sym (ap (f p) moves.here ∙ is))) (λ ne. ap (f q) (sym (moves.others q ne))) (cases_eq q p))

  position_is : slice_index here.positions p ≡ at p
  position_is = let first : 0 + p ≡ p = omega arith in mapped_at at 0 m.workers p 0 lt ∙ ap at first

  registers_are : registers_of here p ≡ registers_at m p (at p)
  registers_are = let first : 0 + p ≡ p = omega arith in mapped_at (λ q. registers_at m q (at q)) 0 m.workers p [] lt ∙ ap (λ q. registers_at m q (at q)) first

  next_is : (a : Act) → act_at m p (at p) ≡ Some a → next_act m here p ≡ Some a
  next_is a e = ap (act_at m p) position_is ∙ e

  positions : set here.positions p (slice_index here.positions p + 1) ≡ (state_at m memory after).positions
  positions = changes (λ q n. n) (slice_index here.positions p + 1) (ap (λ n. n + 1) (sym position_is))

  printed : (a : Act) → act_at m p (at p) ≡ Some a → act_line m a ≡ [] → printed_at m 0 (at 0) ≡ printed_at m 0 (after 0)
  printed a e silent = ⊎_elim
      (λ same. subst (λ k. printed_at m k (at k) ≡ printed_at m k (after k)) same (sym (ap (printed_at m p) moves.here ∙ printed_more m p (at p) a e ∙ ap (λ l. printed_at m p (at p) ++ l) silent ∙ append-nil (printed_at m p (at p)))))
      (λ ne. ap (printed_at m 0) (sym (moves.others 0 (λ e. ne (sym e))))) (cases_eq p 0)

  module _ (sound : IsSound m) (ordered : IsOrderedMachine m) (lawful : IsLawful m memory at) where
    does : (a : Act) → act_at m p (at p) ≡ Some a → moved (acted m here p a) p ≡ state_at m (memory_by memory (stored_at m p (at p)) a) after
    does (post counter n) e = same_state positions (stays (registers_at m) (registers_more m p (at p) (post counter n) e)) (changes (counter_at m counter) n (counter_more m counter p (at p) (post counter n) e)) (stays (counter_at m signal) (counter_more m signal p (at p) (post counter n) e)) refl
        (printed (post counter n) e refl)
    does (post signal n) e = same_state positions (stays (registers_at m) (registers_more m p (at p) (post signal n) e)) (stays (counter_at m counter) (counter_more m counter p (at p) (post signal n) e)) (changes (counter_at m signal) n (counter_more m signal p (at p) (post signal n) e)) refl
        (printed (post signal n) e refl)
    does (await w q n) e = same_state positions (stays (registers_at m) (registers_more m p (at p) (await w q n) e)) (stays (counter_at m counter) (counter_more m counter p (at p) (await w q n) e)) (stays (counter_at m signal) (counter_more m signal p (at p) (await w q n) e)) refl
        (printed (await w q n) e refl)
    does (load t c) e =
        let given : registers_behind m (registers_at m p (at p)) (load t c) ≡ registers_of here p ++ cell_value memory c ∷ [] =
        ap (λ v. registers_at m p (at p) ++ v ∷ []) (sym (law.gives m memory at p t c sound ordered lawful e)) ∙ ap (λ l. l ++ cell_value memory c ∷ []) (sym registers_are) in
        same_state positions (changes (registers_at m) (registers_of here p ++ cell_value memory c ∷ []) (registers_more m p (at p) (load t c) e ∙ given)) (stays (counter_at m counter) (counter_more m counter p (at p) (load t c) e)) (stays (counter_at m signal) (counter_more m signal p (at p) (load t c) e)) refl
        (printed (load t c) e refl)
    does (store t c) e = same_state positions (changes (registers_at m) [] (registers_more m p (at p) (store t c) e)) (stays (counter_at m counter) (counter_more m counter p (at p) (store t c) e)) (stays (counter_at m signal) (counter_more m signal p (at p) (store t c) e))
        (ap (slice_set memory c) (value t c e)) (printed (store t c) e refl)
      where
        value : (t c : ℕ) → act_at m p (at p) ≡ Some (store t c) → assigned_by (slice_get m.timeline t) (registers_of here p) ≡ stored_at m p (at p)
        value t c e = ap (assigned_by (slice_get m.timeline t)) registers_are ∙ sym (ap (stored_by m (registers_at m p (at p))) e)
    does (add t c) e = same_state positions (changes (registers_at m) [] (registers_more m p (at p) (add t c) e)) (stays (counter_at m counter) (counter_more m counter p (at p) (add t c) e)) (stays (counter_at m signal) (counter_more m signal p (at p) (add t c) e))
        (ap (λ v. slice_set memory c (plus (cell_value memory c) v)) (value t c e)) (printed (add t c) e refl)
      where
        value : (t c : ℕ) → act_at m p (at p) ≡ Some (add t c) → assigned_by (slice_get m.timeline t) (registers_of here p) ≡ stored_at m p (at p)
        value t c e = ap (assigned_by (slice_get m.timeline t)) registers_are ∙ sym (ap (stored_by m (registers_at m p (at p))) e)
    does (print t) e =
        let f = found m p (at p) (print t) e in
        let l : IsLastIn p f.place f.index t None f.moment = tells p f.place f.index f.moment (print t) f.is in
        let zero_is : p ≡ 0 = sym l.owner ∙ sound.printed f.place l.job_is (f.at ∙ ap Some l.moment) l.stores in
        let line : line_by (slice_get m.timeline t) (registers_of here p) ≡ act_line m (print t) = ap (line_by (slice_get m.timeline t)) (registers_are ∙ print_whole m p (at p) t e) in
        same_state positions (changes (registers_at m) [] (registers_more m p (at p) (print t) e)) (stays (counter_at m counter) (counter_more m counter p (at p) (print t) e)) (stays (counter_at m signal) (counter_more m signal p (at p) (print t) e)) refl
        (ap (λ l. printed_at m 0 (at 0) ++ l) line ∙ subst (λ k. printed_at m k (at k) ++ act_line m (print t) ≡ printed_at m k (after k)) zero_is (sym (ap (printed_at m p) moves.here ∙ printed_more m p (at p) (print t) e)))

    -- an act that is possible at these places is possible in the state
    can : (a : Act) → act_at m p (at p) ≡ Some a → IsPossibleAt (acts_of m) at a → is_possible here a ≡ true
    can (post w n) e possible = refl
    can (await w q n) e possible =
        let below = (awaited_post m w p (at p) q n sound lt e).0 in
        let shows : slice_index (words_of here w) q ≡ counter_at m w q (at q) = word_is w q below in
        le-leb n (slice_index (words_of here w) q) (⊎_elim (λ none. omega (arith, none)) (λ h. omega (arith, shows, counter_reaches m w q (at q) h.0 n sound h.2 h.1)) possible)
      where
        word_is : (w : Word) (q : ℕ) → q < m.workers → slice_index (words_of here w) q ≡ counter_at m w q (at q)
        word_is counter q below = let first : 0 + q ≡ q = omega arith in mapped_at (λ r. counter_at m counter r (at r)) 0 m.workers q 0 below ∙ ap (λ r. counter_at m counter r (at r)) first
        word_is signal q below = let first : 0 + q ≡ q = omega arith in mapped_at (λ r. counter_at m signal r (at r)) 0 m.workers q 0 below ∙ ap (λ r. counter_at m signal r (at r)) first
    can (load t c) e possible = refl
    can (store t c) e possible = refl
    can (add t c) e possible = refl
    can (print t) e possible = refl

    pub steps_to : (a : Act) → act_at m p (at p) ≡ Some a → IsPossibleAt (acts_of m) at a → stepped m here p ≡ state_at m (memory_by memory (stored_at m p (at p)) a) after
    steps_to a e possible =
        ap (stepped_by m here p) (next_is a e) ∙ ap (λ b. cond b (moved (acted m here p a) p) here) (can a e possible) ∙ does a e

    -- and memory behind it is lawful
    pub stays_lawful : (a : Act) → act_at m p (at p) ≡ Some a → IsPossibleAt (acts_of m) at a → IsLawful m (memory_by memory (stored_at m p (at p)) a) after
    stays_lawful (post w n) e possible = law.by_post m memory at after w p n lt lawful e moves
    stays_lawful (await w q n) e possible = law.by_await m memory at after w p q n lt lawful e possible moves
    stays_lawful (load t c) e possible = law.by_load m memory at after p t c lt lawful e moves
    stays_lawful (store t c) e possible = law.by_store m memory at after p t c lt sound ordered lawful e moves
    stays_lawful (add t c) e possible = law.by_add m memory at after p t c lt sound ordered lawful e moves
    stays_lawful (print t) e possible = law.by_print m memory at after p t lt lawful e moves
