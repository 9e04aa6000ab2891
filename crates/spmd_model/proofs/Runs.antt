-- Every state that a run comes to.
use Rattle.std.proofs.Common.{◌≡◌, ◌≢◌, ℕ, suc, ◌+◌, ◌<◌, ◌≤◌, ◌⊎◌, Bool, true, false, cond, List, [], ◌∷◌, ◌++◌, length, take, set, fold, replicate, Option, Some, None, refl, ap, sym, subst, ◌∙◌, inl, inr, ⊎_elim, arith}
use Rattle.std.specs.Prelude.{slice_get, slice_index, slice_set}
use Rattle.std.specs.List.{All, flat_map}
use Rattle.std.proofs.lemmas.Bool.{cases_Bool, cases_eq, cases_lt, leb-true}
use Rattle.std.proofs.lemmas.List.{append-nil, get_or-replicate, get_or-set_other, get_or-set_same, get_or_past, length-replicate, length-set}
use Rattle.std.proofs.lemmas.List.Elements.{All-head, All-tail}
use Rattle.std.proofs.lemmas.Grind.{flat_map-append}
use Rattle.std.proofs.lemmas.List.Sums.{fold-append}
use Rattle.nest_model.specs.Memory.{cell_value}
use Rattle.spmd_model.specs.Cells.{plus}
use Rattle.spmd_model.specs.Timelines.{Machine, Word, counter, signal}
use Rattle.spmd_model.specs.Acts.{Act, post, await, load, store, add, print, act_at, acts_of}
use Rattle.spmd_model.specs.States.{State, acted, assigned_by, first_state, is_possible, line_by, moved, next_act, registers_of, words_of}
use Rattle.spmd_model.specs.Runs.{run_of, stepped, stepped_by}
use Rattle.spmd_model.specs.Sequential.{registers_at, registers_behind, stored_at, stored_by}
use Rattle.spmd_model.specs.Ordered.{IsOrderedMachine, IsSound}
use Rattle.spmd_model.specs.Lawful.{IsLawful, IsPosted, Moves, act_line, counted, counter_at, printed_at}
use Rattle.spmd_model.specs.Reached.{HasCome, IsSequential, positions_of}
use Rattle.spmd_model.proofs.Lists.{take-more}
use Rattle.spmd_model.proofs.ActLists.{found}
use Rattle.spmd_model.proofs.MomentActs.{IsLastIn, tells}
use Rattle.spmd_model.proofs.Registers.{print_whole}
use Rattle.spmd_model.proofs.Keeps.{within_acts}
use Rattle.spmd_model.proofs.Counters.{awaited_post, posted}
use Rattle.spmd_model.proofs.ActLaws as law

-- ---- one more act

pub counter_more : (m : Machine) (w : Word) (p n : ℕ) (a : Act) → act_at m p n ≡ Some a → counter_at m w p (n + 1) ≡ counted w (counter_at m w p n) a
counter_more m w p n a e =
    let one : n + 1 ≡ suc n = omega arith in
    ap (counter_at m w p) one ∙ ap (fold (counted w) 0) (take-more (acts_of m p) n a e) ∙ fold-append (counted w) 0 (take n (acts_of m p)) (a ∷ [])

pub registers_more : (m : Machine) (p n : ℕ) (a : Act) → act_at m p n ≡ Some a → registers_at m p (n + 1) ≡ registers_behind m (registers_at m p n) a
registers_more m p n a e =
    let one : n + 1 ≡ suc n = omega arith in
    ap (registers_at m p) one ∙ ap (fold (registers_behind m) []) (take-more (acts_of m p) n a e) ∙ fold-append (registers_behind m) [] (take n (acts_of m p)) (a ∷ [])

pub printed_more : (m : Machine) (p n : ℕ) (a : Act) → act_at m p n ≡ Some a → printed_at m p (n + 1) ≡ printed_at m p n ++ act_line m a
printed_more m p n a e =
    let one : n + 1 ≡ suc n = omega arith in
    ap (printed_at m p) one ∙ ap (flat_map (act_line m)) (take-more (acts_of m p) n a e) ∙ flat_map-append (act_line m) (take n (acts_of m p)) (a ∷ []) ∙ ap (λ l. printed_at m p n ++ l) (append-nil (act_line m a))

-- ---- how far the processors have come

pub come_first : (m : Machine) → HasCome m (first_state m)
come_first m = record {
  count = length-replicate m.workers 0;
  as_many = λ w. many w;
  within = λ p lt. let none : slice_index (replicate m.workers 0) p ≡ 0 = get_or-replicate m.workers p 0 0 lt in omega (arith, none);
  counters = λ w p lt. let none : slice_index (replicate m.workers 0) p ≡ 0 = get_or-replicate m.workers p 0 0 lt in zero_at w p lt ∙ sym (ap (counter_at m w p) none);
}
  where
    many : (w : Word) → length (words_of (first_state m) w) ≡ m.workers
    many counter = length-replicate m.workers 0
    many signal = length-replicate m.workers 0

    zero_at : (w : Word) (p : ℕ) → p < m.workers → slice_index (words_of (first_state m) w) p ≡ 0
    zero_at counter p lt = get_or-replicate m.workers p 0 0 lt
    zero_at signal p lt = get_or-replicate m.workers p 0 0 lt

come_moved : (m : Machine) (s after : State) (p : ℕ) (a : Act) → p < m.workers → HasCome m s → next_act m s p ≡ Some a → after.positions ≡ set s.positions p (slice_index s.positions p + 1) → ((w : Word) → length (words_of after w) ≡ m.workers) →
    ((w : Word) → slice_index (words_of after w) p ≡ counted w (slice_index (words_of s w) p) a) → ((w : Word) (q : ℕ) → q ≢ p → slice_index (words_of after w) q ≡ slice_index (words_of s w) q) → HasCome m after
come_moved m s after p a lt come next moves count here others =
    let at : p < length s.positions = omega (arith, come.count, lt) in
    let mine : slice_index after.positions p ≡ slice_index s.positions p + 1 = ap (λ l. slice_index l p) moves ∙ get_or-set_same s.positions p (slice_index s.positions p + 1) 0 at in
    let theirs : (q : ℕ) → q ≢ p → slice_index after.positions q ≡ slice_index s.positions q = λ q ne. ap (λ l. slice_index l q) moves ∙ get_or-set_other s.positions p q (slice_index s.positions p + 1) 0 ne in
    record {
      count = ap length moves ∙ length-set s.positions p (slice_index s.positions p + 1) ∙ come.count;
      as_many = count;
      within = λ q below. elim (cases_eq q p) [
        | inl e ↦ subst (λ k. slice_index after.positions k ≤ length (acts_of m k)) (sym e) (omega (arith, mine, within_acts m p (slice_index s.positions p) a next))
        | inr ne ↦ omega (arith, theirs q ne, come.within q below)
      ];
      counters = λ w q below. elim (cases_eq q p) [
        | inl e ↦ subst (λ k. slice_index (words_of after w) k ≡ counter_at m w k (slice_index after.positions k)) (sym e)
            (here w ∙ ap (λ k. counted w k a) (come.counters w p lt) ∙ sym (counter_more m w p (slice_index s.positions p) a next) ∙ ap (counter_at m w p) (sym mine))
        | inr ne ↦ others w q ne ∙ come.counters w q below ∙ ap (counter_at m w q) (sym (theirs q ne))
      ];
    }

same_words : (s t : State) → t.counters ≡ s.counters → t.signals ≡ s.signals → (w : Word) → words_of t w ≡ words_of s w
same_words s t c g counter = c
same_words s t c g signal = g

-- an act that posts nothing
come_stays : (m : Machine) (s after : State) (p : ℕ) (a : Act) → p < m.workers → HasCome m s → next_act m s p ≡ Some a → after.positions ≡ set s.positions p (slice_index s.positions p + 1) → after.counters ≡ s.counters → after.signals ≡ s.signals →
    ((w : Word) (n : ℕ) → counted w n a ≡ n) → HasCome m after
come_stays m s after p a lt come next moves counters signals none =
    let same = same_words s after counters signals in
    come_moved m s after p a lt come next moves (λ w. ap length (same w) ∙ come.as_many w) (λ w. ap (λ l. slice_index l p) (same w) ∙ sym (none w (slice_index (words_of s w) p))) (λ w q ne. ap (λ l. slice_index l q) (same w))

come_act : (m : Machine) (s : State) (p : ℕ) (a : Act) → p < m.workers → HasCome m s → next_act m s p ≡ Some a → HasCome m (moved (acted m s p a) p)
come_act m s p (post counter n) lt come next =
    let at : p < length s.counters = omega (arith, come.as_many counter, lt) in
    come_moved m s (moved (acted m s p (post counter n)) p) p (post counter n) lt come next refl many (here at) others
  where
    many : (w : Word) → length (words_of (moved (acted m s p (post counter n)) p) w) ≡ m.workers
    many counter = length-set s.counters p n ∙ come.as_many counter
    many signal = come.as_many signal

    here : p < length s.counters → (w : Word) → slice_index (words_of (moved (acted m s p (post counter n)) p) w) p ≡ counted w (slice_index (words_of s w) p) (post counter n)
    here at counter = get_or-set_same s.counters p n 0 at
    here at signal = refl

    others : (w : Word) (q : ℕ) → q ≢ p → slice_index (words_of (moved (acted m s p (post counter n)) p) w) q ≡ slice_index (words_of s w) q
    others counter q ne = get_or-set_other s.counters p q n 0 ne
    others signal q ne = refl
come_act m s p (post signal n) lt come next =
    let at : p < length s.signals = omega (arith, come.as_many signal, lt) in
    come_moved m s (moved (acted m s p (post signal n)) p) p (post signal n) lt come next refl many (here at) others
  where
    many : (w : Word) → length (words_of (moved (acted m s p (post signal n)) p) w) ≡ m.workers
    many signal = length-set s.signals p n ∙ come.as_many signal
    many counter = come.as_many counter

    here : p < length s.signals → (w : Word) → slice_index (words_of (moved (acted m s p (post signal n)) p) w) p ≡ counted w (slice_index (words_of s w) p) (post signal n)
    here at signal = get_or-set_same s.signals p n 0 at
    here at counter = refl

    others : (w : Word) (q : ℕ) → q ≢ p → slice_index (words_of (moved (acted m s p (post signal n)) p) w) q ≡ slice_index (words_of s w) q
    others signal q ne = get_or-set_other s.signals p q n 0 ne
    others counter q ne = refl
come_act m s p (await v on n) lt come next = come_stays m s (moved (acted m s p (await v on n)) p) p (await v on n) lt come next refl refl refl (λ w k. refl)
come_act m s p (load t c) lt come next = come_stays m s (moved (acted m s p (load t c)) p) p (load t c) lt come next refl refl refl (λ w k. refl)
come_act m s p (store t c) lt come next = come_stays m s (moved (acted m s p (store t c)) p) p (store t c) lt come next refl refl refl (λ w k. refl)
come_act m s p (add t c) lt come next = come_stays m s (moved (acted m s p (add t c)) p) p (add t c) lt come next refl refl refl (λ w k. refl)
come_act m s p (print t) lt come next = come_stays m s (moved (acted m s p (print t)) p) p (print t) lt come next refl refl refl (λ w k. refl)

come_by : (m : Machine) (s : State) (p : ℕ) (o : Option Act) → p < m.workers → HasCome m s → next_act m s p ≡ o → HasCome m (stepped_by m s p o)
come_by m s p None lt come next = come
come_by m s p (Some a) lt come next = either (is_possible s a) (moved (acted m s p a) p) (come_act m s p a lt come next)
  where
    either : (b : Bool) (t : State) → HasCome m t → HasCome m (cond b t s)
    either true t h = h
    either false t h = come

pub come_stepped : (m : Machine) (s : State) (p : ℕ) → p < m.workers → HasCome m s → HasCome m (stepped m s p)
come_stepped m s p lt come = come_by m s p (next_act m s p) lt come refl

-- ---- memory, registers and output

pub sequential_first : (m : Machine) → IsSound m → IsSequential m (first_state m)
sequential_first m sound =
    let none : (p : ℕ) → slice_index (replicate m.workers 0) p ≡ 0 = λ p. ⊎_elim (λ lt. get_or-replicate m.workers p 0 0 lt) (λ le. let zeros : List ℕ = replicate m.workers 0 in let count : length zeros ≡ m.workers = length-replicate m.workers 0 in get_or_past zeros p 0 (omega (arith, count, le))) (cases_lt p m.workers) in
    record {
      lawful = law.first m (positions_of (first_state m)) sound (λ p lt. none p);
      as_many = length-replicate m.workers [];
      registers = λ p lt. get_or-replicate m.workers p [] [] lt ∙ sym (ap (registers_at m p) (none p));
      output = sym (ap (printed_at m 0) (none 0));
    }

-- a state behind an act of p, where p's registers and output are those behind it
sequential_moved : (m : Machine) (s after : State) (p : ℕ) (a : Act) → p < m.workers → HasCome m s → IsSequential m s → next_act m s p ≡ Some a → after.positions ≡ set s.positions p (slice_index s.positions p + 1) →
    (Moves (positions_of s) (positions_of after) p (positions_of s p + 1) → IsLawful m after.memory (positions_of after)) → length after.registers ≡ m.workers → registers_of after p ≡ registers_behind m (registers_at m p (positions_of s p)) a →
    ((q : ℕ) → q ≢ p → registers_of after q ≡ registers_of s q) → after.output ≡ s.output ++ act_line m a → ((p ≢ 0) → act_line m a ≡ []) → IsSequential m after
sequential_moved m s after p a lt come seq next moves lawful count here others output silent =
    let at : p < length s.positions = omega (arith, come.count, lt) in
    let mine : slice_index after.positions p ≡ slice_index s.positions p + 1 = ap (λ l. slice_index l p) moves ∙ get_or-set_same s.positions p (slice_index s.positions p + 1) 0 at in
    let theirs : (q : ℕ) → q ≢ p → slice_index after.positions q ≡ slice_index s.positions q = λ q ne. ap (λ l. slice_index l q) moves ∙ get_or-set_other s.positions p q (slice_index s.positions p + 1) 0 ne in
    record {
      lawful = lawful (record { here = mine; others = theirs });
      as_many = count;
      registers = λ q below. elim (cases_eq q p) [
        | inl e ↦ subst (λ k. registers_of after k ≡ registers_at m k (slice_index after.positions k)) (sym e) (here ∙ sym (registers_more m p (slice_index s.positions p) a next) ∙ ap (registers_at m p) (sym mine))
        | inr ne ↦ others q ne ∙ seq.registers q below ∙ ap (registers_at m q) (sym (theirs q ne))
      ];
      output = elim (cases_eq p 0) [
        | inl e ↦ output ∙ ap (λ l. l ++ act_line m a) seq.output ∙ subst (λ k. printed_at m 0 (slice_index s.positions 0) ++ act_line m a ≡ printed_at m 0 (slice_index after.positions 0)) e
            (by_zero e (subst (λ k. next_act m s k ≡ Some a) e next) (subst (λ k. slice_index after.positions k ≡ slice_index s.positions k + 1) e mine))
        | inr ne ↦ output ∙ ap (λ l. s.output ++ l) (silent ne) ∙ append-nil s.output ∙ seq.output ∙ ap (printed_at m 0) (sym (theirs 0 (λ e. ne (sym e))))
      ];
    }
  where
    by_zero : p ≡ 0 → next_act m s 0 ≡ Some a → slice_index after.positions 0 ≡ slice_index s.positions 0 + 1 → printed_at m 0 (slice_index s.positions 0) ++ act_line m a ≡ printed_at m 0 (slice_index after.positions 0)
    by_zero e first more = sym (ap (printed_at m 0) more ∙ printed_more m 0 (slice_index s.positions 0) a first)

sequential_act : (m : Machine) (s : State) (p : ℕ) (a : Act) → p < m.workers → IsSound m → IsOrderedMachine m → HasCome m s → IsSequential m s → next_act m s p ≡ Some a → is_possible s a ≡ true → IsSequential m (moved (acted m s p a) p)
sequential_act m s p (post counter n) lt sound ordered come seq next possible =
    let after = moved (acted m s p (post counter n)) p in
    sequential_moved m s after p (post counter n) lt come seq next refl (λ moves. law.by_post m s.memory (positions_of s) (positions_of after) counter p n lt seq.lawful next moves) seq.as_many (seq.registers p lt) (λ q ne. refl) (sym (append-nil s.output)) (λ ne. refl)
sequential_act m s p (post signal n) lt sound ordered come seq next possible =
    let after = moved (acted m s p (post signal n)) p in
    sequential_moved m s after p (post signal n) lt come seq next refl (λ moves. law.by_post m s.memory (positions_of s) (positions_of after) signal p n lt seq.lawful next moves) seq.as_many (seq.registers p lt) (λ q ne. refl) (sym (append-nil s.output)) (λ ne. refl)
sequential_act m s p (await w on n) lt sound ordered come seq next possible =
    let after = moved (acted m s p (await w on n)) p in
    let enough : n ≤ slice_index (words_of s w) on = leb-true n (slice_index (words_of s w) on) possible in
    sequential_moved m s after p (await w on n) lt come seq next refl
    (λ moves. law.by_await m s.memory (positions_of s) (positions_of after) w p on n lt seq.lawful next (is_posted enough) moves) seq.as_many (seq.registers p lt) (λ q ne. refl) (sym (append-nil s.output)) (λ ne. refl)
  where
    is_posted : n ≤ slice_index (words_of s w) on → (n ≡ 0) ⊎ IsPosted (acts_of m on) w n (positions_of s on)
    is_posted enough =
        let below = (awaited_post m w p (positions_of s p) on n sound lt next).0 in
        (posted m w p (positions_of s p) on n (positions_of s on) sound lt next (omega (arith, enough, come.counters w on below))).1
sequential_act m s p (load t c) lt sound ordered come seq next possible =
    let after = moved (acted m s p (load t c)) p in
    let given = registers_of s p ++ cell_value s.memory c ∷ [] in
    sequential_moved m s after p (load t c) lt come seq next refl (λ moves. law.by_load m s.memory (positions_of s) (positions_of after) p t c lt seq.lawful next moves) (length-set s.registers p given ∙ seq.as_many)
    (get_or-set_same s.registers p given [] (omega (arith, seq.as_many, lt)) ∙ ap (λ l. l ++ cell_value s.memory c ∷ []) (seq.registers p lt) ∙ ap (λ v. registers_at m p (positions_of s p) ++ v ∷ []) (law.gives m s.memory (positions_of s) p t c sound ordered seq.lawful next))
    (λ q ne. get_or-set_other s.registers p q given [] ne) (sym (append-nil s.output)) (λ ne. refl)
sequential_act m s p (store t c) lt sound ordered come seq next possible =
    let after = moved (acted m s p (store t c)) p in
    let value : assigned_by (slice_get m.timeline t) (registers_of s p) ≡ stored_at m p (positions_of s p) = ap (assigned_by (slice_get m.timeline t)) (seq.registers p lt) ∙ sym (ap (stored_by m (registers_at m p (positions_of s p))) next) in
    sequential_moved m s after p (store t c) lt come seq next refl
    (λ moves. subst (λ v. IsLawful m (slice_set s.memory c v) (positions_of after)) (sym value) (law.by_store m s.memory (positions_of s) (positions_of after) p t c lt sound ordered seq.lawful next moves)) (length-set s.registers p [] ∙ seq.as_many)
    (get_or-set_same s.registers p [] [] (omega (arith, seq.as_many, lt))) (λ q ne. get_or-set_other s.registers p q [] [] ne) (sym (append-nil s.output)) (λ ne. refl)
sequential_act m s p (add t c) lt sound ordered come seq next possible =
    let after = moved (acted m s p (add t c)) p in
    let value : assigned_by (slice_get m.timeline t) (registers_of s p) ≡ stored_at m p (positions_of s p) = ap (assigned_by (slice_get m.timeline t)) (seq.registers p lt) ∙ sym (ap (stored_by m (registers_at m p (positions_of s p))) next) in
    sequential_moved m s after p (add t c) lt come seq next refl
    (λ moves. subst (λ v. IsLawful m (slice_set s.memory c (plus (cell_value s.memory c) v)) (positions_of after)) (sym value) (law.by_add m s.memory (positions_of s) (positions_of after) p t c lt sound ordered seq.lawful next moves)) (length-set s.registers p [] ∙ seq.as_many)
    (get_or-set_same s.registers p [] [] (omega (arith, seq.as_many, lt))) (λ q ne. get_or-set_other s.registers p q [] [] ne) (sym (append-nil s.output)) (λ ne. refl)
sequential_act m s p (print t) lt sound ordered come seq next possible =
    let after = moved (acted m s p (print t)) p in
    let f = found m p (positions_of s p) (print t) next in
    let l : IsLastIn p f.place f.index t None f.moment = tells p f.place f.index f.moment (print t) f.is in
    let zero_is : p ≡ 0 = sym l.owner ∙ sound.printed f.place l.job_is (f.at ∙ ap Some l.moment) l.stores in
    sequential_moved m s after p (print t) lt come seq next refl (λ moves. law.by_print m s.memory (positions_of s) (positions_of after) p t lt seq.lawful next moves) (length-set s.registers p [] ∙ seq.as_many)
    (get_or-set_same s.registers p [] [] (omega (arith, seq.as_many, lt))) (λ q ne. get_or-set_other s.registers p q [] [] ne)
    (ap (λ g. s.output ++ line_by (slice_get m.timeline t) g) (seq.registers p lt ∙ print_whole m p (positions_of s p) t next)) (λ ne. absurd (ne zero_is))

sequential_by : (m : Machine) (s : State) (p : ℕ) (o : Option Act) → p < m.workers → IsSound m → IsOrderedMachine m → HasCome m s → IsSequential m s → next_act m s p ≡ o → IsSequential m (stepped_by m s p o)
sequential_by m s p None lt sound ordered come seq next = seq
sequential_by m s p (Some a) lt sound ordered come seq next = elim (cases_Bool (is_possible s a)) [
  | inl possible ↦ subst (λ b. IsSequential m (cond b (moved (acted m s p a) p) s)) (sym possible) (sequential_act m s p a lt sound ordered come seq next possible)
  | inr not_yet ↦ subst (λ b. IsSequential m (cond b (moved (acted m s p a) p) s)) (sym not_yet) seq
]

pub sequential_stepped : (m : Machine) (s : State) (p : ℕ) → p < m.workers → IsSound m → IsOrderedMachine m → HasCome m s → IsSequential m s → IsSequential m (stepped m s p)
sequential_stepped m s p lt sound ordered come seq = sequential_by m s p (next_act m s p) lt sound ordered come seq refl

-- ---- schedules

pub come_folded : (m : Machine) (s : State) (schedule : List ℕ) → HasCome m s → All (λ p. p < m.workers) schedule → HasCome m (fold (stepped m) s schedule)
come_folded m s [] come all = come
come_folded m s (p ∷ rest) come all =
    come_folded m (stepped m s p) rest (come_stepped m s p (All-head (λ p. p < m.workers) p rest all) come) (All-tail (λ p. p < m.workers) p rest all)

pub come_run : (m : Machine) (schedule : List ℕ) → All (λ p. p < m.workers) schedule → HasCome m (run_of m schedule)
come_run m schedule all = come_folded m (first_state m) schedule (come_first m) all

sequential_folded : (m : Machine) (s : State) (schedule : List ℕ) → IsSound m → IsOrderedMachine m → HasCome m s → IsSequential m s → All (λ p. p < m.workers) schedule → IsSequential m (fold (stepped m) s schedule)
sequential_folded m s [] sound ordered come seq all = seq
sequential_folded m s (p ∷ rest) sound ordered come seq all =
    let lt = All-head (λ p. p < m.workers) p rest all in
    sequential_folded m (stepped m s p) rest sound ordered (come_stepped m s p lt come) (sequential_stepped m s p lt sound ordered come seq) (All-tail (λ p. p < m.workers) p rest all)

pub sequential_run : (m : Machine) (schedule : List ℕ) → IsSound m → IsOrderedMachine m → All (λ p. p < m.workers) schedule → IsSequential m (run_of m schedule)
sequential_run m schedule sound ordered all = sequential_folded m (first_state m) schedule sound ordered (come_first m) (sequential_first m sound) all
