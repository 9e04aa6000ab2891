-- Runs by turns are runs, and in front of each turn no quiet act stands next.
use Rattle.std.proofs.Common.{◌≡◌, ◌≢◌, ℕ, zero, suc, ◌+◌, ◌<◌, ◌≤◌, Bool, true, false, true≢false, cond, List, [], ◌∷◌, ◌++◌, length, drop, fold, replicate, Option, Some, None, refl, ap, sym, subst, ◌∙◌, inl, inr, arith, if◌then◌else◌}
use Rattle.std.specs.Prelude.{slice_index}
use Rattle.std.specs.List.{All, range_with_len}
use Rattle.std.proofs.lemmas.Bool.{cases_eq}
use Rattle.std.proofs.lemmas.List.{get_or-set_other, get_or-set_same}
use Rattle.std.proofs.lemmas.List.Elements.{All-head, All-nil, All-tail, All-cons}
use Rattle.std.proofs.lemmas.List.Sums.{fold-append}
use Rattle.spmd_model.specs.Timelines.{Machine, Word, counter, signal}
use Rattle.spmd_model.specs.Acts.{Act, post, await, load, store, add, print, acts_of}
use Rattle.spmd_model.specs.States.{State, acted, first_state, is_possible, moved, next_act}
use Rattle.spmd_model.specs.Runs.{stepped, stepped_by}
use Rattle.spmd_model.specs.Quiet.{first_turn, is_quiet, quiet_first, quiet_next, past_quiet, turned, turns_of}
use Rattle.spmd_model.specs.Reached.{HasCome}
use Rattle.spmd_model.proofs.Lists.{drop_more}
use Rattle.spmd_model.proofs.Runs.{come_first, come_folded, come_stepped}

-- ---- runs by turns are runs

all_same : (P : ℕ → Type 0) (n p : ℕ) → P p → All P (replicate n p)
all_same P zero p h = All-nil P
all_same P (suc n) p h = All-cons P p (replicate n p) h (all_same P n p h)

all_joined : (P : ℕ → Type 0) (xs ys : List ℕ) → All P xs → All P ys → All P (xs ++ ys)
all_joined P [] ys a b = b
all_joined P (x ∷ xs) ys a b = All-cons P x (xs ++ ys) (All-head P x xs a) (all_joined P xs ys (All-tail P x xs a) b)

-- so many processors in a row lead from one state to another
pub record Leads (m : Machine) (s t : State) : Type 0 where
  pub schedule : List ℕ
  pub workers : All (λ p. p < m.workers) schedule
  pub is : t ≡ fold (stepped m) s schedule

then_leads : (m : Machine) (s t u : State) → Leads m s t → Leads m t u → Leads m s u
then_leads m s t u a b = record {
  schedule = a.schedule ++ b.schedule;
  workers = all_joined (λ p. p < m.workers) a.schedule b.schedule a.workers b.workers;
  is = b.is ∙ ap (λ x. fold (stepped m) x b.schedule) a.is ∙ sym (fold-append (stepped m) s a.schedule b.schedule);
}

settles : (m : Machine) (shared : ℕ) (s : State) (p : ℕ) → p < m.workers → Leads m s (past_quiet m shared s p)
settles m shared s p lt = record { schedule = replicate (quiet_next m shared s p) p; workers = all_same (λ q. q < m.workers) (quiet_next m shared s p) p lt; is = refl }

one_step : (m : Machine) (s : State) (p : ℕ) → p < m.workers → Leads m s (stepped m s p)
one_step m s p lt = record { schedule = p ∷ []; workers = All-cons (λ q. q < m.workers) p [] lt (All-nil (λ q. q < m.workers)); is = refl }

all_settle : (m : Machine) (shared a n : ℕ) (s : State) → a + n ≤ m.workers → Leads m s (fold (past_quiet m shared) s (range_with_len a n))
all_settle m shared a zero s le = record { schedule = []; workers = All-nil (λ q. q < m.workers); is = refl }
all_settle m shared a (suc n) s le =
    let one = settles m shared s a (omega (arith, le)) in
    then_leads m s (past_quiet m shared s a) (fold (past_quiet m shared) s (range_with_len a (suc n))) one (all_settle m shared (a + 1) n (past_quiet m shared s a) (omega (arith, le)))

turns_lead : (m : Machine) (shared : ℕ) (schedule : List ℕ) (s : State) → All (λ p. p < m.workers) schedule → Leads m s (fold (turned m shared) s schedule)
turns_lead m shared [] s all = record { schedule = []; workers = All-nil (λ q. q < m.workers); is = refl }
turns_lead m shared (p ∷ rest) s all =
    let lt = All-head (λ q. q < m.workers) p rest all in
    let t = turned m shared s p in
    then_leads m s t (fold (turned m shared) t rest) (then_leads m s (stepped m s p) t (one_step m s p lt) (settles m shared (stepped m s p) p lt)) (turns_lead m shared rest t (All-tail (λ q. q < m.workers) p rest all))

pub turns_are_runs : (m : Machine) (shared : ℕ) (schedule : List ℕ) → All (λ p. p < m.workers) schedule → Leads m (first_state m) (turns_of m shared schedule)
turns_are_runs m shared schedule all = then_leads m (first_state m) (first_turn m shared) (turns_of m shared schedule) (all_settle m shared 0 m.workers (first_state m) (omega arith)) (turns_lead m shared schedule (first_turn m shared) all)

-- ---- in front of each turn no quiet act stands next

pub can_do : (shared : ℕ) (s : State) (a : Act) → is_quiet shared a ≡ true → is_possible s a ≡ true
can_do shared s (post w n) h = refl
can_do shared s (await w q n) h = absurd (true≢false (sym h))
can_do shared s (load t c) h = refl
can_do shared s (store t c) h = refl
can_do shared s (add t c) h = refl
can_do shared s (print t) h = refl

-- a step moves nobody else
others_stay : (m : Machine) (s : State) (p q : ℕ) → q ≢ p → slice_index (stepped m s p).positions q ≡ slice_index s.positions q
others_stay m s p q ne = by (next_act m s p)
  where
    moved_other : (a : Act) → slice_index (moved (acted m s p a) p).positions q ≡ slice_index s.positions q
    moved_other (post w n) = with_word w n
      where
        with_word : (w : Word) (n : ℕ) → slice_index (moved (acted m s p (post w n)) p).positions q ≡ slice_index s.positions q
        with_word counter n = get_or-set_other s.positions p q (slice_index s.positions p + 1) 0 ne
        with_word signal n = get_or-set_other s.positions p q (slice_index s.positions p + 1) 0 ne
    moved_other (await w on n) = get_or-set_other s.positions p q (slice_index s.positions p + 1) 0 ne
    moved_other (load t c) = get_or-set_other s.positions p q (slice_index s.positions p + 1) 0 ne
    moved_other (store t c) = get_or-set_other s.positions p q (slice_index s.positions p + 1) 0 ne
    moved_other (add t c) = get_or-set_other s.positions p q (slice_index s.positions p + 1) 0 ne
    moved_other (print t) = get_or-set_other s.positions p q (slice_index s.positions p + 1) 0 ne

    by : (o : Option Act) → slice_index (stepped_by m s p o).positions q ≡ slice_index s.positions q
    by None = refl
    by (Some a) = either (is_possible s a)
      where
        either : (b : Bool) → slice_index (cond b (moved (acted m s p a) p) s).positions q ≡ slice_index s.positions q
        either true = moved_other a
        either false = refl

-- a quiet step moves its processor by one
quiet_moves : (m : Machine) (shared : ℕ) (s : State) (p : ℕ) (a : Act) → p < length s.positions → next_act m s p ≡ Some a → is_quiet shared a ≡ true → slice_index (stepped m s p).positions p ≡ slice_index s.positions p + 1
quiet_moves m shared s p a lt next quiet =
    ap (λ o. slice_index (stepped_by m s p o).positions p) next ∙ ap (λ b. slice_index (cond b (moved (acted m s p a) p) s).positions p) (can_do shared s a quiet) ∙ by a
  where
    by : (a : Act) → slice_index (moved (acted m s p a) p).positions p ≡ slice_index s.positions p + 1
    by (post counter n) = get_or-set_same s.positions p (slice_index s.positions p + 1) 0 lt
    by (post signal n) = get_or-set_same s.positions p (slice_index s.positions p + 1) 0 lt
    by (await w on n) = get_or-set_same s.positions p (slice_index s.positions p + 1) 0 lt
    by (load t c) = get_or-set_same s.positions p (slice_index s.positions p + 1) 0 lt
    by (store t c) = get_or-set_same s.positions p (slice_index s.positions p + 1) 0 lt
    by (add t c) = get_or-set_same s.positions p (slice_index s.positions p + 1) 0 lt
    by (print t) = get_or-set_same s.positions p (slice_index s.positions p + 1) 0 lt

-- the quiet acts that stand next are done one after the other
settles_all : (m : Machine) (shared p : ℕ) (acts : List Act) (s : State) → p < m.workers → HasCome m s → drop (slice_index s.positions p) (acts_of m p) ≡ acts →
    (quiet_next m shared (fold (stepped m) s (replicate (quiet_first shared acts) p)) p ≡ 0) × ((q : ℕ) → q ≢ p → slice_index (fold (stepped m) s (replicate (quiet_first shared acts) p)).positions q ≡ slice_index s.positions q)
settles_all m shared p [] s lt come left = (ap (quiet_first shared) left, λ q ne. refl)
settles_all m shared p (a ∷ rest) s lt come left = by (is_quiet shared a) refl (settles_all m shared p rest (stepped m s p) lt (come_stepped m s p lt come))
  where
    by : (b : Bool) → is_quiet shared a ≡ b → (drop (slice_index (stepped m s p).positions p) (acts_of m p) ≡ rest → (quiet_next m shared (fold (stepped m) (stepped m s p) (replicate (quiet_first shared rest) p)) p ≡ 0) × ((q : ℕ) → q ≢ p → slice_index (fold (stepped m) (stepped m s p) (replicate (quiet_first shared rest) p)).positions q ≡ slice_index (stepped m s p).positions q)) →
        (quiet_next m shared (fold (stepped m) s (replicate (quiet_first shared (a ∷ rest)) p)) p ≡ 0) × ((q : ℕ) → q ≢ p → slice_index (fold (stepped m) s (replicate (quiet_first shared (a ∷ rest)) p)).positions q ≡ slice_index s.positions q)
    by true quiet further =
        let one = drop_more (acts_of m p) (slice_index s.positions p) a rest left in
        let moves = quiet_moves m shared s p a (omega (arith, come.count, lt)) one.0 quiet in
        let more = further (ap (λ n. drop n (acts_of m p)) moves ∙ one.1) in
        let count : quiet_first shared (a ∷ rest) ≡ suc (quiet_first shared rest) = ap (λ b. if b then suc (quiet_first shared rest) else 0) quiet in (
          ap (λ n. quiet_next m shared (fold (stepped m) s (replicate n p)) p) count ∙ more.0,
          λ q ne. ap (λ n. slice_index (fold (stepped m) s (replicate n p)).positions q) count ∙ more.1 q ne ∙ others_stay m s p q ne,
        )
    by false loud further =
        let count : quiet_first shared (a ∷ rest) ≡ 0 = ap (λ b. if b then suc (quiet_first shared rest) else 0) loud in
        (ap (λ n. quiet_next m shared (fold (stepped m) s (replicate n p)) p) count ∙ ap (quiet_first shared) left ∙ count, λ q ne. ap (λ n. slice_index (fold (stepped m) s (replicate n p)).positions q) count)

come_led : (m : Machine) (s t : State) → HasCome m s → Leads m s t → HasCome m t
come_led m s t come leads = subst (HasCome m) (sym leads.is) (come_folded m s leads.schedule come leads.workers)

-- the processors of which no quiet act stands next stay so, and this one becomes one
abbrev pub AreSettled : Machine → ℕ → State → ℕ → ℕ → Type 0
AreSettled m shared s a b = (p : ℕ) → a ≤ p → p < b → quiet_next m shared s p ≡ 0

same_next : (m : Machine) (shared : ℕ) (s t : State) (q : ℕ) → slice_index t.positions q ≡ slice_index s.positions q → quiet_next m shared t q ≡ quiet_next m shared s q
same_next m shared s t q same = ap (λ n. quiet_first shared (drop n (acts_of m q))) same

all_settled : (m : Machine) (shared a n : ℕ) (s : State) → a + n ≤ m.workers → HasCome m s → AreSettled m shared s 0 a → AreSettled m shared (fold (past_quiet m shared) s (range_with_len a n)) 0 (a + n)
all_settled m shared a zero s le come before = λ p low high. before p low (omega (arith, high))
all_settled m shared a (suc n) s le come before =
    let here = settles_all m shared a (drop (slice_index s.positions a) (acts_of m a)) s (omega (arith, le)) come refl in
    let count : a + suc n ≡ a + 1 + n = omega arith in
    subst (λ k. AreSettled m shared (fold (past_quiet m shared) (past_quiet m shared s a) (range_with_len (a + 1) n)) 0 k) (sym count)
    (all_settled m shared (a + 1) n (past_quiet m shared s a) (omega (arith, le)) (come_led m s (past_quiet m shared s a) come (settles m shared s a (omega (arith, le))))
    (λ p low high. elim (cases_eq p a) [
      | inl same ↦ subst (λ x. quiet_next m shared (past_quiet m shared s a) x ≡ 0) (sym same) here.0
      | inr ne ↦ same_next m shared s (past_quiet m shared s a) p (here.1 p ne) ∙ before p low (omega (arith, high, ne))
    ]))

turns_settled : (m : Machine) (shared : ℕ) (schedule : List ℕ) (s : State) → All (λ p. p < m.workers) schedule → HasCome m s → AreSettled m shared s 0 m.workers → AreSettled m shared (fold (turned m shared) s schedule) 0 m.workers
turns_settled m shared [] s all come before = before
turns_settled m shared (p ∷ rest) s all come before =
    let lt = All-head (λ q. q < m.workers) p rest all in
    let mid = stepped m s p in
    let come' = come_stepped m s p lt come in
    let here = settles_all m shared p (drop (slice_index mid.positions p) (acts_of m p)) mid lt come' refl in
    turns_settled m shared rest (turned m shared s p) (All-tail (λ q. q < m.workers) p rest all) (come_led m mid (turned m shared s p) come' (settles m shared mid p lt))
    (λ q low high. elim (cases_eq q p) [
      | inl same ↦ subst (λ x. quiet_next m shared (turned m shared s p) x ≡ 0) (sym same) here.0
      | inr ne ↦ same_next m shared s (turned m shared s p) q (here.1 q ne ∙ others_stay m s p q ne) ∙ before q low high
    ])

pub none_quiet_next : (m : Machine) (shared : ℕ) (schedule : List ℕ) (p : ℕ) → All (λ q. q < m.workers) schedule → p < m.workers → quiet_next m shared (turns_of m shared schedule) p ≡ 0
none_quiet_next m shared schedule p all lt =
    turns_settled m shared schedule (first_turn m shared) all (come_led m (first_state m) (first_turn m shared) (come_first m) (all_settle m shared 0 m.workers (first_state m) (omega arith)))
    (subst (λ k. AreSettled m shared (first_turn m shared) 0 k) zero_first (all_settled m shared 0 m.workers (first_state m) (omega arith) (come_first m) (λ q low high. absurd (omega (arith, high))))) p (omega arith) lt
  where
    zero_first : 0 + m.workers ≡ m.workers
    zero_first = omega arith
