-- All awaits of a barrier at once.
use Rattle.std.proofs.Common.{◌≡◌, ℕ, zero, suc, ◌+◌, ◌-◌, ◌<◌, ◌≤◌, Bool, true, false, true≢false, List, [], ◌∷◌, ◌++◌, length, get_or, map, take, drop, fold, Some, refl, sym, ◌∙◌, ap, subst, inl, inr, ⊎_elim, arith, cond, if◌then◌else◌, append_assoc}
use Rattle.std.specs.Prelude.{slice_get}
use Rattle.std.specs.List.{filter, range_with_len}
use Rattle.std.proofs.lemmas.Bool.{cases_Bool, cases_eq, cases_lt}
use Rattle.std.proofs.lemmas.List.Sums.{fold-append}
use Rattle.std.proofs.lemmas.Option.{slice_get-get_or, slice_get_within}
use Rattle.nest_tree.specs.Tree.{Tree}
use Rattle.nest_model.specs.Instances.{Instance}
use Rattle.nest_model.specs.Visits.{Visit}
use Rattle.sync_plan.specs.Boundaries.{gathers}
use Rattle.sync_plan.specs.declared.plan.Plan.{Plan}
use Rattle.sync_plan.specs.Waits.{posts_at, waits_for}
use Rattle.spmd_model.specs.Deeds.{Deed, awaiting, deed_of, owned_by}
use Rattle.spmd_model.specs.Machines.{machine_by}
use Rattle.spmd_model.specs.Timelines.{counter, signal}
use Rattle.spmd_model.specs.Acts.{Act, add, await, load, post, print, store}
use Rattle.spmd_model.proofs.Lists.{take-more}
use Rattle.spmd_model.specs.Protocols.{act_at, arrivals_at, arrived, is_gathered}
use Rattle.spmd_model.specs.Viewed.{barriers_in_front}
use Rattle.turns.specs.CounterTurns.{CounterTurn, awaits, begins, boundary_turns, phase_turns, counter_turns, works}
use Rattle.turns.proofs.CounterLists.{drop_at}
use Rattle.instance_runs.proofs.LoadPlaces.{drop_there}
use Rattle.shared_words.specs.Places.{row_first}
use Rattle.shared_words.specs.Homes.{Home, protocol_at}
use Rattle.spmd_workers.specs.Held.{AreHeld}
use Rattle.spmd_workers.specs.Places.{deeds_at, held_cells, plan_at, style_at, tree_at}
use Rattle.spmd_workers.proofs.Acts.{await_there}
use Rattle.spmd_workers.proofs.OwnHeld.{await_keeps}

-- ---- turns behind the beginning of a phase

-- all awaits among turns are of this number or more
abbrev pub Later : ℕ → List CounterTurn → Type 0
Later b ts = (k on w : ℕ) → slice_get ts k ≡ Some (awaits on w) → b ≤ w

pub later_append : (b : ℕ) (xs ys : List CounterTurn) → Later b xs → Later b ys → Later b (xs ++ ys)
later_append b [] ys first second k on w e = second k on w e
later_append b (x ∷ xs) ys first second zero on w e = first 0 on w e
later_append b (x ∷ xs) ys first second (suc k) on w e = later_append b xs ys (λ j o v is. first (suc j) o v is) second k on w e

later_less : (a b : ℕ) (ts : List CounterTurn) → a ≤ b → Later b ts → Later a ts
later_less a b ts le later k on w e = let high = later k on w e in omega (arith, le, high)

pub later_works : (b : ℕ) (is : List Instance) → Later b (map works is)
later_works b [] k on w e = absurd (cc)
later_works b (i ∷ is) zero on w e = absurd (cc)
later_works b (i ∷ is) (suc k) on w e = later_works b is k on w e

later_awaits : (n : ℕ) (qs : List ℕ) → Later n (map (λ q. awaits q n) qs)
later_awaits n [] k on w e = absurd (cc)
later_awaits n (q ∷ qs) zero on w e = let both : Some (awaits q n) ≡ Some (awaits on w) = e in let same : n ≡ w = cc in omega (arith, same)
later_awaits n (q ∷ qs) (suc k) on w e = later_awaits n qs k on w e

later_boundary : (n : ℕ) (does : Bool) (qs : List ℕ) → Later n (boundary_turns n does qs)
later_boundary n true qs zero on w e = absurd (cc)
later_boundary n true qs (suc k) on w e = later_awaits n qs k on w e
later_boundary n false qs k on w e = later_awaits n qs k on w e

-- turns among which no phase begins
pub NoBeginning : List CounterTurn → Type 0
NoBeginning ts = (k b : ℕ) → slice_get ts k ≡ Some (begins b) → ⊥

pub none_works : (is : List Instance) → NoBeginning (map works is)
unfolding NoBeginning
none_works [] k b e = absurd (cc)
none_works (i ∷ is) zero b e = absurd (cc)
none_works (i ∷ is) (suc k) b e = none_works is k b e

none_awaits : (n : ℕ) (qs : List ℕ) → NoBeginning (map (λ q. awaits q n) qs)
unfolding NoBeginning
none_awaits n [] k b e = absurd (cc)
none_awaits n (q ∷ qs) zero b e = absurd (cc)
none_awaits n (q ∷ qs) (suc k) b e = none_awaits n qs k b e

pub none_boundary : (n : ℕ) (does : Bool) (qs : List ℕ) → NoBeginning (boundary_turns n does qs)
unfolding NoBeginning
none_boundary n true qs zero b e = absurd (cc)
none_boundary n true qs (suc k) b e = none_awaits n qs k b e
none_boundary n false qs k b e = none_awaits n qs k b e

pub past : (xs ys front rest : List CounterTurn) (b : ℕ) → NoBeginning xs → xs ++ ys ≡ front ++ (begins b ∷ rest) → (more : List CounterTurn) × (ys ≡ more ++ (begins b ∷ rest))
unfolding NoBeginning
past [] ys front rest b none is = (front, is)
past (x ∷ xs) ys [] rest b none is = let both : x ∷ (xs ++ ys) ≡ begins b ∷ rest = is in let first : x ≡ begins b = cc in absurd (none 0 b (ap (λ t. Some t) first))
past (x ∷ xs) ys (f ∷ front) rest b none is = let both : x ∷ (xs ++ ys) ≡ f ∷ (front ++ (begins b ∷ rest)) = is in let later : xs ++ ys ≡ front ++ (begins b ∷ rest) = cc in past xs ys front rest b (λ k c e. none (suc k) c e) later

module _ (tree : Tree) (plan : Plan) (p : ℕ) where
  own : Visit → List Instance
  own v = owned_by tree (slice_get plan.anchors (v.place - 1)) plan.workers p v

  pub phases_later : (e : ℕ) (vs : List Visit) → 1 ≤ e → Later (e - 1) (counter_turns tree plan p e vs)
  unfolding own
  phases_later e [] some = λ k on w is. absurd (cc)
  phases_later e (v ∷ vs) some =
      let boundary = boundary_turns (e - 1) (posts_at tree plan p v.place v.loops) (waits_for tree plan p v.place v.loops) in
      let begun : Later (e - 1) (begins e ∷ map works (own v)) = beginning (map works (own v)) (later_works (e - 1) (own v)) in
      let phase = later_append (e - 1) boundary (begins e ∷ map works (own v)) (later_boundary (e - 1) (posts_at tree plan p v.place v.loops) (waits_for tree plan p v.place v.loops)) begun in
      let rest = later_less (e - 1) (suc e - 1) (counter_turns tree plan p (suc e) vs) (omega arith) (phases_later (suc e) vs (omega arith)) in
      later_append (e - 1) (phase_turns tree plan p e v) (counter_turns tree plan p (suc e) vs) phase rest
    where
      beginning : (ts : List CounterTurn) → Later (e - 1) ts → Later (e - 1) (begins e ∷ ts)
      beginning ts later zero on w is = absurd (cc)
      beginning ts later (suc k) on w is = later k on w is

  -- behind the beginning of a phase
  pub behind_beginning : (e : ℕ) (vs : List Visit) (front rest : List CounterTurn) (b : ℕ) → 1 ≤ e → counter_turns tree plan p e vs ≡ front ++ (begins b ∷ rest) → Later b rest
  unfolding own
  behind_beginning e [] [] rest b some is = absurd (let clash : [] ≡ begins b ∷ rest = is in cc)
  behind_beginning e [] (f ∷ front) rest b some is = absurd (let clash : [] ≡ f ∷ (front ++ (begins b ∷ rest)) = is in cc)
  behind_beginning e (v ∷ vs) front rest b some is =
      let boundary = boundary_turns (e - 1) (posts_at tree plan p v.place v.loops) (waits_for tree plan p v.place v.loops) in
      let more = counter_turns tree plan p (suc e) vs in
      let split : boundary ++ (begins e ∷ (map works (own v) ++ more)) ≡ front ++ (begins b ∷ rest) = sym (append_assoc boundary (begins e ∷ map works (own v)) more) ∙ is in
      let here = past boundary (begins e ∷ (map works (own v) ++ more)) front rest b (none_boundary (e - 1) (posts_at tree plan p v.place v.loops) (waits_for tree plan p v.place v.loops)) split in
      from (λ ahead same. behind_beginning (suc e) vs ahead rest b (omega arith) same) here.0 here.1
    where
      later_there : Later e (map works (own v) ++ counter_turns tree plan p (suc e) vs)
      later_there = later_append e (map works (own v)) (counter_turns tree plan p (suc e) vs) (later_works e (own v)) (later_less e (suc e - 1) (counter_turns tree plan p (suc e) vs) (omega arith) (phases_later (suc e) vs (omega arith)))

      from : ((ahead : List CounterTurn) → counter_turns tree plan p (suc e) vs ≡ ahead ++ (begins b ∷ rest) → Later b rest) → (ahead : List CounterTurn) → begins e ∷ (map works (own v) ++ counter_turns tree plan p (suc e) vs) ≡ ahead ++ (begins b ∷ rest) → Later b rest
      from again [] same =
          let both : begins e ∷ (map works (own v) ++ counter_turns tree plan p (suc e) vs) ≡ begins b ∷ rest = same in
          let number : e ≡ b = cc in
          let behind : map works (own v) ++ counter_turns tree plan p (suc e) vs ≡ rest = cc in
          subst (λ n. Later n rest) number (subst (Later e) behind later_there)
      from again (f ∷ ahead) same =
          let both : begins e ∷ (map works (own v) ++ counter_turns tree plan p (suc e) vs) ≡ f ∷ (ahead ++ (begins b ∷ rest)) = same in
          let behind : map works (own v) ++ counter_turns tree plan p (suc e) vs ≡ ahead ++ (begins b ∷ rest) = cc in
          let next = past (map works (own v)) (counter_turns tree plan p (suc e) vs) ahead rest b (none_works (own v)) behind in
          again next.0 next.1

-- ---- how many barriers are in front

counted_less : (f : ℕ → Bool) (a n k : ℕ) → f (a + n) ≡ true → length (filter f (range_with_len a n)) < length (filter f (range_with_len a (n + suc k)))
counted_less f a zero k here =
    let first : f a ≡ true = ap f (let e : a ≡ a + zero = omega arith in e) ∙ here in
    let more : length (filter f (range_with_len a (zero + suc k))) ≡ suc (length (filter f (range_with_len (a + 1) k))) = ap (λ n. length (filter f (range_with_len a n))) (let e : zero + suc k ≡ suc k = omega arith in e) ∙ ap (λ b. length (cond b (a ∷ filter f (range_with_len (a + 1) k)) (filter f (range_with_len (a + 1) k)))) first in
    omega (arith, more)
counted_less f a (suc n) k here =
    let there : f (a + 1 + n) ≡ true = ap f (let e : a + 1 + n ≡ a + suc n = omega arith in e) ∙ here in
    let less = counted_less f (a + 1) n k there in
    let long : length (filter f (range_with_len a (suc n + suc k))) ≡ length (cond (f a) (a ∷ filter f (range_with_len (a + 1) (n + suc k))) (filter f (range_with_len (a + 1) (n + suc k)))) = ap (λ j. length (filter f (range_with_len a j))) (let e : suc n + suc k ≡ suc (n + suc k) = omega arith in e) in
    by (f a) (filter f (range_with_len (a + 1) n)) (filter f (range_with_len (a + 1) (n + suc k))) less (length (filter f (range_with_len a (suc n + suc k)))) long
  where
    by : (b : Bool) (xs ys : List ℕ) → length xs < length ys → (long : ℕ) → long ≡ length (cond b (a ∷ ys) ys) → length (cond b (a ∷ xs) xs) < long
    by true xs ys less long is = omega (arith, less, is)
    by false xs ys less long is = omega (arith, less, is)

pub same_barrier : (tree : Tree) (plan : Plan) (a b : ℕ) → gathers tree plan a ≡ true → gathers tree plan b ≡ true → barriers_in_front tree plan a ≡ barriers_in_front tree plan b → a ≡ b
same_barrier tree plan a b here there same = ⊎_elim
    (λ less. let gap : a + suc (b - a - 1) ≡ b = omega (arith, less) in let count = counted_less (gathers tree plan) 0 a (b - a - 1) (ap (gathers tree plan) (let e : 0 + a ≡ a = omega arith in e) ∙ here) in let all = ap (λ n. length (filter (gathers tree plan) (range_with_len 0 n))) gap in absurd (omega (arith, count, all, same)))
    (λ le. ⊎_elim
    (λ less. let gap : b + suc (a - b - 1) ≡ a = omega (arith, less) in let count = counted_less (gathers tree plan) 0 b (a - b - 1) (ap (gathers tree plan) (let e : 0 + b ≡ b = omega arith in e) ∙ there) in let all = ap (λ n. length (filter (gathers tree plan) (range_with_len 0 n))) gap in absurd (omega (arith, count, all, same)))
    (λ le'. omega (arith, le, le')) (cases_lt b a))
    (cases_lt a b)

-- ---- awaits in a row

module _ (h : Home) (held : AreHeld h) (p : ℕ) (below : p < (protocol_at h).workers) (number : ℕ) (g : (protocol_at h).gathers number ≡ true) where
  -- behind awaits at one barrier that stand at place n
  pub record IsRow (n : ℕ) (qs : List ℕ) : Type 0 where
    pub row : row_first (protocol_at h) (drop n ((protocol_at h).acts p)) ≡ length qs + row_first (protocol_at h) (drop (n + length qs) ((protocol_at h).acts p))
    pub arrivals : arrivals_at (protocol_at h) p (n + length qs) ≡ arrivals_at (protocol_at h) p n
    pub registers : (protocol_at h).registers_at p (n + length qs) ≡ (protocol_at h).registers_at p n
    pub printed : (protocol_at h).printed_at p (n + length qs) ≡ (protocol_at h).printed_at p n
    pub own : held_cells h p (n + length qs) ≡ held_cells h p n
    pub no_post : (k other : ℕ) → n ≤ k → k < n + length qs → act_at (protocol_at h) p k ≡ Some (post counter other) → ⊥

  arrivals_stay : (n q : ℕ) → act_at (protocol_at h) p n ≡ Some (await counter q number) → arrivals_at (protocol_at h) p (suc n) ≡ arrivals_at (protocol_at h) p n
  arrivals_stay n q e = ap (fold (arrived (protocol_at h).gathers) 0) (take-more ((protocol_at h).acts p) n (await counter q number) e) ∙ fold-append (arrived (protocol_at h).gathers) 0 (take n ((protocol_at h).acts p)) (await counter q number ∷ [])

  pub rows : (n : ℕ) (qs : List ℕ) (tail : List Deed) → drop n (deeds_at h p) ≡ map (λ q. awaiting counter q number) qs ++ tail → IsRow n qs
  rows n [] tail is =
      let same : n + length {A = ℕ} [] ≡ n = omega arith in
      record {
        row = (let step = ap (λ k. row_first (protocol_at h) (drop k ((protocol_at h).acts p))) same in omega (arith, step));
        arrivals = ap (arrivals_at (protocol_at h) p) same;
        registers = ap ((protocol_at h).registers_at p) same;
        printed = ap ((protocol_at h).printed_at p) same;
        own = ap (held_cells h p) same;
        no_post = λ k other le lt e. absurd (omega (arith, le, lt));
      }
  rows n (q ∷ qs) tail is =
      let at = drop_at (deeds_at h p) n (awaiting counter q number) (map (λ j. awaiting counter j number) qs ++ tail) is in
      let act = await_there h held p below counter n q number at.0 in
      let rest = rows (suc n) qs tail at.1 in
      let next : n + length (q ∷ qs) ≡ suc n + length qs = omega arith in
      let one : n + 1 ≡ suc n = omega arith in
      let first : row_first (protocol_at h) (drop n ((protocol_at h).acts p)) ≡ row_first (protocol_at h) (drop (suc n) ((protocol_at h).acts p)) + 1 =
      ap (row_first (protocol_at h)) (drop_there ((protocol_at h).acts p) n (await counter q number) act) ∙ ap (λ b. if b then row_first (protocol_at h) (drop (suc n) ((protocol_at h).acts p)) + 1 else 0) g in
      let behind = ap (λ k. row_first (protocol_at h) (drop k ((protocol_at h).acts p))) next in
      record {
        row = omega (arith, first, rest.row, behind);
        arrivals = ap (arrivals_at (protocol_at h) p) next ∙ rest.arrivals ∙ arrivals_stay n q act;
        registers = ap ((protocol_at h).registers_at p) next ∙ rest.registers ∙ ap ((protocol_at h).registers_at p) (sym one) ∙ held.laws.await_leaves counter p n q number act;
        printed = ap ((protocol_at h).printed_at p) next ∙ rest.printed ∙ ap ((protocol_at h).printed_at p) (sym one) ∙ held.laws.printed_leaves p n (await counter q number) act refl;
        own = ap (held_cells h p) next ∙ rest.own ∙ ap (held_cells h p) (sym one) ∙ await_keeps h p n counter q number act;
        no_post = λ k other le lt e. ⊎_elim
            (λ same. let both : Some (await counter q number) ≡ Some (post counter other) = sym act ∙ ap (act_at (protocol_at h) p) (sym same) ∙ e in absurd (cc))
            (λ apart. rest.no_post k other (omega (arith, le, apart)) (omega (arith, lt)) e) (cases_eq k n);
      }

-- ---- behind all of them

gathered_act : (h : Home) (a : Act) → is_gathered (protocol_at h) (Some a) ≡ true → (on w : ℕ) × (a ≡ await counter on w) × ((protocol_at h).gathers w ≡ true)
gathered_act h (post w k) e = absurd (true≢false (sym e))
gathered_act h (await counter q k) e = (q, k, refl, e)
gathered_act h (await signal q k) e = absurd (true≢false (sym e))
gathered_act h (load t c) e = absurd (true≢false (sym e))
gathered_act h (store t c) e = absurd (true≢false (sym e))
gathered_act h (add t c) e = absurd (true≢false (sym e))
gathered_act h (print t) e = absurd (true≢false (sym e))

-- no await at a barrier stands behind a barrier's awaits, where the deeds that are left don't begin with one of its counter
pub row_ends : (h : Home) (held : AreHeld h) (p n k number on : ℕ) → p < (protocol_at h).workers → act_at (protocol_at h) p n ≡ Some (await counter on number) → (protocol_at h).gathers number ≡ true → arrivals_at (protocol_at h) p k ≡ arrivals_at (protocol_at h) p n
    → ((q w : ℕ) (more : List Deed) → drop k (deeds_at h p) ≡ awaiting counter q w ∷ more → suc number ≤ w) → row_first (protocol_at h) (drop k ((protocol_at h).acts p)) ≡ 0
row_ends h held p n k number on inside act g arrivals first = by (drop k ((protocol_at h).acts p)) refl
  where
    by : (ys : List Act) → drop k ((protocol_at h).acts p) ≡ ys → row_first (protocol_at h) ys ≡ 0
    by [] e = refl
    by (a ∷ ys) e = elim (cases_Bool (is_gathered (protocol_at h) (Some a))) [
      | inl gathered ↦ (
          let at = drop_at ((protocol_at h).acts p) k a ys e in
          let found = gathered_act h a gathered in
          let there = at.0 ∙ ap (λ z. Some z) found.2 in
          let mine = held.arrived p n on number inside act g in
          let its = held.arrived p k found.0 found.1 inside there found.3 in
          let same = same_barrier (tree_at h) (plan_at h) found.1 number found.3 g (omega (arith, mine, its, arrivals)) in
          let low = first found.0 found.1 (drop (suc k) (deeds_at h p)) (deed_there found.0 found.1 there) in
          absurd (omega (arith, low, same)))
      | inr seen ↦ ap (λ b. if b then row_first (protocol_at h) ys + 1 else 0) seen
    ]
      where
        deed_there : (q w : ℕ) → act_at (protocol_at h) p k ≡ Some (await counter q w) → drop k (deeds_at h p) ≡ awaiting counter q w ∷ drop (suc k) (deeds_at h p)
        deed_there q w there =
            let ds = deeds_at h p in
            let within : k < length ds = (let low = slice_get_within ((protocol_at h).acts p) k (await counter q w) there in let many = held.count p inside in omega (arith, low, many)) in
            let d = get_or ds k (awaiting counter q w) in
            let e : slice_get ds k ≡ Some d = slice_get-get_or ds k (awaiting counter q w) within in
            let a = held.acts p k d inside e in
            let both : Some a.0 ≡ Some (await counter q w) = sym a.1 ∙ there in
            let same : a.0 ≡ await counter q w = cc in
            let deed : d ≡ awaiting counter q w = sym a.2 ∙ ap (deed_of (machine_by (style_at h) (tree_at h) (plan_at h))) same in
            drop_there ds k d e ∙ ap (λ z. z ∷ drop (suc k) ds) deed
