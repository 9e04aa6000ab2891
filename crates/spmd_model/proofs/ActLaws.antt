-- Each act keeps lawful places lawful, and a load gives the sequential value.
use Rattle.std.proofs.Common.{◌≡◌, ◌==◌, ℕ, suc, ◌+◌, ◌<◌, ◌≤◌, ◌⊎◌, ℤ, pos, Bool, true, false, true≢false, List, length, map, fold, replicate, Option, Some, None, refl, ap, sym, subst, ◌∙◌, inl, inr, ⊎_elim, arith, if◌then◌else◌}
use Rattle.std.specs.Prelude.{slice_get, slice_set}
use Rattle.std.proofs.lemmas.Bool.{cases_Bool, cases_eq, cases_lt, eq-eqb, eqb-true, le-leb, lt-leb, lt-ltb, le-ltb}
use Rattle.std.proofs.lemmas.List.{get_or-replicate, get_or_past, length-replicate, length-set, take_all}
use Rattle.std.proofs.lemmas.Option.{slice_get_within}
use Rattle.list_lemmas.proofs.Gets.{one_element}
use Rattle.nest_model.specs.Memory.{cell_value}
use Rattle.spmd_model.specs.Cells.{plus, with_change}
use Rattle.spmd_model.specs.Timelines.{Job, Machine, Moment, Word, boundary, job}
use Rattle.spmd_model.specs.Acts.{Act, post, await, load, store, add, print, act_at, acts_from, acts_of}
use Rattle.spmd_model.specs.States.{assigned_by}
use Rattle.spmd_model.specs.Sequential.{memory_at_end, loads_by, memory_at, memory_behind, stored_at, value_at}
use Rattle.spmd_model.specs.Ordered.{IsOrderedMachine, IsSound, Needs}
use Rattle.spmd_model.specs.Lawful.{IsLawful, IsPosted, Moves, acts_in_front, is_done, last_value, stores_to}
use Rattle.spmd_model.proofs.ActLists.{Found, found, in_front-rises}
use Rattle.spmd_model.proofs.MomentActs.{IsAwaitIn, IsChangeIn, IsLastIn, IsLoadIn, IsPostIn, tells}
use Rattle.spmd_model.proofs.Chains.{IsAt}
use Rattle.spmd_model.proofs.LastValues.{Agree, add_here, agree, cell_set, in_front_of, memory_more, memory_size, sequential}
use Rattle.spmd_model.proofs.Registers.{added_is, stored_is}
use Rattle.spmd_model.proofs.Keeps.{Stands, agrees_in_front, loads_cell, same_elsewhere, some_acts, stands, store_is, stores_cell, stores_in_front, within_acts}

-- nothing is done at first
none_done : (m : Machine) (at : ℕ → ℕ) (cell place : ℕ) (xs : List Moment) → ((u : ℕ) (k : Job) → slice_get m.timeline u ≡ Some (job k) → at k.owner ≡ 0) → Agree m cell (is_done m at) (in_front_of 0)
none_done m at cell place xs none u k there stores =
    let acts = some_acts m k.owner u k there refl in
    lt-leb (acts_in_front m k.owner (suc u)) (at k.owner) (omega (arith, acts, none u k there)) ∙ sym (le-ltb u 0 (omega arith))

pub first : (m : Machine) (at : ℕ → ℕ) → IsSound m → ((p : ℕ) → p < m.workers → at p ≡ 0) → IsLawful m (replicate m.cells (pos 0)) at
first m at sound none = record {
  within = λ p lt. omega (arith, none p lt);
  size = length-replicate m.cells (pos 0);
  holds = λ cell lt. get_or-replicate m.cells cell (pos 0) (pos 0) lt ∙ sym (agree m cell (is_done m at) (in_front_of 0) (none_done m at cell 0 m.timeline (λ u k there. none k.owner (sound.owned u k there)))
      ∙ sequential m cell 0 lt ∙ get_or-replicate m.cells cell (pos 0) (pos 0) lt);
  awaited = λ w p i q n inside lt e. absurd (omega (arith, lt, none p inside));
}

-- ---- a load gives the sequential value

pub at_load : (m : Machine) (p n t cell : ℕ) → act_at m p n ≡ Some (load t cell) → (j : Job) × IsAt m p n t j × Needs j cell × (n + 1 < acts_in_front m p (suc t))
at_load m p n t cell e =
    let f = found m p n (load t cell) e in
    let l : IsLoadIn p f.place f.index t cell f.moment = tells p f.place f.index f.moment (load t cell) f.is in
    let s = stands m p n (load t cell) f in
    let there : slice_get m.timeline f.place ≡ Some (job l.job_is) = f.at ∙ ap Some l.moment in
    let within = slice_get_within l.job_is.loads f.index cell l.is in
    let acts = some_acts m p f.place l.job_is there l.owner in
    subst (λ u. (j : Job) × IsAt m p n u j × Needs j cell × (n + 1 < acts_in_front m p (suc u))) (sym l.place)
    (l.job_is, record { at = there; owner = l.owner; from = s.from; to = s.to }, loads_cell l.job_is f.index cell l.is, omega (arith, acts, within, f.number))

pub gives : (m : Machine) (cells : List ℤ) (at : ℕ → ℕ) (p t cell : ℕ) → IsSound m → IsOrderedMachine m → IsLawful m cells at → act_at m p (at p) ≡ Some (load t cell) → cell_value cells cell ≡ cell_value (memory_at m t) cell
gives m cells at p t cell sound ordered law e =
    let (j, here, among, more) = at_load m p (at p) t cell e in
    ⊎_elim (λ lt. law.holds cell lt ∙ agree m cell (is_done m at) (in_front_of t) (agrees_in_front m cells at p t cell j sound ordered law here among) ∙ sequential m cell t lt)
    (λ past. get_or_past cells cell (pos 0) (omega (arith, law.size, past)) ∙ sym (get_or_past (memory_at m t) cell (pos 0) (omega (arith, memory_size m t, past)))) (cases_lt cell m.cells)

-- ---- what each act keeps

posted_more : (m : Machine) (w : Word) (q n k l : ℕ) → k ≤ l → IsPosted (acts_of m q) w n k → IsPosted (acts_of m q) w n l
posted_more m w q n k l le (i, lt, e) = (i, omega (arith, lt, le), e)

-- where the cells still hold the last values
keeps : (m : Machine) (cells next : List ℤ) (at after : ℕ → ℕ) (p : ℕ) (a : Act) → p < m.workers → IsLawful m cells at → act_at m p (at p) ≡ Some a → Moves at after p (at p + 1) → length next ≡ m.cells →
    ((cell : ℕ) → cell < m.cells → cell_value next cell ≡ last_value m after cell) → ((w : Word) (q n : ℕ) → a ≡ await w q n → (n ≡ 0) ⊎ IsPosted (acts_of m q) w n (at q)) → IsLawful m next after
keeps m cells next at after p a inside law e moves size holds waited = record {
  within = λ q lt. ⊎_elim (λ same. subst (λ x. after x ≤ length (acts_of m x)) (sym same) (omega (arith, moves.here, within_acts m p (at p) a e))) (λ other. omega (arith, moves.others q other, law.within q lt)) (cases_eq q p);
  size = size;
  holds = holds;
  awaited = λ w o i q n lt below act. ⊎_elim (λ zero. inl zero) (λ posted. inr (posted_more m w q n (at q) (after q) (grows q) posted)) (before w o i q n lt below act);
}
  where
    grows : (q : ℕ) → at q ≤ after q
    grows q = ⊎_elim (λ same. subst (λ x. at x ≤ after x) (sym same) (omega (arith, moves.here))) (λ other. omega (arith, moves.others q other)) (cases_eq q p)

    before : (w : Word) (o i q n : ℕ) → o < m.workers → i < after o → act_at m o i ≡ Some (await w q n) → (n ≡ 0) ⊎ IsPosted (acts_of m q) w n (at q)
    before w o i q n lt below act = ⊎_elim
        (λ same. mine i (omega (arith, ap after same, moves.here, below)) (subst (λ x. act_at m x i ≡ Some (await w q n)) same act))
        (λ other. law.awaited w o i q n lt (omega (arith, moves.others o other, below)) act) (cases_eq o p)
      where
        mine : (k : ℕ) → k < at p + 1 → act_at m p k ≡ Some (await w q n) → (n ≡ 0) ⊎ IsPosted (acts_of m q) w n (at q)
        mine k less act = ⊎_elim (λ same. waited w q n (one_element (act_at m p (at p)) a (await w q n) e (subst (λ x. act_at m p x ≡ Some (await w q n)) same act)))
            (λ other. law.awaited w p k q n inside (omega (arith, less, other)) act) (cases_eq k (at p))

no_wait : (a b : Act) (C : Type 0) → (a ≡ b → ⊥) → a ≡ b → C
no_wait a b C apart e = absurd (apart e)

-- the cells are as before where no job is done in addition that stores
still : (m : Machine) (cells : List ℤ) (at after : ℕ → ℕ) (p t : ℕ) → IsLawful m cells at → Stands m p (at p) t → Moves at after p (at p + 1) →
    ((k : Job) (cell : ℕ) → slice_get m.timeline t ≡ Some (job k) → stores_to k.store cell ≡ true → is_done m after t k ≡ is_done m at t k) → (cell : ℕ) → cell < m.cells → cell_value cells cell ≡ last_value m after cell
still m cells at after p t law here moves at_place cell lt =
    law.holds cell lt ∙ sym (agree m cell (is_done m after) (is_done m at) (λ u k there stores. elim (cases_eq u t) [
      | inl same ↦ subst (λ x. is_done m after x k ≡ is_done m at x k) (sym same) (at_place k cell (subst (λ x. slice_get m.timeline x ≡ Some (job k)) same there) stores)
      | inr other ↦ same_elsewhere m at after p t u k here moves there other
    ]))

pub by_load : (m : Machine) (cells : List ℤ) (at after : ℕ → ℕ) (p t cell : ℕ) → p < m.workers → IsLawful m cells at → act_at m p (at p) ≡ Some (load t cell) → Moves at after p (at p + 1) → IsLawful m cells after
by_load m cells at after p t cell inside law e moves =
    let (j, here, among, more) = at_load m p (at p) t cell e in
    keeps m cells cells at after p (load t cell) inside law e moves law.size
    (still m cells at after p t law (record { from = here.from; to = here.to }) moves (λ k c there stores.
    let is : Some (job j) ≡ Some (job k) = sym here.at ∙ there in
    let equal : j ≡ k = cc in
    let own : k.owner ≡ p = ap (λ (x : Job). x.owner) (sym equal) ∙ here.owner in
    lt-leb (acts_in_front m k.owner (suc t)) (after k.owner) (subst (λ o. after o < acts_in_front m o (suc t)) (sym own) (omega (arith, moves.here, more)))
    ∙ sym (lt-leb (acts_in_front m k.owner (suc t)) (at k.owner) (subst (λ o. at o < acts_in_front m o (suc t)) (sym own) (omega (arith, more)))))) (λ w q n same. absurd (cc))

-- an act of a boundary
by_boundary : (m : Machine) (cells : List ℤ) (at after : ℕ → ℕ) (w : Word) (p t n : ℕ) (posts : ℕ → Bool) (awaits : ℕ → List ℕ) (a : Act) → p < m.workers → IsLawful m cells at → act_at m p (at p) ≡ Some a → Moves at after p (at p + 1) → Stands m p (at p) t →
    slice_get m.timeline t ≡ Some (boundary w n posts awaits) → ((v : Word) (q k : ℕ) → a ≡ await v q k → (k ≡ 0) ⊎ IsPosted (acts_of m q) v k (at q)) → IsLawful m cells after
by_boundary m cells at after w p t n posts awaits a inside law e moves here there waited =
    keeps m cells cells at after p a inside law e moves law.size (still m cells at after p t law here moves (λ k c is stores. let clash : Some (boundary w n posts awaits) ≡ Some (job k) = sym there ∙ is in absurd (cc))) waited

pub by_post : (m : Machine) (cells : List ℤ) (at after : ℕ → ℕ) (w : Word) (p n : ℕ) → p < m.workers → IsLawful m cells at → act_at m p (at p) ≡ Some (post w n) → Moves at after p (at p + 1) → IsLawful m cells after
by_post m cells at after w p n inside law e moves =
    let f = found m p (at p) (post w n) e in
    let k : IsPostIn w p f.index n f.moment = tells p f.place f.index f.moment (post w n) f.is in
    by_boundary m cells at after w p f.place n k.posts k.awaits (post w n) inside law e moves (stands m p (at p) (post w n) f) (f.at ∙ ap Some k.moment) (λ v q l same. absurd (cc))

pub by_await : (m : Machine) (cells : List ℤ) (at after : ℕ → ℕ) (w : Word) (p q n : ℕ) → p < m.workers → IsLawful m cells at → act_at m p (at p) ≡ Some (await w q n) → (n ≡ 0) ⊎ IsPosted (acts_of m q) w n (at q) → Moves at after p (at p + 1) → IsLawful m cells after
by_await m cells at after w p q n inside law e posted moves =
    let f = found m p (at p) (await w q n) e in
    let k : IsAwaitIn w p q n f.moment = tells p f.place f.index f.moment (await w q n) f.is in
    by_boundary m cells at after w p f.place n k.posts k.awaits (await w q n) inside law e moves (stands m p (at p) (await w q n) f) (f.at ∙ ap Some k.moment)
    (λ v o l same. let word : w ≡ v = cc in let on : q ≡ o = cc in let number : n ≡ l = cc in subst (λ y. (l ≡ 0) ⊎ IsPosted (acts_of m o) y l (at o)) word (subst (λ x. (x ≡ 0) ⊎ IsPosted (acts_of m o) w x (at o)) number (subst (λ x. (n ≡ 0) ⊎ IsPosted (acts_of m x) w n (at x)) on posted)))

-- ---- the last act of a job

pub at_last : (m : Machine) (p n t : ℕ) (o : Option ℕ) (a : Act) (f : Found m p n a) → IsLastIn p f.place f.index t o f.moment → (j : Job) × IsAt m p n t j × (j.store ≡ o) × (n + 1 ≡ acts_in_front m p (suc t))
at_last m p n t o a f l =
    let s = stands m p n a f in
    let there : slice_get m.timeline f.place ≡ Some (job l.job_is) = f.at ∙ ap Some l.moment in
    let acts = some_acts m p f.place l.job_is there l.owner in
    subst (λ u. (j : Job) × IsAt m p n u j × (j.store ≡ o) × (n + 1 ≡ acts_in_front m p (suc u))) (sym l.place)
    (l.job_is, record { at = there; owner = l.owner; from = s.from; to = s.to }, l.stores, omega (arith, acts, f.number, l.index))

pub at_change : (m : Machine) (p n t cell : ℕ) (b : Bool) (a : Act) (f : Found m p n a) → IsChangeIn p f.place f.index t cell b f.moment → (j : Job) × IsAt m p n t j × (j.store ≡ Some cell) × (j.adds ≡ b) × (n + 1 ≡ acts_in_front m p (suc t))
at_change m p n t cell b a f l =
    let s = stands m p n a f in
    let there : slice_get m.timeline f.place ≡ Some (job l.job_is) = f.at ∙ ap Some l.moment in
    let acts = some_acts m p f.place l.job_is there l.owner in
    subst (λ u. (j : Job) × IsAt m p n u j × (j.store ≡ Some cell) × (j.adds ≡ b) × (n + 1 ≡ acts_in_front m p (suc u))) (sym l.place)
    (l.job_is, record { at = there; owner = l.owner; from = s.from; to = s.to }, l.stores, l.adding, omega (arith, acts, f.number, l.index))

pub by_print : (m : Machine) (cells : List ℤ) (at after : ℕ → ℕ) (p t : ℕ) → p < m.workers → IsLawful m cells at → act_at m p (at p) ≡ Some (print t) → Moves at after p (at p + 1) → IsLawful m cells after
by_print m cells at after p t inside law e moves =
    let f = found m p (at p) (print t) e in
    let (j, here, stores_none, end) = at_last m p (at p) t None (print t) f (tells p f.place f.index f.moment (print t) f.is) in
    keeps m cells cells at after p (print t) inside law e moves law.size
    (still m cells at after p t law (record { from = here.from; to = here.to }) moves (λ k c there stores.
    let is : Some (job j) ≡ Some (job k) = sym here.at ∙ there in
    let equal : j ≡ k = cc in
    let none : k.store ≡ None = ap (λ (x : Job). x.store) (sym equal) ∙ stores_none in
    absurd (true≢false (sym stores ∙ ap (λ o. stores_to o c) none)))) (λ w q n same. absurd (cc))

pub by_store : (m : Machine) (cells : List ℤ) (at after : ℕ → ℕ) (p t cell : ℕ) → p < m.workers → IsSound m → IsOrderedMachine m → IsLawful m cells at → act_at m p (at p) ≡ Some (store t cell) → Moves at after p (at p + 1) →
    IsLawful m (slice_set cells cell (stored_at m p (at p))) after
by_store m cells at after p t cell inside sound ordered law e moves =
    let f = found m p (at p) (store t cell) e in
    let (j, here, stores_cell_is, plain, end) = at_change m p (at p) t cell false (store t cell) f (tells p f.place f.index f.moment (store t cell) f.is) in
    keeps m cells (slice_set cells cell (stored_at m p (at p))) at after p (store t cell) inside law e moves (length-set cells cell (stored_at m p (at p)) ∙ law.size)
    (λ c lt. cell_set cells cell c (stored_at m p (at p)) (omega (arith, law.size, lt)) ∙ elim (cases_Bool (cell == c)) [
      | inl equal ↦ ap (λ b. if b then stored_at m p (at p) else cell_value cells c) equal ∙ stored_is m p (at p) t cell e ∙ subst (λ x. value_at m t ≡ last_value m after x) (eqb-true cell c equal) (sym (last_is j here stores_cell_is plain end (subst (λ x. x < m.cells) (sym (eqb-true cell c equal)) lt)))
      | inr other ↦ ap (λ b. if b then stored_at m p (at p) else cell_value cells c) other ∙ law.holds c lt ∙ sym (agree m c (is_done m after) (is_done m at) (λ u k there stores. same_elsewhere m at after p t u k (record { from = here.from; to = here.to }) moves there (λ same.
          let is : Some (job j) ≡ Some (job k) = sym here.at ∙ ap (slice_get m.timeline) (sym same) ∙ there in
          let equal : j ≡ k = cc in
          let stored : Some cell ≡ Some c = sym stores_cell_is ∙ ap (λ (x : Job). x.store) equal ∙ store_is k.store c stores in
          let cells_same : cell ≡ c = cc in
          true≢false (sym (eq-eqb cell c cells_same) ∙ other))))
    ]) (λ w q n same. absurd (cc))
  where
    -- the store is the last one to its cell
    last_is : (j : Job) → IsAt m p (at p) t j → j.store ≡ Some cell → j.adds ≡ false → at p + 1 ≡ acts_in_front m p (suc t) → cell < m.cells → last_value m after cell ≡ value_at m t
    last_is j here stores plain end lt =
        agree m cell (is_done m after) (in_front_of (suc t)) (λ u k there stores_too. elim (cases_eq u t) [
          | inl same ↦
              let is : Some (job j) ≡ Some (job k) = sym here.at ∙ ap (slice_get m.timeline) (sym same) ∙ there in
              let equal : j ≡ k = cc in
              let own : k.owner ≡ p = ap (λ (x : Job). x.owner) (sym equal) ∙ here.owner in
              le-leb (acts_in_front m k.owner (suc u)) (after k.owner) (subst (λ x. acts_in_front m k.owner (suc x) ≤ after k.owner) (sym same) (subst (λ o. acts_in_front m o (suc t) ≤ after o) (sym own) (omega (arith, moves.here, end))))
              ∙ sym (lt-ltb u (suc t) (omega (arith, same)))
          | inr other ↦
              same_elsewhere m at after p t u k (record { from = here.from; to = here.to }) moves there other
              ∙ agrees_in_front m cells at p t cell j sound ordered law here (stores_cell j cell stores plain) u k there stores_too
              ∙ ⊎_elim (λ less. lt-ltb u t less ∙ sym (lt-ltb u (suc t) (omega (arith, less)))) (λ le. le-ltb u t le ∙ sym (le-ltb u (suc t) (omega (arith, le, other)))) (cases_lt u t)
        ])
        ∙ sequential m cell (suc t) lt
        ∙ ap (λ memory. cell_value memory cell) (memory_more m t (job j) here.at)
        ∙ ap (λ o. cell_value (with_change (memory_at m t) o j.adds (j.assigned (map (cell_value (memory_at m t)) j.loads))) cell) stores
        ∙ ap (λ b. cell_value (with_change (memory_at m t) (Some cell) b (j.assigned (map (cell_value (memory_at m t)) j.loads))) cell) plain
        ∙ cell_set (memory_at m t) cell cell (j.assigned (map (cell_value (memory_at m t)) j.loads)) (omega (arith, memory_size m t, lt))
        ∙ ap (λ b. if b then j.assigned (map (cell_value (memory_at m t)) j.loads) else cell_value (memory_at m t) cell) (eq-eqb cell cell refl)
        ∙ sym (ap (λ o. assigned_by o (map (cell_value (memory_at m t)) (loads_by o))) here.at)

pub by_add : (m : Machine) (cells : List ℤ) (at after : ℕ → ℕ) (p t cell : ℕ) → p < m.workers → IsSound m → IsOrderedMachine m → IsLawful m cells at → act_at m p (at p) ≡ Some (add t cell) → Moves at after p (at p + 1) →
    IsLawful m (slice_set cells cell (plus (cell_value cells cell) (stored_at m p (at p)))) after
by_add m cells at after p t cell inside sound ordered law e moves =
    let f = found m p (at p) (add t cell) e in
    let (j, here, changes, adding, end) = at_change m p (at p) t cell true (add t cell) f (tells p f.place f.index f.moment (add t cell) f.is) in
    let v = plus (cell_value cells cell) (stored_at m p (at p)) in
    keeps m cells (slice_set cells cell v) at after p (add t cell) inside law e moves (length-set cells cell v ∙ law.size)
    (λ c lt. cell_set cells cell c v (omega (arith, law.size, lt)) ∙ elim (cases_Bool (cell == c)) [
      | inl equal ↦
          ap (λ b. if b then v else cell_value cells c) equal
          ∙ ap (plus (cell_value cells cell)) (added_is m p (at p) t cell e)
          ∙ subst (λ x. plus (cell_value cells cell) (value_at m t) ≡ last_value m after x) (eqb-true cell c equal)
          (ap (λ x. plus x (value_at m t)) (law.holds cell (subst (λ x. x < m.cells) (sym (eqb-true cell c equal)) lt)) ∙ sym (one_more j here changes adding end))
      | inr other ↦ ap (λ b. if b then v else cell_value cells c) other ∙ law.holds c lt ∙ sym (agree m c (is_done m after) (is_done m at) (λ u k there stores. same_elsewhere m at after p t u k (record { from = here.from; to = here.to }) moves there (λ same.
          let is : Some (job j) ≡ Some (job k) = sym here.at ∙ ap (slice_get m.timeline) (sym same) ∙ there in
          let equal : j ≡ k = cc in
          let stored : Some cell ≡ Some c = sym changes ∙ ap (λ (x : Job). x.store) equal ∙ store_is k.store c stores in
          let cells_same : cell ≡ c = cc in
          true≢false (sym (eq-eqb cell c cells_same) ∙ other))))
    ]) (λ w q n same. absurd (cc))
  where
    changed_cell : (j : Job) → j.store ≡ Some cell → stores_to j.store cell ≡ true
    changed_cell j changes = ap (λ o. stores_to o cell) changes ∙ eq-eqb cell cell refl

    -- it is one more of the adds, and behind it no store to the cell is done
    one_more : (j : Job) → IsAt m p (at p) t j → j.store ≡ Some cell → j.adds ≡ true → at p + 1 ≡ acts_in_front m p (suc t) → last_value m after cell ≡ plus (last_value m at cell) (value_at m t)
    one_more j here changes adding end =
        add_here m cell (is_done m at) (is_done m after) t j here.at adding (changed_cell j changes)
        (lt-leb (acts_in_front m j.owner (suc t)) (at j.owner) (subst (λ o. at o < acts_in_front m o (suc t)) (sym here.owner) here.to))
        (le-leb (acts_in_front m j.owner (suc t)) (after j.owner) (subst (λ o. acts_in_front m o (suc t) ≤ after o) (sym here.owner) (omega (arith, moves.here, end))))
        (λ u k there stores apart. sym (same_elsewhere m at after p t u k (record { from = here.from; to = here.to }) moves there apart))
        (λ u k there stores later done. stores_in_front m cells at p t cell j sound ordered law here changes u k there stores later
        (sym (same_elsewhere m at after p t u k (record { from = here.from; to = here.to }) moves there (λ same. omega (arith, same, later))) ∙ done))

-- ---- the end

pub ended : (m : Machine) (cells : List ℤ) (at : ℕ → ℕ) → IsSound m → IsLawful m cells at → ((p : ℕ) → p < m.workers → at p ≡ length (acts_of m p)) → (cell : ℕ) → cell < m.cells → cell_value cells cell ≡ cell_value (memory_at_end m) cell
ended m cells at sound law end cell lt =
    let n = length m.timeline in
    law.holds cell lt
    ∙ agree m cell (is_done m at) (in_front_of n) (λ u k there stores.
    let within = slice_get_within m.timeline u (job k) there in
    let rise = in_front-rises m k.owner (suc u) n (omega (arith, within)) in
    let whole : acts_in_front m k.owner n ≡ length (acts_of m k.owner) = ap (λ xs. length (acts_from k.owner 0 xs)) (take_all n m.timeline (omega arith)) in
    le-leb (acts_in_front m k.owner (suc u)) (at k.owner) (omega (arith, rise, whole, end k.owner (sound.owned u k there))) ∙ sym (lt-ltb u n within))
    ∙ sequential m cell n lt
    ∙ ap (λ xs. cell_value (fold memory_behind (replicate m.cells (pos 0)) xs) cell) (take_all n m.timeline (omega arith))
