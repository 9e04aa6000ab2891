-- The value that was stored last to a cell.
use Rattle.std.proofs.Common.{◌≡◌, ◌≢◌, ◌==◌, ◌&&◌, nat_lt, ℕ, zero, suc, ◌+◌, ◌<◌, ◌≤◌, ℤ, pos, ◌+ℤ◌, Bool, true, false, true≢false, List, [], ◌∷◌, length, map, replicate, take, fold, Option, Some, None, refl, ap, sym, subst, ◌∙◌, inl, inr, arith, if◌then◌else◌, zero-add}
use Rattle.std.specs.Prelude.{slice_get, slice_set}
use Rattle.std.specs.Int.{int_wrap, w64}
use Rattle.std.proofs.lemmas.Int.{ints, int_wrap-add_left}
use Rattle.std.proofs.lemmas.Bool.{cases_Bool, eq-eqb, eqb-true, lt-ltb, le-ltb}
use Rattle.std.proofs.lemmas.Grind.{get_or-set_at}
use Rattle.std.proofs.lemmas.List.{get_or-replicate, get_or-set_other, length-replicate, length-set}
use Rattle.std.proofs.lemmas.List.Sums.{fold-append}
use Rattle.nest_model.specs.Memory.{cell_value}
use Rattle.spmd_model.specs.Cells.{changed, plus, with_change}
use Rattle.spmd_model.specs.Timelines.{Job, Machine, Moment, boundary, job}
use Rattle.spmd_model.specs.States.{assigned_by}
use Rattle.spmd_model.specs.Sequential.{loads_by, memory_at, memory_behind, value_at}
use Rattle.spmd_model.specs.Lawful.{last_value_from, last_value_where, stores_to}
use Rattle.spmd_model.proofs.Lists.{take-more}

-- the moments of a list stand on the timeline from a place on
abbrev pub StandsFrom : Machine → ℕ → List Moment → Type 0
StandsFrom m place xs = (k : ℕ) (x : Moment) → slice_get xs k ≡ Some x → slice_get m.timeline (place + k) ≡ Some x

pub stands_later : (m : Machine) (place : ℕ) (y : Moment) (ys : List Moment) → StandsFrom m place (y ∷ ys) → StandsFrom m (suc place) ys
stands_later m place y ys h k x e = let next : place + suc k ≡ suc place + k = omega arith in ap (slice_get m.timeline) (sym next) ∙ h (suc k) x e

pub stands_here : (m : Machine) (place : ℕ) (y : Moment) (ys : List Moment) → StandsFrom m place (y ∷ ys) → slice_get m.timeline place ≡ Some y
stands_here m place y ys h = let same : place ≡ place + 0 = omega arith in ap (slice_get m.timeline) same ∙ h 0 y refl

-- two ways to say which jobs are done that agree on those that store to a cell
abbrev pub Agree : Machine → ℕ → (ℕ → Job → Bool) → (ℕ → Job → Bool) → Type 0
Agree m cell d e = (u : ℕ) (k : Job) → slice_get m.timeline u ≡ Some (job k) → stores_to k.store cell ≡ true → d u k ≡ e u k

agree_from : (m : Machine) (cell : ℕ) (d e : ℕ → Job → Bool) (place : ℕ) (xs : List Moment) (v : ℤ) → Agree m cell d e → StandsFrom m place xs → last_value_from m d cell place xs v ≡ last_value_from m e cell place xs v
agree_from m cell d e place [] v h stands = refl
agree_from m cell d e place (boundary w n posts awaits ∷ rest) v h stands = agree_from m cell d e (suc place) rest v h (stands_later m place (boundary w n posts awaits) rest stands)
agree_from m cell d e place (job j ∷ rest) v h stands =
    let same : (stores_to j.store cell && d place j) ≡ (stores_to j.store cell && e place j) = elim (cases_Bool (stores_to j.store cell)) [
      | inl stores ↦ ap (λ b. stores_to j.store cell && b) (h place j (stands_here m place (job j) rest stands) stores)
      | inr other ↦ ap (λ b. b && d place j) other ∙ sym (ap (λ b. b && e place j) other)
    ] in
    ap (λ b. last_value_from m d cell (suc place) rest (if b then changed j.adds v (value_at m place) else v)) same
    ∙ agree_from m cell d e (suc place) rest (if stores_to j.store cell && e place j then changed j.adds v (value_at m place) else v) h (stands_later m place (job j) rest stands)

pub agree : (m : Machine) (cell : ℕ) (d e : ℕ → Job → Bool) → Agree m cell d e → last_value_where m d cell ≡ last_value_where m e cell
agree m cell d e h = agree_from m cell d e 0 m.timeline (pos 0) h (λ k x at. ap (slice_get m.timeline) (zero-add k) ∙ at)

-- ---- the jobs in front of a place: memory there

abbrev pub in_front_of : ℕ → ℕ → Job → Bool
in_front_of t u k = nat_lt u t

none_later : (m : Machine) (t cell place : ℕ) (xs : List Moment) (v : ℤ) → t ≤ place → last_value_from m (in_front_of t) cell place xs v ≡ v
none_later m t cell place [] v le = refl
none_later m t cell place (boundary w n posts awaits ∷ rest) v le = none_later m t cell (suc place) rest v (omega arith)
none_later m t cell place (job j ∷ rest) v le =
    let not_done : nat_lt place t ≡ false = le-ltb place t le in
    ap (λ b. last_value_from m (in_front_of t) cell (suc place) rest (if stores_to j.store cell && b then changed j.adds v (value_at m place) else v)) not_done
    ∙ ap (λ b. last_value_from m (in_front_of t) cell (suc place) rest (if b then changed j.adds v (value_at m place) else v)) (and_false (stores_to j.store cell))
    ∙ none_later m t cell (suc place) rest v (omega arith)
  where
    and_false : (b : Bool) → (b && false) ≡ false
    and_false true = refl
    and_false false = refl

pub cell_set : (memory : List ℤ) (c cell : ℕ) (v : ℤ) → cell < length memory → cell_value (slice_set memory c v) cell ≡ (if c == cell then v else cell_value memory cell)
cell_set memory c cell v lt = elim (cases_Bool (c == cell)) [
  | inl equal ↦
      let same : c ≡ cell = eqb-true c cell equal in
      get_or-set_at memory c cell v (pos 0) (sym same) (omega (arith, same, lt)) ∙ sym (ap (λ b. if b then v else cell_value memory cell) equal)
  | inr other ↦ get_or-set_other memory c cell v (pos 0) (λ e. absurd (true≢false (sym (eq-eqb c cell (sym e)) ∙ other))) ∙ sym (ap (λ b. if b then v else cell_value memory cell) other)
]

pub cell_stored : (memory : List ℤ) (o : Option ℕ) (adds : Bool) (cell : ℕ) (v : ℤ) → cell < length memory → cell_value (with_change memory o adds v) cell ≡ (if stores_to o cell then changed adds (cell_value memory cell) v else cell_value memory cell)
cell_stored memory None adds cell v lt = refl
cell_stored memory (Some c) adds cell v lt = cell_set memory c cell (changed adds (cell_value memory c) v) lt ∙ by (c == cell) refl
  where
    by : (b : Bool) → (c == cell) ≡ b → (if b then changed adds (cell_value memory c) v else cell_value memory cell) ≡ (if b then changed adds (cell_value memory cell) v else cell_value memory cell)
    by true same = ap (λ x. changed adds (cell_value memory x) v) (eqb-true c cell same)
    by false other = refl

length_behind : (memory : List ℤ) (x : Moment) → length (memory_behind memory x) ≡ length memory
length_behind memory (boundary w n posts awaits) = refl
length_behind memory (job j) = by j.store j.adds (j.assigned (map (cell_value memory) j.loads))
  where
    by : (o : Option ℕ) (adds : Bool) (v : ℤ) → length (with_change memory o adds v) ≡ length memory
    by None adds v = refl
    by (Some c) adds v = length-set memory c (changed adds (cell_value memory c) v)

pub memory_more : (m : Machine) (t : ℕ) (x : Moment) → slice_get m.timeline t ≡ Some x → memory_at m (suc t) ≡ memory_behind (memory_at m t) x
memory_more m t x e = ap (fold memory_behind (replicate m.cells (pos 0))) (take-more m.timeline t x e) ∙ fold-append memory_behind (replicate m.cells (pos 0)) (take t m.timeline) (x ∷ [])

pub folded_size : (memory : List ℤ) (xs : List Moment) → length (fold memory_behind memory xs) ≡ length memory
folded_size memory [] = refl
folded_size memory (x ∷ xs) = folded_size (memory_behind memory x) xs ∙ length_behind memory x

pub memory_size : (m : Machine) (t : ℕ) → length (memory_at m t) ≡ m.cells
memory_size m t = folded_size (replicate m.cells (pos 0)) (take t m.timeline) ∙ length-replicate m.cells (pos 0)

sequential_from : (m : Machine) (cell : ℕ) (r place t : ℕ) (xs : List Moment) → cell < m.cells → place + r ≡ t → StandsFrom m place xs →
    last_value_from m (in_front_of t) cell place xs (cell_value (memory_at m place) cell) ≡ cell_value (fold memory_behind (memory_at m place) (take r xs)) cell
sequential_from m cell zero place t xs lt count stands = none_later m t cell place xs (cell_value (memory_at m place) cell) (omega (arith, count))
sequential_from m cell (suc r) place t [] lt count stands = refl
sequential_from m cell (suc r) place t (boundary w n posts awaits ∷ rest) lt count stands =
    let x = boundary w n posts awaits in
    let same : memory_at m (suc place) ≡ memory_at m place = memory_more m place x (stands_here m place x rest stands) in
    ap (λ memory. last_value_from m (in_front_of t) cell (suc place) rest (cell_value memory cell)) (sym same)
    ∙ sequential_from m cell r (suc place) t rest lt (omega (arith, count)) (stands_later m place x rest stands)
    ∙ ap (λ memory. cell_value (fold memory_behind memory (take r rest)) cell) same
sequential_from m cell (suc r) place t (job j ∷ rest) lt count stands =
    let at = stands_here m place (job j) rest stands in
    let more = memory_more m place (job j) at in
    let done : nat_lt place t ≡ true = lt-ltb place t (omega (arith, count)) in
    let value : value_at m place ≡ j.assigned (map (cell_value (memory_at m place)) j.loads) = ap (λ o. assigned_by o (map (cell_value (memory_at m place)) (loads_by o))) at in
    let next : cell_value (memory_at m (suc place)) cell ≡ (if stores_to j.store cell then changed j.adds (cell_value (memory_at m place) cell) (value_at m place) else cell_value (memory_at m place) cell) =
    ap (λ memory. cell_value memory cell) more
    ∙ cell_stored (memory_at m place) j.store j.adds cell (j.assigned (map (cell_value (memory_at m place)) j.loads)) (omega (arith, lt, memory_size m place))
    ∙ ap (λ v. if stores_to j.store cell then changed j.adds (cell_value (memory_at m place) cell) v else cell_value (memory_at m place) cell) (sym value) in
    ap (λ b. last_value_from m (in_front_of t) cell (suc place) rest (if stores_to j.store cell && b then changed j.adds (cell_value (memory_at m place) cell) (value_at m place) else cell_value (memory_at m place) cell)) done
    ∙ ap (λ b. last_value_from m (in_front_of t) cell (suc place) rest (if b then changed j.adds (cell_value (memory_at m place) cell) (value_at m place) else cell_value (memory_at m place) cell)) (and_true (stores_to j.store cell))
    ∙ ap (last_value_from m (in_front_of t) cell (suc place) rest) (sym next)
    ∙ sequential_from m cell r (suc place) t rest lt (omega (arith, count)) (stands_later m place (job j) rest stands)
    ∙ ap (λ memory. cell_value (fold memory_behind memory (take r rest)) cell) more
  where
    and_true : (b : Bool) → (b && true) ≡ b
    and_true true = refl
    and_true false = refl

-- the value that the jobs in front of a place stored last is the one in memory there
pub sequential : (m : Machine) (cell t : ℕ) → cell < m.cells → last_value_where m (in_front_of t) cell ≡ cell_value (memory_at m t) cell
sequential m cell t lt =
    let first : cell_value (memory_at m 0) cell ≡ pos 0 = get_or-replicate m.cells cell (pos 0) (pos 0) lt in
    ap (λ v. last_value_from m (in_front_of t) cell 0 m.timeline v) (sym first) ∙ sequential_from m cell t 0 t m.timeline lt (zero-add t) (λ k x at. ap (slice_get m.timeline) (zero-add k) ∙ at)

-- ---- adds come to the same in any order

pub plus-swap : (v a b : ℤ) → plus (plus v a) b ≡ plus (plus v b) a
plus-swap v a b = int_wrap-add_left w64 (v +ℤ a) b ∙ ap (int_wrap w64) swapped ∙ sym (int_wrap-add_left w64 (v +ℤ b) a)
  where
    swapped : (v +ℤ a) +ℤ b ≡ (v +ℤ b) +ℤ a
    swapped = omega (arith, ints)

-- where of the moments from a place on only adds to the cell are done, one more add in front of them is one more behind them
adds_later : (m : Machine) (cell : ℕ) (d e : ℕ → Job → Bool) (place : ℕ) (xs : List Moment) (v a : ℤ) → StandsFrom m place xs →
    ((u : ℕ) (k : Job) → place ≤ u → slice_get m.timeline u ≡ Some (job k) → stores_to k.store cell ≡ true → (d u k ≡ e u k) × (e u k ≡ true → k.adds ≡ true)) →
    last_value_from m e cell place xs (plus v a) ≡ plus (last_value_from m d cell place xs v) a
adds_later m cell d e place [] v a stands h = refl
adds_later m cell d e place (boundary w n posts awaits ∷ rest) v a stands h =
    adds_later m cell d e (suc place) rest v a (stands_later m place (boundary w n posts awaits) rest stands) (λ u k le. h u k (omega (arith, le)))
adds_later m cell d e place (job j ∷ rest) v a stands h =
    by (λ w. adds_later m cell d e (suc place) rest w a (stands_later m place (job j) rest stands) (λ u k le. h u k (omega (arith, le)))) (stores_to j.store cell) refl (d place j) (e place j) refl refl
  where
    at : slice_get m.timeline place ≡ Some (job j)
    at = stands_here m place (job j) rest stands

    step : ((w : ℤ) → last_value_from m e cell (suc place) rest (plus w a) ≡ plus (last_value_from m d cell (suc place) rest w) a) → (s b c : Bool) (w : ℤ) → (if s && c then changed j.adds (plus v a) (value_at m place) else plus v a) ≡ plus w a → (if s && b then changed j.adds v (value_at m place) else v) ≡ w →
        stores_to j.store cell ≡ s → d place j ≡ b → e place j ≡ c →
        last_value_from m e cell (suc place) rest (if stores_to j.store cell && e place j then changed j.adds (plus v a) (value_at m place) else plus v a)
        ≡ plus (last_value_from m d cell (suc place) rest (if stores_to j.store cell && d place j then changed j.adds v (value_at m place) else v)) a
    step further s b c w new old is_s is_b is_c =
        ap (λ x. last_value_from m e cell (suc place) rest (if x && e place j then changed j.adds (plus v a) (value_at m place) else plus v a)) is_s
        ∙ ap (λ x. last_value_from m e cell (suc place) rest (if s && x then changed j.adds (plus v a) (value_at m place) else plus v a)) is_c
        ∙ ap (last_value_from m e cell (suc place) rest) new
        ∙ further w
        ∙ sym (ap (λ x. plus (last_value_from m d cell (suc place) rest (if x && d place j then changed j.adds v (value_at m place) else v)) a) is_s
        ∙ ap (λ x. plus (last_value_from m d cell (suc place) rest (if s && x then changed j.adds v (value_at m place) else v)) a) is_b
        ∙ ap (λ x. plus (last_value_from m d cell (suc place) rest x) a) old)

    by : ((w : ℤ) → last_value_from m e cell (suc place) rest (plus w a) ≡ plus (last_value_from m d cell (suc place) rest w) a) → (s : Bool) → stores_to j.store cell ≡ s → (b c : Bool) → d place j ≡ b → e place j ≡ c →
        last_value_from m e cell (suc place) rest (if stores_to j.store cell && e place j then changed j.adds (plus v a) (value_at m place) else plus v a)
        ≡ plus (last_value_from m d cell (suc place) rest (if stores_to j.store cell && d place j then changed j.adds v (value_at m place) else v)) a
    by further false is_s b c is_b is_c = step further false b c v refl refl is_s is_b is_c
    by further true is_s false false is_b is_c = step further true false false v refl refl is_s is_b is_c
    by further true is_s true false is_b is_c = absurd (true≢false (sym is_b ∙ (h place j (omega arith) at is_s).0 ∙ is_c))
    by further true is_s false true is_b is_c = absurd (true≢false (sym (sym is_b ∙ (h place j (omega arith) at is_s).0 ∙ is_c)))
    by further true is_s true true is_b is_c =
        let adding = (h place j (omega arith) at is_s).1 is_c in
        let w = plus v (value_at m place) in
        step further true true true w (ap (λ x. changed x (plus v a) (value_at m place)) adding ∙ plus-swap v a (value_at m place)) (ap (λ x. changed x v (value_at m place)) adding) is_s is_b is_c

-- one more add at a place: where behind it only adds to the cell are done
add_from : (m : Machine) (cell : ℕ) (d e : ℕ → Job → Bool) (t r place : ℕ) (xs : List Moment) (v : ℤ) (j : Job) → StandsFrom m place xs → place + r ≡ t → slice_get m.timeline t ≡ Some (job j) → slice_get xs r ≡ Some (job j) →
    j.adds ≡ true → stores_to j.store cell ≡ true → d t j ≡ false → e t j ≡ true →
    ((u : ℕ) (k : Job) → slice_get m.timeline u ≡ Some (job k) → stores_to k.store cell ≡ true → u ≢ t → d u k ≡ e u k) →
    ((u : ℕ) (k : Job) → slice_get m.timeline u ≡ Some (job k) → stores_to k.store cell ≡ true → t < u → e u k ≡ true → k.adds ≡ true) →
    last_value_from m e cell place xs v ≡ plus (last_value_from m d cell place xs v) (value_at m t)
add_from m cell d e t r place [] v j stands count at here adding stores before now same later = let clash : None ≡ Some (job j) = here in absurd (cc)
add_from m cell d e t zero place (x ∷ rest) v j stands count at here adding stores before now same later =
    let is : Some x ≡ Some (job j) = here in
    let moment : x ≡ job j = cc in
    let place_is : place ≡ t = omega (arith, count) in
    subst (λ y. StandsFrom m place (y ∷ rest) → last_value_from m e cell place (y ∷ rest) v ≡ plus (last_value_from m d cell place (y ∷ rest) v) (value_at m t)) (sym moment) (by place_is) stands
  where
    by : place ≡ t → StandsFrom m place (job j ∷ rest) → last_value_from m e cell place (job j ∷ rest) v ≡ plus (last_value_from m d cell place (job j ∷ rest) v) (value_at m t)
    by place_is stands =
        let e_here : e place j ≡ true = ap (λ n. e n j) place_is ∙ now in
        let d_here : d place j ≡ false = ap (λ n. d n j) place_is ∙ before in
        let done = ap (λ b. last_value_from m e cell (suc place) rest (if b && e place j then changed j.adds v (value_at m place) else v)) stores
        ∙ ap (λ b. last_value_from m e cell (suc place) rest (if b then changed j.adds v (value_at m place) else v)) e_here
        ∙ ap (λ b. last_value_from m e cell (suc place) rest (changed b v (value_at m place))) adding in
        let undone = ap (λ b. last_value_from m d cell (suc place) rest (if b && d place j then changed j.adds v (value_at m place) else v)) stores
        ∙ ap (λ b. last_value_from m d cell (suc place) rest (if b then changed j.adds v (value_at m place) else v)) d_here in
        done
        ∙ adds_later m cell d e (suc place) rest v (value_at m place) (stands_later m place (job j) rest stands)
        (λ u k le there stores_too. (same u k there stores_too (λ u_is. omega (arith, u_is, place_is, le)), later u k there stores_too (omega (arith, le, place_is))))
        ∙ ap (λ x. plus x (value_at m place)) (sym undone) ∙ ap (λ n. plus (last_value_from m d cell place (job j ∷ rest) v) (value_at m n)) place_is
add_from m cell d e t (suc r) place (boundary w n posts awaits ∷ rest) v j stands count at here adding stores before now same later =
    add_from m cell d e t r (suc place) rest v j (stands_later m place (boundary w n posts awaits) rest stands) (omega (arith, count)) at here adding stores before now same later
add_from m cell d e t (suc r) place (job k ∷ rest) v j stands count at here adding stores before now same later =
    ap (λ b. last_value_from m e cell (suc place) rest (if b then changed k.adds v (value_at m place) else v)) front
    ∙ add_from m cell d e t r (suc place) rest (if stores_to k.store cell && d place k then changed k.adds v (value_at m place) else v) j (stands_later m place (job k) rest stands) (omega (arith, count)) at here adding stores before now same later
  where
    front : (stores_to k.store cell && e place k) ≡ (stores_to k.store cell && d place k)
    front = elim (cases_Bool (stores_to k.store cell)) [
      | inl stores_too ↦ ap (λ b. stores_to k.store cell && b) (sym (same place k (stands_here m place (job k) rest stands) stores_too (λ is. omega (arith, is, count))))
      | inr other ↦ ap (λ b. b && e place k) other ∙ sym (ap (λ b. b && d place k) other)
    ]

pub add_here : (m : Machine) (cell : ℕ) (d e : ℕ → Job → Bool) (t : ℕ) (j : Job) → slice_get m.timeline t ≡ Some (job j) → j.adds ≡ true → stores_to j.store cell ≡ true → d t j ≡ false → e t j ≡ true →
    ((u : ℕ) (k : Job) → slice_get m.timeline u ≡ Some (job k) → stores_to k.store cell ≡ true → u ≢ t → d u k ≡ e u k) →
    ((u : ℕ) (k : Job) → slice_get m.timeline u ≡ Some (job k) → stores_to k.store cell ≡ true → t < u → e u k ≡ true → k.adds ≡ true) →
    last_value_where m e cell ≡ plus (last_value_where m d cell) (value_at m t)
add_here m cell d e t j at adding stores before now same later =
    add_from m cell d e t t 0 m.timeline (pos 0) j (λ k x there. ap (slice_get m.timeline) (zero-add k) ∙ there) (zero-add t) at at adding stores before now same later
