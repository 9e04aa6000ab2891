-- What a processor's loads gave in front of its acts.
use Rattle.std.proofs.Common.{◌≡◌, ◌==◌, ℕ, suc, ◌+◌, ℤ, Bool, true, false, List, [], ◌∷◌, ◌++◌, length, map, take, drop, fold, Option, Some, None, refl, ap, sym, ◌∙◌, if◌then◌else◌, zero-add}
use Rattle.std.specs.Prelude.{slice_get}
use Rattle.std.proofs.lemmas.List.{append-nil, append_assoc, length-map}
use Rattle.std.proofs.lemmas.List.Sums.{fold-append}
use Rattle.std.proofs.Math.Seq.{take-append_seam}
use Rattle.list_lemmas.proofs.Appending.{take-behind}
use Rattle.nest_model.specs.Memory.{cell_value}
use Rattle.spmd_model.specs.Timelines.{Job, Machine, Moment, Word, boundary, job}
use Rattle.spmd_model.specs.Acts.{await, load, store, add, print, boundary_acts, job_acts, last_act, moment_acts, acts_from, acts_of, act_at}
use Rattle.spmd_model.specs.Sequential.{given_at, loads_by, memory_at, registers_at, registers_behind, stored_at, stored_by, value_at}
use Rattle.spmd_model.specs.Lawful.{acts_in_front}
use Rattle.spmd_model.proofs.ActLists.{acts_split, found}
use Rattle.spmd_model.proofs.MomentActs.{IsChangeIn, IsLastIn, own_acts, tells}

-- a job's loads give their values one behind another, and its last act leaves none
loads_give : (m : Machine) (t : ℕ) (given : List ℤ) (loads : List ℕ) → fold (registers_behind m) given (map (load t) loads) ≡ given ++ map (cell_value (memory_at m t)) loads
loads_give m t given [] = sym (append-nil given)
loads_give m t given (c ∷ rest) =
    loads_give m t (given ++ cell_value (memory_at m t) c ∷ []) rest ∙ append_assoc given (cell_value (memory_at m t) c ∷ []) (map (cell_value (memory_at m t)) rest)

last_clears : (m : Machine) (t : ℕ) (given : List ℤ) (o : Option ℕ) (b : Bool) → registers_behind m given (last_act t o b) ≡ []
last_clears m t given (Some cell) false = refl
last_clears m t given (Some cell) true = refl
last_clears m t given None b = refl

awaits_keep : (m : Machine) (given : List ℤ) (w : Word) (n : ℕ) (awaited : List ℕ) → fold (registers_behind m) given (map (λ q. await w q n) awaited) ≡ given
awaits_keep m given w n [] = refl
awaits_keep m given w n (q ∷ rest) = awaits_keep m given w n rest

job_clears : (m : Machine) (t : ℕ) (j : Job) → fold (registers_behind m) [] (job_acts t j) ≡ []
job_clears m t j = fold-append (registers_behind m) [] (map (load t) j.loads) (last_act t j.store j.adds ∷ []) ∙ last_clears m t (fold (registers_behind m) [] (map (load t) j.loads)) j.store j.adds

moment_clears : (m : Machine) (p t : ℕ) (x : Moment) → fold (registers_behind m) [] (moment_acts p t x) ≡ []
moment_clears m p t (boundary w n posts awaits) = by (posts p)
  where
    by : (b : Bool) → fold (registers_behind m) [] (boundary_acts p w n b (awaits p)) ≡ []
    by true = awaits_keep m [] w n (awaits p)
    by false = awaits_keep m [] w n (awaits p)
moment_clears m p t (job j) = by (j.owner == p)
  where
    by : (b : Bool) → fold (registers_behind m) [] (if b then job_acts t j else []) ≡ []
    by true = job_clears m t j
    by false = refl

acts_clear : (m : Machine) (p place : ℕ) (xs : List Moment) → fold (registers_behind m) [] (acts_from p place xs) ≡ []
acts_clear m p place [] = refl
acts_clear m p place (x ∷ xs) =
    fold-append (registers_behind m) [] (moment_acts p place x) (acts_from p (suc place) xs) ∙ ap (λ g. fold (registers_behind m) g (acts_from p (suc place) xs)) (moment_clears m p place x) ∙ acts_clear m p (suc place) xs

-- in front of the last act of a job stands all that its loads give
pub registers_whole : (m : Machine) (p t i : ℕ) (j : Job) → slice_get m.timeline t ≡ Some (job j) → j.owner ≡ p → i ≡ length j.loads → registers_at m p (acts_in_front m p t + i) ≡ given_at m t
registers_whole m p t i j at own index =
    let before = acts_from p 0 (take t m.timeline) in
    let rest = acts_from p (suc t) (drop (suc t) m.timeline) in
    let loads = map (load t) j.loads in
    let all : acts_of m p ≡ before ++ (loads ++ (last_act t j.store j.adds ∷ [] ++ rest)) =
    acts_split p 0 m.timeline t (job j) t at (zero-add t) ∙ ap (λ l. before ++ (l ++ rest)) (own_acts p t j own) ∙ ap (λ l. before ++ l) (append_assoc loads (last_act t j.store j.adds ∷ []) rest) in
    let count : i ≡ length loads = index ∙ sym (length-map j.loads (load t)) in
    let front : take (length before + i) (acts_of m p) ≡ before ++ loads =
    ap (take (length before + i)) all ∙ take-behind before (loads ++ (last_act t j.store j.adds ∷ [] ++ rest)) i ∙ ap (λ l. before ++ l) (ap (λ k. take k (loads ++ (last_act t j.store j.adds ∷ [] ++ rest))) count ∙ take-append_seam loads (last_act t j.store j.adds ∷ [] ++ rest)) in
    ap (fold (registers_behind m) []) front
    ∙ fold-append (registers_behind m) [] before loads
    ∙ ap (λ g. fold (registers_behind m) g loads) (acts_clear m p 0 (take t m.timeline))
    ∙ loads_give m t [] j.loads
    ∙ ap (λ o. map (cell_value (memory_at m t)) (loads_by o)) (sym at)

-- so a store stores the sequential value, and a PRINT has what the sequential loads give
pub store_whole : (m : Machine) (p n t cell : ℕ) → act_at m p n ≡ Some (store t cell) → registers_at m p n ≡ given_at m t
store_whole m p n t cell e =
    let f = found m p n (store t cell) e in
    let l : IsChangeIn p f.place f.index t cell false f.moment = tells p f.place f.index f.moment (store t cell) f.is in
    ap (registers_at m p) f.number ∙ registers_whole m p f.place f.index l.job_is (f.at ∙ ap Some l.moment) l.owner l.index ∙ ap (given_at m) (sym l.place)

pub add_whole : (m : Machine) (p n t cell : ℕ) → act_at m p n ≡ Some (add t cell) → registers_at m p n ≡ given_at m t
add_whole m p n t cell e =
    let f = found m p n (add t cell) e in
    let l : IsChangeIn p f.place f.index t cell true f.moment = tells p f.place f.index f.moment (add t cell) f.is in
    ap (registers_at m p) f.number ∙ registers_whole m p f.place f.index l.job_is (f.at ∙ ap Some l.moment) l.owner l.index ∙ ap (given_at m) (sym l.place)

pub print_whole : (m : Machine) (p n t : ℕ) → act_at m p n ≡ Some (print t) → registers_at m p n ≡ given_at m t
print_whole m p n t e =
    let f = found m p n (print t) e in
    let l : IsLastIn p f.place f.index t None f.moment = tells p f.place f.index f.moment (print t) f.is in
    ap (registers_at m p) f.number ∙ registers_whole m p f.place f.index l.job_is (f.at ∙ ap Some l.moment) l.owner l.index ∙ ap (given_at m) (sym l.place)

pub stored_is : (m : Machine) (p n t cell : ℕ) → act_at m p n ≡ Some (store t cell) → stored_at m p n ≡ value_at m t
stored_is m p n t cell e = ap (stored_by m (registers_at m p n)) e ∙ ap (λ g. stored_by m g (Some (store t cell))) (store_whole m p n t cell e)

pub added_is : (m : Machine) (p n t cell : ℕ) → act_at m p n ≡ Some (add t cell) → stored_at m p n ≡ value_at m t
added_is m p n t cell e = ap (stored_by m (registers_at m p n)) e ∙ ap (λ g. stored_by m g (Some (add t cell))) (add_whole m p n t cell e)
