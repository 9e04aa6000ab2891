-- Outputs, and the states in which a run has ended.
use Rattle.std.proofs.Common.{◌≡◌, ◌==◌, ℕ, suc, ◌<◌, ℤ, pos, Bool, true, false, true≢false, List, [], ◌∷◌, ◌++◌, length, map, take, drop, replicate, Option, Some, None, refl, ap, sym, ◌∙◌, inl, inr, arith, if◌then◌else◌, zero-add}
use Rattle.std.specs.Prelude.{slice_get, slice_index}
use Rattle.std.specs.List.{flat_map}
use Rattle.std.proofs.lemmas.Bool.{cases_Bool, eq-eqb}
use Rattle.nest_model.specs.Memory.{cell_value}
use Rattle.std.proofs.lemmas.Grind.{flat_map-append}
use Rattle.std.proofs.lemmas.List.{append-nil, ext_get_or, length-replicate, take-append-drop, take_all}
use Rattle.spmd_model.specs.Timelines.{Job, Machine, Moment, Word, boundary, job}
use Rattle.spmd_model.specs.Acts.{await, load, boundary_acts, job_acts, last_act, moment_acts, acts_from, acts_of}
use Rattle.spmd_model.specs.States.{State, line_by}
use Rattle.spmd_model.specs.Runs.{IsEnded}
use Rattle.spmd_model.specs.Sequential.{given_at, memory_at_end, loads_by, memory_at, moment_line, output_along, printed_line, whole_output}
use Rattle.spmd_model.specs.Ordered.{IsSound}
use Rattle.spmd_model.specs.Lawful.{IsLawful, act_line, printed_at}
use Rattle.spmd_model.specs.Reached.{IsSequential, positions_of}
use Rattle.spmd_model.proofs.LastValues.{StandsFrom, folded_size, memory_more, stands_here, stands_later}
use Rattle.spmd_model.proofs.ActLaws.{ended}

-- ---- output along the timeline

silent_loads : (m : Machine) (t : ℕ) (loads : List ℕ) → flat_map (act_line m) (map (load t) loads) ≡ []
silent_loads m t [] = refl
silent_loads m t (c ∷ rest) = silent_loads m t rest

silent_awaits : (m : Machine) (w : Word) (n : ℕ) (awaited : List ℕ) → flat_map (act_line m) (map (λ q. await w q n) awaited) ≡ []
silent_awaits m w n [] = refl
silent_awaits m w n (q ∷ rest) = silent_awaits m w n rest

silent_boundary : (m : Machine) (w : Word) (n : ℕ) (posts : Bool) (awaited : List ℕ) → flat_map (act_line m) (boundary_acts 0 w n posts awaited) ≡ []
silent_boundary m w n true awaited = silent_awaits m w n awaited
silent_boundary m w n false awaited = silent_awaits m w n awaited

last_line : (m : Machine) (t : ℕ) (j : Job) (o : Option ℕ) (b : Bool) → slice_get m.timeline t ≡ Some (job j) → flat_map (act_line m) (last_act t o b ∷ []) ≡ printed_line j o (given_at m t)
last_line m t j (Some cell) false at = refl
last_line m t j (Some cell) true at = refl
last_line m t j None b at = append-nil (line_by (slice_get m.timeline t) (given_at m t)) ∙ ap (λ o. line_by o (given_at m t)) at

-- what processor 0 prints for a moment is its line
moment_prints : (m : Machine) (t : ℕ) (x : Moment) → IsSound m → slice_get m.timeline t ≡ Some x → flat_map (act_line m) (moment_acts 0 t x) ≡ moment_line (memory_at m t) x
moment_prints m t (boundary w n posts awaits) sound at = silent_boundary m w n (posts 0) (awaits 0)
moment_prints m t (job j) sound at = elim (cases_Bool (j.owner == 0)) [
  | inl own ↦
      ap (λ b. flat_map (act_line m) (if b then job_acts t j else [])) own
      ∙ flat_map-append (act_line m) (map (load t) j.loads) (last_act t j.store j.adds ∷ [])
      ∙ ap (λ l. l ++ flat_map (act_line m) (last_act t j.store j.adds ∷ [])) (silent_loads m t j.loads)
      ∙ last_line m t j j.store j.adds at
      ∙ ap (λ o. printed_line j j.store (map (cell_value (memory_at m t)) (loads_by o))) at
  | inr other ↦ ap (λ b. flat_map (act_line m) (if b then job_acts t j else [])) other ∙ sym (silent other j.store refl)
]
  where
    silent : (j.owner == 0) ≡ false → (o : Option ℕ) → j.store ≡ o → printed_line j j.store (map (cell_value (memory_at m t)) j.loads) ≡ []
    silent other (Some cell) stores = ap (λ s. printed_line j s (map (cell_value (memory_at m t)) j.loads)) stores
    silent other None stores = absurd (true≢false (sym (eq-eqb j.owner 0 (sound.printed t j at stores)) ∙ other))

prints_from : (m : Machine) (place : ℕ) (xs : List Moment) → IsSound m → StandsFrom m place xs → flat_map (act_line m) (acts_from 0 place xs) ≡ output_along (memory_at m place) xs
prints_from m place [] sound stands = refl
prints_from m place (x ∷ xs) sound stands =
    flat_map-append (act_line m) (moment_acts 0 place x) (acts_from 0 (suc place) xs)
    ∙ ap (λ l. l ++ flat_map (act_line m) (acts_from 0 (suc place) xs)) (moment_prints m place x sound (stands_here m place x xs stands))
    ∙ ap (λ l. moment_line (memory_at m place) x ++ l) (prints_from m (suc place) xs sound (stands_later m place x xs stands) ∙ ap (λ memory. output_along memory xs) (memory_more m place x (stands_here m place x xs stands)))

pub prints_whole : (m : Machine) → IsSound m → flat_map (act_line m) (acts_of m 0) ≡ whole_output m
prints_whole m sound = prints_from m 0 m.timeline sound (λ k x at. ap (slice_get m.timeline) (zero-add k) ∙ at)

-- output so far is a front of the whole
pub output_front : (m : Machine) (s : State) → IsSound m → IsSequential m s → (rest : List ℕ) × (s.output ++ rest ≡ whole_output m)
output_front m s sound seq =
    let n = slice_index s.positions 0 in
    let rest = flat_map (act_line m) (drop n (acts_of m 0)) in
    (rest, ap (λ l. l ++ rest) seq.output ∙ sym (flat_map-append (act_line m) (take n (acts_of m 0)) (drop n (acts_of m 0))) ∙ ap (flat_map (act_line m)) (take-append-drop n (acts_of m 0)) ∙ prints_whole m sound)

-- ---- ended states

pub ended_output : (m : Machine) (s : State) → 0 < m.workers → IsSound m → IsSequential m s → IsEnded m s → s.output ≡ whole_output m
ended_output m s some sound seq end =
    seq.output ∙ ap (printed_at m 0) (end 0 some) ∙ ap (flat_map (act_line m)) (take_all (length (acts_of m 0)) (acts_of m 0) (omega arith)) ∙ prints_whole m sound

-- lawful memory is the last one where all have ended
pub whole_memory : (m : Machine) (memory : List ℤ) (at : ℕ → ℕ) → IsSound m → IsLawful m memory at → ((p : ℕ) → p < m.workers → at p ≡ length (acts_of m p)) → memory ≡ memory_at_end m
whole_memory m memory at sound law end =
    let size : length (memory_at_end m) ≡ m.cells = folded_size (replicate m.cells (pos 0)) m.timeline ∙ length-replicate m.cells (pos 0) in
    ext_get_or (pos 0) memory (memory_at_end m) (law.size ∙ sym size) (λ i lt. ended m memory at sound law end i (omega (arith, lt, law.size)))

pub ended_memory : (m : Machine) (s : State) → IsSound m → IsSequential m s → IsEnded m s → s.memory ≡ memory_at_end m
ended_memory m s sound seq end = whole_memory m s.memory (positions_of s) sound seq.lawful end
