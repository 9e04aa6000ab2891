-- Worked rows of ordered timelines, and of jobs that conflict.
use Rattle.std.proofs.Common.{◌≡◌, ◌≢◌, ◌⊎◌, ℕ, zero, suc, pos, true, false, true≢false, List, [], ◌∷◌, Some, refl, inl, inr, arith}
use Rattle.std.specs.Prelude.{slice_get}
use Rattle.std.specs.List.{Contains}
use Rattle.spmd_model.specs.Ordered.{Conflict, Hop, IsChain, IsOrderedMachine, Needs, awaited_in}
use Rattle.spmd_model.specs.Rounds.{AreEnough}
use Rattle.spmd_model.specs.Examples.{fixed, from_cell, heedless, waiting}

-- from the store by processor 1 a chain leads through the boundary, where processor 0 waits for it, to the load by processor 0
chain-example : IsChain waiting 1 2 (record { place = 3; processor = 0 } ∷ []) 0 4
chain-example = (omega arith, omega arith, omega arith, (0, omega arith, refl), (refl, omega arith))

clash-example : Conflict (fixed (pos 8) 1 1) (from_cell false 0 1 0)
clash-example = record { cell = 1; clash = inr (refl, inl (0, omega arith, refl)) }

nobody_waits : (place p q : ℕ) → Contains (awaited_in (slice_get heedless.timeline place) p) q → ⊥
nobody_waits zero p q (k, lt, e) = omega (arith, lt)
nobody_waits (suc zero) p q (k, lt, e) = omega (arith, lt)
nobody_waits (suc (suc zero)) p q (k, lt, e) = omega (arith, lt)
nobody_waits (suc (suc (suc zero))) p q (k, lt, e) = omega (arith, lt)
nobody_waits (suc (suc (suc (suc zero)))) p q (k, lt, e) = omega (arith, lt)
nobody_waits (suc (suc (suc (suc (suc n))))) p q (k, lt, e) = omega (arith, lt)

-- without the wait the timeline isn't ordered
unordered-example : IsOrderedMachine heedless → ⊥
unordered-example ordered = let chain = ordered 2 4 (fixed (pos 8) 1 1) (from_cell false 0 1 0) (omega arith) refl refl clash-example (λ e. omega (arith, e)) in by chain.0 chain.1
  where
    by : (hops : List Hop) → IsChain heedless 1 2 hops 0 4 → ⊥
    by [] (same, lt) = omega (arith, same)
    by (h ∷ hops) (lt, inside, some, among, rest) = nobody_waits h.place h.processor 1 among

-- an addition needs no cell but its own one
adds_alone : (owner own cell : ℕ) → own ≢ 0 → Needs (from_cell true owner own 0) cell → Some 0 ≡ Some cell → ⊥
adds_alone owner own cell apart (inl (zero, lt, e)) same = let is : 0 ≡ cell = cc in apart (omega (arith, e, is))
adds_alone owner own cell apart (inl (suc k, lt, e)) same = omega (arith, lt)
adds_alone owner own cell apart (inr (stores, stored)) same = true≢false stored

-- two additions don't conflict; an addition and a load of its cell do
additions-example : Conflict (from_cell true 0 1 0) (from_cell true 1 2 0) → ⊥
additions-example conflict = by conflict.clash
  where
    by : (Needs (from_cell true 0 1 0) conflict.cell × (Some 0 ≡ Some conflict.cell)) ⊎ ((Some 0 ≡ Some conflict.cell) × Needs (from_cell true 1 2 0) conflict.cell) → ⊥
    by (inl (needs, same)) = adds_alone 0 1 conflict.cell (λ e. omega (arith, e)) needs same
    by (inr (same, needs)) = adds_alone 1 2 conflict.cell (λ e. omega (arith, e)) needs same

read_sum-example : Conflict (from_cell true 0 1 0) (from_cell false 1 0 3)
read_sum-example = record { cell = 0; clash = inr (refl, inl (0, omega arith, refl)) }

-- three processors take two rounds; one reaches too few, and a third isn't needed
enough-example : AreEnough 3 2
enough-example = record { reach = omega arith; least = omega arith }

fewer-example : AreEnough 3 1 → ⊥
fewer-example enough = let reach = enough.reach in omega (arith, reach)

more-example : AreEnough 3 3 → ⊥
more-example enough = let least = enough.least in omega (arith, least)
