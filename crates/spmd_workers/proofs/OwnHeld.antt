-- What a processor's own cells hold behind one act more.
use Rattle.std.proofs.Common.{◌≡◌, ◌≢◌, ◌==◌, ℕ, suc, ◌+◌, ◌<◌, ℤ, pos, true, false, get_or, length, set, Some, if◌then◌else◌, refl, sym, ◌∙◌, ap, inl, inr, arith, length-set}
use Rattle.std.specs.List.{range_with_len}
use Rattle.std.proofs.lemmas.Bool.{cases_Bool, cases_eq, eq-eqb, eqb-true}
use Rattle.std.proofs.lemmas.List.{ext_get_or, get_or-set_other, get_or-set_same}
use Rattle.std.proofs.lemmas.List.FromFn.{get_or-map-range_with_len, length-map-range_with_len}
use Rattle.nest_tree.specs.Layout.{cell_count}
use Rattle.spmd_model.specs.Timelines.{Word}
use Rattle.spmd_model.specs.Acts.{Act, post, await, load, store, add, print}
use Rattle.spmd_model.specs.Protocols.{act_at, held_at, held_by}
use Rattle.spmd_model.proofs.OwnRuns.{same_values}
use Rattle.shared_words.specs.Homes.{Home, protocol_at}
use Rattle.spmd_workers.specs.Places.{held_cells, own_place, tree_at}

apart : (a b : ℕ) → a ≢ b → (a == b) ≡ false
apart a b other = elim (cases_Bool (a == b)) [
  | inl same ↦ absurd (other (eqb-true a b same))
  | inr is ↦ is
]

module _ (h : Home) (p n : ℕ) where
  held_next : (cell : ℕ) → held_at (protocol_at h) p cell (n + 1) ≡ held_by cell ((protocol_at h).stored_at p n) (held_at (protocol_at h) p cell n) (act_at (protocol_at h) p n)
  held_next cell = let one : n + 1 ≡ suc n = omega arith in ap (held_at (protocol_at h) p cell) one

  pub held_there : (k : ℕ) → k < 32 → get_or (held_cells h p n) k (pos 0) ≡ held_at (protocol_at h) p (own_place h p k) n
  held_there k small = get_or-map-range_with_len (λ j. held_at (protocol_at h) p (own_place h p j) n) 0 32 k k (pos 0) small (omega arith)

  -- an act that stores to none of them leaves them
  leaves : (a : Act) → act_at (protocol_at h) p n ≡ Some a → ((k : ℕ) (w v : ℤ) → held_by (own_place h p k) w v (Some a) ≡ v) → held_cells h p (n + 1) ≡ held_cells h p n
  leaves a e same =
      same_values (λ k. held_at (protocol_at h) p (own_place h p k) (n + 1)) (λ k. held_at (protocol_at h) p (own_place h p k) n)
      (λ k. held_next (own_place h p k) ∙ ap (held_by (own_place h p k) ((protocol_at h).stored_at p n) (held_at (protocol_at h) p (own_place h p k) n)) e ∙ same k ((protocol_at h).stored_at p n) (held_at (protocol_at h) p (own_place h p k) n))
      (range_with_len 0 32)

  pub post_keeps : (word : Word) (number : ℕ) → act_at (protocol_at h) p n ≡ Some (post word number) → held_cells h p (n + 1) ≡ held_cells h p n
  post_keeps word number e = leaves (post word number) e (λ k w v. refl)

  pub await_keeps : (word : Word) (on wanted : ℕ) → act_at (protocol_at h) p n ≡ Some (await word on wanted) → held_cells h p (n + 1) ≡ held_cells h p n
  await_keeps word on wanted e = leaves (await word on wanted) e (λ k w v. refl)

  pub load_keeps : (place cell : ℕ) → act_at (protocol_at h) p n ≡ Some (load place cell) → held_cells h p (n + 1) ≡ held_cells h p n
  load_keeps place cell e = leaves (load place cell) e (λ k w v. refl)

  pub add_keeps : (place cell : ℕ) → act_at (protocol_at h) p n ≡ Some (add place cell) → held_cells h p (n + 1) ≡ held_cells h p n
  add_keeps place cell e = leaves (add place cell) e (λ k w v. refl)

  pub print_keeps : (place : ℕ) → act_at (protocol_at h) p n ≡ Some (print place) → held_cells h p (n + 1) ≡ held_cells h p n
  print_keeps place e = leaves (print place) e (λ k w v. refl)

  pub store_keeps : (place cell : ℕ) → cell < cell_count (tree_at h) → act_at (protocol_at h) p n ≡ Some (store place cell) → held_cells h p (n + 1) ≡ held_cells h p n
  store_keeps place cell shared e = leaves (store place cell) e (λ k w v. ap (λ b. if b then w else v) (apart cell (own_place h p k) (λ same. absurd (omega (arith, same, shared)))))

  -- a store to one of them sets it
  pub store_sets : (place k : ℕ) → k < 32 → act_at (protocol_at h) p n ≡ Some (store place (own_place h p k)) → held_cells h p (n + 1) ≡ set (held_cells h p n) k ((protocol_at h).stored_at p n)
  store_sets place k small e =
      let f : ℕ → ℤ = λ j. held_at (protocol_at h) p (own_place h p j) (n + 1) in
      let stored = (protocol_at h).stored_at p n in
      let old = held_cells h p n in
      let new_long : length (held_cells h p (n + 1)) ≡ 32 = length-map-range_with_len f 0 32 in
      let long : length old ≡ 32 = length-map-range_with_len (λ j. held_at (protocol_at h) p (own_place h p j) n) 0 32 in
      ext_get_or (pos 0) (held_cells h p (n + 1)) (set old k stored) (new_long ∙ sym long ∙ sym (length-set old k stored)) (λ i lt.
      let inside : i < 32 = omega (arith, lt, new_long) in
      let at : get_or (held_cells h p (n + 1)) i (pos 0) ≡ held_at (protocol_at h) p (own_place h p i) (n + 1) = get_or-map-range_with_len f 0 32 i i (pos 0) inside (omega arith) in
      let next = at ∙ held_next (own_place h p i) ∙ ap (held_by (own_place h p i) stored (held_at (protocol_at h) p (own_place h p i) n)) e in
      elim (cases_eq i k) [
        | inl same ↦ (
            let here : (own_place h p k == own_place h p i) ≡ true = eq-eqb (own_place h p k) (own_place h p i) (ap (own_place h p) (sym same)) in
            next ∙ ap (λ b. if b then stored else held_at (protocol_at h) p (own_place h p i) n) here
            ∙ sym (ap (λ j. get_or (set old k stored) j (pos 0)) same ∙ get_or-set_same old k stored (pos 0) (omega (arith, small, long)))
            )
        | inr other ↦ (
            let there : (own_place h p k == own_place h p i) ≡ false = apart (own_place h p k) (own_place h p i) (λ same. other (omega (arith, same))) in
            next ∙ ap (λ b. if b then stored else held_at (protocol_at h) p (own_place h p i) n) there ∙ sym (get_or-set_other old k i stored (pos 0) other ∙ held_there i inside)
            )
      ])
