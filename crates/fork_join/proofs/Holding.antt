-- What a processor's own cells hold behind an act.
use Rattle.std.proofs.Common.{◌≡◌, ◌≢◌, ℕ, suc, ◌+◌, ◌<◌, ◌≤◌, nat_lt, ℤ, pos, Bool, true, List, length, set, Some, if◌then◌else◌, refl, sym, ◌∙◌, ap, inl, inr, arith}
use Rattle.std.proofs.lemmas.Bool.{cases_eq, eq-eqb, ltb-true, ne_eqb}
use Rattle.std.proofs.lemmas.List.{get_or-set_other, get_or-set_same}
use Rattle.nest_tree.specs.Layout.{cell_count}
use Rattle.nest_tree.specs.Tree.{Tree}
use Rattle.nest_model.specs.Memory.{cell_value}
use Rattle.sync_plan.specs.declared.plan.Plan.{Plan}
use Rattle.spmd_model.specs.Acts.{Act, post, await, load, store, add, print}
use Rattle.spmd_model.specs.Protocols.{Protocol, act_at, held_at, held_by}
use Rattle.fork_join.specs.Joins.{HoldsOwn, own_place, protocol}

-- an act stores to no cell behind so many
abbrev pub leaves_own : ℕ → Act → Bool
leaves_own cells (post word number) = true
leaves_own cells (await word on wanted) = true
leaves_own cells (load place cell) = true
leaves_own cells (store place cell) = nat_lt cell cells
leaves_own cells (add place cell) = true
leaves_own cells (print place) = true

module _ (m : Protocol) (p cell n : ℕ) (a : Act) (act : act_at m p n ≡ Some a) where
  held_next : held_at m p cell (n + 1) ≡ held_by cell (m.stored_at p n) (held_at m p cell n) (Some a)
  held_next = let k : n + 1 ≡ suc n = omega arith in ap (held_at m p cell) k ∙ ap (held_by cell (m.stored_at p n) (held_at m p cell n)) act

  pub held_left : (cells : ℕ) → leaves_own cells a ≡ true → cells ≤ cell → held_at m p cell (n + 1) ≡ held_at m p cell n
  held_left cells leaves behind = held_next ∙ by a leaves
    where
      by : (b : Act) → leaves_own cells b ≡ true → held_by cell (m.stored_at p n) (held_at m p cell n) (Some b) ≡ held_at m p cell n
      by (post word number) is = refl
      by (await word on wanted) is = refl
      by (load place c) is = refl
      by (store place c) is =
          let lt = ltb-true c cells is in
          ap (λ b. if b then m.stored_at p n else held_at m p cell n) (ne_eqb c cell (λ same. absurd (omega (arith, same, lt, behind))))
      by (add place c) is = refl
      by (print place) is = refl

module _ (m : Protocol) (p c cell n place : ℕ) (act : act_at m p n ≡ Some (store place c)) where
  pub held_stored : c ≡ cell → held_at m p cell (n + 1) ≡ m.stored_at p n
  held_stored same = held_next m p cell n (store place c) act ∙ ap (λ b. if b then m.stored_at p n else held_at m p cell n) (eq-eqb c cell same)

  pub held_other : c ≢ cell → held_at m p cell (n + 1) ≡ held_at m p cell n
  held_other other = held_next m p cell n (store place c) act ∙ ap (λ b. if b then m.stored_at p n else held_at m p cell n) (ne_eqb c cell other)

module _ (tree : Tree) (plan : Plan) (p n : ℕ) (own : List ℤ) (holds : HoldsOwn tree plan p own n) where
  -- behind an act that stores to none of them
  pub holds_still : (a : Act) → act_at (protocol tree plan) p n ≡ Some a → leaves_own (cell_count tree) a ≡ true → HoldsOwn tree plan p own (n + 1)
  holds_still a act leaves k lt = holds k lt ∙ sym (held_left (protocol tree plan) p (own_place tree p k) n a act (cell_count tree) leaves (omega arith))

  -- behind a store to one
  pub holds_stored : (place k : ℕ) (v : ℤ) → act_at (protocol tree plan) p n ≡ Some (store place (own_place tree p k)) → v ≡ (protocol tree plan).stored_at p n → k < length own → HoldsOwn tree plan p (set own k v) (n + 1)
  holds_stored place k v act value inside j lt = elim (cases_eq j k) [
    | inl same ↦
        let cell : own_place tree p k ≡ own_place tree p j = ap (own_place tree p) (sym same) in
        ap (cell_value (set own k v)) same ∙ get_or-set_same own k v (pos 0) inside ∙ value ∙ sym (held_stored (protocol tree plan) p (own_place tree p k) (own_place tree p j) n place act cell)
    | inr other ↦
        let apart : own_place tree p k ≡ own_place tree p j → ⊥ = λ e. other (omega (arith, e)) in
        get_or-set_other own k j v (pos 0) other ∙ holds j lt ∙ sym (held_other (protocol tree plan) p (own_place tree p k) (own_place tree p j) n place act apart)
  ]
