-- The closing of an own scalar: what its own cell holds goes to the cell that all share.
use Rattle.std.proofs.Common.{◌≡◌, ℕ, ◌+◌, ◌<◌, ◌≤◌, ℤ, pos, List, [], ◌∷◌, ◌++◌, drop, length, length-drop, set, Some, refl, sym, ◌∙◌, ap, subst, arith}
use Rattle.std.proofs.lemmas.Bool.{le-leb, lt-ltb}
use Rattle.nest_tree.specs.Layout.{cell_count}
use Rattle.nest_tree.specs.Tree.{Tree}
use Rattle.nest_model.specs.Memory.{cell_value}
use Rattle.sync_plan.specs.declared.plan.Plan.{Plan}
use Rattle.spmd_model.specs.Cells.{plus}
use Rattle.spmd_model.specs.Closings.{given_first}
use Rattle.spmd_model.specs.Deeds.{Deed, adding, loading, storing}
use Rattle.spmd_model.specs.Lawful.{Moves, put}
use Rattle.spmd_model.specs.MachineDeeds.{keeping_deeds, totalling_deeds}
use Rattle.spmd_model.specs.Acts.{add, load, store}
use Rattle.spmd_model.specs.declared.style.Style.TheVariants.{Arrive}
use Rattle.spmd_model.specs.Protocols.{act_at}
use Rattle.spmd_model.specs.PlanProtocols.{printed_by, registers_by}
use Rattle.spmd_model.proofs.Places.{put_moves}
use Rattle.fork_join.specs.Joins.{HoldsOwn, IsSafe, all_deeds, own_place, protocol}
use Rattle.fork_join.proofs.Acts.{add_there, load_there, store_there}
use Rattle.fork_join.proofs.Crossing.{onwards}
use Rattle.fork_join.proofs.Holding.{holds_still, holds_stored}
use Rattle.fork_join.proofs.Seeing.{next_drop, next_get}

-- a processor behind so many deeds, and what all share
pub record Closed (tree : Tree) (plan : Plan) (p : ℕ) (rest : List Deed) (own : List ℤ) (from after : ℕ) : Type 0 where
  pub left : drop after (all_deeds tree plan p) ≡ rest
  pub within : after ≤ length (all_deeds tree plan p)
  pub idle : registers_by Arrive tree plan p after ≡ []
  pub printed : printed_by Arrive tree plan p after ≡ printed_by Arrive tree plan p from
  pub holds : HoldsOwn tree plan p own after

module _ (tree : Tree) (plan : Plan) (safe : IsSafe tree plan) (p n k to : ℕ) (below : p < plan.workers) (small : k < 32) (shared : to < cell_count tree) (own : List ℤ) (holds : HoldsOwn tree plan p own n) (idle : registers_by Arrive tree plan p n ≡ []) where
  abbrev v : ℤ
  v = cell_value own k

  module _ (d : Deed) (more : List Deed) (is : drop n (all_deeds tree plan p) ≡ loading (own_place tree p k) ∷ d ∷ more) where
    load_at : (place : ℕ) × (act_at (protocol tree plan) p n ≡ Some (load place (own_place tree p k)))
    load_at = load_there tree plan safe p n below (own_place tree p k) (next_get (all_deeds tree plan p) n (loading (own_place tree p k)) (d ∷ more) is)

    second : drop (n + 1) (all_deeds tree plan p) ≡ d ∷ more
    second = next_drop (all_deeds tree plan p) n (loading (own_place tree p k)) (d ∷ more) is

    third : drop (n + 2) (all_deeds tree plan p) ≡ more
    third = let next : n + 2 ≡ n + 1 + 1 = omega arith in ap (λ j. drop j (all_deeds tree plan p)) next ∙ next_drop (all_deeds tree plan p) (n + 1) d more second

    loaded : registers_by Arrive tree plan p (n + 1) ≡ v ∷ []
    loaded =
        safe.laws.load_appends p n load_at.0 (own_place tree p k) load_at.1
        ∙ ap (λ l. l ++ (protocol tree plan).loaded_at p n ∷ []) idle
        ∙ ap (λ x. x ∷ []) (safe.own p n load_at.0 (own_place tree p k) (omega arith) load_at.1 ∙ sym (holds k small))

    held_loaded : HoldsOwn tree plan p own (n + 1)
    held_loaded = holds_still tree plan p n own holds (load load_at.0 (own_place tree p k)) load_at.1 refl

    printed_loaded : printed_by Arrive tree plan p (n + 1) ≡ printed_by Arrive tree plan p n
    printed_loaded = safe.laws.printed_leaves p n (load load_at.0 (own_place tree p k)) load_at.1 refl

    count : n + 2 ≤ length (all_deeds tree plan p)
    count = omega (arith, ap length is, length-drop n (all_deeds tree plan p))

    -- in lawful memory the load changes nothing
    module _ (memory : List ℤ) (at : ℕ → ℕ) (lawful : (protocol tree plan).lawful memory (put at p n)) where
      lawful_loaded : (protocol tree plan).lawful memory (put at p (n + 1))
      lawful_loaded =
          let here : put at p n p ≡ n = (put_moves at p n).here in
          let next : n + 1 ≡ put at p n p + 1 = omega (arith, here) in
          safe.laws.by_load memory (put at p n) (put at p (n + 1)) p load_at.0 (own_place tree p k) below lawful (ap (act_at (protocol tree plan) p) here ∙ load_at.1)
          (subst (Moves (put at p n) (put at p (n + 1)) p) next (onwards at (put at p (n + 1)) p n (n + 1) (put_moves at p (n + 1))))

  -- a private scalar
  module _ (rest : List Deed) (is : drop n (all_deeds tree plan p) ≡ keeping_deeds (own_place tree p k) to ++ rest) where
    store_at : (place : ℕ) × (act_at (protocol tree plan) p (n + 1) ≡ Some (store place to))
    store_at = store_there tree plan safe p (n + 1) below to given_first (next_get (all_deeds tree plan p) (n + 1) (storing to given_first) rest (second (storing to given_first) rest is))

    stored : v ≡ (protocol tree plan).stored_at p (n + 1)
    unfolding all_deeds
    stored = sym (safe.stored p (n + 1) to given_first below (next_get (all_deeds tree plan p) (n + 1) (storing to given_first) rest (second (storing to given_first) rest is)) ∙ ap given_first (loaded (storing to given_first) rest is))

    pub kept : Closed tree plan p rest own n (n + 2)
    kept =
        let two : n + 1 + 1 ≡ n + 2 = omega arith in
        record {
          left = third (storing to given_first) rest is;
          within = count (storing to given_first) rest is;
          idle = ap (registers_by Arrive tree plan p) (sym two) ∙ safe.laws.store_empties p (n + 1) store_at.0 to store_at.1;
          printed = ap (printed_by Arrive tree plan p) (sym two) ∙ safe.laws.printed_leaves p (n + 1) (store store_at.0 to) store_at.1 refl ∙ printed_loaded (storing to given_first) rest is;
          holds = subst (HoldsOwn tree plan p own) two (holds_still tree plan p (n + 1) own (held_loaded (storing to given_first) rest is) (store store_at.0 to) store_at.1 (lt-ltb to (cell_count tree) shared));
        }

    pub keeps_lawful : (memory : List ℤ) (at : ℕ → ℕ) → (protocol tree plan).lawful memory (put at p n) → (protocol tree plan).lawful (set memory to v) (put at p (n + 2))
    keeps_lawful memory at lawful =
        let before = lawful_loaded (storing to given_first) rest is memory at lawful in
        let here : put at p (n + 1) p ≡ n + 1 = (put_moves at p (n + 1)).here in
        let next : n + 2 ≡ put at p (n + 1) p + 1 = omega (arith, here) in
        let stores = safe.laws.by_store memory (put at p (n + 1)) (put at p (n + 2)) p store_at.0 to below before (ap (act_at (protocol tree plan) p) here ∙ store_at.1) shared
        (subst (Moves (put at p (n + 1)) (put at p (n + 2)) p) next (onwards at (put at p (n + 2)) p (n + 1) (n + 2) (put_moves at p (n + 2)))) in
        subst (λ (x : ℤ). (protocol tree plan).lawful (set memory to x) (put at p (n + 2))) (ap ((protocol tree plan).stored_at p) here ∙ sym stored) stores

  -- a sum scalar
  module _ (rest : List Deed) (inside : k < length own) (is : drop n (all_deeds tree plan p) ≡ totalling_deeds (own_place tree p k) to ++ rest) where
    abbrev clears : Deed
    clears = storing (own_place tree p k) (λ given. pos 0)

    add_at : (place : ℕ) × (act_at (protocol tree plan) p (n + 1) ≡ Some (add place to))
    add_at = add_there tree plan safe p (n + 1) below to given_first (next_get (all_deeds tree plan p) (n + 1) (adding to given_first) (clears ∷ rest) (second (adding to given_first) (clears ∷ rest) is))

    added : v ≡ (protocol tree plan).stored_at p (n + 1)
    unfolding all_deeds
    added = sym (safe.added p (n + 1) to given_first below (next_get (all_deeds tree plan p) (n + 1) (adding to given_first) (clears ∷ rest) (second (adding to given_first) (clears ∷ rest) is)) ∙ ap given_first (loaded (adding to given_first) (clears ∷ rest) is))

    last : drop (n + 2) (all_deeds tree plan p) ≡ clears ∷ rest
    last = third (adding to given_first) (clears ∷ rest) is

    clear_at : (place : ℕ) × (act_at (protocol tree plan) p (n + 2) ≡ Some (store place (own_place tree p k)))
    clear_at = store_there tree plan safe p (n + 2) below (own_place tree p k) (λ given. pos 0) (next_get (all_deeds tree plan p) (n + 2) clears rest last)

    cleared : pos 0 ≡ (protocol tree plan).stored_at p (n + 2)
    unfolding all_deeds
    cleared = sym (safe.stored p (n + 2) (own_place tree p k) (λ given. pos 0) below (next_get (all_deeds tree plan p) (n + 2) clears rest last))

    pub totalled : Closed tree plan p rest (set own k (pos 0)) n (n + 3)
    totalled =
        let two : n + 1 + 1 ≡ n + 2 = omega arith in
        let three : n + 2 + 1 ≡ n + 3 = omega arith in
        let held = subst (HoldsOwn tree plan p own) two (holds_still tree plan p (n + 1) own (held_loaded (adding to given_first) (clears ∷ rest) is) (add add_at.0 to) add_at.1 refl) in
        record {
          left = ap (λ j. drop j (all_deeds tree plan p)) (sym three) ∙ next_drop (all_deeds tree plan p) (n + 2) clears rest last;
          within = omega (arith, ap length last, length-drop (n + 2) (all_deeds tree plan p));
          idle = ap (registers_by Arrive tree plan p) (sym three) ∙ safe.laws.store_empties p (n + 2) clear_at.0 (own_place tree p k) clear_at.1;
          printed =
              ap (printed_by Arrive tree plan p) (sym three) ∙ safe.laws.printed_leaves p (n + 2) (store clear_at.0 (own_place tree p k)) clear_at.1 refl
              ∙ ap (printed_by Arrive tree plan p) (sym two) ∙ safe.laws.printed_leaves p (n + 1) (add add_at.0 to) add_at.1 refl ∙ printed_loaded (adding to given_first) (clears ∷ rest) is;
          holds = subst (HoldsOwn tree plan p (set own k (pos 0))) three (holds_stored tree plan p (n + 2) own held clear_at.0 k (pos 0) clear_at.1 cleared inside);
        }

    pub totals_lawful : (memory : List ℤ) (at : ℕ → ℕ) → (protocol tree plan).lawful memory (put at p n) → (protocol tree plan).lawful (set memory to (plus (cell_value memory to) v)) (put at p (n + 3))
    totals_lawful memory at lawful =
        let before = lawful_loaded (adding to given_first) (clears ∷ rest) is memory at lawful in
        let here : put at p (n + 1) p ≡ n + 1 = (put_moves at p (n + 1)).here in
        let next : n + 2 ≡ put at p (n + 1) p + 1 = omega (arith, here) in
        let adds = safe.laws.by_add memory (put at p (n + 1)) (put at p (n + 2)) p add_at.0 to below before (ap (act_at (protocol tree plan) p) here ∙ add_at.1) shared
        (subst (Moves (put at p (n + 1)) (put at p (n + 2)) p) next (onwards at (put at p (n + 2)) p (n + 1) (n + 2) (put_moves at p (n + 2)))) in
        let total = subst (λ (x : ℤ). (protocol tree plan).lawful (set memory to (plus (cell_value memory to) x)) (put at p (n + 2))) (ap ((protocol tree plan).stored_at p) here ∙ sym added) adds in
        let there : put at p (n + 2) p ≡ n + 2 = (put_moves at p (n + 2)).here in
        let last_one : n + 3 ≡ put at p (n + 2) p + 1 = omega (arith, there) in
        safe.laws.by_quiet (set memory to (plus (cell_value memory to) v)) (put at p (n + 2)) (put at p (n + 3)) p (store clear_at.0 (own_place tree p k)) below total (ap (act_at (protocol tree plan) p) there ∙ clear_at.1)
        (le-leb (cell_count tree) (own_place tree p k) (omega arith))
        (subst (Moves (put at p (n + 2)) (put at p (n + 3)) p) last_one (onwards at (put at p (n + 3)) p (n + 2) (n + 3) (put_moves at p (n + 3))))
