-- Which act does a deed.
use Rattle.std.proofs.Common.{◌≡◌, ℕ, ℤ, ◌<◌, List, Some, refl, ◌∙◌, ap}
use Rattle.std.specs.Prelude.{slice_get}
use Rattle.nest_tree.specs.Tree.{Tree}
use Rattle.sync_plan.specs.declared.plan.Plan.{Plan}
use Rattle.spmd_model.specs.Deeds.{Deed, deed_of, posting, awaiting, loading, storing, adding, printing}
use Rattle.spmd_model.specs.Machines.{machine_by}
use Rattle.spmd_model.specs.Timelines.{Word, Machine}
use Rattle.spmd_model.specs.Acts.{Act, post, await, load, store, add, print}
use Rattle.spmd_model.specs.Protocols.{act_at}
use Rattle.spmd_model.specs.declared.style.Style.TheVariants.{Arrive}
use Rattle.spmd_model.proofs.Deeds.{await_is}
use Rattle.fork_join.specs.Joins.{IsSafe, all_deeds, protocol}

posting_is : (m : Machine) (a : Act) (w : Word) (k : ℕ) → deed_of m a ≡ posting w k → a ≡ post w k
posting_is m (post word number) w k is = let e : posting word number ≡ posting w k = is in cc
posting_is m (await word on wanted) w k is = let e : awaiting word on wanted ≡ posting w k = is in absurd (cc)
posting_is m (load place cell) w k is = let e : loading cell ≡ posting w k = is in absurd (cc)
posting_is m (store place cell) w k is = absurd (cc)
posting_is m (add place cell) w k is = absurd (cc)
posting_is m (print place) w k is = absurd (cc)

loading_is : (m : Machine) (a : Act) (c : ℕ) → deed_of m a ≡ loading c → (place : ℕ) × (a ≡ load place c)
loading_is m (post word number) c is = absurd (cc)
loading_is m (await word on wanted) c is = absurd (cc)
loading_is m (load place cell) c is = let e : loading cell ≡ loading c = is in (place, cc)
loading_is m (store place cell) c is = absurd (cc)
loading_is m (add place cell) c is = absurd (cc)
loading_is m (print place) c is = absurd (cc)

-- the cell of a store
abbrev stored_to : Deed → ℕ
stored_to (posting word number) = 0
stored_to (awaiting word on wanted) = 0
stored_to (loading cell) = 0
stored_to (storing cell value) = cell
stored_to (adding cell value) = 0
stored_to (printing line) = 0

storing_is : (m : Machine) (a : Act) (c : ℕ) (f : List ℤ → ℤ) → deed_of m a ≡ storing c f → (place : ℕ) × (a ≡ store place c)
storing_is m (post word number) c f is = absurd (cc)
storing_is m (await word on wanted) c f is = absurd (cc)
storing_is m (load place cell) c f is = absurd (cc)
storing_is m (store place cell) c f is = (place, ap (store place) (ap stored_to is))
storing_is m (add place cell) c f is = absurd (cc)
storing_is m (print place) c f is = absurd (cc)

-- the cell of an addition
abbrev added_to : Deed → ℕ
added_to (posting word number) = 0
added_to (awaiting word on wanted) = 0
added_to (loading cell) = 0
added_to (storing cell value) = 0
added_to (adding cell value) = cell
added_to (printing line) = 0

adding_is : (m : Machine) (a : Act) (c : ℕ) (f : List ℤ → ℤ) → deed_of m a ≡ adding c f → (place : ℕ) × (a ≡ add place c)
adding_is m (post word number) c f is = absurd (cc)
adding_is m (await word on wanted) c f is = absurd (cc)
adding_is m (load place cell) c f is = absurd (cc)
adding_is m (store place cell) c f is = absurd (cc)
adding_is m (add place cell) c f is = (place, ap (add place) (ap added_to is))
adding_is m (print place) c f is = absurd (cc)

printing_is : (m : Machine) (a : Act) (f : List ℤ → List ℕ) → deed_of m a ≡ printing f → (place : ℕ) × (a ≡ print place)
printing_is m (post word number) f is = absurd (cc)
printing_is m (await word on wanted) f is = absurd (cc)
printing_is m (load place cell) f is = absurd (cc)
printing_is m (store place cell) f is = absurd (cc)
printing_is m (add place cell) f is = absurd (cc)
printing_is m (print place) f is = (place, refl)

module _ (tree : Tree) (plan : Plan) (safe : IsSafe tree plan) (p n : ℕ) (below : p < plan.workers) where
  done_by : (d : Deed) → slice_get (all_deeds tree plan p) n ≡ Some d → (a : Act) × (act_at (protocol tree plan) p n ≡ Some a) × (deed_of (machine_by Arrive tree plan) a ≡ d)
  unfolding all_deeds
  done_by d at = safe.acts p n d below at

  pub post_there : (w : Word) (k : ℕ) → slice_get (all_deeds tree plan p) n ≡ Some (posting w k) → act_at (protocol tree plan) p n ≡ Some (post w k)
  post_there w k at = let a = done_by (posting w k) at in a.1 ∙ ap (λ x. Some x) (posting_is (machine_by Arrive tree plan) a.0 w k a.2)

  pub await_there : (w : Word) (q k : ℕ) → slice_get (all_deeds tree plan p) n ≡ Some (awaiting w q k) → act_at (protocol tree plan) p n ≡ Some (await w q k)
  await_there w q k at = let a = done_by (awaiting w q k) at in a.1 ∙ ap (λ x. Some x) (await_is (machine_by Arrive tree plan) a.0 w q k a.2)

  pub load_there : (c : ℕ) → slice_get (all_deeds tree plan p) n ≡ Some (loading c) → (place : ℕ) × (act_at (protocol tree plan) p n ≡ Some (load place c))
  load_there c at = let a = done_by (loading c) at in let is = loading_is (machine_by Arrive tree plan) a.0 c a.2 in (is.0, a.1 ∙ ap (λ x. Some x) is.1)

  pub store_there : (c : ℕ) (f : List ℤ → ℤ) → slice_get (all_deeds tree plan p) n ≡ Some (storing c f) → (place : ℕ) × (act_at (protocol tree plan) p n ≡ Some (store place c))
  store_there c f at = let a = done_by (storing c f) at in let is = storing_is (machine_by Arrive tree plan) a.0 c f a.2 in (is.0, a.1 ∙ ap (λ x. Some x) is.1)

  pub add_there : (c : ℕ) (f : List ℤ → ℤ) → slice_get (all_deeds tree plan p) n ≡ Some (adding c f) → (place : ℕ) × (act_at (protocol tree plan) p n ≡ Some (add place c))
  add_there c f at = let a = done_by (adding c f) at in let is = adding_is (machine_by Arrive tree plan) a.0 c f a.2 in (is.0, a.1 ∙ ap (λ x. Some x) is.1)

  pub print_there : (f : List ℤ → List ℕ) → slice_get (all_deeds tree plan p) n ≡ Some (printing f) → (place : ℕ) × (act_at (protocol tree plan) p n ≡ Some (print place))
  print_there f at = let a = done_by (printing f) at in let is = printing_is (machine_by Arrive tree plan) a.0 f a.2 in (is.0, a.1 ∙ ap (λ x. Some x) is.1)
