-- A processor's acts by its deeds, and where its seat stands in front of each.
use Rattle.std.proofs.Common.{◌≡◌, ℕ, suc, ◌+◌, ◌<◌, ◌≤◌, ℤ, true, false, List, drop, Some, refl, ◌∙◌, ap, arith, if◌then◌else◌}
use Rattle.std.specs.Prelude.{slice_get}
use Rattle.std.proofs.lemmas.Bool.{le-leb, lt-leb}
use Rattle.nest_tree.specs.Layout.{cell_count}
use Rattle.spmd_model.specs.Deeds.{deed_of, posting, awaiting, loading, storing, adding, printing}
use Rattle.spmd_model.specs.Machines.{machine_by}
use Rattle.spmd_model.specs.Timelines as Timelines
use Rattle.spmd_model.specs.Timelines.{Word}
use Rattle.spmd_model.specs.Acts.{Act, post, await, load, store, add, print}
use Rattle.spmd_model.specs.Protocols.{act_at, is_passed, passed_first, settled}
use Rattle.spmd_model.proofs.Deeds.{await_is}
use Rattle.instance_runs.proofs.LoadPlaces.{drop_there}
use Rattle.shared_words.specs.Places.{settled_at}
use Rattle.shared_words.specs.Homes.{Home, protocol_at}
use Rattle.spmd_workers.specs.Held.{AreHeld}
use Rattle.spmd_workers.specs.Places.{deeds_at, plan_at, style_at, tree_at}

-- ---- an act by its deed

load_is : (m : Timelines.Machine) (a : Act) (cell : ℕ) → deed_of m a ≡ loading cell → (place : ℕ) × (a ≡ load place cell)
load_is m (post w k) cell h = absurd (cc)
load_is m (await w q k) cell h = absurd (cc)
load_is m (load t c) cell h = let same : c ≡ cell = cc in (t, ap (load t) same)
load_is m (store t c) cell h = absurd (cc)
load_is m (add t c) cell h = absurd (cc)
load_is m (print t) cell h = absurd (cc)

store_is : (m : Timelines.Machine) (a : Act) (cell : ℕ) (f : List ℤ → ℤ) → deed_of m a ≡ storing cell f → (place : ℕ) × (a ≡ store place cell)
store_is m (post w k) cell f h = absurd (cc)
store_is m (await w q k) cell f h = absurd (cc)
store_is m (load t c) cell f h = absurd (cc)
store_is m (store t c) cell f h = let same : c ≡ cell = cc in (t, ap (store t) same)
store_is m (add t c) cell f h = absurd (cc)
store_is m (print t) cell f h = absurd (cc)

add_is : (m : Timelines.Machine) (a : Act) (cell : ℕ) (f : List ℤ → ℤ) → deed_of m a ≡ adding cell f → (place : ℕ) × (a ≡ add place cell)
add_is m (post w k) cell f h = absurd (cc)
add_is m (await w q k) cell f h = absurd (cc)
add_is m (load t c) cell f h = absurd (cc)
add_is m (store t c) cell f h = absurd (cc)
add_is m (add t c) cell f h = let same : c ≡ cell = cc in (t, ap (add t) same)
add_is m (print t) cell f h = absurd (cc)

print_is : (m : Timelines.Machine) (a : Act) (line : List ℤ → List ℕ) → deed_of m a ≡ printing line → (place : ℕ) × (a ≡ print place)
print_is m (post w k) line h = absurd (cc)
print_is m (await w q k) line h = absurd (cc)
print_is m (load t c) line h = absurd (cc)
print_is m (store t c) line h = absurd (cc)
print_is m (add t c) line h = absurd (cc)
print_is m (print t) line h = (t, refl)

post_is : (m : Timelines.Machine) (a : Act) (word : Word) (number : ℕ) → deed_of m a ≡ posting word number → a ≡ post word number
post_is m (post w k) word number h = let on : w ≡ word = cc in let same : k ≡ number = cc in cc
post_is m (await w q k) word number h = absurd (cc)
post_is m (load t c) word number h = absurd (cc)
post_is m (store t c) word number h = absurd (cc)
post_is m (add t c) word number h = absurd (cc)
post_is m (print t) word number h = absurd (cc)

-- ---- places behind acts that nobody else sees

pub seen_settled : (cells : ℕ) (acts : List Act) (n : ℕ) (a : Act) → slice_get acts n ≡ Some a → is_passed cells a ≡ false → settled cells acts n ≡ n
seen_settled cells acts n a e seen =
    let none : passed_first cells (drop n acts) ≡ 0 = ap (passed_first cells) (drop_there acts n a e) ∙ ap (λ b. if b then passed_first cells (drop (suc n) acts) + 1 else 0) seen in
    omega (arith, none)

pub passed_settled : (cells : ℕ) (acts : List Act) (n : ℕ) (a : Act) → slice_get acts n ≡ Some a → is_passed cells a ≡ true → settled cells acts n ≡ settled cells acts (n + 1)
passed_settled cells acts n a e passed =
    let one : suc n ≡ n + 1 = omega arith in
    let more : passed_first cells (drop n acts) ≡ passed_first cells (drop (n + 1) acts) + 1 =
    ap (passed_first cells) (drop_there acts n a e) ∙ ap (λ b. if b then passed_first cells (drop (suc n) acts) + 1 else 0) passed ∙ ap (λ k. passed_first cells (drop k acts) + 1) one in
    omega (arith, more)

-- ---- in a program that can be run

module _ (h : Home) (held : AreHeld h) (p : ℕ) (below : p < (protocol_at h).workers) where
  abbrev m : Timelines.Machine
  m = machine_by (style_at h) (tree_at h) (plan_at h)

  pub load_there : (n cell : ℕ) → slice_get (deeds_at h p) n ≡ Some (loading cell) → (place : ℕ) × (act_at (protocol_at h) p n ≡ Some (load place cell))
  load_there n cell e = let a = held.acts p n (loading cell) below e in let is = load_is m a.0 cell a.2 in (is.0, a.1 ∙ ap (λ x. Some x) is.1)

  pub store_there : (n cell : ℕ) (f : List ℤ → ℤ) → slice_get (deeds_at h p) n ≡ Some (storing cell f) → (place : ℕ) × (act_at (protocol_at h) p n ≡ Some (store place cell))
  store_there n cell f e = let a = held.acts p n (storing cell f) below e in let is = store_is m a.0 cell f a.2 in (is.0, a.1 ∙ ap (λ x. Some x) is.1)

  pub add_there : (n cell : ℕ) (f : List ℤ → ℤ) → slice_get (deeds_at h p) n ≡ Some (adding cell f) → (place : ℕ) × (act_at (protocol_at h) p n ≡ Some (add place cell))
  add_there n cell f e = let a = held.acts p n (adding cell f) below e in let is = add_is m a.0 cell f a.2 in (is.0, a.1 ∙ ap (λ x. Some x) is.1)

  pub print_there : (n : ℕ) (line : List ℤ → List ℕ) → slice_get (deeds_at h p) n ≡ Some (printing line) → (place : ℕ) × (act_at (protocol_at h) p n ≡ Some (print place))
  print_there n line e = let a = held.acts p n (printing line) below e in let is = print_is m a.0 line a.2 in (is.0, a.1 ∙ ap (λ x. Some x) is.1)

  pub post_there : (word : Word) (n number : ℕ) → slice_get (deeds_at h p) n ≡ Some (posting word number) → act_at (protocol_at h) p n ≡ Some (post word number)
  post_there word n number e = let a = held.acts p n (posting word number) below e in a.1 ∙ ap (λ x. Some x) (post_is m a.0 word number a.2)

  pub await_there : (word : Word) (n on wanted : ℕ) → slice_get (deeds_at h p) n ≡ Some (awaiting word on wanted) → act_at (protocol_at h) p n ≡ Some (await word on wanted)
  await_there word n on wanted e = let a = held.acts p n (awaiting word on wanted) below e in a.1 ∙ ap (λ x. Some x) (await_is m a.0 word on wanted a.2)

-- acts that others see stand where the seat does
module _ (h : Home) (p : ℕ) where
  pub load_stands : (n place cell : ℕ) → cell < cell_count (tree_at h) → act_at (protocol_at h) p n ≡ Some (load place cell) → settled_at (protocol_at h) p n ≡ n
  load_stands n place cell shared e = seen_settled (cell_count (tree_at h)) ((protocol_at h).acts p) n (load place cell) e (lt-leb (cell_count (tree_at h)) cell shared)

  pub store_stands : (n place cell : ℕ) → cell < cell_count (tree_at h) → act_at (protocol_at h) p n ≡ Some (store place cell) → settled_at (protocol_at h) p n ≡ n
  store_stands n place cell shared e = seen_settled (cell_count (tree_at h)) ((protocol_at h).acts p) n (store place cell) e (lt-leb (cell_count (tree_at h)) cell shared)

  pub add_stands : (n place cell : ℕ) → act_at (protocol_at h) p n ≡ Some (add place cell) → settled_at (protocol_at h) p n ≡ n
  add_stands n place cell e = seen_settled (cell_count (tree_at h)) ((protocol_at h).acts p) n (add place cell) e refl

  pub post_stands : (word : Word) (n number : ℕ) → act_at (protocol_at h) p n ≡ Some (post word number) → settled_at (protocol_at h) p n ≡ n
  post_stands word n number e = seen_settled (cell_count (tree_at h)) ((protocol_at h).acts p) n (post word number) e refl

  pub await_stands : (word : Word) (n on wanted : ℕ) → act_at (protocol_at h) p n ≡ Some (await word on wanted) → settled_at (protocol_at h) p n ≡ n
  await_stands word n on wanted e = seen_settled (cell_count (tree_at h)) ((protocol_at h).acts p) n (await word on wanted) e refl

  -- those that nobody else sees are behind it
  pub print_passes : (n place : ℕ) → act_at (protocol_at h) p n ≡ Some (print place) → settled_at (protocol_at h) p n ≡ settled_at (protocol_at h) p (n + 1)
  print_passes n place e = passed_settled (cell_count (tree_at h)) ((protocol_at h).acts p) n (print place) e refl

  pub load_passes : (n place cell : ℕ) → cell_count (tree_at h) ≤ cell → act_at (protocol_at h) p n ≡ Some (load place cell) → settled_at (protocol_at h) p n ≡ settled_at (protocol_at h) p (n + 1)
  load_passes n place cell own e = passed_settled (cell_count (tree_at h)) ((protocol_at h).acts p) n (load place cell) e (le-leb (cell_count (tree_at h)) cell own)

  pub store_passes : (n place cell : ℕ) → cell_count (tree_at h) ≤ cell → act_at (protocol_at h) p n ≡ Some (store place cell) → settled_at (protocol_at h) p n ≡ settled_at (protocol_at h) p (n + 1)
  store_passes n place cell own e = passed_settled (cell_count (tree_at h)) ((protocol_at h).acts p) n (store place cell) e (le-leb (cell_count (tree_at h)) cell own)
