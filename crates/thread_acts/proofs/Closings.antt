-- What the code does behind a phase is the processor's closings.
use Rattle.std.proofs.Common.{◌≡◌, ℕ, ◌==◌, ◌&&◌, ◌||◌, ℤ, Bool, true, false, List, [], ◌∷◌, ◌++◌, Option, Some, None, if◌then◌else◌, refl, ap, ap₂, sym, ◌∙◌}
use Rattle.std.specs.List.{filter, flat_map, list_any}
use Rattle.std.specs.Option.{option_map}
use Rattle.std.proofs.lemmas.Bool.{eqb-true}
use Rattle.nest_tree.specs.Form.{form_value}
use Rattle.nest_tree.specs.Layout.{first_cell}
use Rattle.nest_tree.specs.Tree.{Head}
use Rattle.nest_model.specs.Instances.{Instance, with_loop}
use Rattle.owner_partition.specs.declared.anchor.Anchor.{Anchor}
use Rattle.owner_partition.specs.Owners.{anchor_owner}
use Rattle.sync_plan.specs.Own.{Own, own_cell}
use Rattle.spmd_model.specs.Deeds.{Deed}
use Rattle.spmd_model.specs.MachineDeeds.{keeping_deeds, kept_by}
use Rattle.thread_acts.specs.ThreadDeeds.{Thread, give_private, has_last_trip, has_trips, last_trip, thread_params}

-- ---- lists

nothing_each : (xs : List ℕ) → (let none : List Deed = [] in none) ≡ flat_map (λ (x : ℕ). []) xs
nothing_each [] = refl
nothing_each (x ∷ xs) = nothing_each xs

pub flat_same : (f g : ℕ → List Deed) → ((x : ℕ) → f x ≡ g x) → (xs : List ℕ) → flat_map f xs ≡ flat_map g xs
flat_same f g same [] = refl
flat_same f g same (x ∷ xs) = ap₂ (λ us vs. us ++ vs) (same x) (flat_same f g same xs)

-- some one of those that pass a test
pub any_filter : (test f : Instance → Bool) (xs : List Instance) → list_any f (filter test xs) ≡ list_any (λ i. test i && f i) xs
any_filter test f [] = refl
any_filter test f (x ∷ xs) = by (any_filter test f xs) (test x) refl
  where
    by : list_any f (filter test xs) ≡ list_any (λ i. test i && f i) xs → (b : Bool) → test x ≡ b → list_any f (filter test (x ∷ xs)) ≡ list_any (λ i. test i && f i) (x ∷ xs)
    by later true e = ap (λ (b : Bool). list_any f (if b then x ∷ filter test xs else filter test xs)) e ∙ ap (λ b. f x || b) later ∙ sym (ap (λ b. (b && f x) || list_any (λ i. test i && f i) xs) e)
    by later false e = ap (λ (b : Bool). list_any f (if b then x ∷ filter test xs else filter test xs)) e ∙ later ∙ sym (ap (λ b. (b && f x) || list_any (λ i. test i && f i) xs) e)

-- ---- private scalars

module _ (t : Thread) (a : Anchor) (own : Own) (head : Head) (loops : List ℤ) where
  abbrev owner_at : List ℤ → ℕ
  owner_at ls = anchor_owner a t.workers ls (thread_params t)

  -- of the last trip, if there is one
  abbrev last_by : Option ℤ → Option ℕ
  last_by o = option_map owner_at (option_map (with_loop loops head.number) o)

  given : (b : Bool) (q : ℕ) (scalars : List ℕ) → (q == t.processor) ≡ b → (if b then flat_map (give_private t own) scalars else []) ≡ flat_map (λ s. kept_by own (first_cell t.tree s) t.processor (Some q)) scalars
  given true q scalars e =
      let is = eqb-true q t.processor e in
      flat_same (give_private t own) (λ s. kept_by own (first_cell t.tree s) t.processor (Some q)) (λ s.
      ap (λ r. keeping_deeds (own_cell own r (first_cell t.tree s)) (first_cell t.tree s)) (sym is)
      ∙ sym (ap (λ (b : Bool). if b then keeping_deeds (own_cell own q (first_cell t.tree s)) (first_cell t.tree s) else []) e)) scalars
  given false q scalars e =
      nothing_each scalars
      ∙ flat_same (λ s. []) (λ s. kept_by own (first_cell t.tree s) t.processor (Some q)) (λ s. sym (ap (λ (b : Bool). if b then keeping_deeds (own_cell own q (first_cell t.tree s)) (first_cell t.tree s) else []) e)) scalars

  pub privates_right : (last : Option ℤ) (scalars : List ℕ) (b : Bool) →
      let m1 = form_value head.m1 loops (thread_params t) in
      let m2 = form_value head.m2 loops (thread_params t) in
      has_trips m1 m2 head.step ≡ b → last ≡ (if b then Some (last_trip m1 m2 head.step) else None) →
      (if has_last_trip t a head loops then flat_map (give_private t own) scalars else []) ≡ flat_map (λ s. kept_by own (first_cell t.tree s) t.processor (last_by last)) scalars
  privates_right last scalars true some is =
      let m1 = form_value head.m1 loops (thread_params t) in
      let m2 = form_value head.m2 loops (thread_params t) in
      let q = owner_at (with_loop loops head.number (last_trip m1 m2 head.step)) in
      ap (λ (c : Bool). if c && (q == t.processor) then flat_map (give_private t own) scalars else []) some ∙ given (q == t.processor) q scalars refl
      ∙ ap (λ o. flat_map (λ s. kept_by own (first_cell t.tree s) t.processor (last_by o)) scalars) (sym is)
  privates_right last scalars false lacks is =
      let m1 = form_value head.m1 loops (thread_params t) in
      let m2 = form_value head.m2 loops (thread_params t) in
      let q = owner_at (with_loop loops head.number (last_trip m1 m2 head.step)) in
      ap (λ (c : Bool). if c && (q == t.processor) then flat_map (give_private t own) scalars else []) lacks ∙ nothing_each scalars
      ∙ ap (λ o. flat_map (λ s. kept_by own (first_cell t.tree s) t.processor (last_by o)) scalars) (sym is)
