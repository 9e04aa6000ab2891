-- What the code gives to a processor of a phase is what the processor owns of the phase.
use Rattle.std.proofs.Common.{◌≡◌, ◌≢◌, ℕ, ◌+◌, ◌-◌, ◌<◌, ◌==◌, ℤ, pos, ◌+ℤ◌, ◌*ℤ◌, Bool, true, false, List, [], ◌∷◌, ◌++◌, ◌||◌, map, if◌then◌else◌, ⊎_elim, true≢false, refl, ap, ap₂, sym, ◌∙◌, arith}
use Rattle.std.specs.Int.{int_rem_euclid}
use Rattle.std.specs.List.{filter, flat_map, list_any}
use Rattle.std.specs.Ordering.{int_eq}
use Rattle.std.proofs.lemmas.Bool.{cases_Bool}
use Rattle.std.proofs.lemmas.Bool.Decides.{Decides-int_eq}
use Rattle.std.proofs.lemmas.Int.{ints}
use Rattle.std.proofs.lemmas.List.{map-append, set-get_or}
use Rattle.std.proofs.Math.IntN.{zero-*ℤ}
use Rattle.nest_tree.specs.Form.{form_value, numbered}
use Rattle.nest_tree.specs.Layout.{count_of}
use Rattle.nest_tree.specs.Tree.{Head, Statement, Statements, do_loop, work, continue, done, next}
use Rattle.nest_model.specs.Instances.{Instance, head_trips, instances_in, instances_of, is_executed, with_loop, works_in}
use Rattle.owner_partition.specs.declared.anchor.Anchor.{Anchor}
use Rattle.owner_partition.specs.declared.anchor.Dist.{Dist}
use Rattle.owner_partition.specs.declared.anchor.Dist.TheVariants.{Block, Cyclic}
use Rattle.owner_partition.specs.OwnInstances.{coefficient_of, is_owned, own_values}
use Rattle.owner_partition.specs.Owners.{dealt}
use Rattle.owner_partition.proofs.Trips.{form_from}
use Rattle.thread_code.specs.Closed.{AreTurnings, block_values}
use Rattle.thread_code.specs.Code.{Table, all_of, finding_by, named_finding, plus_times, reduced, without}
use Rattle.thread_code.proofs.Blocks.{block_closed}
use Rattle.thread_code.proofs.Forms.{plus_times_is, reduced_is, rest_below, without_is}
use Rattle.thread_code.proofs.Found.{CanFind, rest_of}
use Rattle.thread_code.proofs.Turns.{turn_closed}
use Rattle.thread_acts.specs.ThreadDeeds.{Thread, is_named, thread_params, trips_found}

all_same : (q : ℤ → Bool) (b : Bool) → ((v : ℤ) → q v ≡ b) → (vs : List ℤ) → (if b then vs else []) ≡ filter q vs
all_same q true same [] = refl
all_same q false same [] = refl
all_same q true same (v ∷ vs) = ap (λ xs. v ∷ xs) (all_same q true same vs) ∙ ap (λ (c : Bool). if c then v ∷ filter q vs else filter q vs) (sym (same v))
all_same q false same (v ∷ vs) = all_same q false same vs ∙ ap (λ (c : Bool). if c then v ∷ filter q vs else filter q vs) (sym (same v))

module _ (table : Table) (t : Thread) (a : Anchor) (turnings : AreTurnings t.workers table) where
  named_right : (d : Dist) (head : Head) (loops : List ℤ) → a.dist ≡ d → CanFind (thread_params t) a t.workers t.processor head loops → coefficient_of a.form.loops head.number ≢ pos 0 →
      trips_found t (named_finding table t.workers a.form d head (coefficient_of a.form.loops head.number)) head loops ≡ own_values (thread_params t) a t.workers t.processor head loops
  named_right (Block b) head loops dist can moves =
      let params = thread_params t in
      let rise = coefficient_of a.form.loops head.number in
      let m1 = form_value head.m1 loops params in
      let m2 = form_value head.m2 loops params in
      ap (λ z. block_values b t.processor z rise m1 m2 head.step) (without_is head.number a.form loops params can.form can.number can.within)
      ∙ block_closed params a t.workers t.processor b head loops can.form can.number can.within dist (can.block b dist) moves can.steps (can.placed b dist)
  named_right Cyclic head loops dist can moves =
      let params = thread_params t in
      let rise = coefficient_of a.form.loops head.number in
      let worker = can.worker in
      let some : 0 < t.workers = omega (arith, worker) in
      let f = plus_times (without head.number a.form) rise head.m1 in
      let place : form_value f loops params ≡ rest_of params a head loops +ℤ rise *ℤ form_value head.m1 loops params =
      plus_times_is (without head.number a.form) rise head.m1 loops params ∙ ap (λ z. z +ℤ rise *ℤ form_value head.m1 loops params) (without_is head.number a.form loops params can.form can.number can.within) in
      let rest = count_of (int_rem_euclid (rise *ℤ head.step) (pos t.workers)) in
      turn_closed params a t.workers t.processor head loops can.form can.number can.within (table rest) (form_value (reduced t.workers f) loops params) dist can.worker can.steps (turnings rest (rest_below t.workers (rise *ℤ head.step) some))
      (reduced_is t.workers f loops params some ∙ ap (λ z. int_rem_euclid z (pos t.workers)) place)

  -- an anchor that doesn't name the loop
  unnamed_right : (head : Head) (loops : List ℤ) → CanFind (thread_params t) a t.workers t.processor head loops → coefficient_of a.form.loops head.number ≡ pos 0 →
      (if is_named t a loops then head_trips (thread_params t) head loops else []) ≡ own_values (thread_params t) a t.workers t.processor head loops
  unnamed_right head loops can still =
      let params = thread_params t in
      let n = head.number in
      let at = λ (v : ℤ).
      let none : coefficient_of a.form.loops n *ℤ v ≡ pos 0 = ap (λ c. c *ℤ v) still ∙ zero-*ℤ v in
      form_from a.form n loops params v can.form can.number can.within ∙ omega (arith, ints, none) in
      let here : form_value a.form loops params ≡ form_value a.form (with_loop loops n (pos 0)) params =
      ap (λ ls. form_value a.form ls params) (sym (set-get_or loops (n - 1) (pos 0))) ∙ at (numbered loops n) in
      let same = λ (v : ℤ). ap (λ w. count_of (dealt a.dist t.workers w) == t.processor) (at v ∙ sym here) in
      all_same (λ v. is_owned params a t.workers t.processor (with_loop loops n v)) (is_named t a loops) same (head_trips params head loops)

  pub trips_right : (head : Head) (loops : List ℤ) → CanFind (thread_params t) a t.workers t.processor head loops → trips_found t (finding_by table t.workers a head) head loops ≡ own_values (thread_params t) a t.workers t.processor head loops
  trips_right head loops can =
      let rise = coefficient_of a.form.loops head.number in
      let either : Bool → List ℤ = λ b. trips_found t (if b then all_of a else named_finding table t.workers a.form a.dist head rise) head loops in
      ⊎_elim (λ (h : int_eq rise (pos 0) ≡ true). ap either h ∙ unnamed_right head loops can ((Decides-int_eq rise (pos 0)).0 h))
      (λ (h : int_eq rise (pos 0) ≡ false). ap either h ∙ named_right a.dist head loops refl can (λ e. absurd (true≢false (sym ((Decides-int_eq rise (pos 0)).1 e) ∙ h))))
      (cases_Bool (int_eq rise (pos 0)))

-- ---- the number of a piece of work in the text, which no deed turns on

abbrev pub blind : Instance → Instance
blind i = record i { statement = 0 }

both_blind : (xs ys us vs : List Instance) → map blind xs ≡ map blind us → map blind ys ≡ map blind vs → map blind (xs ++ ys) ≡ map blind (us ++ vs)
both_blind xs ys us vs one two = map-append blind xs ys ∙ ap₂ (λ (ks ls : List Instance). ks ++ ls) one two ∙ sym (map-append blind us vs)

pub each_blind : (f g : ℤ → List Instance) → ((v : ℤ) → map blind (f v) ≡ map blind (g v)) → (vs : List ℤ) → map blind (flat_map f vs) ≡ map blind (flat_map g vs)
each_blind f g same [] = refl
each_blind f g same (v ∷ vs) = both_blind (f v) (flat_map f vs) (g v) (flat_map g vs) (same v) (each_blind f g same vs)

mutual
  pub blind_of : (params : List ℤ) (s : Statement) (one two : ℕ) (loops : List ℤ) → map blind (instances_of params s one loops) ≡ map blind (instances_of params s two loops)
  blind_of params (do_loop head body) one two loops =
      each_blind (λ v. instances_in params body one (with_loop loops head.number v)) (λ v. instances_in params body two (with_loop loops head.number v)) (λ v. blind_in params body one two (with_loop loops head.number v)) (head_trips params head loops)
  blind_of params (work w) one two loops =
      elim (is_executed w loops params) as (λ b. map blind (if b then record { statement = one; what = w; loops = loops } ∷ [] else []) ≡ map blind (if b then record { statement = two; what = w; loops = loops } ∷ [] else [])) [ true ↦ refl | false ↦ refl ]
  blind_of params (continue line) one two loops = refl

  pub blind_in : (params : List ℤ) (ss : Statements) (one two : ℕ) (loops : List ℤ) → map blind (instances_in params ss one loops) ≡ map blind (instances_in params ss two loops)
  blind_in params done one two loops = refl
  blind_in params (next s rest) one two loops =
      both_blind (instances_of params s one loops) (instances_in params rest (one + works_in s) loops) (instances_of params s two loops) (instances_in params rest (two + works_in s) loops) (blind_of params s one two loops) (blind_in params rest (one + works_in s) (two + works_in s) loops)

-- what doesn't turn on it is the same for each of two lists
pub flat_blind : {X : Type 0} (f : Instance → List X) → ((i : Instance) → f (blind i) ≡ f i) → (xs : List Instance) → flat_map f (map blind xs) ≡ flat_map f xs
flat_blind f same [] = refl
flat_blind f same (x ∷ xs) = ap₂ (λ ks ls. ks ++ ls) (same x) (flat_blind f same xs)

pub any_blind : (f : Instance → Bool) → ((i : Instance) → f (blind i) ≡ f i) → (xs : List Instance) → list_any f (map blind xs) ≡ list_any f xs
any_blind f same [] = refl
any_blind f same (x ∷ xs) = ap₂ (λ a b. a || b) (same x) (any_blind f same xs)
