-- A plan that is accepted in version one, in version two: chains make its systems tighter.
use Rattle.std.proofs.Common.{◌≡◌, ℕ, suc, ◌+◌, ◌-◌, ◌≤◌, pos, ◌≤ℤ◌, Bool, true, false, List, [], ◌∷◌, ◌++◌, length, map, Option, Some, None, if◌then◌else◌, refl, ap, sym, ◌∙◌, subst, inl, inr, arith}
use Rattle.std.specs.Prelude.{◌⊎◌, min, neg_ℤ, sum_by}
use Rattle.std.specs.List.{flat_map, list_any}
use Rattle.std.specs.Option.{option_map, option_or}
use Rattle.std.proofs.lemmas.Int.{ints}
use Rattle.std.proofs.lemmas.List.{map-append}
use Rattle.farkas_cert.specs.declared.certificate.Certificate.{Certificate}
use Rattle.farkas_cert.specs.declared.certificate.CertRefusal.{CertRefusal}
use Rattle.farkas_cert.specs.declared.certificate.CertRefusal.TheVariants.{Wide}
use Rattle.farkas_cert.specs.Fault.{fault_from, first_fault}
use Rattle.farkas_cert.proofs.Verdict.{none_where_good}
use Rattle.nest_tree.specs.Tree.{Tree}
use Rattle.nest_rows.specs.declared.constraint.Constraint.{Constraint}
use Rattle.nest_rows.specs.Constraints.{row_of}
use Rattle.owner_partition.specs.declared.anchor.Anchor.{Anchor}
use Rattle.sync_plan.specs.declared.plan.Conditions.{Conditions}
use Rattle.sync_plan.specs.declared.plan.Conditions.TheVariants.{Values, Rows}
use Rattle.sync_plan.specs.declared.plan.Plan.{Plan}
use Rattle.sync_plan.specs.declared.plan.Version.{Version}
use Rattle.sync_plan.specs.declared.plan.Version.TheVariants.{One, Two}
use Rattle.sync_plan.proofs.OwnVersions.{early_privates, early_sums, have_privates-alike, have_sums-alike}
use Rattle.sync_plan.specs.Fit.{IsFit}
use Rattle.sync_plan.specs.Shape.{are_good_conditions}
use Rattle.comm_system.specs.Boundaries.{Boundary, Side, certain_boundaries}
use Rattle.comm_system.specs.Levels.{common, order_at}
use Rattle.comm_system.specs.Obligations.{Slot, Task, last_of, lasts_at, numbered_from, obligations_of, owners_of, pair_tasks, paths_tasks, piece_task, pieces_from, slot_signature, slot_tasks, slots_of, tasks_of, trips_tasks}
use Rattle.comm_system.specs.OwnerRows.{Direction, Piece, beside, distance, owner_numbers, owners_have, owners_unknowns, pieces, above, below}
use Rattle.comm_system.specs.PairRows.{behind_pair, pair_rows}
use Rattle.comm_system.specs.Pairs.{Pair, pairs_of}
use Rattle.comm_system.specs.References.{phases_of}
use Rattle.comm_system.specs.Signatures.{blocked, waits, counted, is_barrier, kind_at, last_three, left_waits, producers_at, right_waits, signature_of}
use Rattle.plan_checker.specs.declared.refusal.PlanRefusal.{PlanRefusal}
use Rattle.plan_checker.specs.declared.refusal.PlanRefusal.TheVariants.{Bad, Shape}
use Rattle.plan_checker.specs.Accepted.{AreCertified, IsAccepted}
use Rattle.plan_checker.specs.Failures.{failure_with, first_failure, first_uncertified}
use Rattle.plan_checker.specs.Refusals.{refusal_of}
use Rattle.plan_checker.proofs.Certified.{accepted_where_none, as_many, false_where_few, fit_shape}
use Rattle.plan_checker.proofs.Faults.{failure_by}
use Rattle.plan_checker.proofs.Tighter.{AreTighter, IsWideAtMost, fault_tighter, tighter_append, tighter_self}

abbrev in_version : Version → Plan → Plan
in_version version plan = record plan { version = version }

-- ---- tasks whose rows are tighter

record IsStricter (k l : Task) : Type 0 where
  vars : l.system.vars ≡ k.system.vars
  rows : AreTighter k.system.rows l.system.rows

abbrev AreStricter : List Task → List Task → Type 0
AreStricter [] [] = Unit {0}
AreStricter [] (l ∷ ls) = ⊥
AreStricter (k ∷ ks) [] = ⊥
AreStricter (k ∷ ks) (l ∷ ls) = IsStricter k l × AreStricter ks ls

stricter_self : (ks : List Task) → AreStricter ks ks
stricter_self [] = tt
stricter_self (k ∷ ks) = (record { vars = refl; rows = tighter_self k.system.rows }, stricter_self ks)

stricter_append : (ks ls ms ns : List Task) → AreStricter ks ls → AreStricter ms ns → AreStricter (ks ++ ms) (ls ++ ns)
stricter_append [] [] ms ns h j = j
stricter_append [] (l ∷ ls) ms ns h j = absurd h
stricter_append (k ∷ ks) [] ms ns h j = absurd h
stricter_append (k ∷ ks) (l ∷ ls) ms ns h j = (h.0, stricter_append ks ls ms ns h.1 j)

stricter_each : {X : Type 0} (f g : X → List Task) (xs : List X) → ((x : X) → AreStricter (f x) (g x)) → AreStricter (flat_map f xs) (flat_map g xs)
stricter_each f g [] each = tt
stricter_each f g (x ∷ xs) each = stricter_append (f x) (g x) (flat_map f xs) (flat_map g xs) (each x) (stricter_each f g xs each)

stricter_pieces : (f g : ℕ → Piece → Task) (n : ℕ) (ps : List Piece) → ((n : ℕ) (p : Piece) → IsStricter (f n p) (g n p)) → AreStricter (pieces_from f n ps) (pieces_from g n ps)
stricter_pieces f g n [] each = tt
stricter_pieces f g n (p ∷ ps) each = (each n p, stricter_pieces f g (suc n) ps each)

-- ---- more neighbours that are waited for

module _ (left right more_left more_right : ℕ) (lefts : left ≤ more_left) (rights : right ≤ more_right) where
  further : (d : Direction) → neg_ℤ (pos (distance d more_left more_right)) ≤ℤ neg_ℤ (pos (distance d left right))
  further below = omega (arith, ints, lefts)
  further above = omega (arith, ints, rights)

  last_tighter : (vars : ℕ) (owners : List ℕ) (piece : Piece) → AreTighter (map (row_of vars) (last_of left right owners piece)) (map (row_of vars) (last_of more_left more_right owners piece))
  last_tighter vars [] piece = tt
  last_tighter vars (q ∷ []) piece = tt
  last_tighter vars (q ∷ p ∷ os) piece = (record { coefs = refl; bound = further piece.range }, tighter_self (map (row_of vars) (beside q os piece.producers)))

  mapped_tighter : (vars : ℕ) (first second xs ys : List Constraint) → AreTighter (map (row_of vars) xs) (map (row_of vars) ys) → AreTighter (map (row_of vars) (first ++ second ++ xs)) (map (row_of vars) (first ++ second ++ ys))
  mapped_tighter vars first second xs ys h =
      subst (λ rs. AreTighter rs (map (row_of vars) (first ++ second ++ ys))) (sym (map-append (row_of vars) (first ++ second) xs))
      (subst (AreTighter (map (row_of vars) (first ++ second) ++ map (row_of vars) xs)) (sym (map-append (row_of vars) (first ++ second) ys))
      (tighter_append (map (row_of vars) (first ++ second)) (map (row_of vars) (first ++ second)) (map (row_of vars) xs) (map (row_of vars) ys) (tighter_self (map (row_of vars) (first ++ second))) h))

  piece_stricter : (tree : Tree) (plan : Plan) (slot : Slot) (producers : List (Anchor × Side)) (pair : Pair) (n : ℕ) (piece : Piece) → IsStricter (piece_task tree plan slot left right producers pair n piece) (piece_task tree plan slot more_left more_right producers pair n piece)
  piece_stricter tree plan slot producers pair n piece =
      let order = order_at (common slot.first.outer slot.second.outer) slot.level in
      let q = behind_pair tree pair in
      let owners = owners_of tree plan slot producers pair in
      let vars = q + owners_unknowns owners - 1 in
      record {
        vars = refl;
        rows = mapped_tighter vars (pair_rows tree plan.conditions order (lasts_at plan.cut slot pair) pair) (owners_have plan.workers q owners) (last_of left right (owner_numbers q owners) piece) (last_of more_left more_right (owner_numbers q owners) piece) (last_tighter vars (owner_numbers q owners) piece);
      }

  slot_stricter : (tree : Tree) (plan : Plan) (slot : Slot) (producers : List (Anchor × Side)) → AreStricter (slot_tasks tree plan slot (waits left right producers)) (slot_tasks tree plan slot (waits more_left more_right producers))
  slot_stricter tree plan slot producers =
      stricter_each (pair_tasks tree plan slot left right producers) (pair_tasks tree plan slot more_left more_right producers) (pairs_of plan.cut slot.first slot.second)
      (λ pair. stricter_pieces (piece_task tree plan slot left right producers pair) (piece_task tree plan slot more_left more_right producers pair) 1 (pieces (length producers)) (λ n p. piece_stricter tree plan slot producers pair n p))

-- ---- of a plan

at_most_all : (n : ℕ) → min n 1 ≤ n
at_most_all n = omega arith

seen_stricter : (tree : Tree) (plan : Plan) (slot : Slot) (us : List Boundary) → AreStricter (slot_tasks tree plan slot (signature_of One plan.kinds us)) (slot_tasks tree plan slot (signature_of Two plan.kinds us))
seen_stricter tree plan slot us =
    by (list_any (λ u. is_barrier (kind_at plan.kinds u)) us) (sum_by (λ u. left_waits (kind_at plan.kinds u)) us) (sum_by (λ u. right_waits (kind_at plan.kinds u)) us) (last_three (flat_map (λ (u : Boundary). producers_at u.side (kind_at plan.kinds u)) us))
  where
    by : (b : Bool) (left right : ℕ) (producers : List (Anchor × Side)) → AreStricter (slot_tasks tree plan slot (if b then blocked else waits (counted One left) (counted One right) producers)) (slot_tasks tree plan slot (if b then blocked else waits (counted Two left) (counted Two right) producers))
    by true left right producers = tt
    by false left right producers = slot_stricter (min left 1) (min right 1) left right (at_most_all left) (at_most_all right) tree plan slot producers

plan_stricter : (tree : Tree) (plan : Plan) → AreStricter (tasks_of tree (in_version One plan)) (tasks_of tree (in_version Two plan))
plan_stricter tree plan =
    let phases = phases_of tree plan.cut.marks in
    let trips = flat_map (trips_tasks tree plan) phases in
    let made = λ (version : Version) (slot : Slot). slot_tasks tree plan slot (slot_signature version plan.kinds phases slot) in
    let paths = flat_map (paths_tasks tree plan) phases in
    let one = flat_map (made One) (slots_of phases) in
    let two = flat_map (made Two) (slots_of phases) in
    stricter_append (trips ++ one) (trips ++ two) paths paths
    (stricter_append trips trips one two (stricter_self trips) (stricter_each (made One) (made Two) (slots_of phases) (λ slot. seen_stricter tree plan slot (certain_boundaries phases slot.first.outer slot.second.outer slot.s slot.t slot.level))))
    (stricter_self paths)

-- ---- its certificates

-- no failure, or a bad certificate in which a number grows too large
abbrev pub IsRefusedForWidth : Option PlanRefusal → Type 0
IsRefusedForWidth failure = (n : ℕ) × (step : ℕ) × (entry : ℕ) × (failure ≡ Some (Bad n (Wide step entry)))

joined : (n : ℕ) (fault : Option CertRefusal) (rest : Option PlanRefusal) → IsWideAtMost fault → (rest ≡ None) ⊎ IsRefusedForWidth rest → (option_or (option_map (Bad n) fault) rest ≡ None) ⊎ IsRefusedForWidth (option_or (option_map (Bad n) fault) rest)
joined n fault rest (inl none) later = subst (λ f. (option_or (option_map (Bad n) f) rest ≡ None) ⊎ IsRefusedForWidth (option_or (option_map (Bad n) f) rest)) (sym none) later
joined n fault rest (inr wide) later = inr (n, wide.0, wide.1, ap (λ f. option_or (option_map (Bad n) f) rest) wide.2)

uncertified_stricter : (n : ℕ) (ks ls : List Task) (cs : List Certificate) → AreStricter ks ls → AreCertified (numbered_from n ks) cs → (first_uncertified (numbered_from n ls) cs ≡ None) ⊎ IsRefusedForWidth (first_uncertified (numbered_from n ls) cs)
uncertified_stricter n [] [] cs stricter certified = inl refl
uncertified_stricter n [] (l ∷ ls) cs stricter certified = absurd stricter
uncertified_stricter n (k ∷ ks) [] cs stricter certified = absurd stricter
uncertified_stricter n (k ∷ ks) (l ∷ ls) [] stricter certified = absurd certified
uncertified_stricter n (k ∷ ks) (l ∷ ls) (c ∷ cs) stricter certified =
    joined n (first_fault l.system c) (first_uncertified (numbered_from (suc n) ls) cs) (subst (λ v. IsWideAtMost (fault_from v l.system.rows 1 c.steps)) (sym stricter.0.vars) (fault_tighter k.system.vars 1 c.steps k.system.rows l.system.rows stricter.0.rows (none_where_good k.system c certified.0)))
    (uncertified_stricter (suc n) ks ls cs stricter.1 certified.1)

stricter_length : (n : ℕ) (ks ls : List Task) → AreStricter ks ls → length (numbered_from n ls) ≡ length (numbered_from n ks)
stricter_length n [] [] h = refl
stricter_length n [] (l ∷ ls) h = absurd h
stricter_length n (k ∷ ks) [] h = absurd h
stricter_length n (k ∷ ks) (l ∷ ls) h = ap suc (stricter_length (suc n) ks ls h.1)

-- it fits in the one as in the other
same_conditions : (constants : ℕ) (conditions : Conditions) → are_good_conditions constants Two conditions ≡ are_good_conditions constants One conditions
same_conditions constants Values = refl
same_conditions constants (Rows rows) = refl

fits_alike : (tree : Tree) (plan : Plan) → IsFit tree (in_version One plan) → IsFit tree (in_version Two plan)
fits_alike tree plan fits =
    rw (same_conditions (length tree.params) plan.conditions, have_sums-alike Two One early_sums plan.cut.marks tree.items, have_privates-alike Two One early_privates plan.cut tree.items) fits

-- where it fits, and has as many certificates as obligations, its failure is the first bad certificate
failure_in : (tree : Tree) (plan : Plan) (bad : Option PlanRefusal) → IsFit tree plan → length plan.certificates ≤ length (obligations_of tree plan) → first_uncertified (obligations_of tree plan) plan.certificates ≡ bad → first_failure tree plan ≡ bad
failure_in tree plan bad fits few is =
    ap (λ misfit. failure_with misfit tree plan) (ap (option_map refusal_of) fits)
    ∙ failure_by tree plan None None None bad (ap (option_map Shape) (fit_shape tree plan fits))
    (ap (λ b. if b then Some (Shape 7) else None) (false_where_few (length (obligations_of tree plan)) (length plan.certificates) few)) is

by_failure : (tree : Tree) (plan : Plan) → IsFit tree plan → length plan.certificates ≤ length (obligations_of tree plan) →
    (first_uncertified (obligations_of tree plan) plan.certificates ≡ None) ⊎ IsRefusedForWidth (first_uncertified (obligations_of tree plan) plan.certificates) → IsAccepted tree plan ⊎ IsRefusedForWidth (first_failure tree plan)
by_failure tree plan fits few (inl none) = inl (accepted_where_none tree plan (failure_in tree plan None fits few none))
by_failure tree plan fits few (inr wide) = inr (wide.0, wide.1, wide.2, failure_in tree plan (Some (Bad wide.0 (Wide wide.1 wide.2))) fits few wide.3)

pub one_in_two : (tree : Tree) (plan : Plan) → IsAccepted tree (in_version One plan) → IsAccepted tree (in_version Two plan) ⊎ IsRefusedForWidth (first_failure tree (in_version Two plan))
one_in_two tree plan accepted =
    let stricter = plan_stricter tree plan in
    let many = as_many (obligations_of tree (in_version One plan)) plan.certificates accepted.certified in
    let same = stricter_length 1 (tasks_of tree (in_version One plan)) (tasks_of tree (in_version Two plan)) stricter in
    by_failure tree (in_version Two plan) (fits_alike tree plan accepted.fits) (omega (arith, many, same))
    (uncertified_stricter 1 (tasks_of tree (in_version One plan)) (tasks_of tree (in_version Two plan)) plan.certificates stricter accepted.certified)
