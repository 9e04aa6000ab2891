-- What is seen of kinds, boundary by boundary.
use Rattle.std.proofs.Common.{◌≡◌, ℕ, zero, suc, slice_get, ◌+◌, ◌-◌, ◌≤◌, true, false, ◌||◌, List, [], ◌∷◌, ◌++◌, length, map, drop, take, if◌then◌else◌, refl, ap, sym, ◌∙◌, arith}
use Rattle.std.specs.List.{flat_map, list_all, list_any}
use Rattle.std.specs.Prelude.{sum_by}
use Rattle.std.proofs.Math.Bool.{or-false}
use Rattle.std.proofs.lemmas.Bool.{and_parts}
use Rattle.std.proofs.lemmas.List.{append-nil, drop-map, length-drop, length-map, take_all}
use Rattle.std.proofs.lemmas.List.Concat.{flat_map-cons}
use Rattle.std.proofs.lemmas.List.Folds.{list_any-append}
use Rattle.std.proofs.lemmas.List.Sums.{sum_by-append, sum_by-cons}
use Rattle.std.proofs.lemmas.Grind.{flat_map-append}
use Rattle.sync_plan.specs.declared.plan.Kind.{Kind}
use Rattle.conflict_rules.specs.Boundaries.{Boundary, Side}
use Rattle.owner_partition.specs.declared.anchor.Anchor.{Anchor}
use Rattle.sync_plan.specs.declared.plan.Version.{Version}
use Rattle.comm_system.specs.Signatures.{blocked, counted, has_places_in, is_barrier, kind_at, last_three, left_waits, or_nothing, producers_at, right_waits, signature_of, waits}
use Rattle.comm_system.specs.SideViews.{boundary_seen}
use Rattle.conflict_rules.specs.SideViews.{producer_seen}
use Rattle.comm_system.specs.SignatureViews.{Adds, HasSeen}
use Rattle.conflict_rules.specs.declared.producer.Producer.{Producer}
use Rattle.comm_system.specs.declared.signature.Seen.{Seen}
use Rattle.comm_system.specs.declared.boundary.Boundary.{Boundary as Held}

one_sum : (f : Boundary → ℕ) (u : Boundary) → sum_by f (u ∷ []) ≡ f u
one_sum f u = let h = sum_by-cons f u [] in omega (arith, h)

one_list : {A : Type 0} (f : Boundary → List A) (u : Boundary) → flat_map f (u ∷ []) ≡ f u
one_list f u = flat_map-cons f u [] ∙ append-nil (f u)

-- one boundary more
pub seen_more : (kinds : List Kind) (us : List Boundary) (b : Held) (kind : Kind) (old new : Seen) → kind ≡ kind_at kinds (boundary_seen b) → HasSeen kinds us old → Adds kind b.side old new → HasSeen kinds (us ++ boundary_seen b ∷ []) new
seen_more kinds us b kind old new is h a =
    let u = boundary_seen b in
    let barrier = λ (u : Boundary). is_barrier (kind_at kinds u) in
    let left = λ (u : Boundary). left_waits (kind_at kinds u) in
    let right = λ (u : Boundary). right_waits (kind_at kinds u) in
    let producers = λ (u : Boundary). producers_at u.side (kind_at kinds u) in
    record {
      barrier = a.barrier ∙ ap (λ b. b || is_barrier kind) h.barrier ∙ ap (λ k. list_any barrier us || is_barrier k) is ∙ ap (λ b. list_any barrier us || b) (sym (or-false (barrier u))) ∙ sym (list_any-append barrier us (u ∷ []));
      left = a.left ∙ ap (λ m. m + left_waits kind) h.left ∙ ap (λ k. sum_by left us + left_waits k) is ∙ sym (sum_by-append left us (u ∷ []) ∙ ap (λ m. sum_by left us + m) (one_sum left u));
      right = a.right ∙ ap (λ m. m + right_waits kind) h.right ∙ ap (λ k. sum_by right us + right_waits k) is ∙ sym (sum_by-append right us (u ∷ []) ∙ ap (λ m. sum_by right us + m) (one_sum right u));
      producers = a.producers ∙ ap (λ ps. ps ++ producers_at u.side kind) h.producers ∙ ap (λ k. flat_map producers us ++ producers_at u.side k) is ∙ sym (flat_map-append producers us (u ∷ []) ∙ ap (λ ps. flat_map producers us ++ ps) (one_list producers u));
    }

-- the signature that these counts and producers make
pub signature_is : (version : Version) (kinds : List Kind) (us : List Boundary) (seen : Seen) (left right : ℕ) (producers : List (Anchor × Side)) → HasSeen kinds us seen → seen.barrier ≡ false → left ≡ counted version seen.left → right ≡ counted version seen.right →
    producers ≡ last_three (map producer_seen seen.producers.items) → waits left right producers ≡ signature_of version kinds us
signature_is version kinds us seen left right producers h unblocked l r p =
    let sum-left = sum_by (λ u. left_waits (kind_at kinds u)) us in
    let sum-right = sum_by (λ u. right_waits (kind_at kinds u)) us in
    let all = flat_map (λ (u : Boundary). producers_at u.side (kind_at kinds u)) us in
    let free = sym h.barrier ∙ unblocked in
    ap (λ n. waits n right producers) (l ∙ ap (counted version) h.left)
    ∙ ap (λ n. waits (counted version sum-left) n producers) (r ∙ ap (counted version) h.right)
    ∙ ap (waits (counted version sum-left) (counted version sum-right)) (p ∙ ap last_three h.producers)
    ∙ sym (ap (λ b. if b then blocked else waits (counted version sum-left) (counted version sum-right) (last_three all)) free)

-- the last three of the producers that were seen
pub last_seen : (xs ds ys : List Producer) (k : ℕ) → ds ≡ xs → ys ≡ take (length ds - k) (drop k ds) → k ≡ length ds - 3 → map producer_seen ys ≡ last_three (map producer_seen xs)
last_seen xs ds ys k same e is =
    let few : length (drop k ds) ≤ length ds - k = let h = length-drop k ds in omega (arith, h) in
    ap (map producer_seen) (e ∙ take_all (length ds - k) (drop k ds) few) ∙ sym (drop-map producer_seen k ds) ∙ ap (λ n. drop n (map producer_seen ds)) (is ∙ ap (λ n. n - 3) (sym (length-map ds producer_seen)))
    ∙ ap (λ zs. last_three (map producer_seen zs)) same

-- the places of a kind's producer, where all kinds have them
pub places_at : (kinds : List Kind) (k : ℕ) → list_all has_places_in kinds ≡ true → has_places_in (or_nothing (slice_get kinds k)) ≡ true
places_at [] k all = refl
places_at (x ∷ kinds) zero all = (and_parts (has_places_in x) (list_all has_places_in kinds) all).0
places_at (x ∷ kinds) (suc k) all = places_at kinds k (and_parts (has_places_in x) (list_all has_places_in kinds) all).1
