-- What a slot sees of kinds that agree at its certain boundaries.
use Rattle.std.proofs.Common.{◌≡◌, ℕ, ◌+◌, Bool, ◌||◌, List, [], ◌∷◌, ◌++◌, if◌then◌else◌, refl, ap, sym, ◌∙◌}
use Rattle.std.specs.List.{AllByRecursion, flat_map, list_any}
use Rattle.std.specs.Prelude.{sum_by}
use Rattle.std.proofs.lemmas.List.Sums.{sum_by-cons}
use Rattle.std.proofs.lemmas.List.Concat.{flat_map-cons}
use Rattle.nest_tree.specs.Tree.{Tree}
use Rattle.owner_partition.specs.declared.anchor.Anchor.{Anchor}
use Rattle.sync_plan.specs.declared.plan.Kind.{Kind}
use Rattle.sync_plan.specs.declared.plan.Plan.{Plan}
use Rattle.sync_plan.specs.declared.plan.Version.{Version}
use Rattle.conflict_rules.specs.Boundaries.{Boundary, Side, certain_boundaries}
use Rattle.conflict_rules.specs.Slots.{Slot}
use Rattle.comm_system.specs.Obligations.{slot_signature, slot_tasks}
use Rattle.conflict_rules.specs.References.{StaticPhase}
use Rattle.comm_system.specs.Signatures.{Signature, blocked, waits, counted, is_barrier, kind_at, last_three, left_waits, producers_at, right_waits, signature_of}

same_any : {X Y : Type 0} (p : Y → Bool) (f g : X → Y) (xs : List X) → AllByRecursion (λ x. f x ≡ g x) xs → list_any (λ x. p (f x)) xs ≡ list_any (λ x. p (g x)) xs
same_any p f g [] all = refl
same_any p f g (x ∷ xs) (h, all) = ap (λ y. p y || list_any (λ x. p (f x)) xs) h ∙ ap (λ b. p (g x) || b) (same_any p f g xs all)

same_sum : {X Y : Type 0} (p : Y → ℕ) (f g : X → Y) (xs : List X) → AllByRecursion (λ x. f x ≡ g x) xs → sum_by (λ x. p (f x)) xs ≡ sum_by (λ x. p (g x)) xs
same_sum p f g [] all = refl
same_sum p f g (x ∷ xs) (h, all) =
    sum_by-cons (λ x. p (f x)) x xs ∙ ap (λ y. p y + sum_by (λ x. p (f x)) xs) h ∙ ap (λ n. p (g x) + n) (same_sum p f g xs all) ∙ sym (sum_by-cons (λ x. p (g x)) x xs)

same_pieces : {X Y A : Type 0} (p : X → Y → List A) (f g : X → Y) (xs : List X) → AllByRecursion (λ x. f x ≡ g x) xs → flat_map (λ x. p x (f x)) xs ≡ flat_map (λ x. p x (g x)) xs
same_pieces p f g [] all = refl
same_pieces p f g (x ∷ xs) (h, all) =
    flat_map-cons (λ x. p x (f x)) x xs ∙ ap (λ y. p x y ++ flat_map (λ x. p x (f x)) xs) h ∙ ap (λ ys. p x (g x) ++ ys) (same_pieces p f g xs all) ∙ sym (flat_map-cons (λ x. p x (g x)) x xs)

abbrev shape : Version → Bool → ℕ → ℕ → List (Anchor × Side) → Signature
shape version b l r producers = if b then blocked else waits (counted version l) (counted version r) (last_three producers)

same_signature : (version : Version) (kinds others : List Kind) (us : List Boundary) → AllByRecursion (λ u. kind_at kinds u ≡ kind_at others u) us → signature_of version kinds us ≡ signature_of version others us
same_signature version kinds others us all =
    let left = sum_by (λ u. left_waits (kind_at kinds u)) us in
    let right = sum_by (λ u. right_waits (kind_at kinds u)) us in
    let producers = flat_map (λ (u : Boundary). producers_at u.side (kind_at kinds u)) us in
    let right_others = sum_by (λ u. right_waits (kind_at others u)) us in
    let left_others = sum_by (λ u. left_waits (kind_at others u)) us in
    let barrier_others = list_any (λ u. is_barrier (kind_at others u)) us in
    ap (λ b. shape version b left right producers) (same_any is_barrier (kind_at kinds) (kind_at others) us all)
    ∙ ap (λ l. shape version barrier_others l right producers) (same_sum left_waits (kind_at kinds) (kind_at others) us all)
    ∙ ap (λ r. shape version barrier_others left_others r producers) (same_sum right_waits (kind_at kinds) (kind_at others) us all)
    ∙ ap (λ ps. shape version barrier_others left_others right_others ps) (same_pieces (λ (u : Boundary) k. producers_at u.side k) (kind_at kinds) (kind_at others) us all)

pub same_tasks : (tree : Tree) (plan : Plan) (kinds others : List Kind) (phases : List StaticPhase) (slot : Slot)
    → AllByRecursion (λ u. kind_at kinds u ≡ kind_at others u) (certain_boundaries phases slot.first.outer slot.second.outer slot.s slot.t slot.level)
    → slot_tasks tree plan slot (slot_signature plan.version kinds phases slot) ≡ slot_tasks tree plan slot (slot_signature plan.version others phases slot)
same_tasks tree plan kinds others phases slot all =
    ap (slot_tasks tree plan slot) (same_signature plan.version kinds others (certain_boundaries phases slot.first.outer slot.second.outer slot.s slot.t slot.level) all)
