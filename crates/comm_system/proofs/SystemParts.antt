-- The systems of a pair's pieces, part by part.
use Rattle.std.proofs.Common.{◌≡◌, ℕ, zero, suc, ◌+◌, ◌-◌, ◌<◌, ◌≤◌, negsuc, List, [], ◌∷◌, ◌++◌, length, map, drop, get_or, slice_get, take, Option, Some, refl, ap, ap₂, sym, ◌∙◌, arith}
use Rattle.std.specs.Prelude.{Err, Ok, OnErr, OnOk, Result}
use Rattle.std.proofs.lemmas.List.{drop_more, length-drop, length-map, map-append, take_all}
use Rattle.farkas_cert.specs.Inequalities.{Inequalities}
use Rattle.nest_tree.specs.Tree.{Tree}
use Rattle.nest_rows.specs.Constraints.{row_of, system_of}
use Rattle.nest_rows.specs.More.{HasMore}
use Rattle.nest_rows.specs.declared.constraint.Constraint.{Constraint}
use Rattle.nest_rows.proofs.RowLists.{more-both}
use Rattle.owner_partition.specs.declared.anchor.Anchor.{Anchor}
use Rattle.sync_plan.specs.declared.plan.Plan.{Plan}
use Rattle.conflict_rules.specs.Boundaries.{Side}
use Rattle.comm_system.specs.Levels.{Order, common, order_at}
use Rattle.conflict_rules.specs.Slots.{Slot}
use Rattle.comm_system.specs.Obligations.{Task, lasts_at, last_of, numbered, numbered_from, owners_of, piece_task, pieces_from}
use Rattle.comm_system.specs.OwnerRows.{Piece, Placed, beside, owner_numbers, owners_have, owners_unknowns, pieces, sign_of}
use Rattle.comm_system.specs.PairRows.{apart, behind_pair, pair_rows}
use Rattle.comm_system.specs.Pairs.{Pair}
use Rattle.comm_system.specs.PieceViews.{direction_seen, piece_seen}
use Rattle.comm_system.specs.SystemViews.{AreUnknowns, IsShared}
use Rattle.comm_system.specs.declared.pair_systems.Shared.{Shared}
use Rattle.comm_system.specs.declared.pair_systems.Unknowns.{Unknowns}
use Rattle.comm_system.specs.declared.pieces.Direction.{Direction}
use Rattle.comm_system.specs.declared.pieces.Piece.{Piece as Held}

-- a system and its further rows
pub system_more : (vars : ℕ) (rows last : List Constraint) (old new : Inequalities) → old ≡ system_of vars rows → HasMore last old new → new ≡ system_of vars (rows ++ last)
system_more vars rows last old new is more =
    more ∙ ap (λ (s : Inequalities). record { vars = s.vars; rows = s.rows ++ map (row_of s.vars) last }) is
    ∙ ap (λ rs. record { vars = vars; rows = rs }) (sym (map-append (row_of vars) rows last))

-- a system that had no row
pub system_first : (vars : ℕ) (rows : List Constraint) (old new : Inequalities) → old ≡ record { vars = vars; rows = [] } → HasMore rows old new → new ≡ system_of vars rows
system_first vars rows old new is more = more ∙ ap (λ (s : Inequalities). record { vars = s.vars; rows = s.rows ++ map (row_of s.vars) rows }) is

-- one side more
pub beside_more : (q : ℕ) (os : List ℕ) (sides : List Direction) (k d : ℕ) (e : Direction) → k < length os → k < length sides →
    beside q (drop k os) (map direction_seen (drop k sides)) ≡ (apart (sign_of (direction_seen (get_or sides k e))) q (get_or os k d) (negsuc 0) ∷ []) ++ beside q (drop (k + 1) os) (map direction_seen (drop (k + 1) sides))
beside_more q os sides k d e lo ls =
    ap (λ xs. beside q xs (map direction_seen (drop k sides))) (drop_more os k d lo)
    ∙ ap (λ ds. beside q (get_or os k d ∷ drop (k + 1) os) (map direction_seen ds)) (drop_more sides k e ls)

-- the first two of some owners
pub two_first : (xs : List ℕ) → 2 ≤ length xs → xs ≡ get_or xs 0 0 ∷ get_or xs 1 0 ∷ drop 2 xs
two_first [] le = absurd (omega (arith, le))
two_first (x ∷ []) le = absurd (omega (arith, le))
two_first (x ∷ y ∷ xs) le = refl

-- those behind the first two
pub rest_taken : (xs : List ℕ) → take (length xs - 2) (drop 2 xs) ≡ drop 2 xs
rest_taken xs = let long = length-drop 2 xs in take_all (length xs - 2) (drop 2 xs) (omega (arith, long))

-- three producers have 16 pieces
pub few_pieces : (n : ℕ) → n ≤ 3 → length (pieces n) ≤ 16
few_pieces zero le = omega arith
few_pieces (suc zero) le = omega arith
few_pieces (suc (suc zero)) le = omega arith
few_pieces (suc (suc (suc zero))) le = omega arith
few_pieces (suc (suc (suc (suc n)))) le = absurd (omega (arith, le))

pub few_made : (n : ℕ) (ps : List Held) → map piece_seen ps ≡ pieces n → n ≤ 3 → length ps ≤ 16
few_made n ps is le =
    let few = few_pieces n le in
    let long : length ps ≡ length (pieces n) = sym (length-map ps piece_seen) ∙ ap length is in
    omega (arith, few, long)

-- the rows that all pieces share, and the owners' unknowns
pub shared_system : (tree : Tree) (plan : Plan) (slot : Slot) (producers : List (Anchor × Side)) (pair : Pair) (n : Unknowns) (placed : List Placed) (order : Order) (lasts : Option ℕ × Option ℕ) (old middle new : Inequalities) (count : ℕ) →
    AreUnknowns tree pair n → placed ≡ owners_of tree plan slot producers pair → order ≡ order_at (common slot.first.outer slot.second.outer) slot.level → lasts ≡ lasts_at plan.cut slot pair → count ≡ owners_unknowns (owners_of tree plan slot producers pair) →
    old ≡ record { vars = n.behind + count - 1; rows = [] } → HasMore (pair_rows tree plan.conditions order lasts pair) old middle → HasMore (owners_have plan.workers n.behind placed) middle new →
    new ≡ system_of (behind_pair tree pair + owners_unknowns (owners_of tree plan slot producers pair) - 1)
    (pair_rows tree plan.conditions (order_at (common slot.first.outer slot.second.outer) slot.level) (lasts_at plan.cut slot pair) pair ++ owners_have plan.workers (behind_pair tree pair) (owners_of tree plan slot producers pair))
shared_system tree plan slot producers pair n placed order lasts old middle new count are owners ordered last counted empty first second =
    let of_pair = pair_rows tree plan.conditions order lasts pair in
    let of_owners = owners_have plan.workers n.behind placed in
    let all = owners_of tree plan slot producers pair in
    let vars : n.behind + count - 1 ≡ behind_pair tree pair + owners_unknowns all - 1 = let b = are.behind in omega (arith, b, counted) in
    system_first (n.behind + count - 1) (of_pair ++ of_owners) old new empty (more-both of_pair of_owners old middle new first second)
    ∙ ap (λ v. system_of v (of_pair ++ of_owners)) vars
    ∙ ap (λ o. system_of (behind_pair tree pair + owners_unknowns all - 1) (pair_rows tree plan.conditions o lasts pair ++ of_owners)) ordered
    ∙ ap (λ l. system_of (behind_pair tree pair + owners_unknowns all - 1) (pair_rows tree plan.conditions (order_at (common slot.first.outer slot.second.outer) slot.level) l pair ++ of_owners)) last
    ∙ ap (λ m. system_of (behind_pair tree pair + owners_unknowns all - 1) (pair_rows tree plan.conditions (order_at (common slot.first.outer slot.second.outer) slot.level) (lasts_at plan.cut slot pair) pair ++ owners_have plan.workers m placed)) are.behind
    ∙ ap (λ ps. system_of (behind_pair tree pair + owners_unknowns all - 1) (pair_rows tree plan.conditions (order_at (common slot.first.outer slot.second.outer) slot.level) (lasts_at plan.cut slot pair) pair ++ owners_have plan.workers (behind_pair tree pair) ps)) owners

pub shared_numbers : (tree : Tree) (plan : Plan) (slot : Slot) (producers : List (Anchor × Side)) (pair : Pair) (n : Unknowns) (placed : List Placed) → AreUnknowns tree pair n → placed ≡ owners_of tree plan slot producers pair →
    owner_numbers n.behind placed ≡ owner_numbers (behind_pair tree pair) (owners_of tree plan slot producers pair)
shared_numbers tree plan slot producers pair n placed are owners = ap (λ m. owner_numbers m placed) are.behind ∙ ap (owner_numbers (behind_pair tree pair)) owners

-- the system of a piece
pub piece_system : (tree : Tree) (plan : Plan) (slot : Slot) (left right : ℕ) (producers : List (Anchor × Side)) (pair : Pair) (shared : Shared) (p : Piece) (system : Inequalities) → IsShared tree plan slot producers pair shared →
    HasMore (last_of left right shared.owners.items p) shared.system system → system ≡ (piece_task tree plan slot left right producers pair 1 p).system
piece_system tree plan slot left right producers pair shared p system is more =
    let q = behind_pair tree pair in
    let owners = owners_of tree plan slot producers pair in
    let vars = q + owners_unknowns owners - 1 in
    let rows = pair_rows tree plan.conditions (order_at (common slot.first.outer slot.second.outer) slot.level) (lasts_at plan.cut slot pair) pair ++ owners_have plan.workers q owners in
    system_more vars rows (last_of left right shared.owners.items p) shared.system system is.system more ∙ ap (λ os. system_of vars (rows ++ last_of left right os p)) is.owners

-- what follows where there is none, or an error
pub ok_then : {T E : Type 0} (r : Result T E) (P Q : Type 0) → OnOk r P → (P → Q) → OnOk r Q
ok_then (Ok x) P Q h f = f h
ok_then (Err e) P Q h f = tt

pub err_then : {T E : Type 0} (r : Result T E) (P Q : Type 0) → OnErr r P → (P → Q) → OnErr r Q
err_then (Ok x) P Q h f = tt
err_then (Err e) P Q h f = f h

-- the pieces of two functions that agree
pub pieces_same : (f g : ℕ → Piece → Task) → ((n : ℕ) (p : Piece) → f n p ≡ g n p) → (n : ℕ) (ps : List Piece) → pieces_from f n ps ≡ pieces_from g n ps
pieces_same f g same n [] = refl
pieces_same f g same n (p ∷ ps) = ap₂ (λ (t : Task) (ts : List Task). t ∷ ts) (same n p) (pieces_same f g same (suc n) ps)

-- as many obligations as pieces
pub pieces_long : (f : ℕ → Piece → Task) (n m : ℕ) (ps : List Held) → length (numbered_from n (pieces_from f m (map piece_seen ps))) ≡ length ps
pieces_long f n m [] = refl
pieces_long f n m (p ∷ ps) = ap suc (pieces_long f (suc n) (suc m) ps)

-- the obligation of the piece at a place
pub piece_at : (f : ℕ → Piece → Task) (n m : ℕ) (ps : List Held) (k : ℕ) (p : Held) → k < length ps → p ≡ get_or ps k p → slice_get (numbered_from n (pieces_from f m (map piece_seen ps))) k ≡ Some (numbered (n + k) (f (m + k) (piece_seen p)))
piece_at f n m [] k p lt is = absurd (omega (arith, lt))
piece_at f n m (q ∷ ps) zero p lt is =
    let number : n ≡ n + 0 = omega arith in
    let place : m ≡ m + 0 = omega arith in
    ap (λ x. Some (numbered n (f m (piece_seen x)))) (sym is) ∙ ap (λ x. Some (numbered x (f m (piece_seen p)))) number ∙ ap (λ x. Some (numbered (n + 0) (f x (piece_seen p)))) place
piece_at f n m (q ∷ ps) (suc k) p lt is =
    let number : suc n + k ≡ n + suc k = omega arith in
    let place : suc m + k ≡ m + suc k = omega arith in
    piece_at f (suc n) (suc m) ps k p (omega (arith, lt)) is ∙ ap (λ x. Some (numbered x (f (suc m + k) (piece_seen p)))) number ∙ ap (λ x. Some (numbered (n + suc k) (f x (piece_seen p)))) place
