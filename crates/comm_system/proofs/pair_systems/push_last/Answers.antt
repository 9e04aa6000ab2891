use Rattle.std.proofs.Common.{FitsSigned, w64, rules, to_z-of_z, ◌≡◌, ◌<◌, ◌∷◌, ◌++◌, ◌-◌, [], pos, neg_ℤ, get_or, drop, take, length, map, ap, sym, ◌∙◌, subst, List, arith}
use Rattle.nest_rows.specs.declared.constraint.Constraint.{Constraint}
use Rattle.comm_system.specs.Obligations.{last_of}
use Rattle.comm_system.specs.OwnerRows.{Direction, beside, distance, sign_of}
use Rattle.comm_system.specs.PairRows.{apart}
use Rattle.comm_system.specs.PieceViews.{direction_seen, piece_seen}
use Rattle.comm_system.specs.Owned.{HasOwners}
use Rattle.comm_system.specs.SystemViews.{grown}
use Rattle.comm_system.proofs.Growings.{apart-named, grown-more, has-at, has-behind, has-grown}
use Rattle.comm_system.proofs.SystemParts.{err_then, ok_then, rest_taken, two_first}
use Rattle.comm_system.proofs.pair_systems.push_last.Goals as goal

pub push-requires-clause-named : goal.push-requires-clause-named
push-requires-clause-named c =
    let xs = c.args.owners.now in
    let g = c.args.system.now in
    let two = c.if-owners-lt2.false in
    let first : 0 < length xs = omega (arith, two) in
    let second : 1 < length xs = omega (arith, two) in
    apart-named g c.in_ok-range.range c.sign.result (get_or xs 0 0) (get_or xs 1 0) _ c.in_ok-range.ensures.is (has-at xs 0 g first c.requires) (has-at xs 1 g second c.requires)

pub push_beside-requires-clause-first : goal.push_beside-requires-clause-first
push_beside-requires-clause-first c =
    let xs = c.args.owners.now in
    let two = c.if-owners-lt2.false in
    let first : 0 < length xs = omega (arith, two) in
    has-grown (get_or xs 0 0 ∷ []) (c.in_ok-range.range ∷ []) c.args.system.now c.push.new.self c.in_ok-push.ensures.ok (has-at xs 0 c.args.system.now first c.requires)

pub push_beside-requires-clause-others : goal.push_beside-requires-clause-others
push_beside-requires-clause-others c =
    let xs = c.args.owners.now in
    let all = has-grown (drop 2 xs) (c.in_ok-range.range ∷ []) c.args.system.now c.push.new.self c.in_ok-push.ensures.ok (has-behind 2 xs c.args.system.now c.requires) in
    subst (λ os. HasOwners os c.push.new.self) (sym (rest_taken xs)) all

pub returns-clause-ok : goal.returns-clause-ok
returns-clause-ok c =
    let xs = c.args.owners.now in
    let piece = c.args.piece.now in
    let left = c.args.waits.now.left in
    let right = c.args.waits.now.right in
    let q = get_or xs 0 0 in
    let p = get_or xs 1 0 in
    let row = c.in_ok-range.range in
    let old = c.args.system.now in
    let middle = c.push.new.self in
    let new = c.push_beside.new.system in
    let sign = sign_of (direction_seen piece.range) in
    let sides = map direction_seen c.as_slice-sides.result.now in
    let fits : FitsSigned w64 c.farthest-far.result = search rules in
    let first : row ≡ apart sign q p (neg_ℤ (pos (distance (direction_seen piece.range) left right))) =
    (simp to_z-of_z at c.in_ok-range.ensures.is) ∙ ap (λ s. apart s q p c.farthest-far.result) c.sign.ensures ∙ ap (λ z. apart sign q p z) c.farthest-far.ensures in
    let same = ap (λ (r : Constraint). r ∷ beside q (take (length xs - 2) (drop 2 xs)) sides) first
    ∙ ap (λ os. apart sign q p (neg_ℤ (pos (distance (direction_seen piece.range) left right))) ∷ beside q os sides) (rest_taken xs)
    ∙ ap (λ (ds : List Direction). apart sign q p (neg_ℤ (pos (distance (direction_seen piece.range) left right))) ∷ beside q (drop 2 xs) ds) (ap (map direction_seen) c.as_slice-sides.ensures.value)
    ∙ sym (ap (λ ys. last_of left right ys (piece_seen piece)) (two_first xs c.if-owners-lt2.false)) in
    let others = beside q (take (length xs - 2) (drop 2 xs)) sides in
    ok_then c.push_beside.result (new ≡ grown others middle) (new ≡ grown (last_of left right xs (piece_seen piece)) old) c.push_beside.ensures.ok
    (λ more. grown-more (row ∷ []) others old middle new c.in_ok-push.ensures.ok more ∙ ap (λ cs. grown cs old) same)

pub returns-clause-err : goal.returns-clause-err
returns-clause-err c =
    let row = c.in_ok-range.range in
    let old = c.args.system.now in
    let middle = c.push.new.self in
    let new = c.push_beside.new.system in
    err_then c.push_beside.result ((more : List Constraint) × (new ≡ grown more middle)) ((more : List Constraint) × (new ≡ grown more old)) c.push_beside.ensures.err
    (λ h. ((row ∷ []) ++ h.0, grown-more (row ∷ []) h.0 old middle new c.in_ok-push.ensures.ok h.1))
