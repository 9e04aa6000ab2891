use Rattle.std.proofs.Common.{rules, ◌≡◌, ◌+◌, ◌≤◌, ℕ, ℤ, arith, length, map, ap, sym, ◌∙◌}
use Rattle.std.proofs.lemmas.List.{length-map}
use Rattle.farkas_cert.specs.Inequalities.{Inequalities}
use Rattle.nest_tree.specs.View.{tree_of}
use Rattle.presolve.specs.Columns.{is_kept}
use Rattle.nest_systems.specs.Growing.{Growing, whole_of}
use Rattle.nest_systems.proofs.GrowingParts.{none-behind}
use Rattle.comm_system.specs.Obligations.{numbered_from, owners_of, piece_task, pieces_from, shared_system}
use Rattle.comm_system.specs.OwnerRows.{owners_unknowns, pieces}
use Rattle.comm_system.specs.PairRows.{behind_pair}
use Rattle.comm_system.specs.PieceViews.{piece_seen}
use Rattle.comm_system.specs.Seen.{pair_of}
use Rattle.conflict_rules.specs.References.{variable_of}
use Rattle.conflict_rules.specs.SideViews.{producer_seen}
use Rattle.comm_system.specs.SlotViews.{slot_seen}
use Rattle.comm_system.specs.declared.obligation.Obligation.{Obligation}
use Rattle.comm_system.proofs.Growings.{numbers-owned, owned-count}
use Rattle.comm_system.proofs.InPlace.{piece_same}
use Rattle.comm_system.proofs.SystemParts.{few_made, pieces_same}
use Rattle.comm_system.proofs.in_place.PairSystems.new.Goals as goal

pub invariant_of-result : goal.invariant_of-result
invariant_of-result c =
    let tree = tree_of c.args.program.now in
    let plan = c.args.plan.now in
    let slot = slot_seen c.args.slot.now in
    let waits = c.args.waits.now in
    let producers = map producer_seen waits.producers.items in
    let pair = pair_of c.args.a.now c.args.b.now in
    let ps = c.in_ok-pieces.pieces.items in
    let size : c.len.result ≡ length waits.producers.items = search rules in
    let made : map piece_seen ps ≡ pieces (length waits.producers.items) = c.in_ok-pieces.ensures ∙ ap pieces size in
    let long : length ps ≡ length (pieces (length waits.producers.items)) = sym (length-map ps piece_seen) ∙ ap length made in
    let is = c.in_ok-system.ensures.shared in
    let columns = ap (λ (g : Growing). g.columns) c.new.ensures in
    let vars = ap (λ (g : Growing). g.shared.vars) c.new.ensures in
    record {
      few = few_made (length waits.producers.items) ps made waits.three;
      room = omega (arith, long, c.requires.room);
      unknowns = omega (arith, vars, c.in_ok-system.ensures.few);
      kept = λ k lt own.
          let owned = numbers-owned (behind_pair tree pair) (owners_of tree plan slot producers pair) (k + 1) (ap (λ xs. is_kept xs (k + 1)) (sym is.owners) ∙ own) in
          ap (λ cols. is_kept cols k) columns ∙ c.in_ok-presolved.ensures.wanted k (omega (arith, lt, vars)) (ap (λ xs. is_kept xs (k + 1)) (c.as_slice.ensures.value ∙ is.owned) ∙ owned);
    }

pub returns-clause-obligations : goal.returns-clause-obligations
returns-clause-obligations c =
    let tree = tree_of c.args.program.now in
    let plan = c.args.plan.now in
    let slot = slot_seen c.args.slot.now in
    let waits = c.args.waits.now in
    let producers = map producer_seen waits.producers.items in
    let pair = pair_of c.args.a.now c.args.b.now in
    let ps = c.in_ok-pieces.pieces.items in
    let size : c.len.result ≡ length waits.producers.items = search rules in
    let made : map piece_seen ps ≡ pieces (length waits.producers.items) = c.in_ok-pieces.ensures ∙ ap pieces size in
    let same = piece_same tree plan slot waits.left waits.right producers pair c.in_ok-system.field-0 c.new.result.shared c.variable.result c.range.result
    c.in_ok-system.ensures.shared (ap (λ (g : Growing). g.shared) c.new.ensures) c.variable.ensures c.range.ensures in
    ap (numbered_from c.args.number) (pieces_same _ (piece_task tree plan slot waits.left waits.right producers pair) same 1 (map piece_seen ps)
    ∙ ap (pieces_from (piece_task tree plan slot waits.left waits.right producers pair) 1) (made ∙ ap pieces (sym (length-map waits.producers.items producer_seen))))

pub returns-clause-none : goal.returns-clause-none
returns-clause-none c =
    let of : Inequalities → ℕ → ℤ × ℤ → Obligation = λ s v r. record { number = c.args.number; system = s; lines = (c.args.a.now.line, c.args.b.now.line); variable = v; level = c.args.slot.now.level; piece = 0; range = r } in
    let tree = tree_of c.args.program.now in
    let plan = c.args.plan.now in
    let slot = slot_seen c.args.slot.now in
    let producers = map producer_seen c.args.waits.now.producers.items in
    let pair = pair_of c.args.a.now c.args.b.now in
    let whole = shared_system tree plan slot producers pair in
    let variable = variable_of pair.first.what in
    ap (λ s. of s c.variable.result c.range.result) (ap (λ (g : Growing). g.shared) c.new.ensures ∙ c.in_ok-system.ensures.shared.system)
    ∙ ap (λ v. of whole v c.range.result) c.variable.ensures ∙ ap (λ r. of whole variable r) c.range.ensures

pub returns-clause-first : goal.returns-clause-first
returns-clause-first c =
    let of : Inequalities → Obligation = λ s. record { number = c.args.number; system = s; lines = (c.args.a.now.line, c.args.b.now.line); variable = c.variable.result; level = c.args.slot.now.level; piece = 0; range = c.range.result } in
    ap of (ap whole_of c.new.ensures ∙ none-behind _ ∙ sym (ap (λ (g : Growing). g.shared) c.new.ensures))

pub returns-clause-owners : goal.returns-clause-owners
returns-clause-owners c =
    let tree = tree_of c.args.program.now in
    let plan = c.args.plan.now in
    let slot = slot_seen c.args.slot.now in
    let producers = map producer_seen c.args.waits.now.producers.items in
    let pair = pair_of c.args.a.now c.args.b.now in
    let owners = owners_of tree plan slot producers pair in
    let shared = c.in_ok-system.field-0 in
    let is = c.in_ok-system.ensures.shared in
    let some : 1 ≤ behind_pair tree pair = omega arith in
    let count = owned-count shared.system c.in_ok-presolved.presolved shared.owned.items (behind_pair tree pair) (owners_unknowns owners) c.in_ok-presolved.ensures.presolved some (ap (λ (s : Inequalities). s.vars) is.system) is.owned
    (λ k lt h. c.in_ok-presolved.ensures.wanted k lt (ap (λ xs. is_kept xs (k + 1)) c.as_slice.ensures.value ∙ h)) in
    let columns = ap (λ (g : Growing). length g.columns) c.new.ensures in
    omega (arith, count, columns)
