use Rattle.std.proofs.Common.{rules, ◌≡◌, ◌+◌, ◌<◌, ◌++◌, arith, length, Some, ap, sym, ◌∙◌, subst}
use Rattle.farkas_cert.specs.Inequalities.{Inequalities}
use Rattle.nest_systems.specs.Growing.{Growing, whole_of, with_constraints}
use Rattle.nest_systems.proofs.GrowingParts.{none-behind}
use Rattle.comm_system.specs.Obligations.{last_of, numbered}
use Rattle.comm_system.specs.PieceViews.{piece_seen}
use Rattle.comm_system.specs.Owned.{HasOwners}
use Rattle.comm_system.specs.SystemViews.{task_at}
use Rattle.comm_system.specs.declared.obligation.Obligation.{Obligation}
use Rattle.comm_system.proofs.InPlace.{all_same, task_over}
use Rattle.comm_system.proofs.SystemParts.{piece_at, pieces_long}
use Rattle.comm_system.proofs.in_place.PairSystems.make.Goals as goal

pub index-piece-requires : goal.index-piece-requires
index-piece-requires c =
    let p = c.args.self.now in
    let long = pieces_long (task_at p) p.number 1 p.pieces.items in
    omega (arith, c.requires, long)

pub push_last-requires : goal.push_last-requires
push_last-requires c =
    let p = c.args.self.now in
    subst (λ os. HasOwners os c.clear.new.self) (sym c.as_slice.ensures.value) (subst (HasOwners p.owners.items) (sym c.clear.ensures) p.kept)

pub overflow_add-self : goal.overflow_add-self
overflow_add-self c =
    let p = c.args.self.now in
    let long = pieces_long (task_at p) p.number 1 p.pieces.items in
    let small : p.number + c.args.index < 18446744073709551616 = omega (arith, c.requires, long, p.room) in
    search rules

pub overflow_cast-self : goal.overflow_cast-self
overflow_cast-self c =
    let p = c.args.self.now in
    let long = pieces_long (task_at p) p.number 1 p.pieces.items in
    let small : c.args.index < 16 = omega (arith, c.requires, long, p.few) in
    search rules

pub overflow_add-self-in-Ok : goal.overflow_add-self-in-Ok
overflow_add-self-in-Ok c =
    let p = c.args.self.now in
    let long = pieces_long (task_at p) p.number 1 p.pieces.items in
    let small : c.args.index < 16 = omega (arith, c.requires, long, p.few) in
    search rules

pub invariant_of-self : goal.invariant_of-self
invariant_of-self c =
    let p = c.args.self.now in
    let whole = c.in-Ok.ensures.ok in
    let vars = ap (λ (g : Growing). g.shared.vars) whole ∙ ap (λ (g : Growing). g.shared.vars) c.clear.ensures in
    let cleared = subst (HasOwners p.owners.items) (sym c.clear.ensures) p.kept in
    record { few = p.few; room = p.room; unknowns = omega (arith, vars, p.unknowns); kept = subst (HasOwners p.owners.items) (sym whole) cleared }

pub invariant_of-self-in-Err : goal.invariant_of-self-in-Err
invariant_of-self-in-Err c =
    let p = c.args.self.now in
    let (more, whole) = c.in-Err.ensures.err in
    let vars = ap (λ (g : Growing). g.shared.vars) c.clear-in-Err.ensures ∙ ap (λ (g : Growing). g.shared.vars) whole ∙ ap (λ (g : Growing). g.shared.vars) c.clear.ensures in
    let cleared = subst (HasOwners p.owners.items) (sym c.clear.ensures) p.kept in
    let pushed = subst (HasOwners p.owners.items) (sym whole) cleared in
    record { few = p.few; room = p.room; unknowns = omega (arith, vars, p.unknowns); kept = subst (HasOwners p.owners.items) (sym c.clear-in-Err.ensures) pushed }

pub returns-in-Ok-clause-same : goal.returns-in-Ok-clause-same
returns-in-Ok-clause-same c =
    let p = c.args.self.now in
    all_same p p.topic p.system.shared c.push_last.new.system.shared (ap (λ (g : Growing). g.shared) c.in-Ok.ensures.ok ∙ ap (λ (g : Growing). g.shared) c.clear.ensures)

pub returns-in-Ok-clause-shared : goal.returns-in-Ok-clause-shared
returns-in-Ok-clause-shared c =
    let p = c.args.self.now in
    let t = p.topic in
    let of : Inequalities → Obligation = λ s. record { number = p.number; system = s; lines = t.lines; variable = t.variable; level = t.level; piece = 0; range = t.range } in
    ap of (ap (λ (g : Growing). g.shared) c.in-Ok.ensures.ok ∙ ap (λ (g : Growing). g.shared) c.clear.ensures)

pub returns-in-Ok-clause-columns : goal.returns-in-Ok-clause-columns
returns-in-Ok-clause-columns c = ap (λ (g : Growing). g.columns) c.in-Ok.ensures.ok ∙ ap (λ (g : Growing). g.columns) c.clear.ensures

pub returns-in-Ok-clause-made : goal.returns-in-Ok-clause-made
returns-in-Ok-clause-made c =
    let p = c.args.self.now in
    let t = p.topic in
    let k = c.args.index in
    let g = c.push_last.new.system in
    let piece = c.index-piece.result.now in
    let left = p.waits.now.left in
    let right = p.waits.now.right in
    let long = pieces_long (task_at p) p.number 1 p.pieces.items in
    let inside : k < length p.pieces.items = omega (arith, c.requires, long) in
    let f = task_over p t g.shared in
    let last : g.last ≡ last_of left right c.as_slice.result.now (piece_seen piece) = ap (λ (x : Growing). x.last) c.in-Ok.ensures.ok ∙ ap (λ (x : Growing). x.last ++ last_of left right c.as_slice.result.now (piece_seen piece)) c.clear.ensures in
    let made : with_constraints (last_of left right p.owners.items (piece_seen piece)) g.shared ≡ whole_of g =
    ap (λ os. with_constraints (last_of left right os (piece_seen piece)) g.shared) (sym c.as_slice.ensures.value) ∙ ap (λ cs. with_constraints cs g.shared) (sym last) in
    let number : 1 + k ≡ k + 1 = omega arith in
    piece_at f p.number 1 p.pieces.items k piece inside c.index-piece.ensures
    ∙ ap (λ m. Some (numbered (p.number + k) (f m (piece_seen piece)))) number
    ∙ ap (λ (s : Inequalities). Some (numbered (p.number + k) (record { system = s; lines = t.lines; variable = t.variable; level = t.level; piece = k + 1; range = t.range }))) made

pub returns-in-Err-clause-same : goal.returns-in-Err-clause-same
returns-in-Err-clause-same c =
    let p = c.args.self.now in
    let (more, whole) = c.in-Err.ensures.err in
    all_same p p.topic p.system.shared c.clear-in-Err.new.self.shared (ap (λ (g : Growing). g.shared) c.clear-in-Err.ensures ∙ ap (λ (g : Growing). g.shared) whole ∙ ap (λ (g : Growing). g.shared) c.clear.ensures)

pub returns-in-Err-clause-shared : goal.returns-in-Err-clause-shared
returns-in-Err-clause-shared c =
    let p = c.args.self.now in
    let t = p.topic in
    let (more, whole) = c.in-Err.ensures.err in
    let of : Inequalities → Obligation = λ s. record { number = p.number; system = s; lines = t.lines; variable = t.variable; level = t.level; piece = 0; range = t.range } in
    ap of (ap (λ (g : Growing). g.shared) c.clear-in-Err.ensures ∙ ap (λ (g : Growing). g.shared) whole ∙ ap (λ (g : Growing). g.shared) c.clear.ensures)

pub returns-in-Err-clause-columns : goal.returns-in-Err-clause-columns
returns-in-Err-clause-columns c =
    let (more, whole) = c.in-Err.ensures.err in
    ap (λ (g : Growing). g.columns) c.clear-in-Err.ensures ∙ ap (λ (g : Growing). g.columns) whole ∙ ap (λ (g : Growing). g.columns) c.clear.ensures

pub returns-in-Err-clause-none : goal.returns-in-Err-clause-none
returns-in-Err-clause-none c =
    let p = c.args.self.now in
    let t = p.topic in
    let of : Inequalities → Obligation = λ s. record { number = p.number; system = s; lines = t.lines; variable = t.variable; level = t.level; piece = 0; range = t.range } in
    ap of (ap whole_of c.clear-in-Err.ensures ∙ none-behind _ ∙ sym (ap (λ (g : Growing). g.shared) c.clear-in-Err.ensures))
