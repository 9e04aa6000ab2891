use Rattle.std.proofs.Common.{◌++◌, ◌∷◌, [], true, ℤ, Bool, List, length, length-set, set, ap, ◌∙◌, sym, subst, w64, FitsSigned, to_z, of_z, arith, rules}
use Rattle.std.proofs.lemmas.Int.{to_z-of_z}
use Rattle.fork_join.specs.Overlays.{AreMarked, laid_in, stores_to, stretched}
use Rattle.fork_join.specs.StoreLists.{entries_of}
use Rattle.fork_join.proofs.Laying.{among_last, among_others, laid_set, marked_more, room_of}
use Rattle.fork_join.proofs.stores.Stores.add.Goals as goal

pub log-requires-clause-few : goal.log-requires-clause-few
log-requires-clause-few c =
    let s = c.args.self.now in let kept = c.requires.kept in
    let room = room_of (stretched s.stretches.items) s.stored.items kept.marked c.args.cell c.requires.inside c.requires.none in
    omega (arith, room, kept.few)

pub log-requires-clause-room : goal.log-requires-clause-room
log-requires-clause-room c =
    let s = c.args.self.now in let kept = c.requires.kept in
    let room = room_of (stretched s.stretches.items) s.stored.items kept.marked c.args.cell c.requires.inside c.requires.none in
    omega (arith, room, kept.room)

pub returns-clause-kept : goal.returns-clause-kept
returns-clause-kept c =
    let s = c.args.self.now in let kept = c.requires.kept in
    let n = c.log.new.self in
    let went = c.log.ensures in
    let marks = ap (λ v. v.items) went.stored in
    let held = ap (λ v. v.items) went.values in
    let more = marked_more (stretched s.stretches.items) s.stored.items kept.marked c.args.cell c.requires.inside c.requires.none in
    let long = ap (λ (ms : List Bool). length ms) marks ∙ length-set s.stored.items c.args.cell true in
    record {
      marked = subst (λ ms. AreMarked (stretched n.stretches.items) ms) (sym marks) (subst (λ cs. AreMarked cs (set s.stored.items c.args.cell true)) (sym went.logged) more);
      values = ap (λ (vs : List ℤ). length vs) held ∙ length-set s.values.items c.args.cell _ ∙ kept.values ∙ sym long;
      spread = went.spread;
      room = omega (arith, kept.room, went.room, long);
      few = omega (arith, kept.few, long);
    }

pub returns-clause-cells : goal.returns-clause-cells
returns-clause-cells c =
    let s = c.args.self.now in
    ap (λ (ms : List Bool). length ms) (ap (λ v. v.items) c.log.ensures.stored) ∙ length-set s.stored.items c.args.cell true

pub returns-clause-laid : goal.returns-clause-laid
returns-clause-laid c memory =
    let s = c.args.self.now in let kept = c.requires.kept in
    let n = c.log.new.self in
    let went = c.log.ensures in
    let cells = stretched s.stretches.items in
    let new = cells ++ c.args.cell ∷ [] in
    let v = c.args.value in
    let fits : FitsSigned w64 v = search rules in
    ap (λ cs. laid_in (stores_to cs n.values.items) memory) went.logged ∙ ap (λ vs. laid_in (stores_to new vs) memory) (ap (λ x. x.items) went.values)
    ∙ laid_set cells new s.values.items memory c.args.cell (to_z w64 (of_z w64 v)) (omega (arith, kept.values, c.requires.inside)) (among_last c.args.cell cells) (among_others c.args.cell cells)
    ∙ ap (set (laid_in (entries_of s) memory) c.args.cell) (to_z-of_z w64 v fits)
