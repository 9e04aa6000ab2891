use Rattle.std.proofs.Common.{◌≡◌, ◌+◌, ◌<◌, ◌++◌, ◌∷◌, [], ℕ, ℤ, Bool, false, List, get_or, length, refl, ◌∙◌, sym, ap, subst, arith, rules}
use Rattle.std.specs.List.{range_with_len}
use Rattle.std.specs.Vec.{with_items}
use Rattle.seq_meaning.proofs.RunSteps.{written_back}
use Rattle.fork_join.specs.Overlays.{AreMarked, is_among, laid_in, stores_to, stretched, unmarked}
use Rattle.fork_join.proofs.Laying.{among_behind, among_front, among_left, among_range, laid_both, length-unmarked, marked_inside, marked_none, stretched-append, unmarked_kept}
use Rattle.fork_join.proofs.stores.Stores.lay_in.Goals as goal

pub loop-first-init : goal.loop-first-init
loop-first-init c =
    let kept = c.requires.kept in
    record {
      values = refl;
      cells = refl;
      long = refl;
      room = kept.room;
      inside = λ d among. marked_inside c.args.self.now.stored.items d (sym (kept.marked.marked d) ∙ among);
      marks = λ d is. kept.marked.marked d ∙ is;
      laid = refl;
    }

pub copy_stretch-requires-clause-inside : goal.copy_stretch-requires-clause-inside
copy_stretch-requires-clause-inside c =
    let inv = c.loop-first.invariant in
    let n = c.loop-first.self in
    let first = c.in-Some.first in
    let count = c.in-Some.count in
    let front = c.pop.new.self.items in
    let range = range_with_len first count in
    let last : n.stretches.items ≡ front ++ (first, count) ∷ [] = search rules in
    let all = ap stretched last ∙ stretched-append front first count in
    let there : (k : ℕ) → k < count → first + k < length c.args.self.now.stored.items = λ k lt. inv.inside (first + k) (ap (is_among (first + k)) all ∙ among_behind (first + k) (stretched front) range (among_range first k count lt)) in
    λ k lt. omega (arith, there k lt, inv.long, c.requires.cells)

pub copy_stretch-requires-clause-values : goal.copy_stretch-requires-clause-values
copy_stretch-requires-clause-values c =
    let inv = c.loop-first.invariant in
    let n = c.loop-first.self in
    let first = c.in-Some.first in
    let count = c.in-Some.count in
    let front = c.pop.new.self.items in
    let range = range_with_len first count in
    let last : n.stretches.items ≡ front ++ (first, count) ∷ [] = search rules in
    let all = ap stretched last ∙ stretched-append front first count in
    let there : (k : ℕ) → k < count → first + k < length c.args.self.now.stored.items = λ k lt. inv.inside (first + k) (ap (is_among (first + k)) all ∙ among_behind (first + k) (stretched front) range (among_range first k count lt)) in
    let long = ap (λ (vs : List ℤ). length vs) (c.deref.ensures.value ∙ inv.values) in
    λ k lt. omega (arith, there k lt, long, c.requires.kept.values)

pub unmark-requires : goal.unmark-requires
unmark-requires c =
    let inv = c.loop-first.invariant in
    let n = c.loop-first.self in
    let first = c.in-Some.first in
    let count = c.in-Some.count in
    let front = c.pop.new.self.items in
    let range = range_with_len first count in
    let last : n.stretches.items ≡ front ++ (first, count) ∷ [] = search rules in
    let all = ap stretched last ∙ stretched-append front first count in
    let there : (k : ℕ) → k < count → first + k < length c.args.self.now.stored.items = λ k lt. inv.inside (first + k) (ap (is_among (first + k)) all ∙ among_behind (first + k) (stretched front) range (among_range first k count lt)) in
    let long = ap (λ (ms : List Bool). length ms) c.deref_mut.ensures.value in
    record { inside = λ k lt. omega (arith, there k lt, long, inv.cells) }

pub loop-first-preserved : goal.loop-first-preserved
loop-first-preserved c =
    let inv = c.loop-first.invariant in
    let n = c.loop-first.self in
    let first = c.in-Some.first in
    let count = c.in-Some.count in
    let front = c.pop.new.self.items in
    let range = range_with_len first count in
    let last : n.stretches.items ≡ front ++ (first, count) ∷ [] = search rules in
    let all = ap stretched last ∙ stretched-append front first count in
    let long = c.unmark.auto.stored ∙ ap (λ (ms : List Bool). length ms) c.deref_mut.ensures.value in
    let back = written_back n.stored.len c.unmark.new.stored n.stored.items n.stored.ok.0 long in
    let stored : (with_items n.stored c.unmark.new.stored).items ≡ unmarked range n.stored.items = back ∙ c.unmark.ensures ∙ ap (unmarked range) c.deref_mut.ensures.value in
    record {
      values = inv.values;
      cells = ap (λ (ms : List Bool). length ms) stored ∙ length-unmarked range n.stored.items ∙ inv.cells;
      long = c.copy_stretch.auto.memory ∙ inv.long;
      room = omega (arith, inv.room, c.pop.ensures.capacity);
      inside = λ d among. inv.inside d (ap (is_among d) all ∙ among_front d (stretched front) range among);
      marks = λ d is.
          let kept = unmarked_kept range n.stored.items d (ap (λ ms. get_or ms d false) (sym stored) ∙ is) in
          among_left d (stretched front) range (sym (ap (is_among d) all) ∙ inv.marks d kept.0) kept.1;
      laid = ap (laid_in (stores_to (stretched front) n.values.items)) (c.copy_stretch.ensures ∙ ap (λ vs. laid_in (stores_to range vs) c.loop-first.memory) c.deref.ensures.value)
          ∙ laid_both (stretched front) range n.values.items c.loop-first.memory ∙ ap (λ cs. laid_in (stores_to cs n.values.items) c.loop-first.memory) (sym all) ∙ inv.laid;
    }

pub returns-clause-kept : goal.returns-clause-kept
returns-clause-kept c =
    let inv = c.loop-first.invariant in
    let n = c.loop-first.self in
    let kept = c.requires.kept in
    let was : n.stretches.items ≡ [] = search rules in
    let none : c.pop.new.self.items ≡ [] = search rules in
    let away : length c.pop.new.self.items ≡ 0 = ap (λ (ss : List (ℕ × ℕ)). length ss) none in
    record {
      marked = subst (λ ss. AreMarked (stretched ss) n.stored.items) (sym none) (marked_none n.stored.items (λ d is. ap (λ ss. is_among d (stretched ss)) (sym was) ∙ inv.marks d is));
      values = ap (λ (vs : List ℤ). length vs) inv.values ∙ kept.values ∙ sym inv.cells;
      spread = omega (arith, away);
      room = omega (arith, inv.room, c.pop.ensures.capacity, inv.cells);
      few = omega (arith, kept.few, inv.cells);
    }
