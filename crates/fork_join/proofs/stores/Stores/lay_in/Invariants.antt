use Rattle.std.proofs.Common.{◌≡◌, ◌<◌, ◌≤◌, ℕ, true, false, get_or, length, vec_capacity}
use Rattle.fork_join.specs.Overlays.{is_among, laid_in, stretched}
use Rattle.fork_join.specs.StoreLists.{cells_of, entries_of}
use Rattle.fork_join.proofs.stores.Stores.lay_in.Given as goal

abbrev pub invariant-loop-first : goal.invariant-loop-first
invariant-loop-first l = record {
  values : l.self.values.items ≡ l.fn.self.values.items;
  cells : cells_of l.self ≡ cells_of l.fn.self;
  long : length l.memory ≡ length l.fn.memory;
  room : cells_of l.fn.self ≤ vec_capacity l.self.stretches;
  inside : (c : ℕ) → is_among c (stretched l.self.stretches.items) ≡ true → c < cells_of l.fn.self;
  marks : (c : ℕ) → get_or l.self.stored.items c false ≡ true → is_among c (stretched l.self.stretches.items) ≡ true;
  laid : laid_in (entries_of l.self) l.memory ≡ laid_in (entries_of l.fn.self) l.fn.memory;
}

abbrev pub decreases-loop-first : goal.decreases-loop-first
decreases-loop-first l = length l.self.stretches.items
