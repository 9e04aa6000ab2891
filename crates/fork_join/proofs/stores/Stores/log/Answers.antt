use Rattle.std.proofs.Common.{◌≡◌, ◌+◌, ◌-◌, ◌<◌, ◌^◌, ◌++◌, ◌∷◌, [], suc, ℕ, List, length, length-append, length-set, set, ap, ◌∙◌, sym, arith, rules}
use Rattle.fork_join.specs.Overlays.{stretched}
use Rattle.fork_join.proofs.Laying.{stretch_least, stretched_grown}
use Rattle.fork_join.proofs.stores.Stores.log.Goals as goal

pub overflow_add-long : goal.overflow_add-long
overflow_add-long c =
    let s = c.args.self.now.stretches in
    let k = c.len-count.result - 1 in
    let lt : k < length s.items = omega (arith, c.len-count.ensures, c.if-count-gt0.true, s.ok.0) in
    let here = ap (λ (t : ℕ × ℕ). t.1) c.index.ensures in
    let least = stretch_least s.items k c.index.result.now lt in
    let small : c.index.result.now.1 + 1 < 2 ^ 32 = omega (arith, here, least, c.requires.few) in
    search (rules, small)

pub returns-then-from-clause-logged : goal.returns-then-from-clause-logged
returns-then-from-clause-logged c =
    let s = c.args.self.now.stretches in
    let k = c.len-count.result - 1 in
    let long : length s.items ≡ suc k = omega (arith, c.len-count.ensures, c.if-count-gt0.true, s.ok.0) in
    let r = c.index.result.now in
    let cell_is : r.0 + r.1 ≡ c.args.cell = omega (arith, c.if-from.true, c.from.ensures, c.from-then-count-gt0.ensures, c.from-then-count-gt0-2.ensures) in
    ap (λ (t : ℕ × ℕ). stretched (set s.items k (t.0, t.1 + 1))) c.index.ensures ∙ stretched_grown s.items k r long
    ∙ ap (λ (t : ℕ × ℕ). stretched s.items ++ (t.0 + t.1) ∷ []) (sym c.index.ensures) ∙ ap (λ m. stretched s.items ++ m ∷ []) cell_is

pub returns-then-from-clause-spread : goal.returns-then-from-clause-spread
returns-then-from-clause-spread c =
    let s = c.args.self.now.stretches in
    let k = c.len-count.result - 1 in
    let r = c.index.result.now in
    let more = ap (λ (cs : List ℕ). length cs) (returns-then-from-clause-logged c) in
    omega (arith, length-set s.items k (r.0, r.1 + 1), more, length-append (stretched s.items) (c.args.cell ∷ []), c.requires.spread)
