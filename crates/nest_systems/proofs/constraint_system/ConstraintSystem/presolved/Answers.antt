use Rattle.std.proofs.Common.{◌≡◌, ◌+◌, ◌-◌, ◌*◌, ◌<◌, ◌≤◌, ◌^◌, ℕ, List, [], ◌++◌, length, map, rules, true, false, ap, sym, ◌∙◌, subst, arith}
use Rattle.std.specs.List.{flat_map, range_with_len}
use Rattle.std.proofs.lemmas.List.{length-map}
use Rattle.farkas_cert.specs.Inequalities.{Inequalities}
use Rattle.nest_tree.specs.declared.tree.Parameter.{Parameter}
use Rattle.presolve.specs.Columns.{AreRising, is_kept}
use Rattle.presolve.specs.Presolution.{IsPresolved, Presolution}
use Rattle.presolve.specs.Rows.{rows_at}
use Rattle.nest_rows.specs.Constraints.{row_of, system_of}
use Rattle.nest_rows.specs.Groups.{constants_have}
use Rattle.nest_systems.specs.Kept.{IsConstant, row_over, value_of}
use Rattle.nest_systems.specs.Widened.{Widens}
use Rattle.nest_systems.proofs.KeptConstants.{all-named, columns-none, columns-rising, columns-wanted, rising-few}
use Rattle.nest_systems.proofs.KeptRowLists.{kept-long, kept-within, left-of, presolved, rows-kept}
use Rattle.nest_systems.proofs.Widening.{widened}
use Rattle.nest_systems.proofs.constraint_system.ConstraintSystem.presolved.Goals as goal

abbrev no-rows : ℕ → Inequalities
no-rows n = record { vars = n; rows = [] }

abbrev columns-from : ℕ → ℕ → List ℕ → List ℕ
columns-from constants vars kept = map (λ n. n - 1) kept ++ range_with_len constants (vars - constants)

pub overflow_cast-len : goal.overflow_cast-len
overflow_cast-len c =
    let s = c.self.inside in
    let room : s.vars < 2 ^ 32 = search rules in
    let kept = c.as_slice.result.now in
    let rising = subst (AreRising 1 (s.constants + 1)) (sym c.as_slice.ensures.value) c.in_ok-kept.ensures.rising in
    let columns = subst (AreRising 0 s.vars) (sym c.in_ok-columns.ensures) (columns-rising s.constants s.vars kept rising c.self.invariant.0) in
    let few = rising-few 0 s.vars c.in_ok-columns.columns.items (omega arith) columns in
    let long : c.len.result ≡ length c.in_ok-columns.columns.items = search rules in
    omega (arith, few, long, room)

pub push_values-requires-clause-rising : goal.push_values-requires-clause-rising
push_values-requires-clause-rising c =
    let s = c.self.inside in
    let rising = subst (AreRising 1 (s.constants + 1)) (sym c.as_slice.ensures.value) c.in_ok-kept.ensures.rising in
    let columns = subst (AreRising 0 s.vars) (sym c.in_ok-columns.ensures) (columns-rising s.constants s.vars c.as_slice.result.now rising c.self.invariant.0) in
    (s.vars, subst (AreRising 0 s.vars) (sym c.as_slice-2.ensures.value) columns)

pub push_all-requires-clause-rising : goal.push_all-requires-clause-rising
push_all-requires-clause-rising c =
    let s = c.self.inside in
    let rising = subst (AreRising 1 (s.constants + 1)) (sym c.as_slice.ensures.value) c.in_ok-kept.ensures.rising in
    let columns = subst (AreRising 0 s.vars) (sym c.in_ok-columns.ensures) (columns-rising s.constants s.vars c.as_slice.result.now rising c.self.invariant.0) in
    (s.vars, subst (λ (cols : _). AreRising 0 s.vars cols.now) (sym c.in_ok-push_values.ensures.columns) (subst (AreRising 0 s.vars) (sym c.as_slice-2.ensures.value) columns))

pub new-requires-2-clause-rows : goal.new-requires-2-clause-rows
new-requires-2-clause-rows c =
    let s = c.self.inside in
    let vs = map (λ (p : Parameter). p.value) s.values.now in
    let cs = c.as_slice-rest.result.now in
    let kept = c.in_ok-kept.kept.items in
    let columns = c.in_ok-columns.columns.items in
    let rising = c.in_ok-kept.ensures.rising in
    let long = length-map s.values.now (λ (p : Parameter). p.value) in
    let wide : c.len.result ≡ length columns = search rules in
    let empty = c.empty.ensures ∙ ap (λ n. no-rows n) wide in
    let left = left-of vs (length s.values.now) cs kept c.as_slice-3.result.now columns _ c.push_values.new.self c.push_all.new.self long c.as_slice-3.ensures.value c.new.ensures.items c.as_slice-2.ensures.value empty c.in_ok-push_values.ensures c.in_ok-push_all.ensures in
    let all = flat_map (value_of vs) kept ++ cs in
    ap length left.0 ∙ kept-long vs cs (s.constants + 1) kept rising ∙ sym (length-map all (row_over columns)) ∙ ap (λ (x : Inequalities). length x.rows) (sym left.1)

pub new-requires-2-clause-within : goal.new-requires-2-clause-within
new-requires-2-clause-within c =
    let s = c.self.inside in
    let vs = map (λ (p : Parameter). p.value) s.values.now in
    let cs = c.as_slice-rest.result.now in
    let kept = c.in_ok-kept.kept.items in
    let columns = c.in_ok-columns.columns.items in
    let rising = c.in_ok-kept.ensures.rising in
    let long = length-map s.values.now (λ (p : Parameter). p.value) in
    let wide : c.len.result ≡ length columns = search rules in
    let empty = c.empty.ensures ∙ ap (λ n. no-rows n) wide in
    let left = left-of vs (length s.values.now) cs kept c.as_slice-3.result.now columns _ c.push_values.new.self c.push_all.new.self long c.as_slice-3.ensures.value c.new.ensures.items c.as_slice-2.ensures.value empty c.in_ok-push_values.ensures c.in_ok-push_all.ensures in
    let few = kept-within s.constants vs cs kept rising in
    omega (arith, ap length left.0, few, long)

pub returns-clause-presolved : goal.returns-clause-presolved
returns-clause-presolved c =
    let s = c.self.inside in
    let vs = map (λ (p : Parameter). p.value) s.values.now in
    let cs = c.as_slice-rest.result.now in
    let kept = c.in_ok-kept.kept.items in
    let columns = c.in_ok-columns.columns.items in
    let rising = c.in_ok-kept.ensures.rising in
    let long = length-map s.values.now (λ (p : Parameter). p.value) in
    let wide : c.len.result ≡ length columns = search rules in
    let empty = c.empty.ensures ∙ ap (λ n. no-rows n) wide in
    let left = left-of vs (length s.values.now) cs kept c.as_slice-3.result.now columns _ c.push_values.new.self c.push_all.new.self long c.as_slice-3.ensures.value c.new.ensures.items c.as_slice-2.ensures.value empty c.in_ok-push_values.ensures c.in_ok-push_all.ensures in
    let within = c.self.invariant.0 in
    let slice = c.as_slice.ensures.value in
    let columns-is = c.in_ok-columns.ensures ∙ ap (λ ks. columns-from s.constants s.vars ks) slice in
    let up = subst (AreRising 0 s.vars) (sym columns-is) (columns-rising s.constants s.vars kept rising within) in
    let none : (k : ℕ) → k < s.vars → is_kept columns k ≡ false → IsConstant s.constants (k + 1) × (is_kept kept (k + 1) ≡ false) = λ k lt out. columns-none s.constants s.vars kept rising within k lt (sym (ap (λ cols. is_kept cols k) columns-is) ∙ out) in
    let named = all-named s.constants s.vars kept columns cs none c.in_ok-kept.ensures.named in
    let most = c.self.invariant.1 in
    let last : cs ≡ [] → 1 ≤ length vs → is_kept kept (length vs) ≡ true = λ empty some. subst (λ n. is_kept kept n ≡ true) (sym long) (c.in_ok-kept.ensures.last empty (omega (arith, some, long), most)) in
    let p = c.new-2.result in
    let is = c.new-2.ensures in
    let total : 2 * length s.values.now + length cs ≡ 2 * length vs + length cs = omega (arith, long) in
    let found = presolved s.constants s.vars vs cs kept columns p rising up none named last (ap (λ (x : Presolution). x.vars) is) (ap (λ (x : Presolution). x.count) is ∙ total) (ap (λ (x : Presolution). x.columns) is)
    (ap (λ (x : Presolution). x.numbers) is ∙ left.0) (ap (λ (x : Presolution). x.system) is ∙ left.1) in
    subst (λ (w : Inequalities). IsPresolved w p) (ap (λ xs. system_of s.vars (constants_have 1 vs ++ xs)) c.as_slice-rest.ensures.value ∙ c.self.view_is) found

pub returns-clause-wanted : goal.returns-clause-wanted
returns-clause-wanted c =
    let s = c.self.inside in
    let rising = subst (AreRising 1 (s.constants + 1)) (sym c.as_slice.ensures.value) c.in_ok-kept.ensures.rising in
    let vars = ap (λ (w : Inequalities). w.vars) c.self.view_is in
    λ k lt named.
    let all = columns-wanted s.constants s.vars c.as_slice.result.now rising c.self.invariant.0 c.args.wanted.now
    (λ n is h. subst (λ ks. is_kept ks n ≡ true) (sym c.as_slice.ensures.value) (c.in_ok-kept.ensures.wanted n is h)) k (omega (arith, lt, vars)) named in
    ap (λ (p : Presolution). is_kept p.columns k) c.new-2.ensures ∙ ap (λ cols. is_kept cols k) c.in_ok-columns.ensures ∙ all

pub returns-clause-widened : goal.returns-clause-widened
returns-clause-widened c =
    let s = c.self.inside in
    let vs = map (λ (p : Parameter). p.value) s.values.now in
    let cs = c.as_slice-rest.result.now in
    let kept = c.in_ok-kept.kept.items in
    let columns = c.in_ok-columns.columns.items in
    let rising = c.in_ok-kept.ensures.rising in
    let long = length-map s.values.now (λ (p : Parameter). p.value) in
    let wide : c.len.result ≡ length columns = search rules in
    let empty = c.empty.ensures ∙ ap (λ n. no-rows n) wide in
    let left = left-of vs (length s.values.now) cs kept c.as_slice-3.result.now columns _ c.push_values.new.self c.push_all.new.self long c.as_slice-3.ensures.value c.new.ensures.items c.as_slice-2.ensures.value empty c.in_ok-push_values.ensures c.in_ok-push_all.ensures in
    let within = c.self.invariant.0 in
    let columns-is = c.in_ok-columns.ensures ∙ ap (λ ks. columns-from s.constants s.vars ks) c.as_slice.ensures.value in
    let most = c.self.invariant.1 in
    let p = c.new-2.result in
    let is = c.new-2.ensures in
    let same = ap (λ xs. system_of s.vars (constants_have 1 vs ++ xs)) c.as_slice-rest.ensures.value ∙ c.self.view_is in
    let of-rows = subst (λ (w : Inequalities). IsPresolved w p) (sym same) (returns-clause-presolved c) in
    let rows = ap (λ ns. rows_at ns (map (row_of s.vars) (constants_have 1 vs ++ cs))) (ap (λ (x : Presolution). x.numbers) is ∙ left.0) ∙ rows-kept s.vars vs cs (s.constants + 1) kept rising in
    subst (λ (w : Inequalities). Widens w p) same (widened s.constants s.vars vs cs kept p rising within (omega (arith, long, most)) of-rows (ap (λ (x : Presolution). x.columns) is ∙ columns-is) rows)
