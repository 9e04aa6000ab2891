-- What is left of a system, with rows that come and go at the end.
use Rattle.std.proofs.Common.{◌≡◌, ℕ, ◌-◌, ◌≤◌, List, [], ◌∷◌, ◌++◌, append_assoc, length, map, take, refl, ap, sym, ◌∙◌, subst, arith}
use Rattle.std.proofs.lemmas.List.{append-nil, length-map, length-take-le, map-append, take_all}
use Rattle.std.proofs.lemmas.List.FromFn.{length-map-range_with_len}
use Rattle.farkas_cert.specs.declared.system.Row.{Row}
use Rattle.farkas_cert.specs.Combination.{row_at}
use Rattle.farkas_cert.specs.Inequalities.{Inequalities}
use Rattle.presolve.specs.Columns.{kept_row}
use Rattle.presolve.specs.Rows.{rows_at}
use Rattle.presolve.specs.Presolution.{IsPresolved, Presolution, first_kept, with_last, with_row}
use Rattle.presolve.proofs.Pushed.{first_of_pushed, presolved_with_last}
use Rattle.nest_rows.specs.declared.constraint.Constraint.{Constraint}
use Rattle.nest_rows.specs.Constraints.{coefficient, row_of}
use Rattle.nest_systems.specs.Growing.{with_constraints}
use Rattle.nest_systems.specs.Kept.{NamesKept, row_over}
use Rattle.nest_systems.proofs.KeptPlaces.{kept-same, zero-outside}

pub none-behind : (s : Inequalities) → with_constraints [] s ≡ s
none-behind s = let of : List Row → Inequalities = λ rs. record { vars = s.vars; rows = rs } in ap of (append-nil s.rows)

pub one-behind : (s : Inequalities) (cs : List Constraint) (c : Constraint) → with_constraints (cs ++ c ∷ []) s ≡ with_row (row_of s.vars c) (with_constraints cs s)
one-behind s cs c =
    let of : List Row → Inequalities = λ rs. record { vars = s.vars; rows = rs } in
    ap of (ap (λ rs. s.rows ++ rs) (map-append (row_of s.vars) cs (c ∷ [])) ∙ sym (append_assoc s.rows (map (row_of s.vars) cs) (row_of s.vars c ∷ [])))

-- as many rows as numbers
pub rows-left : (whole : Inequalities) (p : Presolution) → IsPresolved whole p → length p.system.rows ≡ length p.numbers
rows-left whole p is =
    ap (λ (s : Inequalities). length s.rows) is.system ∙ length-map (rows_at p.numbers whole.rows) (kept_row p.columns) ∙ length-map p.numbers (row_at whole.rows)

pub columns-left : (whole : Inequalities) (p : Presolution) → IsPresolved whole p → p.system.vars ≡ length p.columns
columns-left whole p is = ap (λ (s : Inequalities). s.vars) is.system

-- the first ones of as many are all
pub first-all : (p : Presolution) (kept : ℕ) → kept ≡ length p.numbers → length p.system.rows ≡ length p.numbers → first_kept kept p ≡ p
first-all p kept is same =
    let count : p.count - (length p.numbers - kept) ≡ p.count = omega (arith, is) in
    let numbers : take kept p.numbers ≡ p.numbers = take_all kept p.numbers (omega (arith, is)) in
    let rows : take kept p.system.rows ≡ p.system.rows = take_all kept p.system.rows (omega (arith, is, same)) in
    rw (count, numbers, rows) refl

-- and those of the first ones are these
pub first-twice : (p : Presolution) (kept : ℕ) → kept ≤ length p.numbers → length p.system.rows ≡ length p.numbers → first_kept kept (first_kept kept p) ≡ first_kept kept p
first-twice p kept le same =
    let long = length-take-le kept p.numbers le in
    let rows-long = length-take-le kept p.system.rows (omega (arith, le, same)) in
    first-all (first_kept kept p) kept (sym long) (rows-long ∙ sym long)

-- one more of both
pub more-left : (s : Inequalities) (cs : List Constraint) (c : Constraint) (row : Row) (p : Presolution) → IsPresolved (with_constraints cs s) p → NamesKept s.vars p.columns c → row ≡ row_over p.columns c → IsPresolved (with_constraints (cs ++ c ∷ []) s) (with_last row p)
more-left s cs c row p is named same =
    let left = presolved_with_last (with_constraints cs s) p (row_of s.vars c) is (length-map-range_with_len (coefficient c.terms) 1 s.vars) (zero-outside s.vars c p.columns named) in
    let kept : kept_row p.columns (row_of s.vars c) ≡ row = kept-same s.vars c p.columns is.all.rising ∙ sym same in
    subst (λ w. IsPresolved w (with_last row p)) (sym (one-behind s cs c)) (subst (λ r. IsPresolved (with_row (row_of s.vars c) (with_constraints cs s)) (with_last r p)) kept left)

pub more-first : (whole s : Inequalities) (row : Row) (kept : ℕ) (p : Presolution) → IsPresolved whole p → kept ≤ length p.numbers → IsPresolved s (first_kept kept p) → IsPresolved s (first_kept kept (with_last row p))
more-first whole s row kept p is le first = subst (IsPresolved s) (sym (first_of_pushed p row kept le (rows-left whole p is))) first
