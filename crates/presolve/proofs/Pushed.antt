-- A row more at the end of a whole system and of what is left of it.
use Rattle.std.proofs.Common.{◌≡◌, ℕ, ◌+◌, ◌-◌, ◌≤◌, ◌<◌, List, [], ◌∷◌, ◌++◌, map, length, length-append, take, get_or, refl, ap, sym, subst, ◌∙◌, arith}
use Rattle.std.specs.List.{All}
use Rattle.std.proofs.lemmas.List.{get_or_append_left, map-append, take-append-le}
use Rattle.std.proofs.lemmas.List.Elements.{All-push}
use Rattle.farkas_cert.specs.declared.system.Row.{Row}
use Rattle.farkas_cert.specs.Combination.{no_row, row_at}
use Rattle.farkas_cert.specs.Inequalities.{AreFull, Inequalities}
use Rattle.presolve.specs.Columns.{AreRising, IsZeroOutside, kept_row}
use Rattle.presolve.specs.Rows.{rows_at}
use Rattle.presolve.specs.Presolution.{IsPresolved, Presolution, first_kept, with_last, with_row}

rising_with_last : (from vars vars' : ℕ) (keep : List ℕ) (k : ℕ) → AreRising from vars keep → from ≤ vars → vars ≤ k → k < vars' → AreRising from vars' (keep ++ k ∷ [])
rising_with_last from vars vars' [] k rising start low high = (omega arith, high, tt)
rising_with_last from vars vars' (j ∷ keep) k rising start low high = (rising.0, omega (arith, rising.1), rising_with_last (j + 1) vars vars' keep k rising.2 (omega (arith, rising.1)) low high)

last_of : (ns : List ℕ) (x : ℕ) → get_or (ns ++ x ∷ []) (length (ns ++ x ∷ []) - 1) 0 ≡ x
last_of ns x =
    let more : length (ns ++ x ∷ []) - 1 ≡ length ns = omega (arith, length-append ns (x ∷ [])) in
    rw more (at_end ns) where
      at_end : (ys : List ℕ) → get_or (ys ++ x ∷ []) (length ys) 0 ≡ x
      at_end [] = refl
      at_end (y ∷ ys) = at_end ys

row_before : (rows : List Row) (row : Row) (n : ℕ) → 1 ≤ n → n < length rows + 1 → row_at (rows ++ row ∷ []) n ≡ row_at rows n
row_before rows row n low high = let lt : n - 1 < length rows = omega arith in get_or_append_left rows (row ∷ []) no_row (n - 1) lt

rows_before : (from : ℕ) (rows : List Row) (row : Row) (numbers : List ℕ) → 1 ≤ from → AreRising from (length rows + 1) numbers → rows_at numbers (rows ++ row ∷ []) ≡ rows_at numbers rows
rows_before from rows row [] low rising = refl
rows_before from rows row (n ∷ numbers) low rising =
    rw (row_before rows row n (omega (arith, rising.0)) rising.1, rows_before (n + 1) rows row numbers (omega arith) rising.2) refl

row_behind : (rows : List Row) (row : Row) → row_at (rows ++ row ∷ []) (length rows + 1) ≡ row
row_behind rows row =
    let place : length rows + 1 - 1 ≡ length rows = omega arith in
    rw place (at_end rows) where
      at_end : (ys : List Row) → get_or (ys ++ row ∷ []) (length ys) no_row ≡ row
      at_end [] = refl
      at_end (y ∷ ys) = at_end ys

with_rows_pushed : (whole : Inequalities) (row : Row) (numbers : List ℕ) → AreRising 1 (length whole.rows + 1) numbers → rows_at (numbers ++ (length whole.rows + 1) ∷ []) (whole.rows ++ row ∷ []) ≡ rows_at numbers whole.rows ++ row ∷ []
with_rows_pushed whole row numbers rising =
    map-append (row_at (whole.rows ++ row ∷ [])) numbers ((length whole.rows + 1) ∷ []) ∙ ap (λ rs. rs ++ row_at (whole.rows ++ row ∷ []) (length whole.rows + 1) ∷ []) (rows_before 1 whole.rows row numbers (omega arith) rising) ∙ ap (λ r. rows_at numbers whole.rows ++ r ∷ []) (row_behind whole.rows row)

pub presolved_with_last : (whole : Inequalities) (p : Presolution) (row : Row) → IsPresolved whole p → length row.coefs ≡ whole.vars → IsZeroOutside whole.vars p.columns row → IsPresolved (with_row row whole) (with_last (kept_row p.columns row) p)
presolved_with_last whole p row is full outside =
    let count : p.count + 1 ≡ length whole.rows + 1 = omega (arith, is.count) in
    let rows : rows_at (p.numbers ++ (p.count + 1) ∷ []) (whole.rows ++ row ∷ []) ≡ rows_at p.numbers whole.rows ++ row ∷ [] = ap (λ n. rows_at (p.numbers ++ n ∷ []) (whole.rows ++ row ∷ [])) count ∙ with_rows_pushed whole row p.numbers is.last.rising in
    let longer : length (whole.rows ++ row ∷ []) ≡ length whole.rows + 1 = length-append whole.rows (row ∷ []) in
    record {
      vars = is.vars;
      count = count ∙ sym longer;
      last = record {
        rising = subst (λ n. AreRising 1 (n + 1) (p.numbers ++ (p.count + 1) ∷ [])) (sym longer) (rising_with_last 1 (length whole.rows + 1) (length whole.rows + 1 + 1) p.numbers (p.count + 1) is.last.rising (omega arith) (omega (arith, count)) (omega (arith, count)));
        last = last_of p.numbers (p.count + 1) ∙ count ∙ sym longer;
      };
      all = record {
        rising = is.all.rising;
        full = subst (λ rs. AreFull whole.vars rs) (sym rows) (All-push (λ r. length r.coefs ≡ whole.vars) (rows_at p.numbers whole.rows) row is.all.full full);
        none = subst (λ rs. All (IsZeroOutside whole.vars p.columns) rs) (sym rows) (All-push (IsZeroOutside whole.vars p.columns) (rows_at p.numbers whole.rows) row is.all.none outside);
      };
      system = ap (with_row (kept_row p.columns row)) is.system ∙ ap (λ rs. over rs) (sym (map-append (kept_row p.columns) (rows_at p.numbers whole.rows) (row ∷ [])) ∙ ap (map (kept_row p.columns)) (sym rows));
    } where
      over : List Row → Inequalities
      over rs = record { vars = length p.columns; rows = rs }

pub first_of_pushed : (p : Presolution) (row : Row) (kept : ℕ) → kept ≤ length p.numbers → length p.system.rows ≡ length p.numbers → first_kept kept (with_last row p) ≡ first_kept kept p
first_of_pushed p row kept le same =
    let count : p.count + 1 - (length (p.numbers ++ (p.count + 1) ∷ []) - kept) ≡ p.count - (length p.numbers - kept) = omega (arith, length-append p.numbers ((p.count + 1) ∷ [])) in
    let numbers : take kept (p.numbers ++ (p.count + 1) ∷ []) ≡ take kept p.numbers = take-append-le kept p.numbers ((p.count + 1) ∷ []) le in
    let rows : take kept (p.system.rows ++ row ∷ []) ≡ take kept p.system.rows = take-append-le kept p.system.rows (row ∷ []) (omega (arith, same)) in
    rw (count, numbers, rows) refl
