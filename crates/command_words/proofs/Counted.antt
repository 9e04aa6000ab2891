-- What words ask for has 1 to 64 workers, and a bench its sizes within their bounds.
use Rattle.std.proofs.Common.{arith, ◌≡◌, ◌≤◌, ◌&&◌, ◌+◌, ◌-◌, ◌*◌, ℕ, Bool, true, false, refl, sym, ap, subst, List, [], ◌∷◌, Option, Some, None, true≢false, codes}
use Rattle.std.specs.Prelude.{is_some, nat_le, option_and_then, option_map, unwrap_or, if◌then◌else◌}
use Rattle.std.specs.Str.{bytes_eq}
use Rattle.std.specs.Str.Parse.{digits_value}
use Rattle.std.proofs.lemmas.Bool.{and_parts}
use Rattle.std.proofs.lemmas.Bool.Decides.{nat_tests}
use Rattle.clap.specs.Words.{Row, Text, first_of, subcommand_of}
use Rattle.std.specs.Prelude.{IsTrue}
use Rattle.std.specs.List.{before_first, after_first}
use Rattle.command_words.specs.Rule.{tool_app}
use Rattle.command_words.specs.Settings.{setting_at, value_of}
use Rattle.command_words.specs.Sweeps.{Sweep, are_bounds, is_colon, sweep_at, sweep_between, sweep_with}
use Rattle.command_words.specs.Wanted.{IsCounted, Takes, Wanted, swept, verify_of, verify_with, bench, barrier_of, bench_of, by_of, choice_of, is_digit, is_numeral, make_of, planned, run, run_of, sequential, settings_of, size_of, sizes_named, sizes_of, wanted_in, within, workers_of}

-- where a choice gives a value, the value is of the kind that its parts are
chosen : {X : Type 0} (P : X → Type 0) (b : Bool) (x y : X) → (b ≡ true → P x) → (if b then Some x else None) ≡ Some y → P y
chosen P true x y h e = subst P (ap (λ o. unwrap_or o x) e) (h refl)
chosen P false x y h e = absurd (true≢false (sym (ap is_some e)))

pub bound : {X Y : Type 0} (P : Y → Type 0) (f : X → Option Y) (o : Option X) (y : Y) → ((x : X) → o ≡ Some x → f x ≡ Some y → P y) → option_and_then f o ≡ Some y → P y
bound P f None y h e = absurd (true≢false (sym (ap is_some e)))
bound P f (Some x) y h e = h x refl e

pub absent : {X : Type 0} (P : X → Type 0) (x : X) → None ≡ Some x → P x
absent P x e = absurd (true≢false (sym (ap is_some e)))

pub mapped : {X Y : Type 0} (P : Y → Type 0) (f : X → Y) (o : Option X) (y : Y) → ((x : X) → o ≡ Some x → P (f x)) → option_map f o ≡ Some y → P y
mapped P f None y h e = absent P y e
mapped P f (Some x) y h e = subst P (ap (λ o. unwrap_or o (f x)) e) (h x refl)

abbrev pub IsCount : ℕ → Type 0
IsCount n = (1 ≤ n) × (n ≤ 64)

within_counts : (n m : ℕ) → within n ≡ Some m → IsCount m
within_counts n m = chosen IsCount (nat_le 1 n && nat_le n 64) n m (λ t. let parts = and_parts (nat_le 1 n) (nat_le n 64) t in (grind (arith, nat_tests), grind (arith, nat_tests)))

perhaps_within : (b : Bool) (n m : ℕ) → (if b then within n else None) ≡ Some m → IsCount m
perhaps_within true n m e = within_counts n m e
perhaps_within false n m e = absent IsCount m e

workers_count : (t : Text) (m : ℕ) → workers_of t ≡ Some m → IsCount m
workers_count [] m e = absent IsCount m e
workers_count (d ∷ []) m e = perhaps_within (is_digit d) (d - 48) m e
workers_count (c ∷ d ∷ []) m e = perhaps_within (nat_le 49 c && (nat_le c 57 && is_digit d)) (10 * (c - 48) + (d - 48)) m e
workers_count (c ∷ d ∷ x ∷ rest) m e = absent IsCount m e

pub workers_counted : (rows : List Row) (n : ℕ) → option_and_then workers_of (first_of (codes "workers") rows) ≡ Some n → IsCount n
workers_counted rows n = bound IsCount workers_of (first_of (codes "workers") rows) n (λ t t_is. workers_count t n)

run_counted : (rows : List Row) (w : Wanted) → run_of rows ≡ Some w → IsCounted w
run_counted rows w = bound IsCounted _ (option_and_then workers_of (first_of (codes "workers") rows)) w (λ n n_is. bound IsCounted _ (choice_of (first_of (codes "plan") rows)) w (λ p p_is.
    bound IsCounted _ (barrier_of (first_of (codes "barrier") rows)) w (λ s s_is.
    mapped IsCounted (λ e. run n p e (settings_of rows)) (by_of s (first_of (codes "by") rows)) w (λ e e_is. workers_counted rows n n_is))))

size_within : (low high : ℕ) (t : Text) (m : ℕ) → size_of low high t ≡ Some m → (low ≤ m) × (m ≤ high)
size_within low high t m = chosen (λ k. (low ≤ k) × (k ≤ high)) (is_numeral t && (nat_le low (digits_value 10 t) && nat_le (digits_value 10 t) high)) (digits_value 10 t) m (λ h.
    let parts = and_parts (nat_le low (digits_value 10 t)) (nat_le (digits_value 10 t) high) (and_parts (is_numeral t) _ h).1 in
    (grind (arith, nat_tests), grind (arith, nat_tests)))

abbrev AreSizes : ℕ × ℕ → Type 0
AreSizes s = ((1 ≤ s.0) × (s.0 ≤ 500000)) × (s.1 ≤ 1000000)

named_sizes : (ts : List Text) (s : ℕ × ℕ) → sizes_named ts ≡ Some s → AreSizes s
named_sizes [] s e = absent AreSizes s e
named_sizes (a ∷ []) s e = absent AreSizes s e
named_sizes (a ∷ b ∷ []) s e = bound AreSizes _ (size_of 1 500000 a) s (λ p p_is. mapped AreSizes (λ q. (p, q)) (size_of 0 1000000 b) s (λ q q_is. (size_within 1 500000 a p p_is, (size_within 0 1000000 b q q_is).1))) e
named_sizes (a ∷ b ∷ c ∷ rest) s e = absent AreSizes s e

bench_counted : (rows : List Row) (w : Wanted) → bench_of rows ≡ Some w → IsCounted w
bench_counted rows w = bound IsCounted _ (option_and_then workers_of (first_of (codes "workers") rows)) w (λ n n_is. mapped IsCounted (λ s. bench n s.0 s.1) (sizes_named (sizes_of rows)) w (λ s s_is.
    (workers_counted rows n n_is, named_sizes (sizes_of rows) s s_is)))

make_counted : (rows : List Row) (w : Wanted) → make_of rows ≡ Some w → IsCounted w
make_counted rows w = mapped IsCounted (λ n. planned n (settings_of rows)) (option_and_then workers_of (first_of (codes "workers") rows)) w (workers_counted rows)

sweep_counted : (t : Text) (s : Sweep) → sweep_at t ≡ Some s → IsTrue (are_bounds s.low s.high)
sweep_counted t s = bound (λ (s : Sweep). IsTrue (are_bounds s.low s.high)) (λ lowest. sweep_between lowest (after_first is_colon t)) (setting_at (before_first is_colon t)) s (λ lowest lowest_is.
    bound (λ (s : Sweep). IsTrue (are_bounds s.low s.high)) (sweep_with lowest) (value_of (after_first is_colon t)) s (λ high high_is.
    chosen (λ (s : Sweep). IsTrue (are_bounds s.low s.high)) (are_bounds lowest.1 high) (record { name = lowest.0; low = lowest.1; high = high }) s (λ h. h)))

verify_counted : (rows : List Row) (w : Wanted) → verify_of rows ≡ Some w → IsCounted w
verify_counted rows w = by_sweep (first_of (codes "sweep") rows)
  where
    by_sweep : (o : Option Text) → verify_with (settings_of rows) o ≡ Some w → IsCounted w
    by_sweep None e = subst IsCounted (ap (λ o. unwrap_or o (sequential [])) e) tt
    by_sweep (Some t) e = mapped IsCounted (λ s. swept s (settings_of rows)) (sweep_at t) w (sweep_counted t) e

pub in_counted : (name : Text) (rows : List Row) (w : Wanted) → wanted_in name rows ≡ Some w → IsCounted w
in_counted name rows w = by_name (bytes_eq name (codes "bench")) (bytes_eq name (codes "seq")) (bytes_eq name (codes "plan")) (bytes_eq name (codes "run")) (bytes_eq name (codes "verify"))
  where
    by_name : (z a m b c : Bool) → (if z then bench_of rows else (if a then Some (sequential (settings_of rows)) else (if m then make_of rows else (if b then run_of rows else (if c then verify_of rows else None))))) ≡ Some w → IsCounted w
    by_name true a m b c e = bench_counted rows w e
    by_name false true m b c e = subst IsCounted (ap (λ o. unwrap_or o (sequential [])) e) tt
    by_name false false true b c e = make_counted rows w e
    by_name false false false true c e = run_counted rows w e
    by_name false false false false true e = verify_counted rows w e
    by_name false false false false false e = absent IsCounted w e

-- what words stand for
pub taken_counted : (words : List Text) (w : Wanted) → Takes words w → IsCounted w
taken_counted words w takes = bound IsCounted (λ p. wanted_in p.0 p.1) (subcommand_of tool_app words) w (λ p p_is. in_counted p.0 p.1 w) takes.1
