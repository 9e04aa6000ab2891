-- Each plain list of words is taken.
use Rattle.std.proofs.Common.{◌≡◌, ◌∙◌, ◌==◌, ◌||◌, ◌&&◌, ℕ, Bool, cond, true, false, refl, sym, ap, ap₂, subst, List, [], ◌∷◌, ◌++◌, map, Option, Some, None, true≢false, append-nil, append_assoc, codes, fold}
use Rattle.std.specs.Prelude.{⊤, not, find, is_some, nat_le, option_and_then, option_map, unwrap_or, if◌then◌else◌}
use Rattle.std.specs.Char.{is_ascii_digit}
use Rattle.std.specs.List.{list_any, list_all}
use Rattle.std.specs.Str.Parse.{digits_value}
use Rattle.std.proofs.lemmas.Bool.{and_parts, not-true}
use Rattle.std.proofs.lemmas.Bool.Decides.{eqb_tells, nat_tests}
use Rattle.std.proofs.lemmas.Bool.{eqb-true}
use Rattle.std.proofs.Common.{arith, ◌≤◌, ◌<◌, ◌^◌, length}
use Rattle.clap.specs.Lexer.{usize_max}
use Rattle.clap.specs.Kinds.{range_kinds, values_kinds}
use Rattle.clap.specs.Walk.{settled}
use Rattle.clap.specs.Faults.{entered_fault}
use Rattle.std.proofs.lemmas.List.{map-append}
use Rattle.std.proofs.Common.{inl, inr}
use Rattle.std.specs.Str.{bytes_eq}
use Rattle.clap.specs.Words.{App, Row, Rule, Shape, Text, Kinds, built, first_of, fault_of, subcommand_of}
use Rattle.clap.specs.Walk.{more_values, Held, Waiting, Walk, idle, option, positional, walked, walk_from, nothing_held, settled_rows, has_row, at_row, with_default, finished, answers_to, is_empty}
use Rattle.clap.specs.Simple.{label_of, names_of}
use Rattle.clap.specs.Kinds.{or_else}
use Rattle.clap.specs.Faults.{turn_fault, walk_fault, settle_fault, defaults_fault, level_fault}
use Rattle.clap.specs.declared.parser.matches.ValueSource.TheVariants.{CommandLine}
use Rattle.clap.specs.Values.{reading_of}
use Rattle.clap.specs.declared.builder.value_parser.ValueParser.TheVariants as vp
use Rattle.clap.proofs.OnLiterals.{clap_on_literals}
use Rattle.list_lemmas.proofs.Tests.{or_left_false}
use Rattle.command_words.specs.Rule.{tool_app}
use Rattle.command_words.specs.Wanted.{planned, run, bench, sequential, verify, verify_of, run_of, make_of, bench_of, wanted_by, workers_of, settings_of, size_of, is_numeral}
use Rattle.clap.specs.Walk.{walk}
use Rattle.clap.specs.Takes.{is_given}
use Rattle.clap.specs.Faults.{check_fault}
use Rattle.clap.specs.Simple.{entered}
use Rattle.command_words.specs.Plain.{Name, workers, which, how, barrier, name_text, Given, value_ok, written, names, each_once, value_of, is_setting, EveryPlainBenchIsTaken, EveryPlainPlanIsTaken, EveryPlainRunIsTaken, EveryPlainSequentialIsTaken, EveryPlainVerifyIsTaken}

-- a command
pub data Sub : Type 0 where
  of_seq : Sub
  of_verify : Sub
  of_plan : Sub
  of_run : Sub
  of_bench : Sub

abbrev pub sub_text : Sub → Text
sub_text of_seq = codes "seq"
sub_text of_verify = codes "verify"
sub_text of_plan = codes "plan"
sub_text of_run = codes "run"
sub_text of_bench = codes "bench"

-- an option of a command: `plan` and `bench` have the number of workers alone
data Offered : Type 0 where
  in_run : (a : Name) → Offered
  in_plan : Offered
  in_bench : Offered

abbrev sub_of : Offered → Sub
sub_of (in_run a) = of_run
sub_of in_plan = of_plan
sub_of in_bench = of_bench

abbrev name_of : Offered → Name
name_of (in_run a) = a
name_of in_plan = workers
name_of in_bench = workers

abbrev pub shape : Sub → Shape
shape c = unwrap_or (find (λ s. answers_to (sub_text c) (label_of s)) (built tool_app).subs) tool_app.top

abbrev pub rules : Sub → List Rule
rules c = (shape c).rules

abbrev pub settings_id : Text
settings_id = codes "settings"

abbrev sizes_id : Text
sizes_id = codes "sizes"

-- the id of the words behind the options
abbrev pub rest_id : Sub → Text
rest_id of_seq = settings_id
rest_id of_verify = settings_id
rest_id of_plan = settings_id
rest_id of_run = settings_id
rest_id of_bench = sizes_id

-- ---- states of the walk

abbrev pub at : List Row → Option (Text × List Text) → Waiting → Walk
at rows pending waiting = record {
  held = record { rows = rows; pending = pending; skip = 0 };
  waiting = waiting;
  position = 1;
  is_trailing = false;
  stopped = None;
}

abbrev pend : Option Given → Option (Text × List Text)
pend None = None
pend (Some q) = Some (name_text q.0, q.1 ∷ [])

abbrev row_for : Given → Row
row_for q = record { id = name_text q.0; values = q.1 ∷ []; count = None; source = Some CommandLine; reading = reading_of vp.String }

step_name : (o : Offered) (R : List Row) (P : Option (Text × List Text)) → walked (rules (sub_of o)) [] (at R P idle) (45 ∷ 45 ∷ name_text (name_of o)) ≡ at (settled_rows (rules (sub_of o)) P R) (Some (name_text (name_of o), [])) (option (name_text (name_of o)))
unfolding clap_on_literals
step_name (in_run workers) R P = refl
step_name (in_run which) R P = refl
step_name (in_run how) R P = refl
step_name (in_run barrier) R P = refl
step_name in_plan R P = refl
step_name in_bench R P = refl

step_value : (o : Offered) (R : List Row) (x : ℕ) (xs : Text) → (x == 45) ≡ false → walked (rules (sub_of o)) [] (at R (Some (name_text (name_of o), [])) (option (name_text (name_of o)))) (x ∷ xs) ≡ at R (Some (name_text (name_of o), (x ∷ xs) ∷ [])) idle
unfolding clap_on_literals
step_value (in_run workers) R x xs h = rw h (rw h refl)
step_value (in_run which) R x xs h = rw h (rw h refl)
step_value (in_run how) R x xs h = rw h (rw h refl)
step_value (in_run barrier) R x xs h = rw h (rw h refl)
step_value in_plan R x xs h = rw h (rw h refl)
step_value in_bench R x xs h = rw h (rw h refl)

step_first : (c : Sub) (P : Option Given) (R : List Row) (x : ℕ) (xs : Text) → (x == 45) ≡ false → walked (rules c) [] (at R (pend P) idle) (x ∷ xs) ≡ at (settled_rows (rules c) (pend P) R) (Some (rest_id c, (x ∷ xs) ∷ [])) positional
unfolding clap_on_literals
step_first of_run None R x xs h = rw h (rw h refl)
step_first of_run (Some (workers, v)) R x xs h = rw h (rw h refl)
step_first of_run (Some (which, v)) R x xs h = rw h (rw h refl)
step_first of_run (Some (how, v)) R x xs h = rw h (rw h refl)
step_first of_run (Some (barrier, v)) R x xs h = rw h (rw h refl)
step_first of_seq None R x xs h = rw h (rw h refl)
step_first of_verify None R x xs h = rw h (rw h refl)
step_first of_seq (Some (workers, v)) R x xs h = rw h (rw h refl)
step_first of_verify (Some (workers, v)) R x xs h = rw h (rw h refl)
step_first of_seq (Some (which, v)) R x xs h = rw h (rw h refl)
step_first of_verify (Some (which, v)) R x xs h = rw h (rw h refl)
step_first of_seq (Some (how, v)) R x xs h = rw h (rw h refl)
step_first of_seq (Some (barrier, v)) R x xs h = rw h (rw h refl)
step_first of_verify (Some (how, v)) R x xs h = rw h (rw h refl)
step_first of_verify (Some (barrier, v)) R x xs h = rw h (rw h refl)
step_first of_plan None R x xs h = rw h (rw h refl)
step_first of_plan (Some (workers, v)) R x xs h = rw h (rw h refl)
step_first of_plan (Some (which, v)) R x xs h = rw h (rw h refl)
step_first of_plan (Some (how, v)) R x xs h = rw h (rw h refl)
step_first of_plan (Some (barrier, v)) R x xs h = rw h (rw h refl)
step_first of_bench None R x xs h = rw h (rw h refl)
step_first of_bench (Some (workers, v)) R x xs h = rw h (rw h refl)
step_first of_bench (Some (which, v)) R x xs h = rw h (rw h refl)
step_first of_bench (Some (how, v)) R x xs h = rw h (rw h refl)
step_first of_bench (Some (barrier, v)) R x xs h = rw h (rw h refl)

step_more : (c : Sub) (R : List Row) (acc : List Text) (x : ℕ) (xs : Text) → (x == 45) ≡ false → walked (rules c) [] (at R (Some (rest_id c, acc)) positional) (x ∷ xs) ≡ at R (Some (rest_id c, acc ++ (x ∷ xs) ∷ [])) positional
unfolding clap_on_literals
step_more of_run R acc x xs h = rw h (rw h refl)
step_more of_seq R acc x xs h = rw h (rw h refl)
step_more of_verify R acc x xs h = rw h (rw h refl)
step_more of_plan R acc x xs h = rw h (rw h refl)
step_more of_bench R acc x xs h = rw h (rw h refl)

-- ---- what an option leaves

cases_if : {X : Type 0} (b : Bool) (x : X) → cond b x x ≡ x
cases_if true x = refl
cases_if false x = refl

-- the rows of options, with no row of this id
abbrev is_among : Name → List Given → Bool
is_among a os = list_any (names a) os

row_among : (a : Name) (os : List Given) → has_row (name_text a) (map row_for os) ≡ is_among a os
row_among a [] = refl
row_among a (o ∷ os) = ap (λ b. bytes_eq (name_text o.0) (name_text a) || b) (row_among a os)

or_rest : (a b : Bool) → (a || b) ≡ false → b ≡ false
or_rest true b e = absurd (true≢false e)
or_rest false b e = e

at_none : (id : Text) (f : Row → List Row) (m : List Row) (rs : List Row) → has_row id rs ≡ false → at_row id f m rs ≡ rs ++ m
at_none id f m [] h = refl
at_none id f m (r ∷ rs) h = rw (or_left_false (bytes_eq r.id id) _ h) (ap (λ xs. r ∷ xs) (at_none id f m rs (or_rest (bytes_eq r.id id) _ h)))

-- a use of an option that has no row yet adds its row
added : (a : Name) (v : Text) (R : List Row) → has_row (name_text a) R ≡ false
    → at_row (name_text a) (λ r. more_values CommandLine (v ∷ []) r) (row_for (a, v) ∷ []) (at_row (name_text a) (λ _. []) [] R) ≡ R ++ row_for (a, v) ∷ []
added a v R h = ap (at_row (name_text a) (λ r. more_values CommandLine (v ∷ []) r) (row_for (a, v) ∷ [])) (at_none (name_text a) (λ _. []) [] R h ∙ append-nil R) ∙ at_none (name_text a) (λ r. more_values CommandLine (v ∷ []) r) (row_for (a, v) ∷ []) R h

settled_one : (a : Name) (v : Text) (R : List Row) → has_row (name_text a) R ≡ false → settled_rows (rules of_run) (pend (Some (a, v))) R ≡ R ++ row_for (a, v) ∷ []
settled_one workers v R h = added workers v R h
settled_one which v R h = added which v R h
settled_one how v R h = added how v R h
settled_one barrier v R h = added barrier v R h

-- ---- no step has a fault

abbrev IsFresh : Option Given → List Row → Type 0
IsFresh None R = ⊤
IsFresh (Some q) R = has_row (name_text q.0) R ≡ false

fault_settle : (c : Sub) (P : Option Given) (R : List Row) → IsFresh P R → settle_fault (rules c) false (record { rows = R; pending = pend P; skip = 0 }) ≡ []
fault_settle of_run None R h = refl
fault_settle of_run (Some (workers, v)) R h = rw h refl
fault_settle of_run (Some (which, v)) R h = rw h refl
fault_settle of_run (Some (how, v)) R h = rw h refl
fault_settle of_run (Some (barrier, v)) R h = rw h refl
fault_settle of_seq None R h = refl
fault_settle of_verify None R h = refl
fault_settle of_seq (Some (workers, v)) R h = refl
fault_settle of_verify (Some (workers, v)) R h = refl
fault_settle of_seq (Some (which, v)) R h = refl
fault_settle of_verify (Some (which, v)) R h = refl
fault_settle of_seq (Some (how, v)) R h = refl
fault_settle of_seq (Some (barrier, v)) R h = refl
fault_settle of_verify (Some (how, v)) R h = refl
fault_settle of_verify (Some (barrier, v)) R h = refl
fault_settle of_plan None R h = refl
fault_settle of_plan (Some (workers, v)) R h = rw h refl
fault_settle of_plan (Some (which, v)) R h = refl
fault_settle of_plan (Some (how, v)) R h = refl
fault_settle of_plan (Some (barrier, v)) R h = refl
fault_settle of_bench None R h = refl
fault_settle of_bench (Some (workers, v)) R h = rw h refl
fault_settle of_bench (Some (which, v)) R h = refl
fault_settle of_bench (Some (how, v)) R h = refl
fault_settle of_bench (Some (barrier, v)) R h = refl

fault_name : (o : Offered) (P : Option Given) (R : List Row) → IsFresh P R → turn_fault (shape (sub_of o)) [] (at R (pend P) idle) (45 ∷ 45 ∷ name_text (name_of o)) ≡ []
unfolding clap_on_literals
fault_name (in_run workers) P R h = rw (fault_settle of_run P R h) refl
fault_name (in_run which) P R h = rw (fault_settle of_run P R h) refl
fault_name (in_run how) P R h = rw (fault_settle of_run P R h) refl
fault_name (in_run barrier) P R h = rw (fault_settle of_run P R h) refl
fault_name in_plan P R h = rw (fault_settle of_plan P R h) refl
fault_name in_bench P R h = rw (fault_settle of_bench P R h) refl

fault_value : (o : Offered) (R : List Row) (x : ℕ) (xs : Text) → (x == 45) ≡ false → turn_fault (shape (sub_of o)) [] (at R (Some (name_text (name_of o), [])) (option (name_text (name_of o)))) (x ∷ xs) ≡ []
unfolding clap_on_literals
fault_value (in_run workers) R x xs h = rw h (rw h refl)
fault_value (in_run which) R x xs h = rw h (rw h refl)
fault_value (in_run how) R x xs h = rw h (rw h refl)
fault_value (in_run barrier) R x xs h = rw h (rw h refl)
fault_value in_plan R x xs h = rw h (rw h refl)
fault_value in_bench R x xs h = rw h (rw h refl)

fault_first : (c : Sub) (P : Option Given) (R : List Row) (x : ℕ) (xs : Text) → IsFresh P R → (x == 45) ≡ false → turn_fault (shape c) [] (at R (pend P) idle) (x ∷ xs) ≡ []
unfolding clap_on_literals
fault_first of_run None R x xs f h = rw h (rw h refl)
fault_first of_run (Some (workers, v)) R x xs f h = rw h (rw (h, f) refl)
fault_first of_run (Some (which, v)) R x xs f h = rw h (rw (h, f) refl)
fault_first of_run (Some (how, v)) R x xs f h = rw h (rw (h, f) refl)
fault_first of_run (Some (barrier, v)) R x xs f h = rw h (rw (h, f) refl)
fault_first of_seq None R x xs f h = rw h (rw h refl)
fault_first of_verify None R x xs f h = rw h (rw h refl)
fault_first of_seq (Some (workers, v)) R x xs f h = rw h (rw h refl)
fault_first of_verify (Some (workers, v)) R x xs f h = rw h (rw h refl)
fault_first of_seq (Some (which, v)) R x xs f h = rw h (rw h refl)
fault_first of_verify (Some (which, v)) R x xs f h = rw h (rw h refl)
fault_first of_seq (Some (how, v)) R x xs f h = rw h (rw h refl)
fault_first of_seq (Some (barrier, v)) R x xs f h = rw h (rw h refl)
fault_first of_verify (Some (how, v)) R x xs f h = rw h (rw h refl)
fault_first of_verify (Some (barrier, v)) R x xs f h = rw h (rw h refl)
fault_first of_plan None R x xs f h = rw h (rw h refl)
fault_first of_plan (Some (workers, v)) R x xs f h = rw h (rw (h, f) refl)
fault_first of_plan (Some (which, v)) R x xs f h = rw h (rw h refl)
fault_first of_plan (Some (how, v)) R x xs f h = rw h (rw h refl)
fault_first of_plan (Some (barrier, v)) R x xs f h = rw h (rw h refl)
fault_first of_bench None R x xs f h = rw h (rw h refl)
fault_first of_bench (Some (workers, v)) R x xs f h = rw h (rw (h, f) refl)
fault_first of_bench (Some (which, v)) R x xs f h = rw h (rw h refl)
fault_first of_bench (Some (how, v)) R x xs f h = rw h (rw h refl)
fault_first of_bench (Some (barrier, v)) R x xs f h = rw h (rw h refl)

fault_more : (c : Sub) (R : List Row) (acc : List Text) (x : ℕ) (xs : Text) → (x == 45) ≡ false → turn_fault (shape c) [] (at R (Some (rest_id c, acc)) positional) (x ∷ xs) ≡ []
unfolding clap_on_literals
fault_more of_run R acc x xs h = rw h (rw h refl)
fault_more of_seq R acc x xs h = rw h (rw h refl)
fault_more of_verify R acc x xs h = rw h (rw h refl)
fault_more of_plan R acc x xs h = rw h (rw h refl)
fault_more of_bench R acc x xs h = rw h (rw h refl)

-- ---- the walk over options

abbrev list_of : Option Given → List Given
list_of None = []
list_of (Some q) = q ∷ []

settled_all : (D : List Given) (P : Option Given) → IsFresh P (map row_for D) → settled_rows (rules of_run) (pend P) (map row_for D) ≡ map row_for (D ++ list_of P)
settled_all D None h = ap (map row_for) (sym (append-nil D))
settled_all D (Some (a, v)) h = settled_one a v (map row_for D) h ∙ sym (map-append row_for D ((a, v) ∷ []))

not_hyphen : (a : Name) (xs : Text) → value_ok a (45 ∷ xs) ≡ false
not_hyphen workers [] = refl
not_hyphen workers (d ∷ []) = refl
not_hyphen workers (d ∷ e ∷ r) = refl
not_hyphen which xs = refl
not_hyphen how xs = refl
not_hyphen barrier xs = refl

starts : (a : Name) (x : ℕ) (xs : Text) → value_ok a (x ∷ xs) ≡ true → (x == 45) ≡ false
starts a x xs ok = elim (eqb_tells x 45) [
  | inl h ↦ absurd (true≢false (sym (subst (λ y. value_ok a (y ∷ xs) ≡ true) h.1 ok) ∙ not_hyphen a xs))
  | inr h ↦ h.0
]

not_empty : (a : Name) → value_ok a [] ≡ false
not_empty workers = refl
not_empty which = refl
not_empty how = refl
not_empty barrier = refl

abbrev pub g : Sub → Walk → Text → Walk
g c = walked (rules c) []

pub fault_step : (c : Sub) (w v : Walk) (word : Text) (rest : List Text) → turn_fault (shape c) [] w word ≡ [] → g c w word ≡ v → walk_fault (shape c) [] w (word ∷ rest) ≡ walk_fault (shape c) [] v rest
unfolding walk_fault
fault_step c w v word rest t e = ap (λ k. or_else k (walk_fault (shape c) [] (g c w word) rest)) t ∙ ap (λ s. walk_fault (shape c) [] s rest) e

-- a walk over these words that has come to the settings, with rows of these options
record Reached (c : Sub) (w : Walk) (words rest : List Text) (all : List Given) : Type 0 where
  pub D : List Given
  pub P : Option Given
  pub fresh : IsFresh P (map row_for D)
  pub settled_is : settled_rows (rules c) (pend P) (map row_for D) ≡ map row_for all
  pub walk_is : fold (g c) w words ≡ fold (g c) (at (map row_for D) (pend P) idle) rest
  pub faults : walk_fault (shape c) [] w words ≡ walk_fault (shape c) [] (at (map row_for D) (pend P) idle) rest

go_options : (D : List Given) (P : Option Given) (os : List Given) (rest : List Text) → IsFresh P (map row_for D) → each_once (D ++ list_of P) os ≡ true
    → list_all (λ o. value_ok o.0 o.1) os ≡ true → Reached of_run (at (map row_for D) (pend P) idle) (written os ++ rest) rest ((D ++ list_of P) ++ os)
go_options D P [] rest f o v = record { D = D; P = P; fresh = f; settled_is = settled_all D P f ∙ ap (map row_for) (sym (append-nil (D ++ list_of P))); walk_is = refl; faults = refl }
go_options D P ((a, []) ∷ os) rest f o v = absurd (true≢false (sym (and_parts _ _ v).0 ∙ not_empty a))
go_options D P ((a, x ∷ xs) ∷ os) rest f o v =
    let value = (and_parts (value_ok a (x ∷ xs)) _ v).0 in
    let st = starts a x xs value in
    let D2 = D ++ list_of P in
    let seen = and_parts (not (is_among a D2)) _ o in
    let one : g of_run (at (map row_for D) (pend P) idle) (45 ∷ 45 ∷ name_text a) ≡ at (map row_for D2) (Some (name_text a, [])) (option (name_text a)) =
    step_name (in_run a) (map row_for D) (pend P) ∙ ap (λ rs. at rs (Some (name_text a, [])) (option (name_text a))) (settled_all D P f) in
    let two = step_value (in_run a) (map row_for D2) x xs st in
    let fresh2 : IsFresh (Some (a, x ∷ xs)) (map row_for D2) = row_among a D2 ∙ not-true (is_among a D2) seen.0 in
    let next = go_options D2 (Some (a, x ∷ xs)) os rest fresh2 seen.1 (and_parts (value_ok a (x ∷ xs)) _ v).1 in
    record {
      D = next.D;
      P = next.P;
      fresh = next.fresh;
      settled_is = next.settled_is ∙ ap (map row_for) (append_assoc D2 ((a, x ∷ xs) ∷ []) os);
      walk_is = ap (λ s. fold (g of_run) (g of_run s (x ∷ xs)) (written os ++ rest)) one ∙ (ap (λ s. fold (g of_run) s (written os ++ rest)) two ∙ next.walk_is);
      faults = fault_step of_run _ _ _ _ (fault_name (in_run a) P (map row_for D) f) one ∙ (fault_step of_run _ _ _ _ (fault_value (in_run a) (map row_for D2) x xs st) two ∙ next.faults);
    }

-- the one option of `plan`
reached_plan : (v : Text) (rest : List Text) → value_ok workers v ≡ true → Reached of_plan (walk_from nothing_held) (written ((workers, v) ∷ []) ++ rest) rest ((workers, v) ∷ [])
reached_plan [] rest ok = absurd (true≢false (sym ok ∙ not_empty workers))
reached_plan (x ∷ xs) rest ok =
    let st = starts workers x xs ok in
    let one = step_name in_plan [] None in
    let two = step_value in_plan [] x xs st in
    record {
      D = [];
      P = Some (workers, x ∷ xs);
      fresh = refl;
      settled_is = added workers (x ∷ xs) [] refl;
      walk_is = ap (λ s. fold (g of_plan) (g of_plan s (x ∷ xs)) rest) one ∙ ap (λ s. fold (g of_plan) s rest) two;
      faults = fault_step of_plan _ _ _ _ (fault_name in_plan None [] tt) one ∙ fault_step of_plan _ _ _ _ (fault_value in_plan [] x xs st) two;
    }

-- that of `bench`
reached_bench : (v : Text) (rest : List Text) → value_ok workers v ≡ true → Reached of_bench (walk_from nothing_held) (written ((workers, v) ∷ []) ++ rest) rest ((workers, v) ∷ [])
reached_bench [] rest ok = absurd (true≢false (sym ok ∙ not_empty workers))
reached_bench (x ∷ xs) rest ok =
    let st = starts workers x xs ok in
    let one = step_name in_bench [] None in
    let two = step_value in_bench [] x xs st in
    record {
      D = [];
      P = Some (workers, x ∷ xs);
      fresh = refl;
      settled_is = added workers (x ∷ xs) [] refl;
      walk_is = ap (λ s. fold (g of_bench) (g of_bench s (x ∷ xs)) rest) one ∙ ap (λ s. fold (g of_bench) s rest) two;
      faults = fault_step of_bench _ _ _ _ (fault_name in_bench None [] tt) one ∙ fault_step of_bench _ _ _ _ (fault_value in_bench [] x xs st) two;
    }

-- ---- the walk over settings

pub hyphen_free : (x : ℕ) → not (x == 45) ≡ true → (x == 45) ≡ false
hyphen_free x h = not-true (x == 45) h

pub go_more : (c : Sub) (R : List Row) (acc ss : List Text) → list_all is_setting ss ≡ true
    → (fold (g c) (at R (Some (rest_id c, acc)) positional) ss ≡ at R (Some (rest_id c, acc ++ ss)) positional) × (walk_fault (shape c) [] (at R (Some (rest_id c, acc)) positional) ss ≡ [])
unfolding walk_fault
go_more c R acc [] h = (ap (λ ts. at R (Some (rest_id c, ts)) positional) (sym (append-nil acc)), refl)
go_more c R acc ([] ∷ ss) h = absurd (true≢false (sym h))
go_more c R acc ((x ∷ xs) ∷ ss) h =
    let parts = and_parts (not (x == 45)) _ h in
    let st = hyphen_free x parts.0 in
    let one = step_more c R acc x xs st in
    let more = go_more c R (acc ++ (x ∷ xs) ∷ []) ss parts.1 in (
      ap (λ s. fold (g c) s ss) one ∙ (more.0 ∙ ap (λ ts. at R (Some (rest_id c, ts)) positional) (append_assoc acc ((x ∷ xs) ∷ []) ss)),
      fault_step c _ _ _ _ (fault_more c R acc x xs st) one ∙ more.1,
    )

-- ---- the end of the walk

abbrev pub rest_row : Text → List Text → Row
rest_row id ss = record { id = id; values = ss; count = None; source = Some CommandLine; reading = reading_of vp.String }

abbrev pub tail_rows : Text → List Text → List Row
tail_rows id [] = []
tail_rows id (s ∷ ss) = rest_row id (s ∷ ss) ∷ []

no_settings : (os : List Given) → has_row settings_id (map row_for os) ≡ false
no_settings [] = refl
no_settings ((workers, v) ∷ os) = no_settings os
no_settings ((which, v) ∷ os) = no_settings os
no_settings ((how, v) ∷ os) = no_settings os
no_settings ((barrier, v) ∷ os) = no_settings os

no_sizes : (os : List Given) → has_row sizes_id (map row_for os) ≡ false
no_sizes [] = refl
no_sizes ((workers, v) ∷ os) = no_sizes os
no_sizes ((which, v) ∷ os) = no_sizes os
no_sizes ((how, v) ∷ os) = no_sizes os
no_sizes ((barrier, v) ∷ os) = no_sizes os

no_rest : (c : Sub) (os : List Given) → has_row (rest_id c) (map row_for os) ≡ false
no_rest of_seq os = no_settings os
no_rest of_verify os = no_settings os
no_rest of_plan os = no_settings os
no_rest of_run os = no_settings os
no_rest of_bench os = no_sizes os

pub settled_rest : (c : Sub) (R : List Row) (s : Text) (ss : List Text) → has_row (rest_id c) R ≡ false → settled_rows (rules c) (Some (rest_id c, s ∷ ss)) R ≡ R ++ rest_row (rest_id c) (s ∷ ss) ∷ []
settled_rest of_run R s ss h = at_none settings_id (λ r. more_values CommandLine (s ∷ ss) r) (rest_row settings_id (s ∷ ss) ∷ []) R h
settled_rest of_seq R s ss h = at_none settings_id (λ r. more_values CommandLine (s ∷ ss) r) (rest_row settings_id (s ∷ ss) ∷ []) R h
settled_rest of_verify R s ss h = at_none settings_id (λ r. more_values CommandLine (s ∷ ss) r) (rest_row settings_id (s ∷ ss) ∷ []) R h
settled_rest of_plan R s ss h = at_none settings_id (λ r. more_values CommandLine (s ∷ ss) r) (rest_row settings_id (s ∷ ss) ∷ []) R h
settled_rest of_bench R s ss h = at_none sizes_id (λ r. more_values CommandLine (s ∷ ss) r) (rest_row sizes_id (s ∷ ss) ∷ []) R h

range_ok : (n : ℕ) → 1 ≤ n → n < 2 ^ 64 → range_kinds 1 usize_max n ≡ []
range_ok n low high = grind (arith, nat_tests)

all_strings : (vs : List Text) → values_kinds false vp.String vs ≡ []
all_strings [] = refl
all_strings (v ∷ vs) = all_strings vs

pub rest_settle : (c : Sub) (R : List Row) (s : Text) (ss : List Text) → length (s ∷ ss) < 2 ^ 64 → settle_fault (rules c) false (record { rows = R; pending = Some (rest_id c, s ∷ ss); skip = 0 }) ≡ []
rest_settle of_run R s ss few = ap (λ k. or_else k (values_kinds false vp.String (s ∷ ss))) (range_ok (length (s ∷ ss)) (omega arith) few) ∙ all_strings (s ∷ ss)
rest_settle of_seq R s ss few = ap (λ k. or_else k (values_kinds false vp.String (s ∷ ss))) (range_ok (length (s ∷ ss)) (omega arith) few) ∙ all_strings (s ∷ ss)
rest_settle of_verify R s ss few = ap (λ k. or_else k (values_kinds false vp.String (s ∷ ss))) (range_ok (length (s ∷ ss)) (omega arith) few) ∙ all_strings (s ∷ ss)
rest_settle of_plan R s ss few = ap (λ k. or_else k (values_kinds false vp.String (s ∷ ss))) (range_ok (length (s ∷ ss)) (omega arith) few) ∙ all_strings (s ∷ ss)
rest_settle of_bench R s ss few = ap (λ k. or_else k (values_kinds false vp.String (s ∷ ss))) (range_ok (length (s ∷ ss)) (omega arith) few) ∙ all_strings (s ∷ ss)

pub record Ended (c : Sub) (ws : List Text) (rows : List Row) : Type 0 where
  pub held : Held
  pub walk_is : (walk (rules c) [] nothing_held ws).held ≡ held
  pub faults : walk_fault (shape c) [] (walk_from nothing_held) ws ≡ []
  pub settle : settle_fault (rules c) false held ≡ []
  pub rows_is : settled_rows (rules c) held.pending held.rows ≡ rows

ended : (c : Sub) (ws ss : List Text) (all : List Given) → Reached c (walk_from nothing_held) ws ss all → list_all is_setting ss ≡ true → length ss < 2 ^ 64 → Ended c ws (map row_for all ++ tail_rows (rest_id c) ss)
unfolding walk_fault
ended c ws [] all reached good few = record {
  held = record { rows = map row_for reached.D; pending = pend reached.P; skip = 0 };
  walk_is = ap (λ (w : Walk). w.held) reached.walk_is;
  faults = reached.faults;
  settle = fault_settle c reached.P (map row_for reached.D) reached.fresh;
  rows_is = reached.settled_is ∙ sym (append-nil (map row_for all));
}
ended c ws ([] ∷ ss) all reached good few = absurd (true≢false (sym good))
ended c ws ((x ∷ xs) ∷ ss) all reached good few =
    let parts = and_parts (not (x == 45)) _ good in
    let st = hyphen_free x parts.0 in
    let one : g c (at (map row_for reached.D) (pend reached.P) idle) (x ∷ xs) ≡ at (map row_for all) (Some (rest_id c, (x ∷ xs) ∷ [])) positional =
    step_first c reached.P (map row_for reached.D) x xs st ∙ ap (λ rs. at rs (Some (rest_id c, (x ∷ xs) ∷ [])) positional) reached.settled_is in
    let rest = go_more c (map row_for all) ((x ∷ xs) ∷ []) ss parts.1 in
    record {
      held = record { rows = map row_for all; pending = Some (rest_id c, (x ∷ xs) ∷ ss); skip = 0 };
      walk_is = ap (λ (w : Walk). w.held) (reached.walk_is ∙ (ap (λ s. fold (g c) s ss) one ∙ rest.0));
      faults = reached.faults ∙ (fault_step c _ _ _ _ (fault_first c reached.P (map row_for reached.D) x xs reached.fresh st) one ∙ rest.1);
      settle = rest_settle c (map row_for all) (x ∷ xs) ss few;
      rows_is = settled_rest c (map row_for all) (x ∷ xs) ss (no_rest c all);
    }

-- ---- no default

empty_list : {X : Type 0} (xs : List X) → is_empty xs ≡ true → xs ≡ []
empty_list [] h = refl
empty_list (x ∷ xs) h = let e : length (x ∷ xs) ≡ 0 = eqb-true (length (x ∷ xs)) 0 h in absurd (omega arith)

no_default : (rows : List Row) (a : Rule) → a.defaults ≡ [] → with_default rows a ≡ rows
no_default rows a h = rw h (cases_if (has_row a.id rows) rows)

all_empty : (c : Sub) → list_all (λ a. is_empty a.defaults) (rules c) ≡ true
unfolding clap_on_literals
all_empty of_run = refl
all_empty of_seq = refl
all_empty of_verify = refl
all_empty of_plan = refl
all_empty of_bench = refl

no_defaults : (c : Sub) (rows : List Row) → fold with_default rows (rules c) ≡ rows
no_defaults c rows = go (rules c) (all_empty c)
  where
    go : (cs : List Rule) → list_all (λ a. is_empty a.defaults) cs ≡ true → fold with_default rows cs ≡ rows
    go [] h = refl
    go (a ∷ cs) h =
        let parts = and_parts (is_empty a.defaults) _ h in
        ap (λ rs. fold with_default rs cs) (no_default rows a (empty_list a.defaults parts.0)) ∙ go cs parts.1

or_true : (b : Bool) → (b || true) ≡ true
or_true true = refl
or_true false = refl

defaults_none : (c : Sub) (rows : List Row) → defaults_fault rows (rules c) ≡ []
unfolding clap_on_literals
defaults_none c rows = go rows (rules c) (all_empty c)
  where
    go : (rs : List Row) (cs : List Rule) → list_all (λ a. is_empty a.defaults) cs ≡ true → defaults_fault rs cs ≡ []
    go rs [] h = refl
    go rs (a ∷ cs) h =
        let parts = and_parts (is_empty a.defaults) _ h in
        rw parts.0 (rw (or_true (has_row a.id rs)) (go (with_default rs a) cs parts.1))

-- ---- what is read

first_is : (a : Name) (os : List Given) (ss : List Text) → first_of (name_text a) (map row_for os ++ tail_rows settings_id ss) ≡ value_of a os
first_is workers [] [] = refl
first_is workers [] (s ∷ ss) = refl
first_is workers ((workers, v) ∷ os) ss = refl
first_is workers ((which, v) ∷ os) ss = first_is workers os ss
first_is workers ((how, v) ∷ os) ss = first_is workers os ss
first_is workers ((barrier, v) ∷ os) ss = first_is workers os ss
first_is which [] [] = refl
first_is which [] (s ∷ ss) = refl
first_is which ((workers, v) ∷ os) ss = first_is which os ss
first_is which ((which, v) ∷ os) ss = refl
first_is which ((how, v) ∷ os) ss = first_is which os ss
first_is which ((barrier, v) ∷ os) ss = first_is which os ss
first_is how [] [] = refl
first_is how [] (s ∷ ss) = refl
first_is how ((workers, v) ∷ os) ss = first_is how os ss
first_is how ((which, v) ∷ os) ss = first_is how os ss
first_is how ((how, v) ∷ os) ss = refl
first_is how ((barrier, v) ∷ os) ss = first_is how os ss
first_is barrier [] [] = refl
first_is barrier [] (s ∷ ss) = refl
first_is barrier ((workers, v) ∷ os) ss = first_is barrier os ss
first_is barrier ((which, v) ∷ os) ss = first_is barrier os ss
first_is barrier ((how, v) ∷ os) ss = first_is barrier os ss
first_is barrier ((barrier, v) ∷ os) ss = refl

given_is : (a : Name) (os : List Given) (ss : List Text) → is_given (name_text a) (map row_for os ++ tail_rows settings_id ss) ≡ is_some (value_of a os)
given_is workers [] [] = refl
given_is workers [] (s ∷ ss) = refl
given_is workers ((workers, v) ∷ os) ss = refl
given_is workers ((which, v) ∷ os) ss = given_is workers os ss
given_is workers ((how, v) ∷ os) ss = given_is workers os ss
given_is workers ((barrier, v) ∷ os) ss = given_is workers os ss
given_is which [] [] = refl
given_is which [] (s ∷ ss) = refl
given_is which ((workers, v) ∷ os) ss = given_is which os ss
given_is which ((which, v) ∷ os) ss = refl
given_is which ((how, v) ∷ os) ss = given_is which os ss
given_is which ((barrier, v) ∷ os) ss = given_is which os ss
given_is how [] [] = refl
given_is how [] (s ∷ ss) = refl
given_is how ((workers, v) ∷ os) ss = given_is how os ss
given_is how ((which, v) ∷ os) ss = given_is how os ss
given_is how ((how, v) ∷ os) ss = refl
given_is how ((barrier, v) ∷ os) ss = given_is how os ss
given_is barrier [] [] = refl
given_is barrier [] (s ∷ ss) = refl
given_is barrier ((workers, v) ∷ os) ss = given_is barrier os ss
given_is barrier ((which, v) ∷ os) ss = given_is barrier os ss
given_is barrier ((how, v) ∷ os) ss = given_is barrier os ss
given_is barrier ((barrier, v) ∷ os) ss = refl

pub settings_are : (os : List Given) (ss : List Text) → settings_of (map row_for os ++ tail_rows settings_id ss) ≡ ss
settings_are [] [] = refl
settings_are [] (s ∷ ss) = refl
settings_are ((workers, v) ∷ os) ss = settings_are os ss
settings_are ((which, v) ∷ os) ss = settings_are os ss
settings_are ((how, v) ∷ os) ss = settings_are os ss
settings_are ((barrier, v) ∷ os) ss = settings_are os ss

has_value : {X : Type 0} (f : Text → Option X) (o : Option Text) (x : X) → option_and_then f o ≡ Some x → is_some o ≡ true
has_value f None x h = absurd (true≢false (sym (ap is_some h)))
has_value f (Some t) x h = refl

-- ---- both levels

run_check : (rows : List Row) → is_given (codes "workers") rows ≡ true → check_fault (shape of_run) rows false ≡ []
run_check rows workers_given = rw workers_given refl

plan_check : (rows : List Row) → is_given (codes "workers") rows ≡ true → check_fault (shape of_plan) rows false ≡ []
plan_check rows workers_given = rw workers_given refl

bench_check : (rows : List Row) → is_given (codes "workers") rows ≡ true → check_fault (shape of_bench) rows false ≡ []
bench_check rows workers_given = rw workers_given refl

sub_fault : (c : Sub) (ws : List Text) (rows : List Row) → Ended c ws rows → check_fault (shape c) rows false ≡ [] → level_fault (shape c) [] nothing_held ws false [] ≡ []
sub_fault c ws rows e h =
    let again = (shape c).args_override_self in
    let whole : Kinds → Held → Kinds = λ k end. or_else k (or_else (settle_fault (rules c) again end) (or_else (defaults_fault (settled (rules c) end).rows (rules c)) (check_fault (shape c) (finished (rules c) end) false))) in
    let late : Kinds → Kinds = λ k. or_else k (or_else (defaults_fault (settled (rules c) e.held).rows (rules c)) (check_fault (shape c) (finished (rules c) e.held) false)) in
    let last : Kinds → Kinds = λ k. or_else k (check_fault (shape c) (finished (rules c) e.held) false) in
    ap₂ whole e.faults e.walk_is ∙ (ap late (ap (λ b. settle_fault (rules c) b e.held) (never_overrides c) ∙ e.settle) ∙ (ap last (defaults_none c (settled (rules c) e.held).rows)
    ∙ (ap (λ rs. check_fault (shape c) rs false) (no_defaults c (settled (rules c) e.held).rows ∙ e.rows_is) ∙ h)))
  where
    never_overrides : (c : Sub) → (shape c).args_override_self ≡ false
    never_overrides of_run = refl
    never_overrides of_seq = refl
    never_overrides of_verify = refl
    never_overrides of_plan = refl
    never_overrides of_bench = refl

abbrev top : App
top = built tool_app

abbrev stopped_at : Sub → List Text → Walk
stopped_at c ws = record (walk_from nothing_held) { stopped = Some (sub_text c, ws) }

stop_more : (c : Sub) (acc ws : List Text) → fold (walked top.top.rules (names_of top)) (stopped_at c acc) ws ≡ stopped_at c (acc ++ ws)
unfolding walked
stop_more c acc [] = ap (stopped_at c) (sym (append-nil acc))
stop_more c acc (w ∷ ws) = stop_more c (acc ++ w ∷ []) ws ∙ ap (stopped_at c) (append_assoc acc (w ∷ []) ws)

stop_fault : (c : Sub) (acc ws : List Text) → walk_fault top.top (names_of top) (stopped_at c acc) ws ≡ []
unfolding walk_fault walked
stop_fault c acc [] = refl
stop_fault c acc (w ∷ ws) = stop_fault c (acc ++ w ∷ []) ws

enters : (c : Sub) → walked top.top.rules (names_of top) (walk_from nothing_held) (sub_text c) ≡ stopped_at c []
unfolding clap_on_literals
enters of_run = refl
enters of_seq = refl
enters of_verify = refl
enters of_plan = refl
enters of_bench = refl

enter_fault : (c : Sub) → turn_fault top.top (names_of top) (walk_from nothing_held) (sub_text c) ≡ []
unfolding clap_on_literals
enter_fault of_run = refl
enter_fault of_seq = refl
enter_fault of_verify = refl
enter_fault of_plan = refl
enter_fault of_bench = refl

top_walk : (c : Sub) (ws : List Text) → walk top.top.rules (names_of top) nothing_held (sub_text c ∷ ws) ≡ stopped_at c ws
top_walk c ws = ap (λ s. fold (walked top.top.rules (names_of top)) s ws) (enters c) ∙ stop_more c [] ws

top_fault : (c : Sub) (ws : List Text) → walk_fault top.top (names_of top) (walk_from nothing_held) (sub_text c ∷ ws) ≡ []
unfolding walk_fault
top_fault c ws = ap (λ k. or_else k (walk_fault top.top (names_of top) (walked top.top.rules (names_of top) (walk_from nothing_held) (sub_text c)) ws)) (enter_fault c)
    ∙ (ap (λ s. walk_fault top.top (names_of top) s ws) (enters c) ∙ stop_fault c [] ws)

abbrev whole_fault : Kinds → Walk → Kinds
whole_fault k w = or_else k (or_else (entered_fault top w.stopped) (or_else (settle_fault top.top.rules false w.held)
    (or_else (defaults_fault (settled top.top.rules w.held).rows top.top.rules) (check_fault top.top (finished top.top.rules w.held) (is_some (entered top w.stopped))))))

rest_fault : (k : Kinds) → k ≡ [] → or_else k (or_else (settle_fault top.top.rules false nothing_held) (or_else (defaults_fault (settled top.top.rules nothing_held).rows top.top.rules) (check_fault top.top (finished top.top.rules nothing_held) true))) ≡ []
unfolding clap_on_literals
rest_fault k h = rw h refl

-- words of a command that end with these rows have no fault, and are taken as its name with the rows
pub taken : (c : Sub) (ws : List Text) (rows : List Row) → Ended c ws rows → check_fault (shape c) rows false ≡ []
    → (fault_of tool_app (sub_text c ∷ ws) ≡ []) × (subcommand_of tool_app (sub_text c ∷ ws) ≡ Some (sub_text c, rows))
taken of_run ws rows e check = (
  ap₂ whole_fault (top_fault of_run ws) (top_walk of_run ws) ∙ rest_fault _ (sub_fault of_run ws rows e check),
  ap (λ (w : Walk). entered top w.stopped) (top_walk of_run ws) ∙ ap (λ rs. Some (codes "run", rs)) (ap (finished (rules of_run)) e.walk_is ∙ (no_defaults of_run (settled (rules of_run) e.held).rows ∙ e.rows_is)),
)
taken of_seq ws rows e check = (
  ap₂ whole_fault (top_fault of_seq ws) (top_walk of_seq ws) ∙ rest_fault _ (sub_fault of_seq ws rows e check),
  ap (λ (w : Walk). entered top w.stopped) (top_walk of_seq ws) ∙ ap (λ rs. Some (codes "seq", rs)) (ap (finished (rules of_seq)) e.walk_is ∙ (no_defaults of_seq (settled (rules of_seq) e.held).rows ∙ e.rows_is)),
)
taken of_verify ws rows e check = (
  ap₂ whole_fault (top_fault of_verify ws) (top_walk of_verify ws) ∙ rest_fault _ (sub_fault of_verify ws rows e check),
  ap (λ (w : Walk). entered top w.stopped) (top_walk of_verify ws) ∙ ap (λ rs. Some (codes "verify", rs)) (ap (finished (rules of_verify)) e.walk_is ∙ (no_defaults of_verify (settled (rules of_verify) e.held).rows ∙ e.rows_is)),
)
taken of_plan ws rows e check = (
  ap₂ whole_fault (top_fault of_plan ws) (top_walk of_plan ws) ∙ rest_fault _ (sub_fault of_plan ws rows e check),
  ap (λ (w : Walk). entered top w.stopped) (top_walk of_plan ws) ∙ ap (λ rs. Some (codes "plan", rs)) (ap (finished (rules of_plan)) e.walk_is ∙ (no_defaults of_plan (settled (rules of_plan) e.held).rows ∙ e.rows_is)),
)
taken of_bench ws rows e check = (
  ap₂ whole_fault (top_fault of_bench ws) (top_walk of_bench ws) ∙ rest_fault _ (sub_fault of_bench ws rows e check),
  ap (λ (w : Walk). entered top w.stopped) (top_walk of_bench ws) ∙ ap (λ rs. Some (codes "bench", rs)) (ap (finished (rules of_bench)) e.walk_is ∙ (no_defaults of_bench (settled (rules of_bench) e.held).rows ∙ e.rows_is)),
)

pub every_plain_run : EveryPlainRunIsTaken
every_plain_run os ss n p s by h =
    let ws = written os ++ ss in
    let rows = map row_for os ++ tail_rows settings_id ss in
    let e = ended of_run ws ss os (go_options [] None os ss tt h.once h.values) h.settings_ok h.few in
    let workers_given = given_is workers os ss ∙ has_value workers_of (value_of workers os) n h.workers_is in
    let found = taken of_run ws rows e (run_check rows workers_given) in
    let run_is : run_of rows ≡ Some (run n p by ss) = rw (first_is workers os ss, first_is which os ss, first_is how os ss, first_is barrier os ss, settings_are os ss, h.workers_is, h.plan_is, h.barrier_is, h.by_is) refl in
    (found.0, ap wanted_by found.1 ∙ run_is)

-- a command with settings alone
settings_alone : (c : Sub) → (ss : List Text) → Reached c (walk_from nothing_held) ss ss []
settings_alone of_seq ss = record { D = []; P = None; fresh = tt; settled_is = refl; walk_is = refl; faults = refl }
settings_alone of_verify ss = record { D = []; P = None; fresh = tt; settled_is = refl; walk_is = refl; faults = refl }
settings_alone of_plan ss = record { D = []; P = None; fresh = tt; settled_is = refl; walk_is = refl; faults = refl }
settings_alone of_run ss = record { D = []; P = None; fresh = tt; settled_is = refl; walk_is = refl; faults = refl }
settings_alone of_bench ss = record { D = []; P = None; fresh = tt; settled_is = refl; walk_is = refl; faults = refl }

pub every_plain_sequential : EveryPlainSequentialIsTaken
every_plain_sequential ss good few =
    let found = taken of_seq ss (tail_rows settings_id ss) (ended of_seq ss ss [] (settings_alone of_seq ss) good few) refl in
    (found.0, ap wanted_by found.1 ∙ ap (λ ts. Some (sequential ts)) (settings_are [] ss))

pub every_plain_verify : EveryPlainVerifyIsTaken
every_plain_verify ss good few =
    let found = taken of_verify ss (tail_rows settings_id ss) (ended of_verify ss ss [] (settings_alone of_verify ss) good few) refl in
    (found.0, ap wanted_by found.1 ∙ (no_sweep ss ∙ ap (λ ts. Some (verify ts)) (settings_are [] ss)))
  where
    no_sweep : (ss : List Text) → verify_of (tail_rows settings_id ss) ≡ Some (verify (settings_of (tail_rows settings_id ss)))
    no_sweep [] = refl
    no_sweep (s ∷ ss) = refl

pub every_plain_plan : EveryPlainPlanIsTaken
every_plain_plan number ss n n_is good few =
    let os : List Given = (workers, number) ∷ [] in
    let rows = map row_for os ++ tail_rows settings_id ss in
    let e = ended of_plan (written os ++ ss) ss os (reached_plan number ss (ap is_some n_is)) good few in
    let found = taken of_plan (written os ++ ss) rows e (plan_check rows (given_is workers os ss)) in
    let plan_is : make_of rows ≡ Some (planned n ss) = ap (option_map (λ m. planned m (settings_of rows))) n_is ∙ ap (λ ts. Some (planned n ts)) (settings_are os ss) in
    (found.0, ap wanted_by found.1 ∙ plan_is)

-- a number is no word that begins with a hyphen
starts_digit : (d : ℕ) → is_ascii_digit d ≡ true → not (d == 45) ≡ true
starts_digit d h = elim (eqb_tells d 45) [
  | inl is ↦ absurd (true≢false (sym h ∙ ap is_ascii_digit is.1))
  | inr isnt ↦ rw isnt.0 refl
]

numeral_starts : (t : Text) → is_numeral t ≡ true → is_setting t ≡ true
numeral_starts [] h = h
numeral_starts (c ∷ cs) h = starts_digit c (and_parts (is_ascii_digit c) _ (and_parts (list_all is_ascii_digit (c ∷ cs)) _ h).0).0

tested : (b : Bool) (v m : ℕ) → (if b then Some v else None) ≡ Some m → b ≡ true
tested true v m e = refl
tested false v m e = absurd (true≢false (sym (ap is_some e)))

size_starts : (low high : ℕ) (t : Text) (m : ℕ) → size_of low high t ≡ Some m → is_setting t ≡ true
size_starts low high t m e =
    numeral_starts t (and_parts (is_numeral t) _ (tested (is_numeral t && (nat_le low (digits_value 10 t) && nat_le (digits_value 10 t) high)) (digits_value 10 t) m e)).0

pub every_plain_bench : EveryPlainBenchIsTaken
every_plain_bench number points sweeps n p s n_is p_is s_is =
    let os : List Given = (workers, number) ∷ [] in
    let ss : List Text = points ∷ sweeps ∷ [] in
    let rows = map row_for os ++ tail_rows sizes_id ss in
    let good : list_all is_setting ss ≡ true = rw (size_starts 1 500000 points p p_is, size_starts 0 1000000 sweeps s s_is) refl in
    let e = ended of_bench (written os ++ ss) ss os (reached_bench number ss (ap is_some n_is)) good (omega arith) in
    let found = taken of_bench (written os ++ ss) rows e (bench_check rows refl) in
    let bench_is : bench_of rows ≡ Some (bench n p s) = rw (n_is, p_is, s_is) refl in
    (found.0, ap wanted_by found.1 ∙ bench_is)
