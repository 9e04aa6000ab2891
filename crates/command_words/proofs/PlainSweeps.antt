-- Each plain list of words with a sweep is taken.
use Rattle.std.proofs.Common.{◌≡◌, ◌∙◌, ◌==◌, ◌<◌, ◌^◌, ℕ, zero, suc, take, true, false, refl, sym, ap, List, [], ◌∷◌, length, Option, Some, None, true≢false, codes, inl, inr}
use Rattle.std.specs.Prelude.{not, is_some, option_and_then, option_map, fold}
use Rattle.std.specs.List.{list_all, before_first, after_first, position_or_len}
use Rattle.std.proofs.lemmas.Bool.{and_parts}
use Rattle.std.proofs.lemmas.Bool.Decides.{eqb_tells}
use Rattle.clap.specs.Words.{Row, Text}
use Rattle.clap.specs.Walk.{Walk, idle, option, positional, settled_rows}
use Rattle.clap.specs.Faults.{settle_fault, turn_fault, walk_fault}
use Rattle.clap.specs.Values.{reading_of}
use Rattle.clap.specs.declared.builder.value_parser.ValueParser.TheVariants as vp
use Rattle.clap.specs.declared.parser.matches.ValueSource.TheVariants.{CommandLine}
use Rattle.clap.proofs.OnLiterals.{clap_on_literals}
use Rattle.command_words.specs.Plain.{EveryPlainSweepIsTaken, is_setting}
use Rattle.command_words.specs.Settings.{is_name, setting_at, is_equals}
use Rattle.command_words.specs.Sweeps.{Sweep, is_colon, sweep_at, sweep_between}
use Rattle.command_words.specs.Wanted.{swept, settings_of, verify_of, wanted_by}
use Rattle.command_words.proofs.PlainWords.{Ended, at, fault_step, g, go_more, hyphen_free, of_verify, rest_settle, rules, settings_id, settled_rest, shape, tail_rows, taken}

abbrev sweep_id : Text
sweep_id = codes "sweep"

abbrev row_of : Text → Row
row_of t = record { id = sweep_id; values = t ∷ []; count = None; source = Some CommandLine; reading = reading_of vp.String }

step_name : g of_verify (at [] None idle) (codes "--sweep") ≡ at [] (Some (sweep_id, [])) (option sweep_id)
unfolding clap_on_literals
step_name = refl

step_value : (x : ℕ) (xs : Text) → (x == 45) ≡ false → g of_verify (at [] (Some (sweep_id, [])) (option sweep_id)) (x ∷ xs) ≡ at [] (Some (sweep_id, (x ∷ xs) ∷ [])) idle
unfolding clap_on_literals
step_value x xs h = rw h (rw h refl)

step_first : (t : Text) (x : ℕ) (xs : Text) → (x == 45) ≡ false → g of_verify (at [] (Some (sweep_id, t ∷ [])) idle) (x ∷ xs) ≡ at (row_of t ∷ []) (Some (settings_id, (x ∷ xs) ∷ [])) positional
unfolding clap_on_literals
step_first t x xs h = rw h (rw h refl)

fault_name : turn_fault (shape of_verify) [] (at [] None idle) (codes "--sweep") ≡ []
unfolding clap_on_literals
fault_name = refl

fault_value : (x : ℕ) (xs : Text) → (x == 45) ≡ false → turn_fault (shape of_verify) [] (at [] (Some (sweep_id, [])) (option sweep_id)) (x ∷ xs) ≡ []
unfolding clap_on_literals
fault_value x xs h = rw h (rw h refl)

fault_first : (t : Text) (x : ℕ) (xs : Text) → (x == 45) ≡ false → turn_fault (shape of_verify) [] (at [] (Some (sweep_id, t ∷ [])) idle) (x ∷ xs) ≡ []
unfolding clap_on_literals
fault_first t x xs h = rw h (rw h refl)

fault_settle : (t : Text) → settle_fault (rules of_verify) false (record { rows = []; pending = Some (sweep_id, t ∷ []); skip = 0 }) ≡ []
unfolding clap_on_literals
fault_settle t = refl

settled : (t : Text) → settled_rows (rules of_verify) (Some (sweep_id, t ∷ [])) [] ≡ row_of t ∷ []
unfolding clap_on_literals
settled t = refl

ended : (x : ℕ) (xs : Text) (ss : List Text) → (x == 45) ≡ false → list_all is_setting ss ≡ true → length ss < 2 ^ 64
    → Ended of_verify (codes "--sweep" ∷ (x ∷ xs) ∷ ss) (row_of (x ∷ xs) ∷ tail_rows settings_id ss)
unfolding walk_fault
ended x xs [] h good few = record {
  held = record { rows = []; pending = Some (sweep_id, (x ∷ xs) ∷ []); skip = 0 };
  walk_is = ap (λ (w : Walk). w.held) (ap (λ s. g of_verify s (x ∷ xs)) step_name ∙ step_value x xs h);
  faults = fault_step of_verify _ _ _ ((x ∷ xs) ∷ []) fault_name step_name ∙ fault_step of_verify _ _ _ [] (fault_value x xs h) (step_value x xs h);
  settle = fault_settle (x ∷ xs);
  rows_is = settled (x ∷ xs);
}
ended x xs ([] ∷ ss) h good few = absurd (true≢false (sym good))
ended x xs ((y ∷ ys) ∷ ss) h good few =
    let parts = and_parts (not (y == 45)) _ good in
    let st = hyphen_free y parts.0 in
    let rest = go_more of_verify (row_of (x ∷ xs) ∷ []) ((y ∷ ys) ∷ []) ss parts.1 in
    let three = step_first (x ∷ xs) y ys st in
    record {
      held = record { rows = row_of (x ∷ xs) ∷ []; pending = Some (settings_id, (y ∷ ys) ∷ ss); skip = 0 };
      walk_is = ap (λ (w : Walk). w.held) (ap (λ s. fold (g of_verify) (g of_verify (g of_verify s (x ∷ xs)) (y ∷ ys)) ss) step_name
          ∙ (ap (λ s. fold (g of_verify) (g of_verify s (y ∷ ys)) ss) (step_value x xs h) ∙ (ap (λ s. fold (g of_verify) s ss) three ∙ rest.0)));
      faults = fault_step of_verify _ _ _ ((x ∷ xs) ∷ (y ∷ ys) ∷ ss) fault_name step_name ∙ (fault_step of_verify _ _ _ ((y ∷ ys) ∷ ss) (fault_value x xs h) (step_value x xs h)
          ∙ (fault_step of_verify _ _ _ ss (fault_first (x ∷ xs) y ys st) three ∙ rest.1));
      settle = rest_settle of_verify (row_of (x ∷ xs) ∷ []) (y ∷ ys) ss few;
      rows_is = settled_rest of_verify (row_of (x ∷ xs) ∷ []) (y ∷ ys) ss refl;
    }

-- ---- a sweep begins with a letter

some_first : {X Y : Type 0} (f : X → Option Y) (o : Option X) (y : Y) → option_and_then f o ≡ Some y → is_some o ≡ true
some_first f None y e = absurd (true≢false (sym (ap is_some e)))
some_first f (Some x) y e = refl

no_name : (n : ℕ) (ts : Text) → is_name (take n (45 ∷ ts)) ≡ false
no_name zero ts = refl
no_name (suc n) ts = refl

no_setting : (n : ℕ) (ts : Text) → is_some (setting_at (take n (45 ∷ ts))) ≡ false
no_setting zero ts = refl
no_setting (suc n) ts = rw (no_name (position_or_len is_equals (45 ∷ take n ts)) (take n ts)) refl

hyphen_bare : (xs : Text) → is_some (setting_at (before_first is_colon (45 ∷ xs))) ≡ false
hyphen_bare xs = no_setting (position_or_len is_colon (45 ∷ xs)) xs

starts : (x : ℕ) (xs : Text) (s : Sweep) → sweep_at (x ∷ xs) ≡ Some s → (x == 45) ≡ false
starts x xs s e = elim (eqb_tells x 45) [
  | inl h ↦ absurd (true≢false (sym (some_first (λ lowest. sweep_between lowest (after_first is_colon (x ∷ xs))) (setting_at (before_first is_colon (x ∷ xs))) s e) ∙ (ap (λ y. is_some (setting_at (before_first is_colon (y ∷ xs)))) h.1 ∙ hyphen_bare xs)))
  | inr h ↦ h.0
]

settings_behind : (t : Text) (ss : List Text) → settings_of (row_of t ∷ tail_rows settings_id ss) ≡ ss
settings_behind t [] = refl
settings_behind t (s ∷ ss) = refl

pub every_plain_sweep : EveryPlainSweepIsTaken
every_plain_sweep [] s ss is good few = absurd (true≢false (sym (ap is_some is)))
every_plain_sweep (x ∷ xs) s ss is good few =
    let rows = row_of (x ∷ xs) ∷ tail_rows settings_id ss in
    let found = taken of_verify (codes "--sweep" ∷ (x ∷ xs) ∷ ss) rows (ended x xs ss (starts x xs s is) good few) refl in
    let swept_is : verify_of rows ≡ Some (swept s ss) = ap (option_map (λ s. swept s (settings_of rows))) is ∙ ap (λ ts. Some (swept s ts)) (settings_behind (x ∷ xs) ss) in
    (found.0, ap wanted_by found.1 ∙ swept_is)
