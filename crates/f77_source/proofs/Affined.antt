-- Affine expressions within the limit have good forms.
use Rattle.std.proofs.Common.{◌≡◌, ℕ, suc, ◌<◌, ◌≤◌, ◌==◌, nat_lt, nat_le, ℤ, pos, negsuc, ◌+ℤ◌, ◌*ℤ◌, unsigned_abs, Bool, true, false, not, ◌&&◌, ◌||◌, List, [], ◌∷◌, ◌++◌, length, map, if◌then◌else◌, refl, sym, ap, ◌∙◌, arith}
use Rattle.std.proofs.lemmas.Bool.{and_from, and_parts, eq-eqb, le-leb, leb-true, lt-ltb, ltb-true, or_left, or_right}
use Rattle.std.proofs.lemmas.List.{length-map}
use Rattle.std.specs.List.{list_all, list_any}
use Rattle.std.specs.Ordering.{int_eq}
use Rattle.std.specs.Str.{bytes_eq}
use Rattle.nest_tree.specs.Form.{Form, IsForm, is_form, rises_above, is_small}
use Rattle.nest_tree.specs.Tree.{Constant}
use Rattle.nest_tree.specs.WellFormed.{is_number_of, names_only}
use Rattle.f77_forms.specs.Characters.{decimal}
use Rattle.f77_forms.specs.declared.form.Operator.TheVariants.{Add, Subtract, Multiply, Divide}
use Rattle.f77_forms.specs.declared.form.Sign.TheVariants.{Plus, Minus}
use Rattle.f77_forms.specs.Form.{ExpressionForm, number, name, call, parenthesized, signed, binary}
use Rattle.f77_program.proofs.Limited.{past-append, is_form-negative, some_size}
use Rattle.f77_program.proofs.Reached.{reach_of-one}
use Rattle.f77_program.proofs.Summed.{Ascends-plus, Ascends-times}
use Rattle.f77_program.specs.declared.linear.Linear.TheVariants as linear
use Rattle.f77_program.specs.declared.reach.Reach.TheVariants.{Within}
use Rattle.f77_program.specs.Linear.{linear_with}
use Rattle.f77_program.specs.Reaches.{reach_of, reach_at}
use Rattle.f77_program.specs.Sums.{Ascends}
use Rattle.f77_scene.specs.Affine.{kept, with_pair, pairs_plus, pairs_times, plus, times, fixed, has_loop, is_affine, name_form, form_of, numbers_of, met, taken}
use Rattle.f77_scene.specs.Expressions.{value_of}
use Rattle.f77_scene.specs.Limits.{past}
use Rattle.f77_scene.specs.Scene.{Name, Scene, Open, constant_names, is_among, is_constant_name, is_open, loop_named, number_among}
use Rattle.f77_source.proofs.Faultless.{both_empty}
use Rattle.f77_source.proofs.Formed.{reach_both}
use Rattle.f77_source.proofs.Kept.{small}

-- ---- which numbers stand in pairs

-- the numbers of pairs pass a test
abbrev pass : (ℕ → Bool) → List (ℕ × ℤ) → Bool
pass t pairs = list_all (λ (p : ℕ × ℤ). t p.0) pairs

kept-pass : (t : ℕ → Bool) (n : ℕ) (c : ℤ) (pairs : List (ℕ × ℤ)) → t n ≡ true → pass t pairs ≡ true → pass t (kept n c pairs) ≡ true
kept-pass t n c pairs h k = by_zero (int_eq c (pos 0))
  where
    by_zero : (b : Bool) → pass t (if b then pairs else (n, c) ∷ pairs) ≡ true
    by_zero true = k
    by_zero false = and_from (t n) (pass t pairs) h k

with_pair-pass : (t : ℕ → Bool) (n : ℕ) (c : ℤ) (pairs : List (ℕ × ℤ)) → t n ≡ true → pass t pairs ≡ true → pass t (with_pair n c pairs) ≡ true
with_pair-pass t n c [] h k = kept-pass t n c [] h refl
with_pair-pass t n c (p ∷ pairs) h k =
    let both = and_parts (t p.0) (pass t pairs) k in
    by_place (nat_lt n p.0) (n == p.0) (kept-pass t n c (p ∷ pairs) h k) (kept-pass t n (c +ℤ p.1) pairs h both.1) (and_from (t p.0) (pass t (with_pair n c pairs)) both.0 (with_pair-pass t n c pairs h both.1))
  where
    by_place : (b e : Bool) → pass t (kept n c (p ∷ pairs)) ≡ true → pass t (kept n (c +ℤ p.1) pairs) ≡ true → pass t (p ∷ with_pair n c pairs) ≡ true
        → pass t (if b then kept n c (p ∷ pairs) else (if e then kept n (c +ℤ p.1) pairs else p ∷ with_pair n c pairs)) ≡ true
    by_place true e x y z = x
    by_place false true x y z = y
    by_place false false x y z = z

plus-pass : (t : ℕ → Bool) (a b : List (ℕ × ℤ)) → pass t a ≡ true → pass t b ≡ true → pass t (pairs_plus a b) ≡ true
plus-pass t [] b h k = k
plus-pass t (p ∷ a) b h k = (let both = and_parts (t p.0) (pass t a) h in with_pair-pass t p.0 p.1 (pairs_plus a b) both.0 (plus-pass t a b both.1 k))

times-pass : (t : ℕ → Bool) (z : ℤ) (a : List (ℕ × ℤ)) → pass t a ≡ true → pass t (pairs_times z a) ≡ true
times-pass t z [] h = refl
times-pass t z (p ∷ a) h = (let both = and_parts (t p.0) (pass t a) h in kept-pass t p.0 (z *ℤ p.1) (pairs_times z a) both.0 (times-pass t z a both.1))

-- ---- a form whose pairs rise, and name only what is there

record IsPlaced (around : List ℕ) (constants : ℕ) (f : Form) : Type 0 where
  pub loops : pass (λ n. list_any (λ l. l == n) around) f.loops ≡ true
  pub params : pass (is_number_of constants) f.params ≡ true
  pub loops_rise : Ascends 0 f.loops
  pub params_rise : Ascends 0 f.params

fixed-placed : (around : List ℕ) (constants : ℕ) (z : ℤ) → IsPlaced around constants (fixed z)
fixed-placed around constants z = record { loops = refl; params = refl; loops_rise = tt; params_rise = tt }

plus-placed : (around : List ℕ) (constants : ℕ) (f g : Form) → IsPlaced around constants f → IsPlaced around constants g → IsPlaced around constants (plus f g)
plus-placed around constants f g h k =
    record {
      loops = plus-pass (λ n. list_any (λ l. l == n) around) f.loops g.loops h.loops k.loops;
      params = plus-pass (is_number_of constants) f.params g.params h.params k.params;
      loops_rise = Ascends-plus 0 f.loops g.loops h.loops_rise k.loops_rise;
      params_rise = Ascends-plus 0 f.params g.params h.params_rise k.params_rise;
    }

times-placed : (around : List ℕ) (constants : ℕ) (z : ℤ) (f : Form) → IsPlaced around constants f → IsPlaced around constants (times z f)
times-placed around constants z f h =
    record {
      loops = times-pass (λ n. list_any (λ l. l == n) around) z f.loops h.loops;
      params = times-pass (is_number_of constants) z f.params h.params;
      loops_rise = Ascends-times 0 z f.loops h.loops_rise;
      params_rise = Ascends-times 0 z f.params h.params_rise;
    }

-- ---- names

-- a name that is there has a number
pub number_there : (names : List Name) (n : Name) → is_among names n ≡ true → is_number_of (length names) (number_among names n) ≡ true
number_there names n h = (let b = bounded names n h in and_from (nat_le 1 (number_among names n)) (nat_le (number_among names n) (length names)) (le-leb 1 (number_among names n) b.0) (le-leb (number_among names n) (length names) b.1))
  where
    bounded : (names : List Name) (n : Name) → is_among names n ≡ true → (1 ≤ number_among names n) × (number_among names n ≤ length names)
    bounded [] n h = absurd cc
    bounded (m ∷ names) n h = by_test (bytes_eq m n) h (bounded names n)
      where
        by_test : (b : Bool) → (b || is_among names n) ≡ true → (is_among names n ≡ true → (1 ≤ number_among names n) × (number_among names n ≤ length names))
            → (1 ≤ (if b then 1 else suc (number_among names n))) × ((if b then 1 else suc (number_among names n)) ≤ length (m ∷ names))
        by_test true t rest = (omega arith, omega arith)
        by_test false t rest = (let r = rest t in (omega arith, omega arith))

-- loops have numbers from 1
abbrev pub are_counted : List Open → Bool
are_counted opened = list_all (λ (o : Open). nat_lt 0 o.number) opened

-- the number of an open loop is one of theirs
pub loop_there : (opened : List Open) (n : Name) → list_any (λ (o : Open). bytes_eq o.variable n) opened ≡ true → list_any (λ l. l == loop_named opened n) (map (λ (o : Open). o.number) opened) ≡ true
loop_there [] n h = absurd cc
loop_there (o ∷ opened) n h = by_test (bytes_eq o.variable n) h (loop_there opened n)
  where
    numbers : List ℕ
    numbers = map (λ (o : Open). o.number) opened

    by_test : (b : Bool) → (b || list_any (λ (o : Open). bytes_eq o.variable n) opened) ≡ true
        → (list_any (λ (o : Open). bytes_eq o.variable n) opened ≡ true → list_any (λ l. l == loop_named opened n) numbers ≡ true)
        → (o.number == (if b then o.number else loop_named opened n) || list_any (λ l. l == (if b then o.number else loop_named opened n)) numbers) ≡ true
    by_test true t rest = or_left (o.number == o.number) (list_any (λ l. l == o.number) numbers) (eq-eqb o.number o.number refl)
    by_test false t rest = or_right (o.number == loop_named opened n) (list_any (λ l. l == loop_named opened n) numbers) (rest t)

loop_counted : (opened : List Open) (n : Name) → list_any (λ (o : Open). bytes_eq o.variable n) opened ≡ true → are_counted opened ≡ true → 0 < loop_named opened n
loop_counted [] n h c = absurd cc
loop_counted (o ∷ opened) n h c = (let both = and_parts (nat_lt 0 o.number) (are_counted opened) c in by_test (bytes_eq o.variable n) h both.0 (λ t. loop_counted opened n t both.1))
  where
    by_test : (b : Bool) → (b || list_any (λ (o : Open). bytes_eq o.variable n) opened) ≡ true → nat_lt 0 o.number ≡ true
        → (list_any (λ (o : Open). bytes_eq o.variable n) opened ≡ true → 0 < loop_named opened n) → 0 < (if b then o.number else loop_named opened n)
    by_test true t here rest = ltb-true 0 o.number here
    by_test false t here rest = rest t

abbrev pub loops_around : Scene → List ℕ
loops_around s = map (λ (o : Open). o.number) s.opened

name-placed : (s : Scene) (n : Name) → (is_open s n || is_constant_name s n) ≡ true → are_counted s.opened ≡ true → IsPlaced (loops_around s) (length s.constants) (name_form s n)
name-placed s n h c = by_open (is_open s n) refl h
  where
    opened : Form
    opened = record { constant = pos 0; loops = (loop_named s.opened n, pos 1) ∷ []; params = [] }

    constant : Form
    constant = record { constant = pos 0; loops = []; params = (number_among (constant_names s) n, pos 1) ∷ [] }

    by_open : (b : Bool) → is_open s n ≡ b → (b || is_constant_name s n) ≡ true → IsPlaced (loops_around s) (length s.constants) (if b then opened else constant)
    by_open true e t =
        record {
          loops = and_from (list_any (λ l. l == loop_named s.opened n) (loops_around s)) true (loop_there s.opened n e) refl;
          params = refl;
          loops_rise = (loop_counted s.opened n e c, refl, tt);
          params_rise = tt;
        }
    by_open false e t =
        let there = number_there (constant_names s) n t in
        let many : length (constant_names s) ≡ length s.constants = length-map s.constants (λ (c : Constant). c.name) in
        let within : is_number_of (length s.constants) (number_among (constant_names s) n) ≡ true = ap (λ k. is_number_of k (number_among (constant_names s) n)) (sym many) ∙ there in
        let one = and_parts (nat_le 1 (number_among (constant_names s) n)) (nat_le (number_among (constant_names s) n) (length s.constants)) within in
        let first : 1 ≤ number_among (constant_names s) n = leb-true 1 (number_among (constant_names s) n) one.0 in
        let above : 0 < number_among (constant_names s) n = omega arith in
        record { loops = refl; params = and_from (is_number_of (length s.constants) (number_among (constant_names s) n)) true within refl; loops_rise = tt; params_rise = (above, refl, tt) }

-- ---- expressions

affine-placed : (s : Scene) (e : ExpressionForm) → is_affine s e ≡ true → are_counted s.opened ≡ true → IsPlaced (loops_around s) (length s.constants) (form_of s e)
affine-placed s (number ds) h c = fixed-placed (loops_around s) (length s.constants) (pos (decimal ds))
affine-placed s (name n) h c = name-placed s n h c
affine-placed s (call n arguments) h c = fixed-placed (loops_around s) (length s.constants) (value_of s (call n arguments))
affine-placed s (parenthesized e) h c = affine-placed s e h c
affine-placed s (signed Plus e) h c = affine-placed s e h c
affine-placed s (signed Minus e) h c = times-placed (loops_around s) (length s.constants) (negsuc 0) (form_of s e) (affine-placed s e h c)
affine-placed s (binary Add a b) h c =
    let both = and_parts (is_affine s a) (is_affine s b) h in
    plus-placed (loops_around s) (length s.constants) (form_of s a) (form_of s b) (affine-placed s a both.0 c) (affine-placed s b both.1 c)
affine-placed s (binary Subtract a b) h c =
    let both = and_parts (is_affine s a) (is_affine s b) h in
    plus-placed (loops_around s) (length s.constants) (form_of s a) (times (negsuc 0) (form_of s b)) (affine-placed s a both.0 c)
    (times-placed (loops_around s) (length s.constants) (negsuc 0) (form_of s b) (affine-placed s b both.1 c))
affine-placed s (binary Multiply a b) h c =
    let both = and_parts (is_affine s a) (is_affine s b) (and_parts (is_affine s a && is_affine s b) (not (has_loop s a && has_loop s b)) h).0 in
    by_loop (has_loop s a) (times-placed (loops_around s) (length s.constants) (value_of s b) (form_of s a) (affine-placed s a both.0 c))
    (times-placed (loops_around s) (length s.constants) (value_of s a) (form_of s b) (affine-placed s b both.1 c))
  where
    by_loop : (l : Bool) → IsPlaced (loops_around s) (length s.constants) (times (value_of s b) (form_of s a)) → IsPlaced (loops_around s) (length s.constants) (times (value_of s a) (form_of s b))
        → IsPlaced (loops_around s) (length s.constants) (if l then times (value_of s b) (form_of s a) else times (value_of s a) (form_of s b))
    by_loop true x y = x
    by_loop false x y = y
affine-placed s (binary Divide a b) h c = fixed-placed (loops_around s) (length s.constants) (value_of s (binary Divide a b))

-- ---- numbers within the limit

rises : (least : ℕ) (pairs : List (ℕ × ℤ)) → Ascends least pairs → past (map (λ (p : ℕ × ℤ). p.1) pairs) ≡ [] → rises_above least pairs ≡ true
rises least [] a h = refl
rises least (p ∷ pairs) a h =
    let first = small p.1 (map (λ (q : ℕ × ℤ). q.1) pairs) h in
    let above : nat_lt least p.0 ≡ true = lt-ltb least p.0 a.0 in
    and_from (nat_lt least p.0 && nat_lt 0 (unsigned_abs p.1) && is_small p.1) (rises_above p.0 pairs)
    (and_from (nat_lt least p.0 && nat_lt 0 (unsigned_abs p.1)) (is_small p.1) (and_from (nat_lt least p.0) (nat_lt 0 (unsigned_abs p.1)) above (some_size p.1 a.1)) first.0) (rises p.0 pairs a.2 first.1)

small-form : (f : Form) → past (numbers_of f) ≡ [] → Ascends 0 f.loops → Ascends 0 f.params → IsForm f
small-form f h l p =
    let loops : List ℤ = map (λ (q : ℕ × ℤ). q.1) f.loops in
    let params : List ℤ = map (λ (q : ℕ × ℤ). q.1) f.params in
    let first = small f.constant (loops ++ params) h in
    let both = both_empty (past loops) (past params) (sym (past-append loops params) ∙ first.1) in
    and_from (is_small f.constant && rises_above 0 f.loops) (rises_above 0 f.params) (and_from (is_small f.constant) (rises_above 0 f.loops) first.0 (rises 0 f.loops l both.0)) (rises 0 f.params p both.1)

made-form : (around : List ℕ) (constants : ℕ) (f : Form) → IsPlaced around constants f → past (numbers_of f) ≡ [] → IsForm f
made-form around constants f w h = small-form f h w.loops_rise w.params_rise

past-behind : (xs ys : List ℤ) → past (xs ++ ys) ≡ [] → past ys ≡ []
past-behind xs ys h = (both_empty (past xs) (past ys) (sym (past-append xs ys) ∙ h)).1

past-front : (xs ys : List ℤ) → past (xs ++ ys) ≡ [] → past xs ≡ []
past-front xs ys h = (both_empty (past xs) (past ys) (sym (past-append xs ys) ∙ h)).0

form-good : (s : Scene) (e : ExpressionForm) → is_affine s e ≡ true → past (met s e) ≡ [] → are_counted s.opened ≡ true → IsForm (form_of s e)
form-good s (number ds) h m c = small-form (fixed (pos (decimal ds))) m tt tt
form-good s (name n) h m c = by_open (is_open s n) (name-placed s n h c)
  where
    by_open : (b : Bool) → IsPlaced (loops_around s) (length s.constants) (name_form s n) → IsForm (name_form s n)
    by_open b w = small-form (name_form s n) (none (is_open s n)) w.loops_rise w.params_rise
      where
        none : (t : Bool) → past (numbers_of (if t then record { constant = pos 0; loops = (loop_named s.opened n, pos 1) ∷ []; params = [] } else record { constant = pos 0; loops = []; params = (number_among (constant_names s) n, pos 1) ∷ [] })) ≡ []
        none true = refl
        none false = refl
form-good s (call n arguments) h m c = small-form (fixed (value_of s (call n arguments))) m tt tt
form-good s (parenthesized e) h m c = form-good s e h m c
form-good s (signed Plus e) h m c = form-good s e h m c
form-good s (signed Minus e) h m c = is_form-negative (form_of s e) (form-good s e h m c)
form-good s (binary Add a b) h m c =
    made-form (loops_around s) (length s.constants) (form_of s (binary Add a b)) (affine-placed s (binary Add a b) h c) (past-behind (met s a ++ met s b) (numbers_of (form_of s (binary Add a b))) m)
form-good s (binary Subtract a b) h m c =
    made-form (loops_around s) (length s.constants) (form_of s (binary Subtract a b)) (affine-placed s (binary Subtract a b) h c) (past-behind (met s a ++ met s b) (numbers_of (form_of s (binary Subtract a b))) m)
form-good s (binary Multiply a b) h m c =
    let f = form_of s (binary Multiply a b) in
    made-form (loops_around s) (length s.constants) f (affine-placed s (binary Multiply a b) h c) (small (taken s a b) (numbers_of f) (past-behind (met s a ++ met s b) (taken s a b ∷ numbers_of f) m)).1
form-good s (binary Divide a b) h m c = small-form (fixed (value_of s (binary Divide a b))) m tt tt

-- ---- expressions that have to be affine

within_parts : (a : Bool) (zs : List ℤ) (f : Form) → reach_at (if a then linear_with zs f else linear.NotAffine) ≡ Within → (a ≡ true) × (zs ≡ [])
within_parts true [] f h = (refl, refl)
within_parts true (z ∷ zs) f h = absurd cc
within_parts false zs f h = absurd cc

pub names-good : (s : Scene) (e : ExpressionForm) → reach_of s (e ∷ []) ≡ Within → are_counted s.opened ≡ true → names_only (length s.constants) (loops_around s) (form_of s e) ≡ true
names-good s e h c =
    let both = within_parts (is_affine s e) (past (met s e)) (form_of s e) (sym (reach_of-one s e) ∙ h) in
    let f = form_of s e in
    let w = affine-placed s e both.0 c in
    let loops = list_all (λ (p : ℕ × ℤ). list_any (λ l. l == p.0) (loops_around s)) f.loops in
    let params = list_all (λ (p : ℕ × ℤ). is_number_of (length s.constants) p.0) f.params in
    and_from (is_form f && loops) params (and_from (is_form f) loops (form-good s e both.0 both.1 c) w.loops) w.params

pub all_names-good : (s : Scene) (es : List ExpressionForm) → reach_of s es ≡ Within → are_counted s.opened ≡ true → list_all (names_only (length s.constants) (loops_around s)) (map (form_of s) es) ≡ true
all_names-good s [] h c = refl
all_names-good s (e ∷ es) h c =
    let b = reach_both s (e ∷ []) es h in
    and_from (names_only (length s.constants) (loops_around s) (form_of s e)) (list_all (names_only (length s.constants) (loops_around s)) (map (form_of s) es)) (names-good s e b.0 c) (all_names-good s es b.1 c)
