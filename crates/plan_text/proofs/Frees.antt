-- Lines that tell the values apart, and stops behind a line with the number of items.
use Rattle.std.proofs.Common.{◌≡◌, ℕ, ◌+◌, Bool, true, ◌&&◌, List, [], ◌∷◌, ◌++◌, length, refl, sym, ap, ◌∙◌, append-nil, append_assoc, codes, arith}
use Rattle.std.specs.Prelude.{Result, Ok, Err, IfErr}
use Rattle.std.specs.Fmt.{decimal}
use Rattle.std.specs.List.{list_all}
use Rattle.std.proofs.lemmas.Bool.{and_from, and_parts}
use Rattle.std.proofs.lemmas.List.{append_cancel_left}
use Rattle.farkas_cert.specs.declared.certificate.Certificate.{Certificate}
use Rattle.farkas_cert.specs.declared.certificate.Step.{Step}
use Rattle.sync_plan.specs.declared.plan.Version.{Version}
use Rattle.plan_text.specs.declared.syntax.PlanSyntax.{PlanSyntax}
use Rattle.plan_text.specs.declared.syntax.PlanSyntax.TheVariants.{Line, NoMemory}
use Rattle.plan_text.specs.Loose.{loop_said, phase_said, row_said, step_said, steps_said}
use Rattle.plan_text.specs.PlanText.{alone, cert_lines, headed, is_64, is_certificate_shown, is_loop_shown, is_phase_shown, is_row_shown, is_step_shown, numbered, text_of}
use Rattle.plan_text.specs.Stops.{AreItems, ItemsRead, RefusesLine, RefusesPart}
use Rattle.plan_text.specs.Words.{anchor_words, cert_line, kind_words, line_of, loop_line, mark_word, phase_line, private_words, row_line, spaced, step_line}
use Rattle.plan_text.proofs.Counting.{items-free}
use Rattle.plan_text.proofs.Items.{one_line}
use Rattle.plan_text.proofs.LineLaws.{line_free, loop-law, phase-law, row-law, step-law, steps-law}
use Rattle.plan_text.proofs.Stopping.{IsFree, stops_mapped}

-- the number in front of a line doesn't matter
renumbered : (k : ℕ) (ws vs : List (List ℕ)) → line_of (decimal k ∷ ws) ≡ line_of (decimal k ∷ vs) → line_of (decimal 0 ∷ ws) ≡ line_of (decimal 0 ∷ vs)
renumbered k ws vs e = ap (λ b. decimal 0 ++ b) (append_cancel_left (decimal k) (spaced ws) (spaced vs) e)

alone-free : {X : Type 0} (line : ℕ → X → List ℕ) (shown : X → Bool) → ((k : ℕ) (x y : X) → shown x ≡ true → shown y ≡ true → line k x ≡ line k y → x ≡ y) → (k : ℕ) → IsFree (alone line k) (λ x. shown x ≡ true)
alone-free line shown apart k x y r s h h' e = (let first : line k x ≡ line k y = cc in apart k x y h h' first)

pub loops-free : (v : Version) (k : ℕ) → IsFree (alone loop_line k) (λ l. is_loop_shown v l ≡ true)
loops-free v = alone-free loop_line (is_loop_shown v) (λ k x y h h' e. line_free (loop_line 0) (is_loop_shown v) loop_said (loop-law v 0 (omega arith)) x y h h' (renumbered k (mark_word x.0 ∷ private_words x.1) (mark_word y.0 ∷ private_words y.1) e))

pub phases-free : (k : ℕ) → IsFree (alone phase_line k) (λ p. is_phase_shown p ≡ true)
phases-free = alone-free phase_line is_phase_shown (λ k x y h h' e. line_free (phase_line 0) is_phase_shown phase_said (phase-law 0 (omega arith)) x y h h' (renumbered k (kind_words x.0 ++ (codes "AT" ∷ anchor_words x.1)) (kind_words y.0 ++ (codes "AT" ∷ anchor_words y.1)) e))

pub rows-free : (k : ℕ) → IsFree (alone row_line k) (λ r. is_row_shown r ≡ true)
rows-free = alone-free row_line is_row_shown (λ k x y h h' e. line_free (row_line 0) is_row_shown row_said (row-law 0 (omega arith)) x y h h' (renumbered k _ _ e))

pub steps-free : (k : ℕ) → IsFree (alone (λ n. step_line) k) (λ s. is_step_shown s ≡ true)
steps-free = alone-free (λ n. step_line) is_step_shown (λ k x y h h' e. line_free step_line is_step_shown step_said step-law x y h h' e)

-- a line with the number of items
module _ {X : Type 0} (head : ℕ → List ℕ) (is_count : ℕ → Bool) (apart : (m n : ℕ) → is_count m ≡ true → is_count n ≡ true → head m ≡ head n → m ≡ n) (none : is_count 0 ≡ true) (lines : ℕ → X → List (List ℕ)) (shown : X → Bool) where
  -- so many items as the count can tell, all shown
  abbrev pub AreCounted : List X → Type 0
  AreCounted xs = (is_count (length xs) && list_all shown xs) ≡ true

  pub headed-free : ((k : ℕ) → IsFree (lines k) (λ x. shown x ≡ true)) → IsFree (headed head lines) AreCounted
  headed-free free xs ys r s h h' e =
      let good = and_parts (is_count (length xs)) (list_all shown xs) h in
      let good' = and_parts (is_count (length ys)) (list_all shown ys) h' in
      let first : head (length xs) ≡ head (length ys) = cc in
      let rest : numbered lines 1 xs ++ r ≡ numbered lines 1 ys ++ s = cc in
      items-free lines shown free 1 xs ys r s (apart (length xs) (length ys) good.0 good'.0 first) good.1 good'.1 rest

  pub header_refused : (rest : List ℕ) (taken : ℕ) (e : PlanSyntax) → RefusesLine head is_count rest taken e → RefusesPart (headed head lines) AreCounted rest taken e
  header_refused rest taken NoMemory h = tt
  header_refused rest taken (Line n) h = record {
    front = [];
    behind = rest;
    cut = refl;
    count = omega (arith, h.0);
    whole = [];
    shown = and_from (is_count 0) true none refl;
    next = head 0;
    more = [];
    opened = refl;
    alien = λ xs line later after good e cut.
        let first : head (length xs) ≡ line = cc in
        h.1 (length xs) after (and_parts (is_count (length xs)) (list_all shown xs) good).0 (cut ∙ ap (λ l. l ++ (10 ∷ after)) (sym first));
  }

  unfoldable pub items_refused : (n : ℕ) → is_count n ≡ true → (rest later : List ℕ) (taken now : ℕ) (e : PlanSyntax) → rest ≡ head n ++ (10 ∷ later) → now ≡ taken + 1 → RefusesPart (numbered lines 1) (AreItems shown n) later now e → RefusesPart (headed head lines) AreCounted rest taken e
  items_refused n fits rest later taken now NoMemory is next h = tt
  items_refused n fits rest later taken now (Line m) is next h = record {
    front = head n ∷ h.front;
    behind = h.behind;
    cut = is ∙ one_line (head n) later ∙ ap (λ t. text_of (head n ∷ []) ++ t) h.cut ∙ sym (append_assoc (text_of (head n ∷ [])) (text_of h.front) h.behind) ∙ ap (λ t. t ++ text_of h.front ++ h.behind) (append-nil (head n ++ 10 ∷ []));
    count = omega (arith, h.count, next);
    whole = h.whole;
    shown = and_from (is_count (length h.whole)) (list_all shown h.whole) (ap is_count h.shown.0 ∙ fits) h.shown.1;
    next = h.next;
    more = h.more;
    opened = ap (λ k. head k ∷ numbered lines 1 h.whole) h.shown.0 ∙ ap (λ ls. head n ∷ ls) h.opened;
    alien = λ xs line later after good e cut.
        let parts = and_parts (is_count (length xs)) (list_all shown xs) good in
        let first : head (length xs) ≡ head n = cc in
        let rest : numbered lines 1 xs ≡ h.front ++ line ∷ later = cc in
        h.alien xs line later after (apart (length xs) n parts.0 fits first, parts.1) rest cut;
  }

  pub headed_read : (n : ℕ) (xs : List X) (rest middle later : List ℕ) (taken between now : ℕ) → rest ≡ head n ++ (10 ∷ middle) → between ≡ taken + 1 → ItemsRead lines shown middle between later now xs n → rest ≡ text_of (headed head lines xs) ++ later
  headed_read n xs rest middle later taken between now is next r =
      is ∙ one_line (head n) middle ∙ ap (λ t. text_of (head n ∷ []) ++ t) r.read
      ∙ ap (λ t. t ++ (text_of (numbered lines 1 xs) ++ later)) (append-nil (head n ++ 10 ∷ []))
      ∙ sym (append_assoc (head n ++ 10 ∷ []) (text_of (numbered lines 1 xs)) later)
      ∙ ap (λ k. (head k ++ 10 ∷ []) ++ text_of (numbered lines 1 xs) ++ later) (sym r.items.0)

  pub headed_length : (n : ℕ) (xs : List X) (middle later : List ℕ) (taken between now : ℕ) → between ≡ taken + 1 → ItemsRead lines shown middle between later now xs n → now ≡ taken + length (headed head lines xs)
  headed_length n xs middle later taken between now next r = omega (arith, next, r.counted)

  pub headed_shown : (n : ℕ) (xs : List X) → is_count n ≡ true → AreItems shown n xs → AreCounted xs
  headed_shown n xs fits items = and_from (is_count (length xs)) (list_all shown xs) (ap is_count items.0 ∙ fits) items.1

-- a certificate's first line, and its lines
pub steps-apart : (k m n : ℕ) → is_64 m ≡ true → is_64 n ≡ true → cert_line k m ≡ cert_line k n → m ≡ n
steps-apart k m n h h' e = line_free (cert_line 0) is_64 steps_said (steps-law 0 (omega arith)) m n h h' (renumbered k (codes "STEPS" ∷ decimal m ∷ []) (codes "STEPS" ∷ decimal n ∷ []) e)

pub certificates-free : (k : ℕ) → IsFree (cert_lines k) (λ c. is_certificate_shown c ≡ true)
certificates-free k x y r s h h' e =
    (let same = headed-free (cert_line k) is_64 (steps-apart k) refl (alone (λ n. step_line)) is_step_shown steps-free x.steps y.steps r s h h' e in
    let P : List Step → Certificate = λ ss. record { steps = ss } in
    ap P same)

-- a certificate is its steps
pub certificate_refused : (k : ℕ) (rest : List ℕ) (taken : ℕ) (e : PlanSyntax) → RefusesPart (headed (cert_line k) (alone (λ n. step_line))) (λ ss. (is_64 (length ss) && list_all is_step_shown ss) ≡ true) rest taken e →
    RefusesPart (cert_lines k) (λ c. is_certificate_shown c ≡ true) rest taken e
certificate_refused k rest taken NoMemory h = tt
certificate_refused k rest taken (Line n) h =
    stops_mapped (headed (cert_line k) (alone (λ n. step_line))) (λ ss. (is_64 (length ss) && list_all is_step_shown ss) ≡ true) (λ (c : Certificate). c.steps) (λ ss. record { steps = ss }) (λ ss. refl)
    (λ c. is_certificate_shown c ≡ true) (λ ss good. good) (λ c good. good) rest taken n h

-- what an error says, said otherwise
pub err_map : {A : Type 0} (P Q : PlanSyntax → Type 0) (r : Result A PlanSyntax) → IfErr r P → ((e : PlanSyntax) → P e → Q e) → IfErr r Q
err_map P Q (Ok a) h f = h
err_map P Q (Err e) h f = f e h
