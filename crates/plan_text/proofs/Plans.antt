-- The parts of a plan's text, one behind another.
use Rattle.std.proofs.Common.{◌≡◌, ℕ, ◌+◌, Bool, true, false, ◌&&◌, nat_lt, List, [], ◌∷◌, ◌++◌, length, Option, Some, None, refl, sym, ap, subst, ◌∙◌, codes, arith}
use Rattle.std.specs.List.{list_all}
use Rattle.std.specs.Prelude.{if◌then◌else◌}
use Rattle.std.specs.Option.{option_map}
use Rattle.std.specs.Str.{bytes_eq}
use Rattle.plan_text.specs.declared.syntax.PlanSyntax.{PlanSyntax}
use Rattle.plan_text.specs.declared.syntax.PlanSyntax.TheVariants.{Line, NoMemory}
use Rattle.plan_text.proofs.Anchors.{count-no_values}
use Rattle.std.proofs.lemmas.Bool.{and_parts, false≢true}
use Rattle.std.proofs.lemmas.Slice.Eq.{bytes_eq-Decides}
use Rattle.farkas_cert.specs.declared.certificate.Certificate.{Certificate}
use Rattle.owner_partition.specs.declared.anchor.Anchor.{Anchor}
use Rattle.owner_partition.specs.declared.cut.Mark.{Mark}
use Rattle.sync_plan.specs.declared.plan.Conditions.{Conditions}
use Rattle.sync_plan.specs.declared.plan.Conditions.TheVariants.{Values, Rows}
use Rattle.sync_plan.specs.declared.plan.Kind.{Kind}
use Rattle.sync_plan.specs.declared.plan.Plan.{Plan}
use Rattle.sync_plan.specs.declared.plan.Version.{Version}
use Rattle.sync_plan.specs.declared.plan.Version.TheVariants.{One, Two, Three, Four, Five}
use Rattle.plan_text.specs.Loose.{count_32_said, count_64_said, end_line, is_where_shown, version_said, where_line, where_said, number_32, word_at, words_of}
use Rattle.plan_text.specs.Parts.{firsts, plan_of, seconds}
use Rattle.plan_text.specs.PlanText.{are_where_shown, HasText, alone, are_certificates_shown, are_conditions_shown, are_loops_shown, are_phases_shown, cert_lines, condition_lines, counted, cut_loops, is_32, is_64, is_certificate_shown, is_loop_shown, is_phase_shown, is_row_shown, numbered, where_lines, zipped}
use Rattle.plan_text.specs.Stops.{AreItems, RefusesLine, RefusesPart, Stops}
use Rattle.plan_text.specs.Unbroken.{is_unbroken}
use Rattle.plan_text.specs.Words.{count_line, loop_line, phase_line, row_line, version_line}
use Rattle.plan_text.proofs.Frees.{certificates-free, items_refused, headed-free, loops-free, phases-free, rows-free}
use Rattle.plan_text.proofs.LineLaws.{LineLaw, alien_line, count_32-law, count_64-law, line_free}
use Rattle.plan_text.proofs.Stopping.{IsFree}

-- the laws of the lines that stand once
pub version-law : LineLaw version_line (λ v. true) version_said
version-law = record { unbroken = unbroken; read = read }
  where
    unbroken : (v : Version) → true ≡ true → is_unbroken (version_line v) ≡ true
    unbroken One h = refl
    unbroken Two h = refl
    unbroken Three h = refl
    unbroken Four h = refl
    unbroken Five h = refl

    read : (v : Version) → true ≡ true → version_said (version_line v) ≡ Some v
    read One h = refl
    read Two h = refl
    read Three h = refl
    read Four h = refl
    read Five h = refl

pub zip-unzip : {X Y : Type 0} (ps : List (X × Y)) → zipped (firsts ps) (seconds ps) ≡ ps
zip-unzip [] = refl
zip-unzip (p ∷ ps) = ap (λ qs. p ∷ qs) (zip-unzip ps)

same-lengths : {X Y : Type 0} (ps : List (X × Y)) → length (firsts ps) ≡ length (seconds ps)
same-lengths [] = refl
same-lengths (p ∷ ps) = (let rest = same-lengths ps in omega (arith, rest))

pub plan_of-shown : (v : Version) (w : ℕ) (c : Conditions) (ls : List (Mark × List ℕ)) (ps : List (Kind × Anchor)) (cs : List Certificate) →
    is_32 w ≡ true → are_conditions_shown v c ≡ true → are_loops_shown v ls ≡ true → are_phases_shown ps ≡ true → are_certificates_shown cs ≡ true → HasText (plan_of v w c ls ps cs)
plan_of-shown v w c ls ps cs hw hc hl hp hs = record { workers = hw; conditions = hc; lists = same-lengths ls; loops = ap (are_loops_shown v) (zip-unzip ls) ∙ hl; pairs = same-lengths ps; phases = ap are_phases_shown (zip-unzip ps) ∙ hp; certificates = hs }

-- what stands behind each part
abbrev pub end_lines : Plan → List (List ℕ)
end_lines p = codes "END PLAN" ∷ []

abbrev pub from_certificates : Plan → List (List ℕ)
from_certificates p = counted (codes "CERTIFICATES") cert_lines p.certificates ++ end_lines p

abbrev pub from_phases : Plan → List (List ℕ)
from_phases p = counted (codes "PHASES") (alone phase_line) (zipped p.kinds p.anchors) ++ from_certificates p

abbrev pub from_loops : Plan → List (List ℕ)
from_loops p = counted (codes "LOOPS") (alone loop_line) (cut_loops p.cut) ++ from_phases p

abbrev pub from_conditions : Plan → List (List ℕ)
from_conditions p = condition_lines p.version p.conditions ++ from_loops p

abbrev pub from_workers : Plan → List (List ℕ)
from_workers p = count_line (codes "WORKERS") p.workers ∷ from_conditions p

-- each part's lines tell it apart
pub version-free : IsFree (λ (v : Version). version_line v ∷ []) (λ v. true ≡ true)
version-free x y r s h h' e = (let first : version_line x ≡ version_line y = cc in line_free version_line (λ v. true) version_said version-law x y refl refl first)

pub workers-free : IsFree (λ n. count_line (codes "WORKERS") n ∷ []) (λ n. is_32 n ≡ true)
workers-free x y r s h h' e = (let first : count_line (codes "WORKERS") x ≡ count_line (codes "WORKERS") y = cc in line_free (count_line (codes "WORKERS")) is_32 count_32_said (count_32-law (codes "WORKERS") refl) x y h h' first)

pub apart_32 : (word : List ℕ) → list_all (λ b. nat_lt 32 b) word ≡ true → (m n : ℕ) → is_32 m ≡ true → is_32 n ≡ true → count_line word m ≡ count_line word n → m ≡ n
apart_32 word w m n h h' e = line_free (count_line word) is_32 count_32_said (count_32-law word w) m n h h' e

pub apart_64 : (word : List ℕ) → list_all (λ b. nat_lt 32 b) word ≡ true → (m n : ℕ) → is_64 m ≡ true → is_64 n ≡ true → count_line word m ≡ count_line word n → m ≡ n
apart_64 word w m n h h' e = line_free (count_line word) is_64 count_64_said (count_64-law word w) m n h h' e

pub cut-free : (v : Version) → IsFree (counted (codes "LOOPS") (alone loop_line)) (λ ls. are_loops_shown v ls ≡ true)
cut-free v = headed-free (count_line (codes "LOOPS")) is_32 (apart_32 (codes "LOOPS") refl) refl (alone loop_line) (is_loop_shown v) (loops-free v)

pub kinds-free : IsFree (counted (codes "PHASES") (alone phase_line)) (λ ps. are_phases_shown ps ≡ true)
kinds-free = headed-free (count_line (codes "PHASES")) is_32 (apart_32 (codes "PHASES") refl) refl (alone phase_line) is_phase_shown phases-free

pub proofs-free : IsFree (counted (codes "CERTIFICATES") cert_lines) (λ cs. are_certificates_shown cs ≡ true)
proofs-free = headed-free (count_line (codes "CERTIFICATES")) is_64 (apart_64 (codes "CERTIFICATES") refl) refl cert_lines is_certificate_shown certificates-free

-- a count isn't VALUES
differs : (n : ℕ) → is_32 n ≡ true → bytes_eq (count_line (codes "WHERE") n) (codes "WHERE VALUES") ≡ false
differs n h = count-no_values n h

pub no_count : (n : ℕ) → is_32 n ≡ true → codes "WHERE VALUES" ≡ count_line (codes "WHERE") n → ⊥
no_count n h e =
    let same : bytes_eq (codes "WHERE VALUES") (codes "WHERE VALUES") ≡ true = refl in
    let clash : false ≡ true = sym (differs n h) ∙ sym (ap (λ w. bytes_eq w (codes "WHERE VALUES")) e) ∙ same in
    false≢true clash

-- the lines in front of conditions
pub where-free : IsFree where_lines (λ c. are_where_shown c ≡ true)
where-free Values Values r s h h' e = refl
where-free Values (Rows rows) r s h h' e = absurd (let first : codes "WHERE VALUES" ≡ count_line (codes "WHERE") (length rows) = cc in no_count (length rows) (and_parts (is_32 (length rows)) (list_all is_row_shown rows) h').0 first)
where-free (Rows rows) Values r s h h' e = absurd (let first : codes "WHERE VALUES" ≡ count_line (codes "WHERE") (length rows) = cc in no_count (length rows) (and_parts (is_32 (length rows)) (list_all is_row_shown rows) h).0 first)
where-free (Rows rows) (Rows rows') r s h h' e = ap Rows (headed-free (count_line (codes "WHERE")) is_32 (apart_32 (codes "WHERE") refl) refl (alone row_line) is_row_shown rows-free rows rows' r s h h' e)

pub where-law : LineLaw where_line is_where_shown where_said
where-law = record { unbroken = unbroken; read = read }
  where
    unbroken : (w : Option ℕ) → is_where_shown w ≡ true → is_unbroken (where_line w) ≡ true
    unbroken None h = refl
    unbroken (Some n) h = (count_32-law (codes "WHERE") refl).unbroken n h

    read : (w : Option ℕ) → is_where_shown w ≡ true → where_said (where_line w) ≡ Some w
    read None h = refl
    read (Some n) h =
        ap (λ b. if b then Some None else Some (Some (number_32 (word_at 1 (words_of (count_line (codes "WHERE") n)))))) (differs n h)
        ∙ ap (option_map Some) ((count_32-law (codes "WHERE") refl).read n h)

-- a stop in front of rows, and among them, is one of the conditions
pub where_refused : (rest : List ℕ) (taken : ℕ) (e : PlanSyntax) → RefusesLine where_line is_where_shown rest taken e → RefusesPart where_lines (λ c. are_where_shown c ≡ true) rest taken e
where_refused rest taken NoMemory h = tt
where_refused rest taken (Line n) h = record {
  front = [];
  behind = rest;
  cut = refl;
  count = omega (arith, h.0);
  whole = Values;
  shown = refl;
  next = codes "WHERE VALUES";
  more = [];
  opened = refl;
  alien = alien;
}
  where
    alien : (c : Conditions) (line : List ℕ) (later : List (List ℕ)) (after : List ℕ) → are_where_shown c ≡ true → where_lines c ≡ line ∷ later → rest ≡ line ++ (10 ∷ after) → ⊥
    alien Values line later after good e cut = (let first : codes "WHERE VALUES" ≡ line = cc in h.1 None after refl (cut ∙ ap (λ l. l ++ (10 ∷ after)) (sym first)))
    alien (Rows rows) line later after good e cut =
        (let first : count_line (codes "WHERE") (length rows) ≡ line = cc in
        h.1 (Some (length rows)) after (and_parts (is_32 (length rows)) (list_all is_row_shown rows) good).0 (cut ∙ ap (λ l. l ++ (10 ∷ after)) (sym first)))

rows_alien : (n : ℕ) → is_32 n ≡ true → (rest : List ℕ) (taken m : ℕ) (s : Stops (counted (codes "WHERE") (alone row_line)) (λ rows. (is_32 (length rows) && list_all is_row_shown rows) ≡ true) rest taken m) (front : List (List ℕ)) → s.front ≡ count_line (codes "WHERE") n ∷ front →
    (c : Conditions) (line : List ℕ) (later : List (List ℕ)) (after : List ℕ) → are_where_shown c ≡ true → where_lines c ≡ s.front ++ line ∷ later → s.behind ≡ line ++ (10 ∷ after) → ⊥
rows_alien n fits rest taken m s front is (Rows rows) line later after good e cut = s.alien rows line later after good e cut
rows_alien n fits rest taken m s front is Values line later after good e cut =
    (let both : codes "WHERE VALUES" ∷ [] ≡ count_line (codes "WHERE") n ∷ (front ++ line ∷ later) = e ∙ ap (λ f. f ++ line ∷ later) is in
    let first : codes "WHERE VALUES" ≡ count_line (codes "WHERE") n = cc in
    no_count n fits first)

pub rows_refused : (n : ℕ) → is_32 n ≡ true → (rest later : List ℕ) (taken now : ℕ) (e : PlanSyntax) → rest ≡ count_line (codes "WHERE") n ++ (10 ∷ later) → now ≡ taken + 1 →
    RefusesPart (numbered (alone row_line) 1) (AreItems is_row_shown n) later now e → RefusesPart where_lines (λ c. are_where_shown c ≡ true) rest taken e
unfolding items_refused
rows_refused n fits rest later taken now NoMemory is next h = tt
rows_refused n fits rest later taken now (Line m) is next h =
    let s : Stops (counted (codes "WHERE") (alone row_line)) (λ rows. (is_32 (length rows) && list_all is_row_shown rows) ≡ true) rest taken m =
    items_refused (count_line (codes "WHERE")) is_32 (apart_32 (codes "WHERE") refl) refl (alone row_line) is_row_shown n fits rest later taken now (Line m) is next h in
    record {
      front = s.front;
      behind = s.behind;
      cut = s.cut;
      count = s.count;
      whole = Rows s.whole;
      shown = s.shown;
      next = s.next;
      more = s.more;
      opened = s.opened;
      alien = rows_alien n fits rest taken m s h.front refl;
    }

-- words that are told apart
pub not_same : (a b : List ℕ) → (b ≡ a → ⊥) → bytes_eq a b ≡ false
not_same a b ne = by_case (bytes_eq a b) refl
  where
    by_case : (t : Bool) → bytes_eq a b ≡ t → bytes_eq a b ≡ false
    by_case false e = e
    by_case true e = absurd (ne (sym ((bytes_eq-Decides a b).0 e)))

-- a line of none of the versions, and one that isn't the last
pub version_refused : (text rest behind : List ℕ) (e : PlanSyntax) (taken n : ℕ) → e ≡ Line n → n ≡ taken + 1 → is_unbroken text ≡ true → rest ≡ text ++ (10 ∷ behind) →
    (codes "SPMD PLAN 1" ≡ text → ⊥) → (codes "SPMD PLAN 2" ≡ text → ⊥) → (codes "SPMD PLAN 3" ≡ text → ⊥) → (codes "SPMD PLAN 4" ≡ text → ⊥) → (codes "SPMD PLAN 5" ≡ text → ⊥) → RefusesLine version_line (λ v. true) rest taken e
version_refused text rest behind e taken n is next whole cut one two three four five =
    let P : PlanSyntax → Type 0 = λ f. RefusesLine version_line (λ v. true) rest taken f in
    subst P (sym is) (next, alien_line version_line (λ v. true) version_said version-law text rest behind whole cut (λ v good told same. none v same))
  where
    none : (v : Version) → version_line v ≡ text → ⊥
    none One h = one h
    none Two h = two h
    none Three h = three h
    none Four h = four h
    none Five h = five h

end-law : LineLaw end_line (λ u. true) (λ line. Some tt)
end-law = record { unbroken = λ u h. refl; read = λ u h. refl }

pub end_refused : (text rest behind : List ℕ) (e : PlanSyntax) (taken n : ℕ) → e ≡ Line n → n ≡ taken + 1 → is_unbroken text ≡ true → rest ≡ text ++ (10 ∷ behind) → (codes "END PLAN" ≡ text → ⊥) → RefusesLine end_line (λ u. true) rest taken e
end_refused text rest behind e taken n is next whole cut none =
    let P : PlanSyntax → Type 0 = λ f. RefusesLine end_line (λ u. true) rest taken f in
    subst P (sym is) (next, alien_line end_line (λ u. true) (λ line. Some tt) end-law text rest behind whole cut (λ u good told same. none same))
