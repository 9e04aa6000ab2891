-- Plans and their texts: each has its own, and none is a front of another's.
use Rattle.std.proofs.Common.{◌≡◌, ℕ, suc, ◌+◌, ◌<◌, ◌≤◌, ◌^◌, Bool, true, false, nat_lt, List, [], ◌∷◌, ◌++◌, length, refl, sym, ap, subst, ◌∙◌, append-nil, append_assoc, length-append, codes, ◌⊎◌, inl, inr, Result, Ok, Err, arith}
use Rattle.std.specs.List.{list_all}
use Rattle.std.specs.Result.{IfOk, IfErr}
use Rattle.std.proofs.lemmas.Bool.{and_from, and_parts}
use Rattle.std.proofs.lemmas.Bool.Decides.{nat_tests}
use Rattle.std.proofs.lemmas.List.{append_cancel_left}
use Rattle.std.proofs.lemmas.List.Folds.{list_all-append}
use Rattle.farkas_cert.specs.declared.certificate.Certificate.{Certificate}
use Rattle.owner_partition.specs.declared.anchor.Anchor.{Anchor}
use Rattle.owner_partition.specs.Cuts.{Cutting}
use Rattle.owner_partition.specs.declared.cut.Mark.{Mark}
use Rattle.sync_plan.specs.declared.plan.Conditions.{Conditions}
use Rattle.sync_plan.specs.declared.plan.Conditions.TheVariants.{Values, Rows}
use Rattle.sync_plan.specs.declared.plan.Kind.{Kind}
use Rattle.sync_plan.specs.declared.plan.Plan.{Plan}
use Rattle.sync_plan.specs.declared.plan.Version.{Version}
use Rattle.sync_plan.specs.declared.plan.Version.TheVariants.{One, Two, Three, Four, Five}
use Rattle.plan_text.specs.Parts.{firsts, seconds}
use Rattle.plan_text.specs.PlanText.{where_lines, are_where_shown, HasText, alone, are_conditions_shown, are_loops_shown, cert_lines, condition_lines, counted, cut_loops, is_32, is_64, is_certificate_shown, is_loop_shown, is_phase_shown, is_row_shown, is_step_shown, numbered, plan_lines, plan_text, text_of, zipped}
use Rattle.plan_text.specs.Refused.{IsFirstAlien, Opens, RefusesText}
use Rattle.plan_text.specs.Stops.{RefusesPart, Stops}
use Rattle.plan_text.specs.declared.syntax.PlanSyntax.{PlanSyntax}
use Rattle.plan_text.specs.declared.syntax.PlanSyntax.TheVariants.{Line, NoMemory}
use Rattle.plan_text.specs.Unbroken.{is_unbroken}
use Rattle.plan_text.specs.Words.{cert_line, count_line, loop_line, phase_line, row_line, step_line, version_line}
use Rattle.plan_text.proofs.Chain.{conditions-free}
use Rattle.plan_text.proofs.LineLaws.{count_32-law, count_64-law, loop-law, phase-law, row-law, same_line, step-law, steps-law}
use Rattle.plan_text.proofs.Plans.{cut-free, end_lines, from_certificates, from_conditions, from_loops, from_phases, from_workers, kinds-free, proofs-free, version-free, version-law, workers-free}
use Rattle.plan_text.proofs.Stopping.{IsFree}

-- pairs tell both lists
firsts-zipped : {X Y : Type 0} (ks : List X) (vs : List Y) → length ks ≡ length vs → firsts (zipped ks vs) ≡ ks
firsts-zipped [] vs h = refl
firsts-zipped (k ∷ ks) [] h = absurd (omega arith)
firsts-zipped (k ∷ ks) (a ∷ vs) h = ap (λ r. k ∷ r) (firsts-zipped ks vs (omega arith))

seconds-zipped : {X Y : Type 0} (ks : List X) (vs : List Y) → length ks ≡ length vs → seconds (zipped ks vs) ≡ vs
seconds-zipped [] [] h = refl
seconds-zipped [] (a ∷ vs) h = absurd (omega arith)
seconds-zipped (k ∷ ks) [] h = absurd (omega arith)
seconds-zipped (k ∷ ks) (a ∷ vs) h = ap (λ r. a ∷ r) (seconds-zipped ks vs (omega arith))

same_cut : (a b : Cutting) → length a.marks ≡ length a.privates → length b.marks ≡ length b.privates → cut_loops a ≡ cut_loops b → a ≡ b
same_cut a b long other e =
    let marks = sym (firsts-zipped a.marks a.privates long) ∙ ap firsts e ∙ firsts-zipped b.marks b.privates other in
    let lists = sym (seconds-zipped a.marks a.privates long) ∙ ap seconds e ∙ seconds-zipped b.marks b.privates other in
    let P : List Mark → Cutting = λ z. record { marks = z; privates = a.privates } in
    let Q : List (List ℕ) → Cutting = λ z. record { marks = b.marks; privates = z } in
    ap P marks ∙ ap Q lists

same_plan : (x y : Plan) → x.version ≡ y.version → x.conditions ≡ y.conditions → x.workers ≡ y.workers → x.cut ≡ y.cut → x.anchors ≡ y.anchors → x.kinds ≡ y.kinds → x.certificates ≡ y.certificates → x ≡ y
same_plan x y v c w m a k s =
    let P1 : Version → Plan = λ z. record { version = z; conditions = x.conditions; workers = x.workers; cut = x.cut; anchors = x.anchors; kinds = x.kinds; certificates = x.certificates } in
    let P2 : Conditions → Plan = λ z. record { version = y.version; conditions = z; workers = x.workers; cut = x.cut; anchors = x.anchors; kinds = x.kinds; certificates = x.certificates } in
    let P3 : ℕ → Plan = λ z. record { version = y.version; conditions = y.conditions; workers = z; cut = x.cut; anchors = x.anchors; kinds = x.kinds; certificates = x.certificates } in
    let P4 : Cutting → Plan = λ z. record { version = y.version; conditions = y.conditions; workers = y.workers; cut = z; anchors = x.anchors; kinds = x.kinds; certificates = x.certificates } in
    let P5 : List Anchor → Plan = λ z. record { version = y.version; conditions = y.conditions; workers = y.workers; cut = y.cut; anchors = z; kinds = x.kinds; certificates = x.certificates } in
    let P6 : List Kind → Plan = λ z. record { version = y.version; conditions = y.conditions; workers = y.workers; cut = y.cut; anchors = y.anchors; kinds = z; certificates = x.certificates } in
    let P7 : List Certificate → Plan = λ z. record { version = y.version; conditions = y.conditions; workers = y.workers; cut = y.cut; anchors = y.anchors; kinds = y.kinds; certificates = z } in
    ap P1 v ∙ ap P2 c ∙ ap P3 w ∙ ap P4 m ∙ ap P5 a ∙ ap P6 k ∙ ap P7 s

-- of two plans one of whose lines begin with the other's, both are one
pub plan-free : IsFree plan_lines HasText
plan-free x y r s hx hy e =
    let v = version-free x.version y.version (from_workers x ++ r) (from_workers y ++ s) refl refl e in
    let e1 : count_line (codes "WORKERS") x.workers ∷ (from_conditions x ++ r) ≡ count_line (codes "WORKERS") y.workers ∷ (from_conditions y ++ s) = cc in
    let w = workers-free x.workers y.workers (from_conditions x ++ r) (from_conditions y ++ s) hx.workers hy.workers e1 in
    let e2 : from_conditions x ++ r ≡ from_conditions y ++ s = cc in
    let e2' = sym (append_assoc (condition_lines x.version x.conditions) (from_loops x) r) ∙ e2 ∙ append_assoc (condition_lines y.version y.conditions) (from_loops y) s ∙ ap (λ u. condition_lines u y.conditions ++ (from_loops y ++ s)) (sym v) in
    let c = conditions-free x.version x.conditions y.conditions (from_loops x ++ r) (from_loops y ++ s) hx.conditions (ap (λ u. are_conditions_shown u y.conditions) v ∙ hy.conditions) e2' in
    let e3 = append_cancel_left (condition_lines x.version x.conditions) (from_loops x ++ r) (from_loops y ++ s) (e2' ∙ ap (λ z. condition_lines x.version z ++ (from_loops y ++ s)) (sym c)) in
    let lx = cut_loops x.cut in
    let ly = cut_loops y.cut in
    let e3' = sym (append_assoc (counted (codes "LOOPS") (alone loop_line) lx) (from_phases x) r) ∙ e3 ∙ append_assoc (counted (codes "LOOPS") (alone loop_line) ly) (from_phases y) s in
    let l = cut-free x.version lx ly (from_phases x ++ r) (from_phases y ++ s) hx.loops (ap (λ u. are_loops_shown u ly) v ∙ hy.loops) e3' in
    let e4 = append_cancel_left (counted (codes "LOOPS") (alone loop_line) lx) (from_phases x ++ r) (from_phases y ++ s) (e3' ∙ ap (λ z. counted (codes "LOOPS") (alone loop_line) z ++ (from_phases y ++ s)) (sym l)) in
    let px = zipped x.kinds x.anchors in
    let py = zipped y.kinds y.anchors in
    let e4' = sym (append_assoc (counted (codes "PHASES") (alone phase_line) px) (from_certificates x) r) ∙ e4 ∙ append_assoc (counted (codes "PHASES") (alone phase_line) py) (from_certificates y) s in
    let p = kinds-free px py (from_certificates x ++ r) (from_certificates y ++ s) hx.phases hy.phases e4' in
    let e5 = append_cancel_left (counted (codes "PHASES") (alone phase_line) px) (from_certificates x ++ r) (from_certificates y ++ s) (e4' ∙ ap (λ z. counted (codes "PHASES") (alone phase_line) z ++ (from_certificates y ++ s)) (sym p)) in
    let e5' = sym (append_assoc (counted (codes "CERTIFICATES") cert_lines x.certificates) (end_lines x) r) ∙ e5 ∙ append_assoc (counted (codes "CERTIFICATES") cert_lines y.certificates) (end_lines y) s in
    let k = proofs-free x.certificates y.certificates (end_lines x ++ r) (end_lines y ++ s) hx.certificates hy.certificates e5' in
    same_plan x y v c w (same_cut x.cut y.cut hx.lists hy.lists l)
    (sym (seconds-zipped x.kinds x.anchors hx.pairs) ∙ ap seconds p ∙ seconds-zipped y.kinds y.anchors hy.pairs)
    (sym (firsts-zipped x.kinds x.anchors hx.pairs) ∙ ap firsts p ∙ firsts-zipped y.kinds y.anchors hy.pairs) k

-- no line of a plan's text is broken
abbrev are_whole : List (List ℕ) → Bool
are_whole lines = list_all is_unbroken lines

numbered-whole : {X : Type 0} (lines : ℕ → X → List (List ℕ)) (shown : X → Bool) → ((k : ℕ) (x : X) → k < 10 ^ 64 → shown x ≡ true → are_whole (lines k x) ≡ true) → (k : ℕ) (xs : List X) → k + length xs < 10 ^ 64 → list_all shown xs ≡ true → are_whole (numbered lines k xs) ≡ true
numbered-whole lines shown each k [] low h = refl
numbered-whole lines shown each k (x ∷ xs) low h =
    let parts = and_parts (shown x) (list_all shown xs) h in
    list_all-append is_unbroken (lines k x) (numbered lines (suc k) xs) ∙ and_from (are_whole (lines k x)) (are_whole (numbered lines (suc k) xs)) (each k x (omega arith) parts.0) (numbered-whole lines shown each (suc k) xs (omega arith) parts.1)

one : (l : List ℕ) → is_unbroken l ≡ true → are_whole (l ∷ []) ≡ true
one l h = and_from (is_unbroken l) true h refl

low-32 : (n : ℕ) → is_32 n ≡ true → 1 + n < 10 ^ 64
low-32 n h = (let low : n < 2 ^ 32 = grind (arith, nat_tests) in omega arith)

low-64 : (n : ℕ) → is_64 n ≡ true → 1 + n < 10 ^ 64
low-64 n h = (let low : n < 2 ^ 64 = grind (arith, nat_tests) in omega arith)

certificate-whole : (k : ℕ) (c : Certificate) → k < 10 ^ 64 → is_certificate_shown c ≡ true → are_whole (cert_lines k c) ≡ true
certificate-whole k c low h =
    let parts = and_parts (is_64 (length c.steps)) (list_all is_step_shown c.steps) h in
    and_from (is_unbroken (cert_line k (length c.steps))) (are_whole (numbered (alone (λ n. step_line)) 1 c.steps)) ((steps-law k low).unbroken (length c.steps) parts.0)
    (numbered-whole (alone (λ n. step_line)) is_step_shown (λ j x low good. one (step_line x) (step-law.unbroken x good)) 1 c.steps (low-64 (length c.steps) parts.0) parts.1)

where-whole : (c : Conditions) → are_where_shown c ≡ true → are_whole (where_lines c) ≡ true
where-whole Values h = refl
where-whole (Rows rows) h =
    let parts = and_parts (is_32 (length rows)) (list_all is_row_shown rows) h in
    and_from (is_unbroken (count_line (codes "WHERE") (length rows))) (are_whole (numbered (alone row_line) 1 rows)) ((count_32-law (codes "WHERE") refl).unbroken (length rows) parts.0)
    (numbered-whole (alone row_line) is_row_shown (λ k x low good. one (row_line k x) ((row-law k low).unbroken x good)) 1 rows (low-32 (length rows) parts.0) parts.1)

conditions-whole : (v : Version) (c : Conditions) → are_conditions_shown v c ≡ true → are_whole (condition_lines v c) ≡ true
conditions-whole One c h = refl
conditions-whole Two c h = refl
conditions-whole Three c h = where-whole c h
conditions-whole Four c h = where-whole c h
conditions-whole Five c h = where-whole c h

both-whole : (a b : List (List ℕ)) → are_whole a ≡ true → are_whole b ≡ true → are_whole (a ++ b) ≡ true
both-whole a b h k = list_all-append is_unbroken a b ∙ and_from (are_whole a) (are_whole b) h k

pub plan-whole : (x : Plan) → HasText x → are_whole (plan_lines x) ≡ true
plan-whole x h =
    let ps = zipped x.kinds x.anchors in
    let phases = and_parts (is_32 (length ps)) (list_all is_phase_shown ps) h.phases in
    let certs = and_parts (is_64 (length x.certificates)) (list_all is_certificate_shown x.certificates) h.certificates in
    let ls = cut_loops x.cut in
    let shown = and_parts (is_32 (length ls)) (list_all (is_loop_shown x.version) ls) h.loops in
    let loops : are_whole (counted (codes "LOOPS") (alone loop_line) ls) ≡ true =
    and_from (is_unbroken (count_line (codes "LOOPS") (length ls))) (are_whole (numbered (alone loop_line) 1 ls)) ((count_32-law (codes "LOOPS") refl).unbroken (length ls) shown.0)
    (numbered-whole (alone loop_line) (is_loop_shown x.version) (λ k l low good. one (loop_line k l) ((loop-law x.version k low).unbroken l good)) 1 ls (low-32 (length ls) shown.0) shown.1) in
    let kinds : are_whole (counted (codes "PHASES") (alone phase_line) ps) ≡ true =
    and_from (is_unbroken (count_line (codes "PHASES") (length ps))) (are_whole (numbered (alone phase_line) 1 ps)) ((count_32-law (codes "PHASES") refl).unbroken (length ps) phases.0)
    (numbered-whole (alone phase_line) is_phase_shown (λ k p low good. one (phase_line k p) ((phase-law k low).unbroken p good)) 1 ps (low-32 (length ps) phases.0) phases.1) in
    let proofs : are_whole (counted (codes "CERTIFICATES") cert_lines x.certificates) ≡ true =
    and_from (is_unbroken (count_line (codes "CERTIFICATES") (length x.certificates))) (are_whole (numbered cert_lines 1 x.certificates)) ((count_64-law (codes "CERTIFICATES") refl).unbroken (length x.certificates) certs.0)
    (numbered-whole cert_lines is_certificate_shown certificate-whole 1 x.certificates (low-64 (length x.certificates) certs.0) certs.1) in
    and_from (is_unbroken (version_line x.version)) (are_whole (from_workers x)) (version-law.unbroken x.version refl)
    (and_from (is_unbroken (count_line (codes "WORKERS") x.workers)) (are_whole (from_conditions x)) ((count_32-law (codes "WORKERS") refl).unbroken x.workers h.workers)
    (both-whole (condition_lines x.version x.conditions) (from_loops x) (conditions-whole x.version x.conditions h.conditions)
    (both-whole (counted (codes "LOOPS") (alone loop_line) ls) (from_phases x) loops
    (both-whole (counted (codes "PHASES") (alone phase_line) ps) (from_certificates x) kinds
    (both-whole (counted (codes "CERTIFICATES") cert_lines x.certificates) (end_lines x) proofs refl)))))

-- a text that begins with another one has its lines first
text_lines : (a b : List (List ℕ)) (t : List ℕ) → are_whole a ≡ true → are_whole b ≡ true → text_of a ≡ text_of b ++ t → (l : List (List ℕ)) × (a ≡ b ++ l) × (t ≡ text_of l)
text_lines a [] t h k e = (a, refl, sym e)
text_lines [] (y ∷ b) t h k e = absurd (let long = ap length e in let all = length-append ((y ++ 10 ∷ []) ++ text_of b) t in let more = length-append (y ++ 10 ∷ []) (text_of b) in let last = length-append y (10 ∷ []) in omega (arith, long, all, more, last))
text_lines (x ∷ a) (y ∷ b) t h k e =
    let hx = and_parts (is_unbroken x) (are_whole a) h in
    let hy = and_parts (is_unbroken y) (are_whole b) k in
    let both : x ++ (10 ∷ text_of a) ≡ y ++ (10 ∷ (text_of b ++ t)) = sym (append_assoc x (10 ∷ []) (text_of a)) ∙ e ∙ append_assoc (y ++ 10 ∷ []) (text_of b) t ∙ append_assoc y (10 ∷ []) (text_of b ++ t) in
    let same = same_line x y (text_of a) (text_of b ++ t) hx.0 hy.0 both in
    let cut = append_cancel_left y (10 ∷ text_of a) (10 ∷ (text_of b ++ t)) (ap (λ z. z ++ (10 ∷ text_of a)) (sym same) ∙ both) in
    let rest : text_of a ≡ text_of b ++ t = cc in
    let more = text_lines a b t hx.1 hy.1 rest in
    (more.0, ap (λ z. z ∷ a) same ∙ ap (λ zs. y ∷ zs) more.1, more.2)

longer : (x y : Plan) (line : List ℕ) (more : List (List ℕ)) → HasText x → HasText y → plan_lines x ≡ plan_lines y ++ line ∷ more → ⊥
longer x y line more hx hy e =
    let same = plan-free x y [] (line ∷ more) hx hy (append-nil (plan_lines x) ∙ e) in
    let long = ap length e in
    let long' = ap (λ p. length (plan_lines p)) same in
    omega (arith, long, long', length-append (plan_lines y) (line ∷ more))

found_first : (bytes : List ℕ) (n : ℕ) (s : Stops plan_lines HasText bytes 0 n) (p : Plan) → HasText p → (l : List (List ℕ)) → plan_lines p ≡ s.front ++ l → s.behind ≡ text_of l → ⊥
found_first bytes n s p h [] is there = longer s.whole p s.next s.more s.shown h (s.opened ∙ ap (λ f. f ++ s.next ∷ s.more) (sym (is ∙ append-nil s.front)))
found_first bytes n s p h (line ∷ later) is there = s.alien p line later (text_of later) h is (there ∙ append_assoc line (10 ∷ []) (text_of later))

found_behind : (p q : Plan) (rest : List ℕ) → HasText p → HasText q → 0 < length rest → (l : List (List ℕ)) → plan_lines q ≡ plan_lines p ++ l → rest ≡ text_of l → ⊥
found_behind p q rest h hq some [] same there = (let none_left = ap length there in omega (arith, some, none_left))
found_behind p q rest h hq some (line ∷ later) same there = longer q p line later hq h same

-- a stop of the plan's text is at the first line that no plan's text has
pub first_alien : (bytes : List ℕ) (n : ℕ) → Stops plan_lines HasText bytes 0 n → IsFirstAlien bytes n
first_alien bytes n s = record {
  front = s.front;
  behind = s.behind;
  cut = s.cut;
  count = omega (arith, s.count);
  opens = (s.whole, s.shown, (s.next ∷ s.more, s.opened));
  alien = λ line rest cut opened. s.alien opened.0 line opened.2.0 rest opened.1 (opened.2.1 ∙ append_assoc s.front (line ∷ []) opened.2.0) cut;
  no_text = λ text. none text.0 text.1 text.2;
}
  where
    none : (p : Plan) → HasText p → bytes ≡ plan_text p → ⊥
    none p h e =
        let front = (and_parts (are_whole s.front) (are_whole (s.next ∷ s.more)) (sym (list_all-append is_unbroken s.front (s.next ∷ s.more)) ∙ ap are_whole (sym s.opened) ∙ plan-whole s.whole s.shown)).0 in
        let found = text_lines (plan_lines p) s.front s.behind (plan-whole p h) front (sym e ∙ s.cut) in
        found_first bytes n s p h found.0 found.1 found.2

-- bytes behind a plan's text
pub bytes_behind : (bytes : List ℕ) (p : Plan) (rest : List ℕ) (n : ℕ) → HasText p → bytes ≡ plan_text p ++ rest → 0 < length rest → n ≡ length (plan_lines p) + 1 → IsFirstAlien bytes n
bytes_behind bytes p rest n h is some count = record {
  front = plan_lines p;
  behind = rest;
  cut = is;
  count = sym count;
  opens = (p, h, ([], sym (append-nil (plan_lines p))));
  alien = λ line later cut opened. longer opened.0 p line opened.2.0 opened.1 h (opened.2.1 ∙ append_assoc (plan_lines p) (line ∷ []) opened.2.0);
  no_text = λ text. none text.0 text.1 text.2;
}
  where
    none : (q : Plan) → HasText q → bytes ≡ plan_text q → ⊥
    none q hq e =
        let found = text_lines (plan_lines q) (plan_lines p) rest (plan-whole q hq) (plan-whole p h) (sym e ∙ is) in
        found_behind p q rest h hq some found.0 found.1 found.2

refused_text : (bytes : List ℕ) (e : PlanSyntax) → RefusesPart plan_lines HasText bytes 0 e → RefusesText bytes e
refused_text bytes (Line n) s = first_alien bytes n s
refused_text bytes NoMemory s = tt

-- a refusal of all lines is one of the text
pub text_refused : (bytes rest : List ℕ) (taken : ℕ) (e : PlanSyntax) → rest ≡ bytes → taken ≡ 0 → RefusesPart plan_lines HasText rest taken e → RefusesText bytes e
text_refused bytes rest taken e is none r = refused_text bytes e (subst (λ t. RefusesPart plan_lines HasText bytes t e) none (subst (λ b. RefusesPart plan_lines HasText b taken e) is r))

-- a front of another plan's text is the whole one
pub text_front : (x y : Plan) (t : List ℕ) → HasText x → HasText y → plan_text x ≡ plan_text y ++ t → x ≡ y
text_front x y t hx hy e =
    let found = text_lines (plan_lines x) (plan_lines y) t (plan-whole x hx) (plan-whole y hy) e in
    plan-free x y [] found.0 hx hy (append-nil (plan_lines x) ∙ found.1)

-- and nothing stands behind it
pub text_whole : (x y : Plan) (t : List ℕ) → HasText x → HasText y → plan_text x ≡ plan_text y ++ t → t ≡ []
text_whole x y t hx hy e = append_cancel_left (plan_text y) t [] (sym e ∙ ap plan_text (text_front x y t hx hy e) ∙ sym (append-nil (plan_text y)))

-- of two fronts of a text, the longer one has the other one's lines first
split_text : (a b : List (List ℕ)) (r s : List ℕ) → are_whole a ≡ true → are_whole b ≡ true → length b ≤ length a → text_of a ++ r ≡ text_of b ++ s → (l : List (List ℕ)) × (a ≡ b ++ l) × (s ≡ text_of l ++ r)
split_text a [] r s h k low e = (a, refl, sym e)
split_text [] (y ∷ b) r s h k low e = absurd (omega (arith, low))
split_text (x ∷ a) (y ∷ b) r s h k low e =
    let hx = and_parts (is_unbroken x) (are_whole a) h in
    let hy = and_parts (is_unbroken y) (are_whole b) k in
    let both : x ++ (10 ∷ (text_of a ++ r)) ≡ y ++ (10 ∷ (text_of b ++ s)) = sym (append_assoc (x ++ 10 ∷ []) (text_of a) r ∙ append_assoc x (10 ∷ []) (text_of a ++ r)) ∙ e ∙ append_assoc (y ++ 10 ∷ []) (text_of b) s ∙ append_assoc y (10 ∷ []) (text_of b ++ s) in
    let same = same_line x y (text_of a ++ r) (text_of b ++ s) hx.0 hy.0 both in
    let cut = append_cancel_left y (10 ∷ (text_of a ++ r)) (10 ∷ (text_of b ++ s)) (ap (λ z. z ++ (10 ∷ (text_of a ++ r))) (sym same) ∙ both) in
    let rest : text_of a ++ r ≡ text_of b ++ s = cc in
    let more = split_text a b r s hx.1 hy.1 (omega (arith, low)) rest in
    (more.0, ap (λ z. z ∷ a) same ∙ ap (λ zs. y ∷ zs) more.1, more.2)

open-whole : (front : List (List ℕ)) → Opens front → are_whole front ≡ true
open-whole front o = (and_parts (are_whole front) (are_whole o.2.0) (sym (list_all-append is_unbroken front o.2.0) ∙ ap are_whole (sym o.2.1) ∙ plan-whole o.0 o.1)).0

found_alien : (bytes : List ℕ) (m n : ℕ) (u : IsFirstAlien bytes m) (v : IsFirstAlien bytes n) → m < n → (l : List (List ℕ)) → v.front ≡ u.front ++ l → u.behind ≡ text_of l ++ v.behind → ⊥
found_alien bytes m n u v low [] is there = (let long = ap length (is ∙ append-nil u.front) in omega (arith, long, u.count, v.count, low))
found_alien bytes m n u v low (line ∷ later) is there =
    u.alien line (text_of later ++ v.behind) (there ∙ append_assoc (line ++ 10 ∷ []) (text_of later) v.behind ∙ append_assoc line (10 ∷ []) (text_of later ++ v.behind))
    (v.opens.0, v.opens.1, (later ++ v.opens.2.0, v.opens.2.1 ∙ ap (λ f. f ++ v.opens.2.0) is ∙ append_assoc u.front (line ∷ later) v.opens.2.0 ∙ sym (append_assoc u.front (line ∷ []) (later ++ v.opens.2.0))))

earlier : (bytes : List ℕ) (m n : ℕ) → IsFirstAlien bytes m → IsFirstAlien bytes n → m < n → ⊥
earlier bytes m n u v low =
    let found = split_text v.front u.front v.behind u.behind (open-whole v.front v.opens) (open-whole u.front u.opens) (omega (arith, u.count, v.count, low)) (sym v.cut ∙ u.cut) in
    found_alien bytes m n u v low found.0 found.1 found.2

-- there is one first alien line at most
pub one_alien : (bytes : List ℕ) (m n : ℕ) → IsFirstAlien bytes m → IsFirstAlien bytes n → m ≡ n
one_alien bytes m n u v = by_order (nat_lt m n) (nat_lt n m) refl refl
  where
    by_order : (a b : Bool) → nat_lt m n ≡ a → nat_lt n m ≡ b → m ≡ n
    by_order true b is other = absurd (earlier bytes m n u v (grind (arith, nat_tests)))
    by_order false true is other = absurd (earlier bytes n m v u (grind (arith, nat_tests)))
    by_order false false is other = grind (arith, nat_tests)

-- a plan's text is read as the plan
pub read_back : (x : Plan) (r : Result Plan PlanSyntax) → HasText x → IfOk r HasText → IfOk r (λ y. plan_text x ≡ plan_text y) → IfErr r (RefusesText (plan_text x)) → (r ≡ Ok x) ⊎ (r ≡ Err NoMemory)
read_back x (Ok y) h shown same refused = inl (ap (λ z. Ok z) (sym (text_front x y [] h shown (same ∙ sym (append-nil (plan_text y))))))
read_back x (Err NoMemory) h shown same refused = inr refl
read_back x (Err (Line n)) h shown same refused = absurd (refused.no_text (x, h, refl))
