-- A stop in one part of a plan's text is a stop of the plan's text.
use Rattle.std.proofs.Common.{◌≡◌, ℕ, ◌+◌, true, List, [], ◌∷◌, ◌++◌, length, refl, sym, ap, ◌∙◌, append_assoc, length-append, codes, arith}
use Rattle.std.proofs.lemmas.List.Concat.{flat_map-append}
use Rattle.farkas_cert.specs.declared.certificate.Certificate.{Certificate}
use Rattle.owner_partition.specs.declared.anchor.Anchor.{Anchor}
use Rattle.owner_partition.specs.declared.cut.Mark.{Mark}
use Rattle.sync_plan.specs.declared.plan.Conditions.{Conditions}
use Rattle.sync_plan.specs.declared.plan.Conditions.TheVariants.{Values, Rows}
use Rattle.sync_plan.specs.declared.plan.Kind.{Kind}
use Rattle.sync_plan.specs.declared.plan.Plan.{Plan}
use Rattle.sync_plan.specs.declared.plan.Version.{Version}
use Rattle.sync_plan.specs.declared.plan.Version.TheVariants.{One, Two, Three, Four, Five}
use Rattle.plan_text.specs.declared.syntax.PlanSyntax.{PlanSyntax}
use Rattle.plan_text.specs.declared.syntax.PlanSyntax.TheVariants.{Line, NoMemory}
use Rattle.plan_text.specs.Loose.{end_line}
use Rattle.plan_text.specs.Parts.{plan_of}
use Rattle.plan_text.specs.PlanText.{HasText, alone, are_certificates_shown, are_conditions_shown, are_loops_shown, are_phases_shown, cert_lines, condition_lines, counted, cut_loops, is_32, plan_lines, text_of, zipped}
use Rattle.plan_text.specs.Stops.{IsAlienLine, RefusesLine, RefusesPart, Stops}
use Rattle.plan_text.specs.Words.{count_line, loop_line, phase_line, version_line}
use Rattle.plan_text.proofs.Items.{line_refused, one_line}
use Rattle.plan_text.proofs.Plans.{cut-free, end_lines, from_certificates, from_conditions, from_loops, from_phases, from_workers, kinds-free, plan_of-shown, proofs-free, version-free, where-free, workers-free, zip-unzip}
use Rattle.plan_text.proofs.Stopping.{IsFree, stops_first, stops_second}
use Rattle.plan_text.proofs.Counts.{values-shown}

refusal_map : {X Y : Type 0} (F : X → List (List ℕ)) (V : X → Type 0) (rest : List ℕ) (taken : ℕ) (G : Y → List (List ℕ)) (W : Y → Type 0) (later : List ℕ) (now : ℕ) → ((n : ℕ) → Stops F V rest taken n → Stops G W later now n) →
    (e : PlanSyntax) → RefusesPart F V rest taken e → RefusesPart G W later now e
refusal_map F V rest taken G W later now f NoMemory h = tt
refusal_map F V rest taken G W later now f (Line n) h = f n h

pub conditions-free : (v : Version) → IsFree (condition_lines v) (λ c. are_conditions_shown v c ≡ true)
conditions-free One Values Values r s h h' e = refl
conditions-free One Values (Rows rows) r s h h' e = absurd (cc)
conditions-free One (Rows rows) c r s h h' e = absurd (cc)
conditions-free Two Values Values r s h h' e = refl
conditions-free Two Values (Rows rows) r s h h' e = absurd (cc)
conditions-free Two (Rows rows) c r s h h' e = absurd (cc)
conditions-free Three x y r s h h' e = where-free x y r s h h' e
conditions-free Four x y r s h h' e = where-free x y r s h h' e
conditions-free Five x y r s h h' e = where-free x y r s h h' e

-- plans that have the parts that were read
abbrev V1 : Version → Plan → Type 0
V1 v x = HasText x × (x.version ≡ v)

abbrev V2 : Version → ℕ → Plan → Type 0
V2 v w x = V1 v x × (x.workers ≡ w)

abbrev V3 : Version → ℕ → Conditions → Plan → Type 0
V3 v w c x = V2 v w x × (x.conditions ≡ c)

abbrev V4 : Version → ℕ → Conditions → List (Mark × List ℕ) → Plan → Type 0
V4 v w c ls x = V3 v w c x × (cut_loops x.cut ≡ ls)

abbrev V5 : Version → ℕ → Conditions → List (Mark × List ℕ) → List (Kind × Anchor) → Plan → Type 0
V5 v w c ls ps x = V4 v w c ls x × (zipped x.kinds x.anchors ≡ ps)

abbrev V6 : Version → ℕ → Conditions → List (Mark × List ℕ) → List (Kind × Anchor) → List Certificate → Plan → Type 0
V6 v w c ls ps cs x = V5 v w c ls ps x × (x.certificates ≡ cs)

module _ (b0 : List ℕ) (t0 : ℕ) where
  pub stop0 : (e : PlanSyntax) → RefusesLine version_line (λ v. true) b0 t0 e → RefusesPart plan_lines HasText b0 t0 e
  stop0 e h = refusal_map (λ v. version_line v ∷ []) (λ v. true ≡ true) b0 t0 plan_lines HasText b0 t0
      (stops_first plan_lines HasText (λ p. p.version) (λ v. version_line v ∷ []) (λ v. true ≡ true) from_workers (λ x good. refl) (λ x good. refl) version-free
      (λ v. plan_of v 0 Values [] [] []) (λ v good. plan_of-shown v 0 Values [] [] [] refl (values-shown v) refl refl refl) (λ v. refl) b0 t0)
      e (line_refused version_line (λ v. true) One refl b0 t0 e h)

  module _ (v : Version) (b1 : List ℕ) (t1 : ℕ) (is0 : b0 ≡ version_line v ++ (10 ∷ b1)) (next0 : t1 ≡ t0 + 1) where
    up1 : (n : ℕ) → Stops from_workers (V1 v) b1 t1 n → Stops plan_lines HasText b0 t0 n
    up1 n = stops_second plan_lines HasText (λ p. p.version) (λ v. version_line v ∷ []) (λ v. true ≡ true) from_workers (λ x good. refl) (λ x good. refl) version-free v refl b0 b1 t0 t1 n (is0 ∙ one_line (version_line v) b1) next0

    pub stop1 : (e : PlanSyntax) → RefusesLine (count_line (codes "WORKERS")) is_32 b1 t1 e → RefusesPart plan_lines HasText b0 t0 e
    stop1 e h = refusal_map (λ n. count_line (codes "WORKERS") n ∷ []) (λ n. is_32 n ≡ true) b1 t1 plan_lines HasText b0 t0
        (λ n s. up1 n (stops_first from_workers (V1 v) (λ p. p.workers) (λ n. count_line (codes "WORKERS") n ∷ []) (λ n. is_32 n ≡ true) from_conditions (λ x good. refl) (λ x good. good.0.workers) workers-free
        (λ w. plan_of v w Values [] [] []) (λ w good. (plan_of-shown v w Values [] [] [] good (values-shown v) refl refl refl, refl)) (λ w. refl) b1 t1 n s))
        e (line_refused (count_line (codes "WORKERS")) is_32 0 refl b1 t1 e h)

    module _ (w : ℕ) (hw : is_32 w ≡ true) (b2 : List ℕ) (t2 : ℕ) (is1 : b1 ≡ count_line (codes "WORKERS") w ++ (10 ∷ b2)) (next1 : t2 ≡ t1 + 1) where
      up2 : (n : ℕ) → Stops from_conditions (V2 v w) b2 t2 n → Stops plan_lines HasText b0 t0 n
      up2 n s = up1 n (stops_second from_workers (V1 v) (λ p. p.workers) (λ n. count_line (codes "WORKERS") n ∷ []) (λ n. is_32 n ≡ true) from_conditions (λ x good. refl) (λ x good. good.0.workers) workers-free w hw b1 b2 t1 t2 n (is1 ∙ one_line (count_line (codes "WORKERS") w) b2) next1 s)

      split2 : (x : Plan) → V2 v w x → from_conditions x ≡ condition_lines v x.conditions ++ from_loops x
      split2 x good = ap (λ u. condition_lines u x.conditions ++ from_loops x) good.0.1

      parts2 : (x : Plan) → V2 v w x → are_conditions_shown v x.conditions ≡ true
      parts2 x good = sym (ap (λ u. are_conditions_shown u x.conditions) good.0.1) ∙ good.0.0.conditions

      pub stop2 : (e : PlanSyntax) → RefusesPart (condition_lines v) (λ c. are_conditions_shown v c ≡ true) b2 t2 e → RefusesPart plan_lines HasText b0 t0 e
      stop2 = refusal_map (condition_lines v) (λ c. are_conditions_shown v c ≡ true) b2 t2 plan_lines HasText b0 t0
          (λ n s. up2 n (stops_first from_conditions (V2 v w) (λ p. p.conditions) (condition_lines v) (λ c. are_conditions_shown v c ≡ true) from_loops split2 parts2 (conditions-free v)
          (λ c. plan_of v w c [] [] []) (λ c good. ((plan_of-shown v w c [] [] [] hw good refl refl refl, refl), refl)) (λ c. refl) b2 t2 n s))

      module _ (c : Conditions) (hc : are_conditions_shown v c ≡ true) (b3 : List ℕ) (t3 : ℕ) (is2 : b2 ≡ text_of (condition_lines v c) ++ b3) (next2 : t3 ≡ t2 + length (condition_lines v c)) where
        up3 : (n : ℕ) → Stops from_loops (V3 v w c) b3 t3 n → Stops plan_lines HasText b0 t0 n
        up3 n s = up2 n (stops_second from_conditions (V2 v w) (λ p. p.conditions) (condition_lines v) (λ c. are_conditions_shown v c ≡ true) from_loops split2 parts2 (conditions-free v) c hc b2 b3 t2 t3 n is2 next2 s)

        parts3 : (x : Plan) → V3 v w c x → are_loops_shown v (cut_loops x.cut) ≡ true
        parts3 x good = sym (ap (λ u. are_loops_shown u (cut_loops x.cut)) good.0.0.1) ∙ good.0.0.0.loops

        pub stop3 : (e : PlanSyntax) → RefusesPart (counted (codes "LOOPS") (alone loop_line)) (λ ls. are_loops_shown v ls ≡ true) b3 t3 e → RefusesPart plan_lines HasText b0 t0 e
        stop3 = refusal_map (counted (codes "LOOPS") (alone loop_line)) (λ ls. are_loops_shown v ls ≡ true) b3 t3 plan_lines HasText b0 t0
            (λ n s. up3 n (stops_first from_loops (V3 v w c) (λ p. cut_loops p.cut) (counted (codes "LOOPS") (alone loop_line)) (λ ls. are_loops_shown v ls ≡ true) from_phases (λ x good. refl) parts3 (cut-free v)
            (λ ls. plan_of v w c ls [] []) (λ ls good. (((plan_of-shown v w c ls [] [] hw hc good refl refl, refl), refl), refl)) zip-unzip b3 t3 n s))

        module _ (ls : List (Mark × List ℕ)) (hl : are_loops_shown v ls ≡ true) (b4 : List ℕ) (t4 : ℕ) (is3 : b3 ≡ text_of (counted (codes "LOOPS") (alone loop_line) ls) ++ b4) (next3 : t4 ≡ t3 + length (counted (codes "LOOPS") (alone loop_line) ls)) where
          up4 : (n : ℕ) → Stops from_phases (V4 v w c ls) b4 t4 n → Stops plan_lines HasText b0 t0 n
          up4 n s = up3 n (stops_second from_loops (V3 v w c) (λ p. cut_loops p.cut) (counted (codes "LOOPS") (alone loop_line)) (λ ls. are_loops_shown v ls ≡ true) from_phases (λ x good. refl) parts3 (cut-free v) ls hl b3 b4 t3 t4 n is3 next3 s)

          pub stop4 : (e : PlanSyntax) → RefusesPart (counted (codes "PHASES") (alone phase_line)) (λ ps. are_phases_shown ps ≡ true) b4 t4 e → RefusesPart plan_lines HasText b0 t0 e
          stop4 = refusal_map (counted (codes "PHASES") (alone phase_line)) (λ ps. are_phases_shown ps ≡ true) b4 t4 plan_lines HasText b0 t0
              (λ n s. up4 n (stops_first from_phases (V4 v w c ls) (λ p. zipped p.kinds p.anchors) (counted (codes "PHASES") (alone phase_line)) (λ ps. are_phases_shown ps ≡ true) from_certificates (λ x good. refl) (λ x good. good.0.0.0.0.phases) kinds-free
              (λ ps. plan_of v w c ls ps []) (λ ps good. ((((plan_of-shown v w c ls ps [] hw hc hl good refl, refl), refl), refl), zip-unzip ls)) zip-unzip b4 t4 n s))

          module _ (ps : List (Kind × Anchor)) (hp : are_phases_shown ps ≡ true) (b5 : List ℕ) (t5 : ℕ) (is4 : b4 ≡ text_of (counted (codes "PHASES") (alone phase_line) ps) ++ b5) (next4 : t5 ≡ t4 + length (counted (codes "PHASES") (alone phase_line) ps)) where
            up5 : (n : ℕ) → Stops from_certificates (V5 v w c ls ps) b5 t5 n → Stops plan_lines HasText b0 t0 n
            up5 n s = up4 n (stops_second from_phases (V4 v w c ls) (λ p. zipped p.kinds p.anchors) (counted (codes "PHASES") (alone phase_line)) (λ ps. are_phases_shown ps ≡ true) from_certificates (λ x good. refl) (λ x good. good.0.0.0.0.phases) kinds-free ps hp b4 b5 t4 t5 n is4 next4 s)

            pub stop5 : (e : PlanSyntax) → RefusesPart (counted (codes "CERTIFICATES") cert_lines) (λ cs. are_certificates_shown cs ≡ true) b5 t5 e → RefusesPart plan_lines HasText b0 t0 e
            stop5 = refusal_map (counted (codes "CERTIFICATES") cert_lines) (λ cs. are_certificates_shown cs ≡ true) b5 t5 plan_lines HasText b0 t0
                (λ n s. up5 n (stops_first from_certificates (V5 v w c ls ps) (λ p. p.certificates) (counted (codes "CERTIFICATES") cert_lines) (λ cs. are_certificates_shown cs ≡ true) end_lines (λ x good. refl) (λ x good. good.0.0.0.0.0.certificates) proofs-free
                (λ cs. plan_of v w c ls ps cs) (λ cs good. (((((plan_of-shown v w c ls ps cs hw hc hl hp good, refl), refl), refl), zip-unzip ls), zip-unzip ps)) (λ cs. refl) b5 t5 n s))

            module _ (cs : List Certificate) (hs : are_certificates_shown cs ≡ true) (b6 : List ℕ) (t6 : ℕ) (is5 : b5 ≡ text_of (counted (codes "CERTIFICATES") cert_lines cs) ++ b6) (next5 : t6 ≡ t5 + length (counted (codes "CERTIFICATES") cert_lines cs)) where
              up6 : (n : ℕ) → Stops end_lines (V6 v w c ls ps cs) b6 t6 n → Stops plan_lines HasText b0 t0 n
              up6 n s = up5 n (stops_second from_certificates (V5 v w c ls ps) (λ p. p.certificates) (counted (codes "CERTIFICATES") cert_lines) (λ cs. are_certificates_shown cs ≡ true) end_lines (λ x good. refl) (λ x good. good.0.0.0.0.0.certificates) proofs-free cs hs b5 b6 t5 t6 n is5 next5 s)

              end_stop : (n : ℕ) → n ≡ t6 + 1 → IsAlienLine end_line (λ u. true) b6 → Stops end_lines (V6 v w c ls ps cs) b6 t6 n
              end_stop n is alien = record {
                front = [];
                behind = b6;
                cut = refl;
                count = omega (arith, is);
                whole = plan_of v w c ls ps cs;
                shown = ((((((plan_of-shown v w c ls ps cs hw hc hl hp hs, refl), refl), refl), zip-unzip ls), zip-unzip ps), refl);
                next = codes "END PLAN";
                more = [];
                opened = refl;
                alien = λ x line later after good e cut. (let first : codes "END PLAN" ≡ line = cc in alien tt after refl (cut ∙ ap (λ l. l ++ (10 ∷ after)) (sym first)));
              }

              pub stop6 : (e : PlanSyntax) → RefusesLine end_line (λ u. true) b6 t6 e → RefusesPart plan_lines HasText b0 t0 e
              stop6 NoMemory h = tt
              stop6 (Line n) h = up6 n (end_stop n h.0 h.1)

-- text behind text
behind : (a b : List (List ℕ)) (x y z : List ℕ) → x ≡ text_of a ++ y → y ≡ text_of b ++ z → x ≡ text_of (a ++ b) ++ z
behind a b x y z p q = p ∙ ap (λ t. text_of a ++ t) q ∙ sym (append_assoc (text_of a) (text_of b) z) ∙ ap (λ t. t ++ z) (sym (flat_map-append (λ l. l ++ 10 ∷ []) a b))

-- all parts make the text of a plan
pub all_read : (v : Version) (w : ℕ) (c : Conditions) (ls : List (Mark × List ℕ)) (ps : List (Kind × Anchor)) (cs : List Certificate) (b0 b1 b2 b3 b4 b5 b6 b7 : List ℕ) →
    b0 ≡ version_line v ++ (10 ∷ b1) → b1 ≡ count_line (codes "WORKERS") w ++ (10 ∷ b2) → b2 ≡ text_of (condition_lines v c) ++ b3 → b3 ≡ text_of (counted (codes "LOOPS") (alone loop_line) ls) ++ b4 →
    b4 ≡ text_of (counted (codes "PHASES") (alone phase_line) ps) ++ b5 → b5 ≡ text_of (counted (codes "CERTIFICATES") cert_lines cs) ++ b6 → b6 ≡ codes "END PLAN" ++ (10 ∷ b7) → b0 ≡ text_of (plan_lines (plan_of v w c ls ps cs)) ++ b7
all_read v w c ls ps cs b0 b1 b2 b3 b4 b5 b6 b7 p0 p1 p2 p3 p4 p5 p6 =
    let x : Plan = plan_of v w c ls ps cs in
    let q5 = behind (counted (codes "CERTIFICATES") cert_lines cs) (end_lines x) b5 b6 b7 p5 (p6 ∙ one_line (codes "END PLAN") b7) in
    let p4' = p4 ∙ ap (λ qs. text_of (counted (codes "PHASES") (alone phase_line) qs) ++ b5) (sym (zip-unzip ps)) in
    let q4 = behind (counted (codes "PHASES") (alone phase_line) (zipped x.kinds x.anchors)) (from_certificates x) b4 b5 b7 p4' q5 in
    let p3' = p3 ∙ ap (λ qs. text_of (counted (codes "LOOPS") (alone loop_line) qs) ++ b4) (sym (zip-unzip ls)) in
    let q3 = behind (counted (codes "LOOPS") (alone loop_line) (cut_loops x.cut)) (from_phases x) b3 b4 b7 p3' q4 in
    let q2 = behind (condition_lines v c) (from_loops x) b2 b3 b7 p2 q3 in
    let q1 = behind (count_line (codes "WORKERS") w ∷ []) (from_conditions x) b1 b2 b7 (p1 ∙ one_line (count_line (codes "WORKERS") w) b2) q2 in
    behind (version_line v ∷ []) (from_workers x) b0 b1 b7 (p0 ∙ one_line (version_line v) b1) q1

pub all_counted : (v : Version) (w : ℕ) (c : Conditions) (ls : List (Mark × List ℕ)) (ps : List (Kind × Anchor)) (cs : List Certificate) (t0 t1 t2 t3 t4 t5 t6 t7 : ℕ) →
    t1 ≡ t0 + 1 → t2 ≡ t1 + 1 → t3 ≡ t2 + length (condition_lines v c) → t4 ≡ t3 + length (counted (codes "LOOPS") (alone loop_line) ls) → t5 ≡ t4 + length (counted (codes "PHASES") (alone phase_line) ps) →
    t6 ≡ t5 + length (counted (codes "CERTIFICATES") cert_lines cs) → t7 ≡ t6 + 1 → t7 ≡ t0 + length (plan_lines (plan_of v w c ls ps cs))
all_counted v w c ls ps cs t0 t1 t2 t3 t4 t5 t6 t7 p0 p1 p2 p3 p4 p5 p6 =
    let x : Plan = plan_of v w c ls ps cs in
    let l2 = length-append (condition_lines v c) (from_loops x) in
    let l3 = length-append (counted (codes "LOOPS") (alone loop_line) (cut_loops x.cut)) (from_phases x) in
    let l4 = length-append (counted (codes "PHASES") (alone phase_line) (zipped x.kinds x.anchors)) (from_certificates x) in
    let l5 = length-append (counted (codes "CERTIFICATES") cert_lines cs) (end_lines x) in
    let same = ap (λ qs. length (counted (codes "PHASES") (alone phase_line) qs)) (zip-unzip ps) in
    let same_loops = ap (λ qs. length (counted (codes "LOOPS") (alone loop_line) qs)) (zip-unzip ls) in
    omega (arith, l2, l3, l4, l5, same, same_loops, p0, p1, p2, p3, p4, p5, p6)
