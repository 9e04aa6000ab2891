-- The text of a plan, and the plans that have one.
use Rattle.std.specs.Prelude.{ℕ, suc, ◌≡◌, Bool, true, false, not, ◌&&◌, ◌||◌, ◌==◌, nat_lt, List, [], ◌∷◌, ◌++◌, length, codes}
use Rattle.std.specs.List.{flat_map, list_all}
use Rattle.std.specs.Option.{option_map_or}
use Rattle.farkas_cert.specs.declared.certificate.Certificate.{Certificate}
use Rattle.nest_tree.specs.Form.{Form, is_form, is_small, rises_above}
use Rattle.owner_partition.specs.declared.anchor.Anchor.{Anchor}
use Rattle.owner_partition.specs.Cuts.{Cutting}
use Rattle.owner_partition.specs.Marks.{is_doall, is_sum_mark}
use Rattle.owner_partition.specs.declared.cut.Mark.{Mark}
use Rattle.sync_plan.specs.Shape.{has_privates, has_sums}
use Rattle.sync_plan.specs.declared.plan.ConditionRow.{ConditionRow}
use Rattle.sync_plan.specs.declared.plan.Conditions.{Conditions}
use Rattle.sync_plan.specs.declared.plan.Conditions.TheVariants.{Values, Rows}
use Rattle.sync_plan.specs.declared.plan.Kind.{Kind}
use Rattle.sync_plan.specs.declared.plan.Plan.{Plan}
use Rattle.sync_plan.specs.declared.plan.Version.{Version}
use Rattle.sync_plan.specs.declared.plan.Version.TheVariants.{One, Two, Three, Four, Five}
use Rattle.sync_plan.specs.Kinds.{anchor_in}
pub use Rattle.sync_plan.specs.Numbers.{is_32, is_64, is_128, is_certificate_shown, is_dist_shown, is_step_shown}
use Rattle.plan_text.specs.Words.{version_line, count_line, loop_line, phase_line, row_line, cert_line, step_line}

-- items with their lines, numbered from this number on
abbrev pub numbered : {X : Type 0} → (ℕ → X → List (List ℕ)) → ℕ → List X → List (List ℕ)
numbered lines k [] = []
numbered lines k (x ∷ xs) = lines k x ++ numbered lines (suc k) xs

-- a line with the number of items, and they
abbrev pub headed : {X : Type 0} → (ℕ → List ℕ) → (ℕ → X → List (List ℕ)) → List X → List (List ℕ)
headed head lines xs = head (length xs) ∷ numbered lines 1 xs

abbrev pub counted : {X : Type 0} → List ℕ → (ℕ → X → List (List ℕ)) → List X → List (List ℕ)
counted word lines xs = headed (count_line word) lines xs

-- one line
abbrev pub alone : {X : Type 0} → (ℕ → X → List ℕ) → ℕ → X → List (List ℕ)
alone line k x = line k x ∷ []

-- the conditions of a version that has them
abbrev pub where_lines : Conditions → List (List ℕ)
where_lines Values = codes "WHERE VALUES" ∷ []
where_lines (Rows rows) = counted (codes "WHERE") (alone row_line) rows

abbrev pub condition_lines : Version → Conditions → List (List ℕ)
condition_lines One c = []
condition_lines Two c = []
condition_lines Three c = where_lines c
condition_lines Four c = where_lines c
condition_lines Five c = where_lines c

-- two lists side by side, as far as both go
abbrev pub zipped : {X Y : Type 0} → List X → List Y → List (X × Y)
zipped [] ys = []
zipped (x ∷ xs) [] = []
zipped (x ∷ xs) (y ∷ ys) = (x, y) ∷ zipped xs ys

-- a certificate: its number with the number of its steps, and these
abbrev pub cert_lines : ℕ → Certificate → List (List ℕ)
cert_lines k c = headed (cert_line k) (alone (λ n. step_line)) c.steps

-- the version, the workers and the conditions
abbrev pub head_lines : Plan → List (List ℕ)
head_lines plan = version_line plan.version
    ∷ (count_line (codes "WORKERS") plan.workers ∷ condition_lines plan.version plan.conditions)

-- each loop's mark and its private scalars
abbrev pub cut_loops : Cutting → List (Mark × List ℕ)
cut_loops cut = zipped cut.marks cut.privates

-- the lines of a plan's text
abbrev pub plan_lines : Plan → List (List ℕ)
plan_lines plan =
    head_lines plan
    ++ (counted (codes "LOOPS") (alone loop_line) (cut_loops plan.cut)
    ++ (counted (codes "PHASES") (alone phase_line) (zipped plan.kinds plan.anchors)
    ++ (counted (codes "CERTIFICATES") cert_lines plan.certificates
    ++ codes "END PLAN" ∷ [])))

-- each with a line feed behind it
abbrev pub text_of : List (List ℕ) → List ℕ
text_of lines = flat_map (λ l. l ++ 10 ∷ []) lines

abbrev pub plan_text : Plan → List ℕ
plan_text plan = text_of (plan_lines plan)

-- a form in its one way of writing, whose numbers their types hold; an anchor, and that of a kind, if it has one
abbrev pub is_form_shown : Form → Bool
is_form_shown f =
    is_form f && list_all (λ p. is_32 p.0) f.loops && list_all (λ p. is_32 p.0) f.params

abbrev pub is_anchor_shown : Anchor → Bool
is_anchor_shown a = is_form_shown a.form && is_dist_shown a.dist

abbrev pub is_kind_shown : Kind → Bool
is_kind_shown kind = option_map_or is_anchor_shown (anchor_in kind) true

abbrev pub is_phase_shown : Kind × Anchor → Bool
is_phase_shown p = is_kind_shown p.0 && is_anchor_shown p.1

-- a row of conditions names a named constant at least, by rising numbers, with numbers as a form has them
abbrev pub is_row_shown : ConditionRow → Bool
is_row_shown row = nat_lt 0 (length row.coefs) && rises_above 0 row.coefs
    && list_all (λ p. is_32 p.0) row.coefs && is_small row.bound

abbrev pub are_where_shown : Conditions → Bool
are_where_shown Values = true
are_where_shown (Rows rows) = is_32 (length rows) && list_all is_row_shown rows

abbrev pub are_conditions_shown : Version → Conditions → Bool
are_conditions_shown One Values = true
are_conditions_shown One (Rows rows) = false
are_conditions_shown Two Values = true
are_conditions_shown Two (Rows rows) = false
are_conditions_shown Three c = are_where_shown c
are_conditions_shown Four c = are_where_shown c
are_conditions_shown Five c = are_where_shown c

abbrev pub are_phases_shown : List (Kind × Anchor) → Bool
are_phases_shown phases = is_32 (length phases) && list_all is_phase_shown phases

abbrev pub are_certificates_shown : List Certificate → Bool
are_certificates_shown cs = is_64 (length cs) && list_all is_certificate_shown cs

-- a version shows a loop: it has Sum loops, and private scalars where a loop's trips are dealt out
abbrev pub has_loop : Version → Mark × List ℕ → Bool
has_loop version l = (not (is_sum_mark l.0) || has_sums version)
    && (length l.1 == 0 || (has_privates version && is_doall l.0))

abbrev pub is_loop_shown : Version → Mark × List ℕ → Bool
is_loop_shown version l = has_loop version l && list_all is_32 l.1

abbrev pub are_loops_shown : Version → List (Mark × List ℕ) → Bool
are_loops_shown version loops = is_32 (length loops) && list_all (is_loop_shown version) loops

-- the plan's version shows it in full, with numbers in their ranges
pub record HasText (plan : Plan) : Type 0 where
  pub workers : is_32 plan.workers ≡ true
  pub conditions : are_conditions_shown plan.version plan.conditions ≡ true
  pub lists : length plan.cut.marks ≡ length plan.cut.privates
  pub loops : are_loops_shown plan.version (cut_loops plan.cut) ≡ true
  pub pairs : length plan.kinds ≡ length plan.anchors
  pub phases : are_phases_shown (zipped plan.kinds plan.anchors) ≡ true
  pub certificates : are_certificates_shown plan.certificates ≡ true

-- private scalars for each mark, and a kind for each anchor; and the conditions, the loops and the phases are as many as its version shows
pub record HasCounts (plan : Plan) : Type 0 where
  pub conditions : are_conditions_shown plan.version plan.conditions ≡ true
  pub lists : length plan.cut.marks ≡ length plan.cut.privates
  pub loops : is_32 (length plan.cut.marks) ≡ true
  pub pairs : length plan.kinds ≡ length plan.anchors
  pub phases : is_32 (length plan.kinds) ≡ true

-- these bytes are the text of a plan
abbrev pub IsPlanText : List ℕ → Type 0
IsPlanText bytes = (plan : Plan) × HasText plan × (bytes ≡ plan_text plan)
