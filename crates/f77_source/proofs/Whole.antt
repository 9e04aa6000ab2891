-- What holds of the program that bytes stand for.
use Rattle.std.proofs.Common.{◌≡◌, ℕ, ◌<◌, nat_lt, ℤ, true, ◌&&◌, List, [], ◌∷◌, ◌++◌, Option, Some, None, Ok, refl, ap, ◌∙◌, arith}
use Rattle.std.proofs.lemmas.Bool.{and_from, lt-ltb}
use Rattle.std.specs.List.{list_all}
use Rattle.nest_tree.specs.Tree.{Tree}
use Rattle.nest_tree.specs.WellFormed.{IsWellFormed, are_good_statements, is_good_constant, is_good_declaration, most_statements, scope_of, statement_count}
use Rattle.nest_tree.proofs.FirstLimits.{neither}
use Rattle.f77_forms.specs.Form.{end}
use Rattle.f77_lines.proofs.Ended.{listed-end}
use Rattle.f77_lines.specs.Columns.{lines_of}
use Rattle.f77_lines.specs.Listing.{entries_of, first_line_fault, size_to_end}
use Rattle.f77_lines.specs.declared.refusal.LineRefusal.{LineRefusal}
use Rattle.f77_scene.specs.Reading.{Reads, SourceStatement, as_refusal, bad_setting_from, directives_of, fault_from, first_fault_in, given_with, last_scene, statements_in, variables_of}
use Rattle.f77_scene.specs.Scene.{Name, constant_names, first_scene}
use Rattle.f77_scene.specs.Trees.{first_body}
use Rattle.f77_source.proofs.Counted.{counted_end, listed_end}
use Rattle.f77_source.proofs.Declared.{declarations-good, first_kept, kept_from}
use Rattle.f77_source.proofs.Nested.{ended-good}
use Rattle.f77_source.proofs.Valued.{AreValues, all_spoken, from_values}

no_refusal : (o : Option LineRefusal) → as_refusal o ≡ None → o ≡ None
no_refusal None h = refl
no_refusal (Some r) h = absurd cc

-- statements without fault, of which the last is END
record AreWhole (ps : List SourceStatement) (settings : List (Name × ℤ)) : Type 0 where
  pub faultless : fault_from (given_with ps settings) first_scene ps ≡ None
  pub front : List SourceStatement
  pub last : SourceStatement
  pub listed : ps ≡ front ++ last ∷ []
  pub ends : last.reading ≡ Ok end

whole : (bytes : List ℕ) (settings : List (Name × ℤ)) (program : Tree) → Reads bytes settings program → AreWhole (statements_in (entries_of bytes)) settings
whole bytes settings program r =
    let entries = entries_of bytes in
    let ps = statements_in entries in
    let listed = neither (as_refusal (first_line_fault bytes)) (first_fault_in entries settings) r.faultless in
    let told = neither (fault_from (given_with ps settings) first_scene ps) (bad_setting_from 1 (constant_names (last_scene ps settings)) settings) listed.1 in
    let ended = listed_end entries (listed-end bytes entries (size_to_end (lines_of bytes)) (record { faultless = no_refusal (first_line_fault bytes) listed.0; listed = refl; behind = refl })) in
    record { faultless = told.0; front = ended.0; last = ended.1; listed = ended.2; ends = ended.3 }

pub few-statements : (bytes : List ℕ) (settings : List (Name × ℤ)) (program : Tree) → Reads bytes settings program → statement_count program.items < most_statements
few-statements bytes settings program r =
    let ps = statements_in (entries_of bytes) in
    let given = given_with ps settings in
    let w = whole bytes settings program r in
    let few = (kept_from given first_scene ps w.faultless first_kept).count in
    let counted = counted_end (variables_of (last_scene ps settings)) given first_scene ps w.front w.last first_body w.listed w.ends (omega arith) in
    let same = ap (λ (t : Tree). statement_count t.items) r.stands in
    omega arith

pub good-variables : (bytes : List ℕ) (settings : List (Name × ℤ)) (program : Tree) → Reads bytes settings program → list_all is_good_declaration program.variables ≡ true
good-variables bytes settings program r =
    let entries = entries_of bytes in
    let ps = statements_in entries in
    let last = last_scene ps settings in
    let kept = kept_from (given_with ps settings) first_scene ps (whole bytes settings program r).faultless first_kept in
    ap (λ (t : Tree). list_all is_good_declaration t.variables) r.stands ∙ declarations-good (directives_of entries) last (variables_of last) kept

pub good-constants : (bytes : List ℕ) (settings : List (Name × ℤ)) (program : Tree) → AreValues settings → Reads bytes settings program → list_all is_good_constant program.params ≡ true
good-constants bytes settings program vs r =
    let entries = entries_of bytes in
    let ps = statements_in entries in
    ap (λ (t : Tree). list_all is_good_constant t.params) r.stands ∙ from_values (given_with ps settings) first_scene ps vs (all_spoken entries) refl

good-statements : (bytes : List ℕ) (settings : List (Name × ℤ)) (program : Tree) → AreValues settings → Reads bytes settings program → are_good_statements (scope_of program) [] 1 program.items ≡ true
good-statements bytes settings program vs r =
    let entries = entries_of bytes in
    let ps = statements_in entries in
    let w = whole bytes settings program r in
    ap (λ (t : Tree). are_good_statements (scope_of t) [] 1 t.items) r.stands ∙ ended-good (directives_of entries) (given_with ps settings) ps w.front w.last w.faultless vs (all_spoken entries) w.listed w.ends

pub well-formed : (bytes : List ℕ) (settings : List (Name × ℤ)) (program : Tree) → AreValues settings → Reads bytes settings program → IsWellFormed program
well-formed bytes settings program vs r =
    let constants = list_all is_good_constant program.params in
    let variables = list_all is_good_declaration program.variables in
    let few = few-statements bytes settings program r in
    let counted : nat_lt (statement_count program.items) most_statements ≡ true = lt-ltb (statement_count program.items) most_statements few in
    and_from (constants && variables && nat_lt (statement_count program.items) most_statements) (are_good_statements (scope_of program) [] 1 program.items)
    (and_from (constants && variables) (nat_lt (statement_count program.items) most_statements) (and_from constants variables (good-constants bytes settings program vs r) (good-variables bytes settings program r)) counted)
    (good-statements bytes settings program vs r)
