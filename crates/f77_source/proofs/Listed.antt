-- From what is listed to the bytes that list it.
use Rattle.std.proofs.Common.{◌≡◌, ℕ, ℤ, List, None, Option, Result, Ok, Err, IfOk, IfErr, IsTrue, OnOk, sym, ap, subst, ◌∙◌}
use Rattle.std.specs.Option.{option_or}
use Rattle.nest_tree.specs.Tree.{Tree}
use Rattle.nest_tree.specs.View.{tree_of_draft}
use Rattle.nest_tree.specs.WellFormed.{IsWellFormed}
use Rattle.nest_tree.specs.declared.program.Draft.{Draft}
use Rattle.f77_lines.specs.Listing.{Lists, entries_of}
use Rattle.f77_lines.specs.Statements.{Entry}
use Rattle.f77_program.specs.declared.refusal.Refusal.{Refusal}
use Rattle.f77_scene.specs.Fault as scene
use Rattle.f77_scene.specs.Reading.{Reads, SourceStatement, as_refusal, bad_setting_from, body_from, directives_of, fault_from, first_fault_in, first_fault_of, first_fault, given_with, last_body, last_scene, program_in, scene_from, statements_in, tree_from, variables_of}
use Rattle.f77_scene.specs.Scene.{Given, Name, Scene, constant_names, first_scene}
use Rattle.f77_scene.specs.Trees.{first_body}
use Rattle.f77_source.specs.Answers.{Refuses, IsProgram}
use Rattle.f77_source.specs.Sources.{are_values}
use Rattle.f77_source.specs.Stages.{ArePassed}
use Rattle.f77_source.proofs.Whole.{well-formed}

first_fault-listed : (bytes : List ℕ) (entries : List Entry) (rest : ℕ) (settings : List (Name × ℤ)) → Lists bytes entries rest → first_fault bytes settings ≡ first_fault_in entries settings
first_fault-listed bytes entries rest settings l =
    ap (λ o. option_or (as_refusal o) (first_fault_in (entries_of bytes) settings)) l.faultless ∙ ap (λ es. first_fault_in es settings) (sym l.listed)

pub reads_listed : (bytes : List ℕ) (entries : List Entry) (rest : ℕ) (settings : List (Name × ℤ)) (r : Result Draft Refusal) → Lists bytes entries rest
    → IfOk r (λ p. IsProgram entries settings (tree_of_draft p)) → IfOk r (λ p. Reads bytes settings (tree_of_draft p))
reads_listed bytes entries rest settings (Ok p) l h =
    record { faultless = first_fault-listed bytes entries rest settings l ∙ h.faultless; stands = h.stands ∙ ap (λ es. program_in es settings) l.listed }
reads_listed bytes entries rest settings (Err e) l h = tt

pub refuses_listed : (bytes : List ℕ) (entries : List Entry) (rest : ℕ) (settings : List (Name × ℤ)) (r : Result Draft Refusal) → Lists bytes entries rest
    → IfErr r (Refuses (first_fault_in entries settings)) → IfErr r (Refuses (first_fault bytes settings))
refuses_listed bytes entries rest settings (Ok p) l h = tt
refuses_listed bytes entries rest settings (Err e) l h = subst (λ (o : Option scene.Refusal). Refuses o e) (sym (first_fault-listed bytes entries rest settings l)) h

-- and that program is well formed
pub formed_listed : (bytes : List ℕ) (entries : List Entry) (rest : ℕ) (settings : List (Name × ℤ)) (r : Result Draft Refusal) → Lists bytes entries rest → IfOk r (λ p. IsProgram entries settings (tree_of_draft p)) → OnOk r (IsTrue (are_values settings))
    → IfOk r (λ p. IsWellFormed (tree_of_draft p))
formed_listed bytes entries rest settings (Ok p) l h vs = well-formed bytes settings (tree_of_draft p) vs (reads_listed bytes entries rest settings (Ok p) l h)
formed_listed bytes entries rest settings (Err e) l h vs = tt

-- the program by what was found of what is listed
pub program_listed : (entries : List Entry) (settings : List (Name × ℤ)) (texts : List (List ℕ)) (given : Given) (ps : List SourceStatement) (last : Scene) (t : Tree) → ps ≡ statements_in entries → texts ≡ directives_of entries
    → given ≡ given_with ps settings → ArePassed given ps last → bad_setting_from 1 (constant_names last) settings ≡ None → t ≡ tree_from texts last (body_from (variables_of last) given first_scene ps first_body) → IsProgram entries settings t
program_listed entries settings texts given ps last t listed told held passed good is =
    record {
      faultless = ap (λ qs. first_fault_of qs settings) (sym listed) ∙ ap (λ g. option_or (fault_from g first_scene ps) (bad_setting_from 1 (constant_names (scene_from g first_scene ps)) settings)) (sym held)
          ∙ ap (λ o. option_or o (bad_setting_from 1 (constant_names (scene_from given first_scene ps)) settings)) passed.faultless ∙ ap (λ x. bad_setting_from 1 (constant_names x) settings) (sym passed.known) ∙ good;
      stands = is ∙ ap (λ x. tree_from texts x (body_from (variables_of x) given first_scene ps first_body)) passed.known
          ∙ ap (λ ts. tree_from ts (scene_from given first_scene ps) (body_from (variables_of (scene_from given first_scene ps)) given first_scene ps first_body)) told
          ∙ ap (λ g. tree_from (directives_of entries) (scene_from g first_scene ps) (body_from (variables_of (scene_from g first_scene ps)) g first_scene ps first_body)) held
          ∙ ap (λ qs. tree_from (directives_of entries) (last_scene qs settings) (last_body qs settings)) listed;
    }
