-- One source with everything in it, and first faults of several kinds, worked by hand.
use Rattle.std.specs.Prelude.{ℕ, ℤ, pos, negsuc, List, [], ◌∷◌, ◌++◌, map, true, flat_map, Some, codes, ◌≡◌, refl}
use Rattle.std.specs.Int.{int_wrap}
use Rattle.nest_tree.specs.declared.tree.Compare.TheVariants.{Lt}
use Rattle.nest_tree.specs.declared.tree.Spread.TheVariants.{Block, Cyclic}
use Rattle.nest_tree.specs.Form.{Form}
use Rattle.nest_tree.specs.Tree.{add, div, load, neg, param, text, value, whole, assign, print, do_loop, work, done, next, Assignment, Tree}
use Rattle.nest_tree.specs.WellFormed.{is_well_formed}
use Rattle.f77_lines.specs.declared.refusal.LineRefusal.TheVariants.{NoEnd}
use Rattle.f77_lines.specs.Columns.{kind_of}
use Rattle.f77_lines.specs.Texts as lines_texts
use Rattle.f77_lines.specs.Statements.{is_end, continued, entries_from}
use Rattle.f77_lines.specs.Faults as lines_faults
use Rattle.f77_forms.specs.Reading.{number_from, word_value, combined, operand_value, term_value, sum_value, item_value, pending_sum, add_step, multiply_step, opened, opener_at, open_step, is_separator, bounds_behind, opener_behind, separate_step, enclosed, left_to, close_step, quote_step, symbol_step, letter_at, plain_step, step_at, step, ended, finished, run, pieces_at}
use Rattle.f77_forms.specs.Statements.{declarator_in, compare_from, item_next, value_next, name_next, compare_next, assignment_next, comparison_next, step_next, all_taken, listed_from, declarator_next, printed_next, definition_next, program_at, declarators_at, before_parenthesis, parameter_at, print_at, assign_at, if_at, digits_in, behind_digits, label_at, has_comma, behind_comma, loop_at, do_at, branch_at, executed_at, declared_at, statement_at}
use Rattle.f77_forms.specs.Marks.{masked, is_exponent, ends_dotted, is_dotted, begins_mark, holds_mark, has_comma_outside, behind_group, word_in, behind_word, begins_equals, tail, behind_parentheses, before_compare, from_compare, is_marked, holds_large, is_outside_profile, text_fault}
use Rattle.f77_scene.specs.Fault.{not_in_profile, literal_too_large, syntax, unknown, not_integer, loop_variable, rank, bad_divisor, not_affine, zero_step, do_label, past_limit, Refusal, bad_line, bad_statement, bad_setting}
use Rattle.f77_scene.specs.Scene.{Name}
use Rattle.f77_scene.specs.Affine.{fixed}
use Rattle.f77_scene.specs.Reading.{Reads, first_fault, statements_in, fault_from, scene_from, body_from}

-- the bytes of lines
abbrev pub bytes_of : List (List ℕ) → List ℕ
bytes_of lines = flat_map (λ line. line ++ 10 ∷ []) lines

-- ---- a program

-- comments, small letters, a continuation line, a directive, two loops that share a label, a logical IF, a whole array, and M that is never used
abbrev pub source : List (List ℕ)
source =
    codes "C heat"
    ∷ codes "      program heat"
    ∷ codes "      parameter (n = 4)"
    ∷ codes "      integer m, a(0:n),"
    ∷ codes "C in between"
    ∷ codes "     &  b(n, 2)"
    ∷ codes "c$dist b(*,cyclic)"
    ∷ codes "      do 10 i = 1, n"
    ∷ codes "      do 10 j = 1, 2"
    ∷ codes "   10 if (i .lt. 2*n - 1) b(i, j) = a(i - 1) + k/2"
    ∷ codes "      print *, 'It''s', b, -n"
    ∷ codes "      stop"
    ∷ codes "      end"
    ∷ []

abbrev loop_form : ℕ → Form
loop_form n = record { constant = pos 0; loops = (n, pos 1) ∷ []; params = [] }

-- the assignment of line 10 reads A(I-1), which is -1 + L1, and K
abbrev stored : Assignment
stored =
    record {
      target = record { variable = 2; subscripts = loop_form 1 ∷ loop_form 2 ∷ [] };
      value = add (load (record {
        variable = 1;
        subscripts = record { constant = negsuc 0; loops = (1, pos 1) ∷ []; params = [] } ∷ [];
      }))
          (div (load (record { variable = 3; subscripts = [] })) (pos 2));
      guard = Some (record {
        left = loop_form 1;
        op = Lt;
        right = record { constant = negsuc 0; loops = []; params = (1, pos 2) ∷ [] };
      });
      line = 10;
    }

-- with N = 5 set
abbrev pub program : Tree
program =
    record {
      items = next (do_loop (record {
        number = 1;
        m1 = fixed (pos 1);
        m2 = record { constant = pos 0; loops = []; params = (1, pos 1) ∷ [] };
        step = pos 1;
        line = 8;
      })
          (next (do_loop (record {
            number = 2;
            m1 = fixed (pos 1);
            m2 = fixed (pos 2);
            step = pos 1;
            line = 9;
          }) (next (work (assign stored)) done)) done))
          (next (work (print (record {
            items = text (codes "It's") ∷ whole 2 ∷ value (neg (param 1))
                ∷ [];
            line = 11;
          }))) done);
      params = record { name = codes "N"; value = pos 5 } ∷ [];
      variables = record {
        name = codes "A";
        bounds = (pos 0, pos 5) ∷ [];
        axis = 1;
        spread = Block;
      } ∷ record {
        name = codes "B";
        bounds = (pos 1, pos 5) ∷ (pos 1, pos 2) ∷ [];
        axis = 2;
        spread = Cyclic;
      }
          ∷ record { name = codes "K"; bounds = []; axis = 0; spread = Block } ∷ [];
    }

pub reads-example : Reads (bytes_of source) ((codes "N", pos 5) ∷ []) program
unfolding number_from word_value combined operand_value term_value sum_value item_value pending_sum
    add_step multiply_step opened opener_at open_step is_separator bounds_behind opener_behind
    separate_step enclosed left_to close_step quote_step symbol_step letter_at plain_step step_at
    step ended finished run pieces_at declarator_in compare_from item_next value_next name_next
    compare_next assignment_next comparison_next step_next all_taken listed_from declarator_next
    printed_next definition_next program_at declarators_at before_parenthesis parameter_at print_at
    assign_at if_at digits_in behind_digits label_at has_comma behind_comma loop_at do_at branch_at
    executed_at declared_at statement_at masked is_exponent ends_dotted is_dotted begins_mark
    holds_mark has_comma_outside behind_group word_in behind_word begins_equals tail
    behind_parentheses before_compare from_compare is_marked holds_large is_outside_profile
    text_fault kind_of lines_texts.label_at is_end continued entries_from lines_faults.fault_from
    statements_in fault_from scene_from body_from int_wrap
reads-example = record { faultless = refl; stands = refl }

-- it is well formed
pub program-is_well_formed : is_well_formed program ≡ true
program-is_well_formed = refl

-- ---- first faults

-- sources with settings, and their first faults: a power; a number past the limit; a declaration behind an executable statement; a named constant that is stored to; X that is no array, before that it is not INTEGER; X that is not INTEGER;
-- a DO variable in its own bounds, which stand outside the loop; one subscript of two; a divisor of 0, also where a setting replaces the value; a product of two loop variables; a step of 0;
-- an outer loop that would end in front of the inner one; an extent of -1; a sum past the limit of forms; a second setting that names no PARAMETER; no END line, which comes before the fault of a statement
abbrev pub refused : List (List (List ℕ) × List (Name × ℤ) × Refusal)
refused =
    (codes "      K = L**2" ∷ codes "      END" ∷ [], [], bad_statement not_in_profile 1)
    ∷ (
      codes "      K = 1" ∷ codes "      K = 9223372036854775808" ∷ codes "      END" ∷ [],
      [],
      bad_statement literal_too_large 2,
    )
    ∷ (
      codes "      K = 1" ∷ codes "      INTEGER A(5)" ∷ codes "      END" ∷ [],
      [],
      bad_statement syntax 2,
    )
    ∷ (
      codes "      PARAMETER (N = 1)" ∷ codes "      N = 2" ∷ codes "      END" ∷ [],
      [],
      bad_statement unknown 2,
    )
    ∷ (codes "      X(1) = 2" ∷ codes "      END" ∷ [], [], bad_statement unknown 1)
    ∷ (
      codes "      DIMENSION A(5)" ∷ codes "      INTEGER A" ∷ codes "      X = 1"
          ∷ codes "      END" ∷ [],
      [],
      bad_statement not_integer 3,
    )
    ∷ (
      codes "      DO 10 I = I, 5" ∷ codes "   10 CONTINUE" ∷ codes "      END" ∷ [],
      [],
      bad_statement loop_variable 1,
    )
    ∷ (
      codes "      INTEGER A(2, 2)" ∷ codes "      A(1) = 0" ∷ codes "      END" ∷ [],
      [],
      bad_statement rank 2,
    )
    ∷ (
      codes "      PARAMETER (N = 1/0)" ∷ codes "      END" ∷ [],
      (codes "N", pos 5) ∷ [],
      bad_statement bad_divisor 1,
    )
    ∷ (
      codes "      INTEGER A(9)" ∷ codes "      DO 10 I = 1, 3" ∷ codes "   10 A(I*I) = I"
          ∷ codes "      END" ∷ [],
      [],
      bad_statement not_affine 3,
    )
    ∷ (
      codes "      DO 10 I = 1, 3, 1 - 1" ∷ codes "   10 CONTINUE" ∷ codes "      END" ∷ [],
      [],
      bad_statement zero_step 1,
    )
    ∷ (
      codes "      DO 10 I = 1, 3" ∷ codes "      DO 20 J = 1, 3" ∷ codes "   10 CONTINUE"
          ∷ codes "   20 CONTINUE" ∷ codes "      END" ∷ [],
      [],
      bad_statement do_label 3,
    )
    ∷ (
      codes "      INTEGER A(5:3)" ∷ codes "      END" ∷ [],
      [],
      bad_statement (past_limit (negsuc 0)) 1,
    )
    ∷ (
      codes "      INTEGER A(5)" ∷ codes "      A(2000000000 + 2000000000) = 0" ∷ codes "      END"
          ∷ [],
      [],
      bad_statement (past_limit (pos 4000000000)) 2,
    )
    ∷ (
      codes "      PARAMETER (N = 1)" ∷ codes "      END" ∷ [],
      (codes "N", pos 2) ∷ (codes "M", pos 2) ∷ [],
      bad_setting 2,
    )
    ∷ (codes "      X = 1" ∷ [], [], bad_line (NoEnd 2))
    ∷ []

pub refused-example : map (λ (row : List (List ℕ) × List (Name × ℤ) × Refusal).
    first_fault (bytes_of row.0) row.1) refused
    ≡ map (λ (row : List (List ℕ) × List (Name × ℤ) × Refusal). Some row.2) refused
unfolding number_from word_value combined operand_value term_value sum_value item_value pending_sum
    add_step multiply_step opened opener_at open_step is_separator bounds_behind opener_behind
    separate_step enclosed left_to close_step quote_step symbol_step letter_at plain_step step_at
    step ended finished run pieces_at declarator_in compare_from item_next value_next name_next
    compare_next assignment_next comparison_next step_next all_taken listed_from declarator_next
    printed_next definition_next program_at declarators_at before_parenthesis parameter_at print_at
    assign_at if_at digits_in behind_digits label_at has_comma behind_comma loop_at do_at branch_at
    executed_at declared_at statement_at masked is_exponent ends_dotted is_dotted begins_mark
    holds_mark has_comma_outside behind_group word_in behind_word begins_equals tail
    behind_parentheses before_compare from_compare is_marked holds_large is_outside_profile
    text_fault kind_of lines_texts.label_at is_end continued entries_from lines_faults.fault_from
    statements_in fault_from scene_from body_from int_wrap
refused-example = refl
