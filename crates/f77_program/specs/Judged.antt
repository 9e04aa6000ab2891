-- What the tests of a statement come to that look at no expression, and what is known where its limits are looked at.
use Rattle.std.specs.Prelude.{ℕ, Bool, true, false, not}
use Rattle.std.specs.List.{list_any, flat_map}
use Rattle.f77_forms.specs.Form.{StatementForm, parameter, print}
use Rattle.f77_scene.specs.Limits.{declarator_past}
use Rattle.f77_scene.specs.Scene.{Scene, Given, is_among}
use Rattle.f77_scene.specs.Statements.{targets_in, loops_in, declarators_in, with_constants}
use Rattle.f77_scene.specs.Tests.{is_in_order, is_bad_target, declares_again, has_other_type, is_bad_loop, is_bad_rank, has_bad_label}
use Rattle.f77_program.specs.declared.tested.Tested.{Tested}
use Rattle.f77_program.specs.Firsts.{first_of}

abbrev pub tested_of : Given → Scene → ℕ → ℕ → StatementForm → Tested
tested_of given s after label f =
    record {
      misplaced = not (is_in_order s after f);
      bad_target = list_any (is_bad_target s) (targets_in f);
      again = declares_again s f;
      other_type = has_other_type given s f;
      stores_to_loop = list_any (λ t. is_among s.loop_variables t.name) (targets_in f);
      bad_loop = list_any (is_bad_loop s) (loops_in f);
      bad_rank = list_any (λ t. is_bad_rank s t.name t.arguments) (targets_in f);
      bad_label = has_bad_label s label f;
      past = first_of (flat_map (declarator_past s) (declarators_in f));
    }

-- the names of a PARAMETER statement are known behind its values
abbrev pub evaluated : Given → Scene → StatementForm → Scene
evaluated given s (parameter ds) = with_constants given s ds
evaluated given s f = s

abbrev pub is_print : StatementForm → Bool
is_print (print items) = true
is_print f = false
