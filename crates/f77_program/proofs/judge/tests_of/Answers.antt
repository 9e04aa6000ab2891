use Rattle.std.proofs.Common.{◌≡◌, ◌||◌, not, ap, ◌∙◌}
use Rattle.std.specs.List.{list_any, flat_map}
use Rattle.f77_forms.specs.View.{statement_of}
use Rattle.f77_scene.specs.Scene.{is_among}
use Rattle.f77_scene.specs.Statements.{names_of}
use Rattle.f77_scene.specs.Tests.{begins_i_to_n, has_other_type}
use Rattle.f77_program.specs.Judged.{tested_of}
use Rattle.f77_program.specs.Pieces.{names_view, piece_names}
use Rattle.f77_program.specs.Wholes.{given_of}
use Rattle.f77_program.proofs.Pieced.{names-pieces}
use Rattle.f77_program.proofs.judge.tests_of.Goals as goal

pub returns : goal.returns
returns c =
    let given = given_of c.args.whole.now in
    let s = c.args.known.now in
    let f = statement_of c.args.statement.now in
    let t = tested_of given s c.args.behind c.args.label f in
    let names : names_view c.in_ok-names.names.items ≡ names_of s f = c.in_ok-names.ensures ∙ ap (flat_map (piece_names s)) c.requires ∙ names-pieces s f in
    let other : c.has_other_type.result ≡ has_other_type given s f =
    c.has_other_type.ensures ∙ ap (λ ns. list_any (λ n. not (begins_i_to_n n || is_among given.integers n)) (names_view ns)) c.deref.ensures.value ∙ ap (list_any (λ n. not (begins_i_to_n n || is_among given.integers n))) names in
    ap (λ b. record { misplaced = not b; bad_target = c.has_bad_target.result; again = c.in_ok-declares_again.field-0; other_type = c.has_other_type.result; stores_to_loop = c.stores_to_loop_variable.result; bad_loop = c.in_ok-has_bad_loop.field-0; bad_rank = c.has_badly_subscripted_target.result; bad_label = c.has_bad_label.result; past = c.in_ok-declared_past.field-0 }) c.is_in_order.ensures
    ∙ ap (λ b. record t { bad_target = b; again = c.in_ok-declares_again.field-0; other_type = c.has_other_type.result; stores_to_loop = c.stores_to_loop_variable.result; bad_loop = c.in_ok-has_bad_loop.field-0; bad_rank = c.has_badly_subscripted_target.result; bad_label = c.has_bad_label.result; past = c.in_ok-declared_past.field-0 }) c.has_bad_target.ensures
    ∙ ap (λ b. record t { again = b; other_type = c.has_other_type.result; stores_to_loop = c.stores_to_loop_variable.result; bad_loop = c.in_ok-has_bad_loop.field-0; bad_rank = c.has_badly_subscripted_target.result; bad_label = c.has_bad_label.result; past = c.in_ok-declared_past.field-0 }) c.in_ok-declares_again.ensures
    ∙ ap (λ b. record t { other_type = b; stores_to_loop = c.stores_to_loop_variable.result; bad_loop = c.in_ok-has_bad_loop.field-0; bad_rank = c.has_badly_subscripted_target.result; bad_label = c.has_bad_label.result; past = c.in_ok-declared_past.field-0 }) other
    ∙ ap (λ b. record t { stores_to_loop = b; bad_loop = c.in_ok-has_bad_loop.field-0; bad_rank = c.has_badly_subscripted_target.result; bad_label = c.has_bad_label.result; past = c.in_ok-declared_past.field-0 }) c.stores_to_loop_variable.ensures
    ∙ ap (λ b. record t { bad_loop = b; bad_rank = c.has_badly_subscripted_target.result; bad_label = c.has_bad_label.result; past = c.in_ok-declared_past.field-0 }) c.in_ok-has_bad_loop.ensures
    ∙ ap (λ b. record t { bad_rank = b; bad_label = c.has_bad_label.result; past = c.in_ok-declared_past.field-0 }) c.has_badly_subscripted_target.ensures
    ∙ ap (λ b. record t { bad_label = b; past = c.in_ok-declared_past.field-0 }) c.has_bad_label.ensures ∙ ap (λ o. record t { past = o }) c.in_ok-declared_past.ensures
