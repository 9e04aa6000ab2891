use Rattle.std.proofs.Common.{◌≡◌, ◌+◌, ◌*◌, ◌∷◌, [], Some, OnOk, ap, sym, ◌∙◌, subst}
use Rattle.std.specs.List.{slice_get}
use Rattle.std.specs.Option.{option_map}
use Rattle.std.proofs.lemmas.List.{append-nil}
use Rattle.std.proofs.lemmas.Option.{slice_get-get_or, slice_get-map, slice_get_past}
use Rattle.farkas_cert.specs.Inequalities.{Inequalities}
use Rattle.nest_tree.specs.View.{head_of}
use Rattle.nest_rows.specs.More.{HasMore}
use Rattle.nest_rows.specs.Views.{heads_of}
use Rattle.nest_rows.specs.declared.terms.Around.{Around}
use Rattle.nest_rows.proofs.RowLists.{small-step}
use Rattle.comm_system.specs.PairRows.{last_at, last_has}
use Rattle.comm_system.proofs.rows.push_last_trip.Goals as goal

pub past_next-requires-clause-step : goal.past_next-requires-clause-step
past_next-requires-clause-step c = small-step c.args.around.now c.in-Some.outside c.in-Some-get.dealt.now c.in-Some-get.ensures.lookup.3.0 c.in-Some-get.ensures.lookup.1 c.requires.steps

pub returns-in_ok-row-in-Some-get : goal.returns-in_ok-row-in-Some-get
returns-in_ok-row-in-Some-get c =
    let around = c.args.around.now in
    let first = c.args.first in
    let k = c.in-Some.outside in
    let dealt = c.in-Some-get.dealt.now in
    let there : slice_get around k ≡ Some dealt = slice_get-get_or around k dealt c.in-Some-get.ensures.lookup.3.0 ∙ ap Some (sym c.in-Some-get.ensures.lookup.1) in
    let head : slice_get (heads_of around) k ≡ Some (head_of dealt.nest.now) = slice_get-map (λ (a : Around). head_of a.nest.now) around k ∙ ap (option_map (λ (a : Around). head_of a.nest.now)) there in
    let same : last_has c.args.last first (heads_of around) ≡ c.in_ok-row-in-Some-get.row ∷ [] =
    ap (λ l. last_has l first (heads_of around)) c.in-Some.is ∙ ap (last_at first (heads_of around) (first + 2 * k)) head ∙ ap (λ r. r ∷ []) (sym c.in_ok-row-in-Some-get.ensures.is) in
    subst (λ rows. OnOk c.push.result (HasMore rows c.args.system.now c.push.new.self)) (sym same) c.push.ensures.ok

pub returns-in-None : goal.returns-in-None
returns-in-None c =
    let around = c.args.around.now in
    let first = c.args.first in
    let k = c.in-Some.outside in
    let system : Inequalities = c.args.system.now in
    let none = slice_get-map (λ (a : Around). head_of a.nest.now) around k ∙ ap (option_map (λ (a : Around). head_of a.nest.now)) (slice_get_past around k c.in-None.ensures.lookup.3) in
    let same : last_has c.args.last first (heads_of around) ≡ [] = ap (λ l. last_has l first (heads_of around)) c.in-Some.is ∙ ap (last_at first (heads_of around) (first + 2 * k)) none in
    subst (λ rows. HasMore rows c.args.system.now c.args.system.now) (sym same) (ap (λ rs. record { vars = system.vars; rows = rs }) (sym (append-nil system.rows)))
