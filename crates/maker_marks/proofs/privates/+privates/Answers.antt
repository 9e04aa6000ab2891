use Rattle.std.proofs.Common.{◌++◌, ap, sym, ◌∙◌}
use Rattle.std.proofs.lemmas.Result.{on_ok_weaker}
use Rattle.nest_tree.specs.View.{statement_of}
use Rattle.nest_tree.proofs.Rows.{statement_of-Loop}
use Rattle.maker_marks.specs.Privates.{own_at, privates_in}
use Rattle.maker_marks.specs.Tries.{tried_at}
use Rattle.maker_marks.proofs.privates.+privates.Goals as goal

pub push_privates_in-returns-in-Loop : goal.push_privates_in-returns-in-Loop
push_privates_in-returns-in-Loop t c =
    let old = c.args.lists.now.items in
    let f = tried_at c.args.dealt.tries.now in
    let own = own_at c.args.dealt.privates.now in
    let whole = ap (privates_in f own) (ap statement_of c.in-Loop.is ∙ statement_of-Loop c.in-Loop.nest) in
    on_ok_weaker c.push_loop_privates.result (λ e. e ∙ ap (λ ls. old ++ ls) (sym whole)) c.push_loop_privates.ensures
