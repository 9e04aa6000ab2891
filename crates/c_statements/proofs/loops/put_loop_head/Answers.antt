use Rattle.std.proofs.Common.{rules, ◌≡◌, ◌++◌, FitsSigned, OnOk, string_bytes, w64, subst}
use Rattle.std.proofs.lemmas.Int.{to_z-of_z}
use Rattle.std.proofs.lemmas.Result.{on_ok_weaker}
use Rattle.c_statements.specs.Layout.{ended, stepped}
use Rattle.c_statements.proofs.Writing.{exactly, joined, number_written}
use Rattle.c_statements.proofs.loops.put_loop_head.Goals as goal

pub returns : goal.returns
returns c =
    let nest = c.args.nest.now in
    let fits : FitsSigned w64 nest.step = search rules in
    let end = subst (λ z. string_bytes c.put_ended.new.out ≡ string_bytes c.put_form.new.out ++ ended nest.number z) (to_z-of_z w64 nest.step fits) c.in_ok-put_ended.ensures in
    let step = subst (λ z. OnOk c.put_stepped.result (string_bytes c.put_stepped.new.out ≡ string_bytes c.put_form-2.new.out ++ stepped nest.number z)) (to_z-of_z w64 nest.step fits) c.put_stepped.ensures in
    on_ok_weaker c.put_stepped.result
    (λ e. joined c.in_ok-put_indent.ensures (joined (exactly _ c.in_ok-put_begun.ensures) (joined (number_written c.in_ok-put_form.ensures)
    (joined (exactly _ end) (joined (number_written c.in_ok-put_form-2.ensures) (exactly _ e))))))
    step
