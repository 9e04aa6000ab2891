use Rattle.std.proofs.Common.{◌++◌, codes, string_bytes, take_all, ap, ◌∙◌}
use Rattle.std.specs.List.{flat_map}
use Rattle.std.proofs.lemmas.Result.{on_ok_weaker}
use Rattle.list_lemmas.proofs.Appending.{append_two}
use Rattle.c_statements.specs.Layout.{escaped}
use Rattle.c_statements.proofs.Writing.{exactly}
use Rattle.c_statements.proofs.prints.put_characters.Goals as goal

pub returns : goal.returns
returns c =
    let xs = c.args.characters.now in
    let all = c.loop-byte.invariant ∙ ap (λ ys. string_bytes c.args.out.now ++ (codes "fputs(\" " ++ flat_map escaped ys)) (take_all c.loop-byte.byte-index xs c.loop-byte-test.false) in
    on_ok_weaker c.put_text-2.result (λ e. exactly _ (append_two _ _ _ (codes "fputs(\" " ++ flat_map escaped xs) (codes "\", stdout);\n") all e)) c.put_text-2.ensures
