use Rattle.std.proofs.Common.{◌++◌, ◌∙◌, ap}
use Rattle.std.specs.List.{flat_map}
use Rattle.list_lemmas.proofs.Appending.{append_two}
use Rattle.plan_systems.specs.SystemsText.{head_text, row_text}
use Rattle.plan_systems.proofs.lines.push_system.Goals as goal

pub returns : goal.returns
returns c =
    let o = c.args.obligation.now in
    let rows = c.in_ok-push_rows.ensures ∙ ap (λ rs. c.push_head.new.text.items ++ flat_map row_text rs) c.rows.ensures.rows in
    append_two c.args.text.now.items c.push_head.new.text.items c.push_rows.new.text.items (head_text o) (flat_map row_text o.system.rows) c.in_ok-push_head.ensures rows
