use Rattle.list_lemmas.proofs.Appending.{append_two}
use Rattle.plan_systems.specs.SystemsText.{name_text, sizes_text}
use Rattle.plan_systems.proofs.lines.push_head.Goals as goal

pub returns : goal.returns
returns c = append_two c.args.text.now.items c.push_name.new.text.items c.push_sizes.new.text.items (name_text c.args.o.now) (sizes_text c.args.o.now) c.in_ok-push_name.ensures c.in_ok-push_sizes.ensures
