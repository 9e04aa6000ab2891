use Rattle.list_lemmas.proofs.Appending.{append_two}
use Rattle.plan_systems.specs.SystemsText.{counts_text, range_text}
use Rattle.plan_systems.proofs.lines.push_sizes.Goals as goal

pub returns : goal.returns
returns c = append_two c.args.text.now.items c.push_range.new.text.items c.push_counts.new.text.items (range_text c.args.o.now.range) (counts_text c.args.o.now.system) c.in_ok-push_range.ensures c.in_ok-push_counts.ensures
