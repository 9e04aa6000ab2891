use Rattle.std.proofs.Common.{ℕ, pos, ap, ◌∙◌, sym}
use Rattle.nest_tree.specs.View.{head_of}
use Rattle.nest_rows.specs.Views.{heads_of}
use Rattle.conflict_rules.specs.References.{variable_of}
use Rattle.conflict_rules.specs.Seen.{target_seen}
use Rattle.comm_system.specs.Paths.{line_of}
use Rattle.comm_system.specs.declared.obligation.Topic.{Topic}
use Rattle.comm_system.proofs.PathRows.{loops_behind}
use Rattle.comm_system.proofs.path_loop.PathLoop.topic.Goals as goal

pub returns : goal.returns
returns c =
    let p = c.args.self.now in
    let around = heads_of p.store.now.around.items in
    let of : ℕ → ℕ → Topic = λ line variable. record { number = c.args.number; lines = (line, p.store.now.line); variable = variable; level = 0; piece = 0; range = (pos 0, pos 0) } in
    let line = ap line_of (loops_behind around p.outside (head_of c.nest.result.now) c.nest.ensures) in
    ap (λ v. of c.nest.result.now.line v) c.variable.ensures ∙ ap (λ l. of l (variable_of (target_seen p.store.now.target))) (sym line)
