-- Programs may be shared among threads.
use denote.Param.Send.{IsSync, sendable}
use Rattle.std.proofs.Crossing.{crosses}
use Rattle.nest_tree.specs.contracts.tree.Expr as Expr
use Rattle.nest_tree.specs.contracts.tree.Item as Item
use Rattle.nest_tree.specs.contracts.tree.Nest as Nest
use Rattle.nest_tree.specs.contracts.tree.PrintItem as PrintItem
use Rattle.nest_tree.specs.contracts.program.Program as Program
use Rattle.nest_tree.proofs.form.Affine.TheSendSync as affine
use Rattle.nest_tree.proofs.tree.Access.TheSendSync as access
use Rattle.nest_tree.proofs.tree.Guard.TheSendSync as guard
use Rattle.nest_tree.proofs.tree.Expr.TheLaws.TheKnot as expr
use Rattle.nest_tree.proofs.tree.Item.TheLaws.TheKnot as item
use Rattle.nest_tree.proofs.tree.Parameter.TheSendSync as parameter
use Rattle.nest_tree.proofs.tree.Variable.TheSendSync as variable

pub Expr-sync : IsSync (Expr.the_field).row
Expr-sync = search (sendable, crosses, expr.sync-Expr, access.the_field_sync) depth 20

pub PrintItem-sync : IsSync (PrintItem.the_row)
PrintItem-sync = let e = Expr-sync in search (sendable, crosses) depth 20

pub Nest-sync : IsSync (Nest.the_field).row
Nest-sync = let e = Expr-sync in let p = PrintItem-sync in search (sendable, crosses, item.sync-Nest, access.the_field_sync, guard.the_sync, affine.the_sync) depth 20

pub Item-sync : IsSync (Item.the_field).row
Item-sync = let e = Expr-sync in let p = PrintItem-sync in search (sendable, crosses, item.sync-Item, access.the_field_sync, guard.the_sync, affine.the_sync) depth 20

pub Program-sync : IsSync Program.the_row
Program-sync = let i = Item-sync in search (sendable, crosses, parameter.the_sync, variable.the_sync) depth 20
