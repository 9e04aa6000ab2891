-- The private types as plain data.
use Rattle.std.specs.Prelude.{List, map, reverse}
use Rattle.f77_forms.specs.View.{expression_of, optional_of, bound_of, declarator_of, printed_of}
use Rattle.f77_forms.specs.Reading.{PendingForm, nothing, lead, left, ItemForm, printed, declared, PieceForm, OpenerForm, pieces, group, arguments, bounds, LevelForm, OperandForm, missing, word, whole, declarator, quoted, closed}
use Rattle.f77_forms.specs.declared.state.Pending.{Pending}
use Rattle.f77_forms.specs.declared.state.Pending.TheVariants.{Nothing, Lead, Left}
use Rattle.f77_forms.specs.declared.state.Item.{Item}
use Rattle.f77_forms.specs.declared.state.Item.TheVariants as item
use Rattle.f77_forms.specs.declared.state.Piece.{Piece}
use Rattle.f77_forms.specs.declared.state.Opener.{Opener}
use Rattle.f77_forms.specs.declared.state.Opener.TheVariants as opener
use Rattle.f77_forms.specs.declared.state.Level.{Level}
use Rattle.f77_forms.specs.declared.state.Operand.{Operand}
use Rattle.f77_forms.specs.declared.state.Operand.TheVariants as operand

abbrev pub pending_of : Pending → PendingForm
pending_of Nothing = nothing
pending_of (Lead sign) = lead sign
pending_of (Left e op) = left (expression_of e) op

abbrev pub item_of : Item → ItemForm
item_of (item.Printed p) = printed (printed_of p)
item_of (item.Declared d) = declared (declarator_of d)

abbrev pub piece_of : Piece → PieceForm
piece_of p = record { separator = p.separator; item = item_of p.item }

abbrev pub opener_of : Opener → OpenerForm
opener_of (opener.Pieces declares front separator) =
    pieces declares (map piece_of front.items) separator
opener_of opener.Group = group
opener_of (opener.Arguments n front) = arguments n.items (map expression_of front.items)
opener_of (opener.Bounds n front lower) =
    bounds n.items (map bound_of front.items) (optional_of lower)

abbrev pub level_of : Level → LevelForm
level_of l =
    record { opener = opener_of l.opener; sum = pending_of l.sum; product = pending_of l.product }

-- levels from the inside, where they are kept from the outside
abbrev pub levels_of : List Level → List LevelForm
levels_of levels = reverse (map level_of levels)

abbrev pub operand_of : Operand → OperandForm
operand_of operand.Missing = missing
operand_of (operand.Word w) = word w.items
operand_of (operand.Whole e) = whole (expression_of e)
operand_of (operand.Declarator d) = declarator (declarator_of d)
operand_of (operand.Quoted cs) = quoted cs.items
operand_of (operand.Closed cs) = closed cs.items
