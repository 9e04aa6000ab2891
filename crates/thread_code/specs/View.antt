-- From the declared types to thread code as plain data.
use Rattle.std.specs.Prelude.{List, [], ◌∷◌}
use Rattle.nest_tree.specs.Form.{Form}
use Rattle.nest_tree.specs.Tree.{Statement, do_loop, work, continue}
use Rattle.nest_tree.specs.View.{head_of, statement_of, statements_from}
use Rattle.owner_partition.specs.declared.anchor.Anchor.{Anchor}
use Rattle.thread_code.specs.Code.{Finding, all_of, in_block, in_turn, Share, trips_of, work_of, no_share, Node, each, phase, no_node, Nodes, end, one_then}
use Rattle.thread_code.specs.declared.code.Code.{Code, Each', Phase, Nothing, Row_of-Code, end_of-Code, more_of-Code}
use Rattle.thread_code.specs.declared.code.Part.{Part}
use Rattle.thread_code.specs.declared.code.Place.{Place}
use Rattle.thread_code.specs.declared.code.Trips.{Trips}
use Rattle.thread_code.specs.declared.code.Part.TheVariants as Parts
use Rattle.thread_code.specs.declared.code.Trips.TheVariants as Ways

abbrev pub form_view : Place → Form
form_view place = record { constant = place.constant; loops = place.loops; params = place.params }

abbrev pub finding_view : Trips → Finding
finding_view (Ways.All anchor) = all_of anchor
finding_view (Ways.Block length rest rise) = in_block length (form_view rest) rise
finding_view (Ways.Turn start turning) = in_turn (form_view start) turning

-- a statement that an anchor's owner executes alone is a piece of work
abbrev pub work_view : Anchor → Statement → Share
work_view a (do_loop head body) = no_share
work_view a (work w) = work_of a w
work_view a (continue line) = no_share

abbrev pub share_view : Part → Share
share_view (Parts.Trips it) =
    trips_of it.anchor (finding_view it.trips) (head_of it.nest.now)
    (statements_from it.nest.now.items.items) it.privates.items it.sums.items
share_view (Parts.Work anchor item) = work_view anchor (statement_of item.now)
share_view Parts.Nothing = no_share

abbrev mutual
  pub code_view : Code → Node
  code_view (Each' nest shape codes) = each (head_of nest.now) (row_view codes)
  code_view (Phase kind part) = phase kind (share_view part)
  code_view Nothing = no_node

  pub row_view : {m : _} → Row_of-Code m → Nodes
  row_view end_of-Code = end
  row_view (more_of-Code c rest) = one_then (code_view c) (row_view rest)

-- codes in a list
abbrev pub codes_view : List Code → Nodes
codes_view [] = end
codes_view (c ∷ rest) = one_then (code_view c) (codes_view rest)
