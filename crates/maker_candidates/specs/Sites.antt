-- A phase of a plan in its text.
use Rattle.std.specs.Prelude.{◌≡◌, ◌-◌, Some, slice_get}
use Rattle.nest_tree.specs.View.{statement_of, tree_of}
use Rattle.nest_walk.specs.Texts.{placed}
use Rattle.owner_partition.specs.Marks.{enters_outer}
use Rattle.owner_partition.specs.StaticPhases.{loops_round}
use Rattle.maker_candidates.specs.declared.site.Site.{Site}

-- the phase has this number
abbrev pub IsNumbered : Site → Type 0
IsNumbered s = slice_get (placed (tree_of s.program.now) (enters_outer s.plan.now.cut.marks))
    (s.number - 1) ≡ Some (record {
      what = statement_of s.phase.now.text.item.now;
      around = loops_round s.phase.now.text;
    })
