-- What is written for a phase: its waits stand in front of its share.
use Rattle.std.specs.Prelude.{ℕ, List, Option, Some, None, codes}
use Rattle.nest_tree.specs.Tree.{Tree}
use Rattle.owner_partition.specs.declared.anchor.Anchor.{Anchor}
use Rattle.sync_plan.specs.declared.plan.Kind.{Kind}
use Rattle.sync_plan.specs.declared.plan.Kind.TheVariants.{Nothing, Producer, Left, Right, Both, Barrier, Join}
use Rattle.c_statements.specs.Texts.{code, indent, line, nothing, ◌⨾◌}
use Rattle.c_owners.specs.Owners.{OwnerText}

abbrev pub producer_text : Tree → ℕ → Anchor → List ℕ → Type 0
producer_text tree workers a =
    indent ⨾ code (codes "producer(p, e, ") ⨾ OwnerText tree workers a None ⨾ code (codes ");\n")

abbrev pub kind_text : Tree → ℕ → Kind → List ℕ → Type 0
kind_text tree workers Nothing = nothing
kind_text tree workers (Producer a) = producer_text tree workers a
kind_text tree workers Left = line (codes "left(p, e);")
kind_text tree workers Right = line (codes "right(p, e);")
kind_text tree workers Both = line (codes "both(p, e);")
kind_text tree workers Barrier = line (codes "barrier(&rounds);")
kind_text tree workers Join = line (codes "barrier(&rounds);")

-- the waits in front of a phase
abbrev pub boundary_text : Tree → ℕ → Option Kind → List ℕ → Type 0
boundary_text tree workers None = nothing
boundary_text tree workers (Some kind) = kind_text tree workers kind

-- behind its remarks it is counted in e; then come its waits, and then its share
abbrev pub phase_text : Tree → ℕ → List ℕ → Option Kind → List ℕ → List ℕ → Type 0
phase_text tree workers remarks kind share =
    code remarks ⨾ line (codes "e++;") ⨾ boundary_text tree workers kind ⨾ code share
