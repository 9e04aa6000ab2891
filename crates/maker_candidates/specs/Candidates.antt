-- What may stand in front of a phase of a made plan, from the weakest on.
use Rattle.std.specs.Prelude.{ℕ, suc, ◌==◌, ℤ, ◌&&◌, Bool, List, [], ◌∷◌, ◌++◌, map, reverse, Option, None, if◌then◌else◌}
use Rattle.std.specs.List.{filter_map, list_all, list_any}
use Rattle.nest_tree.specs.Tree.{Head, Tree, param_values}
use Rattle.nest_walk.specs.Tables.{Loaded, element, array}
use Rattle.owner_partition.specs.declared.anchor.Anchor.{Anchor}
use Rattle.owner_partition.specs.declared.cut.Mark.{Mark}
use Rattle.sync_plan.specs.declared.plan.Kind.{Kind}
use Rattle.sync_plan.specs.declared.plan.Kind.TheVariants.{Nothing, Producer, Left, Right, Both, Barrier}
use Rattle.sync_plan.specs.declared.plan.Plan.{Plan}
use Rattle.conflict_rules.specs.Boundaries.{is_prefix}
use Rattle.conflict_rules.specs.References.{Reference, StaticPhase, phases_of, references_of}
use Rattle.maker_anchors.specs.Anchors.{element_owner}
use Rattle.maker_candidates.specs.Same.{says_same}

-- an anchor behind the others, if none of them names the same processor among so many at these values of the named constants
abbrev pub once_more : List ℤ → ℕ → List Anchor → Anchor → List Anchor
once_more values workers seen a =
    if list_any (says_same values workers a) seen then seen else seen ++ a ∷ []

-- these anchors behind the others, each once
abbrev pub each_once : List ℤ → ℕ → List Anchor → List Anchor → List Anchor
each_once values workers seen [] = seen
each_once values workers seen (a ∷ rest) =
    each_once values workers (once_more values workers seen a) rest

-- the numbers of the Outer loops round a phase, the innermost first
abbrev pub round : StaticPhase → List ℕ
round s = reverse (map (λ (h : Head). h.number) s.outer)

-- an anchor names only these loops
abbrev pub names_only_these : List ℕ → Anchor → Bool
names_only_these loops a = list_all (λ p. list_any (λ l. l == p.0) loops) a.form.loops

-- in front of a phase one processor owns all of another that was executed last: the other's Outer loops are the first of those round it, and its anchor names no loop but these
abbrev pub can_produce : StaticPhase → Anchor → StaticPhase → Bool
can_produce s a t = is_prefix s.outer t.outer && names_only_these (round s) a

-- the anchors of such phases, in text order
abbrev pub phase_owners : StaticPhase → List StaticPhase → List Anchor → List Anchor
phase_owners t [] anchors = []
phase_owners t (s ∷ phases) [] = []
phase_owners t (s ∷ phases) (a ∷ anchors) =
    if can_produce s a t then a ∷ phase_owners t phases anchors else phase_owners t phases anchors

-- the owner of what an access of the phase with this number touches, if no loop inside the phase says which: none of an array that is printed whole
abbrev pub accessed_owner : Tree → List Mark → ℕ → ℕ → StaticPhase → Loaded → Option Anchor
accessed_owner tree marks workers u t (element a) = element_owner tree marks workers u (round t) a
accessed_owner tree marks workers u t (array variable) = None

abbrev pub accessed_owners : Tree → List Mark → ℕ → ℕ → StaticPhase → List Reference → List Anchor
accessed_owners tree marks workers u t references =
    filter_map (λ (r : Reference). accessed_owner tree marks workers u t r.what) references

-- the owners that the phase with this number may wait for: of phases with these anchors, then of what it accesses, each once
abbrev pub producers_at : Tree → List Mark → ℕ → List Anchor → List StaticPhase → ℕ → StaticPhase
    → List Anchor
producers_at tree marks workers anchors phases u t =
    let values = param_values tree in
    each_once values workers (each_once values workers [] (phase_owners t phases anchors))
    (accessed_owners tree marks workers u t (references_of t))

-- the candidates in front of the phase with this number, from the weakest on
abbrev pub candidates_at : Tree → List Mark → ℕ → List Anchor → List StaticPhase → ℕ → StaticPhase
    → List Kind
candidates_at tree marks workers anchors phases u t = Nothing
    ∷ (map Producer (producers_at tree marks workers anchors phases u t)
    ++ Left ∷ Right ∷ Both ∷ Barrier ∷ [])

-- those of these phases, of which the first has this number
abbrev pub candidates_from : Tree → List Mark → ℕ → List Anchor → List StaticPhase → ℕ
    → List StaticPhase → List (List Kind)
candidates_from tree marks workers anchors phases u [] = []
candidates_from tree marks workers anchors phases u (t ∷ rest) = candidates_at tree marks workers
    anchors phases u t ∷ candidates_from tree marks workers anchors phases (suc u) rest

-- the candidates in front of each phase of a plan
abbrev pub candidates_in : Tree → Plan → List (List Kind)
candidates_in tree plan = candidates_from tree plan.cut.marks plan.workers plan.anchors
    (phases_of tree plan.cut.marks) 1 (phases_of tree plan.cut.marks)
