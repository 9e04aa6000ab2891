-- What a kind of wait names, what it is called, and how strong it is.
use Rattle.std.specs.Prelude.{ℕ, List, [], ◌∷◌, Option, Some, None, codes, if◌then◌else◌}
use Rattle.std.specs.Str.{bytes_eq}
use Rattle.owner_partition.specs.declared.anchor.Anchor.{Anchor}
use Rattle.sync_plan.specs.declared.plan.Kind.{Kind}
use Rattle.sync_plan.specs.declared.plan.Kind.TheVariants.{Nothing, Producer, Left, Right, Both, Barrier, Join}

-- the anchor of the owner that is waited for; only a producer has one
abbrev pub anchor_in : Kind → Option Anchor
anchor_in Nothing = None
anchor_in (Producer a) = Some a
anchor_in Left = None
anchor_in Right = None
anchor_in Both = None
anchor_in Barrier = None
anchor_in Join = None

-- what a kind is called in a plan
abbrev pub kind_word : Kind → List ℕ
kind_word Nothing = codes "NOTHING"
kind_word (Producer a) = codes "PRODUCER"
kind_word Left = codes "LEFT"
kind_word Right = codes "RIGHT"
kind_word Both = codes "BOTH"
kind_word Barrier = codes "BARRIER"
kind_word Join = codes "JOIN"

-- what they are called, from the weakest on
abbrev pub all_words : List (List ℕ)
all_words = codes "NOTHING" ∷ codes "PRODUCER" ∷ codes "LEFT" ∷ codes "RIGHT" ∷ codes "BOTH"
    ∷ codes "BARRIER" ∷ codes "JOIN" ∷ []

-- the kind without an anchor that a word names, Join where no other is called so
abbrev pub plain_kind : List ℕ → Kind
plain_kind word =
    if bytes_eq word (codes "NOTHING") then Nothing
    else if bytes_eq word (codes "LEFT") then Left
    else if bytes_eq word (codes "RIGHT") then Right
    else if bytes_eq word (codes "BOTH") then Both
    else if bytes_eq word (codes "BARRIER") then Barrier
    else Join

-- how strong a wait is
abbrev pub strength : Kind → ℕ
strength Nothing = 0
strength (Producer a) = 1
strength Left = 2
strength Right = 2
strength Both = 3
strength Barrier = 4
strength Join = 5
