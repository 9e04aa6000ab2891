-- Slots without accesses that conflict: nothing is asked of them.
use Rattle.std.proofs.Common.{◌≡◌, ℕ, ◌||◌, ◌++◌, Bool, true, false, List, [], ◌∷◌, map, refl, ap, sym, ◌∙◌, if◌then◌else◌}
use Rattle.std.specs.List.{filter, flat_map, list_any}
use Rattle.nest_tree.specs.Tree.{Tree}
use Rattle.own_scalars.proofs.Stored.{neither}
use Rattle.owner_partition.specs.Cuts.{Cutting}
use Rattle.sync_plan.specs.declared.plan.Kind.{Kind}
use Rattle.sync_plan.specs.declared.plan.Plan.{Plan}
use Rattle.comm_system.specs.Obligations.{Slot, pair_tasks, slot_signature}
use Rattle.comm_system.specs.Pairs.{Pair, conflict, pairs_of}
use Rattle.comm_system.specs.References.{Reference, StaticPhase, phases_of, references_of, variable_of}
use Rattle.comm_system.specs.Shown.{is_among, privates_in, shown_among, shown_of}
use Rattle.comm_system.specs.Signatures.{Signature, blocked, waits}
use Rattle.plan_maker.specs.Asked.{asked, owners_dealt, slot_asked}
use Rattle.plan_maker.specs.Meeting.{meets}
use Rattle.plan_maker.specs.Trials.{asked_of_slot, slots_asked}

none-left : (p : Reference → Bool) (xs : List Reference) → list_any p xs ≡ false → filter p xs ≡ []
none-left p [] h = refl
none-left p (x ∷ xs) h = by (p x) (list_any p xs) h (none-left p xs)
  where
    by : (b rest : Bool) → (b || rest) ≡ false → (rest ≡ false → filter p xs ≡ []) → (if b then x ∷ filter p xs else filter p xs) ≡ []
    by true rest e f = absurd (let no : true ≡ false = e in cc)
    by false rest e f = f e

abbrev pair-with : Reference → Reference → Pair
pair-with a b = record { first = a; second = b }

abbrev couples : List Reference → Reference → List Pair
couples ts a = map (pair-with a) (filter (conflict a) ts)

no-pairs : (ss ts : List Reference) → list_any (λ a. list_any (conflict a) ts) ss ≡ false → flat_map (couples ts) ss ≡ []
no-pairs [] ts h = refl
no-pairs (a ∷ ss) ts h = by (list_any (conflict a) ts) refl (list_any (λ a. list_any (conflict a) ts) ss) h (no-pairs ss ts)
  where
    by : (b : Bool) → list_any (conflict a) ts ≡ b → (rest : Bool) → (b || rest) ≡ false → (rest ≡ false → flat_map (couples ts) ss ≡ []) → couples ts a ++ flat_map (couples ts) ss ≡ []
    by true at rest e f = absurd (let no : true ≡ false = e in cc)
    by false at rest e f = ap (λ bs. map (pair-with a) bs ++ flat_map (couples ts) ss) (none-left (conflict a) ts at) ∙ f e

-- of accesses that others see there are no more
none-weaker : (p q : Reference → Bool) → ((x : Reference) → p x ≡ false → q x ≡ false) → (xs : List Reference) → list_any p xs ≡ false → list_any q xs ≡ false
none-weaker p q each [] h = refl
none-weaker p q each (x ∷ xs) h = let parts = neither (p x) (list_any p xs) h in ap (λ b. b || list_any q xs) (each x parts.0) ∙ none-weaker p q each xs parts.1

none-shown : (p : Reference → Bool) (privates taken : List ℕ) (rs : List Reference) → list_any p rs ≡ false → list_any p (shown_among privates taken rs) ≡ false
none-shown p privates taken [] h = refl
none-shown p privates taken (r ∷ rs) h =
    let parts = neither (p r) (list_any p rs) h in
    by (is_among privates (variable_of r.what)) (is_among taken (variable_of r.what)) parts.0 (none-shown p privates taken rs parts.1) (none-shown p privates (taken ++ variable_of r.what ∷ []) rs parts.1)
  where
    by : (private before : Bool) → p r ≡ false → list_any p (shown_among privates taken rs) ≡ false → list_any p (shown_among privates (taken ++ variable_of r.what ∷ []) rs) ≡ false →
        list_any p (if private then (if before then shown_among privates taken rs else r ∷ shown_among privates (taken ++ variable_of r.what ∷ []) rs) else r ∷ shown_among privates taken rs) ≡ false
    by true true here rest more = rest
    by true false here rest more = ap (λ b. b || list_any p (shown_among privates (taken ++ variable_of r.what ∷ []) rs)) here ∙ more
    by false before here rest more = ap (λ b. b || list_any p (shown_among privates taken rs)) here ∙ rest

no-shown-pairs : (cut : Cutting) (s t : StaticPhase) → list_any (λ a. list_any (conflict a) (references_of t)) (references_of s) ≡ false → pairs_of cut s t ≡ []
no-shown-pairs cut s t h =
    let with-any = λ (ts : List Reference) (a : Reference). list_any (conflict a) ts in
    let firsts = none-shown (with-any (references_of t)) (privates_in cut s.what) [] (references_of s) h in
    no-pairs (shown_of cut s) (shown_of cut t)
    (none-weaker (with-any (references_of t)) (with-any (shown_of cut t)) (λ a. none-shown (conflict a) (privates_in cut t.what) [] (references_of t)) (shown_of cut s) firsts)

pub unasked : (tree : Tree) (plan : Plan) (slot : Slot) (g : Signature) → meets slot ≡ false → slot_asked tree plan slot g ≡ []
unasked tree plan slot blocked h = refl
unasked tree plan slot (waits left right producers) h =
    let none : pairs_of plan.cut slot.first slot.second ≡ [] = no-shown-pairs plan.cut slot.first slot.second h in
    ap (λ ps. map (asked (owners_dealt plan slot producers)) (flat_map (pair_tasks tree plan slot left right producers) ps)) none

-- so those that have such are asked about the same as all
pub meeting_asked : (tree : Tree) (plan : Plan) (kinds : List Kind) (slots : List Slot) → slots_asked tree plan kinds (filter meets slots) ≡ slots_asked tree plan kinds slots
meeting_asked tree plan kinds [] = refl
meeting_asked tree plan kinds (x ∷ slots) = by (meets x) refl (meeting_asked tree plan kinds slots)
  where
    by : (b : Bool) → meets x ≡ b → slots_asked tree plan kinds (filter meets slots) ≡ slots_asked tree plan kinds slots →
        slots_asked tree plan kinds (if b then x ∷ filter meets slots else filter meets slots) ≡ asked_of_slot tree plan kinds x ++ slots_asked tree plan kinds slots
    by true is rest = ap (λ qs. asked_of_slot tree plan kinds x ++ qs) rest
    by false is rest = rest ∙ sym (ap (λ qs. qs ++ slots_asked tree plan kinds slots) (unasked tree plan x (slot_signature plan.version kinds (phases_of tree plan.cut.marks) x) is))

-- a slot among those that have such, among all
abbrev pub Among : (slots before : List Slot) (slot : Slot) → Type 0
Among slots before slot = (front : List Slot) × (back : List Slot) × (slots ≡ front ++ slot ∷ back) × (filter meets front ≡ before)

pub meeting_among : (slots before behind : List Slot) (slot : Slot) → filter meets slots ≡ before ++ slot ∷ behind → Among slots before slot
meeting_among [] [] behind slot is = absurd (let no : [] ≡ slot ∷ behind = is in cc)
meeting_among [] (b ∷ before) behind slot is = absurd (let no : [] ≡ b ∷ (before ++ slot ∷ behind) = is in cc)
meeting_among (x ∷ slots) before behind slot is = by (meets x) refl is before refl (λ bs found. meeting_among slots bs behind slot found)
  where
    more : (bs : List Slot) (b : Bool) → meets x ≡ b → Among slots bs slot → (if b then x ∷ bs else bs) ≡ before → Among (x ∷ slots) before slot
    more bs b at inner whole = (x ∷ inner.0, inner.1, ap (λ ys. x ∷ ys) inner.2, ap (λ (c : Bool). if c then x ∷ filter meets inner.0 else filter meets inner.0) at ∙ ap (λ ys. if b then x ∷ ys else ys) inner.3 ∙ whole)

    by : (b : Bool) → meets x ≡ b → (if b then x ∷ filter meets slots else filter meets slots) ≡ before ++ slot ∷ behind → (bs : List Slot) → bs ≡ before → ((cs : List Slot) → filter meets slots ≡ cs ++ slot ∷ behind → Among slots cs slot) → Among (x ∷ slots) before slot
    by true at found [] same inner =
        let here : x ∷ filter meets slots ≡ slot ∷ behind = found ∙ ap (λ ys. ys ++ slot ∷ behind) (sym same) in
        let slot-is : x ≡ slot = cc in
        ([], slots, ap (λ y. y ∷ slots) slot-is, same)
    by true at found (b ∷ bs) same inner =
        let here : x ∷ filter meets slots ≡ b ∷ (bs ++ slot ∷ behind) = found ∙ ap (λ ys. ys ++ slot ∷ behind) (sym same) in
        let first : x ≡ b = cc in
        let rest : filter meets slots ≡ bs ++ slot ∷ behind = cc in
        more bs true at (inner bs rest) (ap (λ y. y ∷ bs) first ∙ same)
    by false at found bs same inner = more before false at (inner before found) refl
