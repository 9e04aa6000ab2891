-- Groups, one subject after another.
use Rattle.std.proofs.Common.{◌≡◌, ℕ, ◌+◌, ◌<◌, ◌≤◌, Bool, true, false, cond, List, [], ◌∷◌, ◌++◌, length, map, drop, get_or, if◌then◌else◌, refl, ap, sym, ◌∙◌}
use Rattle.std.specs.List.{filter, flat_map}
use Rattle.std.proofs.lemmas.Bool.{le-leb, lt-leb}
use Rattle.std.proofs.lemmas.List.{map-append}
use Rattle.comm_system.specs.GroupViews.{paired}
use Rattle.conflict_rules.specs.Conflicts.{conflict}
use Rattle.conflict_rules.specs.References.{Reference}
use Rattle.comm_system.specs.Subjects.{Listed, Subject, count_about, with_subject, with_subjects}
use Rattle.comm_system.specs.SubjectViews.{subject_at}
use Rattle.comm_system.specs.declared.subject.Scene.{Scene}
use Rattle.comm_system.proofs.RowSteps.{left_more}

abbrev one_more : Listed → Subject → Listed
one_more l s = record { groups = l.groups ++ record { number = l.next; subject = s } ∷ []; next = l.next + count_about s }

pub past : (most : ℕ) (l : Listed) (s : Subject) → most < l.next → l ≡ with_subject most l s
past most l s lt = sym (ap (λ b. if b then one_more l s else l) (lt-leb l.next most lt))

pub within : (most : ℕ) (l : Listed) (s : Subject) (new : Listed) → l.next ≤ most → new ≡ one_more l s → new ≡ with_subject most l s
within most l s new le is = is ∙ sym (ap (λ b. if b then one_more l s else l) (le-leb l.next most le))

pub all_past : (most : ℕ) (l : Listed) (ss : List Subject) → most < l.next → l ≡ with_subjects most l ss
all_past most l [] lt = refl
all_past most l (s ∷ ss) lt = all_past most l ss lt ∙ ap (λ m. with_subjects most m ss) (past most l s lt)

pub both : (most : ℕ) (l : Listed) (xs ys : List Subject) → with_subjects most l (xs ++ ys) ≡ with_subjects most (with_subjects most l xs) ys
both most l [] ys = refl
both most l (x ∷ xs) ys = both most (with_subject most l x) xs ys

-- some subjects more of those that are left
pub listed_more : (most : ℕ) (old new whole : Listed) (left xs rest : List Subject) → with_subjects most old left ≡ whole → left ≡ xs ++ rest → new ≡ with_subjects most old xs → with_subjects most new rest ≡ whole
listed_more most old new whole left xs rest h e n = ap (λ l. with_subjects most l rest) n ∙ sym (both most old xs rest) ∙ sym (ap (with_subjects most old) e) ∙ h

-- the subjects of an access with those that conflict with it
abbrev pub partners : Scene → Reference → List Reference → List Subject
partners scene a bs = map (subject_at scene) (map (paired a) (filter (conflict a) bs))

pub one_partner : (scene : Scene) (a b : Reference) (bs : List Reference) → partners scene a (b ∷ bs) ≡ partners scene a (b ∷ []) ++ partners scene a bs
one_partner scene a b bs = by (conflict a b)
  where
    by : (t : Bool) → map (subject_at scene) (map (paired a) (cond t (b ∷ filter (conflict a) bs) (filter (conflict a) bs))) ≡ map (subject_at scene) (map (paired a) (cond t (b ∷ []) [])) ++ partners scene a bs
    by true = refl
    by false = refl

pub partners_more : {A : Type 0} (seen : A → Reference) (scene : Scene) (a : Reference) (bs : List A) (k : ℕ) (b : A) → k < length bs → b ≡ get_or bs k b →
    partners scene a (map seen (drop k bs)) ≡ partners scene a (seen b ∷ []) ++ partners scene a (map seen (drop (k + 1) bs))
partners_more seen scene a bs k b lt is = ap (partners scene a) (left_more seen bs k b lt is) ∙ one_partner scene a (seen b) (map seen (drop (k + 1) bs))

-- those of all pairs
abbrev pub all_pairs : Scene → List Reference → List Reference → List Subject
all_pairs scene bs xs = map (subject_at scene) (flat_map (λ a. map (paired a) (filter (conflict a) bs)) xs)

pub pairs_more : {A : Type 0} (seen : A → Reference) (scene : Scene) (bs : List Reference) (xs : List A) (k : ℕ) (a : A) → k < length xs → a ≡ get_or xs k a →
    all_pairs scene bs (map seen (drop k xs)) ≡ partners scene (seen a) bs ++ all_pairs scene bs (map seen (drop (k + 1) xs))
pairs_more seen scene bs xs k a lt is =
    ap (all_pairs scene bs) (left_more seen xs k a lt is)
    ∙ map-append (subject_at scene) (map (paired (seen a)) (filter (conflict (seen a)) bs)) (flat_map (λ a. map (paired a) (filter (conflict a) bs)) (map seen (drop (k + 1) xs)))

-- one thing's subjects more
pub flat_more : {A B : Type 0} (seen : A → B) (f : B → List Subject) (xs : List A) (k : ℕ) (x : A) → k < length xs → x ≡ get_or xs k x →
    flat_map f (map seen (drop k xs)) ≡ f (seen x) ++ flat_map f (map seen (drop (k + 1) xs))
flat_more seen f xs k x lt is = ap (flat_map f) (left_more seen xs k x lt is)
