-- How many statements a tree has.
use Rattle.std.proofs.Common.{◌≡◌, ℕ, ◌+◌, ◌≤◌, ◌<◌, ◌==◌, Bool, true, false, List, [], ◌∷◌, ◌++◌, if◌then◌else◌, Result, Ok, Err, codes, refl, ap, ◌∙◌, arith}
use Rattle.nest_tree.specs.Tree.{Statement, do_loop}
use Rattle.nest_tree.specs.WellFormed.{statement_count}
use Rattle.f77_forms.specs.declared.fault.TextFault.{TextFault}
use Rattle.f77_forms.specs.Form.{StatementForm, program, integer, dimension, parameter, do_loop as loop_form, assign, logical_if, print, continue, stop, end}
use Rattle.f77_lines.specs.Listing.{EndsWithEnd}
use Rattle.f77_lines.specs.Statements.{Entry, statement}
use Rattle.f77_scene.specs.Behind.{behind}
use Rattle.f77_scene.specs.Reading.{SourceStatement, statements_in, reading_of, scene_with, body_with, scene_from, body_from}
use Rattle.f77_scene.specs.Scene.{Name, Scene, Given}
use Rattle.f77_scene.specs.Trees.{Begun, Body, in_a_row, closed, body_behind, statement_tree}
use Rattle.f77_source.proofs.Folded.{scene_from-more, scene_from-none, body_from-more, body_from-none, statements_in-push, statements_in-statement}
use Rattle.f77_source.proofs.Kept.{constants_alone}
use Rattle.f77_source.proofs.Texts.{reading_found}

-- statements in a row, and loops that are open with what stands in front of each
abbrev count_of : List Statement → ℕ
count_of xs = statement_count (in_a_row xs)

abbrev open_count : List Begun → ℕ
open_count [] = 0
open_count (b ∷ begun) = count_of b.front + 1 + open_count begun

abbrev body_count : Body → ℕ
body_count body = count_of body.items + open_count body.begun

count-append : (xs ys : List Statement) → count_of (xs ++ ys) ≡ count_of xs + count_of ys
count-append [] ys = omega arith
count-append (x ∷ xs) ys = (let rest = count-append xs ys in omega arith)

-- a loop that ends counts as when it was open
count-closed : (label : ℕ) (begun : List Begun) (items : List Statement) → body_count (closed label begun items) ≡ count_of items + open_count begun
count-closed label [] items = refl
count-closed label (b ∷ begun) items = by_test (b.label == label) (count-closed label begun (b.front ++ do_loop b.head (in_a_row items) ∷ []))
  where
    whole : List Statement
    whole = b.front ++ do_loop b.head (in_a_row items) ∷ []

    by_test : (t : Bool) → body_count (closed label begun whole) ≡ count_of whole + open_count begun
        → body_count (if t then closed label begun whole else record { begun = b ∷ begun; items = items }) ≡ count_of items + open_count (b ∷ begun)
    by_test true h = (let added = count-append b.front (do_loop b.head (in_a_row items) ∷ []) in omega arith)
    by_test false h = refl

-- ---- one statement more

work-count : (variables : List Name) (s : Scene) (line label : ℕ) (f : StatementForm) (body : Body) → count_of (statement_tree variables s line f) ≤ 1
    → body_count (closed label body.begun (body.items ++ statement_tree variables s line f)) ≤ body_count body + 1
work-count variables s line label f body few =
    let whole = count-closed label body.begun (body.items ++ statement_tree variables s line f) in
    let added = count-append body.items (statement_tree variables s line f) in
    omega arith

behind-count : (variables : List Name) (s : Scene) (line label : ℕ) (f : StatementForm) (body : Body) → body_count (body_behind variables s line label f body) ≤ body_count body + 1
behind-count variables s line label (program n) body = omega arith
behind-count variables s line label (integer ds) body = omega arith
behind-count variables s line label (dimension ds) body = omega arith
behind-count variables s line label (parameter ds) body = omega arith
behind-count variables s line label (loop_form d) body = omega arith
behind-count variables s line label (assign a) body = work-count variables s line label (assign a) body (omega arith)
behind-count variables s line label (logical_if c a) body = work-count variables s line label (logical_if c a) body (omega arith)
behind-count variables s line label (print items) body = work-count variables s line label (print items) body (omega arith)
behind-count variables s line label continue body = work-count variables s line label continue body (omega arith)
behind-count variables s line label stop body = work-count variables s line label stop body (omega arith)
behind-count variables s line label end body = work-count variables s line label end body (omega arith)

end-count : (variables : List Name) (s : Scene) (line label : ℕ) (body : Body) → body_count (body_behind variables s line label end body) ≡ body_count body
end-count variables s line label body = (let whole = count-closed label body.begun (body.items ++ []) in let added = count-append body.items [] in omega arith)

scene-count : (given : Given) (s : Scene) (label : ℕ) (f : StatementForm) → (behind given s label f).count ≡ s.count + 1
scene-count given s label (program n) = refl
scene-count given s label (integer ds) = refl
scene-count given s label (dimension ds) = refl
scene-count given s label (parameter ds) = ap (λ n. n + 1) (constants_alone given s ds).count
scene-count given s label (loop_form d) = refl
scene-count given s label (assign a) = refl
scene-count given s label (logical_if c a) = refl
scene-count given s label (print items) = refl
scene-count given s label continue = refl
scene-count given s label stop = refl
scene-count given s label end = refl

-- ---- all of them; END has no node

step-count : (variables : List Name) (given : Given) (s : Scene) (line label : ℕ) (r : Result StatementForm TextFault) (body : Body) → body_count body ≤ s.count
    → body_count (body_with variables s line label r body) ≤ (scene_with given s label r).count
step-count variables given s line label (Ok f) body h = (let b = behind-count variables s line label f body in let n = scene-count given s label f in omega arith)
step-count variables given s line label (Err fault) body h = h

pub end_last : (variables : List Name) (given : Given) (s : Scene) (front : List SourceStatement) (p : SourceStatement) (body : Body) → p.reading ≡ Ok end → body_count body ≤ s.count
    → body_count (body_from variables given s (front ++ p ∷ []) body) < (scene_from given s (front ++ p ∷ [])).count
end_last variables given s [] p body is h =
    let b : body_count (body_with variables s p.line p.label p.reading body) ≡ body_count body = ap (λ r. body_count (body_with variables s p.line p.label r body)) is ∙ end-count variables s p.line p.label body in
    let n : (scene_with given s p.label p.reading).count ≡ s.count + 1 = ap (λ r. (scene_with given s p.label r).count) is ∙ scene-count given s p.label end in
    let bs = ap body_count (body_from-more variables given s p [] body ∙ body_from-none variables given (scene_with given s p.label p.reading) (body_with variables s p.line p.label p.reading body)) in
    let ns = ap (λ (x : Scene). x.count) (scene_from-more given s p [] ∙ scene_from-none given (scene_with given s p.label p.reading)) in
    omega arith
end_last variables given s (q ∷ front) p body is h =
    let rest = end_last variables given (scene_with given s q.label q.reading) front p (body_with variables s q.line q.label q.reading body) is (step-count variables given s q.line q.label q.reading body h) in
    let bs = ap body_count (body_from-more variables given s q (front ++ p ∷ []) body) in
    let ns = ap (λ (x : Scene). x.count) (scene_from-more given s q (front ++ p ∷ [])) in
    omega arith

-- the statements of a list that ends with END
pub listed_end : (entries : List Entry) → EndsWithEnd entries → (front : List SourceStatement) × (p : SourceStatement) × (statements_in entries ≡ front ++ p ∷ []) × (p.reading ≡ Ok end)
listed_end entries (front, line, label, e) =
    let p : SourceStatement = record { line = line; label = label; reading = reading_of (codes "END") } in (
      statements_in front,
      p,
      ap statements_in e ∙ statements_in-push front (statement line label (codes "END")) ∙ ap (λ ps. statements_in front ++ ps) (statements_in-statement line label (codes "END")),
      reading_found (codes "END") end (record { good = refl; written = refl }),
    )

pub counted_end : (variables : List Name) (given : Given) (s : Scene) (ps front : List SourceStatement) (p : SourceStatement) (body : Body) → ps ≡ front ++ p ∷ [] → p.reading ≡ Ok end → body_count body ≤ s.count
    → count_of (body_from variables given s ps body).items < (scene_from given s ps).count
counted_end variables given s ps front p body e is h =
    let whole = end_last variables given s front p body is h in
    let bs = ap (λ xs. count_of (body_from variables given s xs body).items) e in
    let ns = ap (λ xs. (scene_from given s xs).count) e in
    omega arith
