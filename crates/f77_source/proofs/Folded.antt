-- Statements, one after another.
use Rattle.std.proofs.Common.{◌≡◌, ℕ, ◌+◌, ◌<◌, List, [], ◌∷◌, ◌++◌, length, map, drop, take, get_or, Option, Some, None, refl, sym, ap, ◌∙◌}
use Rattle.std.proofs.lemmas.List.{drop_more, take_more, map_push}
use Rattle.std.specs.Option.{option_or}
use Rattle.f77_lines.specs.Listing.{entry_of}
use Rattle.f77_lines.specs.Statements.{Entry, statement, directive}
use Rattle.f77_lines.specs.declared.line.Line.{Line}
use Rattle.f77_program.specs.declared.refusal.Refusal.{Refusal}
use Rattle.f77_program.specs.declared.refusal.Refusal.TheVariants.{Statement, BadSetting, NoMemory}
use Rattle.f77_scene.specs.Fault as scene
use Rattle.f77_scene.specs.Reading.{SourceStatement, reading_of, statements_in, directives_of, at_line, fault_with, scene_with, body_with, fault_from, scene_from, body_from}
use Rattle.f77_scene.specs.Scene.{Name, Scene, Given}
use Rattle.f77_scene.specs.Trees.{Body}
use Rattle.f77_source.specs.Answers.{Refuses}
use Rattle.f77_source.specs.Sources.{source_of}
use Rattle.f77_source.specs.declared.source.Source.{Source}

pub fault_from-more : (given : Given) (s : Scene) (p : SourceStatement) (ps : List SourceStatement)
    → fault_from given s (p ∷ ps) ≡ option_or (at_line p.line (fault_with given s (length ps) p.label p.reading)) (fault_from given (scene_with given s p.label p.reading) ps)
unfolding fault_from
fault_from-more given s p ps = refl

pub fault_from-none : (given : Given) (s : Scene) → fault_from given s [] ≡ None
unfolding fault_from
fault_from-none given s = refl

pub scene_from-more : (given : Given) (s : Scene) (p : SourceStatement) (ps : List SourceStatement) → scene_from given s (p ∷ ps) ≡ scene_from given (scene_with given s p.label p.reading) ps
unfolding scene_from
scene_from-more given s p ps = refl

pub scene_from-none : (given : Given) (s : Scene) → scene_from given s [] ≡ s
unfolding scene_from
scene_from-none given s = refl

pub body_from-more : (variables : List Name) (given : Given) (s : Scene) (p : SourceStatement) (ps : List SourceStatement) (body : Body)
    → body_from variables given s (p ∷ ps) body ≡ body_from variables given (scene_with given s p.label p.reading) ps (body_with variables s p.line p.label p.reading body)
unfolding body_from
body_from-more variables given s p ps body = refl

pub body_from-none : (variables : List Name) (given : Given) (s : Scene) (body : Body) → body_from variables given s [] body ≡ body
unfolding body_from
body_from-none variables given s body = refl

-- ---- sources, one after another

pub sources_more : (sources : List Source) (i : ℕ) (p : Source) → i < length sources → p ≡ get_or sources i p → map source_of (drop i sources) ≡ source_of p ∷ map source_of (drop (i + 1) sources)
sources_more sources i p lt is = ap (map source_of) (drop_more sources i p lt) ∙ ap (λ x. source_of x ∷ map source_of (drop (i + 1) sources)) (sym is)

-- a statement without fault in front of others
pub passes : (given : Given) (s : Scene) (p : SourceStatement) (ps : List SourceStatement) → fault_with given s (length ps) p.label p.reading ≡ None → fault_from given s (p ∷ ps) ≡ fault_from given (scene_with given s p.label p.reading) ps
passes given s p ps h = fault_from-more given s p ps ∙ ap (λ o. option_or (at_line p.line o) (fault_from given (scene_with given s p.label p.reading) ps)) h

-- and one that has a fault
pub refuses_first : (first rest : Option scene.Refusal) (r : Refusal) → Refuses first r → Refuses (option_or first rest) r
refuses_first first rest (Statement fault line) h = ap (λ o. option_or o rest) h
refuses_first first rest (BadSetting index) h = ap (λ o. option_or o rest) h
refuses_first first rest NoMemory h = tt

-- none of them has a fault
pub first_passes : (given : Given) (s : Scene) (p : SourceStatement) (ps : List SourceStatement) → fault_from given s (p ∷ ps) ≡ None → fault_with given s (length ps) p.label p.reading ≡ None
first_passes given s p ps h = by_fault (fault_with given s (length ps) p.label p.reading) (sym (fault_from-more given s p ps) ∙ h)
  where
    by_fault : (o : Option scene.Fault) → option_or (at_line p.line o) (fault_from given (scene_with given s p.label p.reading) ps) ≡ None → o ≡ None
    by_fault None e = refl
    by_fault (Some fault) e = absurd cc

-- ---- what is listed, one after another

pub statements_in-push : (entries : List Entry) (e : Entry) → statements_in (entries ++ e ∷ []) ≡ statements_in entries ++ statements_in (e ∷ [])
unfolding statements_in
statements_in-push [] e = refl
statements_in-push (statement line label text ∷ entries) e = ap (λ ps. record { line = line; label = label; reading = reading_of text } ∷ ps) (statements_in-push entries e)
statements_in-push (directive line text ∷ entries) e = statements_in-push entries e

pub entries_push : (lines : List Line) (i : ℕ) (line : Line) → i < length lines → line ≡ get_or lines i line → map entry_of (take (i + 1) lines) ≡ map entry_of (take i lines) ++ entry_of line ∷ []
entries_push lines i line lt is = ap (map entry_of) (take_more lines i line lt) ∙ map_push entry_of (take i lines) _ ∙ ap (λ x. map entry_of (take i lines) ++ entry_of x ∷ []) (sym is)

pub entries_more : (lines : List Line) (i : ℕ) (line : Line) → i < length lines → line ≡ get_or lines i line → map entry_of (drop i lines) ≡ entry_of line ∷ map entry_of (drop (i + 1) lines)
entries_more lines i line lt is = ap (map entry_of) (drop_more lines i line lt) ∙ ap (λ x. entry_of x ∷ map entry_of (drop (i + 1) lines)) (sym is)

-- a statement alone, and a directive alone
pub statements_in-statement : (line label : ℕ) (text : List ℕ) → statements_in (statement line label text ∷ []) ≡ record { line = line; label = label; reading = reading_of text } ∷ []
unfolding statements_in
statements_in-statement line label text = refl

pub statements_in-directive : (line : ℕ) (text : List ℕ) → statements_in (directive line text ∷ []) ≡ []
unfolding statements_in
statements_in-directive line text = refl

pub statements_in-none : statements_in [] ≡ []
unfolding statements_in
statements_in-none = refl

-- ---- directives

pub directives_of-push : (entries : List Entry) (e : Entry) → directives_of (entries ++ e ∷ []) ≡ directives_of entries ++ directives_of (e ∷ [])
directives_of-push [] e = refl
directives_of-push (statement line label text ∷ entries) e = directives_of-push entries e
directives_of-push (directive line text ∷ entries) e = ap (λ texts. text ∷ texts) (directives_of-push entries e)
