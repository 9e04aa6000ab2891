-- What is known at a statement is enough where all arrays and named constants are known, and the loops round it.
use Rattle.std.proofs.Common.{◌≡◌, ℕ, ◌+◌, ◌<◌, ◌^◌, true, List, [], ◌∷◌, length, None, Result, Ok, Err, refl, sym, ap, subst, ◌∙◌, arith}
use Rattle.f77_forms.specs.declared.fault.TextFault.{TextFault}
use Rattle.f77_forms.specs.Characters.{decimal}
use Rattle.f77_forms.specs.Form.{StatementForm, program, integer, dimension, parameter, do_loop, assign, logical_if, print, continue, stop, end}
use Rattle.f77_program.specs.Reaches.{reach_of}
use Rattle.f77_program.specs.declared.reach.Reach.TheVariants.{Within}
use Rattle.f77_scene.specs.Behind.{behind}
use Rattle.f77_scene.specs.Reading.{SourceStatement, body_from, body_with, fault_from, fault_with, fault_of_form, scene_from, scene_with}
use Rattle.f77_scene.specs.Scene.{Given, Name, Scene, first_scene}
use Rattle.f77_scene.specs.Tests.{affine_in, left_open}
use Rattle.f77_scene.specs.Trees.{Body, body_behind, first_body}
use Rattle.f77_source.specs.Limits.{KeepsLimits}
use Rattle.f77_source.specs.Stages.{ArePassed, AreWithin, stage_with}
use Rattle.f77_source.proofs.Declared.{first_kept}
use Rattle.f77_source.proofs.Faultless.{affine_within}
use Rattle.f77_source.proofs.Folded.{body_from-more, first_passes, passes, scene_from-more}
use Rattle.f77_source.proofs.Kept.{constants_alone, kept_with}
use Rattle.f77_source.proofs.Later.{from-later}
use Rattle.f77_source.proofs.Looked.{body-looked, looked, looked_at, reach-looked}

-- ---- the same named constants, arrays and loops

same_looked : (s t : Scene) → t.constants ≡ s.constants → t.arrays ≡ s.arrays → t.loops ≡ s.loops → t.opened ≡ s.opened → looked t ≡ looked s
same_looked s t c a l o =
    ap (λ x. looked_at x t.arrays t.loops t.opened) c ∙ ap (λ x. looked_at s.constants x t.loops t.opened) a ∙ ap (λ x. looked_at s.constants s.arrays x t.opened) l
    ∙ ap (looked_at s.constants s.arrays s.loops) o

-- ---- what is known where all statements have been gone over

-- at these statements, `s` is what is known as they are gone over for the first time, and `w` for the second time
pub record Stands (given : Given) (last w s : Scene) (ps : List SourceStatement) : Type 0 where
  pub faultless : fault_from given s ps ≡ None
  pub ends : scene_from given s ps ≡ last
  pub within : KeepsLimits s
  pub constants : w.constants ≡ last.constants
  pub arrays : w.arrays ≡ last.arrays
  pub loops : w.loops ≡ s.loops
  pub opened : w.opened ≡ s.opened

-- an executable statement
record Works (s t : Scene) : Type 0 where
  executes : t.executes ≡ true
  constants : t.constants ≡ s.constants
  arrays : t.arrays ≡ s.arrays

looks-same : (given : Given) (last w s : Scene) (p : SourceStatement) (ps : List SourceStatement) → Stands given last w s (p ∷ ps) → Works s (scene_with given s p.label p.reading) → looked w ≡ looked s
looks-same given last w s p ps h k =
    let next = scene_with given s p.label p.reading in
    let none : fault_with given s (length ps) p.label p.reading ≡ None = first_passes given s p ps h.faultless in
    let rest : fault_from given next ps ≡ None = sym (passes given s p ps none) ∙ h.faultless in
    let ends : scene_from given next ps ≡ last = sym (scene_from-more given s p ps) ∙ h.ends in
    let later = from-later given next ps rest in
    let constants : w.constants ≡ s.constants = h.constants ∙ ap (λ (x : Scene). x.constants) (sym ends) ∙ later.constants k.executes ∙ k.constants in
    let arrays : w.arrays ≡ s.arrays = h.arrays ∙ ap (λ (x : Scene). x.arrays) (sym ends) ∙ later.arrays k.executes ∙ k.arrays in
    same_looked s w constants arrays h.loops h.opened

pub stands_body : (variables : List Name) (given : Given) (last w s : Scene) (line label : ℕ) (r : Result StatementForm TextFault) (ps : List SourceStatement) (body : Body)
    → Stands given last w s (record { line = line; label = label; reading = r } ∷ ps) → body_with variables w line label r body ≡ body_with variables s line label r body
stands_body variables given last w s line label r ps body h = by_reading r h
  where
    worked : (f : StatementForm) → Stands given last w s (record { line = line; label = label; reading = Ok f } ∷ ps) → Works s (behind given s label f)
        → body_behind variables w line label f body ≡ body_behind variables s line label f body
    worked f k works =
        body-looked variables w line label f body ∙ ap (λ x. body_behind variables x line label f body) (looks-same given last w s (record { line = line; label = label; reading = Ok f }) ps k works)
        ∙ sym (body-looked variables s line label f body)

    by_reading : (q : Result StatementForm TextFault) → Stands given last w s (record { line = line; label = label; reading = q } ∷ ps) → body_with variables w line label q body ≡ body_with variables s line label q body
    by_reading (Err fault) k = refl
    by_reading (Ok (program n)) k = refl
    by_reading (Ok (integer ds)) k = refl
    by_reading (Ok (dimension ds)) k = refl
    by_reading (Ok (parameter ds)) k = refl
    by_reading (Ok (do_loop d)) k = worked (do_loop d) k (record { executes = refl; constants = refl; arrays = refl })
    by_reading (Ok (assign a)) k = worked (assign a) k (record { executes = refl; constants = refl; arrays = refl })
    by_reading (Ok (logical_if c a)) k = worked (logical_if c a) k (record { executes = refl; constants = refl; arrays = refl })
    by_reading (Ok (print items)) k = worked (print items) k (record { executes = refl; constants = refl; arrays = refl })
    by_reading (Ok continue) k = worked continue k (record { executes = refl; constants = refl; arrays = refl })
    by_reading (Ok stop) k = worked stop k (record { executes = refl; constants = refl; arrays = refl })
    by_reading (Ok end) k = worked end k (record { executes = refl; constants = refl; arrays = refl })

pub stands_within : (given : Given) (last w s : Scene) (line label : ℕ) (r : Result StatementForm TextFault) (ps : List SourceStatement)
    → Stands given last w s (record { line = line; label = label; reading = r } ∷ ps) → AreWithin w r
stands_within given last w s line label r ps h = by_reading r h
  where
    worked : (f : StatementForm) → Stands given last w s (record { line = line; label = label; reading = Ok f } ∷ ps) → Works s (behind given s label f) → reach_of w (affine_in w f) ≡ Within
    worked f k works =
        let p : SourceStatement = record { line = line; label = label; reading = Ok f } in
        let none : fault_of_form given s (length ps) label f ≡ None = first_passes given s p ps k.faultless in
        reach-looked w f ∙ ap (λ x. reach_of x (affine_in x f)) (looks-same given last w s p ps k works) ∙ sym (reach-looked s f) ∙ affine_within given s (length ps) label f none

    by_reading : (q : Result StatementForm TextFault) → Stands given last w s (record { line = line; label = label; reading = q } ∷ ps) → AreWithin w q
    by_reading (Err fault) k = tt
    by_reading (Ok (program n)) k = refl
    by_reading (Ok (integer ds)) k = refl
    by_reading (Ok (dimension ds)) k = refl
    by_reading (Ok (parameter ds)) k = refl
    by_reading (Ok (do_loop d)) k = worked (do_loop d) k (record { executes = refl; constants = refl; arrays = refl })
    by_reading (Ok (assign a)) k = worked (assign a) k (record { executes = refl; constants = refl; arrays = refl })
    by_reading (Ok (logical_if c a)) k = worked (logical_if c a) k (record { executes = refl; constants = refl; arrays = refl })
    by_reading (Ok (print items)) k = worked (print items) k (record { executes = refl; constants = refl; arrays = refl })
    by_reading (Ok continue) k = worked continue k (record { executes = refl; constants = refl; arrays = refl })
    by_reading (Ok stop) k = worked stop k (record { executes = refl; constants = refl; arrays = refl })
    by_reading (Ok end) k = worked end k (record { executes = refl; constants = refl; arrays = refl })

pub stands_next : (given : Given) (last w s : Scene) (line label : ℕ) (r : Result StatementForm TextFault) (ps : List SourceStatement)
    → Stands given last w s (record { line = line; label = label; reading = r } ∷ ps) → Stands given last (stage_with w label r) (scene_with given s label r) ps
stands_next given last w s line label r ps h = by_reading r (first_passes given s p ps h.faultless) h.faultless h.ends
  where
    p : SourceStatement
    p = record { line = line; label = label; reading = r }

    next : (q : Result StatementForm TextFault) → fault_with given s (length ps) label q ≡ None → fault_from given s (record { line = line; label = label; reading = q } ∷ ps) ≡ None
        → scene_from given s (record { line = line; label = label; reading = q } ∷ ps) ≡ last → (stage_with w label q).constants ≡ w.constants → (stage_with w label q).arrays ≡ w.arrays
        → (stage_with w label q).loops ≡ (scene_with given s label q).loops → (stage_with w label q).opened ≡ (scene_with given s label q).opened
        → Stands given last (stage_with w label q) (scene_with given s label q) ps
    next q none faultless ends constants arrays loops opened =
        let at : SourceStatement = record { line = line; label = label; reading = q } in
        record {
          faultless = sym (passes given s at ps none) ∙ faultless;
          ends = sym (scene_from-more given s at ps) ∙ ends;
          within = kept_with given s (length ps) label q none h.within;
          constants = constants ∙ h.constants;
          arrays = arrays ∙ h.arrays;
          loops = loops;
          opened = opened;
        }

    closed : left_open label w.opened ≡ left_open label s.opened
    closed = ap (left_open label) h.opened

    by_reading : (q : Result StatementForm TextFault) → fault_with given s (length ps) label q ≡ None → fault_from given s (record { line = line; label = label; reading = q } ∷ ps) ≡ None
        → scene_from given s (record { line = line; label = label; reading = q } ∷ ps) ≡ last → Stands given last (stage_with w label q) (scene_with given s label q) ps
    by_reading (Err fault) none f e = absurd cc
    by_reading (Ok (program n)) none f e = next (Ok (program n)) none f e refl refl h.loops h.opened
    by_reading (Ok (integer ds)) none f e = next (Ok (integer ds)) none f e refl refl h.loops h.opened
    by_reading (Ok (dimension ds)) none f e = next (Ok (dimension ds)) none f e refl refl h.loops h.opened
    by_reading (Ok (parameter ds)) none f e =
        let alone = constants_alone given s ds in
        next (Ok (parameter ds)) none f e refl refl (h.loops ∙ sym alone.loops) (h.opened ∙ sym alone.opened)
    by_reading (Ok (do_loop d)) none f e =
        next (Ok (do_loop d)) none f e refl refl (ap (λ k. k + 1) h.loops)
        (ap (λ k. record { variable = d.variable; label = decimal d.label; number = k + 1 } ∷ w.opened) h.loops ∙ ap (λ os. record { variable = d.variable; label = decimal d.label; number = s.loops + 1 } ∷ os) h.opened)
    by_reading (Ok (assign a)) none f e = next (Ok (assign a)) none f e refl refl h.loops closed
    by_reading (Ok (logical_if c a)) none f e = next (Ok (logical_if c a)) none f e refl refl h.loops closed
    by_reading (Ok (print items)) none f e = next (Ok (print items)) none f e refl refl h.loops closed
    by_reading (Ok continue) none f e = next (Ok continue) none f e refl refl h.loops closed
    by_reading (Ok stop) none f e = next (Ok stop) none f e refl refl h.loops closed
    by_reading (Ok end) none f e = next (Ok end) none f e refl refl h.loops closed

pub stands_first : (given : Given) (last w : Scene) (ps : List SourceStatement) → ArePassed given ps last → w ≡ record last { loops = 0; opened = [] } → Stands given last w first_scene ps
stands_first given last w ps h e =
    record {
      faultless = h.faultless;
      ends = sym h.known;
      within = first_kept;
      constants = ap (λ (x : Scene). x.constants) e;
      arrays = ap (λ (x : Scene). x.arrays) e;
      loops = ap (λ (x : Scene). x.loops) e;
      opened = ap (λ (x : Scene). x.opened) e;
    }

pub stands_loops : (given : Given) (last w s : Scene) (ps : List SourceStatement) → Stands given last w s ps → w.loops < 2 ^ 31
stands_loops given last w s ps h = (let few = h.within.count in let begun = h.within.loops in let same = h.loops in omega arith)

-- these statements are left of all of them, and this is the tree so far
pub record Walked (variables : List Name) (given : Given) (last w : Scene) (body : Body) (all ps : List SourceStatement) : Type 0 where
  pub s : Scene
  pub stands : Stands given last w s ps
  pub tree : body_from variables given s ps body ≡ body_from variables given first_scene all first_body

pub walked_first : (variables : List Name) (given : Given) (last w : Scene) (body : Body) (all : List SourceStatement) → ArePassed given all last → w ≡ record last { loops = 0; opened = [] } → body ≡ first_body
    → Walked variables given last w body all all
walked_first variables given last w body all h e b = record { s = first_scene; stands = stands_first given last w all h e; tree = ap (body_from variables given first_scene all) b }

pub walked_next : (variables : List Name) (given : Given) (last w next : Scene) (body more : Body) (all : List SourceStatement) (p : SourceStatement) (ps : List SourceStatement)
    → Walked variables given last w body all (p ∷ ps) → next ≡ stage_with w p.label p.reading → more ≡ body_with variables w p.line p.label p.reading body → Walked variables given last next more all ps
walked_next variables given last w next body more all p ps h e b =
    let s = h.s in
    let same : more ≡ body_with variables s p.line p.label p.reading body = b ∙ stands_body variables given last w s p.line p.label p.reading ps body h.stands in
    record {
      s = scene_with given s p.label p.reading;
      stands = subst (λ x. Stands given last x (scene_with given s p.label p.reading) ps) (sym e) (stands_next given last w s p.line p.label p.reading ps h.stands);
      tree = ap (body_from variables given (scene_with given s p.label p.reading) ps) same ∙ sym (body_from-more variables given s p ps body) ∙ h.tree;
    }
