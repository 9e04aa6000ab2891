-- Plain lists of words: options in any order, each as two words, and then settings.
use Rattle.std.specs.Prelude.{◌≡◌, ◌<◌, ◌^◌, length, ◌==◌, ◌&&◌, ◌++◌, ℕ, Bool, true, false, not, List, [], ◌∷◌, Option, Some, codes, is_some, find, option_map, option_and_then}
use Rattle.std.specs.List.{list_any, list_all}
use Rattle.std.specs.Str.{bytes_eq}
use Rattle.clap.specs.Words.{Text}
use Rattle.spmd_model.specs.declared.style.Style.{Style}
use Rattle.spmd_model.specs.declared.style.Style.TheVariants.{Arrive}
use Rattle.command_words.specs.declared.request.Engine.{Engine}
use Rattle.command_words.specs.declared.request.PlanChoice.{PlanChoice}
use Rattle.command_words.specs.Sweeps.{Sweep, sweep_at}
use Rattle.command_words.specs.Wanted.{Takes, swept, planned, run, bench, sequential, verify, workers_of, plan_of, choice_of, engine_of, style_of, barrier_of, by_of, size_of}

-- the options of `run`
pub data Name : Type 0 where
  workers : Name
  which : Name
  how : Name
  barrier : Name

abbrev pub name_text : Name → Text
name_text workers = codes "workers"
name_text which = codes "plan"
name_text how = codes "by"
name_text barrier = codes "barrier"

-- an option and its value
abbrev pub Given : Type 0
Given = Name × Text

abbrev pub value_ok : Name → Text → Bool
value_ok workers t = is_some (workers_of t)
value_ok which t = is_some (plan_of t)
value_ok how t = is_some (engine_of Arrive t)
value_ok barrier t = is_some (style_of t)

abbrev pub written : List Given → List Text
written [] = []
written (o ∷ os) = (45 ∷ 45 ∷ name_text o.0) ∷ o.1 ∷ written os

abbrev pub names : Name → Given → Bool
names a q = bytes_eq (name_text q.0) (name_text a)

-- no option stands twice, nor among these
abbrev pub each_once : List Given → List Given → Bool
each_once seen [] = true
each_once seen (o ∷ os) = not (list_any (names o.0) seen) && each_once (seen ++ o ∷ []) os

abbrev pub value_of : Name → List Given → Option Text
value_of a os = option_map (λ o. o.1) (find (names a) os)

-- not empty, and begins with no hyphen
abbrev pub is_setting : Text → Bool
is_setting [] = false
is_setting (x ∷ xs) = not (x == 45)

-- these options, in any order, and then these settings are words of a run
pub record IsPlainRun (os : List Given) (settings : List Text) (n : ℕ) (p : PlanChoice) (s : Style)
    (e : Engine) : Type 0 where
  pub once : each_once [] os ≡ true
  pub values : list_all (λ o. value_ok o.0 o.1) os ≡ true
  pub settings_ok : list_all is_setting settings ≡ true
  pub workers_is : option_and_then workers_of (value_of workers os) ≡ Some n
  pub plan_is : choice_of (value_of which os) ≡ Some p
  pub barrier_is : barrier_of (value_of barrier os) ≡ Some s
  pub by_is : by_of s (value_of how os) ≡ Some e
  pub few : length settings < 2 ^ 64

abbrev pub EveryPlainRunIsTaken : Type 0
EveryPlainRunIsTaken = (os : List Given) (settings : List Text) (n : ℕ) (p : PlanChoice) (s : Style)
    (e : Engine) → IsPlainRun os settings n p s e
    → Takes (codes "run" ∷ (written os ++ settings)) (run n p e settings)

abbrev pub EveryPlainSequentialIsTaken : Type 0
EveryPlainSequentialIsTaken =
    (settings : List Text) → list_all is_setting settings ≡ true → length settings < 2 ^ 64
    → Takes (codes "seq" ∷ settings) (sequential settings)

abbrev pub EveryPlainVerifyIsTaken : Type 0
EveryPlainVerifyIsTaken =
    (settings : List Text) → list_all is_setting settings ≡ true → length settings < 2 ^ 64
    → Takes (codes "verify" ∷ settings) (verify settings)

abbrev pub EveryPlainSweepIsTaken : Type 0
EveryPlainSweepIsTaken = (word : Text) (s : Sweep) (settings : List Text) → sweep_at word ≡ Some s
    → list_all is_setting settings ≡ true → length settings < 2 ^ 64
    → Takes (codes "verify" ∷ codes "--sweep" ∷ word ∷ settings) (swept s settings)

abbrev pub EveryPlainPlanIsTaken : Type 0
EveryPlainPlanIsTaken = (number : Text) (settings : List Text) (n : ℕ) → workers_of number ≡ Some n
    → list_all is_setting settings ≡ true → length settings < 2 ^ 64
    → Takes (codes "plan" ∷ codes "--workers" ∷ number ∷ settings) (planned n settings)

abbrev pub EveryPlainBenchIsTaken : Type 0
EveryPlainBenchIsTaken = (number points sweeps : Text) (n p s : ℕ) → workers_of number ≡ Some n
    → size_of 1 500000 points ≡ Some p → size_of 0 1000000 sweeps ≡ Some s
    → Takes (codes "bench" ∷ codes "--workers" ∷ number ∷ points ∷ sweeps ∷ []) (bench n p s)
