-- The faults of words are of one sort: all ask for help or for the version, or none does.
use Rattle.std.proofs.Common.{◌≡◌, ◌∙◌, ◌==◌, ◌&&◌, ◌||◌, ◌+◌, ℕ, Bool, zero, suc, true, false, refl, sym, ap, subst, List, [], ◌∷◌, Option, Some, None, true≢false, inl, inr}
use Rattle.std.specs.Prelude.{⊤, ◌⊎◌, codes, min, nat_lt, not, length, drop, encode_utf8, find, if◌then◌else◌, slice_get, is_some}
use Rattle.std.specs.List.{list_all, list_any}
use Rattle.std.specs.Option.{option_map_or}
use Rattle.std.specs.Str.{bytes_eq, chars}
use Rattle.std.proofs.lemmas.Bool.{and_parts, or_left, or_right}
use Rattle.clap.specs.Lexer.{long_of, short_of}
use Rattle.clap.specs.Words.{App, Kinds, IsAmong, Row, Rule, Shape, Text, built, fault_of}
use Rattle.clap.specs.Facts.{parser_of_value, unwrap_or_range}
use Rattle.clap.specs.Matches.{count_text}
use Rattle.clap.specs.Simple.{argument_words, entered, label_of, names_of}
use Rattle.clap.specs.Walk.{idle, option, positional, Held, Names, Step, Waiting, Walk, action_of, answers_to, arg_by_id, arg_by_index, arg_by_long, arg_by_short, attached_value, count_of, has_row, is_pending, most_values, nothing_held, reacted, settled, subcommand_met, next, trailing, subcommand, takes_several, takes_values, value, values_or_missing, walk, walk_from, walked, with_default, word_met, is_empty}
use Rattle.clap.specs.Kinds.{or_else, check_kinds, range_kinds, request_kinds, value_kinds, values_kinds}
use Rattle.clap.specs.Values.{refused_kind}
use Rattle.clap.specs.ValueTests.{accepts}
use Rattle.clap.specs.Faults.{action_fault, bundle_step_fault, count_fault, default_fault, defaults_fault, entered_fault, flag_word_fault, flags_fault, level_fault, long_fault, option_fault, other_fault, positional_fault, react_fault, repeat_fault, set_fault, settle_fault, short_fault, step_fault, stray_fault, turn_fault, use_fault, values_fault, walk_fault}
use Rattle.clap.specs.declared.builder.action.ArgAction.{ArgAction}
use Rattle.clap.specs.declared.builder.action.ArgAction.TheVariants.{Set, Append, SetTrue, SetFalse, Count, Help, HelpShort, HelpLong, Version}
use Rattle.clap.specs.declared.builder.value_parser.ValueParser.{ValueParser}
use Rattle.clap.specs.declared.error.kind.ErrorKind.{ErrorKind}
use Rattle.clap.proofs.OnLiterals.{clap_on_literals}
use Rattle.clap.specs.declared.error.kind.ErrorKind.TheVariants.{OutOfMemory, TooFewValues, TooManyValues}
use Rattle.command_words.specs.Rule.{tool_app}
use Rattle.clap.specs.Words.{subcommand_of}
use Rattle.clap.specs.declared.error.Error.{Error}
use Rattle.command_words.specs.Refusals.{IsRefused, IsValueFault, is_memory, refusal_by}
use Rattle.command_words.specs.Wanted.{is_shown, has_bad_sweep, is_fine, wanted_by}
use Rattle.command_words.specs.declared.request.Refused.{Refused}
use Rattle.command_words.specs.declared.request.Refused.TheVariants as refused

-- where one kind is shown, all are
pub record IsOneSort (ks : Kinds) : Type 0 where
  pub all : list_any is_shown ks ≡ true → list_all is_shown ks ≡ true

none : IsOneSort []
none = record { all = λ h. refl }

one : (k : ErrorKind) → IsOneSort (k ∷ [])
one k = record { all = by_cases (is_shown k) }
  where
    by_cases : (b : Bool) → (b || false) ≡ true → (b && true) ≡ true
    by_cases true h = refl
    by_cases false h = h

either : (a b : Kinds) → IsOneSort a → IsOneSort b → IsOneSort (or_else a b)
either [] b p q = q
either (k ∷ ks) b p q = p

branch : (t : Bool) (a b : Kinds) → IsOneSort a → IsOneSort b → IsOneSort (if t then a else b)
branch true a b p q = p
branch false a b p q = q

perhaps : {X : Type 0} (f : X → Kinds) (o : Option X) → ((x : X) → IsOneSort (f x)) → IsOneSort (option_map_or f o [])
perhaps f None p = none
perhaps f (Some x) p = p x

-- ---- one use of an argument

value_sort : (ignore : Bool) (parser : ValueParser) (text : List ℕ) → IsOneSort (value_kinds ignore parser text)
value_sort ignore parser text = branch (accepts ignore parser text) [] (refused_kind parser ∷ []) none (one (refused_kind parser))

values_sort : (ignore : Bool) (parser : ValueParser) (texts : List (List ℕ)) → IsOneSort (values_kinds ignore parser texts)
values_sort ignore parser [] = none
values_sort ignore parser (v ∷ vs) = either (value_kinds ignore parser v) (values_kinds ignore parser vs) (value_sort ignore parser v) (values_sort ignore parser vs)

request_sort : (a : ArgAction) → IsOneSort (request_kinds a)
request_sort Set = record { all = λ h. refl }
request_sort Append = record { all = λ h. refl }
request_sort SetTrue = record { all = λ h. refl }
request_sort SetFalse = record { all = λ h. refl }
request_sort Count = record { all = λ h. refl }
request_sort Help = record { all = λ h. refl }
request_sort HelpShort = record { all = λ h. refl }
request_sort HelpLong = record { all = λ h. refl }
request_sort Version = record { all = λ h. refl }

set_sort : (again : Bool) (a : Rule) (values : List Text) (rows : List Row) → IsOneSort (set_fault again a values rows)
set_sort again a values rows = either (repeat_fault again a.id rows) (values_fault a values) (branch (has_row a.id rows && not again) _ [] (one _) none) (values_sort a.ignore_case _ values)

count_sort : (a : Rule) (values : List Text) (rows : List Row) → IsOneSort (count_fault a values rows)
count_sort a [] rows = value_sort a.ignore_case (parser_of_value a.parser) (count_text (min (count_of a.id rows + 1) 255))
count_sort a (v ∷ vs) rows = values_sort a.ignore_case _ (v ∷ vs)

action_sort : (x : ArgAction) (again : Bool) (a : Rule) (values : List Text) (rows : List Row) → IsOneSort (action_fault x again a values rows)
action_sort Set again a values rows = set_sort again a values rows
action_sort SetTrue again a values rows = set_sort again a values rows
action_sort SetFalse again a values rows = set_sort again a values rows
action_sort Append again a values rows = values_sort a.ignore_case _ values
action_sort Count again a values rows = count_sort a values rows
action_sort Help again a values rows = request_sort Help
action_sort HelpShort again a values rows = request_sort HelpShort
action_sort HelpLong again a values rows = request_sort HelpLong
action_sort Version again a values rows = request_sort Version

range_sort : (least most n : ℕ) → IsOneSort (range_kinds least most n)
range_sort least most n = branch _ _ _ (one _) (branch (least == most) _ _ (branch (least == n) [] _ none (one _)) (branch (nat_lt n least) _ _ (one TooFewValues) (branch (nat_lt most n) _ [] (one TooManyValues) none)))

use_sort : (again : Bool) (a : Rule) (values : List Text) (rows : List Row) → IsOneSort (use_fault again a values rows)
use_sort again a values rows = either _ _ (range_sort (unwrap_or_range a.range).start_inclusive (most_values a) (length values)) (action_sort (action_of a) again a (values_or_missing a values) rows)

-- ---- the walk

settle_sort : (c : List Rule) (again : Bool) (h : Held) → IsOneSort (settle_fault c again h)
settle_sort c again h = perhaps _ h.pending (λ p. perhaps _ (arg_by_id c p.0) (λ a. use_sort again a p.1 h.rows))

react_sort : (c : List Rule) (again : Bool) (a : Rule) (values : List Text) (h : Held) → IsOneSort (react_fault c again a values h)
react_sort c again a values h = either _ _ (settle_sort c again h) (use_sort again a values (settled c h).rows)

option_sort : (c : List Rule) (again : Bool) (a : Rule) (v : Option Text) (h : Held) → IsOneSort (option_fault c again a v h)
option_sort c again a (Some v) h = react_sort c again a (v ∷ []) h
option_sort c again a None h = settle_sort c again h

long_sort : (c : List Rule) (again : Bool) (r : Option Rule) (v : Option Text) (h : Held) → IsOneSort (long_fault c again r v h)
long_sort c again None v h = one _
long_sort c again (Some a) v h = branch (takes_values a) _ _ (option_sort c again a v h) (branch (is_some v) _ _ (one _) (react_sort c again a [] h))

short_sort : (c : List Rule) (again : Bool) (r : Option Rule) (rest : Text) (h : Held) (more : Held → Kinds) → ((g : Held) → IsOneSort (more g)) → IsOneSort (short_fault c again r rest h more)
short_sort c again None rest h more p = one _
short_sort c again (Some a) rest h more p = branch (takes_values a) _ _ (option_sort c again a (attached_value rest) h) (either _ _ (react_sort c again a [] h) (p (reacted c a [] h)))

step_of_flags : (c : List Rule) (again : Bool) (x : Option ℕ) (flags : Text) (skip : ℕ) (h : Held) (more : Text → ℕ → Held → Kinds) → ((t : Text) (n : ℕ) (g : Held) → IsOneSort (more t n g))
    → IsOneSort (bundle_step_fault c again x flags skip h more)
step_of_flags c again None flags skip h more p = none
step_of_flags c again (Some x) flags zero h more p = short_sort c again (arg_by_short c x) (drop (length (encode_utf8 x)) flags) h _ (p (drop (length (encode_utf8 x)) flags) 0)
step_of_flags c again (Some x) flags (suc skip) h more p = p (drop (length (encode_utf8 x)) flags) skip h

flags_sort : (c : List Rule) (again : Bool) (k : ℕ) (flags : Text) (skip : ℕ) (h : Held) → IsOneSort (flags_fault c again k flags skip h)
unfolding flags_fault
flags_sort c again zero flags skip h = none
flags_sort c again (suc k) flags skip h = step_of_flags c again (slice_get (chars flags) 0) flags skip h (flags_fault c again k) (flags_sort c again k)

word_sort : (c : List Rule) (again : Bool) (long : Option (Text × Option Text)) (word : Text) (h : Held) → IsOneSort (flag_word_fault c again long word h)
word_sort c again (Some p) word h = long_sort c again (arg_by_long c p.0) p.1 h
word_sort c again None word h = perhaps _ (short_of word) (λ flags. flags_sort c again (length flags) flags h.skip (record h { skip = 0 }))

-- a command that offers no subcommand `help`
abbrev pub IsOff : Shape → Names → Type 0
IsOff s [] = ⊤
IsOff s (n ∷ ns) = s.disable_help_subcommand ≡ true

never : (b : Bool) (ks : Kinds) → IsOneSort (if b && false then ks else [])
never true ks = none
never false ks = none

named_sort : (s : Shape) (name : Option Text) (word : Text) (h : Held) → s.disable_help_subcommand ≡ true → IsOneSort (other_fault s name word h)
named_sort s (Some name) word h e = rw e (never (bytes_eq name (codes "help")) _)
named_sort s None word h e = branch _ [] _ none (word_sort s.rules s.args_override_self (long_of word) word h)

other_sort : (s : Shape) (names : Names) (waiting : Waiting) (word : Text) (h : Held) → IsOff s names → IsOneSort (other_fault s (subcommand_met names waiting word) word h)
other_sort s [] idle word h e = branch _ [] _ none (word_sort s.rules s.args_override_self (long_of word) word h)
other_sort s [] (option id) word h e = branch _ [] _ none (word_sort s.rules s.args_override_self (long_of word) word h)
other_sort s [] positional word h e = branch _ [] _ none (word_sort s.rules s.args_override_self (long_of word) word h)
other_sort s (n ∷ ns) waiting word h e = named_sort s (subcommand_met (n ∷ ns) waiting word) word h e

stray_sort : (s : Shape) → IsOneSort (stray_fault s)
stray_sort s = branch s.is_leaf _ _ (one _) (record { all = λ h. absurd (true≢false (sym h)) })

step_sort : (s : Shape) (position : ℕ) (h : Held) (step : Step) → IsOneSort (step_fault s position h step)
step_sort s position h value = found (arg_by_index s.rules position)
  where
    found : (r : Option Rule) → IsOneSort (option_map_or (λ a. positional_fault s.rules s.args_override_self a h) r (stray_fault s))
    found None = stray_sort s
    found (Some a) = branch (is_pending a h.pending && takes_several a) [] _ none (settle_sort s.rules s.args_override_self h)
step_sort s position h (next w) = none
step_sort s position h (trailing n) = none
step_sort s position h (subcommand name) = none

turn_sort : (s : Shape) (names : Names) (w : Walk) (word : Text) → IsOff s names → IsOneSort (turn_fault s names w word)
turn_sort s names w word e = branch (is_some w.stopped) [] _ none (either _ _
    (branch w.is_trailing [] _ none (other_sort s names w.waiting word w.held e))
    (step_sort s w.position (word_met s.rules names w.is_trailing w.waiting w.position word w.held).0 (word_met s.rules names w.is_trailing w.waiting w.position word w.held).1))

walk_sort : (s : Shape) (names : Names) (w : Walk) (words : List Text) → IsOff s names → IsOneSort (walk_fault s names w words)
unfolding walk_fault
walk_sort s names w [] e = none
walk_sort s names w (word ∷ rest) e = either _ _ (turn_sort s names w word e) (walk_sort s names (walked s.rules names w word) rest e)

-- ---- after the walk

default_sort : (rows : List Row) (a : Rule) → IsOneSort (default_fault rows a)
default_sort rows a = branch (has_row a.id rows || is_empty a.defaults) [] _ none (either _ _ (request_sort (action_of a)) (values_sort a.ignore_case _ a.defaults))

defaults_sort : (rows : List Row) (rules : List Rule) → IsOneSort (defaults_fault rows rules)
unfolding defaults_fault
defaults_sort rows [] = none
defaults_sort rows (a ∷ rest) = either _ _ (default_sort rows a) (defaults_sort (with_default rows a) rest)

check_sort : (help subcommand argument : Bool) → IsOneSort (check_kinds help subcommand argument)
check_sort help sub argument = branch help _ _ (one _) (branch sub _ _ (one _) (branch argument _ [] (one _) none))

level_sort : (s : Shape) (names : Names) (h : Held) (words : List Text) (has_subcommand : Bool) (below : Kinds) → IsOff s names → IsOneSort below
    → IsOneSort (level_fault s names h words has_subcommand below)
level_sort s names h words has_subcommand below e p =
    let end = (walk s.rules names h words).held in
    either _ _ (walk_sort s names (walk_from h) words e) (either _ _ p (either _ _ (settle_sort s.rules s.args_override_self end)
    (either _ _ (defaults_sort (settled s.rules end).rows s.rules) (check_sort _ _ _))))

entered_sort : (a : App) (stop : Option (Text × List Text)) → IsOneSort (entered_fault a stop)
entered_sort a stop = perhaps _ stop (λ p. perhaps _ (find (λ s. answers_to p.0 (label_of s)) a.subs) (λ s. level_sort s [] nothing_held p.1 false [] tt none))

abbrev stop_of : App → List Text → Option (Text × List Text)
stop_of app words = (walk (built app).top.rules (names_of (built app)) nothing_held (argument_words app words)).stopped

pub words_sort : (app : App) (words : List Text) → IsOff (built app).top (names_of (built app)) → IsOneSort (fault_of app words)
words_sort app words off = level_sort (built app).top (names_of (built app)) nothing_held (argument_words app words) (is_some (entered (built app) (stop_of app words))) (entered_fault (built app) (stop_of app words)) off (entered_sort (built app) (stop_of app words))

is_off : IsOff (built tool_app).top (names_of (built tool_app))
unfolding clap_on_literals
is_off = refl

-- ---- what a kind among these tells

among_any : (k : ErrorKind) (ks : Kinds) → IsAmong k ks → is_shown k ≡ true → list_any is_shown ks ≡ true
among_any k [] m h = elim m [ ]
among_any k (x ∷ xs) (inl e) h = or_left _ _ (ap is_shown (sym e) ∙ h)
among_any k (x ∷ xs) (inr m) h = or_right _ _ (among_any k xs m h)

among_all : (k : ErrorKind) (ks : Kinds) → IsAmong k ks → list_all is_shown ks ≡ true → is_shown k ≡ true
among_all k [] m h = elim m [ ]
among_all k (x ∷ xs) (inl e) h = ap is_shown e ∙ (and_parts (is_shown x) _ h).0
among_all k (x ∷ xs) (inr m) h = among_all k xs m (and_parts (is_shown x) _ h).1

-- a kind that is shown among faults of one sort, and one that isn't
pub shows : (k : ErrorKind) (ks : Kinds) → IsAmong k ks → is_shown k ≡ true → list_any is_shown ks ≡ true
shows k ks m h = among_any k ks m h

pub shows_not : (k : ErrorKind) (ks : Kinds) → IsOneSort ks → IsAmong k ks → is_shown k ≡ false → list_any is_shown ks ≡ false
shows_not k ks sort m h = by_cases (list_any is_shown ks) refl
  where
    by_cases : (b : Bool) → list_any is_shown ks ≡ b → b ≡ false
    by_cases false e = refl
    by_cases true e = absurd (true≢false (sym (among_all k ks m (sort.all e)) ∙ h))

-- ---- refusals

-- there is a fault where one is among them
unfine : (k : ErrorKind) (ks : Kinds) → IsAmong k ks → is_fine ks ≡ false
unfine k [] m = elim m [ ]
unfine k (x ∷ xs) m = refl

pub refused_by_kind : (words : List Text) (k : ErrorKind) (error : Error) → (k ≡ OutOfMemory) ⊎ IsAmong k (fault_of tool_app words) → IsRefused words (refusal_by k error)
refused_by_kind words k error h = by_cases (is_memory k) (is_shown k) refl refl
  where
    by_cases : (a b : Bool) → is_memory k ≡ a → is_shown k ≡ b → IsRefused words (if a then refused.NoMemory else (if b then refused.Shown error else refused.Faulty))
    by_cases true b p q = tt
    by_cases false true p q = elim h [
      | inl i ↦ absurd (true≢false (sym (ap is_memory i) ∙ p))
      | inr m ↦ shows k (fault_of tool_app words) m q
    ]
    by_cases false false p q = elim h [
      | inl i ↦ absurd (true≢false (sym (ap is_memory i) ∙ p))
      | inr m ↦ ((shows_not k (fault_of tool_app words) (words_sort tool_app words is_off) m q, inl (λ empty. subst (IsAmong k) empty m)), ap (λ b. b && has_bad_sweep (subcommand_of tool_app words)) (unfine k (fault_of tool_app words) m))
    ]

pub refused_by_value : (words : List Text) (sub : Option (Text × List Row)) (r : Refused) → fault_of tool_app words ≡ [] → subcommand_of tool_app words ≡ sub → IsValueFault sub r → IsRefused words r
refused_by_value words sub (refused.Shown error) none_is sub_is h = elim h [ ]
refused_by_value words sub refused.Faulty none_is sub_is h = ((ap (list_any is_shown) none_is, inr (ap wanted_by sub_is ∙ h.0)), rw none_is (ap has_bad_sweep sub_is ∙ h.1))
refused_by_value words sub refused.WrongSweep none_is sub_is h = ((ap (list_any is_shown) none_is, inr (ap wanted_by sub_is ∙ h.0)), rw none_is (ap has_bad_sweep sub_is ∙ h.1))
refused_by_value words sub refused.NoMemory none_is sub_is h = tt
