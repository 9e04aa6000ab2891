-- How the top call ends, from its answer and how it was written.
use Rattle.std.proofs.Common.{◌≡◌, ◌≢◌, ℕ, true, false, List, [], Option, Some, None, ◌⊎◌, inl, inr, ap, sym, subst, ◌∙◌, refl, arith}
use Rattle.std.specs.Io.KnownBytes.{Appends}
use Rattle.clap.specs.Words.{Text}
use Rattle.command_words.specs.Wanted.{Wanted, Takes, sequential, verify, swept, planned, run, bench}
use Rattle.command_words.proofs.Counted.{taken_counted}
use Rattle.spmd_answer.specs.Bench.{bench_source}
use Rattle.spmd_answer.specs.Due.{Due, is_run}
use Rattle.spmd_answer.specs.declared.receipt.Receipt.{Receipt}
use Rattle.plan_input.specs.declared.status.Status.{Status}
use Rattle.plan_input.specs.declared.status.Status.TheVariants.{Done, SourceRefused, BadWords, ReadFault, WriteFault, NoMemory, PlanRefused, TooLong}
use Rattle.spmd_answer.proofs.Benches.{bench_short}
use Rattle.bench_program.proofs.Unrefused.{never_refused}
use Rattle.spmd_tool.specs.Due.{AreWrong, AskFor, IsDue, IsRunnable, IsUnplanned, ReadFor, asked, faulty, all_settings, is_said, reads, shown, source_for}
use Rattle.whole_streams.specs.Streams.{WhereTold}
use Rattle.spmd_tool.specs.Written.{IsAnswerFrom, IsDueFrom, WritesDue, WritesReceipt, WritesRefusal, WritesRun}
use Rattle.spmd_tool.proofs.Dues.{taken_or_faulty, taken_or_shown, asked-due, one_status, refused-asks, request-done, request-runs, request-unfit, request-unnamed, request-unplanned, unfit-asks, wrong-due}
use Rattle.spmd_tool.proofs.Told.{at_told}

not_fault : (r : Status) → is_said r ≡ true → r ≢ WriteFault
not_fault r h e = let f : false ≡ true = sym (ap is_said e) ∙ h in cc

abbrev due : Status → List ℕ → Due
due status text = record { status = status; text = text }

-- an answer with an equal status and an equal text
same_due : (words : List Text) (told : Option (List ℕ)) (status s : Status) (text t : List ℕ) → IsDueFrom words told (due status text) → s ≡ status → t ≡ text → IsDueFrom words told (due s t)
same_due words told status s text t is p q = subst (λ (x : Status). IsDueFrom words told (due x t)) (sym p) (subst (λ (y : List ℕ). IsDueFrom words told (due status y)) (sym q) is)

-- a due text that was said
pub said-due : (words : List Text) (told : Option (List ℕ)) (status r : Status) (text t : List ℕ) (a b : Option (List ℕ))
    → IsDueFrom words told (due status text) → t ≡ text → (r ≢ WriteFault → r ≡ status) → (r ≢ WriteFault → Appends a b t) → is_said r ≡ true → WritesDue words told r a b
said-due words told status r text t a b is e outcome said h =
    let fine = not_fault r h in
    record { text = t; due = same_due words told status r text t is (outcome fine) e; written = said fine }

-- what was written with status 0 is what the run writes
run-due : (words : List Text) (w : Wanted) (told a b : Option (List ℕ)) → Takes words w → WritesDue words told Done a b → WritesRun w told a b
run-due words w told a b takes wrote =
    let bytes = wrote.due.bytes in
    let run = request-done w (source_for w bytes) (due Done wrote.text) (asked-due words bytes w (due Done wrote.text) takes wrote.due.is_due) refl in
    record {
      bytes = bytes;
      told = wrote.due.told;
      runnable = run.runnable;
      text = wrote.text;
      is_text = run.is_text;
      written = wrote.written;
    }

pub run-said : (words : List Text) (told : Option (List ℕ)) (status r : Status) (text t : List ℕ) (w : Wanted) (a b : Option (List ℕ))
    → IsDueFrom words told (due status text) → t ≡ text → (r ≢ WriteFault → r ≡ status) → (r ≢ WriteFault → Appends a b t) → Takes words w → r ≡ Done → WritesRun w told a b
run-said words told status r text t w a b is q outcome said takes e =
    run-due words w told a b takes (subst (λ (s : Status). WritesDue words told s a b) e (said-due words told status r text t a b is q outcome said (ap is_said e)))

-- what was written with status 6 is the line with which the plan is refused
unfit-due : (words : List Text) (w : Wanted) (told a b : Option (List ℕ)) → Takes words w → WritesDue words told PlanRefused a b → WritesRefusal w told a b
unfit-due words w told a b takes wrote =
    let bytes = wrote.due.bytes in
    let unfit = request-unfit w (source_for w bytes) (due PlanRefused wrote.text) (asked-due words bytes w (due PlanRefused wrote.text) takes wrote.due.is_due) refl in
    record {
      bytes = bytes;
      told = wrote.due.told;
      unplanned = unfit.unplanned;
      reason = unfit.reason;
      is_reason = unfit.is_reason;
      written = subst (λ (t : List ℕ). Appends a b t) unfit.text_is wrote.written;
    }

pub unfit-said : (words : List Text) (told : Option (List ℕ)) (status r : Status) (text t : List ℕ) (w : Wanted) (a b : Option (List ℕ))
    → IsDueFrom words told (due status text) → t ≡ text → (r ≢ WriteFault → r ≡ status) → (r ≢ WriteFault → Appends a b t) → Takes words w → r ≡ PlanRefused → WritesRefusal w told a b
unfit-said words told status r text t w a b is q outcome said takes e =
    unfit-due words w told a b takes (subst (λ (s : Status). WritesDue words told s a b) e (said-due words told status r text t a b is q outcome said (ap is_said e)))

-- the status that is due
pub status-exact : (words : List Text) (told : Option (List ℕ)) (d : Due) (r : Status) (P : Status → Status → Type 0) → IsDueFrom words told d → ((s : Status) → s ≡ d.status → P s r) → WhereTold told (λ bytes. (e : Due) → IsDue words bytes e → P e.status r)
status-exact words told d r P is p = at_told told is.bytes _ is.told (λ e due. p e.status (one_status words is.bytes e d due is.is_due))

-- so with a source that may be run
pub where_runnable : (words : List Text) (told : Option (List ℕ)) (d : Due) (r : Status) (P : Status → Status → Type 0) → IsDueFrom words told d → ((s : Status) → s ≡ d.status → P s r)
    → WhereTold told (λ bytes. (w : Wanted) → AskFor words w → IsRunnable w (source_for w bytes) → P Done r)
where_runnable words told d r P is p =
    at_told told is.bytes _ is.told (λ w ask runnable. p Done (sym (request-runs w (source_for w is.bytes) d (asked-due words is.bytes w d ask.takes is.is_due) ask.settings_are runnable)))

-- and with one without its plan
pub where_unplanned : (words : List Text) (told : Option (List ℕ)) (d : Due) (r : Status) (P : Status → Status → Type 0) → IsDueFrom words told d → ((s : Status) → s ≡ d.status → P s r)
    → WhereTold told (λ bytes. (w : Wanted) → AskFor words w → IsUnplanned w (source_for w bytes) → P PlanRefused r)
where_unplanned words told d r P is p =
    at_told told is.bytes _ is.told (λ w ask unplanned. p PlanRefused (sym (request-unplanned w (source_for w is.bytes) d (asked-due words is.bytes w d ask.takes is.is_due) ask.settings_are unplanned)))

-- the source of `bench` may be run
bench_runnable : (words : List Text) (workers points sweeps : ℕ) → Takes words (bench workers points sweeps) → IsRunnable (bench workers points sweeps) (bench_source points sweeps)
bench_runnable words workers points sweeps takes =
    let sizes = (taken_counted words (bench workers points sweeps) takes).1 in record {
      short = bench_short points sweeps (omega (arith, sizes.0.1)) (omega (arith, sizes.1));
      unrefused = never_refused points sweeps sizes.0.0 sizes.0.1 sizes.1;
      planned = tt;
    }

-- so `bench` runs, whatever the source's bytes
pub bench_runs : (words : List Text) (told : Option (List ℕ)) (d : Due) (workers points sweeps : ℕ) → IsDueFrom words told d → Takes words (bench workers points sweeps) → d.status ≡ Done
bench_runs words told d workers points sweeps is takes =
    request-runs (bench workers points sweeps) (bench_source points sweeps) d (asked-due words is.bytes (bench workers points sweeps) d takes is.is_due) refl (bench_runnable words workers points sweeps takes)

pub where_each : (told : Option (List ℕ)) (P : List ℕ → Type 0) → ((bytes : List ℕ) → P bytes) → WhereTold told P
where_each None P h = tt
where_each (Some bytes) P h = h bytes

pub from-wrong : (words : List Text) (told : Option (List ℕ)) (d : Due) → IsDueFrom words told d → AreWrong words → d.status ≡ BadWords
from-wrong words told d is wrong = wrong-due words is.bytes d wrong is.is_due

-- a request whose source is refused reads it
refused_reads : (words : List Text) (told : Option (List ℕ)) (d : Due) (w : Wanted) → IsDueFrom words told d → Takes words w → d.status ≡ SourceRefused → reads w ≡ true
refused_reads words told d (sequential settings) is takes e = refl
refused_reads words told d (verify settings) is takes e = refl
refused_reads words told d (swept s settings) is takes e = refl
refused_reads words told d (planned workers settings) is takes e = refl
refused_reads words told d (run workers choice by settings) is takes e = refl
refused_reads words told d (bench workers points sweeps) is takes e = absurd (let f : Done ≡ SourceRefused = sym (bench_runs words told d workers points sweeps is takes) ∙ e in cc)

pub from-refused : (words : List Text) (told : Option (List ℕ)) (d : Due) → IsDueFrom words told d → d.status ≡ SourceRefused → (w : Wanted) × ReadFor words w
from-refused words told d is e =
    let ask = refused-asks words is.bytes d is.is_due e in
    (ask.0, record { asked = ask.1; reads_are = refused_reads words told d ask.0 is ask.1.takes e })

pub from-unfit : (words : List Text) (told : Option (List ℕ)) (d : Due) → IsDueFrom words told d → d.status ≡ PlanRefused → (w : Wanted) × ReadFor words w
from-unfit words told d is e = unfit-asks words is.bytes d is.is_due e

-- with status 0 the settings have the form of settings
pub from-done : (words : List Text) (told : Option (List ℕ)) (d : Due) (w : Wanted) → IsDueFrom words told d → Takes words w → d.status ≡ Done → AskFor words w
from-done words told d w is takes e =
    let run = request-done w (source_for w is.bytes) d (asked-due words is.bytes w d takes is.is_due) e in
    record { takes = takes; settings_are = run.settings_are }

pub from-unnamed : (words : List Text) (told : Option (List ℕ)) (d : Due) (w : Wanted) → IsDueFrom words told d → AskFor words w → all_settings w ≡ [] → d.status ≢ BadWords
from-unnamed words told d w is ask none e =
    request-unnamed w (source_for w is.bytes) d (asked-due words is.bytes w d ask.takes is.is_due) ask.settings_are none e

-- the status that was found, or that a write failed
pub said_or_fault : (r s : Status) → (r ≢ WriteFault → r ≡ s) → (r ≡ s) ⊎ ((r ≡ WriteFault) ⊎ (r ≡ NoMemory))
said_or_fault WriteFault s h = inr (inl refl)
said_or_fault Done s h = inl (h (λ e. absurd (cc)))
said_or_fault SourceRefused s h = inl (h (λ e. absurd (cc)))
said_or_fault BadWords s h = inl (h (λ e. absurd (cc)))
said_or_fault ReadFault s h = inl (h (λ e. absurd (cc)))
said_or_fault NoMemory s h = inl (h (λ e. absurd (cc)))
said_or_fault PlanRefused s h = inl (h (λ e. absurd (cc)))
said_or_fault TooLong s h = inl (h (λ e. absurd (cc)))

-- ---- receipts

-- of a run with status 0 there is the receipt of what was written
pub receipt-said : (words : List Text) (told : Option (List ℕ)) (status r : Status) (text t : List ℕ) (receipt : Option Receipt) (w : Wanted) (a b : Option (List ℕ))
    → IsAnswerFrom words told (due status text) receipt → t ≡ text → status ≡ Done → Appends a b t → Takes words w → is_run w ≡ true → WritesReceipt w told a b receipt
receipt-said words told status r text t None w a b is same done written takes runs = absurd (is.receipt_is w takes runs done)
receipt-said words told status r text t (Some end) w a b is same done written takes runs =
    let run = request-done w (source_for w is.bytes) (due status text) (asked-due words is.bytes w (due status text) takes is.is_due) done in
    record {
      bytes = is.bytes;
      told = is.told;
      runnable = run.runnable;
      text = text;
      written = subst (Appends a b) same written;
      left = end;
      receipt_is = refl;
      is_receipt = (is.receipt_is w takes).2;
    }

-- and without there is none
pub receipt-none : (words : List Text) (told : Option (List ℕ)) (status : Status) (text : List ℕ) (receipt : Option Receipt)
    → IsAnswerFrom words told (due status text) receipt → status ≡ Done → ((w : Wanted) → Takes words w → is_run w ≡ true → ⊥) → receipt ≡ None
receipt-none words told status text None is done never = refl
receipt-none words told status text (Some end) is done never = by_case is.is_due
  where
    by_case : IsDue words is.bytes (due status text) → Some end ≡ None
    by_case (shown asks e) = is.none (λ w takes. taken_or_shown words w takes asks)
    by_case (faulty are e) = is.none (λ w takes. taken_or_faulty words w takes are)
    by_case (asked w takes e) = absurd (never w takes (is.receipt_is w takes).0)

pub is_done : (s : Status) → (s ≡ Done) ⊎ (s ≢ Done)
is_done Done = inl refl
is_done SourceRefused = inr (λ e. cc)
is_done BadWords = inr (λ e. cc)
is_done ReadFault = inr (λ e. cc)
is_done WriteFault = inr (λ e. cc)
is_done NoMemory = inr (λ e. cc)
is_done PlanRefused = inr (λ e. cc)
is_done TooLong = inr (λ e. cc)
