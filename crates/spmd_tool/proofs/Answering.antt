-- What is due, from what was found of words and source.
use Rattle.std.proofs.Common.{◌≡◌, ◌≢◌, ◌+◌, ◌≤◌, ◌<◌, ℕ, ℤ, List, length, Option, Some, None, Result, Ok, Err, IfOk, OnOk, true, ap, sym, subst, ◌∙◌, refl, arith}
use Rattle.std.specs.Io.KnownBytes.{Consumes, IsAtEnd}
use Rattle.f77_scene.specs.Scene.{Name}
use Rattle.clap.specs.Words.{Text}
use Rattle.command_words.specs.Settings.{first_fault_from, settings_in}
use Rattle.command_words.specs.declared.request.Bench.{Bench}
use Rattle.command_words.specs.declared.request.Request.{Request}
use Rattle.command_words.specs.declared.request.Request.TheVariants as request
use Rattle.command_words.specs.Wanted.{IsCounted, Wanted, wanted, Takes, AreFaulty, asks_to_show, sequential, verify, swept, planned, run, bench}
use Rattle.spmd_answer.specs.Bench.{bench_source}
use Rattle.spmd_answer.specs.Due as answer
use Rattle.spmd_answer.specs.Due.{Due, wrong_setting}
use Rattle.spmd_answer.specs.declared.receipt.Receipt.{Receipt}
use Rattle.spmd_answer.specs.Receipts.{HasReceiptOf}
use Rattle.spmd_answer.specs.Answers.{due_in}
use Rattle.spmd_answer.specs.declared.due.Answer.{Answer}
use Rattle.plan_input.specs.declared.status.Status.TheVariants.{Done}
use Rattle.spmd_answer.proofs.Benches.{bench_short}
use Rattle.spmd_tool.specs.declared.answer.Trouble.{Trouble}
use Rattle.spmd_tool.specs.Due.{HasReceiptFor, IsDueFor, asked, faulty, first_wrong, most_bytes, reads, settings_of, shown, source_for, too_long, wrong_words}
use Rattle.whole_streams.specs.Streams.{AreTold, TakesBytes}
use Rattle.spmd_tool.specs.Written.{IsAnswerFrom, IsAnswerOf, IsDueFrom}
use Rattle.spmd_tool.proofs.Dues.{for_long, for_source, for_wrong, one_request, taken_or_faulty, taken_or_shown}
use Rattle.spmd_tool.proofs.Told.{read_told, some_told, taken_told}

-- where the source is read its bytes are those from which a request is answered
pub source_reads : (w : Wanted) (bytes : List ℕ) → reads w ≡ true → source_for w bytes ≡ bytes
source_reads (sequential settings) bytes h = refl
source_reads (verify settings) bytes h = refl
source_reads (swept s settings) bytes h = refl
source_reads (planned workers settings) bytes h = refl
source_reads (run workers choice by settings) bytes h = refl
source_reads (bench workers points sweeps) bytes h = absurd (cc)

-- it is read for each request that isn't for `bench`
pub reads-other : (r : Request) → ((b : Bench) → r ≡ request.Bench b → ⊥) → reads (wanted r) ≡ true
reads-other (request.Sequential settings) other = refl
reads-other (request.Verify settings) other = refl
reads-other (request.Sweep s settings) other = refl
reads-other (request.Plan workers settings) other = refl
reads-other (request.Run by settings) other = refl
reads-other (request.Bench b) other = absurd (other b refl)

-- the bytes of `bench` are those of its own program
pub own-source : (r : Request) (b : Bench) (told : Option (List ℕ)) (bytes : List ℕ) → r ≡ request.Bench b → bytes ≡ bench_source b.points b.sweeps
    → (all : List ℕ) × AreTold told all × (bytes ≡ source_for (wanted r) all)
own-source r b told bytes e same =
    let some = some_told told in
    (some.0, some.1, subst (λ (x : Request). bytes ≡ source_for (wanted x) some.0) (sym e) same)

-- and not too many
pub own-short : (r : Request) (b : Bench) (bytes : List ℕ) → IsCounted (wanted r) → r ≡ request.Bench b → bytes ≡ bench_source b.points b.sweeps → length bytes ≤ most_bytes
own-short r b bytes counted e same =
    let sizes : IsCounted (bench b.workers b.points b.sweeps) = subst (λ (x : Request). IsCounted (wanted x)) e counted in
    let few = sizes.1.0.1 in
    let fewer = sizes.1.1 in
    subst (λ (xs : List ℕ). length xs ≤ most_bytes) (sym same) (bench_short b.points b.sweeps (omega (arith, few)) (omega (arith, fewer)))

-- those of any other are the ones that were read to the end
pub read-source : {A E : Type 0} (r : Request) (old new : Option (List ℕ)) (items : A → List ℕ) (read : Result A E) → ((b : Bench) → r ≡ request.Bench b → ⊥)
    → IfOk read (λ a. Consumes old new (items a)) → OnOk read (IsAtEnd new) → IfOk read (λ a. (all : List ℕ) × AreTold old all × (items a ≡ source_for (wanted r) all))
read-source r old new items (Ok a) other consumed ended =
    (items a, read_told old new (items a) (items a) consumed ended refl, sym (source_reads (wanted r) (items a) (reads-other r other)))
read-source r old new items (Err e) other consumed ended = tt

-- without status 0 there is no receipt
undone : (w : Wanted) (bytes : List ℕ) (d e : Due) → d ≡ e → e.status ≢ Done → HasReceiptFor w bytes d None
undone w bytes d e is other = λ shared done. other (ap (λ x. x.status) (sym is) ∙ done)

-- of a request with a word that should be a setting and is none
pub wrong-of : (w : Wanted) (told : Option (List ℕ)) (words : List Text) (n : ℕ) (d : Due) → words ≡ settings_of w → first_fault_from 1 words ≡ Some n → d ≡ wrong_setting n → IsAnswerOf w told d None
wrong-of w told words n d e first is =
    let some = some_told told in
    let wrong : first_wrong w ≡ Some n = ap (first_fault_from 1) (sym e) ∙ first in
    record {
      bytes = some.0;
      told = some.1;
      is_due = for_wrong w (source_for w some.0) d n wrong is;
      receipt_is = undone w (source_for w some.0) d (wrong_setting n) is (λ f. cc);
    }

-- of a request whose source was read to its end
pub read-of : (w : Wanted) (told : Option (List ℕ)) (read : List ℕ) (source : (all : List ℕ) × AreTold told all × (read ≡ source_for w all)) (bytes : List ℕ) (words : List Text) (settings : List (Name × ℤ)) (d : Due) (receipt : Option Receipt)
    → words ≡ settings_of w → (first_fault_from 1 words ≡ None) × (settings ≡ settings_in words) → bytes ≡ read → length read ≤ most_bytes
    → answer.IsDueOf w settings bytes d → HasReceiptOf w settings bytes d receipt → IsAnswerOf w told d receipt
read-of w told read source bytes words settings d receipt e first same short is left =
    let none : first_wrong w ≡ None = ap (first_fault_from 1) (sym e) ∙ first.0 in
    let those : settings ≡ settings_in (settings_of w) = first.1 ∙ ap settings_in e in
    let from : bytes ≡ source_for w source.0 = same ∙ source.2 in
    let few : length bytes ≤ most_bytes = subst (λ (b : List ℕ). length b ≤ most_bytes) (sym same) short in
    record {
      bytes = source.0;
      told = source.1;
      is_due = subst (λ (b : List ℕ). IsDueFor w b d) from (for_source w bytes d none few (subst (λ (s : List (Name × ℤ)). answer.IsDueOf w s bytes d) those is));
      receipt_is = subst (λ (b : List ℕ). HasReceiptFor w b d receipt) from (subst (λ (s : List (Name × ℤ)). HasReceiptOf w s bytes d receipt) those left);
    }

-- of a request whose source has too many bytes
pub long-of : (w : Wanted) (old new : Option (List ℕ)) (words : List Text) (d : Due) → words ≡ settings_of w → first_fault_from 1 words ≡ None → (reads w ≡ true) × TakesBytes old new (most_bytes + 1) → d ≡ too_long → IsAnswerOf w old d None
long-of w old new words d e first takes is =
    let all = taken_told old new (most_bytes + 1) takes.1 in
    let none : first_wrong w ≡ None = ap (first_fault_from 1) (sym e) ∙ first in
    let more : most_bytes < length all.0 = let h = all.2 in omega arith in
    let long : most_bytes < length (source_for w all.0) = subst (λ (b : List ℕ). most_bytes < length b) (sym (source_reads w all.0 takes.0)) more in
    record {
      bytes = all.0;
      told = all.1;
      is_due = for_long w (source_for w all.0) d none long is;
      receipt_is = undone w (source_for w all.0) d too_long is (λ f. cc);
    }

-- for words that stand for a request
pub from-asked : (words : List Text) (told : Option (List ℕ)) (w : Wanted) (r : Result (Answer × Option Receipt) Trouble) → Takes words w → IfOk r (λ a. IsAnswerOf w told (due_in a.0) a.1) → IfOk r (λ a. IsAnswerFrom words told (due_in a.0) a.1)
from-asked words told w (Ok a) takes h = record {
  bytes = h.bytes;
  told = h.told;
  is_due = asked w takes h.is_due;
  receipt_is = λ v taken. subst (λ (u : Wanted). HasReceiptFor u (source_for u h.bytes) (due_in a.0) a.1) (one_request words w v takes taken) h.receipt_is;
  none = λ never. absurd (never w takes);
}
from-asked words told w (Err e) takes h = tt

-- for words that ask for help or for the version
pub from-shown : (words : List Text) (told : Option (List ℕ)) (d : Due) → asks_to_show words ≡ true → d.status ≡ Done → IsAnswerFrom words told d None
from-shown words told d asks e = let some = some_told told in
    record { bytes = some.0; told = some.1; is_due = shown asks e; receipt_is = λ w takes. absurd (taken_or_shown words w takes asks); none = λ never. refl }

-- for faulty words, of which a sweep is none, or not
pub from-faulty : (words : List Text) (told : Option (List ℕ)) (d : Due) → AreFaulty words → d ≡ wrong_words words → IsAnswerFrom words told d None
from-faulty words told d are e = let some = some_told told in
    record { bytes = some.0; told = some.1; is_due = faulty are e; receipt_is = λ w takes. absurd (taken_or_faulty words w takes are); none = λ never. refl }

-- what the answer to words says of its text alone
pub due_from : (words : List Text) (told : Option (List ℕ)) (d : Due) (receipt : Option Receipt) → IsAnswerFrom words told d receipt → IsDueFrom words told d
due_from words told d receipt is = record { bytes = is.bytes; told = is.told; is_due = is.is_due }
