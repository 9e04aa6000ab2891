-- The laws of the machine of an ordered plan.
use Rattle.std.proofs.Common.{◌<◌, ◌^◌, Bool, map, ◌≤◌, ◌≡◌, false, true≢false, length, ℕ, ◌+◌, ℤ, List, [], ◌∷◌, ◌++◌, take, Option, Some, None, refl, ap, sym, ◌∙◌, arith}
use Rattle.std.specs.Prelude.{slice_get}
use Rattle.std.specs.Option.{option_map}
use Rattle.std.proofs.lemmas.Option.{slice_get-map}
use Rattle.std.proofs.lemmas.Bool.{leb-false}
use Rattle.std.proofs.lemmas.List.{append-nil, take_all}
use Rattle.spmd_model.specs.Deeds.{Deed, adding, deed_of, printing, storing}
use Rattle.spmd_model.specs.States.{line_by}
use Rattle.spmd_model.proofs.Registers.{print_whole}
use Rattle.spmd_model.specs.Ordered.{IsOrderedMachine, IsSound}
use Rattle.spmd_model.specs.Sequential.{memory_at_end, loaded_at, loaded_by, registers_at, stored_at, stored_by, whole_output}
use Rattle.spmd_model.specs.Shared.{AreLawful}
use Rattle.spmd_model.specs.Timelines.{Machine, counter}
use Rattle.spmd_model.specs.Acts.{Act, post, await, load, store, add, print, act_at, acts_of}
use Rattle.spmd_model.proofs.ActLists.{found}
use Rattle.spmd_model.proofs.MomentActs.{IsLastIn, tells}
use Rattle.spmd_model.proofs.Shared as shared
use Rattle.spmd_model.proofs.Runs.{printed_more, registers_more}
use Rattle.spmd_model.proofs.Ends.{prints_whole}
use Rattle.spmd_model.specs.Lawful.{act_line, printed_at}
use Rattle.std.specs.List.{flat_map}
use Rattle.spmd_model.proofs.Counters as counters
use Rattle.spmd_model.specs.Laws.{Laws}
use Rattle.spmd_model.specs.Protocols.{Protocol, is_gathered, is_print}
use Rattle.spmd_model.proofs.Arrivals.{arrivals, await_behind, seen}
use Rattle.spmd_model.proofs.Barriers.{AreAll, all_join, awaits_all, has_arrived}
use Rattle.spmd_model.proofs.Gathered.{await_settled, shows_less, shows_post}
use Rattle.spmd_model.proofs.Passed.{by_passed, first_settled, none_passed}

-- acts that print nothing
prints_nothing : (m : Machine) (a : Act) → is_print a ≡ false → act_line m a ≡ []
prints_nothing m (post w n) silent = refl
prints_nothing m (await w q n) silent = refl
prints_nothing m (load t c) silent = refl
prints_nothing m (store t c) silent = refl
prints_nothing m (add t c) silent = refl
prints_nothing m (print t) silent = absurd (true≢false silent)

printer_is : (m : Machine) (p n t : ℕ) → IsSound m → act_at m p n ≡ Some (print t) → p ≡ 0
printer_is m p n t sound e =
    let f = found m p n (print t) e in
    let l : IsLastIn p f.place f.index t None f.moment = tells p f.place f.index f.moment (print t) f.is in
    sym l.owner ∙ sound.printed f.place l.job_is (f.at ∙ ap Some l.moment) l.stores

-- what the laws ask of a machine whose processors share so many cells
pub record Suits (m : Machine) (shared : ℕ) (gathered : ℕ → Bool) (last : List ℤ) (output : List ℕ) : Type 0 where
  pub sound : IsSound m
  pub ordered : IsOrderedMachine m
  pub some : shared ≤ m.cells
  pub few : m.workers ≤ 64
  pub added : (p n place cell : ℕ) → act_at m p n ≡ Some (add place cell) → cell < shared
  pub all : AreAll m gathered
  pub arrive : (p n : ℕ) → arrivals gathered (take n (acts_of m p)) ≤ 2 ^ 40
  pub ends : take shared (memory_at_end m) ≡ last
  pub prints : whole_output m ≡ output

abbrev pub protocol_along : Machine → ℕ → (ℕ → Bool) → List ℤ → List ℕ → Protocol
protocol_along m shared gathered last output = record {
  workers = m.workers;
  cells = shared;
  acts = acts_of m;
  gathers = gathered;
  registers_at = registers_at m;
  loaded_at = loaded_at m;
  stored_at = stored_at m;
  printed_at = printed_at m;
  last = last;
  output = output;
  lawful = AreLawful m shared;
}

pub held : (m : Machine) (c : ℕ) (gathered : ℕ → Bool) (last : List ℤ) (output : List ℕ) → Suits m c gathered last output → Laws (protocol_along m c gathered last output)
held m c gathered last output s =
    let sound = s.sound in
    let ordered = s.ordered in
    let whole : Protocol = protocol_along m c gathered last output in
    let joins = all_join m gathered s.all in
    record {
      first = λ at none. shared.first m c at sound s.some none;
      first_settled = λ at settles. first_settled m c sound ordered s.some at settles;
      load_inside = λ p n place cell lt e. leb-false c cell (none_passed c (acts_of m p) n (load place cell) e);
      store_inside = λ p n place cell lt e. leb-false c cell (none_passed c (acts_of m p) n (store place cell) e);
      add_inside = λ p n place cell lt e. s.added p n place cell e;
      gives = λ cells at p place cell lt lawful e inside. shared.gives m c cells at p sound ordered lawful place cell inside e ∙ sym (ap (loaded_by m) e);
      by_load = λ cells at after p place cell lt lawful e moves. shared.by_load m c cells at after p lt sound ordered lawful moves place cell e;
      by_store = λ cells at after p place cell lt lawful e inside moves. shared.by_store m c cells at after p lt sound ordered lawful moves place cell inside e;
      by_add = λ cells at after p place cell lt lawful e inside moves. shared.by_add m c cells at after p lt sound ordered lawful moves place cell inside e;
      by_print = λ cells at after p place lt lawful e moves. shared.by_print m c cells at after p lt sound ordered lawful moves place e;
      by_quiet = λ cells at after p a lt lawful e quiet moves. shared.by_quiet m c cells at after p lt sound ordered lawful moves a e quiet;
      by_passed = λ cells at after p lt lawful moves. by_passed m c sound ordered cells at after p lt lawful moves;
      by_post = λ cells at after w p number lt lawful e moves. shared.by_post m c cells at after p lt sound ordered lawful moves w number e;
      by_await = λ cells at after w p on wanted lt lawful e posted moves. shared.by_await m c cells at after p lt sound ordered lawful moves w on wanted e posted;
      posted = λ w p n on wanted k lt e.
          ((counters.awaited_post m w p n on wanted sound lt e).0, λ come. (counters.posted m w p n on wanted k sound lt e (no_less come (shows_less m gathered w on sound k))).1);
      shows = λ w q number k plain posted. shows_post m gathered w q sound number k posted.0 plain posted.2 posted.1;
      arrival = λ p n number lt e g. let next = await_behind gathered p 0 m.timeline (joins p lt) n counter number e g in
          ap (λ i. is_gathered whole (act_at m p i)) (await_settled c (acts_of m p) (n + 1) next.0 number next.1) ∙ ap (is_gathered whole) next.1 ∙ g;
      gathered = λ p n on wanted k lt e g. let below = (counters.awaited_post m counter p n on wanted sound lt e).0 in (below, λ le. seen gathered p on 0 m.timeline (joins p lt) (joins on below) n k counter on wanted e g le);
      awaits_all = λ p q n on wanted lt below apart e g. awaits_all m gathered sound s.all p q n on wanted lt below apart e g;
      arrived = λ p q n on wanted k lt below e g posted. has_arrived m gathered sound s.all p q n on wanted k lt below e g posted;
      few_workers = s.few;
      few_arrivals = λ p n. s.arrive p n;
      size = λ cells at lawful. lawful.count;
      within = λ cells at p lt lawful. lawful.lawful.within p lt;
      ended = λ cells at lawful end. shared.ended m c cells at sound lawful end ∙ s.ends;
      empty_first = λ p. refl;
      load_appends = λ p n place cell e. registers_more m p n (load place cell) e ∙ ap (λ v. registers_at m p n ++ v ∷ []) (sym (ap (loaded_by m) e));
      store_empties = λ p n place cell e. registers_more m p n (store place cell) e;
      add_empties = λ p n place cell e. registers_more m p n (add place cell) e;
      print_empties = λ p n place e. registers_more m p n (print place) e;
      post_leaves = λ w p n number e. registers_more m p n (post w number) e;
      await_leaves = λ w p n on wanted e. registers_more m p n (await w on wanted) e;
      printed_first = λ p. refl;
      printed_leaves = λ p n a e silent. printed_more m p n a e ∙ ap (λ l. printed_at m p n ++ l) (prints_nothing m a silent) ∙ append-nil (printed_at m p n);
      prints_of_first = λ p n place lt e. printer_is m p n place sound e;
      printed_whole = ap (flat_map (act_line m)) (take_all (length (acts_of m 0)) (acts_of m 0) (omega arith)) ∙ prints_whole m sound ∙ s.prints;
    }
  where
    no_less : {a b c : ℕ} → a ≤ b → b ≤ c → a ≤ c
    no_less le le' = omega (arith, le, le')

-- ---- values by deeds

stored_by_deed : (m : Machine) (given : List ℤ) (o : Option Act) (cell : ℕ) (value : List ℤ → ℤ) → option_map (deed_of m) o ≡ Some (storing cell value) → stored_by m given o ≡ value given
stored_by_deed m given None cell value e = absurd (cc)
stored_by_deed m given (Some (post w n)) cell value e = absurd (cc)
stored_by_deed m given (Some (await w q n)) cell value e = absurd (cc)
stored_by_deed m given (Some (load t c)) cell value e = absurd (cc)
stored_by_deed m given (Some (store t c)) cell value e =
    let deeds : Some (deed_of m (store t c)) ≡ Some (storing cell value) = e in
    let same : storing c (stored_from t) ≡ storing cell value = cc in
    let values : stored_from t ≡ value = cc in
    ap (λ f. f given) values
  where
    stored_from : ℕ → List ℤ → ℤ
    stored_from place loaded = stored_by m loaded (Some (store place c))
stored_by_deed m given (Some (add t c)) cell value e = absurd (cc)
stored_by_deed m given (Some (print t)) cell value e = absurd (cc)

added_by_deed : (m : Machine) (given : List ℤ) (o : Option Act) (cell : ℕ) (value : List ℤ → ℤ) → option_map (deed_of m) o ≡ Some (adding cell value) → stored_by m given o ≡ value given
added_by_deed m given None cell value e = absurd (cc)
added_by_deed m given (Some (post w n)) cell value e = absurd (cc)
added_by_deed m given (Some (await w q n)) cell value e = absurd (cc)
added_by_deed m given (Some (load t c)) cell value e = absurd (cc)
added_by_deed m given (Some (store t c)) cell value e = absurd (cc)
added_by_deed m given (Some (add t c)) cell value e =
    let deeds : Some (deed_of m (add t c)) ≡ Some (adding cell value) = e in
    let same : adding c (added_from t) ≡ adding cell value = cc in
    let values : added_from t ≡ value = cc in
    ap (λ f. f given) values
  where
    added_from : ℕ → List ℤ → ℤ
    added_from place loaded = stored_by m loaded (Some (add place c))
added_by_deed m given (Some (print t)) cell value e = absurd (cc)

-- of a machine whose processor's acts do these deeds
module _ (m : Machine) (p n : ℕ) (deeds : List Deed) (done : map (deed_of m) (acts_of m p) ≡ deeds) where
  deed_at : (d : Deed) → slice_get deeds n ≡ Some d → option_map (deed_of m) (act_at m p n) ≡ Some d
  deed_at d e = sym (slice_get-map (deed_of m) (acts_of m p) n) ∙ ap (λ ds. slice_get ds n) done ∙ e

  pub stored_value : (cell : ℕ) (value : List ℤ → ℤ) → slice_get deeds n ≡ Some (storing cell value) → stored_at m p n ≡ value (registers_at m p n)
  stored_value cell value e = stored_by_deed m (registers_at m p n) (act_at m p n) cell value (deed_at (storing cell value) e)

  pub added_value : (cell : ℕ) (value : List ℤ → ℤ) → slice_get deeds n ≡ Some (adding cell value) → stored_at m p n ≡ value (registers_at m p n)
  added_value cell value e = added_by_deed m (registers_at m p n) (act_at m p n) cell value (deed_at (adding cell value) e)

  pub act_of_deed : (d : Deed) → slice_get deeds n ≡ Some d → (a : Act) × (act_at m p n ≡ Some a) × (deed_of m a ≡ d)
  act_of_deed d e = by (act_at m p n) refl (deed_at d e)
    where
      by : (o : Option Act) → act_at m p n ≡ o → option_map (deed_of m) o ≡ Some d → (a : Act) × (act_at m p n ≡ Some a) × (deed_of m a ≡ d)
      by None at h = absurd (cc)
      by (Some a) at h = let same : Some (deed_of m a) ≡ Some d = h in (a, at, cc)

  pub printed_line : (line : List ℤ → List ℕ) → slice_get deeds n ≡ Some (printing line) → printed_at m p (n + 1) ≡ printed_at m p n ++ line (registers_at m p n)
  printed_line line e = let a = act_of_deed (printing line) e in by a.0 a.1 a.2
    where
      by : (a : Act) → act_at m p n ≡ Some a → deed_of m a ≡ printing line → printed_at m p (n + 1) ≡ printed_at m p n ++ line (registers_at m p n)
      by (post w k) at h = absurd (cc)
      by (await w q k) at h = absurd (cc)
      by (load t c) at h = absurd (cc)
      by (store t c) at h = absurd (cc)
      by (add t c) at h = absurd (cc)
      by (print t) at h =
          printed_more m p n (print t) at ∙ ap (λ l. printed_at m p n ++ l) (ap (line_by (slice_get m.timeline t)) (sym (print_whole m p n t at)) ∙ ap (λ f. f (registers_at m p n)) (of_deed t h))
        where
          of_deed : (t : ℕ) → deed_of m (print t) ≡ printing line → line_by (slice_get m.timeline t) ≡ line
          of_deed t h = let deeds : printing (line_by (slice_get m.timeline t)) ≡ printing line = h in cc
