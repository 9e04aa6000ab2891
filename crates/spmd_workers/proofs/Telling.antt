-- The main seat and all workers' seats tell each other what they know.
use Rattle.std.proofs.Common.{◌≡◌, ◌≢◌, ℕ, ◌+◌, ◌<◌, ◌≤◌, List, length, set, refl, sym, ◌∙◌, ap, subst, inl, inr, length-set, get_or-set_same, get_or-set_other, arith}
use Rattle.std.specs.Prelude.{slice_index}
use Rattle.std.proofs.lemmas.Bool.{cases_eq}
use Rattle.std.proofs.lemmas.List.{set-get_or, get_or_default}
use Rattle.crossbeam_utils.specs.declared.cache_padded.CachePadded.{CachePadded}
use Rattle.crossbeam_utils.specs.Padded.{padded_value}
use Rattle.shared_words.specs.Homes.{Home, IsSameTable, MainView, at_place, main_in}
use Rattle.spmd_workers.specs.Teams.{AreSeatedIn, AreTheirs, HasTold, worker_at}
use Rattle.spmd_workers.specs.Workers.{IsPlaced, WorkerView, worker_in}

pub same_tables : (a b c : Home) → IsSameTable a b → IsSameTable b c → IsSameTable a c
same_tables a b c x y = (x.0 ∙ y.0, x.1 ∙ y.1)

pub told_none : (main : MainView) (workers : List (CachePadded WorkerView)) → AreSeatedIn main.home workers → HasTold main main workers workers 0
told_none main workers seated = record {
  count = refl;
  kept = λ p d lt. refl;
  tables = λ p d lt. (seated p d lt).0;
  main = refl;
  table = (refl, refl);
  long = refl;
  learnt = λ p d low lt. absurd (omega (arith, low));
  placed = λ p d low lt. absurd (omega (arith, low));
  knows = λ theirs. (refl, λ p d low lt. absurd (omega (arith, low)));
}

module _ (old main new : MainView) (before now after : List (CachePadded WorkerView)) (p : ℕ) (w : CachePadded WorkerView) (done : HasTold old main before now p) (seated : AreSeatedIn old.home before) (inside : p < length before) (long : length before ≤ length old.home.known) (from : CachePadded WorkerView)
    (at_main : new ≡ main_in (at_place (worker_at now p from).seat.processor (worker_at now p from).seat.position main.home) main) (at_seat : padded_value w ≡ worker_in new.home (worker_at now p from)) (placed : IsPlaced (padded_value w)) (written : after ≡ set now p w) where
  abbrev posn : ℕ
  posn = (worker_at before p from).seat.position

  here : new.home ≡ at_place p posn main.home
  here =
      let k = done.kept p from inside in
      ap (λ (m : MainView). m.home) at_main ∙ (λ i. at_place ((ap (λ (v : WorkerView). v.seat.processor) k ∙ (seated p from inside).1) i) ((ap (λ (v : WorkerView). v.seat.position) k) i) main.home)

  table : IsSameTable new.home old.home
  table = (ap (λ (h : Home). h.table) here ∙ done.table.0, ap (λ (h : Home). h.given) here ∙ done.table.1)

  at_here : (d : CachePadded WorkerView) → worker_at after p d ≡ worker_in new.home (worker_at before p d)
  at_here d =
      ap (λ l. worker_at l p d) written ∙ ap padded_value (get_or-set_same now p w d (let same = done.count in omega (arith, same, inside))) ∙ at_seat ∙ ap (worker_in new.home) (done.kept p from inside) ∙ ap (λ x. worker_in new.home (padded_value x)) (get_or_default before p from d inside)

  at_else : (q : ℕ) (d : CachePadded WorkerView) → q ≢ p → worker_at after q d ≡ worker_at now q d
  at_else q d ne = ap (λ l. worker_at l q d) written ∙ ap padded_value (get_or-set_other now p q w d ne)

  home_here : (d : CachePadded WorkerView) → (worker_at after p d).seat.home ≡ new.home
  home_here d = ap (λ (v : WorkerView). v.seat.home) (at_here d)

  -- where all places were known, nothing new is
  known_on : AreTheirs old.home.known before → new.home ≡ old.home
  known_on theirs =
      here ∙ ap (at_place p posn) (done.knows theirs).0 ∙ ap (λ n. at_place p n old.home) (sym (theirs p from inside)) ∙ ap (λ l. record { table = old.home.table; given = old.home.given; known = l }) (set-get_or old.home.known p 0)

  learnt_on : (q : ℕ) (d : CachePadded WorkerView) → q < p + 1 → q < length before → slice_index new.home.known q ≡ (worker_at before q d).seat.position
  learnt_on q d low lt = ap (λ (h : Home). slice_index h.known q) here ∙ (elim (cases_eq q p) [
    | inl e ↦ ap (slice_index (set main.home.known p posn)) e ∙ get_or-set_same main.home.known p posn 0 (let size = done.long in omega (arith, size, inside, long)) ∙ ap (λ (x : CachePadded WorkerView). (padded_value x).seat.position) (get_or_default before p from d inside) ∙ ap (λ k. (worker_at before k d).seat.position) (sym e)
    | inr ne ↦ get_or-set_other main.home.known p q posn 0 ne ∙ done.learnt q d (omega (arith, low, ne)) lt
  ])

  pub told_more : HasTold old new before after (p + 1)
  told_more = record {
    count = ap (λ (l : List (CachePadded WorkerView)). length l) written ∙ length-set now p w ∙ done.count;
    kept = λ q d lt. elim (cases_eq q p) [
      | inl e ↦ subst (λ k. worker_at after k d ≡ worker_in (worker_at after k d).seat.home (worker_at before k d)) (sym e) (at_here d ∙ ap (λ (h : Home). worker_in h (worker_at before p d)) (sym (home_here d)))
      | inr ne ↦ subst (λ (v : WorkerView). v ≡ worker_in v.seat.home (worker_at before q d)) (sym (at_else q d ne)) (done.kept q d lt)
    ];
    tables = λ q d lt. elim (cases_eq q p) [
      | inl e ↦ subst (λ k. IsSameTable (worker_at after k d).seat.home old.home) (sym e) (subst (λ (h : Home). IsSameTable h old.home) (sym (home_here d)) table)
      | inr ne ↦ subst (λ (v : WorkerView). IsSameTable v.seat.home old.home) (sym (at_else q d ne)) (done.tables q d lt)
    ];
    main = at_main ∙ ap (main_in (at_place (worker_at now p from).seat.processor (worker_at now p from).seat.position main.home)) done.main ∙ ap (λ (h : Home). main_in h old) (sym (ap (λ (m : MainView). m.home) at_main));
    table = table;
    long = ap (λ (h : Home). length h.known) here ∙ length-set main.home.known p posn ∙ done.long;
    learnt = learnt_on;
    placed = λ q d low lt. elim (cases_eq q p) [
      | inl e ↦ subst (λ k. IsPlaced (worker_at after k d)) (sym e) (subst (λ (v : WorkerView). IsPlaced v) (sym (ap (λ l. worker_at l p d) written ∙ ap padded_value (get_or-set_same now p w d (let same = done.count in omega (arith, same, inside))))) placed)
      | inr ne ↦ subst (λ (v : WorkerView). IsPlaced v) (sym (at_else q d ne)) (done.placed q d (omega (arith, low, ne)) lt)
    ];
    knows = λ theirs. (
      known_on theirs,
      λ q d low lt. elim (cases_eq q p) [
        | inl e ↦ ap (λ k. (worker_at after k d).seat.home) e ∙ home_here d ∙ known_on theirs
        | inr ne ↦ ap (λ (v : WorkerView). v.seat.home) (at_else q d ne) ∙ (done.knows theirs).1 q d (omega (arith, low, ne)) lt
      ],
    );
  }
