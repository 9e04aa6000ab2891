-- A round of legs leaves less.
use Rattle.std.proofs.Common.{◌≡◌, ℕ, zero, suc, ◌<◌, ◌≤◌, true, List, [], ◌∷◌, get_or, length, replicate, Option, Some, refl, sym, ◌∙◌, ap, subst, inl, inr, ⊎_elim, arith}
use Rattle.std.specs.Prelude.{slice_get, slice_index}
use Rattle.std.proofs.lemmas.List.{length-replicate}
use Rattle.crossbeam_utils.specs.declared.cache_padded.CachePadded.{CachePadded}
use Rattle.spmd_model.specs.Free.{IsInVain}
use Rattle.shared_words.specs.Rounds.{LeaveLess, Went, left_of, left_of_all}
use Rattle.shared_words.proofs.Totals.{total_same}
use Rattle.shared_words.specs.Calls.{main_seat}
use Rattle.shared_words.specs.Homes.{Home, IsSameTable, MainView, Subject, main_in, plan_given, protocol_at, protocol_given, style_given, tree_given}
use Rattle.spmd_workers.specs.Places.{plan_at, style_at, tree_at}
use Rattle.spmd_workers.specs.Teams.{AreInside, AreOut, AreSeatedIn, AreTheirs, AreWorkersOf, HasTold, IsGoing, WentAll, WentOn, ended_in, place_in, to_run, worker_at}
use Rattle.spmd_workers.specs.Workers.{IsPlaced, IsWorkerOf, WorkerView, worker_in}

-- whoever stands at a place below the length
there : {X : Type 0} (l : List X) (i : ℕ) → i < length l → (x : X) × (slice_get l i ≡ Some x) × (get_or l i x ≡ x)
there [] i lt = absurd (omega (arith, lt))
there (x ∷ xs) zero lt = (x, refl, refl)
there (x ∷ xs) (suc i) lt = there xs i (omega (arith, lt))

place_is : (workers : List (CachePadded WorkerView)) (p : ℕ) (d : CachePadded WorkerView) → p < length workers → place_in (slice_get workers p) ≡ (worker_at workers p d).seat.position
place_is [] p d lt = absurd (omega (arith, lt))
place_is (x ∷ xs) zero d lt = refl
place_is (x ∷ xs) (suc p) d lt = place_is xs p d (omega (arith, lt))

end_is : (workers : List (CachePadded WorkerView)) (p : ℕ) (d : CachePadded WorkerView) → p < length workers → ended_in (slice_get workers p) ≡ (worker_at workers p d).ended
end_is [] p d lt = absurd (omega (arith, lt))
end_is (x ∷ xs) zero d lt = refl
end_is (x ∷ xs) (suc p) d lt = end_is xs p d (omega (arith, lt))

-- ---- behind a leg of each, where all places were known

module _ (h : Home) (old new : List (CachePadded WorkerView)) (workers : AreWorkersOf h old) (theirs : AreTheirs h.known old) (placed : (p : ℕ) (d : CachePadded WorkerView) → p < length old → IsPlaced (worker_at old p d)) (after : AreWorkersOf h new) (within : AreInside new) (all : WentAll old new) where
  below : (p : ℕ) → p < (protocol_at h).workers → (p < length old) × (p < length new)
  below p lt = let a = workers.count in let b = after.count in (omega (arith, lt, a), omega (arith, lt, b))

  went : (p : ℕ) → p < (protocol_at h).workers → Went (IsInVain (protocol_at h).acts (slice_index h.known) p (slice_index h.known p)) (slice_index h.known p) (place_in (slice_get new p)) (ended_in (slice_get old p)) (ended_in (slice_get new p))
  went p lt =
      let in_old = (below p lt).0 in let in_new = (below p lt).1 in
      let d = (there old p in_old).0 in
      let its = workers.each p d in_old in
      let g : WentOn (worker_at old p d) (worker_at new p d) = all p d in_old in
      let known = theirs p d in_old in
      let place = place_is new p d in_new in record {
        further = (let on = g.further in omega (arith, on, known, place));
        stays = λ e. end_is new p d in_new ∙ g.stays (sym (end_is old p d in_old) ∙ e);
        tells = λ e same. ⊎_elim
            (λ over. inl (end_is new p d in_new ∙ over))
            (λ vain. inr (subst (λ (x : Home × (ℕ × ℕ)). IsInVain (protocol_at x.0).acts (slice_index x.0.known) x.1.0 x.1.1) (λ i. (its.home i, (its.processor i, sym known i))) vain))
            (g.tells (sym (end_is old p d in_old) ∙ e) (sym place ∙ same ∙ known));
      }

  ends : (p : ℕ) → p < (protocol_at h).workers → ended_in (slice_get old p) ≡ true → slice_index h.known p ≡ length ((protocol_at h).acts p)
  ends p lt e =
      let in_old = (below p lt).0 in let d = (there old p in_old).0 in let its = workers.each p d in_old in
      theirs p d in_old ∙ ((placed p d in_old).over (sym (end_is old p d in_old) ∙ e)).ended ∙ (λ i. length ((protocol_at (its.home i)).acts (its.processor i)))

  inside : (p : ℕ) → p < (protocol_at h).workers → place_in (slice_get new p) ≤ length ((protocol_at h).acts p)
  inside p lt =
      let in_new = (below p lt).1 in let d = (there new p in_new).0 in let its = after.each p d in_new in
      let place = place_is new p d in_new in let most = within p d in_new in
      let same : length ((protocol_at (worker_at new p d).seat.home).acts (worker_at new p d).seat.processor) ≡ length ((protocol_at h).acts p) = (λ i. length ((protocol_at (its.home i)).acts (its.processor i))) in
      omega (arith, place, most, same)

  known_left : to_run h old ≡ left_of_all (protocol_at h).acts (slice_index h.known) (λ p. ended_in (slice_get old p)) (protocol_at h).workers
  known_left = total_same (λ p. left_of (length ((protocol_at h).acts p)) (slice_index h.known p) (ended_in (slice_get old p))) (λ p. left_of (length ((protocol_at h).acts p)) (place_in (slice_get old p)) (ended_in (slice_get old p))) (protocol_at h).workers
      (λ p lt. let in_old = (below p lt).0 in let d = (there old p in_old).0 in ap (λ k. left_of (length ((protocol_at h).acts p)) k (ended_in (slice_get old p))) (place_is old p d in_old ∙ sym (theirs p d in_old)))

  pub less_to_run : LeaveLess (style_at h) (tree_at h) (plan_at h) → IsGoing old → to_run h new < to_run h old
  less_to_run leave going =
      let one = going.0 in let in_old = going.1 in let d = (there old one in_old).0 in
      let less = leave (slice_index h.known) (λ p. place_in (slice_get new p)) (λ p. ended_in (slice_get old p)) (λ p. ended_in (slice_get new p)) one went ends inside (let count = workers.count in omega (arith, in_old, count)) (end_is old one d in_old ∙ going.2 d) in
      let same = known_left in omega (arith, less, same)

-- ---- where all were told

-- a worker in another home of its table is as much one of the same processor
worker_on : (h g : Home) (p : ℕ) (w v : WorkerView) → v ≡ worker_in v.seat.home w → v.seat.home ≡ g → IsWorkerOf h p w → IsWorkerOf g p v
worker_on h g p w v kept home its =
    let there : IsWorkerOf g p (worker_in g w) = record { home = refl; processor = its.processor } in
    subst (IsWorkerOf g p) (sym (kept ∙ ap (λ (x : Home). worker_in x w) home)) there

-- what is left stays
told_left : (h : Home) (old new : MainView) (before after : List (CachePadded WorkerView)) (n : ℕ) → HasTold old new before after n → length before ≡ (protocol_at h).workers → to_run h after ≡ to_run h before
told_left h old new before after n told count =
    total_same (λ p. left_of (length ((protocol_at h).acts p)) (place_in (slice_get before p)) (ended_in (slice_get before p))) (λ p. left_of (length ((protocol_at h).acts p)) (place_in (slice_get after p)) (ended_in (slice_get after p))) (protocol_at h).workers
    (λ p lt.
    let in_old : p < length before = omega (arith, lt, count) in
    let more = told.count in let in_new : p < length after = omega (arith, in_old, more) in
    let d = (there before p in_old).0 in let kept = told.kept p d in_old in
    λ i. left_of (length ((protocol_at h).acts p))
    ((place_is after p d in_new ∙ ap (λ (w : WorkerView). w.seat.position) kept ∙ sym (place_is before p d in_old)) i)
    ((end_is after p d in_new ∙ ap (λ (w : WorkerView). w.ended) kept ∙ sym (end_is before p d in_old)) i))

pub seated_in : (h : Home) (main : MainView) (workers : List (CachePadded WorkerView)) → main.home ≡ h → AreWorkersOf h workers → AreSeatedIn main.home workers
seated_in h main workers home its p d lt = let w = its.each p d lt in let same = w.home ∙ sym home in ((ap (λ (x : Home). x.table) same, ap (λ (x : Home). x.given) same), w.processor)

pub seated_on : (old new : MainView) (before after : List (CachePadded WorkerView)) (n : ℕ) → HasTold old new before after n → AreSeatedIn old.home before → AreSeatedIn new.home after
seated_on old new before after n told seated p d lt =
    let count = told.count in let inside : p < length before = omega (arith, lt, count) in
    let t = told.tables p d inside in (
      (t.0 ∙ sym told.table.0, t.1 ∙ sym told.table.1),
      ap (λ (w : WorkerView). w.seat.processor) (told.kept p d inside) ∙ (seated p d inside).1,
    )

-- what holds in front of a round, and where all have ended
pub record IsBetween (cells : Home) (main : MainView) (team : List (CachePadded WorkerView)) : Type 0 where
  pub workers : AreWorkersOf cells team
  pub home : main.home ≡ cells
  pub out : AreOut main
  pub long : length cells.known ≡ length team

module _ (cells : Home) (main first second : MainView) (before once twice : List (CachePadded WorkerView)) (between : IsBetween cells main before) (told : HasTold main first before once (length before)) (again : HasTold first second once twice (length once)) where
  pub its_given : second.home.given ≡ cells.given
  its_given = again.table.1 ∙ told.table.1 ∙ ap (λ (h : Home). h.given) between.home

  -- all places are known
  once_theirs : AreTheirs first.home.known once
  once_theirs p d lt = let count = told.count in let inside : p < length before = omega (arith, lt, count) in
      told.learnt p d inside inside ∙ sym (ap (λ (w : WorkerView). w.seat.position) (told.kept p d inside))

  twice_home : second.home ≡ first.home
  twice_home = (again.knows once_theirs).0

  pub twice_theirs : AreTheirs second.home.known twice
  twice_theirs p d lt = let count = again.count in let inside : p < length once = omega (arith, lt, count) in
      ap (λ (h : Home). slice_index h.known p) twice_home ∙ once_theirs p d inside ∙ sym (ap (λ (w : WorkerView). w.seat.position) (again.kept p d inside))

  -- and the workers are as they were
  twice_kept : (p : ℕ) (d : CachePadded WorkerView) → p < length before → worker_at twice p d ≡ worker_in (worker_at twice p d).seat.home (worker_at before p d)
  twice_kept p d lt = let count = told.count in
      again.kept p d (omega (arith, lt, count)) ∙ ap (worker_in (worker_at twice p d).seat.home) (told.kept p d lt)

  pub twice_workers : AreWorkersOf second.home twice
  twice_workers = record {
    count = again.count ∙ told.count ∙ between.workers.count ∙ ap (λ g. (protocol_given g).workers) (sym its_given);
    each = λ p d lt. let one = told.count in let two = again.count in let inside : p < length before = omega (arith, lt, one, two) in
        worker_on cells second.home p (worker_at before p d) (worker_at twice p d) (twice_kept p d inside) ((again.knows once_theirs).1 p d (omega (arith, inside, one)) (omega (arith, inside, one)) ∙ sym twice_home) (between.workers.each p d inside);
  }

  twice_placed : (p : ℕ) (d : CachePadded WorkerView) → p < length twice → IsPlaced (worker_at twice p d)
  twice_placed p d lt = let count = again.count in let inside : p < length once = omega (arith, lt, count) in again.placed p d inside inside

  pub twice_inside : AreInside twice
  twice_inside p d lt = (twice_placed p d lt).inside

  twice_going : IsGoing before → IsGoing twice
  twice_going going = (going.0, (let one = told.count in let two = again.count in let inside = going.1 in omega (arith, inside, one, two)), λ d. ap (λ (w : WorkerView). w.ended) (twice_kept going.0 d going.1) ∙ going.2 d)

  module _ (after : List (CachePadded WorkerView)) (workers : AreWorkersOf second.home after) (within : AreInside after) (went : WentAll twice after) where
    -- so it is again behind the round
    pub still_between : IsBetween second.home second after
    still_between = record {
      workers = workers;
      home = refl;
      out = λ p lt. ap (λ (m : MainView). slice_get m.stages p) (again.main ∙ ap (main_in second.home) told.main) ∙ between.out p (subst (λ g. p < (protocol_given g).workers) (again.table.1 ∙ told.table.1) lt);
      long = again.long ∙ told.long ∙ ap (λ (h : Home). length h.known) between.home ∙ between.long ∙ between.workers.count ∙ ap (λ g. (protocol_given g).workers) (sym its_given) ∙ sym workers.count;
    }

    -- and less is left
    pub less_than_before : LeaveLess (style_at cells) (tree_at cells) (plan_at cells) → IsGoing before → to_run second.home after < to_run cells before
    less_than_before leave going =
        let less = less_to_run second.home twice after twice_workers twice_theirs twice_placed workers within went (subst (λ (g : Option Subject). LeaveLess (style_given g) (tree_given g) (plan_given g)) (sym its_given) leave) (twice_going going) in
        let one = told_left second.home main first before once (length before) told (between.workers.count ∙ ap (λ g. (protocol_given g).workers) (sym its_given)) in
        let two = told_left second.home first second once twice (length once) again (told.count ∙ between.workers.count ∙ ap (λ g. (protocol_given g).workers) (sym its_given)) in
        let same : to_run second.home before ≡ to_run cells before = ap (λ (g : Option Subject). left_of_all (protocol_given g).acts (λ p. place_in (slice_get before p)) (λ p. ended_in (slice_get before p)) (protocol_given g).workers) its_given in
        omega (arith, less, one, two, same)

-- ---- as the calls tell it

pub same_home : (cells : Home) (main : MainView) → main.home ≡ cells → IsSameTable main.home cells
same_home cells main home = (ap (λ (h : Home). h.table) home, ap (λ (h : Home). h.given) home)

pub starts_between : (cells : Home) (main first : MainView) (team : List (CachePadded WorkerView)) (n : ℕ) → AreWorkersOf cells team → first ≡ main_seat cells → main.home ≡ first.home → AreOut main → cells.known ≡ replicate n 0 → (protocol_at cells).workers ≡ n → IsBetween cells main team
starts_between cells main first team n workers is home out known many = record {
  workers = workers;
  home = home ∙ ap (λ (m : MainView). m.home) is;
  out = out;
  long = ap (λ (l : List ℕ). length l) known ∙ length-replicate n 0 ∙ sym (workers.count ∙ many);
}

module _ (cells next : Home) (main first second : MainView) (before once twice after : List (CachePadded WorkerView)) (between : IsBetween cells main before) (told : HasTold main first before once (length before)) (again : HasTold first second once twice (length once)) (renewed : next ≡ second.home) where
  pub next_workers : AreWorkersOf next twice
  next_workers = subst (λ (h : Home). AreWorkersOf h twice) (sym renewed) (twice_workers cells main first second before once twice between told again)

  module _ (workers : AreWorkersOf next after) (within : AreInside after) (went : WentAll twice after) where
    its_workers : AreWorkersOf second.home after
    its_workers = subst (λ (h : Home). AreWorkersOf h after) renewed workers

    pub round_between : IsBetween next second after
    round_between = subst (λ (h : Home). IsBetween h second after) (sym renewed) (still_between cells main first second before once twice between told again after its_workers within went)

    pub round_less : LeaveLess (style_at cells) (tree_at cells) (plan_at cells) → IsGoing before → to_run next after < to_run cells before
    round_less leave going = subst (λ (h : Home). to_run h after < to_run cells before) (sym renewed) (less_than_before cells main first second before once twice between told again after its_workers within went leave going)
