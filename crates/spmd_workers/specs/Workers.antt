-- What contracts see of a worker.
use Rattle.std.specs.Prelude.{ℕ, ◌≡◌, ◌≤◌, Bool, true, List, length, refl}
use Rattle.std.specs.Coded.{Coded, code_by, coded×, coded_ℕ, coded_bool, coded_list}
use Rattle.shared_words.specs.Calls.{IsEndedSeat}
use Rattle.shared_words.specs.Codes.{cell_view_code}
use Rattle.shared_words.specs.Homes.{CellView, Home, protocol_at, seat_in}
use Rattle.spmd_workers.specs.Places.{printed_behind}

-- its seat, the phase in front of which the join stands that it answered last, 0 where there is none, how many legs it has begun, what it has printed, and whether a leg has answered that it ended
pub record WorkerView : Type 0 where
  pub seat : CellView
  pub answered : ℕ
  pub legs : ℕ
  pub output : List ℕ
  pub ended : Bool

abbrev pub worker_code : Coded WorkerView
worker_code = code_by (CellView × (ℕ × (ℕ × (List ℕ × Bool))))
    (coded× cell_view_code (coded× coded_ℕ (coded× coded_ℕ
    (coded× (coded_list coded_ℕ) coded_bool))))
    (λ w. (w.seat, (w.answered, (w.legs, (w.output, w.ended)))))
    (λ x. record {
      seat = x.0;
      answered = x.1.0;
      legs = x.1.1.0;
      output = x.1.1.1.0;
      ended = x.1.1.1.1;
    }) (λ _. refl)

-- the same in another home
abbrev pub worker_in : Home → WorkerView → WorkerView
worker_in h w = record {
  seat = seat_in h w.seat;
  answered = w.answered;
  legs = w.legs;
  output = w.output;
  ended = w.ended;
}

-- no more than all acts of the seat's processor are done
abbrev pub IsInside : CellView → Type 0
IsInside v = v.position ≤ length ((protocol_at v.home).acts v.processor)

-- its processor has done all its acts, and it has printed all their lines
pub record IsOver (w : WorkerView) : Type 0 where
  pub ended : IsEndedSeat w.seat
  pub printed : w.output ≡ printed_behind w.seat w.seat.position

-- a worker of a table, of this processor
pub record IsWorkerOf (h : Home) (p : ℕ) (w : WorkerView) : Type 0 where
  pub home : w.seat.home ≡ h
  pub processor : w.seat.processor ≡ p

-- it is at its end where its leg has answered so
pub record IsPlaced (w : WorkerView) : Type 0 where
  pub inside : IsInside w.seat
  pub over : w.ended ≡ true → IsOver w
