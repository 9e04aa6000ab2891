-- A piece of work more.
use Rattle.std.proofs.Common.{◌≡◌, ℕ, ◌+◌, ◌∷◌, arith}
use Rattle.std.proofs.lemmas.List.Elements.{All-cons}
use mathlib.Core.Logic.{∥∥₁_map}
use Rattle.plan_maker.specs.PlanWork.{IsPiece, IsPieceOf, PlanWorks, pairs_in, pairs_of}

pub one_more : (pairs more total : ℕ) → PlanWorks pairs → IsPieceOf more → total ≡ pairs + more → PlanWorks total
one_more pairs more total works (piece, is, counts) same = ∥∥₁_map works (λ w. record {
  pieces = piece ∷ w.pieces;
  each = All-cons IsPiece piece w.pieces is w.each;
  sum_is =
      let here : pairs_of piece ≡ more = counts in
      let rest : pairs_in w.pieces ≡ pairs = w.sum_is in
      let all : total ≡ pairs + more = same in
      let whole : pairs_of piece + pairs_in w.pieces ≡ total = omega arith in
      whole;
})
