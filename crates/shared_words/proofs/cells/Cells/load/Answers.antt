use Rattle.std.proofs.Common.{List, ℕ, ◌<◌, sym, ◌∙◌, ap, subst, arith}
use Rattle.spmd_model.specs.Acts.{load}
use Rattle.shared_words.specs.declared.view.View.{View}
use Rattle.shared_words.specs.Words.{word_count}
use Rattle.shared_words.specs.Runs.{IsRunnable}
use Rattle.shared_words.specs.Homes.{CellView, Home, IsSeatOf, protocol_at, misses_of, plan_given, position_of, role_in, seen_of, style_given, tree_given}
use Rattle.shared_words.proofs.Keeps.{load_allowed}
use Rattle.shared_words.proofs.Calls.{stands, same, same_table, load_inside, its_laws, its_next, gone_seat, gone_here, loaded_here}
use Rattle.shared_words.proofs.cells.Cells.load.Goals as goal

pub load-requires : goal.load-requires
load-requires c =
    let s = c.seat.inside in
    let k = stands s.seat.table_id s.seat.me.0 s.processor s.all c.args.seat.now _ c.seat.invariant.0 c.seat.view_is (c.requires.own ∙ sym c.self.view_is) in
    let next = its_next k (load c.requires.next.0 c.args.cell) c.requires.next.1 in
    let inside = load_inside k (its_laws k c.self.invariant.laws) c.requires.next.0 c.args.cell next in
    let wide = c.self.invariant.words ∙ ap word_count (sym (same k)) in (
      same_table k,
      omega (arith, inside, wide),
      load_allowed c.self.inside.table.shared.key c.self.inside.table.shared.table_id.slots s.seat.id s.seat.me (its_laws k c.self.invariant.laws) s.processor (position_of (role_in s.seat.me.0)) (misses_of (role_in s.seat.me.0)) (seen_of (role_in s.seat.me.0)) c.seat.invariant.0.role c.requires.next.0 c.args.cell next inside,
    )

pub invariant_of-seat : goal.invariant_of-seat
invariant_of-seat c =
    let s = c.seat.inside in
    let k = stands s.seat.table_id s.seat.me.0 s.processor s.all c.args.seat.now _ c.seat.invariant.0 c.seat.view_is (c.requires.own ∙ sym c.self.view_is) in
    let new = c.load.ensures.2.0 in (
      subst (λ (x : View). IsSeatOf x s.processor s.all) (sym (ap (λ (x : View × List (ℕ × ℕ)). x.0) new)) (gone_seat s.seat.me.0 s.processor s.all s.all (load c.requires.next.0 c.args.cell) c.seat.invariant.0 (its_next k (load c.requires.next.0 c.args.cell) c.requires.next.1) (λ n is. is)),
      ap (λ (x : View × List (ℕ × ℕ)). x.1) new ∙ c.seat.invariant.1,
    )

pub returns : goal.returns
returns c =
    let s = c.seat.inside in
    let k = stands s.seat.table_id s.seat.me.0 s.processor s.all c.args.seat.now _ c.seat.invariant.0 c.seat.view_is (c.requires.own ∙ sym c.self.view_is) in
    let value = loaded_here k c.load.result c.cast_signed.result c.load.type_inv c.cast_signed.ensures c.load.ensures.2.1 in record {
      value = value;
      memory = λ place next.
          let v = c.args.seat.now in
          let run : IsRunnable (tree_given v.home.given) (plan_given v.home.given) = subst (λ (h : Home). IsRunnable (tree_given h.given) (plan_given h.given)) (c.self.view_is ∙ sym c.requires.own) c.self.invariant.runnable in
          let below = subst (λ (x : CellView). c.args.cell < (protocol_at x.home).cells) c.seat.view_is (load_inside k (its_laws k c.self.invariant.laws) c.requires.next.0 c.args.cell (its_next k (load c.requires.next.0 c.args.cell) c.requires.next.1)) in
          let of = c.loads_in_styles.ensures (style_given v.home.given) (tree_given v.home.given) (plan_given v.home.given) v.processor v.position place c.args.cell run.formed run.fits run.ranges run.ordered.stored below next in
          (of.0, of.1, of.2, value ∙ of.3);
      goes = gone_here k c.load.ensures.0 (ap (λ (x : View × List (ℕ × ℕ)). x.0) c.load.ensures.2.0);
    }
