use Rattle.std.proofs.Common.{◌≡◌, refl, subst, List, ℕ, sym, ◌∙◌, ap, arith}
use Rattle.atomic_table.specs.Seated.{TableId}
use Rattle.shared_words.specs.declared.roles.Role.{Role}
use Rattle.shared_words.specs.declared.roles.Role.TheVariants.{Main, Cell, Spent}
use Rattle.shared_words.specs.declared.roles.Stage.{Stage}
use Rattle.shared_words.specs.declared.view.View.{View}
use Rattle.shared_words.specs.declared.view.View.TheVariants.{Seated, Away}
use Rattle.shared_words.specs.Rule.{learnt, told}
use Rattle.shared_words.specs.Homes.{CellView, Home, MainView, at_place, home_of, main_in, main_view, position_of, processor_of, role_in}
use Rattle.shared_words.proofs.Seating.{learn_allowed, tell_allowed, told_role}
use Rattle.shared_words.proofs.cells.Cells.note.Goals as goal

pub split_seat-news-requires : goal.split_seat-news-requires
split_seat-news-requires c =
    let s = c.main.inside in let wide = c.self.invariant.words in (
      ap (λ (x : MainView). x.home.table) c.main.view_is ∙ c.requires.main.0 ∙ sym (ap (λ (h : Home). h.table) c.self.view_is),
      omega (arith, wide),
      tell_allowed c.self.inside.table.shared.key s.seat.id s.seat.me.0,
    )

pub join_seat-requires : goal.join_seat-requires
join_seat-requires c =
    let s = c.main.inside in let t = c.seat.inside in let wide = c.self.invariant.words in
    let mine = ap (λ (x : MainView). x.home.table) c.main.view_is ∙ c.requires.main.0 ∙ sym (ap (λ (h : Home). h.table) c.self.view_is) in
    let theirs = ap (λ (v : CellView). v.home.table) c.seat.view_is ∙ c.requires.seat.0 ∙ sym (ap (λ (h : Home). h.table) c.self.view_is) in
    let new = c.split_seat-news.result in let made = c.split_seat-news.ensures in (
      theirs,
      made.3 ∙ mine,
      ap (λ m. m.1) made.4,
      omega (arith, wide),
      learn_allowed c.self.inside.table.shared.key t.seat.id new.id t.seat.me.0 new.me.0 (ap (λ (x : View × List (ℕ × ℕ)). role_in x.0) made.4 ∙ told_role s.seat.me.0),
    )

pub split_seat-place-requires : goal.split_seat-place-requires
split_seat-place-requires c =
    let theirs = ap (λ (v : CellView). v.home.table) c.seat.view_is ∙ c.requires.seat.0 ∙ sym (ap (λ (h : Home). h.table) c.self.view_is) in
    let t = c.join_seat.new.seat in let wide = c.self.invariant.words in
    (c.join_seat.ensures.0 ∙ theirs, omega (arith, wide), tell_allowed c.self.inside.table.shared.key t.id t.me.0)

pub join_seat-requires-2 : goal.join_seat-requires-2
join_seat-requires-2 c =
    let mine = ap (λ (x : MainView). x.home.table) c.main.view_is ∙ c.requires.main.0 ∙ sym (ap (λ (h : Home). h.table) c.self.view_is) in
    let theirs = ap (λ (v : CellView). v.home.table) c.seat.view_is ∙ c.requires.seat.0 ∙ sym (ap (λ (h : Home). h.table) c.self.view_is) in
    let s = c.split_seat-news.new.seat in let new = c.split_seat-place.result in let t = c.join_seat.new.seat in let wide = c.self.invariant.words in
    let made = c.split_seat-place.ensures in (
      c.split_seat-news.ensures.0 ∙ mine,
      made.3 ∙ c.join_seat.ensures.0 ∙ theirs,
      ap (λ m. m.1) made.4,
      omega (arith, wide),
      learn_allowed c.self.inside.table.shared.key s.id new.id s.me.0 new.me.0 (ap (λ (x : View × List (ℕ × ℕ)). role_in x.0) made.4 ∙ told_role t.me.0),
    )

-- the main seat learns what a processor's seat has learnt of it and tells
learnt_twice : (id : TableId) (m s : View) (stages : List Stage) (p n misses seen : ℕ) → role_in m ≡ Main stages → role_in s ≡ Cell p n misses seen →
    main_view id (learnt m (told (learnt s (told m)))) ≡ main_in (at_place (processor_of (role_in s)) (position_of (role_in s)) (home_of id m)) (main_view id m)
learnt_twice id Away s stages p n misses seen main cell = let clash : Spent ≡ Main stages = main in absurd (cc)
learnt_twice id (Seated a b c k r) Away stages p n misses seen main cell = let clash : Spent ≡ Cell p n misses seen = cell in absurd (cc)
learnt_twice id (Seated a b c k r) (Seated a' b' c' k' q) stages p n misses seen main cell =
    let Is : Role → Role → Type 0 = λ r q. main_view id (learnt (Seated a b c k r) (told (learnt (Seated a' b' c' k' q) (told (Seated a b c k r))))) ≡ main_in (at_place (processor_of q) (position_of q) (home_of id (Seated a b c k r))) (main_view id (Seated a b c k r)) in
    subst (λ x. Is x q) (sym main) (subst (Is (Main stages)) (sym cell) refl)

pub returns-clause-main : goal.returns-clause-main
returns-clause-main c =
    let m = c.main.inside.seat in let s = c.seat.inside.seat in
    let news = c.split_seat-news.ensures in let place = c.split_seat-place.ensures in let last = c.join_seat-2.ensures in
    let first = λ (x : View × List (ℕ × ℕ)). x.0 in
    let learns = ap first c.join_seat.ensures.2 ∙ ap (λ v. learnt s.me.0 v) (ap first news.4) in
    let tells = ap first place.4 ∙ ap told learns in
    let view = ap first last.2 ∙ ap (λ v. learnt v c.split_seat-place.result.me.0) (ap first news.2) ∙ ap (learnt m.me.0) tells in
    ap (λ id. main_view id c.join_seat-2.new.seat.me.0) (last.0 ∙ news.0) ∙ ap (main_view m.table_id) view
    ∙ learnt_twice m.table_id m.me.0 s.me.0 _ _ _ _ _ c.main.invariant.0 c.seat.invariant.0.role
    ∙ ap (λ (v : CellView). main_in (at_place v.processor v.position (home_of m.table_id m.me.0)) (main_view m.table_id m.me.0)) c.seat.view_is
    ∙ ap (λ (x : MainView). main_in (at_place c.args.seat.now.processor c.args.seat.now.position x.home) x) c.main.view_is
