use Rattle.std.proofs.Common.{◌∷◌, ◌++◌, [], pos, get_or, w64, FitsSigned, to_z, of_z, if◌then◌else◌, length, ap, refl, ◌∙◌, inl, inr, arith, rules}
use Rattle.std.proofs.lemmas.Int.{to_z-of_z}
use Rattle.spmd_machine.specs.declared.processor.Processor.{Processor}
use Rattle.spmd_machine.proofs.Closings.{closing_begun, none_loaded, total_loaded}
use Rattle.spmd_machine.proofs.Ready.{kept_here}
use Rattle.spmd_machine.proofs.parts.Parts.load_total.Goals as goal

pub unwrap-requires : goal.unwrap-requires
unwrap-requires c =
    let m = c.args.self.now in
    let ready = c.requires.ready in
    let x = c.index_mut-processor.result.now in
    let read = c.index_mut-processor.ensures.value in
    let none = ap (λ (z : Processor). z.done) read ∙ c.requires.none x in
    let empty = none_loaded m ready c.args.p x c.requires.worker read c.args.place c.requires.next none in
    let room = (kept_here m ready c.args.p x x c.requires.worker read).room_to_close in
    c.push.ensures.succeeds (omega (arith, ap length empty, room))

pub returns : goal.returns
returns c =
    let m = c.args.self.now in
    let ready = c.requires.ready in
    let x = c.index_mut-processor.result.now in
    let read = c.index_mut-processor.ensures.value in
    let y : Processor = record { turns = x.turns; found = x.found; registers = c.push.new.self; place = x.place; done = 1; counter = x.counter; signal = x.signal; own = x.own } in
    let none = ap (λ (z : Processor). z.done) read ∙ c.requires.none x in
    let empty = none_loaded m ready c.args.p x c.requires.worker read c.args.place c.requires.next none in
    let begun = closing_begun m ready c.args.p x c.requires.worker read c.args.place c.requires.next in
    let room = (kept_here m ready c.args.p x x c.requires.worker read).room_to_close in
    let own = get_or x.own c.args.place (pos 0) in
    let fits : FitsSigned w64 own = search rules in
    let pushed = c.push.ensures.items ∙ ap (λ b. if b then x.registers.items ++ to_z w64 (of_z w64 own) ∷ [] else x.registers.items) (c.push.ensures.succeeds (omega (arith, ap length empty, room))) ∙ ap (λ l. l ++ to_z w64 (of_z w64 own) ∷ []) empty ∙ ap (λ v. v ∷ []) (to_z-of_z w64 own fits) in
    total_loaded m ready c.args.p x c.requires.worker read c.args.place c.requires.next y none empty
    (record {
      turns = refl;
      instance = refl;
      done = refl;
      closing = record { first_load = begun.first_load; first_element = begun.first_element; stage = inr (inl (refl, ap length pushed)) };
      capacity = c.push.ensures.capacity;
      counter = refl;
      signal = refl;
      own_cells = refl;
    }) pushed
