-- What workers keep may go to other threads.
use denote.Ref.{NamedLft}
use denote.Param.Send.{IsSend, IsSync, array_send, recorded_send, struct_send, sendable}
use denote.Struct.Declared.{shape}
use Rattle.std.proofs.Crossing.{crosses}
use Rattle.nest_tree.proofs.Crosses.{Nest-sync, Item-sync, Program-sync}
use Rattle.nest_walk.proofs.trips.Trips.TheSendSync as trips
use Rattle.nest_walk.proofs.path.Path.TheSendSync as path
use Rattle.flat_code.proofs.table.CodeTable.TheSendSync as codes
use Rattle.flat_code.proofs.lines.Line.TheSendSync as line
use Rattle.sync_plan.proofs.plan.Plan.TheSendSync as plan
use Rattle.nest_walk.specs.contracts.cursor.Stop as Stop
use Rattle.nest_walk.specs.contracts.cursor.Cursor as Walks
use Rattle.nest_walk.specs.contracts.frame.Part as Part
use Rattle.nest_walk.specs.contracts.frame.Frame as Frame
use Rattle.nest_walk.specs.contracts.frame.Frames as Frames
use Rattle.nest_walk.specs.contracts.instances.Instances as Instances
use Rattle.nest_walk.specs.contracts.table.CellTable as CellTable
use Rattle.owner_partition.specs.contracts.phases.PhaseCursor as PhaseCursor
use Rattle.sync_plan.specs.contracts.plan.Plan as Plan
use Rattle.turns.specs.contracts.counters.CounterTurns as CounterTurns
use Rattle.instance_runs.specs.contracts.execute.Executor as Executor
use Rattle.instance_runs.proofs.progress.Progress.TheSendSync as progress
use Rattle.own_cells.proofs.cells.OwnCells.TheSendSync as own_cells
use Rattle.spmd_model.proofs.style.Style.TheSendSync as style
use Rattle.turns.specs.contracts.turns.Turns as Turns
use Rattle.fork_join.specs.contracts.cursor.Cursor as Cursors
use Rattle.fork_join.specs.contracts.stores.Stores as Stores
use Rattle.fork_join.specs.contracts.worker.Worker as Worker
use denote.Struct.Struct.{Struct}

pub Plan-sync : IsSync Plan.the_row
Plan-sync = plan.the_sync

pub CellTable-sync : IsSync CellTable.the_row
CellTable-sync = search (sendable, crosses) depth 20

Stop-send : (a : NamedLft) → IsSend (Stop.the_row a)
Stop-send a = let i = Item-sync in search (sendable, crosses) depth 20

Part-send : (a : NamedLft) → IsSend (Part.the_row a)
Part-send a = let i = Item-sync in search (sendable, crosses) depth 20

Frame-send : (a : NamedLft) → IsSend (Frame.the_row a)
Frame-send a = let i = Item-sync in search (sendable, crosses, Part-send, trips.the_send) depth 20

Frame-field-send : (a : NamedLft) → IsSend (Frame.the_field a).row
Frame-field-send a = let i = Item-sync in search (sendable, crosses, Part-send, trips.the_send) depth 20

Frames-field-send : (a : NamedLft) → IsSend (Frames.the_field a).row
Frames-field-send a = struct_send (shape (Frames.the_type a)) (array_send (Frame.the_field a).row 6 (Frame-field-send a), tt)

Part-field-send : (a : NamedLft) → IsSend (Part.the_field a).row
Part-field-send a = let i = Item-sync in search (sendable, crosses) depth 20

Walk-field-send : (a : NamedLft) → IsSend (Walks.the_field a).row
Walk-field-send a =
    struct_send (shape (Walks.the_type a)) (search (sendable, crosses, Program-sync) depth 20, (search (sendable, crosses) depth 20, (path.the_field_send, (Frames-field-send a, (Part-field-send a, tt)))))

Instances-field-send : (a : NamedLft) → IsSend (Instances.the_field a).row
Instances-field-send a = struct_send (shape (Instances.the_type a)) (Walk-field-send a, tt)

PhaseCursor-field-send : (a : NamedLft) → IsSend (PhaseCursor.the_field a).row
PhaseCursor-field-send a = struct_send (shape (PhaseCursor.the_type a)) (Walk-field-send a, (search (sendable, crosses) depth 20, (search (sendable, crosses, Stop-send) depth 20, tt)))

pub CounterTurns-field-send : (a : NamedLft) → IsSend (CounterTurns.the_field a).row
CounterTurns-field-send a =
    struct_send (shape (CounterTurns.the_type a)) (
      search (sendable, crosses, Program-sync) depth 20,
      (
        search (sendable, crosses, Plan-sync) depth 20,
        (
          search (sendable, crosses) depth 20,
          (
            PhaseCursor-field-send a,
            (
              Instances-field-send a,
              (search (sendable, crosses) depth 20, (search (sendable, crosses) depth 20, (search (sendable, crosses) depth 20, (search (sendable, crosses) depth 20, (search (sendable, crosses) depth 20, (search (sendable, crosses) depth 20, (search (sendable, crosses, Stop-send) depth 20, tt))))))),
            ),
          ),
        ),
      ),
    )

pub Executor-field-send : (a : NamedLft) → IsSend (Executor.the_field a).row
Executor-field-send a = let p = Program-sync in let t = CellTable-sync in search (sendable, crosses, codes.the_field_send, line.the_send, line.the_field_send) depth 20

pub Turns-field-send : (a : NamedLft) → IsSend (Turns.the_field a).row
Turns-field-send a =
    let n = Nest-sync in
    struct_send (shape (Turns.the_type a)) (
      search (sendable, crosses, Program-sync) depth 20,
      (
        search (sendable, crosses, Plan-sync) depth 20,
        (
          search (sendable, crosses) depth 20,
          (
            style.the_field_send,
            (
              CounterTurns-field-send a,
              (
                search (sendable, crosses) depth 20,
                (
                  search (sendable, crosses) depth 20,
                  (
                    search (sendable, crosses) depth 20,
                    (
                      own_cells.the_field_send,
                      (
                        search (sendable, crosses) depth 20,
                        (search (sendable, crosses) depth 20, (search (sendable, crosses) depth 20, (search (sendable, crosses) depth 20, (search (sendable, crosses) depth 20, (search (sendable, crosses) depth 20, tt))))),
                      ),
                    ),
                  ),
                ),
              ),
            ),
          ),
        ),
      ),
    )

Cursor-field-send : (a : NamedLft) → IsSend (Cursors.the_field a).row
Cursor-field-send a = struct_send (shape (Cursors.the_type a)) (Turns-field-send a, (search (sendable, crosses) depth 20, tt))

Stores-field-send : IsSend (Stores.the_field).row
Stores-field-send = search (sendable, crosses) depth 20

pub Worker-field-send : (a : NamedLft) → IsSend (Worker.the_field a).row
Worker-field-send a =
    struct_send (shape (Worker.the_type a)) (
      search (sendable, crosses) depth 20,
      (
        search (sendable, crosses, Program-sync) depth 20,
        (
          search (sendable, crosses, Plan-sync) depth 20,
          (
            search (sendable, crosses) depth 20,
            (
              Cursor-field-send a,
              (
                Executor-field-send a,
                (Stores-field-send, (search (sendable, crosses) depth 20, (search (sendable, crosses, progress.the_send) depth 20, tt))),
              ),
            ),
          ),
        ),
      ),
    )

pub Worker-send : (a : NamedLft) → IsSend (Worker.the_row a)
Worker-send a = recorded_send (Struct (shape (Worker.the_type a))) (Worker.the_type a).D (Worker.the_type a).to (Worker.the_type a).to_one (Worker-field-send a)
