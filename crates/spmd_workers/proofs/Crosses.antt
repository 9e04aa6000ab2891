-- What workers keep may go to other threads, and all of them may look at the table.
use denote.Ref.{NamedLft}
use denote.Param.Send.{IsSend, IsSync, sendable, struct_send}
use denote.Struct.Declared.{shape}
use Rattle.std.proofs.Crossing.{crosses}
use Rattle.atomic_table.proofs.send_lease.SendLease.TheSendSync as lease
use Rattle.atomic_table.proofs.shared.Shared.TheSendSync as shared
use Rattle.nest_tree.proofs.Crosses.{Program-sync}
use Rattle.spmd_model.proofs.style.Style.TheSendSync as style
use Rattle.fork_join.proofs.Crosses.{Executor-field-send, Plan-sync, Turns-field-send}
use Rattle.shared_words.proofs.cells.CellSeat.TheSendSync as seat
use Rattle.shared_words.specs.contracts.cells.Cells as Cells
use Rattle.spmd_workers.proofs.patience.Patience.TheSendSync as patience
use Rattle.spmd_workers.specs.contracts.walk.Walk as Walk
use Rattle.spmd_workers.specs.contracts.worker.Worker as Worker

pub Walk-field-send : (a : NamedLft) → IsSend (Walk.the_field a).row
Walk-field-send a =
    struct_send (shape (Walk.the_type a)) (
      search (sendable, crosses, seat.the_send) depth 20,
      (
        Turns-field-send a,
        (
          search (sendable, crosses) depth 20,
          (
            Executor-field-send a,
            (search (sendable, crosses) depth 20, (search (sendable, crosses, patience.the_field_send) depth 20, (search (sendable, crosses) depth 20, tt))),
          ),
        ),
      ),
    )

pub Worker-send : (a : NamedLft) → IsSend (Worker.the_row a)
Worker-send a = search (sendable, crosses, Walk-field-send) depth 20

pub Worker-field-send : (a : NamedLft) → IsSend (Worker.the_field a).row
Worker-field-send a = search (sendable, crosses, Walk-field-send) depth 20

pub Cells-sync : (a : NamedLft) → IsSync (Cells.the_row a)
Cells-sync a = search (sendable, crosses, Program-sync, Plan-sync, style.the_field_sync, style.the_sync, shared.the_sync, lease.the_sync) depth 60
